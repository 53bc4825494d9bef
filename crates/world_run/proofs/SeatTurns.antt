-- A turn of a client in a world, and what it reads and prints.
use Rattle.std.proofs.Common.{◌≡◌, ℕ, List, [], ◌++◌, None, Option, map, refl, sym}
use Rattle.std.proofs.Common.{ap, subst, append-nil, ◌∙◌, inl, inr, arith}
use Rattle.resp_value.specs.Lists.{IsPrefix}
use Rattle.resp_value.specs.ValueTree.{tree_of}
use Rattle.resp_stream.specs.Parse.{values_of}
use Rattle.resp_stream.specs.Stream.{Stream}
use Rattle.serial_model.specs.declared.history.Limits.{Limits}
use Rattle.shared_cache.specs.declared.log.ClientCall.{ClientCall}
use Rattle.shared_cache.specs.declared.log.ClientCall.TheVariants as call
use Rattle.shared_cache.specs.declared.log.ClientRefusal.{ClientRefusal}
use Rattle.shared_cache.specs.declared.log.ClientReply.{ClientReply}
use Rattle.shared_cache.specs.declared.log.LogEntry.{LogEntry}
use Rattle.shared_cache.specs.declared.log.Wire.{Wire}
use Rattle.shared_cache.specs.Laws.{gots, AsksQuery, IsCall}
use Rattle.shared_cache.specs.Steps.{client_step}
use Rattle.currency.specs.Links.{IsCausal, Meet}
use Rattle.script_text.specs.declared.line.Line.{Line}
use Rattle.server_links.specs.declared.fault.WorldFault.{WorldFault}
use Rattle.server_links.specs.OneHistory.{read_on}
use Rattle.server_links.specs.Outcome.{and_then, does, stays, refuses}
use Rattle.server_links.proofs.LinksStand.{stands_part}
use Rattle.server_links.proofs.Outcomes.{Meets, meets_does, meets_refuses, meets_stays}
use Rattle.world_run.specs.WorldState.{LinkEnd, MemberState, WorldState, client_at}
use Rattle.world_run.specs.WorldState.{end_at}
use Rattle.world_run.specs.Members.{Seat, client_of, seat_at, with_log, with_reader, with_seat}
use Rattle.world_run.specs.MemberTurns.{Turned}
use Rattle.world_run.specs.ClientMoves.{answers, fault_of, lines_of, turn, refused_lines, ask_lines}
use Rattle.world_run.specs.ClientMoves.{send_lines, poll_lines, got_lines, ending_lines}
use Rattle.world_run.specs.WorldHistory.{taken_bytes}
use Rattle.world_run.proofs.Causal.{causal_log}
use Rattle.world_run.proofs.Links.{Mute}
use Rattle.world_run.proofs.Members.{EndPart, runs_within}
use Rattle.world_run.proofs.SeatMoves.{changed_holds, changed_part}
use Rattle.world_run.proofs.Seats.{IsEnd, One, OtherKept, Plain, Seating, Working, by_place}
use Rattle.world_run.proofs.Seats.{end_turned, member_turned}
use Rattle.world_run.proofs.Turns.{IsHere, here_apart, turn_adds, turn_keeps, turn_legal}
use Rattle.world_run.proofs.Worlds.{Holds, WorldPart, meet_by}

-- ---- what a client prints

pub plain_none : Plain []
unfolding Mute
plain_none = record { no_entry = refl; mute = λ n. refl }

plain_refused : (name : List ℕ) (r : ClientRefusal) → Plain (refused_lines name r)
unfolding Mute
plain_refused name r = grind arith

plain_ask : (s : Seat) (q : List (List ℕ)) (r : ClientReply) → Plain (ask_lines s q r)
unfolding Mute
plain_ask s q r = grind (arith, plain_refused)

plain_send : (s : Seat) (r : ClientReply) → Plain (send_lines s r)
unfolding Mute
plain_send s r = grind (arith, plain_refused)

plain_poll : (s : Seat) (k : ℕ) (r : ClientReply) → Plain (poll_lines s k r)
unfolding Mute
plain_poll s k r = grind (arith, plain_refused)

plain_ending : (name : List ℕ) (r : ClientRefusal) → Plain (ending_lines name r)
unfolding Mute
plain_ending name r = grind arith

plain_got : (e : LinkEnd) (r : ClientReply) → Plain (got_lines e r)
unfolding Mute
plain_got e r = grind (arith, plain_ending)

pub plain_lines : (e : LinkEnd) (s : Seat) (c : ClientCall) (r : ClientReply)
    → Plain (lines_of e s c r)
plain_lines e s (call.Ask q) r = plain_ask s q r
plain_lines e s (call.Send ws) r = plain_send s r
plain_lines e s (call.Poll n) r = plain_poll s n r
plain_lines e s (call.Got w v) r = plain_got e r
plain_lines e s c r = plain_none

-- ---- what is done, and then perhaps a fault

answered : (Q W : Seat → List Line → Type 0) (s t : Seat) (ls : List Line) (f : Option WorldFault)
    → W s [] → W t [] → W t ls → (f ≡ None → Q t ls)
    → Meets Q W (and_then (does s t []) (answers ls f))
unfolding and_then
answered Q W s t ls f ws wt wl q = grind arith

unchanged : (m : MemberState) → Turned m m
unchanged m = record { name = refl; main = refl; side = refl; setup = refl }

none_other : (u : Wire) (m : MemberState) → OtherKept u m m
none_other u m = record { gots_are = refl; going = λ on. on; taken_is = refl }

module _ (l : Limits) (heard : ℕ → List ℕ) (raw : List ℕ → List ℕ) (at : ℕ) (R : Working)
    (lines : List Line) (w : WorldState)
    (h : Holds l heard raw (Seating at [] R) lines w) (below : IsEnd at w) where
  abbrev pub At : MemberState
  At = client_at w at

  -- its end there, and what was read by it
  abbrev pub Own : LinkEnd
  Own = (end_at w.ends at).end

  abbrev pub Came : List ℕ
  Came = read_on Own.link lines

  pub old_part : EndPart w.links Came Own At
  old_part = ((h.each at below.0).0 refl).0

  old_taken : h.said Own.link ++ [] ≡ taken_bytes Own.wire At
  old_taken = ((h.each at below.0).0 refl).1

  pub old_works : R w.links Came (end_at w.ends at) At
  old_works = ((h.each at below.0).0 refl).2

  pub old_meets : Meet w.links.limits (client_of At) w.links.past At.state.past
  old_meets =
      meet_by l h.said lines w (stands_part l heard h.said lines w.links h.links) h.ends
      (λ k lt. let e = (end_at w.ends k).end in
      by_place (EndPart w.links (read_on e.link lines) e (client_at w k)) k at
      (λ i. ((h.each k lt).0 i).0) (λ n. ((h.each k lt).1 n).0))
      (λ k lt. let e = (end_at w.ends k).end in
      by_place (IsPrefix (h.said e.link) (taken_bytes e.wire (client_at w k))) k at
      (λ i. ([], ((h.each k lt).0 i).1))
      (λ n. ([], append-nil (h.said e.link) ∙ ((h.each k lt).1 n).1)))
      Own.client below.1

  -- as it is, but for its reader
  reader_part : (reader : Stream) (ls : List Line) → Plain ls
      → WorldPart l raw (lines ++ ls) (with_seat at w (with_reader (seat_at at w) reader))
  reader_part reader ls plain =
      changed_part l heard raw at [] [] R R lines w h below At reader (unchanged At) old_part
      old_taken (λ u n. none_other u At) ls plain

  reader_holds : (reader : Stream) (Q : Working) (ls : List Line) → Plain ls
      → (R w.links Came (end_at w.ends at) At
      → Q w.links Came (record { end = Own; reader = reader }) At)
      → Holds l heard raw (Seating at [] Q) (lines ++ ls)
      (with_seat at w (with_reader (seat_at at w) reader))
  reader_holds reader Q ls plain f =
      changed_holds l heard raw at [] [] R Q lines w h below At reader (unchanged At) old_part
      old_taken (λ u n. none_other u At) ls plain (f old_works)

  still : WorldPart l raw (lines ++ []) (with_seat at w (seat_at at w))
  still = reader_part (end_at w.ends at).reader [] plain_none

  pub one_stays : (Q : Working) → (R w.links Came (end_at w.ends at) At
      → Q w.links Came (end_at w.ends at) At)
      → One l raw at (λ ls u. Holds l heard raw (Seating at [] Q) ls u) lines w
      (stays (seat_at at w))
  one_stays Q f =
      meets_stays _ _ (seat_at at w)
      (reader_holds (end_at w.ends at).reader Q [] plain_none f)
      still

  pub one_refuses : (Q : List Line → WorldState → Type 0) (f : WorldFault)
      → One l raw at Q lines w (refuses (seat_at at w) f)
  one_refuses Q f = meets_refuses _ _ (seat_at at w) f still

  pub one_prints : (ls : List Line) → Plain ls
      → One l raw at (λ ls u. Holds l heard raw (Seating at [] R) ls u) lines w
      (does (seat_at at w) (seat_at at w) ls)
  one_prints ls plain =
      meets_does _ _ (seat_at at w) (seat_at at w) ls
      (reader_holds (end_at w.ends at).reader R ls plain (λ r. r))
      still (reader_part (end_at w.ends at).reader ls plain)

  -- the reader changes
  pub one_reader : (reader : Stream) (Q : Working) → (R w.links Came (end_at w.ends at) At
      → Q w.links Came (record { end = Own; reader = reader }) At)
      → One l raw at (λ ls u. Holds l heard raw (Seating at [] Q) ls u) lines w
      (does (seat_at at w) (with_reader (seat_at at w) reader) [])
  one_reader reader Q f =
      meets_does _ _ (seat_at at w) (with_reader (seat_at at w) reader) []
      (reader_holds reader Q [] plain_none f) still (reader_part reader [] plain_none)

  -- a turn
  module _ (c : ClientCall) (is_call : IsCall At.state.setup.mode c) (asks : AsksQuery c)
      (here : IsHere Own.wire c) (pend : List ℕ) where
    abbrev pub new_log : List LogEntry
    new_log = (client_step At.state.setup At.state.past c).past

    abbrev pub turned : MemberState
    turned = (with_log (seat_at at w) new_log).member

    but_log : Turned At turned
    but_log = record { name = refl; main = refl; side = refl; setup = refl }

    turned_others : (u : Wire) → (u ≡ Own.wire → ⊥) → OtherKept u At turned
    turned_others u n =
        let k = turn_keeps At.state.setup u At.state.past c old_part.member.legal is_call asks
        (here_apart Own.wire u c here n) in
        record { gots_are = k.gots_are; going = k.going; taken_is = k.taken_is }

    module _ (takes : taken_bytes Own.wire turned ≡ taken_bytes Own.wire At ++ pend)
        (gets : IsPrefix (map tree_of (gots Own.wire At.state.past)) (values_of Came)
        → R w.links Came (end_at w.ends at) At
        → IsPrefix (map tree_of (gots Own.wire new_log)) (values_of Came))
      where
        turned_causal : IsCausal w.links.limits (client_of At) w.links.past new_log
        turned_causal =
            let P = IsCausal w.links.limits (client_of At) w.links.past in
            elim (turn_adds At.state.setup At.state.past c is_call) [
              | inl same ↦ subst P (sym same) old_part.member.causal
              | inr more ↦ subst P (sym more.1)
                  (causal_log w.links.limits (client_of At) w.links.past more.0 At.state.past
                  (runs_within w.links.limits (client_of At) w.links.past At.state.past old_meets)
                  old_part.member.causal)
            ]

        turned_part : EndPart w.links Came Own turned
        turned_part =
            end_turned w.links Came Own At turned but_log
            (member_turned w.links At turned but_log
            (turn_legal At.state.setup At.state.past c is_call asks old_part.member.legal)
            turned_causal old_part.member)
            (gets old_part.got old_works) old_part

        turned_taken : h.said Own.link ++ pend ≡ taken_bytes Own.wire turned
        turned_taken =
            ap (λ x. x ++ pend) (sym (append-nil (h.said Own.link)) ∙ old_taken) ∙ sym takes

        -- wherever the turn comes to
        turn_part : (log : List Line) → Plain log
            → WorldPart l raw (lines ++ log) (with_seat at w (with_log (seat_at at w) new_log))
        turn_part log plain =
            changed_part l heard raw at [] pend R R lines w h below turned (end_at w.ends at).reader
            but_log turned_part turned_taken turned_others log plain

        pub one_turn : (Q : Working)
            → (fault_of (client_step At.state.setup At.state.past c).reply ≡ None
            → R w.links Came (end_at w.ends at) At
            → Q w.links Came (end_at w.ends at) turned)
            → One l raw at (λ ls u. Holds l heard raw (Seating at pend Q) ls u) lines w
            (turn c Own (seat_at at w))
        unfolding turn
        one_turn Q keeps =
            let s = seat_at at w in
            let t = client_step At.state.setup At.state.past c in
            let p = plain_lines Own s c t.reply in
            answered _ _ s (with_log s t.past) (lines_of Own s c t.reply) (fault_of t.reply) still
            (turn_part [] plain_none) (turn_part (lines_of Own s c t.reply) p)
            (λ none. changed_holds l heard raw at [] pend R Q lines w h below turned
            (end_at w.ends at).reader but_log turned_part turned_taken turned_others
            (lines_of Own s c t.reply) p (keeps none old_works))

-- what follows of the client at work
pub works_as : (l : Limits) (heard : ℕ → List ℕ) (raw : List ℕ → List ℕ) (at : ℕ) (R Q : Working)
    (lines : List Line) (w : WorldState) → Holds l heard raw (Seating at [] R) lines w
    → (let e = end_at w.ends at in
    R w.links (read_on e.end.link lines) e (client_at w at)
    → Q w.links (read_on e.end.link lines) e (client_at w at))
    → Holds l heard raw (Seating at [] Q) lines w
works_as l heard raw at R Q lines w h f = record {
  said = h.said;
  links = h.links;
  each = λ k lt.
      let p = h.each k lt in (
        λ i. (
          (p.0 i).0,
          (p.0 i).1,
          subst (λ j. let e = end_at w.ends j in
              R w.links (read_on e.end.link lines) e (client_at w j)
              → Q w.links (read_on e.end.link lines) e (client_at w j)) (sym i) f (p.0 i).2,
        ),
        p.1,
      );
  clients = h.clients;
  ends = h.ends;
  distinct = h.distinct;
  rest = h.rest;
}
