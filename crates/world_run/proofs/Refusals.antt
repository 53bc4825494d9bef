-- A refused event leaves the world as it was, and prints nothing.
use Rattle.std.proofs.Common.{◌≡◌, ℕ, List, [], ◌∷◌, Bool, true, false, cond, Some, None}
use Rattle.std.proofs.Common.{Option, length, not, refl, sym, ap, subst, take, ◌∙◌, arith, inl}
use Rattle.std.specs.Prelude.{◌&&◌, nat_le}
use Rattle.std.proofs.lemmas.Bool.Decides.{nat_tests}
use Rattle.resp_value.specs.Tree.{Tree}
use Rattle.resp_value.specs.ValueTree.{value_of}
use Rattle.resp_value.specs.declared.value.Value.{Value}
use Rattle.resp_stream.specs.declared.fault.FaultPlace.{FaultPlace}
use Rattle.resp_stream.specs.Parse.{parse_values}
use Rattle.shared_cache.specs.declared.log.ClientCall.{ClientCall}
use Rattle.shared_cache.specs.declared.log.ClientCall.TheVariants as call
use Rattle.shared_cache.specs.declared.log.ClientMode.{ClientMode}
use Rattle.shared_cache.specs.declared.log.ClientRefusal.{ClientRefusal}
use Rattle.shared_cache.specs.declared.log.ClientRefusal.TheVariants as refusal
use Rattle.shared_cache.specs.declared.log.LogEntry.{LogEntry}
use Rattle.shared_cache.specs.declared.log.Wire.{Wire}
use Rattle.shared_cache.specs.declared.log.Wire.TheVariants.{Main, Side}
use Rattle.shared_cache.specs.declared.notices.Notice.{Notice}
use Rattle.shared_cache.specs.Log.{is_ended}
use Rattle.shared_cache.specs.Steps.{ClientTurn, answer_ask, client_step, command_number, getting}
use Rattle.shared_cache.specs.Steps.{is_log_full, judged, polling, read_number, refusing}
use Rattle.shared_cache.specs.Steps.{taking_out}
use Rattle.shared_cache.specs.Steps as steps
use Rattle.script_text.specs.declared.line.Line.{Line}
use Rattle.script_text.specs.declared.line.Line.TheVariants as line
use Rattle.server_links.specs.declared.fault.WorldFault.{WorldFault}
use Rattle.server_links.specs.declared.link.LinkMove.{LinkMove}
use Rattle.server_links.specs.declared.link.LinkMove.TheVariants as moves
use Rattle.server_links.specs.Directions.{is_queued}
use Rattle.server_links.specs.Faults.{IsRefusal}
use Rattle.server_links.specs.LinkEvent.{LinkEvent, Put, Over}
use Rattle.server_links.specs.LinksState.{LinksState}
use Rattle.server_links.specs.LinkSteps.{over, over_named, place_of, step}
use Rattle.server_links.specs.Moves.{all_bytes, move_of, moved, stopped_at}
use Rattle.server_links.specs.Outcome.{Outcome, and_then, does, stays, then_by, within}
use Rattle.server_links.specs.Session.{Session, session_at}
use Rattle.server_links.proofs.Refusals.{Unrefused, un_receive_all, un_send_all, un_serve_all}
use Rattle.world_run.specs.WorldState.{LinkEnd, MemberState, link_on}
use Rattle.world_run.specs.Members.{Seat, link_of, links_do, with_reader}
use Rattle.world_run.specs.ClientMoves.{bytes_of, fault_of, feed, flow, got, got_all, got_one}
use Rattle.world_run.specs.ClientMoves.{hang_up, hang_up_main, has_ended, next_read, out, read}
use Rattle.world_run.specs.ClientMoves.{read_values, receive, receive_bytes, receive_eof}
use Rattle.world_run.specs.ClientMoves.{refused_fault, rest_read, stop, take_out, turn}
use Rattle.world_run.proofs.Kept.{among_first, named_kept}
use Rattle.world_run.proofs.Links.{step_moved}
use Rattle.world_run.proofs.Places.{NamesKept, names_both, place_kept}

pub none : (f : WorldFault) → None ≡ Some f → IsRefusal f → ⊥
none f e r = absurd (let no : ⊥ = cc in no)

-- ---- a client at its end of a link, where nothing is refused

-- its link is there, and the one that its commands go on
pub record HasLinks (e : LinkEnd) (s : Seat) : Type 0 where
  pub own : place_of e.link s.links ≡ Some e.place
  pub main : place_of (link_on Main s.member.name) s.links ≡ Some s.member.main

pub record Sure (s : Seat) (m : Outcome Seat) : Type 0 where
  pub unrefused : Unrefused m
  pub names : NamesKept s.links m.state.links
  pub name : m.state.member.name ≡ s.member.name
  pub main : m.state.member.main ≡ s.member.main

has_then : (e : LinkEnd) (s : Seat) (m : Outcome Seat) → Sure s m → HasLinks e s
    → HasLinks e m.state
has_then e s m k h = record {
  own = place_kept e.link s.links m.state.links e.place k.names h.own;
  main = ap (λ n. place_of (link_on Main n) m.state.links) k.name
      ∙ place_kept (link_on Main s.member.name) s.links m.state.links s.member.main k.names h.main
      ∙ ap Some (sym k.main);
}

pub sure_then : (e : LinkEnd) (s : Seat) (m : Outcome Seat) (next : Seat → Outcome Seat)
    → HasLinks e s → Sure s m → ((t : Seat) → HasLinks e t → Sure t (next t))
    → Sure s (and_then m next)
unfolding and_then Unrefused
sure_then e s m next h k g =
    elim m.fault as (λ v. m.fault ≡ v → Sure s (then_by v m (next m.state))) [
      | Some f ↦ λ is. k
      | None ↦ λ is. (let n = g m.state (has_then e s m k h) in record {
        unrefused = n.unrefused;
        names = names_both s.links m.state.links (next m.state).state.links k.names n.names;
        name = n.name ∙ k.name;
        main = n.main ∙ k.main;
      })
    ] refl

sure_if : (s : Seat) (b : Bool) (m n : Outcome Seat) → Sure s m → Sure s n → Sure s (cond b m n)
sure_if s true m n p q = p
sure_if s false m n p q = q

-- the links are as they were
sure_here : (s new : Seat) (m : Outcome Seat) → m.state ≡ new → Unrefused m → new.links ≡ s.links
    → new.member.name ≡ s.member.name → new.member.main ≡ s.member.main → Sure s m
sure_here s new m is un same name main = grind arith

sure_stays : (s : Seat) → Sure s (stays s)
unfolding Unrefused
sure_stays s = sure_here s s (stays s) refl none refl refl refl

sure_does : (s new : Seat) (ls : List Line) → new.links ≡ s.links → new.member ≡ s.member
    → Sure s (does s new ls)
unfolding Unrefused
sure_does s new ls same member =
    sure_here s new (does s new ls) refl none same (ap (λ (m : MemberState). m.name) member)
    (ap (λ (m : MemberState). m.main) member)

-- ---- its links

named_sure : (event : LinkEvent) (s : Seat)
    → NamesKept s.links (step s.links event).state → Unrefused (step s.links event)
    → Sure s (links_do event s)
unfolding links_do within Unrefused
named_sure event s names un = record { unrefused = un; names = names; name = refl; main = refl }

over_names : (event : LinkEvent) (name : List ℕ) (w : LinksState)
    → step w event ≡ over_named (place_of name w) (move_of event) w
    → NamesKept w (step w event).state
over_names event name w is = record {
  size = subst (λ m. length m.state.links ≡ length w.links) (sym is)
      ((named_kept event w name (name ∷ []) (among_first name [])).all
      (over_named (place_of name w) (move_of event) w).state
      (over_named (place_of name w) (move_of event) w).lines (inl (refl, refl))).size;
  names = ((step_moved w event).all (step w event).state (step w event).lines
      (inl (refl, refl))).grows.names;
}

un_over : (event : LinkEvent) (name : List ℕ) (w : LinksState) (at : ℕ)
    → step w event ≡ over_named (place_of name w) (move_of event) w → place_of name w ≡ Some at
    → Unrefused (move_of event (session_at at w)) → Unrefused (step w event)
unfolding over within Unrefused
un_over event name w at is found un f e = grind arith

sure_put : (bytes name : List ℕ) (at : ℕ) (s : Seat) → place_of name s.links ≡ Some at
    → Sure s (links_do (Put name bytes) s)
unfolding step Unrefused
sure_put bytes name at s found =
    named_sure (Put name bytes) s (over_names (Put name bytes) name s.links refl)
    (un_over (Put name bytes) name s.links at refl found none)

sure_over : (move : LinkMove) (name : List ℕ) (at : ℕ) (s : Seat)
    → place_of name s.links ≡ Some at → Unrefused (moved move (session_at at s.links))
    → Sure s (links_do (Over name move) s)
unfolding step
sure_over move name at s found un =
    let event = Over name move in
    named_sure event s (over_names event name s.links refl)
    (un_over event name s.links at refl found un)

-- ---- turns

-- the client refuses, and no event is refused for it
unfoldable pub Never : ClientRefusal → Type 0
Never r = (f : WorldFault) → refused_fault r ≡ Some f → IsRefusal f → ⊥

pub never_down : (w : Wire) → Never (refusal.Down w)
unfolding Never
never_down w f e r = none f e r

pub never_full : (n : ℕ) → Never (refusal.LogFull n)
unfolding Never
never_full n h e r = grind arith

NeverBy : Option ClientRefusal → Type 0
NeverBy None = Unit {0}
NeverBy (Some r) = Never r

never_judged : (m : ClientMode) (w : Wire) (replied sent : ℕ) (v : Value) (n : Notice)
    → NeverBy (judged m w replied sent v n)
unfolding NeverBy Never
never_judged m w replied sent v n = grind arith

unfoldable pub NeverTurn : ClientTurn → Type 0
NeverTurn t = (f : WorldFault) → fault_of t.reply ≡ Some f → IsRefusal f → ⊥

never_if : (b : Bool) (x y : ClientTurn) → NeverTurn x → NeverTurn y → NeverTurn (cond b x y)
never_if b e y p q = grind (arith, nat_tests)

never_getting : (o : Option ClientRefusal) (w : Wire) (v : Value) (full : Bool)
    (log : List LogEntry)
    → NeverBy o → NeverTurn (getting o w v full log)
unfolding NeverBy Never NeverTurn
never_getting o w v full log n = grind arith

never_taking : (w : Wire) (most : ℕ) (bytes : List ℕ) (full : Bool) (log : List LogEntry)
    → NeverTurn (taking_out w most bytes full log)
unfolding Never NeverTurn
never_taking w most bytes full log = grind arith

sure_turn : (c : ClientCall) (e : LinkEnd) (s : Seat)
    → NeverTurn (client_step s.member.state.setup s.member.state.past c) → Sure s (turn c e s)
unfolding turn and_then Unrefused NeverTurn
sure_turn c e s n = grind arith

module _ (e : LinkEnd) where
  sure_got_turn : (v : Value) (s : Seat) → Sure s (turn (call.Got e.wire v) e s)
  unfolding client_step steps.fault_of Never NeverTurn
  sure_got_turn v s =
      let set = s.member.state.setup in
      let past = s.member.state.past in
      sure_turn (call.Got e.wire v) e s
      (never_if (is_ended set.mode e.wire past) (refusing (refusal.Down e.wire) past)
      (getting (steps.fault_of set past e.wire v) e.wire v (is_log_full set past) past)
      (never_down e.wire)
      (never_getting (steps.fault_of set past e.wire v) e.wire v (is_log_full set past) past
      (grind (arith, never_judged))))

  sure_end_turn : (s : Seat) → Sure s (turn (call.End e.wire) e s)
  unfolding client_step NeverTurn
  sure_end_turn s = sure_turn (call.End e.wire) e s none

  sure_take_turn : (most : ℕ) (s : Seat) → Sure s (turn (call.TakeOut e.wire most) e s)
  unfolding client_step Never NeverTurn
  sure_take_turn most s =
      let set = s.member.state.setup in
      let past = s.member.state.past in
      sure_turn (call.TakeOut e.wire most) e s
      (grind (arith, never_if, never_down, never_taking))

  -- ---- moves

  pub sure_take : (most : ℕ) (s : Seat) → HasLinks e s → Sure s (take_out most e s)
  unfolding take_out
  sure_take most s h =
      let t = client_step s.member.state.setup s.member.state.past (call.TakeOut e.wire most) in
      sure_then e s (turn (call.TakeOut e.wire most) e s) (links_do (Put e.link (bytes_of t.reply)))
      h (sure_take_turn most s) (λ u g. sure_put (bytes_of t.reply) e.link e.place u g.own)

  pub sure_out : (s : Seat) → HasLinks e s → Sure s (out None e s)
  sure_out s h =
      sure_if s (has_ended e.wire s) (stays s) (take_out all_bytes e s) (sure_stays s)
      (sure_take all_bytes s h)

  sure_got : (v : Value) (s : Seat) → Sure s (got v e s)
  sure_got v s =
      sure_if s (has_ended e.wire s) (stays s) (turn (call.Got e.wire v) e s) (sure_stays s)
      (sure_got_turn v s)

  sure_got_all : (ts : List Tree) (s : Seat) → HasLinks e s → Sure s (got_all ts e s)
  unfolding got_all got_one
  sure_got_all [] s h = sure_stays s
  sure_got_all (t ∷ ts) s h =
      sure_then e s (got_one t e s) (got_all ts e) h
      (sure_then e s (does s (next_read s) []) (got (value_of t) e) h
      (sure_does s (next_read s) [] refl refl) (λ u g. sure_got (value_of t) u))
      (sure_got_all ts)

  sure_stop : (place : Option FaultPlace) (s : Seat) → HasLinks e s → Sure s (stop place e s)
  sure_stop None s h = sure_stays s
  sure_stop (Some place) s h =
      let bad = line.Bad e.link place.number place.offset ∷ [] in
      sure_if s (has_ended e.wire s) (stays s) (and_then (does s s bad) (turn (call.End e.wire) e))
      (sure_stays s)
      (sure_then e s (does s s bad) (turn (call.End e.wire) e) h (sure_does s s bad refl refl)
      (λ u g. sure_end_turn u))

  sure_values : (s : Seat) → HasLinks e s → Sure s (read_values e s)
  unfolding read_values
  sure_values s h =
      let p = parse_values s.reader in
      sure_then e s (and_then (got_all p.items e s) (rest_read p.stream))
      (stop (stopped_at p.fault) e) h
      (sure_then e s (got_all p.items e s) (rest_read p.stream) h (sure_got_all p.items s h)
      (λ u g. sure_does u (with_reader u p.stream) [] refl refl))
      (sure_stop (stopped_at p.fault))

  sure_hang : (s : Seat) → HasLinks e s → Sure s (hang_up e s)
  unfolding Unrefused
  sure_hang s h =
      sure_if s (has_ended e.wire s) (links_do (Over e.link moves.HangUp) s) (stays s)
      (sure_over moves.HangUp e.link e.place s h.own none) (sure_stays s)

  sure_hang_main : (u : Wire) (before : Bool) (s : Seat) → HasLinks e s
      → Sure s (hang_up_main u before s)
  unfolding Unrefused
  sure_hang_main Main before s h = sure_stays s
  sure_hang_main Side before s h =
      let main = link_on Main s.member.name in
      sure_if s (not before && has_ended Main s) (links_do (Over main moves.HangUp) s) (stays s)
      (sure_over moves.HangUp main s.member.main s h.main none) (sure_stays s)

  un_enough : (n : ℕ) (x : Session) → nat_le n (length x.link.down.bytes) ≡ true
      → Unrefused (moved (moves.Recv (Some n)) x)
  unfolding Unrefused
  un_enough n h enough f e r = grind arith

  sure_bytes : (n : ℕ) (s : Seat) → HasLinks e s
      → nat_le n (length (link_of e s).down.bytes) ≡ true → Sure s (receive_bytes n e s)
  unfolding receive_bytes
  sure_bytes n s h enough =
      let piece = take n (link_of e s).down.bytes in
      sure_then e s (links_do (Over e.link (moves.Recv (Some n))) s)
      (λ t. and_then (feed piece t) (λ t. and_then (read_values e t) (hang_up e))) h
      (sure_over (moves.Recv (Some n)) e.link e.place s h.own
      (un_enough n (session_at e.place s.links) enough))
      (λ t g. sure_then e t (feed piece t) (λ t. and_then (read_values e t) (hang_up e)) g
      (sure_does t (feed piece t).state [] refl refl)
      (λ u k. sure_then e u (read_values e u) (hang_up e) k (sure_values u k) sure_hang))

  sure_eof : (s : Seat) → HasLinks e s → Sure s (receive_eof e s)
  unfolding receive_eof
  sure_eof s h =
      let q = is_queued (link_of e s).down.eof in
      sure_then e s (links_do (Over e.link (moves.Recv None)) s)
      (λ t. cond q (turn (call.End e.wire) e t) (stays t)) h
      (sure_over (moves.Recv None) e.link e.place s h.own
      (un_receive_all (session_at e.place s.links)))
      (λ t g. sure_if t q (turn (call.End e.wire) e t) (stays t) (sure_end_turn t) (sure_stays t))

  all_of_it : (n : ℕ) → nat_le n n ≡ true
  all_of_it n = grind (arith, nat_tests)

  sure_read : (s : Seat) → HasLinks e s → Sure s (read None e s)
  sure_read s h =
      let n = length (link_of e s).down.bytes in
      sure_if s (has_ended e.wire s) (stays s) (and_then (receive_bytes n e s) (receive_eof e))
      (sure_stays s)
      (sure_then e s (receive_bytes n e s) (receive_eof e) h (sure_bytes n s h (all_of_it n))
      sure_eof)

  pub sure_receive : (s : Seat) → HasLinks e s → Sure s (receive None e s)
  unfolding receive
  sure_receive s h =
      let before = has_ended Main s in
      sure_then e s (read None e s) (hang_up_main e.wire before) h (sure_read s h)
      (sure_hang_main e.wire before)

  -- where as much is there
  pub sure_part : (n : ℕ) (s : Seat) → HasLinks e s
      → nat_le n (length (link_of e s).down.bytes) ≡ true →
      Sure s (and_then (receive_bytes n e s) (hang_up_main e.wire (has_ended Main s)))
  sure_part n s h enough =
      let before = has_ended Main s in
      sure_then e s (receive_bytes n e s) (hang_up_main e.wire before) h (sure_bytes n s h enough)
      (sure_hang_main e.wire before)

  pub sure_flow : (s : Seat) → HasLinks e s → Sure s (flow e s)
  unfolding flow
  sure_flow s h =
      sure_then e s (out None e s)
      (λ s. and_then (links_do (Over e.link (moves.Serve None)) s)
      (λ s. and_then (links_do (Over e.link (moves.Send None)) s) (receive None e))) h
      (sure_out s h)
      (λ t g. sure_then e t (links_do (Over e.link (moves.Serve None)) t)
      (λ s. and_then (links_do (Over e.link (moves.Send None)) s) (receive None e)) g
      (sure_over (moves.Serve None) e.link e.place t g.own
      (un_serve_all (session_at e.place t.links)))
      (λ u k. sure_then e u (links_do (Over e.link (moves.Send None)) u) (receive None e) k
      (sure_over (moves.Send None) e.link e.place u k.own
      (un_send_all (session_at e.place u.links)))
      sure_receive))
