-- What a turn of a client comes to in the code.
use Rattle.std.proofs.Common.{◌≡◌, ◌+◌, ℕ, List, [], ◌∷◌, ◌++◌, Bool, true, false, cond, length}
use Rattle.std.proofs.Common.{Some, None, refl, sym, ap, subst, ◌∙◌, arith, ◌≤◌, append-nil}
use Rattle.std.proofs.Common.{length-append, Result, Ok, Err}
use Rattle.resp_stream.specs.Stream.{begun}
use Rattle.resp_value.specs.declared.value.Value.{Value}
use Rattle.shared_cache.specs.declared.log.Wire.{Wire}
use Rattle.shared_cache.specs.declared.log.Wire.TheVariants.{Main, Side}
use Rattle.shared_cache.specs.declared.log.LogEntry.{LogEntry}
use Rattle.shared_cache.specs.declared.log.LogEntry.TheVariants as entry
use Rattle.shared_cache.specs.declared.log.ClientCall.{ClientCall}
use Rattle.shared_cache.specs.declared.log.ClientCall.TheVariants as call
use Rattle.shared_cache.specs.declared.log.ClientReply.{ClientReply}
use Rattle.shared_cache.specs.declared.log.ClientReply.TheVariants.{Hit, Sent, NotYet, Answer}
use Rattle.shared_cache.specs.declared.log.ClientReply.TheVariants.{Bytes, Quiet, Noted, Refused}
use Rattle.shared_cache.specs.declared.log.ClientRefusal.{ClientRefusal}
use Rattle.shared_cache.specs.ClientFields.{Client}
use Rattle.shared_cache.specs.Held.{Setup, Words}
use Rattle.shared_cache.specs.Laws.{gots}
use Rattle.shared_cache.specs.Log.{is_ended, is_wire}
use Rattle.shared_cache.specs.Steps.{ClientTurn, MayRunOut, client_step}
use Rattle.script_text.specs.declared.line.Line.{Line}
use Rattle.server_links.specs.declared.fault.WorldFault.{WorldFault}
use Rattle.server_links.specs.declared.fault.WorldFault.TheVariants as fault
use Rattle.server_links.specs.LinksState.{LinksState}
use Rattle.server_links.specs.Outcome.{Outcome, Reached, Stops, and_then, does}
use Rattle.server_links.proofs.Outcomes.{Ends, after_ends, after_stops, gives_reached, stops_first}
use Rattle.server_links.proofs.Outcomes.{stops_here}
use Rattle.world_run.specs.WorldState.{LinkEnd, MemberState, fresh_end}
use Rattle.world_run.specs.Members.{Seat, log_of, seat, setup_of, with_log}
use Rattle.world_run.specs.ClientMoves.{answers, fault_of, lines_of, refused_fault, turn}
use Rattle.world_run.specs.MemberTurns.{IsNoValue, TurnGives, Turned}
use Rattle.world_run.specs.declared.member.Member.TheInside.{Inside}

-- ---- the log after a step

module _ (P : List LogEntry → Type 0) (s : Setup) (log : List LogEntry) (same : P log) where
  Q : ClientTurn → Type 0
  Q t = P t.past

  pub ask_past : (q : Words) → P (entry.Ask q ∷ log) → P (client_step s log (call.Ask q)).past
  unfolding client_step Q
  ask_past q one = grind arith

  send_past : (ws : Words) → P (entry.Send ws ∷ log) → P (client_step s log (call.Send ws)).past
  unfolding client_step Q
  send_past ws one = grind arith

  poll_past : (n : ℕ) → P (entry.Poll n ∷ log) → P (client_step s log (call.Poll n)).past
  unfolding client_step Q
  poll_past n one = grind arith

  take_past : (w : Wire) (most : ℕ) → P (entry.TakeOut w most ∷ log)
      → P (client_step s log (call.TakeOut w most)).past
  unfolding client_step Q
  take_past w most one = grind arith

  by_end : (w : Wire) (b : Bool) → P (entry.End w ∷ log) → P (cond b log (entry.End w ∷ log))
  by_end w b one = grind arith

  end_past : (w : Wire) → P (entry.End w ∷ log) → P (client_step s log (call.End w)).past
  unfolding client_step
  end_past w one = by_end w (is_ended s.mode w log) one

-- no value is got
pub gots_kept : (u : Wire) (s : Setup) (log : List LogEntry) (c : ClientCall) → IsNoValue c
    → gots u (client_step s log c).past ≡ gots u log
gots_kept u s log (call.Ask q) h = ask_past (λ p. gots u p ≡ gots u log) s log refl q refl
gots_kept u s log (call.Send ws) h = send_past (λ p. gots u p ≡ gots u log) s log refl ws refl
gots_kept u s log (call.Poll n) h = poll_past (λ p. gots u p ≡ gots u log) s log refl n refl
gots_kept u s log (call.TakeOut w n) h =
    take_past (λ p. gots u p ≡ gots u log) s log refl w n refl
gots_kept u s log (call.Got w v) h = absurd h
gots_kept u s log (call.End w) h = end_past (λ p. gots u p ≡ gots u log) s log refl w refl

-- what becomes of a value
unfoldable pub GotPast : Wire → List LogEntry → Value → ClientReply → List LogEntry → Type 0
GotPast w log v Noted new = new ≡ entry.Got w v ∷ log
GotPast w log v (Refused r) new = (u : Wire) → gots u new ≡ gots u log
GotPast w log v (Hit x n) new = ⊥
GotPast w log v (Sent n) new = ⊥
GotPast w log v NotYet new = ⊥
GotPast w log v (Answer x) new = ⊥
GotPast w log v (Bytes b) new = ⊥
GotPast w log v Quiet new = ⊥

pub got_past : (w : Wire) (s : Setup) (log : List LogEntry) (v : Value) (reply : ClientReply)
    (new : List LogEntry) → client_step s log (call.Got w v)
    ≡ record { reply = reply; past = new } → GotPast w log v reply new
unfolding GotPast client_step
got_past w s log v reply new is = grind arith

pub got_more : (w : Wire) (log new : List LogEntry) (v : Value) → GotPast w log v Noted new
    → (length (gots w new) ≡ length (gots w log) + 1) × (length new ≡ length log + 1)
unfolding GotPast
got_more Main log new v is = grind (arith, length-append)
got_more Side log new v is = grind (arith, length-append)

pub got_same : (w : Wire) (log new : List LogEntry) (v : Value) (r : ClientRefusal)
    → GotPast w log v (Refused r) new → (u : Wire) → gots u new ≡ gots u log
unfolding GotPast
got_same w log new v r is = is

got_one : (b : Bool) (vs : List Value) (v : Value)
    → length (cond b (vs ++ v ∷ []) vs) ≤ length vs + 1
got_one b vs v = grind (arith, length-append)

-- fewer are got than there are entries
pub gots_within : (w : Wire) (log : List LogEntry) → length (gots w log) ≤ length log
gots_within w [] = omega arith
gots_within w (entry.Got u v ∷ log) =
    let r = gots_within w log in
    let o = got_one (is_wire u w) (gots w log) v in
    omega (arith, r, o)
gots_within w (e ∷ log) = let r = gots_within w log in omega (arith, r)

-- an end takes no memory
pub ends_always : (w : Wire) (s : Setup) (log : List LogEntry) → MayRunOut s log (call.End w) → ⊥
unfolding client_step
ends_always w s log m =
    elim (is_ended s.mode w log) as (λ b. cond b log (entry.End w ∷ log) ≡ m.0 ∷ log → ⊥) [
      | true ↦ λ e. let n = ap length e in absurd (let no : ⊥ = omega (arith, n) in no)
      | false ↦ grind arith
    ] m.2

-- ---- faults of an answer

not_memory : (r : ClientRefusal) → refused_fault r ≡ Some fault.NoMemory → ⊥
not_memory r e = grind arith

no_memory : (r : ClientReply) → fault_of r ≡ Some fault.NoMemory → ⊥
no_memory r e = grind (arith, not_memory)

by_call : (o : LinkEnd) (s : Seat) (c : ClientCall) (r : ClientRefusal) (f : WorldFault)
    → refused_fault r ≡ Some f → lines_of o s c (Refused r) ≡ []
by_call o s c r f e = grind arith

pub stops_by : {S : Type 0} → (m : Outcome S) (f : WorldFault) (t : S) (lines : List Line)
    → (f ≡ fault.NoMemory → ⊥) → m.fault ≡ Some f → t ≡ m.state → m.lines ≡ []
    → Stops m lines f t lines
stops_by m f t lines has e is none = grind (arith, append-nil)

-- ---- a turn and its lines

-- a client by its fields
abbrev pub seen : Inside → MemberState
seen i = record {
  name = i.name;
  main = i.main;
  side = i.side;
  state = i.state;
}

pub turned_is : (s : Seat) (m : MemberState) → Turned s.member m
    → seat s.links m s.reader ≡ with_log s m.state.past
turned_is s m t = grind arith

pub turned_like : (i old : MemberState) (new : Client) → i ≡ old → new.setup ≡ i.state.setup
    → Turned old (record i { state = new })
turned_like i old new e setup = grind arith

pub step_like : (i old : MemberState) (c : ClientCall) (reply : ClientReply)
    (past : List LogEntry) → i ≡ old
    → client_step i.state.setup i.state.past c ≡ record { reply = reply; past = past }
    → client_step old.state.setup old.state.past c ≡ record { reply = reply; past = past }
step_like i old c reply past e is = grind arith

-- an end is noted
pub end_fault : (w : Wire) (s : Setup) (log past : List LogEntry) (reply : ClientReply)
    → client_step s log (call.End w) ≡ record { reply = reply; past = past }
    → fault_of reply ≡ None
unfolding client_step
end_fault w s log past reply is = ap (λ (t : ClientTurn). fault_of t.reply) (sym is)

-- no other answer comes to a value
pub got_other : (w : Wire) (log new : List LogEntry) (v : Value) (reply : ClientReply)
    → GotPast w log v reply new → (reply ≡ Noted → ⊥)
    → ((r : ClientRefusal) → reply ≡ Refused r → ⊥) → ⊥
unfolding GotPast
got_other w log new v reply g has others = grind arith

module _ (e : LinkEnd) (s : Seat) (c : ClientCall) where
  pub turn_before : (lines : List Line) → Stops (turn c e s) lines fault.NoMemory s lines
  unfolding turn
  turn_before lines =
      let t = client_step (setup_of s) (log_of s) c in
      let m = does s (with_log s t.past) [] in
      stops_first m _ lines fault.NoMemory s lines (stops_here m s lines refl)

  module _ (m : MemberState) (reply : ClientReply) (like : Turned s.member m)
      (is : client_step (setup_of s) (log_of s) c
      ≡ record { reply = reply; past = m.state.past }) where
    there : seat s.links m s.reader ≡ with_log s (client_step (setup_of s) (log_of s) c).past
    there = turned_is s m like ∙ ap (λ (t : ClientTurn). with_log s t.past) (sym is)

    pub turn_after : (lines lines' : List Line) → lines' ≡ lines
        → Stops (turn c e s) lines fault.NoMemory (seat s.links m s.reader) lines'
    unfolding turn
    turn_after lines lines' same =
        let t = client_step (setup_of s) (log_of s) c in
        let n = seat s.links m s.reader in
        let next = answers (lines_of e s c t.reply) (fault_of t.reply) in
        subst (λ l. Stops (turn c e s) lines fault.NoMemory n l) (sym same)
        (after_stops (does s (with_log s t.past) []) next lines n lines fault.NoMemory n lines
        (refl, there, sym (append-nil lines))
        (stops_here (next n) n lines refl))

    pub turn_ends : (lines lines' : List Line) → fault_of reply ≡ None
        → lines' ≡ lines ++ lines_of e s c reply
        → Ends (turn c e s) lines (seat s.links m s.reader) lines'
    unfolding turn
    turn_ends lines lines' none is_all =
        let t = client_step (setup_of s) (log_of s) c in
        let n = seat s.links m s.reader in
        let next = answers (lines_of e s c t.reply) (fault_of t.reply) in
        after_ends (does s (with_log s t.past) []) next lines n lines n lines'
        (refl, there, sym (append-nil lines)) (
          ap (λ (t : ClientTurn). fault_of t.reply) is ∙ none,
          refl,
          is_all ∙ ap (λ (t : ClientTurn). lines ++ lines_of e s c t.reply) (sym is),
        )

    pub turn_stops : (lines : List Line) (f : WorldFault) → fault_of reply ≡ Some f
        → Stops (turn c e s) lines f (seat s.links m s.reader) lines
    unfolding turn
    turn_stops lines f is_fault =
        let t = client_step (setup_of s) (log_of s) c in
        let n = seat s.links m s.reader in
        let next = answers (lines_of e s c t.reply) (fault_of t.reply) in
        after_stops (does s (with_log s t.past) []) next lines n lines f n lines
        (refl, there, sym (append-nil lines))
        (grind (arith, stops_by, no_memory, by_call))

-- ---- a turn leaves the setup as it is

reached_setup : (c : ClientCall) (e : LinkEnd) (s t : Seat) (lines : List Line)
    → Reached (turn c e s) t lines → setup_of t ≡ setup_of s
unfolding turn and_then
reached_setup c e s t lines r = grind arith

stopped_setup : (c : ClientCall) (e : LinkEnd) (s t : Seat) (f : WorldFault)
    → Stops (turn c e s) [] f t [] → setup_of t ≡ setup_of s
stopped_setup c e s t f g =
    let r = gives_reached {A = Unit {0}} (turn c e s) [] (Err f) t [] g in
    reached_setup c e s t r.0 r.1

pub kept_setup : (ls : LinksState) (c : ClientCall) (old new : MemberState)
    (r : Result ClientReply WorldFault) → TurnGives c old r new
    → new.state.setup ≡ old.state.setup
kept_setup ls c old new (Ok reply) g = g.0.setup
kept_setup ls c old new (Err f) g =
    let e = (fresh_end 0 Main [] 0).end in
    stopped_setup c e (seat ls old begun) (seat ls new begun) f (g e ls begun [])
