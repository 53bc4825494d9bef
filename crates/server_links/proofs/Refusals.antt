-- A refused event leaves the world as it was, and prints nothing.
use Rattle.std.proofs.Common.{◌≡◌, ℕ, List, [], ◌∷◌, Bool, false, cond, Some, None, Option, length}
use Rattle.std.proofs.Common.{refl, arith, max, true}
use Rattle.std.specs.Prelude.{◌&&◌, nat_le}
use Rattle.std.proofs.lemmas.List.{set-get_or}
use Rattle.resp_stream.specs.declared.fault.FaultPlace.{FaultPlace}
use Rattle.resp_stream.specs.Parse.{parse}
use Rattle.serial_model.specs.History.{reads_on, gives_on, latest, unsent}
use Rattle.serial_model.specs.Steps.{admitting as joining}
use Rattle.serial_model.proofs.StepCases.{by_admit, by_tick, quiet, ticked}
use Rattle.server_links.specs.LinkEvent.{LinkEvent, Raw, Put, Over, Now, Tick}
use Rattle.server_links.specs.declared.link.LinkMove.{LinkMove}
use Rattle.server_links.specs.declared.link.LinkMove.TheVariants as moves
use Rattle.server_links.specs.declared.fault.WorldFault.{WorldFault}
use Rattle.server_links.specs.declared.fault.WorldFault.TheVariants.{NameTaken, NothingThere}
use Rattle.server_links.specs.Directions.{is_open}
use Rattle.server_links.specs.Faults.{IsRefusal}
use Rattle.server_links.specs.Moves.{turn, run_one, run_all, close, stop, stop_open, run_requests}
use Rattle.server_links.specs.Moves.{run_fed}
use Rattle.server_links.specs.Moves.{stopped_at, serve_all, take_down, send_all, receive_all, flow}
use Rattle.server_links.specs.Moves.{move_of, moved, end_down}
use Rattle.server_links.specs.Outcome.{Outcome, stays, refuses, and_then, within}
use Rattle.server_links.specs.Session.{Session}
use Rattle.server_links.specs.LinkSteps.{admitting, over, over_named, place_of, raw_step, step}
use Rattle.server_links.specs.LinkSteps.{tick, ticking}
use Rattle.server_links.specs.LinksState.{LinksState}

-- ---- what is never refused

unfoldable pub Unrefused : {S : Type 0} → Outcome S → Type 0
Unrefused m = (f : WorldFault) → m.fault ≡ Some f → IsRefusal f → ⊥

none : (f : WorldFault) → None ≡ Some f → IsRefusal f → ⊥
none f e r = absurd (let no : ⊥ = cc in no)

pub un_then : {S : Type 0} → (m : Outcome S) (next : S → Outcome S) → Unrefused m
    → ((t : S) → Unrefused (next t)) → Unrefused (and_then m next)
unfolding Unrefused and_then
un_then m next h g f = grind arith

un_run_all : (requests : List (List (List ℕ))) (s : Session) → Unrefused (run_all requests s)
unfolding run_all run_one turn Unrefused
un_run_all [] s = none
un_run_all (words ∷ requests) s =
    un_then (run_one words s) (run_all requests) (un_then _ _ none (λ t. none))
    (un_run_all requests)

un_stop_open : (place : Option FaultPlace) (eof : Bool) (s : Session)
    → Unrefused (stop_open place eof s)
unfolding close turn Unrefused
un_stop_open (Some place) eof s = un_then _ _ none (λ t. none)
un_stop_open None true s = none
un_stop_open None false s = none

un_stop : (place : Option FaultPlace) (eof : Bool) (s : Session) → Unrefused (stop place eof s)
unfolding Unrefused
un_stop place eof s = grind (arith, un_stop_open, none)

un_run_fed : (eof : Bool) (s : Session) → Unrefused (run_fed eof s)
unfolding run_fed run_requests Unrefused
un_run_fed eof s =
    let p = parse s.link.reader in
    un_then (run_requests s) (stop (stopped_at p.fault) eof)
    (un_then (run_all p.items s) _ (un_run_all p.items s) (λ t. none))
    (un_stop (stopped_at p.fault) eof)

pub un_serve_all : (s : Session) → Unrefused (serve_all s)
unfolding serve_all Unrefused
un_serve_all s f = grind (arith, un_then, none, un_run_fed)

un_take : (most : ℕ) (s : Session) → Unrefused (take_down most s)
unfolding take_down Unrefused
un_take most s = un_then _ _ none (λ t. none)

un_take_end : (most : ℕ) (s : Session) → Unrefused (and_then (take_down most s) end_down)
unfolding Unrefused
un_take_end most s = un_then (take_down most s) end_down (un_take most s) (λ t. none)

pub un_send_all : (s : Session) → Unrefused (send_all s)
unfolding Unrefused
un_send_all s f = grind (arith, un_take_end, none)

pub un_receive_all : (s : Session) → Unrefused (receive_all s)
unfolding receive_all Unrefused
un_receive_all s = un_then _ _ none (λ t. none)

pub un_flow : (s : Session) → Unrefused (flow s)
unfolding flow Unrefused
un_flow s = un_then (serve_all s) _ (un_serve_all s)
    (λ u. un_then (send_all u) receive_all (un_send_all u) un_receive_all)

-- ---- what is refused changes nothing

Unchanged : {S : Type 0} → S → Outcome S → Type 0
Unchanged {S} s m = (f : WorldFault) → m.fault ≡ Some f → IsRefusal f
    → (m.state ≡ s) × (m.lines ≡ [])

accepted : {S : Type 0} → (s : S) (m : Outcome S) → Unrefused m → Unchanged s m
unfolding Unrefused Unchanged
accepted s m h f e r = absurd (h f e r)

refused : {S : Type 0} → (s : S) (fault : WorldFault) → Unchanged s (refuses s fault)
unfolding Unchanged
refused s fault f e r = (refl, refl)

either : (b : Bool) (s : Session) (m : Outcome Session) → Unrefused m
    → Unchanged s (cond b m (refuses s NothingThere))
either b s m h = grind (arith, accepted, refused)

still : (s t : Session) → Unchanged s (stays t)
unfolding Unchanged
still s t f e r = absurd (none f e r)

unchanged_moved : (move : LinkMove) (s : Session) → Unchanged s (moved move s)
unfolding Unrefused
unchanged_moved (moves.Serve None) s = accepted s _ (un_serve_all s)
unchanged_moved (moves.Serve (Some n)) s =
    either (reads_on s.limits s.past s.link.id && nat_le n (length s.link.up.bytes)) s _
    (un_then _ _ none (un_run_fed false))
unchanged_moved (moves.Send None) s = accepted s _ (un_send_all s)
unchanged_moved (moves.Send (Some n)) s =
    either (is_open s.link.down.eof && gives_on s.limits s.past s.link.id && nat_le n
    (length (unsent s.limits s.link.id s.past))) s _ (un_take_end n s)
unchanged_moved (moves.Recv None) s = accepted s _ (un_receive_all s)
unchanged_moved (moves.Recv (Some n)) s = either (nat_le n (length s.link.down.bytes)) s _ none
unchanged_moved moves.Flow s = accepted s _ (un_flow s)
unchanged_moved move s = still s _

unchanged_move : (e : LinkEvent) (s : Session) → Unchanged s (move_of e s)
unfolding Unrefused
unchanged_move e s = grind (arith, accepted, none, unchanged_moved, still)

unchanged_over : (at : ℕ) (e : LinkEvent) (w : LinksState) → Unchanged w (over at (move_of e) w)
unfolding over within Unchanged
unchanged_over at e w f is r = grind (arith, unchanged_move, set-get_or)

unchanged_named : (p : Option ℕ) (e : LinkEvent) (w : LinksState)
    → Unchanged w (over_named p (move_of e) w)
unchanged_named p e w = grind (arith, refused, unchanged_over)

-- of a stopped server too
unchanged_raw : (name : List ℕ) (p : Option ℕ) (w : LinksState) → Unchanged w (raw_step w name p)
unfolding Unrefused Unchanged
unchanged_raw name (Some at) w = refused w NameTaken
unchanged_raw name None w =
    by_admit w.limits w.past (λ t. Unchanged w (admitting w name t)) (λ f e r. (refl, refl))
    (λ on. accepted w (admitting w name (joining w.past)) none)

unchanged_tick : (w : LinksState) → Unchanged w (tick w)
unfolding tick Unrefused Unchanged
unchanged_tick w =
    by_tick w.limits w.past (λ t. Unchanged w (ticking w t)) w.now (λ f e r. (refl, refl))
    (accepted w (ticking w (quiet w.past)) none)
    (λ on some. accepted w (ticking w (ticked w.past (max w.now (latest w.past)))) none)

unchanged : (e : LinkEvent) (w : LinksState) → Unchanged w (step w e)
unfolding step Unrefused
unchanged (Raw name) w = unchanged_raw name (place_of name w) w
unchanged (Put name bytes) w = unchanged_named (place_of name w) (Put name bytes) w
unchanged (Over name move) w = unchanged_named (place_of name w) (Over name move) w
unchanged (Now moment) w = accepted w _ none
unchanged Tick w = unchanged_tick w

pub faults_none : (w : LinksState) (e : LinkEvent) (fault : WorldFault)
    → (step w e).fault ≡ Some fault
    → IsRefusal fault → ((step w e).state ≡ w) × ((step w e).lines ≡ [])
unfolding Unchanged
faults_none w e fault is r = unchanged e w fault is r
