-- What moves over a link that there is meets no fault, and keeps the names of all links.
use Rattle.std.proofs.Common.{◌≡◌, ℕ, zero, suc, List, [], ◌∷◌, Bool, true, false, Some, None}
use Rattle.std.proofs.Common.{Option, cond, length, slice_set, refl, sym, ap, subst, ◌∙◌, arith}
use Rattle.std.proofs.Common.{max, nat_le}
use Rattle.std.specs.Prelude.{position}
use Rattle.std.specs.Str.{bytes_eq}
use Rattle.resp_stream.specs.declared.fault.FaultPlace.{FaultPlace}
use Rattle.resp_stream.specs.Parse.{parse}
use Rattle.serial_model.specs.History.{expired, gives_on, is_stopped, latest, reads_on}
use Rattle.serial_model.specs.Steps.{book_step, stopped, tick_at}
use Rattle.serial_model.specs.Steps as turns
use Rattle.server_links.specs.declared.link.Link.{Link}
use Rattle.server_links.specs.declared.link.LinkMove.{LinkMove}
use Rattle.server_links.specs.declared.link.LinkMove.TheVariants as moves
use Rattle.server_links.specs.Directions.{finished, is_open}
use Rattle.server_links.specs.LinkEvent.{LinkEvent, Put, Over, Now, Tick}
use Rattle.server_links.specs.LinksState.{LinksState, at_place, names}
use Rattle.server_links.specs.LinkSteps.{over, over_named, place_of, step, tick, ticking}
use Rattle.server_links.specs.Moves.{all_bytes, close, end_down, flow, move_of, moved, receive_all}
use Rattle.server_links.specs.Moves.{run_all, run_fed, run_one, run_requests, send_all, serve_all}
use Rattle.server_links.specs.Moves.{stop, stop_open, stopped_at, take_down, turn}
use Rattle.server_links.specs.Outcome.{Outcome, and_then, stays, then_by, within}
use Rattle.server_links.specs.Session.{Session, session_at, with_down, with_link}
use Rattle.server_links.proofs.Moving.{every_move}
use Rattle.server_links.proofs.NameLists.{position_map}

-- ---- no fault

abbrev pub Smooth : {S : Type 0} → Outcome S → Type 0
Smooth m = m.fault ≡ None

smooth_then : {S : Type 0} → (m : Outcome S) (next : S → Outcome S) → Smooth m
    → ((t : S) → Smooth (next t)) → Smooth (and_then m next)
unfolding and_then
smooth_then m next h g =
    subst (λ f. (then_by f m (next m.state)).fault ≡ None) (sym h) (g m.state)

smooth_if : {S : Type 0} → (b : Bool) (m n : Outcome S) → Smooth m → Smooth n
    → Smooth (cond b m n)
smooth_if true m n p q = p
smooth_if false m n p q = q

smooth_turn : (s : Session) → Smooth (close s)
unfolding close turn
smooth_turn s = refl

smooth_run : (words : List (List ℕ)) (s : Session) → Smooth (run_one words s)
unfolding run_one turn
smooth_run words s = smooth_then _ _ refl (λ t. refl)

smooth_runs : (requests : List (List (List ℕ))) (s : Session) → Smooth (run_all requests s)
unfolding run_all
smooth_runs [] s = refl
smooth_runs (words ∷ requests) s =
    smooth_then (run_one words s) (run_all requests) (smooth_run words s) (smooth_runs requests)

smooth_stop_open : (place : Option FaultPlace) (eof : Bool) (s : Session)
    → Smooth (stop_open place eof s)
smooth_stop_open (Some place) eof s = smooth_then _ close refl smooth_turn
smooth_stop_open None true s = smooth_turn s
smooth_stop_open None false s = refl

smooth_stop : (place : Option FaultPlace) (eof : Bool) (s : Session) → Smooth (stop place eof s)
smooth_stop place eof s =
    smooth_if (reads_on s.limits s.past s.link.id) (stop_open place eof s) (stays s)
    (smooth_stop_open place eof s) refl

smooth_fed : (eof : Bool) (s : Session) → Smooth (run_fed eof s)
unfolding run_fed run_requests
smooth_fed eof s =
    let p = parse s.link.reader in
    smooth_then (run_requests s) (stop (stopped_at p.fault) eof)
    (smooth_then (run_all p.items s) _ (smooth_runs p.items s) (λ t. refl))
    (smooth_stop (stopped_at p.fault) eof)

pub smooth_serve : (s : Session) → Smooth (serve_all s)
unfolding serve_all
smooth_serve s =
    smooth_if (reads_on s.limits s.past s.link.id) _ (stays s)
    (smooth_then _ (run_fed _) refl (smooth_fed _)) refl

smooth_take : (most : ℕ) (s : Session) → Smooth (take_down most s)
unfolding take_down
smooth_take most s = smooth_then _ _ refl (λ t. refl)

pub smooth_send : (s : Session) → Smooth (send_all s)
smooth_send s =
    smooth_if (is_open s.link.down.eof) _ (stays s)
    (smooth_if (gives_on s.limits s.past s.link.id) (and_then (take_down all_bytes s) end_down)
    (stays (with_link s (with_down s.link (finished s.link.down))))
    (smooth_then (take_down all_bytes s) end_down (smooth_take all_bytes s) (λ t. refl)) refl)
    refl

pub smooth_receive : (s : Session) → Smooth (receive_all s)
unfolding receive_all
smooth_receive s = smooth_then _ _ refl (λ t. refl)

pub smooth_part : (n : ℕ) (s : Session) → nat_le n (length s.link.down.bytes) ≡ true
    → Smooth (moved (moves.Recv (Some n)) s)
smooth_part n s enough = grind arith

pub smooth_flow : (s : Session) → Smooth (flow s)
unfolding flow
smooth_flow s =
    smooth_then (serve_all s) _ (smooth_serve s)
    (λ u. smooth_then (send_all u) receive_all (smooth_send u) smooth_receive)

-- ---- the names of links

names_set : (ls : List Link) (at : ℕ) (l : Link) → l.name ≡ (at_place ls at).name
    → names (slice_set ls at l) ≡ names ls
names_set [] at l same = refl
names_set (x ∷ ls) zero l same = ap (λ n. n ∷ names ls) same
names_set (x ∷ ls) (suc at) l same = ap (λ ns. x.name ∷ ns) (names_set ls at l same)

-- a link is found by the names alone
pub place_is : (name : List ℕ) (w : LinksState)
    → place_of name w ≡ position (λ n. bytes_eq n name) (names w.links)
place_is name w =
    sym (position_map (λ (l : Link). l.name) (λ (n : List ℕ). bytes_eq n name) w.links)

pub place_kept : (name : List ℕ) (w v : LinksState) → names v.links ≡ names w.links
    → place_of name v ≡ place_of name w
place_kept name w v same =
    place_is name v ∙ ap (position (λ n. bytes_eq n name)) same ∙ sym (place_is name w)

-- ---- events of the links

-- no fault is met, and the links keep their names
pub record Goes (w : LinksState) (m : Outcome LinksState) : Type 0 where
  pub smooth : Smooth m
  pub names : names m.state.links ≡ names w.links

goes_over : (event : LinkEvent) (at : ℕ) (w : LinksState)
    → Smooth (move_of event (session_at at w)) → Goes w (over at (move_of event) w)
unfolding over within
goes_over event at w smooth =
    let m = move_of event (session_at at w) in
    let c = (every_move event (session_at at w)).carries.ends smooth in
    record { smooth = smooth; names = names_set w.links at m.state.link c.named }

goes_named : (event : LinkEvent) (p : Option ℕ) (at : ℕ) (w : LinksState) → p ≡ Some at
    → Smooth (move_of event (session_at at w)) → Goes w (over_named p (move_of event) w)
goes_named event p at w there smooth =
    subst (λ q. Goes w (over_named q (move_of event) w)) (sym there) (goes_over event at w smooth)

pub goes_put : (bytes name : List ℕ) (at : ℕ) (w : LinksState) → place_of name w ≡ Some at
    → Goes w (step w (Put name bytes))
unfolding step
goes_put bytes name at w there =
    goes_named (Put name bytes) (place_of name w) at w there refl

pub goes_move : (move : LinkMove) (name : List ℕ) (at : ℕ) (w : LinksState)
    → place_of name w ≡ Some at → Smooth (moved move (session_at at w))
    → Goes w (step w (Over name move))
unfolding step
goes_move move name at w there smooth =
    goes_named (Over name move) (place_of name w) at w there smooth

pub goes_now : (moment : ℕ) (w : LinksState) → Goes w (step w (Now moment))
unfolding step
goes_now moment w = record { smooth = refl; names = refl }

smooth_ticking : (w : LinksState) (moment : ℕ) (keys : List (List ℕ))
    → Smooth (ticking w (turns.ticking w.past moment keys))
smooth_ticking w moment [] = refl
smooth_ticking w moment (key ∷ keys) = refl

-- a Tick of a server that was not stopped
pub goes_tick : (w : LinksState) → is_stopped w.limits w.past ≡ false → Goes w (step w Tick)
unfolding step tick book_step
goes_tick w on =
    let moment = max w.now (latest w.past) in
    record {
      smooth = subst (λ b. Smooth (ticking w (cond b (stopped w.past)
          (tick_at w.limits w.past moment)))) (sym on)
          (smooth_ticking w moment (expired w.limits w.past moment));
      names = refl;
    }

-- and of any
pub tick_names : (w : LinksState) → names (step w Tick).state.links ≡ names w.links
unfolding step tick
tick_names w = refl
