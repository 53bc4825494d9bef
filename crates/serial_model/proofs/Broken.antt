-- Where a redirection is broken: a message was due, and its target had ended.
use Rattle.std.proofs.Common.{◌≡◌, ◌∙◌, ℕ, List, Bool, true, false, cond, refl, sym, ap}
use Rattle.std.proofs.Common.{arith, Option, None, Some, Result, Ok, Err}
use Rattle.std.specs.Prelude.{◌==◌, ◌&&◌, ◌||◌, is_some, not}
use Rattle.std.specs.List.{list_any}
use Rattle.std.proofs.lemmas.Bool.{and_parts}
use Rattle.std.proofs.lemmas.List.Folds.{list_any-append}
use Rattle.command_words.specs.declared.command.Command.{Command}
use Rattle.command_words.specs.declared.command.Command.TheVariants.{ClientCaching, ClientTracking}
use Rattle.command_words.specs.declared.command.TrackOptions.{TrackOptions}
use Rattle.command_words.specs.declared.command.WordFault.{WordFault}
use Rattle.track_modes.specs.declared.fault.ModeFault.{ModeFault}
use Rattle.track_modes.specs.declared.tracking.Tracking.{Tracking}
use Rattle.track_modes.specs.declared.tracking.Tracking.TheVariants.{Off, On}
use Rattle.track_modes.specs.Commands.{fault_at}
use Rattle.track_modes.specs.ModeState.{ModeState, peer_of, redirect_of}
use Rattle.redirect.specs.Routes.{breaks}
use Rattle.serial_model.specs.declared.history.Entry.TheVariants.{Admit, Run, Tick, Take, Close}
use Rattle.serial_model.specs.Modes.{Runner, is_barred, is_confined, mends, own_effect}
use Rattle.serial_model.specs.Modes.{refused_effect, tracking_memory, unless_refused}
use Rattle.serial_model.specs.State.{State, is_on}
use Rattle.serial_model.specs.Tracking.{Invalidation}
use Rattle.serial_model.specs.Actions.{are_lost, expiry_told, later_told, modes_then, peer_at}
use Rattle.serial_model.specs.History.{invalidations, made_of, run_action, runner, served_reading}
use Rattle.serial_model.specs.History.{state, tick_action}
use Rattle.serial_model.specs.Laws.{BrokenIsLost, is_lost, sets_anew}
use Rattle.serial_model.proofs.Quiet.{later_lost, mends_none, tick_none}

-- ---- which words mend a redirection

module _ (m : ModeState) (there : Bool) where
  abbrev mended : Option ModeFault → Command → Bool
  mended fault c = mends (unless_refused fault c m).memory

  tracking_mends : (o : TrackOptions) → mends (tracking_memory o m.tracking) ≡ true
  tracking_mends o = grind arith

  of_tracking : (fault : Option ModeFault) (o : TrackOptions) (confined : Bool)
      → confined ≡ false → mended fault (ClientTracking o) ≡ (not confined && not (is_some fault))
  of_tracking None o confined free = rw free (tracking_mends o)
  of_tracking (Some fault) o confined free = rw free refl

  of_caching : (fault : Option ModeFault) (is_yes : Bool)
      → mended fault (ClientCaching is_yes) ≡ false
  of_caching None is_yes = refl
  of_caching (Some fault) is_yes = refl

allowed_tracking : (o : TrackOptions) (m : ModeState) → is_barred m (Ok (ClientTracking o)) ≡ false
    → is_confined m ≡ false
allowed_tracking o m h = grind arith

command_mends : (c : Command) (by : Runner) → is_barred by.mode (Ok c) ≡ false
    → mends (own_effect (Ok c) by).memory ≡ sets_anew (Ok c) by
unfolding fault_at
command_mends (ClientTracking o) by h =
    of_tracking by.mode by.target_exists _ o (is_confined by.mode) (allowed_tracking o by.mode h)
command_mends (ClientCaching is_yes) by h = of_caching by.mode by.target_exists _ is_yes
command_mends _ by h = refl

barred : (c : Command) (by : Runner) → is_barred by.mode (Ok c) ≡ true
    → false ≡ sets_anew (Ok c) by
barred c by h = grind arith

read_mends : (r : Result Command WordFault) (by : Runner) (b : Bool) → is_barred by.mode r ≡ b
    → mends (cond b (refused_effect by.mode) (own_effect r by)).memory ≡ sets_anew r by
read_mends (Err fault) by true e = refl
read_mends (Err fault) by false e = refl
read_mends (Ok c) by true e = barred c by e
read_mends (Ok c) by false e = command_mends c by e

made_mends : (words : List (List ℕ)) (by : Runner)
    → mends (made_of words by).memory ≡ sets_anew (served_reading words) by
unfolding made_of
made_mends words by =
    read_mends (served_reading words) by (is_barred by.mode (served_reading words)) refl

-- ---- what an entry leaves

abbrev any_to : ℕ → List Invalidation → Bool
any_to c told = list_any (λ i. i.to == c) told

breaks_where : (s : State) (t : Tracking)
    → breaks t (peer_at s.modes (is_on s) (redirect_of t)) ≡ is_lost s (redirect_of t)
breaks_where s Off = refl
breaks_where s (On settings) = redirected settings.redirect
  where
    redirected : (x : Option ℕ)
        → (is_some x && not (is_some (peer_at s.modes (is_on s) x))) ≡ is_lost s x
    redirected None = refl
    redirected (Some r) =
        elim (is_on s r) as (λ b. not (is_some (cond b (Some (peer_of (s.modes r))) None))
        ≡ not b) [
          | true ↦ refl
          | false ↦ refl
        ]

lost_where : (s : State) (told : List Invalidation) (c : ℕ)
    → are_lost s.modes (is_on s) told c
    ≡ (any_to c told && is_lost s (redirect_of (s.modes c).tracking))
lost_where s told c = ap (λ b. any_to c told && b) (breaks_where s (s.modes c).tracking)

still : (broken lost : Bool) → broken ≡ ((broken || (false && lost)) && true)
still broken lost = grind arith

-- broken before; lost by what is told before the command and behind it; set anew
by_run : (broken first later lost anew : Bool) → (anew ≡ true → later ≡ false)
    → ((cond anew false (broken || (first && lost))) || (later && lost))
    ≡ ((broken || ((first || later) && lost)) && not anew)
by_run broken first later lost anew none = grind arith

by_tick : (broken first lost mine : Bool)
    → ((cond (mine && false) false (broken || (first && lost))) || (false && lost))
    ≡ ((broken || ((first || false) && lost)) && true)
by_tick broken first lost mine = grind arith

pub broken_is_lost : BrokenIsLost
unfolding state
broken_is_lost l (Admit id) past c =
    still ((state l past).broken c) (is_lost (state l past)
    (redirect_of ((state l past).modes c).tracking))
broken_is_lost l (Run id words moment) past c =
    let s = state l past in
    let t = run_action id words moment s in
    let first = any_to c (expiry_told t s) in
    let later = any_to c (later_told l t s) in
    let lost = is_lost s (redirect_of (s.modes c).tracking) in
    let anew = (id == c) && mends t.effect.memory in
    ap (λ b. (cond anew false (s.broken c || are_lost s.modes (is_on s) (expiry_told t s) c)) || b)
    (later_lost l past id words moment c ∙ lost_where s (later_told l t s) c)
    ∙ ap (λ b. (cond anew false (s.broken c || b)) || (later && lost))
    (lost_where s (expiry_told t s) c)
    ∙ by_run (s.broken c) first later lost anew
    (λ e. ap (any_to c)
    (mends_none l past id words moment (and_parts (id == c) (mends t.effect.memory) e).1))
    ∙ ap (λ b. (s.broken c || (b && lost)) && not anew)
    (sym (list_any-append (λ i. i.to == c) (expiry_told t s) (later_told l t s)))
    ∙ ap (λ b. (s.broken c || (any_to c (invalidations l (Run id words moment) past) && lost))
    && not ((id == c) && b))
    (made_mends words (runner l past id words moment))
broken_is_lost l (Tick moment) past c =
    let s = state l past in
    let t = tick_action moment s in
    let first = any_to c (expiry_told t s) in
    let lost = is_lost s (redirect_of (s.modes c).tracking) in
    let none = tick_none l past moment in
    ap (λ told. (cond ((0 == c) && false) false
    (s.broken c || are_lost s.modes (is_on s) (expiry_told t s) c))
    || are_lost (modes_then t s) (is_on s) told c) none
    ∙ ap (λ b. (cond ((0 == c) && false) false (s.broken c || b)) || false)
    (lost_where s (expiry_told t s) c)
    ∙ by_tick (s.broken c) first lost (0 == c)
    ∙ ap (λ b. (s.broken c || (b && lost)) && true)
    (sym (list_any-append (λ i. i.to == c) (expiry_told t s) (later_told l t s)
    ∙ ap (λ told. first || any_to c told) none))
broken_is_lost l (Take id max) past c =
    still ((state l past).broken c) (is_lost (state l past)
    (redirect_of ((state l past).modes c).tracking))
broken_is_lost l (Close id) past c =
    still ((state l past).broken c) (is_lost (state l past)
    (redirect_of ((state l past).modes c).tracking))
