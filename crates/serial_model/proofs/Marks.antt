-- What CLIENT CACHING says is in force for the next Run of its connection alone.
use Rattle.std.proofs.Common.{◌≡◌, ◌∙◌, ℕ, List, [], ◌∷◌, Bool, true, false, cond, refl, ap, sym}
use Rattle.std.proofs.Common.{arith, inl, inr, Option, Some, None, Result, Ok, Err}
use Rattle.std.specs.Prelude.{◌==◌, ◌&&◌, ◌||◌, not, is_some, option_map}
use Rattle.std.proofs.lemmas.Bool.{cases_Bool, eqb-true}
use Rattle.command_words.specs.declared.command.Command.{Command}
use Rattle.command_words.specs.declared.command.Command.TheVariants.{ClientCaching, ClientTracking}
use Rattle.command_words.specs.declared.command.TrackOptions.{TrackOptions}
use Rattle.command_words.specs.declared.command.WordFault.{WordFault}
use Rattle.command_words.specs.declared.command.WordFault.TheVariants.{Unknown}
use Rattle.command_words.specs.Words.{reading}
use Rattle.track_modes.specs.declared.fault.ModeFault.{ModeFault}
use Rattle.track_modes.specs.declared.fault.ModeFault.TheVariants.{Overlap}
use Rattle.track_modes.specs.declared.tracking.Tracking.{Tracking}
use Rattle.track_modes.specs.ModeState.{ModeState, prefixes_of}
use Rattle.track_modes.specs.Commands.{fault_at, is_caching_command, is_no_memory}
use Rattle.track_modes.specs.PrefixLists.{overlapped}
use Rattle.track_modes.specs.Tracked.{caching_fault, has_prefix, on_fault, switches_bcast}
use Rattle.track_modes.specs.Tracked.{switches_opt, tracking_fault}
use Rattle.serial_model.specs.declared.history.Entry.TheVariants.{Admit, Run, Tick, Take, Close}
use Rattle.serial_model.specs.Modes.{Runner, is_barred, own_effect, refused_effect}
use Rattle.serial_model.specs.Modes.{unless_refused}
use Rattle.serial_model.specs.History.{is_served, made_of, mode, runner, served, state}
use Rattle.serial_model.specs.Laws.{NextAfterMark, is_marked, sets_caching}
use Rattle.serial_model.proofs.ModeSteps.{mode_other, mode_own, mode_tick}

-- ---- a mode refuses for no want of memory

abbrev runs_out : Option ModeFault → Bool
runs_out None = false
runs_out (Some fault) = is_no_memory fault

either : (b : Bool) (x y : Option ModeFault) → runs_out x ≡ false → runs_out y ≡ false
    → runs_out (cond b x y) ≡ false
either true x y f g = f
either false x y f g = g

overlap_known : (o : Option (List ℕ)) → runs_out (option_map Overlap o) ≡ false
overlap_known o = grind arith

on_known : (o : TrackOptions) (there : Bool) (t : Tracking) → runs_out (on_fault o there t) ≡ false
on_known o there t =
    either (is_some o.redirect && not there) _ _ refl
    (either (has_prefix o && not o.bcast) _ _ refl
    (either (switches_bcast o t) _ _ refl
    (either (o.optin && o.optout) _ _ refl
    (either (o.bcast && (o.optin || o.optout)) _ _ refl
    (either (switches_opt o t) _ _ refl
    (overlap_known (overlapped (prefixes_of t) o.prefixes)))))))

tracking_known : (o : TrackOptions) (there : Bool) (t : Tracking)
    → runs_out (tracking_fault o there t) ≡ false
tracking_known o there t = either o.on _ _ (on_known o there t) refl

caching_known : (is_yes : Bool) (t : Tracking) → runs_out (caching_fault is_yes t) ≡ false
caching_known is_yes t = grind arith

fault_known : (c : Command) (there : Bool) (m : ModeState) → runs_out (fault_at c there m) ≡ false
unfolding fault_at
fault_known (ClientTracking o) there m = tracking_known o there m.tracking
fault_known (ClientCaching is_yes) there m = caching_known is_yes m.tracking
fault_known c there m = refl

-- ---- the mark that words leave

-- an accepted command leaves it where it is CLIENT CACHING, a refused one does not
left_by : (fault : Option ModeFault) (c : Command) (m : ModeState) → runs_out fault ≡ false
    → (unless_refused fault c m).mode.caching ≡ (is_caching_command c && not (is_some fault))
left_by fault c m known = grind arith

sets : (c : Command) (there : Bool) (m : ModeState) → is_barred m (Ok c) ≡ false
    → (is_caching_command c && not (is_some (fault_at c there m))) ≡ sets_caching (Ok c) m
unfolding fault_at
sets c there m allowed = grind arith

command_mark : (c : Command) (by : Runner) → is_barred by.mode (Ok c) ≡ false
    → (own_effect (Ok c) by).mode.caching ≡ sets_caching (Ok c) by.mode
command_mark c by allowed =
    left_by (fault_at c by.target_exists by.mode) c by.mode
    (fault_known c by.target_exists by.mode)
    ∙ sets c by.target_exists by.mode allowed

barred : (c : Command) (m : ModeState) → is_barred m (Ok c) ≡ true
    → false ≡ sets_caching (Ok c) m
barred c m h = grind arith

unserved : (c : Command) (m : ModeState) → is_served c ≡ false
    → false ≡ sets_caching (Ok c) m
unserved c m h = grind arith

abbrev mark_by : Bool → Result Command WordFault → Runner → Bool
mark_by is_barred r by =
    (cond is_barred (refused_effect by.mode) (own_effect r by)).mode.caching

mark_of : (c : Command) (by : Runner) (b : Bool) → is_barred by.mode (Ok c) ≡ b
    → mark_by b (Ok c) by ≡ sets_caching (Ok c) by.mode
mark_of c by true e = barred c by.mode e
mark_of c by false e = command_mark c by e

mark_after : (r : Result Command WordFault) (by : Runner)
    → mark_by (is_barred by.mode (served r)) (served r) by ≡ sets_caching r by.mode
mark_after (Err fault) by = refl
mark_after (Ok c) by = by_serving (is_served c) refl
  where
    by_serving : (b : Bool) → is_served c ≡ b
        → mark_by (is_barred by.mode (cond b (Ok c) (Err Unknown))) (cond b (Ok c) (Err Unknown)) by
        ≡ sets_caching (Ok c) by.mode
    by_serving true is = mark_of c by (is_barred by.mode (Ok c)) refl
    by_serving false is = unserved c by.mode is

made_mark : (words : List (List ℕ)) (by : Runner)
    → (made_of words by).mode.caching ≡ sets_caching (reading words) by.mode
unfolding made_of
made_mark words by = mark_after (reading words) by

pub next_after_mark : NextAfterMark
unfolding state
next_after_mark l c [] = refl
next_after_mark l c (Admit id ∷ past) = next_after_mark l c past
next_after_mark l c (Run id words m ∷ past) = elim (cases_Bool (id == c)) [
  | inl same ↦
      ap (λ (x : ModeState). x.caching) (mode_own l c id m words past same)
      ∙ made_mark words (runner l past id words m)
      ∙ ap (λ k. sets_caching (reading words) (mode l k past)) (eqb-true id c same)
      ∙ ap (λ b. cond b (sets_caching (reading words) (mode l c past)) (is_marked l c past))
      (sym same)
  | inr other ↦
      ap (λ (x : ModeState). x.caching) (mode_other l c id m words past other)
      ∙ next_after_mark l c past
      ∙ ap (λ b. cond b (sets_caching (reading words) (mode l c past)) (is_marked l c past))
      (sym other)
]
next_after_mark l c (Tick m ∷ past) =
    ap (λ (x : ModeState). x.caching) (mode_tick l c m past) ∙ next_after_mark l c past
next_after_mark l c (Take id max ∷ past) = next_after_mark l c past
next_after_mark l c (Close id ∷ past) = next_after_mark l c past
