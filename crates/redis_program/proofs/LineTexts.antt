-- What a line comes to, once its text was written or the sink failed in it.
use Rattle.std.proofs.Common.{◌≡◌, ℕ, List, [], Some, Err, Result, refl, sym, ap, subst, ◌∙◌, inl}
use Rattle.std.proofs.Common.{inr}
use Rattle.std.specs.declared.option.Option.{Option}
use Rattle.resp_value.proofs.Prefixes.{prefix_same}
use Rattle.script_text.specs.declared.event.Event.{Event}
use Rattle.script_text.specs.declared.line.Line.{Line}
use Rattle.script_text.specs.Printed.{text_of}
use Rattle.world_run.specs.WorldState.{WorldState}
use Rattle.world_run.specs.World.{step}
use Rattle.redis_program.specs.declared.status.Ending.{Ending}
use Rattle.redis_program.specs.declared.status.Ending.TheVariants as ending
use Rattle.redis_program.specs.Headline.{AppendsFirst, event_at}
use Rattle.redis_program.specs.Playing.{LineGives, LineText, PartPrinted}
use Rattle.redis_program.proofs.Scheduling.{text_none}

-- all lines of an event
abbrev pub all_printed : (n : ℕ) (w : WorldState) (line : List ℕ) (event : Event)
    (lines : List Line)
    → event_at n line ≡ Some event → lines ≡ (step w event).lines → PartPrinted n w line lines
all_printed n w line event lines at is = (
  event,
  at,
  (step w event).state,
  (step w event).lines,
  inl (refl, refl),
  prefix_same lines (step w event).lines (sym is),
)

module _ (n : ℕ) (w new : WorldState) (line text : List ℕ) (old out : Option (List ℕ)) where
  empty : (lines : List Line) → text ≡ text_of lines → lines ≡ [] → text ≡ []
  empty lines is none = is ∙ ap text_of none ∙ sym (text_none [] refl)

  -- the sink failed, so there was something to write
  pub line_cut : (last : WorldState) (played : Result (Unit {0}) Ending)
      → LineText n w line played new text → AppendsFirst old out text → (text ≡ [] → ⊥)
      → LineGives n w line (Err ending.WriteFault) last old out
  line_cut last (Err ending.Done) t a some = absurd t.2
  line_cut last (Err (ending.BadLine k)) t a some = absurd (some (empty t.0 t.1 t.2.1))
  line_cut last (Err ending.ReadFault) t a some = absurd t.2
  line_cut last (Err ending.WriteFault) t a some = absurd t.2
  line_cut last (Err (ending.Refused k f)) t a some =
      (t.0, all_printed n w line t.2.2 t.0 t.2.3 t.2.5, subst (λ l. AppendsFirst old out l) t.1 a)
  line_cut last (Err ending.NoMemory) t a some = elim t.2 [
    | inl none ↦ absurd (some (empty t.0 t.1 none))
    | inr part ↦ (t.0, part, subst (λ l. AppendsFirst old out l) t.1 a)
  ]
  line_cut last played t a some =
      (t.0, all_printed n w line t.2.0 t.0 t.2.1 t.2.4, subst (λ l. AppendsFirst old out l) t.1 a)
