-- What RESET leaves of its connection.
use Rattle.std.proofs.Common.{◌≡◌, ◌∙◌, ℕ, List, Bool, true, false, cond, ap, arith}
use Rattle.std.proofs.Common.{Ok, refl}
use Rattle.std.specs.Prelude.{◌==◌, ◌&&◌, ◌||◌}
use Rattle.std.proofs.lemmas.Bool.{eq-eqb}
use Rattle.command_words.specs.declared.command.Command.TheVariants.{Reset}
use Rattle.command_words.specs.Words.{reading}
use Rattle.track_modes.specs.Commands.{fault_at}
use Rattle.track_modes.specs.ModeState.{ModeState, new_mode}
use Rattle.redirect.specs.Routes.{breaks}
use Rattle.serial_model.specs.Modes.{Forgets, OwnEffect, Runner, is_barred, mends, own_effect}
use Rattle.serial_model.specs.Modes.{refused_effect}
use Rattle.serial_model.specs.State.{is_on}
use Rattle.serial_model.specs.Actions.{modes_then, target_at}
use Rattle.serial_model.specs.History.{made_of, run_action, runner, served, state}
use Rattle.serial_model.specs.Laws.{ResetRenews}

allowed : (m : ModeState) → is_barred m (Ok Reset) ≡ false
allowed m = grind arith

made_reset : (words : List (List ℕ)) (by : Runner) → reading words ≡ Ok Reset
    → made_of words by ≡ record { mode = new_mode; memory = Forgets }
unfolding made_of fault_at
made_reset words by is =
    ap (λ r. cond (is_barred by.mode (served r)) (refused_effect by.mode)
    (own_effect (served r) by)) is
    ∙ ap (λ b. cond b (refused_effect by.mode) (own_effect (Ok Reset) by)) (allowed by.mode)

itself : (c : ℕ) → (c == c) ≡ true
itself c = eq-eqb c c refl

mended : (mine x lost tracked : Bool) → mine ≡ true → tracked ≡ false
    → ((cond mine false x) || (lost && tracked)) ≡ false
mended mine x lost tracked e f = grind arith

pub reset_renews : ResetRenews
unfolding state
reset_renews l id moment words past is =
    let s = state l past in
    let t = run_action id words moment s in
    let made = made_reset words (runner l past id words moment) is in
    let mode : modes_then t s id ≡ new_mode =
    ap (λ b. cond b t.effect.mode (s.modes id)) (itself id)
    ∙ ap (λ (e : OwnEffect). e.mode) made in (
      mode,
      mended ((id == id) && mends t.effect.memory) _ _ _
          (ap (λ b. b && mends t.effect.memory) (itself id)
          ∙ ap (λ (e : OwnEffect). mends e.memory) made)
          (ap (λ (m : ModeState). breaks m.tracking (target_at (modes_then t s) (is_on s) id))
          mode),
    )
