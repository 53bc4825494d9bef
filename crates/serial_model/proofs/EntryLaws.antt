-- What each entry does, whatever the past: what it sends and what it changes.
use Rattle.command_words.proofs.HeldAt.{at_without_due}
use Rattle.std.proofs.Common.{◌≡◌, ◌+◌, ℕ, List, [], ◌∷◌, ◌++◌, true, false, length, Result}
use Rattle.std.proofs.Common.{refl, sym, subst, ap, arith}
use Rattle.command_words.specs.declared.command.WordFault.{WordFault}
use Rattle.command_words.specs.declared.command.Command.{Command}
use Rattle.command_words.specs.Effect.{Effect}
use Rattle.command_words.specs.Laws.{signals}
use Rattle.command_words.specs.Space.{Space, held_at}
use Rattle.command_words.specs.Words.{reading}
use Rattle.serial_model.specs.declared.history.Limits.{Limits}
use Rattle.serial_model.specs.declared.history.Entry.{Entry}
use Rattle.serial_model.specs.declared.history.Entry.TheVariants.{Run}
use Rattle.serial_model.specs.Modes.{Runner}
use Rattle.serial_model.specs.Actions.{Sending}
use Rattle.serial_model.specs.History.{state, sends, sent_to, sent, has_ended, IsLegal, served}
use Rattle.serial_model.specs.History.{effect_of, ran_over, ran, keyspace, is_admitted, expired}
use Rattle.serial_model.specs.Laws.{AreOf, is_among}
use Rattle.serial_model.proofs.DueKeys.{due_is_past}
use Rattle.serial_model.proofs.ServedRows.{served_cases, data_effect, own_replied, ran_cases}
use Rattle.serial_model.proofs.ServedRows.{row_of}
use Rattle.serial_model.proofs.Streams.{IsLive, live}

-- ---- what is sent

of_entry : (n c : ℕ) (ss : List (ℕ × Sending)) → AreOf n (sent_to n c ss)
of_entry n c [] = tt
of_entry n c (s ∷ ss) = grind (arith, of_entry n c ss)

pub sent_grows : (l : Limits) (c : ℕ) (entry : Entry) (past : List Entry)
    → (new : List (ℕ × Sending)) × (sent l c (entry ∷ past) ≡ sent l c past ++ new)
    × AreOf (length past + 1) new
sent_grows l c entry past = (
  sent_to (length past + 1) c (sends l entry (state l past)),
  refl,
  of_entry (length past + 1) c (sends l entry (state l past)),
)

pub runs_live : (l : Limits) (id moment : ℕ) (words : List (List ℕ)) (past : List Entry)
    → IsLegal l (Run id words moment ∷ past)
    → (is_admitted past id ≡ true) × (has_ended l id past ≡ false)
unfolding IsLive
runs_live l id moment words past h = live l past id h.0

-- ---- what is changed

change_of : (by : Runner) (words : List (List ℕ)) (read : Result Command WordFault) (space : Space)
    (m : ℕ) (q : List ℕ)
    → signals (effect_of by words (served read) space m).signalled q ≡ false
    → held_at q (effect_of by words (served read) space m).space ≡ held_at q space
change_of by words read space m q =
    served_cases (λ r. signals (effect_of by words r space m).signalled q ≡ false
    → held_at q (effect_of by words r space m).space ≡ held_at q space)
    (λ c is none h.
    ap (λ (e : Effect). held_at q e.space) (own_replied by words c space m is none))
    (λ c is. subst (λ (e : Effect). signals e.signalled q ≡ false
    → held_at q e.space ≡ held_at q space)
    (sym (data_effect by words c space m is)) ((row_of c space m is).others_stay q))
    (λ fault h. refl) read

ran_change : (by : Runner) (words : List (List ℕ)) (space : Space) (m : ℕ) (q : List ℕ)
    → signals (ran_over space by words m).signalled q ≡ false
    → held_at q (ran_over space by words m).space ≡ held_at q space
ran_change by words space m q =
    ran_cases by words (λ ran made. signals ran.signalled q ≡ false
    → held_at q ran.space ≡ held_at q space) space m
    (change_of by words (reading words) space m q) (λ h. refl)

-- a key that a Run does not signal, by its deadline or its command, holds what it held
pub held_same : (l : Limits) (id moment : ℕ) (words : List (List ℕ)) (key : List ℕ)
    (past : List Entry)
    → is_among (expired l past moment) key ≡ false
    → signals (ran l past id words moment).signalled key ≡ false
    → held_at key (ran l past id words moment).space ≡ held_at key (keyspace l past)
held_same l id moment words key past none h = grind (arith, ran_change, at_without_due, due_is_past)
