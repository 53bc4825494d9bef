-- What changes is signalled, and what is read is what a query of it answers.
use Rattle.command_words.proofs.HeldAt.{at_without_due}
use Rattle.std.proofs.Common.{◌≡◌, ◌∙◌, ℕ, List, None, Some, true, false, cond, refl, ap, arith}
use Rattle.std.proofs.lemmas.Bool.{or_parts}
use Rattle.command_words.specs.Laws.{RepliesAreOfKeysRead}
use Rattle.command_words.specs.Effects.{answer}
use Rattle.command_words.specs.Queries.{reads_as_cacheable, key_of}
use Rattle.command_words.specs.Space.{Space, held_at}
use Rattle.command_words.specs.Words.{reading}
use Rattle.serial_model.specs.declared.history.Entry.TheVariants.{Admit, Run, Tick, Take, Close}
use Rattle.serial_model.specs.Modes.{Runner, is_confined, is_stopping}
use Rattle.serial_model.specs.History.{state, keyspace, mode, ran_over, ran, runner}
use Rattle.serial_model.specs.History.{served_reading}
use Rattle.serial_model.specs.Laws.{ChangeIsSignalled, ReadReplies}
use Rattle.serial_model.proofs.DueKeys.{due_is_past}
use Rattle.serial_model.proofs.ServedRows.{served_is, query_effect, none_barred, query_stays}
use Rattle.serial_model.proofs.EntryLaws.{held_same}
use Rattle.serial_model.proofs.QueryKeys.{answers_alike}

-- a key that holds the same answers each query the same
answers_same : RepliesAreOfKeysRead → (key : List ℕ) (s o : Space) → held_at key s ≡ held_at key o
    → (held_at key s ≡ held_at key o)
    × ((query : List (List ℕ)) → reads_as_cacheable (reading query) ≡ true → key_of query ≡ key
    → answer query s ≡ answer query o)
answers_same replies key s o e =
    (e, λ query cacheable is. grind (arith, answers_alike))

pub change_is_signalled : RepliesAreOfKeysRead → ChangeIsSignalled
unfolding state
change_is_signalled replies l (Admit id) past key h = (refl, λ query cacheable is. refl)
change_is_signalled replies l (Run id words m) past key h =
    let p = or_parts _ _ h in
    answers_same replies key (ran l past id words m).space (keyspace l past)
    (held_same l id m words key past p.0 p.1)
change_is_signalled replies l (Tick m) past key h =
    answers_same replies key _ (keyspace l past) (grind (arith, at_without_due, due_is_past))
change_is_signalled replies l (Take id max) past key h = (refl, λ query cacheable is. refl)
change_is_signalled replies l (Close id) past key h = (refl, λ query cacheable is. refl)

-- ---- what is read

pub read_ran : (space : Space) (by : Runner) (words : List (List ℕ)) (moment : ℕ)
    → reads_as_cacheable (served_reading words) ≡ true → is_confined by.mode ≡ false
    → (ran_over space by words moment).reply ≡ answer words (ran_over space by words moment).space
unfolding ran_over answer
read_ran space by words moment h free =
    rw (none_barred by.mode (served_reading words) free) (grind (arith, served_is, query_effect))

pub read_replies : ReadReplies
unfolding state
read_replies l id moment words past h free =
    ap (λ e. cond (is_stopping e) None (Some (ran l past id words moment).reply))
    (query_stays (mode l id past) (served_reading words) h)
    ∙ ap (λ v. Some v) (read_ran _ (runner l past id words moment) words moment h free)
