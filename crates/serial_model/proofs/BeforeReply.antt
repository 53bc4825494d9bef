-- What a command does not write answers as before, or is told of before the command's reply.
use Rattle.std.proofs.Common.{◌≡◌, ℕ, List, true, false, ◌⊎◌, inl, inr, Bool, arith}
use Rattle.std.proofs.lemmas.Bool.{and_parts, both_ways}
use Rattle.command_words.specs.Laws.{RepliesAreOfKeysRead, SignalsAreWritten, signals}
use Rattle.command_words.specs.Expiry.{without_due}
use Rattle.command_words.specs.Queries.{writes, written_by}
use Rattle.command_words.specs.Space.{Space}
use Rattle.serial_model.specs.declared.history.Limits.{Limits}
use Rattle.serial_model.specs.declared.history.Entry.{Entry}
use Rattle.serial_model.specs.declared.history.Entry.TheVariants.{Run}
use Rattle.serial_model.specs.State.{is_on}
use Rattle.serial_model.specs.Modes.{Runner}
use Rattle.serial_model.specs.History.{state, effect_of, keyspace, ran, runner, served_reading}
use Rattle.serial_model.specs.History.{expired}
use Rattle.serial_model.specs.Laws.{BeforeTheReply, is_among}
use Rattle.serial_model.proofs.KeyHolders.{whole_tells}
use Rattle.serial_model.proofs.ReadLaws.{change_is_signalled}
use Rattle.serial_model.proofs.ServedRows.{ran_cases}

-- ---- what a command signals, it writes

module _ (law : SignalsAreWritten) where
  effect_written : (by : Runner) (words : List (List ℕ)) (s : Space) (m : ℕ) (k : List ℕ)
      → signals (effect_of by words (served_reading words) s m).signalled k ≡ true
      → writes words k ≡ true
  unfolding written_by
  effect_written by words s m k h = grind arith

  ran_written : (l : Limits) (past : List Entry) (id : ℕ) (words : List (List ℕ)) (m : ℕ)
      (k : List ℕ)
      → signals (ran l past id words m).signalled k ≡ true → writes words k ≡ true
  ran_written l past id words m k =
      let by = runner l past id words m in
      let s = without_due m (keyspace l past) in
      ran_cases by words (λ ran made. signals ran.signalled k ≡ true → writes words k ≡ true) s m
      (effect_written by words s m k) (λ h. absurd (let no : ⊥ = cc in no))

pub before_the_reply : RepliesAreOfKeysRead → SignalsAreWritten → BeforeTheReply
before_the_reply replies written l id moment words past c key told none =
    let s = state l past in
    let left = is_among (expired l past moment) key in
    let p = and_parts (is_on s c) _ told in
    elim (both left) [
      | inl e ↦ inr (whole_tells c key (expired l past moment) s.table s.prefixes e p.1)
      | inr e ↦ inl ((change_is_signalled replies l (Run id words moment) past key
          (grind (arith, both_ways, ran_written))).1)
    ]
  where
    both : (b : Bool) → (b ≡ true) ⊎ (b ≡ false)
    both b = grind arith
