-- What holds of each answer that a step may give holds of the step.
use Rattle.std.proofs.Common.{◌≡◌, ◌+◌, ℕ, List, [], ◌∷◌, true, false, length, take, max, arith}
use Rattle.serial_model.specs.declared.history.Limits.{Limits}
use Rattle.serial_model.specs.declared.history.Entry.{Entry}
use Rattle.serial_model.specs.declared.history.Entry.TheVariants as entry
use Rattle.serial_model.specs.declared.history.BookCall.TheVariants.{Admit, Run, Tick, Take, Close}
use Rattle.serial_model.specs.declared.history.BookReply.TheVariants.{Ticked, Quiet, Bytes}
use Rattle.serial_model.specs.History.{runs_on, gives_on, reads_on, latest, unsent}
use Rattle.serial_model.specs.History.{expired, is_stopped}
use Rattle.serial_model.specs.Steps.{Turn, book_step, taking, gone, admitting}
use Rattle.serial_model.specs.Steps.{running, closing, stopped}

abbrev pub quiet : List Entry → Turn
quiet past = record { reply = Quiet; past = past }

abbrev pub ticked : List Entry → ℕ → Turn
ticked past moment =
    record { reply = Ticked (length past + 1); past = entry.Tick moment ∷ past }

abbrev pub took : List Entry → ℕ → ℕ → List ℕ → Turn
took past id most bytes =
    record { reply = Bytes (length past + 1) bytes; past = entry.Take id most ∷ past }

module _ (l : Limits) (past : List Entry) (P : Turn → Type 0) where
  pub by_admit : P (stopped past) → (is_stopped l past ≡ false → P (admitting past))
      → P (book_step l past Admit)
  unfolding book_step
  by_admit stops does = grind arith

  pub by_run : (id : ℕ) (words : List (List ℕ)) (now : ℕ) → P (gone past id)
      → (runs_on l past id ≡ true → P (running past id words now))
      → P (book_step l past (Run id words now))
  unfolding book_step
  by_run id words now ended does = grind arith

  pub by_tick : (now : ℕ) → P (stopped past) → P (quiet past)
      → (is_stopped l past ≡ false → (expired l past (max now (latest past)) ≡ [] → ⊥)
      → P (ticked past (max now (latest past))))
      → P (book_step l past (Tick now))
  unfolding book_step
  by_tick now stops still does = grind arith

  by_taking : (id most : ℕ) (bytes : List ℕ) → P (quiet past)
      → ((bytes ≡ [] → ⊥) → P (took past id most bytes)) → P (taking past id most bytes)
  by_taking id most bytes still does = grind arith

  pub by_take : (id most : ℕ) → P (gone past id) → P (quiet past)
      → (gives_on l past id ≡ true → (take most (unsent l id past) ≡ [] → ⊥)
      → P (took past id most (take most (unsent l id past))))
      → P (book_step l past (Take id most))
  unfolding book_step
  by_take id most ended still does = grind (arith, by_taking)

  pub by_close : (id : ℕ) → P (gone past id) → (reads_on l past id ≡ true → P (closing past id))
      → P (book_step l past (Close id))
  unfolding book_step
  by_close id ended does = grind arith
