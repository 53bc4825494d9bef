-- What was sent, and taken, by the turns of a connection.
use Rattle.std.proofs.Common.{◌≡◌, ◌≤◌, ℕ, List, [], ◌∷◌, ◌++◌, length, refl, arith, ◌+◌, Some}
use Rattle.std.specs.Prelude.{Option}
use Rattle.std.specs.List.{All}
use Rattle.std.proofs.lemmas.List.Elements.{All-nil, All-cons, All-head, All-tail}
use Rattle.turn_lock.specs.History.{IsPrefix as IsBefore}
use Rattle.serial_model.specs.declared.history.Limits.{Limits}
use Rattle.serial_model.specs.declared.history.Entry.{Entry}
use Rattle.serial_model.specs.declared.history.Entry.TheVariants.{Run, Tick}
use Rattle.serial_model.specs.History.{stream}
use Rattle.shared_book.specs.Turns.{Turn}
use Rattle.shared_book.proofs.Histories.{stream_begins}
use Rattle.conn_worker.specs.Visits.{runs_in, run_in, IsTaken, IsWork}

module _ (l : Limits) (id : ℕ) where
  taken_one : (a b : ℕ) (t : Turn) → a ≤ b → IsTaken l id a t → IsTaken l id b t
  taken_one a b t le h = grind arith

  stands_taken : (past : List Entry) (n : ℕ) (t : Turn) → length (stream l id past) ≤ n
      → IsBefore (t.0 ∷ t.1) past → IsTaken l id n t
  stands_taken past n t le h = grind (arith, stream_begins)

  -- turns of a history all of whose stream was taken
  pub all_taken : (past : List Entry) (n : ℕ) (ts : List Turn) → length (stream l id past) ≤ n
      → All (λ t. IsBefore (t.0 ∷ t.1) past) ts → All (IsTaken l id n) ts
  all_taken past n ts le h k d lt = stands_taken past n _ le (h k d lt)

  -- no Tick is at the moment of each clock
  none_one : (n : ℕ) (t : Turn) → ((clock : Option ℕ) → IsWork id clock t) → run_in t ≡ []
      → IsTaken l id n t
  none_one n (Run m words moment, past) is h = absurd (let no : ⊥ = cc in no)
  none_one n (Tick moment, past) is h =
      absurd (let late = is (Some (moment + 1)) in omega (arith, late))
  none_one n t is h = tt

  back_none : {A : Type 0} (xs ys : List A) → xs ++ ys ≡ [] → ys ≡ []
  back_none [] ys h = h
  back_none (x ∷ xs) ys h = absurd (let no : ⊥ = cc in no)

  front_none : {A : Type 0} (xs ys : List A) → xs ++ ys ≡ [] → xs ≡ []
  front_none [] ys h = refl
  front_none (x ∷ xs) ys h = absurd (let no : ⊥ = cc in no)

  -- turns that are Takes
  pub no_runs : (n : ℕ) (ts : List Turn) → ((clock : Option ℕ) → All (IsWork id clock) ts)
      → runs_in ts ≡ [] → All (IsTaken l id n) ts
  no_runs n [] is h = All-nil (IsTaken l id n)
  no_runs n (t ∷ ts) is h = All-cons (IsTaken l id n) t ts
      (none_one n t (λ clock. All-head (IsWork id clock) t ts (is clock))
      (back_none (runs_in ts) (run_in t) h))
      (no_runs n ts (λ clock. All-tail (IsWork id clock) t ts (is clock))
      (front_none (runs_in ts) (run_in t) h))
