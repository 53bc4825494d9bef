-- What was queued, and taken, by the turns of a pump, and what they keep.
use Rattle.std.proofs.Common.{◌≤◌, ℕ, List, ◌∷◌, length, sym, subst, arith}
use Rattle.std.specs.Prelude.{IfSome}
use Rattle.std.specs.List.{All}
use Rattle.turn_lock.specs.History.{IsPrefix as IsBefore}
use Rattle.turn_lock.specs.Own.{Grows}
use Rattle.shared_cache.specs.declared.log.Wire.{Wire}
use Rattle.shared_cache.specs.declared.log.LogEntry.{LogEntry}
use Rattle.shared_cache.specs.declared.log.LogEntry.TheVariants as entry
use Rattle.shared_cache.specs.Log.{HasWire}
use Rattle.shared_cache.specs.Held.{Setup}
use Rattle.shared_cache.specs.Out.{out}
use Rattle.shared_client.specs.Turns.{Place, Turn, IsLinked}
use Rattle.client_link.specs.Pumps.{IsTaken}
use Rattle.client_link.proofs.Steps.{out_begins}

module _ (s : Setup) (w : Wire) where
  taken_one : (a b : ℕ) (t : Turn) → a ≤ b → IsTaken s w a t → IsTaken s w b t
  taken_one a b t le h = grind arith

  pub taken_more : (a b : ℕ) → a ≤ b → (ts : List Turn) → All (IsTaken s w a) ts
      → All (IsTaken s w b) ts
  taken_more a b le ts h k d lt = taken_one a b _ le (h k d lt)

  stands_taken : (past : List LogEntry) (n : ℕ) (t : Turn) → length (out s w past) ≤ n
      → IsBefore (t.0 ∷ t.1) past → IsTaken s w n t
  stands_taken past n (entry.Got u v, before) le h =
      let o = out_begins s w (entry.Got u v ∷ before) past h in omega (arith, le, o)
  stands_taken past n t le h = tt

  -- turns of a log all of whose bytes were taken
  pub all_taken : (past : List LogEntry) (n : ℕ) (ts : List Turn) → length (out s w past) ≤ n
      → All (λ t. IsBefore (t.0 ∷ t.1) past) ts → All (IsTaken s w n) ts
  all_taken past n ts le h k d lt = stands_taken past n _ le (h k d lt)

-- a seat's turns keep its links
pub still_linked : (w : Wire) (old new : Place) (ts : List Turn) → Grows old new ts
    → IsLinked w old → IsLinked w new
still_linked w old new ts g h =
    subst (λ o. IfSome o (λ u. HasWire u.mode.shape w)) (sym g.setup) h
