-- An index in blocks: its deadlines are those of its blocks, one block behind the other.
use Rattle.std.specs.Prelude.{◌≡◌, ◌<◌, ◌≤◌, ◌+◌, ℕ, List, [], ◌∷◌, Bool, true, false, length}
use Rattle.std.specs.Prelude.{slice_index_or}
use Rattle.std.specs.List.{flat_map}
use Rattle.expiry.specs.declared.index.Deadline.{Deadline}
use Rattle.expiry.specs.Index.{comes_before, is_due, left}
use Rattle.expiry.specs.Order.{IsOrdered}

abbrev pub joined : List (List Deadline) → List Deadline
joined bs = flat_map (λ b. b) bs

abbrev pub AreHeld : List (List Deadline) → Type 0
AreHeld [] = Unit {0}
AreHeld (b ∷ bs) = (0 < length b) × AreHeld bs

-- all deadlines in order, and no block without one
pub record AreBlocks (bs : List (List Deadline)) : Type 0 where
  pub ordered : IsOrdered (joined bs)
  pub held : AreHeld bs

abbrev pub begins_after : Deadline → List Deadline → Bool
begins_after d [] = false
begins_after d (e ∷ es) = comes_before d e

abbrev pub block_at : List (List Deadline) → ℕ → List Deadline
block_at bs n = slice_index_or bs n []

abbrev pub is_nil : List Deadline → Bool
is_nil [] = true
is_nil (d ∷ ds) = false

-- the block where a deadline is or goes: the last that does not begin after it, or the first
pub record IsBlockFor (d : Deadline) (bs : List (List Deadline)) (n : ℕ) : Type 0 where
  pub there : n < length bs
  pub begun : 0 < n → begins_after d (block_at bs n) ≡ false
  pub next : n + 1 < length bs → begins_after d (block_at bs (n + 1)) ≡ true

-- none of its deadlines stays at this moment
abbrev pub is_past : ℕ → List Deadline → Bool
is_past moment ds = is_nil (left moment ds)

abbrev pub begins_due : ℕ → List Deadline → Bool
begins_due moment [] = false
begins_due moment (d ∷ ds) = is_due moment d

-- the blocks before this place begin with one that is due, and the one there does not
pub record IsBegun (moment : ℕ) (bs : List (List Deadline)) (n : ℕ) : Type 0 where
  pub there : n ≤ length bs
  pub before : (i : ℕ) → i < n → begins_due moment (block_at bs i) ≡ true
  pub next : n < length bs → begins_due moment (block_at bs n) ≡ false

-- in the blocks before this place all are due, and in the one there not all are
pub record IsPast (moment : ℕ) (bs : List (List Deadline)) (n : ℕ) : Type 0 where
  pub there : n ≤ length bs
  pub before : (i : ℕ) → i < n → is_past moment (block_at bs i) ≡ true
  pub next : n < length bs → is_past moment (block_at bs n) ≡ false
