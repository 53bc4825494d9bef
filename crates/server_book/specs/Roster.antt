-- A list of connections of which those that are closed take a bit each.
use Rattle.std.specs.Prelude.{◌≡◌, ◌<◌, ◌≤◌, ◌*◌, ◌/◌, ◌%◌, ◌^◌, ◌==◌, ℕ, List, [], ◌∷◌, Bool}
use Rattle.std.specs.Prelude.{length, slice_index_or, if◌then◌else◌, Option, Some, None}
use Prim.Native.Nat.{zero, suc}
use Rattle.std.specs.Int.{bit_at}
use Rattle.server_book.specs.Places.{Connection, fresh, gone, shut}

-- a bit of a row of words, false past their end
abbrev pub bit_in : List ℕ → ℕ → Bool
bit_in words at = bit_at (slice_index_or words (at / 64) 0) (at % 64) == 1

-- the connection that is kept for a place, or another where none is
abbrev pub kept_at : List ℕ → List Connection → ℕ → Connection → Connection
kept_at [] kept place other = other
kept_at (p ∷ places) [] place other = other
kept_at (p ∷ places) (c ∷ kept) place other =
    if p == place then c else kept_at places kept place other

-- what is seen at a place: the connection that is kept, or one that is closed
abbrev pub seen : List ℕ → List Connection → List ℕ → ℕ → Connection
seen places kept quits place = kept_at places kept place (shut (bit_in quits place))

-- so many connections, from a place on
abbrev pub listed : (ℕ → Connection) → ℕ → ℕ → List Connection
listed see from zero = []
listed see from (suc count) = see from ∷ listed see (suc from) count

-- numbers that rise
abbrev pub Rise : List ℕ → Type 0
Rise ns = (i j : ℕ) → i < j → j < length ns → slice_index_or ns i 0 < slice_index_or ns j 0

-- where a place is among these, if it is
abbrev pub IsAmong : List ℕ → ℕ → Option ℕ → Type 0
IsAmong places place None =
    (k : ℕ) → k < length places → slice_index_or places k 0 ≡ place → ⊥
IsAmong places place (Some at) = (at < length places) × (slice_index_or places at 0 ≡ place)

-- each place that a connection is kept for is one of those that are listed, and each has a bit
pub record IsRoster (count : ℕ) (places : List ℕ) (kept : List Connection) (quits : List ℕ)
    : Type 0 where
  pub below : count < 2 ^ 63
  pub rise : Rise places
  pub there : (k : ℕ) → k < length places → slice_index_or places k 0 < count
  pub pairs : length kept ≡ length places
  pub bits : count ≤ 64 * length quits

-- what is got at a place: a connection that is kept, or nothing of one that is closed
abbrev pub IsGot : List Connection → ℕ → Option Connection → Type 0
IsGot all place None = slice_index_or all place fresh ≡ gone (slice_index_or all place fresh)
IsGot all place (Some c) = c ≡ slice_index_or all place fresh

-- the places of those that are kept: they rise, and each other connection is closed
pub record AreKept (all : List Connection) (places : List ℕ) : Type 0 where
  pub rise : Rise places
  pub there : (k : ℕ) → k < length places → slice_index_or places k 0 < length all
  pub others : (place : ℕ) → place < length all → IsAmong places place None
      → slice_index_or all place fresh ≡ gone (slice_index_or all place fresh)
