-- The index of deadlines and the keyspace in step: the index is the ordered list of the keyspace's
-- deadlines.
use Rattle.std.specs.Prelude.{◌≡◌, ◌++◌, ℕ, List, [], ◌∷◌, Bool}
use Rattle.std.specs.Prelude.{if◌then◌else◌}
use Rattle.std.specs.Prelude.{Option, Some, None}
use Rattle.command_words.specs.Space.{Space, deadline_at}
use Rattle.expiry.specs.declared.index.Deadline.{Deadline}
use Rattle.expiry.specs.Index.{has, is_at, keys_of, due, with, without}
use Rattle.expiry.specs.Order.{IsOrdered}

-- the key is there with this deadline
abbrev pub is_current : Deadline → Space → Bool
is_current d space = is_at d.at (deadline_at d.key space)

pub record InStep (index : List Deadline) (space : Space) : Type 0 where
  pub ordered : IsOrdered index
  pub each : (d : Deadline) → has d index ≡ is_current d space

-- the keys that are due, in order of deadline and key
abbrev pub due_keys : ℕ → List Deadline → List (List ℕ)
due_keys moment index = keys_of (due moment index)

-- the deadlines of the keys that have one
abbrev pub with_one : Option ℕ → List ℕ → List Deadline → List Deadline
with_one None key ds = ds
with_one (Some at) key ds = record { at = at; key = key } ∷ ds

abbrev pub deadlines_of : List (List ℕ) → Space → List Deadline
deadlines_of [] space = []
deadlines_of (key ∷ keys) space =
    with_one (deadline_at key space) key (deadlines_of keys space)

-- those of the deadlines that are not current leave the index
abbrev pub settled : List Deadline → Space → List Deadline → List Deadline
settled [] space index = index
settled (d ∷ ds) space index =
    settled ds space (if is_current d space then index else without d index)

abbrev pub with_new : Option Deadline → List Deadline → List Deadline
with_new None index = index
with_new (Some d) index = with d index

abbrev pub listed : Option Deadline → List Deadline
listed None = []
listed (Some d) = d ∷ []

abbrev pub with_last : Option ℕ → List ℕ → List Deadline → List Deadline
with_last None key ds = ds
with_last (Some at) key ds = ds ++ record { at = at; key = key } ∷ []
