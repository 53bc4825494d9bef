-- Where a deadline goes among deadlines in order, and how many of them are due.
use Rattle.std.specs.Prelude.{◌≡◌, ◌<◌, ◌≤◌, ℕ, List, [], true, false, length, slice_index_or}
use Rattle.expiry.specs.declared.index.Deadline.{Deadline}
use Rattle.expiry.specs.Index.{comes_before, is_due}

abbrev pub no_deadline : Deadline
no_deadline = record { at = 0; key = [] }

abbrev pub deadline_at : List Deadline → ℕ → Deadline
deadline_at ds i = slice_index_or ds i no_deadline

abbrev pub AllBefore : Deadline → List Deadline → ℕ → Type 0
AllBefore d ds n = (i : ℕ) → i < n → comes_before (deadline_at ds i) d ≡ true

-- those before this place come before the deadline, and the one there does not
abbrev pub IsPlaceFor : Deadline → List Deadline → ℕ → Type 0
IsPlaceFor d ds n =
    (n ≤ length ds) × AllBefore d ds n
    × (n < length ds → comes_before (deadline_at ds n) d ≡ false)

abbrev pub AllDue : ℕ → List Deadline → ℕ → Type 0
AllDue moment ds n = (i : ℕ) → i < n → is_due moment (deadline_at ds i) ≡ true

-- those before this place are due, and the one there is not
abbrev pub IsDueFront : ℕ → List Deadline → ℕ → Type 0
IsDueFront moment ds n =
    (n ≤ length ds) × AllDue moment ds n
    × (n < length ds → is_due moment (deadline_at ds n) ≡ false)
