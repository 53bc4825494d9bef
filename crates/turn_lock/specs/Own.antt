-- The entries at a seat's own places, each with the entries that stood before it.
use Rattle.std.specs.Prelude.{◌≡◌, ◌≤◌, ◌==◌, cond, ℕ, List, [], ◌∷◌, ◌++◌, length}
use Rattle.turn_lock.specs.Counts.{times}
use Rattle.turn_lock.specs.History.{entries, IsPrefix}
use Rattle.turn_lock.specs.Seats.{Known}

-- the entry at a place, if one is there
abbrev pub entry_at : {E : Type 0} → List (ℕ × E) → ℕ → List E
entry_at [] p = []
entry_at (e ∷ h) p = cond (p == length h) (e.1 ∷ []) (entry_at h p)

abbrev pub own_list : {E : Type 0} → List (ℕ × E) → List ℕ → List E
own_list h [] = []
own_list h (p ∷ own) = entry_at h p ++ own_list h own

-- each entry with the entries before it
abbrev pub with_pasts : {E : Type 0} → List (ℕ × E) → List (ℕ × (E × List E))
with_pasts [] = []
with_pasts (e ∷ h) = (e.0, (e.1, entries h)) ∷ with_pasts h

-- a seat's own entries, the newest first
unfoldable pub own_of : {U E : Type 0} → Known U E → List E
own_of k = own_list k.seen k.own

-- the same, each with the entries before it
unfoldable pub turns_of : {U E : Type 0} → Known U E → List (E × List E)
turns_of k = own_list (with_pasts k.seen) k.own

-- each own place is one of the history
abbrev pub Within : {E : Type 0} → List (ℕ × E) → List ℕ → Type 0
Within h own = (p : ℕ) → length h ≤ p → times p own ≡ 0

unfoldable pub IsWithin : {U E : Type 0} → Known U E → Type 0
IsWithin k = Within k.seen k.own

abbrev pub past_of : {U E : Type 0} → Known U E → List E
past_of k = entries k.seen

-- What a seat knew before and knows after some turns of its own: these are what it added.
pub record Grows {U E : Type 0} (before after : Known U E) (turns : List (E × List E)) : Type 0
  where
    pub lock : after.lock ≡ before.lock
    pub setup : after.setup ≡ before.setup
    pub parts : after.parts ≡ before.parts
    pub tickets : before.tickets ≤ after.tickets
    pub seen : IsPrefix before.seen after.seen
    pub within : IsWithin after
    pub own : turns_of after ≡ turns ++ turns_of before
