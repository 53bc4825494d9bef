-- What holds of each of several things.
use Rattle.std.specs.Prelude.{ℕ, List, [], ◌∷◌}
use Rattle.track_table.specs.declared.table.Held.{Held}
use Rattle.prefix_table.specs.declared.table.Registration.{Registration}
use Rattle.serial_model.specs.Tracking.{Invalidation}

abbrev pub AllIn : {A : Type 0} → (A → Type 0) → List A → Type 0
AllIn P [] = Unit {0}
AllIn P (x ∷ xs) = P x × AllIn P xs

-- of each holder of remembered keys
abbrev pub AllRows : (ℕ → Type 0) → List Held → Type 0
AllRows P rows = AllIn (λ (r : Held). AllIn P r.holders) rows

-- of each connection of registered prefixes
abbrev pub AllRegistered : (ℕ → Type 0) → List Registration → Type 0
AllRegistered P rows = AllIn (λ (r : Registration). AllIn P r.ids) rows

-- of each who is told
abbrev pub AllTo : (ℕ → Type 0) → List Invalidation → Type 0
AllTo P told = AllIn (λ (i : Invalidation). P i.to) told
