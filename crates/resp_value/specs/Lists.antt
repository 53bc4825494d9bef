-- Words on lists.
use Rattle.std.specs.Prelude.{◌≡◌, List, ◌++◌}

-- the list begins with this one
abbrev pub IsPrefix : {A : Type 0} → List A → List A → Type 0
IsPrefix {A} front all = (rest : List A) × (front ++ rest ≡ all)
