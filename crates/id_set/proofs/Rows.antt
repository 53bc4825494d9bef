-- Rows that are changed in their places, one after another.
use Rattle.std.proofs.Common.{arith, ◌≡◌, ◌≤◌, ◌++◌, ℕ, List, length, map, take, drop, append-nil}
use Rattle.std.proofs.lemmas.List.{take_all, drop_all}

-- where all are changed, what is in use of the memory is the changed rows
pub changed_all : {A : Type 0} (change : A → A) (rows items memory : List A) (i n : ℕ)
    → length rows ≤ i → length memory ≤ length items → length items ≤ n
    → items ≡ map change (take i rows) ++ drop i rows
    → take n (items ++ drop (length items) memory) ≡ map change rows
changed_all change rows items memory i n all inside in_use is =
    grind (arith, drop_all, append-nil, take_all)
