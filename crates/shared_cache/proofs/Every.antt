-- What holds of each element of a list.
use Rattle.std.proofs.Common.{◌++◌, List, [], ◌∷◌}
use Rattle.shared_cache.specs.Laws.{Every}

pub every_append : {A : Type 0} → (P : A → Type 0) (xs ys : List A) → Every P xs → Every P ys
    → Every P (xs ++ ys)
every_append P [] ys a b = b
every_append P (x ∷ xs) ys a b = (a.0, every_append P xs ys a.1 b)

pub every_weaker : {A : Type 0} → (P Q : A → Type 0) (xs : List A) → ((x : A) → P x → Q x)
    → Every P xs → Every Q xs
every_weaker P Q [] f a = tt
every_weaker P Q (x ∷ xs) f a = (f x a.0, every_weaker P Q xs f a.1)

pub every_both : {A : Type 0} → (P Q R : A → Type 0) (xs : List A) → ((x : A) → P x → Q x → R x)
    → Every P xs → Every Q xs → Every R xs
every_both P Q R [] f a b = tt
every_both P Q R (x ∷ xs) f a b = (f x a.0 b.0, every_both P Q R xs f a.1 b.1)
