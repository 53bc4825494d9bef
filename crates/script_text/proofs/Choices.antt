-- What a word that was read tells: it is the one of the words tried that gives what was read.
use Rattle.std.proofs.Common.{◌≡◌, ℕ, List, Bool, true, cond, sym, subst, arith}
use Rattle.std.specs.declared.option.Option.{Option}
use Rattle.std.specs.declared.option.Option.TheVariants.{None, Some}
use Rattle.std.specs.Str.{bytes_eq}
use Rattle.std.proofs.lemmas.Slice.Eq.{bytes_eq-Decides}

pub none_is_some : {A : Type 0} (R : Type 0) (x : A) → None ≡ Some x → R
none_is_some R e h = cc

pub same_text : (text word : List ℕ) → bytes_eq text word ≡ true → word ≡ text
same_text text word h = sym ((bytes_eq-Decides text word).0 h)

-- a test decides, or what follows it
pub by_test : {A : Type 0} (R : Type 0) (x : A) (t : Bool) (o p : Option A)
    → (t ≡ true → o ≡ Some x → R) → (p ≡ Some x → R) → cond t o p ≡ Some x → R
by_test R e t o p f g h = grind arith

pub is_that : {A : Type 0} (P : A → Type 0) (x y : A) → Some x ≡ Some y → P x → P y
is_that P x y h p = let same : x ≡ y = cc in subst P same p

-- the text is this word, which gives x, or what follows gives what was read
pub by_word : {A : Type 0} (P : A → Type 0) (word text : List ℕ) (x y : A) (other : Option A)
    → (word ≡ text → P x) → (other ≡ Some y → P y) → cond (bytes_eq text word) (Some x) other
    ≡ Some y → P y
by_word P word text e y other f g h = grind (arith, by_test, is_that, same_text)

pub named : {A : Type 0} (t : Bool) (o : Option A) (x : A) → t ≡ true → o ≡ Some x
    → cond t o None ≡ Some x
named t o e h k = grind arith

pub when : {A : Type 0} (t : Bool) (o : Option A) (x : A) → cond t o None ≡ Some x
    → (t ≡ true) × (o ≡ Some x)
when t o e h = grind arith
