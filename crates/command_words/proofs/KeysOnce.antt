-- The keys in order of first occurrence are the keys.
use Rattle.std.proofs.Common.{◌≡◌, ◌∙◌, refl, ap, ℕ, List, [], ◌∷◌, Bool, true, false, not, map}
use Rattle.std.proofs.Common.{◌||◌, ◌&&◌, arith}
use Rattle.std.specs.List.{filter, list_any}
use Rattle.std.specs.Str.{bytes_eq}
use Rattle.std.proofs.lemmas.Map.Views.{any-filter_same}
use Rattle.std.proofs.lemmas.Slice.Eq.{bytes_eq-Decides}
use Rattle.command_words.specs.KeyLists.{each_once}

-- of keys that a test leaves a key is one where it passes the test and was one
pub any_left : (p : List ℕ → Bool) (k : List ℕ) (keys : List (List ℕ)) →
    list_any (bytes_eq k) (filter p keys) ≡ (p k && list_any (bytes_eq k) keys)
any_left p k = grind (arith, any-filter_same, bytes_eq-Decides)

any_apart : (k x : List ℕ) (es : List (List ℕ)) → bytes_eq k x ≡ false →
    list_any (bytes_eq k) (filter (λ e. not (bytes_eq e x)) es) ≡ list_any (bytes_eq k) es
any_apart k e es apart = grind (arith, any_left)

either_way : (b : Bool) (c d : Bool) → (b ≡ false → c ≡ d) → (b || c) ≡ (b || d)
either_way b c d e = grind arith

-- a key is among them exactly where it is among the keys
pub any_once : (k : List ℕ) (ks : List (List ℕ)) →
    list_any (bytes_eq k) (each_once ks) ≡ list_any (bytes_eq k) ks
any_once k [] = refl
any_once k (x ∷ ks) = grind (arith, either_way, any_apart, any_once k ks)

pub is_itself : (k : List ℕ) → bytes_eq k k ≡ true
is_itself k = (bytes_eq-Decides k k).1 refl

pub or_true : (b c : Bool) → c ≡ true → (b || c) ≡ true
or_true b c e = grind arith

pub left_false : (b c : Bool) → (b || c) ≡ false → b ≡ false
left_false b c e = grind arith

pub right_false : (b c : Bool) → (b || c) ≡ false → c ≡ false
right_false b c e = grind arith

pub first : (b c : Bool) → b ≡ true → (b || c) ≡ true
first b c e = grind arith

-- maps that agree at each of the keys
pub map_alike : {X : Type 0} (f g : List ℕ → X) (ks : List (List ℕ)) →
    ((k : List ℕ) → list_any (bytes_eq k) ks ≡ true → f k ≡ g k) → map f ks ≡ map g ks
map_alike f g [] same = refl
map_alike f g (k ∷ ks) same =
    ap (λ x. x ∷ map f ks) (same k (first (bytes_eq k k) _ (is_itself k)))
    ∙ ap (λ l. g k ∷ l) (map_alike f g ks (λ j among. same j (or_true (bytes_eq j k) _ among)))
