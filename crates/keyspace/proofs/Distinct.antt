-- The names of a hash differ, so a field that was taken out is not there any more.
use Rattle.std.proofs.Common.{◌≡◌, ℕ, Bool, true, false, List, [], ◌∷◌}
use Rattle.std.proofs.Common.{Vec, Global, refl, sym, map, not, arith}
use Rattle.std.specs.Prelude.{◌&&◌}
use Rattle.std.specs.Option.{is_some}
use Rattle.std.specs.Map.{keys_of}
use Rattle.std.specs.List.{IsDistinct, AllByRecursion}
use Rattle.std.specs.Str.{bytes_eq}
use Rattle.std.proofs.lemmas.Slice.Eq.{bytes_eq-Decides}
use Rattle.command_words.specs.Hashes.{Pairs, field_get, field_remove}
use Rattle.keyspace.proofs.PlainEntries.{plain}

abbrev pub is_there : List ℕ → Pairs → Bool
is_there q fs = is_some (field_get q fs)

same_bytes : (a b : List ℕ) → bytes_eq a b ≡ true → a ≡ b
same_bytes a b e = (bytes_eq-Decides a b).0 e

turned : (a b : List ℕ) → bytes_eq a b ≡ false → bytes_eq b a ≡ false
turned a b apart = grind (arith, bytes_eq-Decides, same_bytes)

and_false : (b : Bool) → (b && false) ≡ false
and_false b = grind arith

abbrev pub AreDistinct : Pairs → Type 0
AreDistinct [] = Unit {0}
AreDistinct (f ∷ fs) = (is_there f.0 fs ≡ false) × AreDistinct fs

pub remove_there : (q n : List ℕ) (fs : Pairs) → AreDistinct fs
    → is_there q (field_remove n fs) ≡ (not (bytes_eq q n) && is_there q fs)
remove_there q n [] d = sym (and_false (not (bytes_eq q n)))
remove_there q n (f ∷ fs) d = grind (arith, same_bytes, turned, remove_there q n fs d.1)

-- the names of a table differ
abbrev pub same_name : Vec ℕ Global → Vec ℕ Global → Bool
same_name a b = bytes_eq a.items b.items

abbrev pub Entries : Type 0
Entries = List (Vec ℕ Global × List ℕ)

none_there : (k : Vec ℕ Global) (es : Entries)
    → AllByRecursion (λ y. same_name k y ≡ false) (keys_of es)
    → is_there k.items (map plain es) ≡ false
none_there k [] apart = refl
none_there k (e ∷ es) apart = grind (arith, map, plain, none_there k es apart.1)

pub distinct : (es : Entries) → IsDistinct same_name (keys_of es) → AreDistinct (map plain es)
unfolding IsDistinct
distinct [] apart = tt
distinct (e ∷ es) apart = (none_there e.0 es apart.0, distinct es apart.1)
