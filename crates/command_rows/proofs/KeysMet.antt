-- The keys met so far, as the fields of a hash.
use Rattle.std.proofs.Common.{◌≡◌, ℕ, Bool, true, false, List, [], ◌∷◌, Option, Some, None}
use Rattle.std.proofs.Common.{refl, ap, sym, ◌∙◌, not}
use Rattle.std.specs.Prelude.{◌&&◌, ◌||◌, if◌then◌else◌}
use Rattle.std.specs.List.{filter}
use Rattle.std.specs.Option.{is_some}
use Rattle.std.specs.Str.{bytes_eq}
use Rattle.std.proofs.lemmas.Slice.Eq.{bytes_eq-Decides}
use Rattle.command_words.specs.Hashes.{Pairs, field_get, field_set}

first_branch : (b : Bool) (v : List ℕ) → is_some (if b then Some v else None) ≡ (b || false)
first_branch true v = refl
first_branch false v = refl

same_branch : (b : Bool) (v w : List ℕ) (r : Option (List ℕ))
    → is_some (if b then Some v else r) ≡ (b || is_some (if b then Some w else r))
same_branch true v w r = refl
same_branch false v w r = refl

other_branch : (a b : Bool) (w : List ℕ) (r s : Option (List ℕ)) → is_some r ≡ (a || is_some s)
    → is_some (if b then Some w else r) ≡ (a || is_some (if b then Some w else s))
other_branch true true w r s e = refl
other_branch false true w r s e = refl
other_branch a false w r s e = e

-- a key is met after another one was, where it is that one or was met before
pub met-field_set : (k key v : List ℕ) (fs : Pairs)
    → is_some (field_get k (field_set key v fs)) ≡ (bytes_eq k key || is_some (field_get k fs))
met-field_set k key v [] = first_branch (bytes_eq k key) v
met-field_set k key v (f ∷ fs) = by (bytes_eq key f.0) refl (met-field_set k key v fs)
  where
    by : (b : Bool) → bytes_eq key f.0 ≡ b
        → is_some (field_get k (field_set key v fs)) ≡ (bytes_eq k key || is_some (field_get k fs))
        → is_some (field_get k (if b then (f.0, v) ∷ fs else f ∷ field_set key v fs))
        ≡ (bytes_eq k key || is_some (field_get k (f ∷ fs)))
    by true e rest =
        let same = (bytes_eq-Decides key f.0).0 e in
        same_branch (bytes_eq k f.0) v f.1 (field_get k fs)
        ∙ ap (λ z. bytes_eq k z || is_some (if bytes_eq k f.0 then Some f.1 else field_get k fs))
        (sym same)
    by false e rest = other_branch (bytes_eq k key) (bytes_eq k f.0) f.1 _ _ rest

-- two tests one after the other are one test of both
pub filter-filter : (f g h : List ℕ → Bool) → ((k : List ℕ) → h k ≡ (g k && f k))
    → (ks : List (List ℕ)) → filter f (filter g ks) ≡ filter h ks
filter-filter f g h both [] = refl
filter-filter f g h both (k ∷ ks) =
    by (g k) (filter-filter f g h both ks)
    ∙ ap (λ b. if b then k ∷ filter h ks else filter h ks) (sym (both k))
  where
    by : (b : Bool) → filter f (filter g ks) ≡ filter h ks
        → filter f (if b then k ∷ filter g ks else filter g ks)
        ≡ (if b && f k then k ∷ filter h ks else filter h ks)
    by true rest = ap (λ r. if f k then k ∷ r else r) rest
    by false rest = rest

abbrev pub is_fresh : Pairs → List ℕ → Bool
is_fresh met k = not (is_some (field_get k met))
