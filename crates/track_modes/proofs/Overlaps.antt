-- The first of the prefixes that one overlaps.
use Rattle.std.proofs.Common.{arith, ◌≡◌, ℕ, List, [], ◌∷◌, ◌++◌, Bool, true, false, cond, Option}
use Rattle.std.proofs.Common.{Some, None, refl, ap, ◌∙◌, sym, append_assoc, take, drop, get_or}
use Rattle.std.proofs.Common.{length, ◌+◌, ◌<◌, add-one}
use Rattle.std.proofs.Math.Seq.{drop-cons, take-suc}
use Rattle.std.specs.Prelude.{is_some, option_map}
use Rattle.std.specs.List.{find}
use Rattle.std.specs.Option.{option_or}
use Rattle.track_modes.specs.PrefixLists.{do_overlap, overlapped}

found_first : {X : Type 0} (b : Bool) (x : X) (f g : Option X)
    → cond b (Some x) (option_or f g) ≡ option_or (cond b (Some x) f) g
found_first true x f g = refl
found_first false x f g = refl

pub find-append : {X : Type 0} (t : X → Bool) (xs ys : List X)
    → find t (xs ++ ys) ≡ option_or (find t xs) (find t ys)
find-append t [] ys = refl
find-append t (x ∷ xs) ys =
    ap (λ r. cond (t x) (Some x) r) (find-append t xs ys)
    ∙ found_first (t x) x (find t xs) (find t ys)

-- the next prefix of the words, at place n, is looked for among those in force and those before it
pub overlap_step : (held new : List (List ℕ)) (n : ℕ) (p : List ℕ) → n < length new
    → p ≡ get_or new n p
    → overlapped (held ++ take n new) (drop n new)
    ≡ option_or (option_or (find (do_overlap p) held) (find (do_overlap p) (take n new)))
    (overlapped (held ++ take (n + 1) new) (drop (n + 1) new))
overlap_step held new n p lt is =
    grind (arith, drop-cons, find-append, append_assoc, take-suc, add-one)

-- it is found among those in force, among those before it, or not at all
module _ {X Y : Type 0} (f : X → Y) where
  pub found_held : (r : Option X) (a b rest whole : Option Y) → option_map f r ≡ a
      → is_some r ≡ true → whole ≡ option_or (option_or a b) rest → option_map f r ≡ whole
  found_held None a b rest whole e is h = cc
  found_held (Some x) a b rest whole e is h =
      ap (λ o. option_or (option_or o b) rest) e ∙ sym h

  pub found_before : (q r : Option X) (a b rest whole : Option Y) → option_map f q ≡ a
      → option_map f r ≡ b → is_some q ≡ false → is_some r ≡ true
      → whole ≡ option_or (option_or a b) rest → option_map f r ≡ whole
  found_before None None a b rest whole e g out is h = cc
  found_before None (Some x) a b rest whole e g out is h =
      ap (λ o. option_or o rest) g ∙ ap (λ o. option_or (option_or o b) rest) e ∙ sym h
  found_before (Some x) r a b rest whole e g out is h = cc

  pub not_found : (q r : Option X) (a b rest whole : Option Y) → option_map f q ≡ a
      → option_map f r ≡ b → is_some q ≡ false → is_some r ≡ false
      → whole ≡ option_or (option_or a b) rest → whole ≡ rest
  not_found None None a b rest whole e g out none h =
      h ∙ ap (λ o. option_or (option_or o b) rest) (sym e) ∙ ap (λ o. option_or o rest) (sym g)
  not_found None (Some x) a b rest whole e g out none h = cc
  not_found (Some x) r a b rest whole e g out none h = cc
