-- Where a text goes on behind what was read of it.
use Rattle.std.proofs.Common.{◌≡◌, ℕ, ◌+◌, ◌-◌, ◌<◌, ◌≤◌, List, [], ◌∷◌, ◌++◌, refl, sym, ap, ◌∙◌}
use Rattle.std.proofs.Common.{append_assoc, length, take, drop, arith}
use Rattle.std.proofs.lemmas.List.{length-append, length-drop, take-append-drop}
use Rattle.std.proofs.Math.Seq.{drop-append_seam}
use Rattle.resp_stream.specs.declared.fault.Fault.{Fault}
use Rattle.resp_stream.specs.Parsed.{Parsed, Whole, More, Bad}
use Rattle.resp_stream.specs.ReaderLaws.{IsReader}

-- what was read whole is read the same with more behind it
pub steady : {A : Type 0} (f : List ℕ → Parsed A) → IsReader f → (b r : List ℕ) (x : A)
    → f b ≡ Whole x r → (m : List ℕ) → f (b ++ m) ≡ Whole x (r ++ m)
steady f l b r x e m =
    let t = l.whole b r x e in
    ap (λ q. f (q ++ m)) t.parts ∙ ap f (append_assoc t.front r m) ∙ t.again (r ++ m)

-- and so is a fault
pub steady_bad : {A : Type 0} (f : List ℕ → Parsed A) → IsReader f → (b r : List ℕ) (g : Fault)
    → f b ≡ Bad g r → (m : List ℕ) → f (b ++ m) ≡ Bad g (r ++ m)
steady_bad f l b r g e m =
    let t = l.bad b r g e in
    grind (arith, append_assoc)

-- the rest is the text from a place on
rest_place : (q r b : List ℕ) → b ≡ q ++ r → drop (length b - length r) b ≡ r
rest_place q r b e =
    let n : length b - length r ≡ length q = omega (arith, ap length e, length-append q r) in
    ap (λ k. drop k b) n ∙ ap (λ z. drop (length q) z) e ∙ drop-append_seam q r

pub record Goes (text : List ℕ) (at : ℕ) (r : List ℕ) : Type 0 where
  pub place : drop (length text - length r) text ≡ r
  pub within : length r ≤ length text
  pub on : at < length text - length r

nonempty : (p : List ℕ) → (p ≡ [] → ⊥) → 0 < length p
nonempty [] h = absurd (h refl)
nonempty (x ∷ p) h = omega arith

pub goes : (text p r : List ℕ) (at : ℕ) → at ≤ length text → drop at text ≡ p ++ r → 0 < length p
    → Goes text at r
goes text p r at le e h =
    let whole : text ≡ (take at text ++ p) ++ r = grind (arith, take-append-drop, append_assoc) in
    let n : length text - at ≡ length p + length r =
    sym (length-drop at text) ∙ ap length e ∙ length-append p r in
    grind (arith, rest_place)

more≢whole : {A : Type 0} (x : A) (r : List ℕ) (a : Parsed A) → a ≡ More → a ≡ Whole x r → ⊥
more≢whole k r a e h = cc

-- what needs a byte takes one
pub reads_on : {A : Type 0} (f : List ℕ → Parsed A) → IsReader f → f [] ≡ More
    → (text r : List ℕ) (at : ℕ) (x : A) → at ≤ length text → f (drop at text) ≡ Whole x r
    → Goes text at r
reads_on f l none text r at x le e =
    let k = l.whole (drop at text) r x e in
    goes text k.front r at le k.parts
    (nonempty k.front
    (λ z. more≢whole x [] (f []) none (ap (λ (q : List ℕ). f (q ++ [])) (sym z) ∙ k.again [])))

-- where a fault stands
pub bad_within : {A : Type 0} (f : List ℕ → Parsed A) → IsReader f → (text r : List ℕ) (g : Fault)
    → f text ≡ Bad g r → (drop (length text - length r) text ≡ r) × (length r ≤ length text)
    × (0 < length r)
bad_within f l text r g e =
    let m = l.bad text r g e in
    grind (arith, length-append, rest_place)
