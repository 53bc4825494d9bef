-- Readers put together are readers.
use Rattle.std.proofs.Common.{◌≡◌, ℕ, List, [], ◌∷◌, ◌++◌, refl, sym, ap, ◌∙◌, append_assoc, ◌⊎◌}
use Rattle.std.proofs.Common.{inl, inr, Bool, cond, arith}
use Rattle.resp_stream.specs.declared.fault.Fault.{Fault}
use Rattle.resp_stream.specs.Parsed.{Parsed, Whole, More, Bad, Choice, Go, Stop, Move, On, Out}
use Rattle.resp_stream.specs.Parsed.{taken, moved, scan, first, ◌>>=◌}
use Rattle.resp_stream.specs.ReaderLaws.{Took, Met, Completes, IsReader}

pub append_nil : (p : List ℕ) → p ++ [] ≡ p
append_nil [] = refl
append_nil (x ∷ p) = ap (λ (q : List ℕ). x ∷ q) (append_nil p)

nothing_left : (p r : List ℕ) → [] ≡ p ++ r → r ≡ []
nothing_left [] r e = sym e
nothing_left (x ∷ p) r e = absurd cc

-- ---- one after the other

pub bind_whole : {A B : Type 0} (a : Parsed A) (f : A → List ℕ → Parsed B) (y : B) (s : List ℕ)
    → (a >>= f) ≡ Whole y s → (x : A) × (r : List ℕ) × (a ≡ Whole x r) × (f x r ≡ Whole y s)
bind_whole a f y s e = grind arith

bind_more : {A B : Type 0} (a : Parsed A) (f : A → List ℕ → Parsed B) → (a >>= f) ≡ More
    → (a ≡ More) ⊎ ((x : A) × (r : List ℕ) × (a ≡ Whole x r) × (f x r ≡ More))
bind_more a f e = grind arith

possible_by : {A : Type 0} (f : List ℕ → Parsed A) → IsReader f → (a : Parsed A) → f [] ≡ a
    → Completes f []
possible_by f l (Whole x r) e =
    let t = l.whole [] r x e in
    grind (arith, nothing_left)
possible_by f l More e = l.more [] e
possible_by f l (Bad g r) e = absurd (nowhere (l.bad [] r g e).front _ _ (l.bad [] r g e).parts)
  where
    nowhere : (p : List ℕ) (c : ℕ) (s : List ℕ) → [] ≡ p ++ c ∷ s → ⊥
    nowhere [] c s h = cc
    nowhere (x ∷ p) c s h = cc

pub possible : {A : Type 0} (f : List ℕ → Parsed A) → IsReader f → Completes f []
possible f l = possible_by f l (f []) refl

module _ {A B : Type 0} (a : List ℕ → Parsed A) (f : A → List ℕ → Parsed B) (la : IsReader a)
    (lf : (x : A) → IsReader (f x)) where
  both : List ℕ → Parsed B
  both b = a b >>= f

  -- behind a front that a reads as x, both is f x
  skip_empty : (p : List ℕ) (x : A) → ((s : List ℕ) → a (p ++ s) ≡ Whole x s) → (q : List ℕ)
      → (a (p ++ q) >>= f) ≡ f x q
  skip_empty p e h q = ap (λ r. r >>= f) (h q)

  then_whole : (b s : List ℕ) (y : B) → (a b >>= f) ≡ Whole y s → Took (λ b. a b >>= f) b y s
  then_whole b s y e =
      let w = bind_whole (a b) f y s e in
      let t = la.whole b w.1 w.0 w.2 in
      let u = (lf w.0).whole w.1 s y w.3 in
      record {
        front = t.front ++ u.front;
        parts = grind (arith, append_assoc);
        again = grind (arith, append_assoc, skip_empty);
      }

  then_bad_1 : (b s : List ℕ) (g : Fault) → a b ≡ Bad g s → Met (λ b. a b >>= f) b g s
  then_bad_1 b s g e =
      let m = la.bad b s g e in
      grind arith

  then_bad_2 : (b s : List ℕ) (g : Fault) (x : A) (r : List ℕ) → a b ≡ Whole x r → f x r ≡ Bad g s
      → Met (λ b. a b >>= f) b g s
  then_bad_2 b s g x r e h =
      let t = la.whole b r x e in
      let m = (lf x).bad r s g h in
      record {
        front = t.front ++ m.front;
        byte = m.byte;
        after = m.after;
        parts = grind (arith, append_assoc);
        rest = m.rest;
        before = skip_empty t.front x t.again m.front ∙ m.before;
        again = grind (arith, append_assoc, skip_empty);
      }

  then_more_1 : (b : List ℕ) → a b ≡ More → Completes (λ b. a b >>= f) b
  then_more_1 b e =
      let c = la.more b e in
      let t = la.whole (b ++ c.0) [] c.1 c.2 in
      let d = possible (f c.1) (lf c.1) in
      let same : b ++ c.0 ≡ t.front = t.parts ∙ append_nil t.front in (
        c.0 ++ d.0,
        d.1,
        grind (arith, append_assoc, skip_empty),
      )

  then_more_2 : (b : List ℕ) (x : A) (r : List ℕ) → a b ≡ Whole x r → f x r ≡ More
      → Completes (λ b. a b >>= f) b
  then_more_2 b x r e h =
      let t = la.whole b r x e in
      grind (arith, append_assoc, skip_empty)

  then_more : (b : List ℕ) → (a b >>= f) ≡ More → Completes (λ b. a b >>= f) b
  then_more b e =
      elim (bind_more (a b) f e) [ inl h ↦ then_more_1 b h | inr h ↦ then_more_2 b h.0 h.1 h.2 h.3 ]

  pub reader_then : IsReader (λ b. a b >>= f)
  reader_then = record {
    whole = then_whole;
    bad = grind (arith, then_bad_1, then_bad_2);
    more = then_more;
  }

-- ---- nothing more to read

pub reader_whole : {A : Type 0} (x : A) → IsReader (λ b. Whole x b)
reader_whole e = grind arith

-- ---- byte by byte

abbrev pub IsChoice : {A : Type 0} → Choice A → Type 0
IsChoice (Go g) = IsReader g
IsChoice (Stop e) = Unit {0}

abbrev pub IsMove : {S A : Type 0} → Move S A → Type 0
IsMove (On s) = Unit {0}
IsMove (Out h) = IsChoice h

module _ {S A : Type 0} (k : S → ℕ → Move S A) (lk : (s : S) (c : ℕ) → IsMove (k s c))
    (way : (s : S) → Completes (scan k s) []) where
  moved_whole : (m : Move S A) → IsMove m → (c : ℕ) (bs r : List ℕ) (x : A)
      → ((s : S) → scan k s bs ≡ Whole x r → Took (scan k s) bs x r)
      → moved m (λ t. scan k t bs) c bs ≡ Whole x r →
      (p : List ℕ) × (bs ≡ p ++ r)
      × ((z : List ℕ) → moved m (λ t. scan k t (p ++ z)) c (p ++ z) ≡ Whole x z)
  moved_whole (On s) h c bs r k ih e = let t = ih s e in (t.front, t.parts, t.again)
  moved_whole (Out (Go g)) h c bs r x ih e = let t = h.whole bs r x e in (t.front, t.parts, t.again)
  moved_whole (Out (Stop g)) h c bs r k ih e = absurd cc

  scan_whole : (b r : List ℕ) (x : A) (s : S) → scan k s b ≡ Whole x r → Took (scan k s) b x r
  scan_whole [] r h s e = absurd cc
  scan_whole (c ∷ bs) r x s e =
      let t = moved_whole (k s c) (lk s c) c bs r x (λ u. scan_whole bs r x u) e in
      record { front = c ∷ t.0; parts = ap (λ (q : List ℕ). c ∷ q) t.1; again = t.2 }

  -- what stands at fault behind the byte c, or c itself
  moved_bad : (m : Move S A) → IsMove m → (c : ℕ) (bs r : List ℕ) (g : Fault)
      → ((s : S) → scan k s bs ≡ Bad g r → Met (scan k s) bs g r)
      → moved m (λ t. scan k t bs) c bs ≡ Bad g r →
      ((r ≡ c ∷ bs) × ((z : List ℕ) → moved m (λ t. scan k t z) c z ≡ Bad g (c ∷ z)))
      ⊎ ((p : List ℕ) × (d : ℕ) × (u : List ℕ) × (bs ≡ p ++ d ∷ u) × (r ≡ d ∷ u)
      × (moved m (λ t. scan k t p) c p ≡ More)
      × ((z : List ℕ) → moved m (λ t. scan k t (p ++ d ∷ z)) c (p ++ d ∷ z) ≡ Bad g (d ∷ z)))
  moved_bad (On s) h c bs r g ih e = grind arith
  moved_bad (Out (Go f)) h c bs r g ih e = let t =
      h.bad bs r g e in inr (t.front, t.byte, t.after, t.parts, t.rest, t.before, t.again)
  moved_bad (Out (Stop f)) h c bs r g ih e = inl (cc, λ z. cc)

  scan_bad : (b r : List ℕ) (g : Fault) (s : S) → scan k s b ≡ Bad g r → Met (scan k s) b g r
  scan_bad [] r g s e = absurd cc
  scan_bad (c ∷ bs) r g s e =
      elim (moved_bad (k s c) (lk s c) c bs r g (λ u. scan_bad bs r g u) e) [
        | inl h ↦ record {
          front = [];
          byte = c;
          after = bs;
          parts = refl;
          rest = h.0;
          before = refl;
          again = h.1;
        }
        | inr h ↦ record {
          front = c ∷ h.0;
          byte = h.1;
          after = h.2;
          parts =
              ap (λ (q : List ℕ). c ∷ q) h.3;
          rest = h.4;
          before = h.5;
          again = h.6;
        }
      ]

  moved_more : (m : Move S A) → IsMove m → (c : ℕ) (bs : List ℕ)
      → ((s : S) → scan k s bs ≡ More → Completes (scan k s) bs)
      → moved m (λ t. scan k t bs) c bs ≡ More →
      (z : List ℕ) × (x : A) × (moved m (λ t. scan k t (bs ++ z)) c (bs ++ z) ≡ Whole x [])
  moved_more m h c bs ih e = grind arith

  scan_more : (b : List ℕ) (s : S) → scan k s b ≡ More → Completes (scan k s) b
  scan_more [] s e = way s
  scan_more (c ∷ bs) s e = moved_more (k s c) (lk s c) c bs (λ u. scan_more bs u) e

  pub reader_scan : (s : S) → IsReader (scan k s)
  reader_scan s = grind (arith, scan_whole, scan_bad, scan_more)

pub choice_if : {A : Type 0} (t : Bool) (x y : Choice A) → IsChoice x → IsChoice y
    → IsChoice (cond t x y)
choice_if t e y p q = grind arith

pub move_if : {S A : Type 0} (t : Bool) (x y : Move S A) → IsMove x → IsMove y → IsMove (cond t x y)
move_if t e y p q = grind arith

-- one byte leads on
first_way : {A : Type 0} (k : ℕ → Choice A) (c : ℕ) (g : List ℕ → Parsed A) → k c ≡ Go g
    → IsReader g → Completes (first k) []
first_way k c g e l = let d = possible g l in (c ∷ d.0, d.1, ap (λ h. taken h c d.0) e ∙ d.2)

pub reader_first : {A : Type 0} (k : ℕ → Choice A) → ((c : ℕ) → IsChoice (k c))
    → (c : ℕ) (g : List ℕ → Parsed A) → k c ≡ Go g → IsReader g → IsReader (first k)
reader_first {A} k lk c g e l =
    reader_scan {S = Unit {0}} (λ s b. Out (k b)) (λ s b. lk b) (λ s. first_way k c g e l) tt
