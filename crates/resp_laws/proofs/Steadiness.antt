-- Readings of longer texts.
use Rattle.std.proofs.Common.{◌≡◌, ℕ, ◌+◌, ◌-◌, ◌<◌, ◌≤◌, List, [], ◌∷◌, ◌++◌, refl, sym, ap, ◌∙◌}
use Rattle.std.proofs.Common.{append_assoc, Bool, true, false, cond, length, drop, arith}
use Rattle.std.specs.Prelude.{nat_lt}
use Rattle.std.proofs.lemmas.Bool.{lt-ltb, ltb-true}
use Rattle.std.proofs.lemmas.List.{length-append, drop-append-le}
use Rattle.resp_stream.specs.declared.fault.Fault.{Fault}
use Rattle.resp_stream.specs.declared.fault.Fault.TheVariants.{TooLong}
use Rattle.resp_stream.specs.Parsed.{Parsed, Whole, More, Bad}
use Rattle.resp_stream.specs.ReaderLaws.{IsReader}
use Rattle.resp_stream.specs.Tokens.{capped, limited, at_limit}
use Rattle.resp_stream.specs.Request.{whole_limit, request_begun, request_at}
use Rattle.resp_stream.specs.Value.{value_in, value_at}
use Rattle.resp_stream.proofs.Places.{steady, steady_bad}
use Rattle.resp_stream.proofs.RequestLimits.{limited_le}
use Rattle.resp_stream.proofs.Capped.{capped_whole, whole_within, whole_over, more_over}
use Rattle.resp_stream.proofs.Capped.{bad_limited}
use Rattle.resp_stream.proofs.RequestLaws.{reader_request}
use Rattle.resp_stream.proofs.ValueLaws.{reader_value}
use Rattle.resp_laws.specs.Streams.{Unfinished, FirstFault, Steady, NoneBeginsAnother}

pub unfinished : {A : Type 0} (f : List ℕ → Parsed A) → IsReader f → Unfinished f
unfinished f l b e = let c = l.more b e in (c.0, c.1, [], c.2)

never : {A : Type 0} (x : A) (r s : List ℕ) (g : Fault) (a : Parsed A) → a ≡ Whole x r → a ≡ Bad g s
    → ⊥
never k r s g a e h = cc

pub first_fault : {A : Type 0} (f : List ℕ → Parsed A) → IsReader f → FirstFault f
first_fault f l b r g e =
    let m = l.bad b r g e in grind (arith, unfinished, never, append_assoc)

pub steady_begun : {A : Type 0} (f : List ℕ → Parsed A) → IsReader f → Steady f
steady_begun f l = grind (arith, steady, steady_bad)

-- ---- under the limit of the whole

before : (b p m s : List ℕ) (c : ℕ) → b ++ m ≡ p ++ c ∷ s → ((z : List ℕ) → b ≡ p ++ c ∷ z → ⊥)
    → length b ≤ length p
before [] p m s c h k = omega arith
before (x ∷ b) [] m s c h k = let e : x ≡ c = cc in absurd (k b (ap (λ q. q ∷ b) e))
before (x ∷ b) (y ∷ p) m s c h k =
    let e : x ≡ y = cc in
    let t : b ++ m ≡ p ++ c ∷ s = cc in
    omega (arith, before b p m s c t (λ z w. k z (λ i. e i ∷ w i)))

past : (b p m r : List ℕ) → b ++ m ≡ p ++ r → ((z : List ℕ) → b ≡ p ++ z → ⊥) → length b < length p
past b [] m r h k = absurd (k b refl)
past [] (y ∷ p) m r h k = omega arith
past (x ∷ b) (y ∷ p) m r h k =
    let e : x ≡ y = cc in
    let t : b ++ m ≡ p ++ r = cc in
    omega (arith, past b p m r t (λ z w. k z (λ i. e i ∷ w i)))

-- what needs more bytes takes them all
took_all : {A : Type 0} (f : List ℕ → Parsed A) (b p m r : List ℕ) → f b ≡ More → b ++ m ≡ p ++ r
    → ((z : List ℕ) → f (p ++ z) ≡ More → ⊥) → length b < length p
took_all f b p m r e h never_more = past b p m r h (λ z k. never_more z (ap f (sym k) ∙ e))

over : ℕ → ℕ → Fault → Bool → Fault × ℕ
over most o g t =
    cond t (TooLong (most + 1), most) (cond (nat_lt o most) (g, o) (at_limit g most, o))

limited_over : (most o : ℕ) (g : Fault) → most < o → limited most o g ≡ (TooLong (most + 1), most)
unfolding over
limited_over most o g lt = ap (over most o g) (lt-ltb most o lt)

module _ {A : Type 0} (most : ℕ) (f : List ℕ → Parsed A) (l : IsReader f) where
  keeps : (b r : List ℕ) (x : A) → capped most b (f b) ≡ Whole x r → (m : List ℕ)
      → capped most (b ++ m) (f (b ++ m)) ≡ Whole x (r ++ m)
  keeps b r h e m = grind (arith, capped_whole, whole_within, steady, length-append)

  -- more bytes than the limit, none of which makes it whole or is at fault: so they are too many
  too_many : (b m : List ℕ) → f b ≡ More → most < length b → (a : Parsed A) → f (b ++ m) ≡ a
      → capped most (b ++ m) (f (b ++ m)) ≡ Bad (TooLong (most + 1)) (drop most (b ++ m))
  too_many b m e lt (Whole x s) h =
      let k = l.whole (b ++ m) s x h in
      let n =
      took_all f b k.front m s e k.parts
      (λ z w. grind arith) in
      grind (arith, whole_over, length-append)
  too_many b m e lt More h =
      more_over most (b ++ m) (f (b ++ m)) h (omega (arith, length-append b m))
  too_many b m e lt (Bad g s) h =
      let k = l.bad (b ++ m) s g h in
      grind (arith, before, length-append, bad_limited, limited_over)

  same_fault : (b m r : List ℕ) (g : Fault)
      → ◌≡◌ {A = Parsed A} (Bad (TooLong (most + 1)) (drop most b)) (Bad g r) → most ≤ length b
      → ◌≡◌ {A = Parsed A} (Bad (TooLong (most + 1)) (drop most (b ++ m))) (Bad g (r ++ m))
  same_fault b m r g e le = grind (arith, drop-append-le)

  whole_case : (b m r s : List ℕ) (x : A) (g : Fault) (t : Bool)
      → nat_lt most (length b - length s) ≡ t → f b ≡ Whole x s
      → cond t (Bad (TooLong (most + 1)) (drop most b)) (Whole x s) ≡ Bad g r
      → capped most (b ++ m) (f (b ++ m)) ≡ Bad g (r ++ m)
  whole_case b m r s p g false h e k = absurd cc
  whole_case b m r s x g true h e k =
      let lt : most < length b - length s = ltb-true most (length b - length s) h in
      whole_over most (b ++ m) (f (b ++ m)) x (s ++ m) (steady f l b s x e m)
      (omega (arith, length-append b m, length-append s m)) ∙ same_fault b m r g k (omega arith)

  more_case : (b m r : List ℕ) (g : Fault) (t : Bool) → nat_lt most (length b) ≡ t → f b ≡ More
      → ◌≡◌ {A = Parsed A} (cond t (Bad (TooLong (most + 1)) (drop most b)) More) (Bad g r)
      → capped most (b ++ m) (f (b ++ m)) ≡ Bad g (r ++ m)
  more_case b m r g t h e k = grind (arith, ltb-true, too_many, same_fault)

  bad_case : (b m r s : List ℕ) (g k : Fault) → f b ≡ Bad k s
      → ◌≡◌ {A = Parsed A}
      (Bad (limited most (length b - length s) k).0
      (drop (limited most (length b - length s) k).1 b)) (Bad g r)
      → capped most (b ++ m) (f (b ++ m)) ≡ Bad g (r ++ m)
  bad_case b m r s g k e h =
      let o : length (b ++ m) - length (s ++ m) ≡ length b - length s =
      omega (arith, length-append b m, length-append s m) in
      let le : (limited most (length b - length s) k).1 ≤ length b =
      omega (arith, limited_le most (length b - length s) k) in
      grind (arith, bad_limited, steady_bad, drop-append-le)

  keeps_bad : (b m r : List ℕ) (g : Fault) (a : Parsed A) → f b ≡ a → capped most b a ≡ Bad g r
      → capped most (b ++ m) (f (b ++ m)) ≡ Bad g (r ++ m)
  keeps_bad b m r g (Whole x s) e h =
      whole_case b m r s x g (nat_lt most (length b - length s)) refl e h
  keeps_bad b m r g More e h = more_case b m r g (nat_lt most (length b)) refl e h
  keeps_bad b m r g (Bad k s) e h = bad_case b m r s g k e h

  pub steady_capped : Steady (λ b. capped most b (f b))
  steady_capped = grind (arith, keeps, keeps_bad)

pub steady_requests : Steady request_at
unfolding request_at
steady_requests = let s = steady_capped whole_limit request_begun reader_request in
    record { whole = s.whole; bad = s.bad }

pub steady_values : Steady value_at
unfolding value_at
steady_values = let s = steady_capped whole_limit (value_in 8) (reader_value 8) in
    record { whole = s.whole; bad = s.bad }

pub same_answer : {A : Type 0} (t u : A) (x y : List ℕ) (a : Parsed A) → a ≡ Whole t x
    → a ≡ Whole u y → (t ≡ u) × (x ≡ y)
same_answer t u k y a e h = (cc, cc)

pub no_prefix : NoneBeginsAnother
no_prefix x y t u e h = same_answer t u y [] (value_at (x ++ y)) (steady_values.whole x [] t e y) h
