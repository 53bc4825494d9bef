-- What was got, of what was sent.
use Rattle.std.proofs.Common.{◌≡◌, ◌<◌, ℕ, zero, suc, List, [], ◌∷◌, ◌++◌, length, Bool}
use Rattle.std.proofs.Common.{true, false, cond, refl, ap, ◌∙◌, arith, Some, subst}
use Rattle.std.specs.Prelude.{slice_get}
use Rattle.std.specs.List.{filter}
use Rattle.wire_currency.specs.Traffic.{Traffic, AreGot, IsCausal}

-- ---- by places

module _ {Value Message : Type 0} (IsGot : Value → Message → Type 0) where
  pub record Came (v : Value) (ss : List (ℕ × Message)) (i : ℕ) : Type 0 where
    pub sending : ℕ × Message
    pub there : slice_get ss i ≡ Some sending
    pub is : IsGot v sending.1

  pub got_at : (vs : List Value) (ss : List (ℕ × Message)) (i : ℕ) (v : Value)
      → AreGot IsGot vs ss → slice_get vs i ≡ Some v → Came v ss i
  got_at [] ss i v a e = cc
  got_at (x ∷ vs) [] i v a e = absurd a
  got_at (x ∷ vs) (s ∷ ss) zero v a e =
      let same : x ≡ v = cc in
      record { sending = s; there = refl; is = subst (λ y. IsGot y s.1) same a.0 }
  got_at (x ∷ vs) (s ∷ ss) (suc i) v a e =
      let r = got_at vs ss i v a.1 e in
      record { sending = r.sending; there = r.there; is = r.is }

  -- a value that was got, and what it was got of
  pub record GotOf (vs : List Value) (i : ℕ) (s : ℕ × Message) : Type 0 where
    pub value : Value
    pub got : slice_get vs i ≡ Some value
    pub is : IsGot value s.1

  pub got_of : (vs : List Value) (ss : List (ℕ × Message)) (i : ℕ) (s : ℕ × Message)
      → AreGot IsGot vs ss → slice_get ss i ≡ Some s → i < length vs → GotOf vs i s
  got_of [] ss i s a e lt = absurd (let no : ⊥ = omega (arith, lt) in no)
  got_of (x ∷ vs) [] i s a e lt = absurd a
  got_of (x ∷ vs) (t ∷ ss) zero s a e lt =
      let same : t ≡ s = cc in
      record { value = x; got = refl; is = subst (λ y. IsGot x y.1) same a.0 }
  got_of (x ∷ vs) (t ∷ ss) (suc i) s a e lt =
      let r = got_of vs ss i s a.1 e (omega (arith, lt)) in
      record { value = r.value; got = r.got; is = r.is }

  -- a value that passes a test that is kept in being got, with its place among all
  pub record Kept (of : Message → Bool) (vs : List Value) (ss : List (ℕ × Message)) (j : ℕ)
      (v : Value) : Type 0 where
    pub place : ℕ
    pub sending : ℕ × Message
    pub got : slice_get vs place ≡ Some v
    pub there : slice_get ss place ≡ Some sending
    pub kept : slice_get (filter (λ (s : ℕ × Message). of s.1) ss) j ≡ Some sending
    pub is : IsGot v sending.1

  one_more : (of : Message → Bool) (v u : Value) (s : ℕ × Message) (vs : List Value)
      (ss : List (ℕ × Message)) (j k : ℕ)
      → slice_get (filter (λ (s : ℕ × Message). of s.1) (s ∷ ss)) k
      ≡ slice_get (filter (λ (s : ℕ × Message). of s.1) ss) j
      → Kept of vs ss j u → Kept of (v ∷ vs) (s ∷ ss) k u
  one_more of v u s vs ss j k e r = record {
    place = suc r.place;
    sending = r.sending;
    got = r.got;
    there = r.there;
    kept = e ∙ r.kept;
    is = r.is;
  }

  kept_here : (of : Message → Bool) (b d : Bool) (v u : Value) (s : ℕ × Message)
      (vs rest : List Value) (ss : List (ℕ × Message)) (j : ℕ)
      → b ≡ d → of s.1 ≡ d → IsGot v s.1
      → ((k : ℕ) → slice_get rest k ≡ Some u → Kept of vs ss k u)
      → slice_get (cond b (v ∷ rest) rest) j ≡ Some u → Kept of (v ∷ vs) (s ∷ ss) j u
  kept_here of true false v u s vs rest ss j e h g k f = absurd (let no : ⊥ = cc in no)
  kept_here of false true v u s vs rest ss j e h g k f = absurd (let no : ⊥ = cc in no)
  kept_here of true true v u s vs rest ss zero e h g k f =
      let same : v ≡ u = cc in record {
        place = 0;
        sending = s;
        got = f;
        there = refl;
        kept =
            ap (λ b. slice_get (cond b (s ∷ filter (λ (s : ℕ × Message). of s.1) ss)
            (filter (λ (s : ℕ × Message). of s.1) ss)) 0) h;
        is = subst (λ y. IsGot y s.1) same g;
      }
  kept_here of true true v u s vs rest ss (suc j) e h g k f =
      one_more of v u s vs ss j (suc j)
      (ap (λ b. slice_get (cond b (s ∷ filter (λ (s : ℕ × Message). of s.1) ss)
      (filter (λ (s : ℕ × Message). of s.1) ss)) (suc j)) h) (k j f)
  kept_here of false false v u s vs rest ss j e h g k f =
      one_more of v u s vs ss j j
      (ap (λ b. slice_get (cond b (s ∷ filter (λ (s : ℕ × Message). of s.1) ss)
      (filter (λ (s : ℕ × Message). of s.1) ss)) j) h) (k j f)

  pub got_kept : (test : Value → Bool) (of : Message → Bool) (vs : List Value)
      (ss : List (ℕ × Message)) (j : ℕ) (u : Value)
      → ((i : ℕ) (s : ℕ × Message) (v : Value) → slice_get ss i ≡ Some s → IsGot v s.1
      → test v ≡ of s.1)
      → AreGot IsGot vs ss → slice_get (filter test vs) j ≡ Some u → Kept of vs ss j u
  got_kept test of [] ss j u same a e = cc
  got_kept test of (v ∷ vs) [] j u same a e = absurd a
  got_kept test of (v ∷ vs) (s ∷ ss) j u same a e =
      kept_here of (test v) (of s.1) v u s vs (filter test vs) ss j (same 0 s v refl a.0) refl a.0
      (λ k g. got_kept test of vs ss k u (λ i s v at got. same (suc i) s v at got) a.1 g) e

-- ---- by entries

module _ {Wire Log Words Value Message : Type 0} (IsGot : Value → Message → Type 0)
    (x : Traffic Wire Log Words Value Message) where
  -- what is causal for a log is so for its older part
  pub causal_older : (later log : List Log) → IsCausal x (later ++ log) → IsCausal x log
  causal_older [] log h = h
  causal_older (e ∷ later) log h = causal_older later log h.1
