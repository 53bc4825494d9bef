-- The places of the prefixes that a key starts with, by their length.
use Rattle.std.proofs.Common.{◌≡◌, ◌<◌, ◌≤◌, ◌+◌, ℕ, List, [], ◌∷◌, ◌++◌, Bool, true, false, cond}
use Rattle.std.proofs.Common.{length, take, refl, sym, ap, subst, ◌∙◌, inl, inr, arith}
use Rattle.std.specs.Prelude.{◌==◌, ◌||◌, filter}
use Rattle.std.specs.Cmp.{both_ways}
use Rattle.std.specs.List.{range_with_len}
use Rattle.std.specs.Ordering.{is_lt}
use Rattle.std.specs.declared.cmp.Ordering.TheVariants.{Less}
use Rattle.std.proofs.lemmas.Bool.{cases_lt}
use Rattle.std.proofs.lemmas.Bool.Decides.{nat_tests}
use Rattle.std.proofs.lemmas.Cmp.{nat_list_cmp_total}
use Prim.Native.Nat.{zero, suc}
use Rattle.prefix_table.specs.declared.table.Registration.{Registration}
use Rattle.prefix_table.specs.Table.{byte_order, places_of, prefix_at, starts_with_at}
use Rattle.prefix_table.specs.Fronts.{IsFirstFrom, common, shorter, shorter_at}
use Rattle.prefix_table.specs.Order.{AreInOrder, ComesBefore}
use Rattle.prefix_table.specs.Places.{AllBefore}
use Rattle.prefix_table.proofs.Fronts.{IsFrontOf, before_longer, between, common_right}
use Rattle.prefix_table.proofs.Fronts.{common_starts, not_before_common}
use Rattle.prefix_table.proofs.Fronts.{not_before_shorter, starts_common}

-- ---- the order of places

comes_at : (q : List ℕ) (rs : List Registration) (j : ℕ) → ComesBefore q rs → j < length rs
    → byte_order q (prefix_at rs j) ≡ Less
comes_at q [] j h lt = absurd (omega arith)
comes_at q (r ∷ rs) zero h lt = h.0
comes_at q (r ∷ rs) (suc j) h lt = comes_at q rs j h.1 (omega arith)

pub in_order : (rs : List Registration) (i j : ℕ) → AreInOrder rs → i < j → j < length rs
    → byte_order (prefix_at rs i) (prefix_at rs j) ≡ Less
in_order [] i j h lt within = absurd (omega arith)
in_order (r ∷ rs) i zero h lt within = absurd (omega arith)
in_order (r ∷ rs) zero (suc j) h lt within = comes_at r.prefix rs j h.0 (omega arith)
in_order (r ∷ rs) (suc i) (suc j) h lt within = in_order rs i j h.1 (omega arith) (omega arith)

pub all_up_to : (prefix : List ℕ) (rs : List Registration) (n : ℕ) → AreInOrder rs
    → n < length rs → is_lt (byte_order (prefix_at rs n) prefix) ≡ true
    → AllBefore prefix rs (n + 1)
all_up_to prefix rs n h within before i lt =
    let less : byte_order (prefix_at rs n) prefix ≡ Less = grind arith in
    elim (cases_lt i n) [
      | inl below ↦ nat_list_cmp_total.trans (prefix_at rs i) (prefix_at rs n) prefix
          (in_order rs i n h below within) less
      | inr above ↦
          let here : n ≡ i = omega arith in
          ap (λ k. byte_order (prefix_at rs k) prefix) (sym here) ∙ less
    ]

-- ---- which places pass two tests

abbrev pub kept : (ℕ → Bool) → ℕ → ℕ → List ℕ
kept p a m = filter p (range_with_len a m)

pub kept_same : (p q : ℕ → Bool) (a m : ℕ) → ((i : ℕ) → a ≤ i → i < a + m → p i ≡ q i)
    → kept p a m ≡ kept q a m
kept_same p q a zero same = refl
kept_same p q a (suc m) same =
    ap (λ b. cond b (a ∷ kept p (a + 1) m) (kept p (a + 1) m)) (same a (omega arith) (omega arith))
    ∙ ap (λ l. cond (q a) (a ∷ l) l)
    (kept_same p q (a + 1) m (λ i le lt. same i (omega arith) (omega arith)))

pub kept_none : (p : ℕ → Bool) (a m : ℕ) → ((i : ℕ) → a ≤ i → i < a + m → p i ≡ false)
    → kept p a m ≡ []
kept_none p a zero none = refl
kept_none p a (suc m) none =
    ap (λ b. cond b (a ∷ kept p (a + 1) m) (kept p (a + 1) m)) (none a (omega arith) (omega arith))
    ∙ kept_none p (a + 1) m (λ i le lt. none i (omega arith) (omega arith))

-- one place more, behind those that passed
kept_more : (p q : ℕ → Bool) (n a m : ℕ) → a ≤ n → n < a + m
    → ((i : ℕ) → i < a + m → p i ≡ true → i < n)
    → ((i : ℕ) → i < a + m → q i ≡ (p i || i == n))
    → kept q a m ≡ kept p a m ++ n ∷ []
kept_more p q n a zero le lt below is = absurd (omega arith)
kept_more p q n a (suc m) le lt below is = elim (cases_lt a n) [
  | inl before ↦
      let same : q a ≡ p a = grind (arith, nat_tests, is a (omega arith)) in
      let rest = kept_more p q n (a + 1) m (omega arith) (omega arith)
      (λ i k. below i (omega arith)) (λ i k. is i (omega arith)) in
      ap (λ b. cond b (a ∷ kept q (a + 1) m) (kept q (a + 1) m)) same
      ∙ ap (λ l. cond (p a) (a ∷ l) l) rest
      ∙ by (p a) (kept p (a + 1) m)
  | inr here ↦
      let at : n ≡ a = omega arith in
      let p_none : (i : ℕ) → a ≤ i → i < a + suc m → p i ≡ false =
      λ i k l. grind (arith, below i l) in
      let q_none : (i : ℕ) → a + 1 ≤ i → i < a + 1 + m → q i ≡ false =
      λ i k l. grind (arith, nat_tests, is i (omega arith), p_none i (omega arith) (omega arith)) in
      let q_here : q a ≡ true = grind (arith, nat_tests, is a (omega arith)) in
      ap (λ b. cond b (a ∷ kept q (a + 1) m) (kept q (a + 1) m)) q_here
      ∙ ap (λ l. a ∷ l) (kept_none q (a + 1) m q_none)
      ∙ ap (λ k. k ∷ []) (sym at)
      ∙ ap (λ l. l ++ n ∷ []) (sym (kept_none p a (suc m) p_none))
]
  where
    by : (b : Bool) (l : List ℕ)
        → cond b (a ∷ (l ++ n ∷ [])) (l ++ n ∷ []) ≡ cond b (a ∷ l) l ++ n ∷ []
    by true l = refl
    by false l = refl

-- ---- the places so far

module _ (key : List ℕ) (rs : List Registration) (h : AreInOrder rs) where
  abbrev prefix : ℕ → List ℕ
  prefix i = prefix_at rs i

  parts : (n i : ℕ) → shorter_at key rs n i ≡ true
      → IsFrontOf (prefix i) key × (length (prefix i) < n)
  parts n i e = (starts_common (prefix i) key (grind arith), grind (arith, nat_tests))

  passes : (n i : ℕ) → IsFrontOf (prefix i) key → length (prefix i) < n
      → shorter_at key rs n i ≡ true
  passes n i is lt = grind (arith, nat_tests, common_starts (prefix i) key is)

  all_shorter : (n i : ℕ) → (IsFrontOf (prefix i) key → length (prefix i) < n)
      → shorter_at key rs n i ≡ starts_with_at key rs i
  all_shorter n i short = both_ways (shorter_at key rs n i) (starts_with_at key rs i)
      (λ e. common_starts (prefix i) key (parts n i e).0)
      (λ e. let is = starts_common (prefix i) key e in passes n i is (short is))

  module _ (n place : ℕ) (le : n ≤ length key) (from : IsFirstFrom (take n key) rs place) where
    -- a prefix that is as long as the front or longer stands from the place on
    not_behind : (i : ℕ) → i < length rs → IsFrontOf (prefix i) key → n ≤ length (prefix i)
        → place ≤ i
    not_behind i within is long = elim (cases_lt i place) [
      | inl before ↦
          let less = from.1 i before in
          let no = not_before_shorter (prefix i) key n is long in
          absurd (let clash : true ≡ false = ap is_lt (sym less) ∙ no in cc)
      | inr behind ↦ behind
    ]

    -- and a shorter one stands before it
    behind : (i : ℕ) → i < length rs → IsFrontOf (prefix i) key → length (prefix i) < n → i < place
    behind i within is short = elim (cases_lt i place) [
      | inl before ↦ before
      | inr above ↦
          let less = before_longer (prefix i) key n is short le in
          let first : byte_order (prefix place) (take n key) ≡ Less = elim (cases_lt place i) [
            | inl after ↦ nat_list_cmp_total.trans (prefix place) (prefix i) (take n key)
                (in_order rs place i h after within) less
            | inr same ↦
                let here : i ≡ place = omega arith in
                ap (λ k. byte_order (prefix k) (take n key)) (sym here) ∙ less
          ] in
          let no = from.2 (omega arith) in
          absurd (let clash : true ≡ false = ap is_lt (sym first) ∙ no in cc)
    ]

    -- where the prefix at the place does not have the front, no longer one is there
    pub none_longer : (place < length rs → common (prefix place) key < n) → (i : ℕ) → i < length rs
        → IsFrontOf (prefix i) key → length (prefix i) < n
    none_longer short i within is = elim (cases_lt (length (prefix i)) n) [
      | inl below ↦ below
      | inr long ↦
          let le_i = not_behind i within is long in
          let shorter_place = short (omega arith) in
          elim (cases_lt place i) [
            | inl after ↦
                let some = between (prefix place) (prefix i) key n (from.2 (omega arith))
                (in_order rs place i h after within) is long in
                absurd (omega arith)
            | inr same ↦
                let here : i ≡ place = omega arith in
                let of_i = ap (λ k. common (prefix k) key) here in
                absurd (omega (arith, is, of_i, shorter_place, long))
          ]
    ]

    -- of the prefixes up to what it has in common with the key, it is the only one
    pub only_one : (i : ℕ) → i < length rs → IsFrontOf (prefix i) key → n ≤ length (prefix i)
        → length (prefix i) ≤ common (prefix place) key → i ≡ place
    only_one i within is long short =
        let le_i = not_behind i within is long in
        elim (cases_lt place i) [
          | inl after ↦ absurd (not_before_common (prefix place) (prefix i) key short is
              (in_order rs place i h after within))
          | inr same ↦ omega arith
        ]

    module _ (there : place < length rs) (enough : n ≤ common (prefix place) key) where
      abbrev agreed : ℕ
      agreed = common (prefix place) key

      -- the prefix at the place is found, where the key has all its bytes
      pub one_found : agreed ≡ length (prefix place)
          → shorter key rs (agreed + 1) ≡ shorter key rs n ++ place ∷ []
      one_found whole =
          kept_more (shorter_at key rs n) (shorter_at key rs (agreed + 1)) place 0 (length rs)
          (omega arith) (omega arith)
          (λ i lt e. let short = parts n i e in behind i (omega arith) short.0 short.1)
          (λ i lt. both_ways (shorter_at key rs (agreed + 1) i)
          (shorter_at key rs n i || i == place) (forth i (omega arith)) (back i))
        where
          forth : (i : ℕ) → i < length rs → shorter_at key rs (agreed + 1) i ≡ true
              → (shorter_at key rs n i || i == place) ≡ true
          forth i lt e =
              let short = parts (agreed + 1) i e in
              elim (cases_lt (length (prefix i)) n) [
                | inl below ↦
                    let yes = passes n i short.0 below in grind arith
                | inr long ↦
                    let at = only_one i lt short.0 long (omega (arith, short.1)) in
                    grind (arith, nat_tests)
              ]

          back : (i : ℕ) → (shorter_at key rs n i || i == place) ≡ true
              → shorter_at key rs (agreed + 1) i ≡ true
          back i e =
              elim (shorter_at key rs n i) as (λ b. shorter_at key rs n i ≡ b
              → (b || i == place) ≡ true → shorter_at key rs (agreed + 1) i ≡ true) [
                | true ↦ λ is e'.
                    let short = parts n i is in
                    passes (agreed + 1) i short.0 (omega (arith, short.1))
                | false ↦ λ is e'.
                    let at : i ≡ place = grind (arith, nat_tests) in
                    subst (λ k. shorter_at key rs (agreed + 1) k ≡ true) (sym at)
                    (passes (agreed + 1) place whole (omega (arith, whole)))
              ] refl e

      -- and no prefix is, where it does not
      pub none_found : (agreed ≡ length (prefix place) → ⊥)
          → shorter key rs (agreed + 1) ≡ shorter key rs n
      none_found not_whole =
          kept_same (shorter_at key rs (agreed + 1)) (shorter_at key rs n) 0 (length rs)
          (λ i k lt. both_ways (shorter_at key rs (agreed + 1) i) (shorter_at key rs n i)
          (forth i (omega arith)) (λ e.
          let short = parts n i e in passes (agreed + 1) i short.0 (omega (arith, short.1))))
        where
          forth : (i : ℕ) → i < length rs → shorter_at key rs (agreed + 1) i ≡ true
              → shorter_at key rs n i ≡ true
          forth i lt e =
              let short = parts (agreed + 1) i e in
              elim (cases_lt (length (prefix i)) n) [
                | inl below ↦ passes n i short.0 below
                | inr long ↦
                    let at = only_one i lt short.0 long (omega (arith, short.1)) in
                    absurd (not_whole (subst (λ k. IsFrontOf (prefix k) key) at short.0))
              ]

    pub all_found : (place < length rs → common (prefix place) key < n)
        → shorter key rs n ≡ places_of key rs
    all_found short =
        kept_same (shorter_at key rs n) (starts_with_at key rs) 0 (length rs)
        (λ i k lt. all_shorter n i (none_longer short i (omega arith)))

  pub all_ended : (n : ℕ) → length key < n → shorter key rs n ≡ places_of key rs
  all_ended n lt =
      kept_same (shorter_at key rs n) (starts_with_at key rs) 0 (length rs)
      (λ i k l. all_shorter n i (λ is. omega (arith, is, common_right (prefix i) key)))

  pub none_yet : shorter key rs 0 ≡ []
  none_yet =
      kept_none (shorter_at key rs 0) 0 (length rs)
      (λ i k lt. elim (shorter_at key rs 0 i) as (λ b. shorter_at key rs 0 i ≡ b → b ≡ false) [
        | true ↦ λ e. absurd (omega (arith, (parts 0 i e).1))
        | false ↦ λ e. refl
      ] refl)
