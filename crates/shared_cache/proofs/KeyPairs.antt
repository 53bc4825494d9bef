-- The keys of the cache hold what is held.
use Rattle.std.proofs.Common.{◌≡◌, ◌-◌, ◌<◌, ◌≤◌, ◌++◌, ◌⊎◌, ℕ, zero, suc, List, [], ◌∷◌, length}
use Rattle.std.proofs.Common.{take, Bool, true, false, cond, not, Option, Some, None, sym, ap, ◌∙◌}
use Rattle.std.proofs.Common.{refl, subst, inl, inr, arith, append-nil}
use Rattle.std.specs.List.{filter}
use Rattle.std.specs.Map.{lookup_entry, remove_entry}
use Rattle.std.specs.Option.{option_map_or}
use Rattle.std.specs.Str.{bytes_eq}
use Rattle.std.specs.Prelude.{nat_lt}
use Rattle.std.proofs.lemmas.List.{take_all}
use Rattle.std.proofs.lemmas.Bool.{cases_Bool, cases_lt, and_parts, lt-ltb, le-ltb}
use Rattle.resp_value.specs.declared.value.Value.{Value}
use Rattle.std.proofs.lemmas.List.Elements.{filter-append}
use Rattle.std.proofs.lemmas.Grind.{common_steps}
use Rattle.lru.specs.LruCache.{promoted}
use Rattle.command_words.specs.Queries.{key_of, same_query}
use Rattle.shared_cache.specs.declared.entry.CacheEntry.{CacheEntry}
use Rattle.shared_cache.specs.Held.{Key, Words, held_for, has_key, keys_held, earliest, key_held}
use Rattle.shared_cache.specs.Held.{leaving, used_at}
use Rattle.shared_cache.specs.Laws.{Every}
use Rattle.shared_cache.proofs.Filled.{filled, is_gone, replied_to}
use Rattle.shared_cache.proofs.InPlace.{all_stay, filters_turn}
use Rattle.shared_cache.proofs.Every.{every_weaker, every_both}
use Rattle.shared_cache.specs.HeldKeys.{Pairs, found_in, entries_of, others, stored, stored_alone}
use Rattle.shared_cache.specs.HeldKeys.{of_key}
use Rattle.shared_cache.specs.HeldKeys.{but_key, ArePairsOf, IsByUse}
use Rattle.shared_cache.proofs.KeyTests.{same_bytes, bytes_same}
use Rattle.shared_cache.proofs.Capacity.{has_kept, but_none, less_key, last_has, least, none_goes}

-- ---- filters by key

bytes_turn_not : (j k : Key) → bytes_eq j k ≡ false → bytes_eq k j ≡ false
bytes_turn_not j k e = grind (arith, common_steps, bytes_same k j, same_bytes k)

-- what is of one key is not of another
of_other : (j k : Key) (hs : List CacheEntry) → bytes_eq j k ≡ false
    → of_key j (but_key k hs) ≡ of_key j hs
of_other j k [] e = refl
of_other j k (h ∷ hs) e = grind (arith, bytes_same, bytes_turn_not, of_other j k hs e)

none_but : (k : Key) (hs : List CacheEntry) → has_key k (but_key k hs) ≡ false
none_but k [] = refl
none_but k (h ∷ hs) = grind (arith, common_steps, none_but k hs)

-- ---- a query

same_key : (p q : Words) → same_query p q ≡ true → bytes_eq (key_of p) (key_of q) ≡ true
same_key p q e = grind (arith, and_parts)

held_kept : (t : CacheEntry → Bool) (q : Words) (hs : List CacheEntry)
    → ((h : CacheEntry) → same_query h.query q ≡ true → t h ≡ true)
    → held_for q (filter t hs) ≡ held_for q hs
held_kept t q [] stays = refl
held_kept t q (h ∷ hs) stays = grind (arith, common_steps, held_kept t q hs stays, stays h)

pub pairs_found : (q : Words) (pairs : Pairs) (hs : List CacheEntry) → ArePairsOf pairs hs
    → found_in q pairs ≡ held_for q hs
pairs_found q [] hs s = ap (held_for q) (sym s)
pairs_found q (p ∷ pairs) hs s = elim (cases_Bool (bytes_eq (key_of q) p.0)) [
  | inl same ↦
      ap (λ b. option_map_or (λ r. held_for q r.1)
      (cond b (Some p) (lookup_entry (bytes_eq (key_of q)) pairs)) None) same
      ∙ ap (held_for q) s.0
      ∙ held_kept (λ h. bytes_eq (key_of h.query) p.0) q hs
      (λ h e. ap (λ k. bytes_eq (key_of h.query) k) (sym (bytes_same (key_of q) p.0 same))
      ∙ same_key h.query q e)
  | inr other ↦
      ap (λ b. option_map_or (λ r. held_for q r.1)
      (cond b (Some p) (lookup_entry (bytes_eq (key_of q)) pairs)) None) other
      ∙ pairs_found q pairs (but_key p.0 hs) s.2
      ∙ held_kept (λ h. not (bytes_eq (key_of h.query) p.0)) q hs
      (λ h e. ap not
      (ap (λ k. bytes_eq k p.0) (bytes_same (key_of h.query) (key_of q) (same_key h.query q e))
      ∙ other))
]

-- ---- a key goes

pub pairs_without : (k : Key) (pairs : Pairs) (hs : List CacheEntry) → ArePairsOf pairs hs
    → ArePairsOf (remove_entry (bytes_eq k) pairs) (but_key k hs)
pairs_without k [] hs s = ap (but_key k) s
pairs_without k (p ∷ pairs) hs s = elim (cases_Bool (bytes_eq k p.0)) [
  | inl same ↦
      subst (λ b. ArePairsOf (cond b pairs (p ∷ remove_entry (bytes_eq k) pairs)) (but_key k hs))
      (sym same)
      (subst (λ j. ArePairsOf pairs (but_key j hs)) (sym (bytes_same k p.0 same)) s.2)
  | inr other ↦
      let apart = bytes_turn_not k p.0 other in
      subst (λ b. ArePairsOf (cond b pairs (p ∷ remove_entry (bytes_eq k) pairs)) (but_key k hs))
      (sym other) (
        s.0 ∙ sym (of_other p.0 k hs apart),
        has_kept (λ j. bytes_eq j k) p.0 hs apart ∙ s.1,
        subst (ArePairsOf (remove_entry (bytes_eq k) pairs))
            (filters_turn (λ h. not (bytes_eq (key_of h.query) k))
            (λ h. not (bytes_eq (key_of h.query) p.0)) hs)
            (pairs_without k pairs (but_key p.0 hs) s.2),
      )
]

-- ---- the pair of a key

pub record IsPairOf (k : Key) (hs : List CacheEntry) (p : Key × List CacheEntry) : Type 0 where
  pub key_is : bytes_eq k p.0 ≡ true
  pub entries_are : p.1 ≡ of_key p.0 hs
  pub is_held : has_key p.0 hs ≡ true

pub pair_is : (k : Key) (pairs : Pairs) (hs : List CacheEntry) (p : Key × List CacheEntry)
    → ArePairsOf pairs hs → lookup_entry (bytes_eq k) pairs ≡ Some p → IsPairOf k hs p
pair_is k [] hs p s e = cc
pair_is k (r ∷ pairs) hs p s e = elim (cases_Bool (bytes_eq k r.0)) [
  | inl same ↦
      let is : Some r ≡ Some p
      = sym (ap (λ b. cond b (Some r) (lookup_entry (bytes_eq k) pairs)) same) ∙ e in
      let is_ : r ≡ p = cc in
      subst (IsPairOf k hs) is_ (record { key_is = same; entries_are = s.0; is_held = s.1 })
  | inr other ↦
      let i = pair_is k pairs (but_key r.0 hs) p s.2
      (sym (ap (λ b. cond b (Some r) (lookup_entry (bytes_eq k) pairs)) other) ∙ e) in
      let apart : bytes_eq p.0 r.0 ≡ false
      = ap (λ j. bytes_eq j r.0) (sym (bytes_same k p.0 i.key_is)) ∙ other in
      record {
        key_is = i.key_is;
        entries_are = i.entries_are ∙ of_other p.0 r.0 hs apart;
        is_held = sym (has_kept (λ j. bytes_eq j r.0) p.0 hs apart) ∙ i.is_held;
      }
]

-- a key that is held has its pair
pub pair_of : (k : Key) (pairs : Pairs) (hs : List CacheEntry) → ArePairsOf pairs hs
    → lookup_entry (bytes_eq k) pairs ≡ None → has_key k hs ≡ false
pair_of k [] hs s e = ap (has_key k) s
pair_of k (r ∷ pairs) hs s e = grind (
  arith,
  common_steps,
  has_kept (λ j. bytes_eq j r.0) k hs,
  pair_of k pairs (but_key r.0 hs) s.2,
)

-- ---- a key is used

first_of : (k : Key) (pairs : Pairs) (hs : List CacheEntry) (o : Option (Key × List CacheEntry))
    → ArePairsOf pairs hs → lookup_entry (bytes_eq k) pairs ≡ o
    → ArePairsOf (option_map_or (λ e. e ∷ remove_entry (bytes_eq k) pairs) o pairs) hs
first_of k pairs hs None s e = s
first_of k pairs hs (Some p) s e =
    let i = pair_is k pairs hs p s e in (
      i.entries_are,
      i.is_held,
      subst (λ j. ArePairsOf (remove_entry (bytes_eq k) pairs) (but_key j hs))
          (bytes_same k p.0 i.key_is) (pairs_without k pairs hs s),
    )

pub pairs_promoted : (k : Key) (pairs : Pairs) (hs : List CacheEntry) → ArePairsOf pairs hs
    → ArePairsOf (promoted (bytes_eq k) pairs) hs
pairs_promoted k pairs hs s = first_of k pairs hs (lookup_entry (bytes_eq k) pairs) s refl

-- ---- how many keys there are

pub pairs_count : (pairs : Pairs) (hs : List CacheEntry) → ArePairsOf pairs hs
    → length pairs ≡ keys_held hs
pairs_count [] hs s = ap keys_held (sym s)
pairs_count (p ∷ pairs) hs s = grind (arith, less_key, pairs_count pairs (but_key p.0 hs) s.2)

-- ---- the last key

abbrev pub last_key : Key → Pairs → Key
last_key k [] = k
last_key k (p ∷ pairs) = last_key p.0 pairs

kept_has : (k j : Key) (hs : List CacheEntry) → has_key j (but_key k hs) ≡ true
    → has_key j hs ≡ true
kept_has k j [] e = e
kept_has k j (h ∷ hs) e = grind (arith, common_steps, kept_has k j hs)

last_held : (k : Key) (pairs : Pairs) (hs : List CacheEntry) → has_key k hs ≡ true
    → ArePairsOf pairs (but_key k hs) → has_key (last_key k pairs) hs ≡ true
last_held k [] hs h s = h
last_held k (p ∷ pairs) hs h s = grind (arith, kept_has, last_held p.0 pairs (but_key k hs) s.1 s.2)

-- without its last key
pub pairs_shorter : (p : Key × List CacheEntry) (pairs : Pairs) (hs : List CacheEntry)
    → ArePairsOf (p ∷ pairs) hs
    → ArePairsOf (take (length pairs) (p ∷ pairs)) (but_key (last_key p.0 pairs) hs)
pairs_shorter p [] hs s = s.2
pairs_shorter p (r ∷ pairs) hs s =
    let l = last_key r.0 pairs in
    let rest = pairs_shorter r pairs (but_key p.0 hs) s.2 in
    let there = last_held r.0 pairs (but_key p.0 hs) s.2.1 s.2.2 in
    let apart : bytes_eq p.0 l ≡ false =
    grind (arith, common_steps, there, bytes_same p.0 l, none_but p.0 hs) in (
      s.0 ∙ sym (of_other p.0 l hs apart),
      has_kept (λ j. bytes_eq j l) p.0 hs apart ∙ s.1,
      grind (arith, filters_turn),
    )

-- ---- an entry comes

of_none : (k : Key) (hs : List CacheEntry) → has_key k hs ≡ false → of_key k hs ≡ []
of_none k [] e = refl
of_none k (h ∷ hs) e = grind (arith, common_steps, of_none k hs)

-- to a key that is there
stored_again : (most : ℕ) (h : CacheEntry) (pairs : Pairs) (hs : List CacheEntry)
    (p : Key × List CacheEntry) → ArePairsOf pairs hs
    → lookup_entry (bytes_eq (key_of h.query)) pairs ≡ Some p
    → ArePairsOf (stored most h pairs) (hs ++ h ∷ [])
stored_again most h pairs hs p s e =
    let k = key_of h.query in
    let i = pair_is k pairs hs p s e in
    let key_is : p.0 ≡ k = sym (bytes_same k p.0 i.key_is) in
    grind (arith, last_has, pairs_without, filter-append, same_bytes, append-nil)

-- ---- the last key is the one used earliest

last_less : (use_of : Key → ℕ) (n : ℕ) (p : Key × List CacheEntry) (pairs : Pairs) → use_of p.0 < n
    → Every (λ r. use_of r.0 < n) pairs → use_of (last_key p.0 pairs) < n
last_less use_of n p [] lt all = lt
last_less use_of n p (r ∷ pairs) lt all = last_less use_of n r pairs all.0 all.1

last_or_later : (use_of : Key → ℕ) (p : Key × List CacheEntry) (pairs : Pairs)
    (hs : List CacheEntry) (j : Key)
    → ArePairsOf (p ∷ pairs) hs → IsByUse use_of (p ∷ pairs) → has_key j hs ≡ true
    → (j ≡ last_key p.0 pairs) ⊎ (use_of (last_key p.0 pairs) < use_of j)
last_or_later use_of p [] hs j s u h = elim (cases_Bool (bytes_eq j p.0)) [
  | inl same ↦ inl (bytes_same j p.0 same)
  | inr other ↦ let no : true ≡ false = sym h ∙ sym (has_kept (λ k. bytes_eq k p.0) j hs other)
      ∙ ap (has_key j) s.2 in cc
]
last_or_later use_of p (r ∷ pairs) hs j s u h = elim (cases_Bool (bytes_eq j p.0)) [
  | inl same ↦ inr
      (subst (λ k. use_of (last_key r.0 pairs) < use_of k) (sym (bytes_same j p.0 same))
      (last_less use_of (use_of p.0) r pairs u.0.0 u.0.1))
  | inr other ↦ last_or_later use_of r pairs (but_key p.0 hs) j s.2 u.1
      (has_kept (λ k. bytes_eq k p.0) j hs other ∙ h)
]

every_has : (use_of : Key → ℕ) (n : ℕ) (k : Key) (hs : List CacheEntry)
    → Every (λ (h : CacheEntry). n ≤ use_of (key_of h.query)) hs → has_key k hs ≡ true
    → n ≤ use_of k
every_has use_of n k [] all h = cc
every_has use_of n k (g ∷ hs) all h = grind (
  arith,
  common_steps,
  all.0,
  every_has use_of n k hs all.1,
  bytes_same (key_of g.query) k,
)

last_is : (use_of : Key → ℕ) (p : Key × List CacheEntry) (pairs : Pairs) (hs : List CacheEntry)
    (o : Option Key)
    → ArePairsOf (p ∷ pairs) hs → IsByUse use_of (p ∷ pairs) → key_held (earliest use_of hs) ≡ o
    → o ≡ Some (last_key p.0 pairs)
last_is use_of p pairs hs None s u e = grind arith
last_is use_of p pairs hs (Some j) s u e =
    let l = least use_of hs j same_bytes e in
    elim (last_or_later use_of p pairs hs j s u l.0) [
      | inl same ↦ ap Some same
      | inr later ↦
          let le = every_has use_of (use_of j) (last_key p.0 pairs) hs l.1
          (last_held p.0 pairs hs s.1 s.2) in
          absurd (omega (arith, later, le))
    ]

-- ---- a fill

has_fewer : (k l : Key) (hs : List CacheEntry) → has_key k hs ≡ false
    → has_key k (but_key l hs) ≡ false
has_fewer k l [] e = refl
has_fewer k l (h ∷ hs) e = grind (arith, common_steps, has_fewer k l hs)

module _ (most : ℕ) (use_of : Key → ℕ) (q : Words) (n : ℕ) (v : Value) (hs : List CacheEntry) where
  abbrev entry : CacheEntry
  entry = record { query = q; value = v; number = n }

  filled_again : (pairs : Pairs) (p : Key × List CacheEntry) → ArePairsOf pairs hs
      → lookup_entry (bytes_eq (key_of q)) pairs ≡ Some p
      → ArePairsOf (stored most entry pairs) (filled most use_of (Some q) n v hs)
  filled_again pairs p s e =
      let i = pair_is (key_of q) pairs hs p s e in
      let there : has_key (key_of q) hs ≡ true
      = ap (λ k. has_key k hs) (bytes_same (key_of q) p.0 i.key_is) ∙ i.is_held in
      none_goes most use_of q n v hs (ArePairsOf (stored most entry pairs))
      (ap (λ b. cond b None
      (cond (nat_lt (keys_held hs) most) None (key_held (earliest use_of hs)))) there)
      (stored_again most entry pairs hs p s e)

  as_new : (pairs : Pairs) (gs : List CacheEntry) → lookup_entry (bytes_eq (key_of q)) pairs ≡ None
      → ArePairsOf ((key_of q, entry ∷ []) ∷ take (most - 1) pairs) gs
      → ArePairsOf (stored most entry pairs) gs
  as_new pairs gs e s = grind arith

  full : (pairs : Pairs) → 0 < most → length pairs ≡ keys_held hs → ArePairsOf pairs hs
      → IsByUse use_of pairs → lookup_entry (bytes_eq (key_of q)) pairs ≡ None
      → has_key (key_of q) hs ≡ false → keys_held hs ≤ most → most ≤ keys_held hs
      → ArePairsOf (stored most entry pairs) (filled most use_of (Some q) n v hs)
  full [] some count s u e none le ge = absurd (omega (arith, some, count, ge))
  full (p ∷ pairs) some count s u e none le ge =
      let l = last_key p.0 pairs in
      let leaves_ : leaving most use_of (Some q) hs ≡ Some l =
      (λ i. cond (none i) None
      (cond (le-ltb (keys_held hs) most ge i) None (key_held (earliest use_of hs))))
      ∙ last_is use_of p pairs hs (key_held (earliest use_of hs)) s u refl in
      let short : ArePairsOf (take (most - 1) (p ∷ pairs)) (but_key l hs) =
      subst (λ m. ArePairsOf (take m (p ∷ pairs)) (but_key l hs)) (omega (arith, count, le, ge))
      (pairs_shorter p pairs hs s) in
      as_new (p ∷ pairs) (filled most use_of (Some q) n v hs) e
      (subst (λ g. ArePairsOf ((key_of q, entry ∷ []) ∷ take (most - 1) (p ∷ pairs))
      (filter (λ h. not (is_gone g (key_of h.query))) hs ++ entry ∷ [])) (sym leaves_)
      (grind (
        arith,
        of_none,
        last_has,
        but_none,
        filter-append,
        same_bytes,
        append-nil,
        entry,
        has_fewer,
      )))

  filled_new : (pairs : Pairs) → 0 < most → ArePairsOf pairs hs → IsByUse use_of pairs
      → lookup_entry (bytes_eq (key_of q)) pairs ≡ None → keys_held hs ≤ most
      → ArePairsOf (stored most entry pairs) (filled most use_of (Some q) n v hs)
  filled_new pairs some s u e le =
      let none = pair_of (key_of q) pairs hs s e in
      let count = pairs_count pairs hs s in
      elim (cases_lt (keys_held hs) most) [
        | inl room ↦
            none_goes most use_of q n v hs (ArePairsOf (stored most entry pairs))
            (λ i. cond (none i) None
            (cond (lt-ltb (keys_held hs) most room i) None (key_held (earliest use_of hs))))
            (as_new pairs (hs ++ entry ∷ []) e
            (subst (λ l. ArePairsOf ((key_of q, entry ∷ []) ∷ l) (hs ++ entry ∷ []))
            (sym (take_all (most - 1) pairs (omega (arith, count, room))))
            (grind (
              arith,
              of_none,
              last_has,
              but_none,
              filter-append,
              same_bytes,
              append-nil,
              entry,
            ))))
        | inr is_full ↦ full pairs some count s u e none le is_full
      ]

  pub pairs_filled : (pairs : Pairs) → 0 < most → ArePairsOf pairs hs → IsByUse use_of pairs
      → keys_held hs ≤ most
      → ArePairsOf (stored most entry pairs) (filled most use_of (Some q) n v hs)
  pairs_filled pairs some s u le = grind (arith, filled_again, filled_new)

  -- ---- a fill that is all that is held of its key

  -- the key of which nothing else is held
  alone : (rest : Pairs) (gs : List CacheEntry) → has_key (key_of q) gs ≡ false
      → ArePairsOf rest gs → ArePairsOf ((key_of q, entry ∷ []) ∷ rest) (gs ++ entry ∷ [])
  alone rest gs none s =
      grind (arith, of_none, last_has, but_none, filter-append, same_bytes, append-nil, entry)

  not_there : (pairs : Pairs) (o : Option (Key × List CacheEntry)) → ArePairsOf pairs hs
      → has_key (key_of q) hs ≡ false → lookup_entry (bytes_eq (key_of q)) pairs ≡ o → o ≡ None
  not_there pairs None s none e = refl
  not_there pairs (Some p) s none e =
      let i = pair_is (key_of q) pairs hs p s e in
      let there : has_key (key_of q) hs ≡ true
      = ap (λ k. has_key k hs) (bytes_same (key_of q) p.0 i.key_is) ∙ i.is_held in
      absurd (let no : true ≡ false = sym there ∙ none in cc)

  is_there : (pairs : Pairs) (o : Option (Key × List CacheEntry)) → ArePairsOf pairs hs
      → has_key (key_of q) hs ≡ true → lookup_entry (bytes_eq (key_of q)) pairs ≡ o
      → option_map_or (λ (p : Key × List CacheEntry). remove_entry (bytes_eq (key_of q)) pairs) o
      (take (most - 1) pairs) ≡ remove_entry (bytes_eq (key_of q)) pairs
  is_there pairs (Some p) s some e = refl
  is_there pairs None s some e =
      absurd (let no : true ≡ false = sym some ∙ pair_of (key_of q) pairs hs s e in cc)

  alone_again : (pairs : Pairs) → ArePairsOf pairs hs → has_key (key_of q) hs ≡ true
      → ArePairsOf (stored_alone most entry pairs) (but_key (key_of q) hs ++ entry ∷ [])
  alone_again pairs s there =
      subst (λ l. ArePairsOf ((key_of q, entry ∷ []) ∷ l) (but_key (key_of q) hs ++ entry ∷ []))
      (sym (is_there pairs (lookup_entry (bytes_eq (key_of q)) pairs) s there refl))
      (alone (remove_entry (bytes_eq (key_of q)) pairs) (but_key (key_of q) hs)
      (none_but (key_of q) hs) (pairs_without (key_of q) pairs hs s))

  alone_new : (pairs : Pairs) → 0 < most → ArePairsOf pairs hs → IsByUse use_of pairs
      → keys_held hs ≤ most → has_key (key_of q) hs ≡ false
      → ArePairsOf (stored_alone most entry pairs) (filled most use_of (Some q) n v hs)
  alone_new pairs some s u le none =
      let e = not_there pairs (lookup_entry (bytes_eq (key_of q)) pairs) s none refl in
      subst (λ l. ArePairsOf l (filled most use_of (Some q) n v hs))
      (ap (λ o. (key_of q, option_map_or (λ (p : Key × List CacheEntry). p.1) o [] ++ entry ∷ [])
      ∷ others (key_of q) most pairs) e)
      (pairs_filled pairs some s u le)

  -- the keys of that one alone are as they are to be after the reply
  pub pairs_alone : (pairs : Pairs) → 0 < most → ArePairsOf pairs hs → IsByUse use_of pairs
      → keys_held hs ≤ most
      → ArePairsOf (stored_alone most entry pairs)
      (replied_to most use_of (Some q) n v (λ k. bytes_eq k (key_of q)) hs)
  pairs_alone pairs some s u le = elim (cases_Bool (has_key (key_of q) hs)) [
    | inl there ↦
        subst (ArePairsOf (stored_alone most entry pairs))
        (ap (λ l. l ++ entry ∷ []) (sym (all_stay (but_key (key_of q) hs)))
        ∙ ap (λ g. filter (λ (h : CacheEntry). not (is_gone g (key_of h.query)))
        (but_key (key_of q) hs) ++ entry ∷ [])
        (sym (ap (λ b. cond b None
        (cond (nat_lt (keys_held hs) most) None (key_held (earliest use_of hs)))) there)))
        (alone_again pairs s there)
    | inr none ↦
        subst (λ l. ArePairsOf (stored_alone most entry pairs)
        (filter (λ (h : CacheEntry). not (is_gone (leaving most use_of (Some q) hs)
        (key_of h.query))) l ++ entry ∷ []))
        (sym (but_none (key_of q) hs none))
        (alone_new pairs some s u le none)
  ]

-- ---- the order of use

every_without : (P : Key × List CacheEntry → Type 0) (t : Key → Bool) (pairs : Pairs)
    → Every P pairs → Every P (remove_entry t pairs)
every_without P t [] all = tt
every_without P t (p ∷ pairs) all = grind (arith, every_without P t pairs all.1)

every_front : (P : Key × List CacheEntry → Type 0) (n : ℕ) (pairs : Pairs) → Every P pairs
    → Every P (take n pairs)
every_front P zero pairs all = tt
every_front P (suc n) [] all = tt
every_front P (suc n) (p ∷ pairs) all = (all.0, every_front P n pairs all.1)

pub by_use_without : (use_of : Key → ℕ) (t : Key → Bool) (pairs : Pairs) → IsByUse use_of pairs
    → IsByUse use_of (remove_entry t pairs)
by_use_without use_of t [] u = tt
by_use_without use_of t (p ∷ pairs) u =
    grind (arith, every_without, by_use_without use_of t pairs u.1)

by_use_front : (use_of : Key → ℕ) (n : ℕ) (pairs : Pairs) → IsByUse use_of pairs
    → IsByUse use_of (take n pairs)
by_use_front use_of zero pairs u = tt
by_use_front use_of (suc n) [] u = tt
by_use_front use_of (suc n) (p ∷ pairs) u =
    (every_front (λ r. use_of r.0 < use_of p.0) n pairs u.0, by_use_front use_of n pairs u.1)

-- no pair of another key has this one
apart_without : (use_of : Key → ℕ) (k : Key) (pairs : Pairs) → IsByUse use_of pairs
    → Every (λ r. bytes_eq k r.0 ≡ false) (remove_entry (bytes_eq k) pairs)
apart_without use_of k [] u = tt
apart_without use_of k (p ∷ pairs) u = elim (cases_Bool (bytes_eq k p.0)) [
  | inl same ↦
      subst (λ b. Every (λ r. bytes_eq k r.0 ≡ false)
      (cond b pairs (p ∷ remove_entry (bytes_eq k) pairs))) (sym same)
      (every_weaker (λ r. use_of r.0 < use_of p.0) (λ r. bytes_eq k r.0 ≡ false) pairs
      (λ r lt. apart_by r lt (bytes_same k p.0 same)) u.0)
  | inr other ↦
      subst (λ b. Every (λ r. bytes_eq k r.0 ≡ false)
      (cond b pairs (p ∷ remove_entry (bytes_eq k) pairs))) (sym other)
      (other, apart_without use_of k pairs u.1)
]
  where
    apart_by : (r : Key × List CacheEntry) → use_of r.0 < use_of p.0 → k ≡ p.0
        → bytes_eq k r.0 ≡ false
    apart_by r lt e = grind (arith, common_steps, bytes_same k r.0)

apart_none : (k : Key) (pairs : Pairs) → lookup_entry (bytes_eq k) pairs ≡ None
    → Every (λ r. bytes_eq k r.0 ≡ false) pairs
apart_none k [] e = tt
apart_none k (p ∷ pairs) e = grind (arith, common_steps, apart_none k pairs)

module _ (use_of : Key → ℕ) (q : Words) (now : ℕ) (bound : (k : Key) → use_of k < now) where
  abbrev later : Key → ℕ
  later k = used_at (Some q) k now (use_of k)

  later_same : (k : Key) → bytes_eq (key_of q) k ≡ false → later k ≡ use_of k
  later_same k e = ap (λ b. cond b now (use_of k)) (bytes_turn_not (key_of q) k e)

  later_now : (k : Key) → key_of q ≡ k → later k ≡ now
  later_now k e = ap (λ b. cond b now (use_of k)) (ap (λ j. bytes_eq k j) e ∙ same_bytes k)

  rest_later : (pairs : Pairs) → Every (λ r. bytes_eq (key_of q) r.0 ≡ false) pairs
      → IsByUse use_of pairs → IsByUse later pairs
  rest_later [] apart u = tt
  rest_later (p ∷ pairs) apart u =
      grind (arith, every_both, later_same, rest_later pairs apart.1 u.1)

  first_later : (p : Key × List CacheEntry) (rest : Pairs) → key_of q ≡ p.0
      → Every (λ r. bytes_eq (key_of q) r.0 ≡ false) rest → IsByUse use_of rest
      → IsByUse later (p ∷ rest)
  first_later p rest e apart u = grind (arith, every_weaker, later_same, later_now, rest_later)

  promoted_by : (pairs : Pairs) (hs : List CacheEntry) (o : Option (Key × List CacheEntry))
      → ArePairsOf pairs hs → IsByUse use_of pairs → lookup_entry (bytes_eq (key_of q)) pairs ≡ o
      → IsByUse later (option_map_or (λ e. e ∷ remove_entry (bytes_eq (key_of q)) pairs) o pairs)
  promoted_by pairs hs None s u e = rest_later pairs (apart_none (key_of q) pairs e) u
  promoted_by pairs hs (Some p) s u e =
      first_later p (remove_entry (bytes_eq (key_of q)) pairs)
      (bytes_same (key_of q) p.0 (pair_is (key_of q) pairs hs p s e).key_is)
      (apart_without use_of (key_of q) pairs u)
      (by_use_without use_of (bytes_eq (key_of q)) pairs u)

  pub by_use_promoted : (pairs : Pairs) (hs : List CacheEntry) → ArePairsOf pairs hs
      → IsByUse use_of pairs → IsByUse later (promoted (bytes_eq (key_of q)) pairs)
  by_use_promoted pairs hs s u =
      promoted_by pairs hs (lookup_entry (bytes_eq (key_of q)) pairs) s u refl

  stored_by : (most : ℕ) (h : CacheEntry) (pairs : Pairs) (o : Option (Key × List CacheEntry))
      (es : List CacheEntry) → IsByUse use_of pairs → lookup_entry (bytes_eq (key_of q)) pairs ≡ o
      → IsByUse later
      ((key_of q, es) ∷ option_map_or
      (λ (p : Key × List CacheEntry). remove_entry (bytes_eq (key_of q)) pairs) o
      (take (most - 1) pairs))
  stored_by most h pairs None es u e =
      first_later (key_of q, es) (take (most - 1) pairs) refl
      (every_front (λ r. bytes_eq (key_of q) r.0 ≡ false) (most - 1) pairs
      (apart_none (key_of q) pairs e)) (by_use_front use_of (most - 1) pairs u)
  stored_by most h pairs (Some p) es u e =
      first_later (key_of q, es) (remove_entry (bytes_eq (key_of q)) pairs) refl
      (apart_without use_of (key_of q) pairs u)
      (by_use_without use_of (bytes_eq (key_of q)) pairs u)

  pub by_use_alone : (most : ℕ) (h : CacheEntry) (pairs : Pairs) → h.query ≡ q
      → IsByUse use_of pairs → IsByUse later (stored_alone most h pairs)
  by_use_alone most h pairs e u =
      subst (λ k. IsByUse later ((k, h ∷ []) ∷ others k most pairs)) (ap key_of (sym e))
      (stored_by most h pairs (lookup_entry (bytes_eq (key_of q)) pairs) (h ∷ []) u refl)

  pub by_use_stored : (most : ℕ) (h : CacheEntry) (pairs : Pairs) → h.query ≡ q
      → IsByUse use_of pairs → IsByUse later (stored most h pairs)
  by_use_stored most h pairs e u =
      subst (λ k. IsByUse later ((k, entries_of k pairs ++ h ∷ []) ∷ others k most pairs))
      (ap key_of (sym e))
      (stored_by most h pairs (lookup_entry (bytes_eq (key_of q)) pairs)
      (entries_of (key_of q) pairs ++ h ∷ []) u refl)
