-- How many keys are held, and which one leaves.
use Rattle.std.proofs.Common.{◌≡◌, ◌+◌, ◌<◌, ◌≤◌, ◌++◌, ◌||◌, ℕ, List, [], ◌∷◌, length, Bool, true}
use Rattle.std.proofs.Common.{false, cond, not, Option, Some, None, sym, ap, ◌∙◌, refl, subst, inl}
use Rattle.std.proofs.Common.{inr, arith, append-nil, ◌&&◌}
use Rattle.std.proofs.lemmas.List.Elements.{filter-append}
use Rattle.std.specs.Prelude.{nat_lt}
use Rattle.std.specs.List.{filter}
use Rattle.std.specs.Str.{bytes_eq}
use Rattle.std.proofs.lemmas.Bool.{cases_lt, cases_Bool, lt-ltb, le-ltb}
use Rattle.std.proofs.lemmas.Option.{same_Some}
use Rattle.std.proofs.lemmas.Grind.{common_steps}
use Rattle.resp_value.specs.declared.value.Value.{Value}
use Rattle.command_words.specs.Queries.{key_of, writes}
use Rattle.shared_cache.specs.declared.log.Wire.{Wire}
use Rattle.shared_cache.specs.declared.log.Wire.TheVariants.{Main, Side}
use Rattle.shared_cache.specs.declared.log.LogEntry.{LogEntry}
use Rattle.shared_cache.specs.declared.log.LogEntry.TheVariants.{Ask, Send, Poll, TakeOut, Got, End}
use Rattle.shared_cache.specs.declared.log.LogEntry.TheVariants.{Bad}
use Rattle.shared_cache.specs.declared.entry.CacheEntry.{CacheEntry}
use Rattle.shared_cache.specs.declared.notices.Notice.{Notice}
use Rattle.shared_cache.specs.declared.notices.Notice.TheVariants.{Reply}
use Rattle.shared_cache.specs.Notices.{notice_of, invalidates, is_reply}
use Rattle.shared_cache.specs.Log.{replies}
use Rattle.shared_cache.specs.Held.{Setup, Key, Words, held_for, has_key, keys_held, earlier}
use Rattle.shared_cache.specs.Held.{earliest_from, earliest, key_held, leaving, open_fetch, left}
use Rattle.shared_cache.specs.Held.{last_use, held}
use Rattle.shared_cache.proofs.Filled.{is_gone, filled, replied_to}
use Rattle.shared_cache.specs.Laws.{Every, LegalLog, WithinCapacity, EarliestLeaves}
use Rattle.shared_cache.proofs.KeyTests.{same_bytes, bytes_same}
use Rattle.shared_cache.proofs.InPlace.{all_stay, filter_twice, filter_same_test, filters_turn}
use Rattle.shared_cache.proofs.HeldLists.{held_none}
use Rattle.shared_cache.proofs.HeldSteps.{held_hit, held_miss, held_send, held_push, held_side}
use Rattle.shared_cache.proofs.HeldSteps.{held_reply, overtaken, replied_none}
use Rattle.shared_cache.proofs.LegalLogs.{replies_within}

-- ---- the key with the least last use

module _ (use_of : Key → ℕ) where
  abbrev used : CacheEntry → ℕ
  used h = use_of (key_of h.query)

  earlier_least : (h b : CacheEntry) → (used (earlier use_of h b) ≤ used h)
      × (used (earlier use_of h b) ≤ used b)
  earlier_least h b = (grind (arith, common_steps), grind (arith, common_steps))

  least_from : (b : CacheEntry) (hs : List CacheEntry) → (used (earliest_from use_of b hs) ≤ used b)
      × Every (λ h. used (earliest_from use_of b hs) ≤ used h) hs
  least_from b [] = (omega arith, tt)
  least_from b (h ∷ hs) = grind (arith, earlier_least, least_from (earlier use_of h b) hs)

  has_from : (b : CacheEntry) (hs : List CacheEntry) → ((k : Key) → bytes_eq k k ≡ true)
      → has_key (key_of (earliest_from use_of b hs).query) (b ∷ hs) ≡ true
  has_from b [] same = ap (λ t. t || false) (same (key_of b.query))
  has_from b (h ∷ hs) same = grind (arith, has_from (earlier use_of h b) hs same, common_steps)

  pub least : (hs : List CacheEntry) (k : Key) → ((j : Key) → bytes_eq j j ≡ true)
      → key_held (earliest use_of hs) ≡ Some k
      → (has_key k hs ≡ true) × Every (λ h. use_of k ≤ used h) hs
  least [] k same e = cc
  least (h ∷ hs) k same e =
      let is : key_of (earliest_from use_of h hs).query ≡ k
      = same_Some (key_of (earliest_from use_of h hs).query) k e in
      let r = least_from h hs in (
        ap (λ j. has_key j (h ∷ hs)) (sym is) ∙ has_from h hs same,
        subst (λ j. Every (λ g. use_of j ≤ used g) (h ∷ hs)) is (r.0, r.1),
      )

leaves : (a b : Bool) (o : Option Key) (k : Key) → cond a None (cond b None o) ≡ Some k → o ≡ Some k
leaves a b o k e = grind (arith, common_steps)

pub earliest_leaves : EarliestLeaves
earliest_leaves s log q k e =
    let r = least (last_use s log) (held s log) k same_bytes
    (grind (arith, leaves)) in
    record { is_held = r.0; earliest = r.1 }

-- ---- how many keys are held where some go

pub has_kept : (t : Key → Bool) (k : Key) (hs : List CacheEntry) → t k ≡ false
    → has_key k (filter (λ h. not (t (key_of h.query))) hs) ≡ has_key k hs
has_kept t k [] e = refl
has_kept t k (h ∷ hs) e = grind (arith, bytes_same, has_kept t k hs e)

pub kept_keys : (t : Key → Bool) (hs : List CacheEntry)
    → keys_held (filter (λ h. not (t (key_of h.query))) hs) ≤ keys_held hs
kept_keys t [] = omega arith
kept_keys t (h ∷ hs) = grind (arith, has_kept, kept_keys t hs)

pub but_none : (k : Key) (hs : List CacheEntry) → has_key k hs ≡ false
    → filter (λ h. not (bytes_eq (key_of h.query) k)) hs ≡ hs
but_none k [] e = refl
but_none k (h ∷ hs) e = grind (arith, common_steps, but_none k hs)

pub less_key : (k : Key) (hs : List CacheEntry) → has_key k hs ≡ true
    → keys_held (filter (λ h. not (bytes_eq (key_of h.query) k)) hs) + 1 ≡ keys_held hs
less_key k [] e = cc
less_key k (h ∷ hs) e = grind (
  arith,
  common_steps,
  less_key k hs,
  but_none k hs,
  bytes_same (key_of h.query) k,
  has_kept (λ j. bytes_eq j k) (key_of h.query) hs,
)

-- ---- how many keys are held where one comes

more_has : (k : Key) (hs : List CacheEntry) (e : CacheEntry) → has_key k hs ≡ true
    → has_key k (hs ++ e ∷ []) ≡ true
more_has k [] e h = cc
more_has k (g ∷ hs) e h = grind (arith, common_steps, more_has k hs e)

pub last_has : (hs : List CacheEntry) (e : CacheEntry)
    → has_key (key_of e.query) (hs ++ e ∷ []) ≡ true
last_has [] e = grind (arith, common_steps, same_bytes (key_of e.query))
last_has (g ∷ hs) e = grind (arith, common_steps, last_has hs e)

add_key : (hs : List CacheEntry) (e : CacheEntry) → keys_held (hs ++ e ∷ []) ≤ keys_held hs + 1
add_key [] e = omega arith
add_key (h ∷ hs) e = grind (arith, common_steps, add_key hs e, more_has (key_of h.query) hs e)

same_keys : (hs : List CacheEntry) (e : CacheEntry) → has_key (key_of e.query) hs ≡ true
    → keys_held (hs ++ e ∷ []) ≤ keys_held hs
same_keys [] e is = cc
same_keys (h ∷ hs) e is = grind (
  arith,
  common_steps,
  same_keys hs e,
  add_key hs e,
  more_has (key_of h.query) hs e,
  bytes_same (key_of h.query) (key_of e.query),
  last_has hs e,
)

-- ---- a fill

module _ (capacity : ℕ) (use_of : Key → ℕ) (q : Words) (n : ℕ) (v : Value)
    (hs : List CacheEntry) where
  abbrev new : CacheEntry
  new = record { query = q; value = v; number = n }

  abbrev filled_but : Option Key → List CacheEntry
  filled_but gone = filter (λ h. not (is_gone gone (key_of h.query))) hs ++ new ∷ []

  pub none_goes : (P : List CacheEntry → Type 0) → leaving capacity use_of (Some q) hs ≡ None
      → P (hs ++ new ∷ []) → P (filled capacity use_of (Some q) n v hs)
  none_goes P e p =
      subst (λ g. P (filled_but g)) (sym e) (subst (λ l. P (l ++ new ∷ [])) (sym (all_stay hs)) p)

  one_goes : (o : Option Key) → 0 < keys_held hs → keys_held hs ≤ capacity
      → key_held (earliest use_of hs) ≡ o → keys_held (filled_but o) ≤ capacity
  one_goes None some le e = grind arith
  one_goes (Some k) some le e =
      let w = less_key k hs (least use_of hs k same_bytes e).0 in
      grind (arith, add_key, new)

  filled_within : 0 < capacity → keys_held hs ≤ capacity
      → keys_held (filled capacity use_of (Some q) n v hs) ≤ capacity
  filled_within some le = elim (cases_Bool (has_key (key_of q) hs)) [
    | inl again ↦
        none_goes (λ l. keys_held l ≤ capacity)
        (ap (λ b. cond b None
        (cond (nat_lt (keys_held hs) capacity) None (key_held (earliest use_of hs)))) again)
        (let w = same_keys hs new again in omega (arith, w))
    | inr first ↦ elim (cases_lt (keys_held hs) capacity) [
      | inl room ↦
          none_goes (λ l. keys_held l ≤ capacity)
          ((λ i. cond (first i) None
          (cond (lt-ltb (keys_held hs) capacity room i) None (key_held (earliest use_of hs)))))
          (let w = add_key hs new in omega (arith, w))
      | inr full ↦
          subst (λ g. keys_held (filled_but g) ≤ capacity)
          (sym ((λ i. cond (first i) None
          (cond (le-ltb (keys_held hs) capacity full i) None (key_held (earliest use_of hs))))))
          (one_goes (key_held (earliest use_of hs)) (omega arith) le refl)
    ]
  ]

pub any_filled : (capacity : ℕ) (use_of : Key → ℕ) (o : Option Words) (n : ℕ) (v : Value)
    (hs : List CacheEntry)
    → 0 < capacity → keys_held hs ≤ capacity
    → keys_held (filled capacity use_of o n v hs) ≤ capacity
any_filled capacity use_of None n v hs some le = le
any_filled capacity use_of (Some q) n v hs some le = filled_within capacity use_of q n v hs some le

-- ---- where keys go before it

-- some keys go from among those that another comes behind
pub kept_and_one : (t : Key → Bool) (hs : List CacheEntry) (e : CacheEntry)
    → keys_held (filter (λ h. not (t (key_of h.query))) hs ++ e ∷ []) ≤ keys_held (hs ++ e ∷ [])
kept_and_one t hs e = elim (cases_Bool (t (key_of e.query))) [
  | inl goes ↦
      let k = key_of e.query in
      let less = less_key k (hs ++ e ∷ []) (last_has hs e) in
      let but : filter (λ h. not (bytes_eq (key_of h.query) k)) (hs ++ e ∷ [])
      ≡ filter (λ h. not (bytes_eq (key_of h.query) k)) hs =
      filter-append (λ (h : CacheEntry). not (bytes_eq (key_of h.query) k)) hs (e ∷ [])
      ∙ ap (λ b. filter (λ (h : CacheEntry). not (bytes_eq (key_of h.query) k)) hs
      ++ cond (not b) (e ∷ []) []) (same_bytes k)
      ∙ append-nil (filter (λ (h : CacheEntry). not (bytes_eq (key_of h.query) k)) hs) in
      let among : filter (λ h. not (t (key_of h.query))) hs
      ≡ filter (λ h. not (t (key_of h.query)))
      (filter (λ h. not (bytes_eq (key_of h.query) k)) hs) =
      sym (filter_twice (λ (h : CacheEntry). not (bytes_eq (key_of h.query) k))
      (λ h. not (t (key_of h.query))) hs
      ∙ filter_same_test (λ (h : CacheEntry). not (bytes_eq (key_of h.query) k)
      && not (t (key_of h.query))) (λ h. not (t (key_of h.query))) hs
      (λ h. gone_too (key_of h.query) k goes)) in
      omega (
        arith,
        less,
        ap keys_held but,
        ap keys_held among,
        kept_keys t (filter (λ h. not (bytes_eq (key_of h.query) k)) hs),
        add_key (filter (λ h. not (t (key_of h.query))) hs) e,
      )
  | inr stays_ ↦
      let all : filter (λ h. not (t (key_of h.query))) (hs ++ e ∷ [])
      ≡ filter (λ h. not (t (key_of h.query))) hs ++ e ∷ [] =
      filter-append (λ (h : CacheEntry). not (t (key_of h.query))) hs (e ∷ [])
      ∙ ap (λ b. filter (λ (h : CacheEntry). not (t (key_of h.query))) hs
      ++ cond (not b) (e ∷ []) []) stays_ in
      omega (arith, ap keys_held all, kept_keys t (hs ++ e ∷ []))
]
  where
    gone_too : (j k : Key) → t k ≡ true → (not (bytes_eq j k) && not (t j)) ≡ not (t j)
    gone_too j k goes = grind (arith, bytes_same j k)

pub any_replied : (capacity : ℕ) (use_of : Key → ℕ) (o : Option Words) (n : ℕ) (v : Value)
    (t : Key → Bool) (hs : List CacheEntry)
    → 0 < capacity → keys_held hs ≤ capacity
    → keys_held (replied_to capacity use_of o n v t hs) ≤ capacity
any_replied capacity use_of None n v t hs some le =
    omega (arith, ap keys_held (replied_none capacity use_of n v t hs), kept_keys t hs, le)
any_replied capacity use_of (Some q) n v t hs some le =
    let gone = leaving capacity use_of (Some q) hs in
    let new : CacheEntry = record { query = q; value = v; number = n } in
    omega (
      arith,
      ap (λ l. keys_held (l ++ new ∷ []))
          (filters_turn (λ (h : CacheEntry). not (is_gone gone (key_of h.query)))
          (λ h. not (t (key_of h.query))) hs),
      kept_and_one t (filter (λ h. not (is_gone gone (key_of h.query))) hs) new,
      any_filled capacity use_of (Some q) n v hs some le,
    )

reply_is : (k : Notice) → is_reply k ≡ true → k ≡ Reply
reply_is k e = grind arith

abbrev Within : Setup → List LogEntry → Type 0
Within s log = keys_held (held s log) ≤ s.capacity

asked_within : (s : Setup) (log : List LogEntry) (q : Words) → LegalLog s log
    → (o : Option CacheEntry) → held_for q (held s log) ≡ o → Within s log → Within s (Ask q ∷ log)
asked_within s log q l o e w = grind (arith, held_hit, held_miss, replies_within)

got_within : (s : Setup) (log : List LogEntry) (u : Wire) (v : Value) → 0 < s.capacity
    → Within s log → (k : Bool) → is_reply (notice_of s.mode u v) ≡ k → Within s (Got u v ∷ log)
got_within s log Main v some w true e =
    subst (λ hs. keys_held hs ≤ s.capacity)
    (sym (held_reply s log v (reply_is (notice_of s.mode Main v) e)
    (open_fetch s log (length (replies s.mode Main log) + 1)) refl))
    (any_replied s.capacity (last_use s log)
    (open_fetch s log (length (replies s.mode Main log) + 1))
    (length (replies s.mode Main log) + 1) v (overtaken s log) (held s log) some w)
got_within s log Side v some w true e =
    subst (λ hs. keys_held hs ≤ s.capacity)
    (sym (held_side s log v (reply_is (notice_of s.mode Side v) e))) w
got_within s log u v some w false e =
    subst (λ hs. keys_held hs ≤ s.capacity) (sym (held_push s log u v e))
    (let k = kept_keys (invalidates s.mode u v) (held s log) in omega (arith, k, w))

pub within_capacity : WithinCapacity
within_capacity s [] some l = omega arith
within_capacity s (Ask q ∷ log) some l =
    asked_within s log q l.0 (held_for q (held s log)) refl (within_capacity s log some l.0)
within_capacity s (Send ws ∷ log) some l =
    subst (λ hs. keys_held hs ≤ s.capacity) (sym (held_send s log ws))
    (let k = kept_keys (writes ws) (held s log) in let w = within_capacity s log some l.0 in
    omega (arith, k, w))
within_capacity s (Poll n ∷ log) some l = within_capacity s log some l.0
within_capacity s (TakeOut w n ∷ log) some l = within_capacity s log some l.0
within_capacity s (Got w v ∷ log) some l =
    got_within s log w v some (within_capacity s log some l.0) (is_reply (notice_of s.mode w v))
    refl
within_capacity s (End w ∷ log) some l =
    subst (λ hs. keys_held hs ≤ s.capacity) (sym (held_none (left s log) (replies s.mode Main log)))
    (omega arith)
within_capacity s (Bad w v ∷ log) some l =
    subst (λ hs. keys_held hs ≤ s.capacity) (sym (held_none (left s log) (replies s.mode Main log)))
    (omega arith)
