-- A key that is held was used, and no two at one entry: so one alone was last used the earliest.
use Rattle.std.proofs.Common.{◌≡◌, ◌+◌, ◌<◌, ◌≤◌, ◌++◌, ◌⊎◌, ℕ, List, [], ◌∷◌, length, Bool, true}
use Rattle.std.proofs.Common.{false, not, cond, Option, Some, None, sym, ap, ◌∙◌, refl, subst, inl}
use Rattle.std.proofs.Common.{inr, arith}
use Rattle.std.specs.Prelude.{nat_lt}
use Rattle.std.specs.List.{filter}
use Rattle.std.specs.Str.{bytes_eq}
use Rattle.std.proofs.lemmas.Bool.{or_cases, le-ltb}
use Rattle.std.proofs.lemmas.Grind.{common_steps}
use Rattle.command_words.specs.Queries.{key_of}
use Rattle.shared_cache.specs.declared.log.LogEntry.{LogEntry}
use Rattle.shared_cache.specs.declared.log.LogEntry.TheVariants.{Ask, Send, Poll, TakeOut, Got, End}
use Rattle.shared_cache.specs.declared.log.LogEntry.TheVariants.{Bad}
use Rattle.shared_cache.specs.declared.log.Wire.TheVariants.{Main}
use Rattle.shared_cache.specs.declared.entry.CacheEntry.{CacheEntry}
use Rattle.shared_cache.specs.Log.{replies}
use Rattle.shared_cache.specs.Held.{Setup, Key, Words, has_key, keys_held, held_for, hit_of}
use Rattle.shared_cache.specs.Held.{used_at, earliest, key_held, leaving, filled_by, open_fetch}
use Rattle.shared_cache.specs.Held.{last_use, held}
use Rattle.shared_cache.specs.Notices.{notice_of}
use Rattle.shared_cache.specs.Laws.{Every, LegalLog, IsEarliest}
use Rattle.shared_cache.proofs.Capacity.{least}
use Rattle.shared_cache.proofs.Filled.{is_gone}
use Rattle.shared_cache.proofs.HeldSteps.{use_reply}
use Rattle.shared_cache.proofs.KeyTests.{same_bytes, bytes_same}
use Rattle.shared_cache.proofs.LastUses.{used_before}
use Rattle.cache_laws.proofs.Changes.{Fills, change}

-- ---- no two keys were last used at one entry

apart_at : (o : Option Words) (j k : Key) (now a b : ℕ) → a < now → b < now
    → (0 < a → a ≡ b → j ≡ k) → 0 < used_at o j now a → used_at o j now a ≡ used_at o k now b
    → j ≡ k
apart_at None j k now a b below under rest pos e = rest pos e
apart_at (Some q) j k now a b below under rest pos e =
    go (bytes_eq j (key_of q)) (bytes_eq k (key_of q)) refl refl pos e
  where
    go : (x y : Bool) → bytes_eq j (key_of q) ≡ x → bytes_eq k (key_of q) ≡ y
        → 0 < cond x now a → cond x now a ≡ cond y now b → j ≡ k
    go true true jq kq pos e = bytes_same j (key_of q) jq ∙ sym (bytes_same k (key_of q) kq)
    go true false jq kq pos e = absurd (omega (arith, e, under))
    go false true jq kq pos e = absurd (omega (arith, e, below))
    go false false jq kq pos e = rest pos e

pub used_apart : (s : Setup) (log : List LogEntry) (j k : Key) → 0 < last_use s log j
    → last_use s log j ≡ last_use s log k → j ≡ k
used_apart s [] j k pos e = absurd (omega (arith, pos))
used_apart s (Ask q ∷ log) j k pos e =
    apart_at (hit_of (held_for q (held s log)) q) j k (length log + 1) (last_use s log j)
    (last_use s log k) (used_before s log j) (used_before s log k) (used_apart s log j k) pos e
used_apart s (Got w v ∷ log) j k pos e =
    apart_at (filled_by w (notice_of s.mode w v)
    (open_fetch s log (length (replies s.mode Main log) + 1))) j k (length log + 1)
    (last_use s log j) (last_use s log k) (used_before s log j) (used_before s log k)
    (used_apart s log j k) pos e
used_apart s (Send ws ∷ log) j k pos e = used_apart s log j k pos e
used_apart s (Poll n ∷ log) j k pos e = used_apart s log j k pos e
used_apart s (TakeOut w n ∷ log) j k pos e = used_apart s log j k pos e
used_apart s (End w ∷ log) j k pos e = used_apart s log j k pos e
used_apart s (Bad w v ∷ log) j k pos e = used_apart s log j k pos e

-- ---- what is held was used

has_fewer : (t : CacheEntry → Bool) (k : Key) (hs : List CacheEntry)
    → has_key k (filter t hs) ≡ true → has_key k hs ≡ true
has_fewer t k [] e = e
has_fewer t k (h ∷ hs) e = grind (arith, common_steps, has_fewer t k hs)

has_parts : (k : Key) (hs : List CacheEntry) (h : CacheEntry) → has_key k (hs ++ h ∷ []) ≡ true
    → (has_key k hs ≡ true) ⊎ (bytes_eq (key_of h.query) k ≡ true)
has_parts k [] h e = grind (arith, common_steps)
has_parts k (g ∷ hs) h e = grind (arith, common_steps, has_parts k hs h)

still_used : (o : Option Words) (k : Key) (now before : ℕ) → 0 < before → 0 < now
    → 0 < used_at o k now before
still_used o k now before pos some = grind arith

used_more : (s : Setup) (log : List LogEntry) (e : LogEntry) (k : Key) → 0 < last_use s log k
    → 0 < last_use s (e ∷ log) k
used_more s log (Ask q) k pos =
    still_used (hit_of (held_for q (held s log)) q) k (length log + 1) (last_use s log k) pos
    (omega arith)
used_more s log (Got w v) k pos =
    still_used (filled_by w (notice_of s.mode w v)
    (open_fetch s log (length (replies s.mode Main log) + 1))) k (length log + 1)
    (last_use s log k) pos (omega arith)
used_more s log (Send ws) k pos = pos
used_more s log (Poll n) k pos = pos
used_more s log (TakeOut w n) k pos = pos
used_more s log (End w) k pos = pos
used_more s log (Bad w v) k pos = pos

-- a fill uses its key
fill_uses : (s : Setup) (log : List LogEntry) (e : LogEntry) (f : Fills s log e)
    → last_use s (e ∷ log) (key_of f.query) ≡ length log + 1
fill_uses s log e f =
    ap (λ x. last_use s (x ∷ log) (key_of f.query)) f.got
    ∙ use_reply s log f.value f.kind (Some f.query) f.fetch (key_of f.query)
    ∙ ap (λ b. cond b (length log + 1) (last_use s log (key_of f.query)))
    (same_bytes (key_of f.query))

filled_used : (s : Setup) (log : List LogEntry) (e : LogEntry) (k : Key)
    → (has_key k (held s log) ≡ true → 0 < last_use s log k) → Fills s log e
    → has_key k (held s (e ∷ log)) ≡ true → 0 < last_use s (e ∷ log) k
filled_used s log e k rest f has =
    let gone = leaving s.capacity (last_use s log) (Some f.query) (held s log) in
    let new : CacheEntry = record {
      query = f.query;
      value = f.value;
      number = length (replies s.mode Main log) + 1;
    } in
    let rest_held = filter (λ (h : CacheEntry). not (f.test (key_of h.query))) (held s log) in
    elim (has_parts k (filter (λ h. not (is_gone gone (key_of h.query))) rest_held) new
    (ap (has_key k) (sym f.held_is) ∙ has)) [
      | inl older ↦
          used_more s log e k
          (rest (has_fewer (λ h. not (f.test (key_of h.query))) k (held s log)
          (has_fewer (λ h. not (is_gone gone (key_of h.query))) k rest_held older)))
      | inr newer ↦
          let u = fill_uses s log e f in
          subst (λ j. 0 < last_use s (e ∷ log) j) (bytes_same (key_of f.query) k newer)
          (omega (arith, u))
    ]

pub held_used : (s : Setup) (log : List LogEntry) (k : Key) → LegalLog s log
    → has_key k (held s log) ≡ true → 0 < last_use s log k
held_used s [] k legal has = absurd (let no : ⊥ = cc in no)
held_used s (e ∷ log) k legal has = elim (change s log e legal) [
  | inl same ↦
      used_more s log e k (held_used s log k legal.0 (ap (has_key k) (sym same) ∙ has))
  | inr other ↦ elim other [
    | inl ended ↦
        used_more s log e k (held_used s log k legal.0
        (has_fewer (λ h. not (ended.test (key_of h.query))) k (held s log)
        (ap (has_key k) (sym ended.held_is) ∙ has)))
    | inr fills ↦ filled_used s log e k (held_used s log k legal.0) fills has
  ]
]

-- ---- the key that was last used the earliest is the one that leaves

every_key : (P : Key → Type 0) (k : Key) (hs : List CacheEntry)
    → Every (λ (h : CacheEntry). P (key_of h.query)) hs → has_key k hs ≡ true → P k
every_key P k [] all has = absurd (let no : ⊥ = cc in no)
every_key P k (h ∷ hs) all has =
    elim (or_cases (bytes_eq (key_of h.query) k) (has_key k hs) has) [
      | inl here ↦ subst P (bytes_same (key_of h.query) k here) all.0
      | inr there ↦ every_key P k hs all.1 there
    ]

some_earliest : (use_of : Key → ℕ) (hs : List CacheEntry) (k : Key) → has_key k hs ≡ true
    → (j : Key) × (key_held (earliest use_of hs) ≡ Some j)
some_earliest use_of [] k has = absurd (let no : ⊥ = cc in no)
some_earliest use_of (h ∷ hs) k has = (_, refl)

pub earliest_is : (s : Setup) (log : List LogEntry) (k : Key) → LegalLog s log
    → IsEarliest s log k → key_held (earliest (last_use s log) (held s log)) ≡ Some k
earliest_is s log k legal i =
    let one = some_earliest (last_use s log) (held s log) k i.is_held in
    let j = one.0 in
    let l = least (last_use s log) (held s log) j same_bytes one.1 in
    let under = every_key (λ x. last_use s log j ≤ last_use s log x) k (held s log) l.1 i.is_held in
    let over = every_key (λ x. last_use s log k ≤ last_use s log x) j (held s log) i.earliest l.0 in
    one.1
    ∙ ap Some (used_apart s log j k (held_used s log j legal l.0) (omega (arith, under, over)))

pub leaving_is : (s : Setup) (log : List LogEntry) (q : Words) (k : Key) → LegalLog s log
    → has_key (key_of q) (held s log) ≡ false → keys_held (held s log) ≡ s.capacity
    → IsEarliest s log k → leaving s.capacity (last_use s log) (Some q) (held s log) ≡ Some k
leaving_is s log q k legal other full i =
    let chosen = key_held (earliest (last_use s log) (held s log)) in
    ap (λ b. cond b None (cond (nat_lt (keys_held (held s log)) s.capacity) None chosen)) other
    ∙ ap (λ b. cond b None chosen)
    (le-ltb (keys_held (held s log)) s.capacity (omega (arith, full)))
    ∙ earliest_is s log k legal i
