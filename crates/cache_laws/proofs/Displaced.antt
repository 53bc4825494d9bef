-- A fetch whose key is not displaced has not left.
use Rattle.std.proofs.Common.{◌≡◌, ◌+◌, ◌<◌, ◌≤◌, ◌++◌, ◌&&◌, ◌||◌, ℕ, List, [], ◌∷◌, length, Bool}
use Rattle.std.proofs.Common.{true, false, cond, Option, Some, None, sym, ap, ◌∙◌, refl, subst, inl}
use Rattle.std.proofs.Common.{inr, arith, eq-eqb, ne_eqb}
use Rattle.std.specs.Prelude.{nat_lt, nat_le}
use Rattle.std.proofs.lemmas.Bool.{cases_eq, ltb-false, leb-true}
use Rattle.resp_value.specs.declared.value.Value.{Value}
use Rattle.command_words.specs.Queries.{key_of}
use Rattle.shared_cache.specs.declared.log.Wire.{Wire}
use Rattle.shared_cache.specs.declared.log.Wire.TheVariants.{Main}
use Rattle.shared_cache.specs.declared.log.LogEntry.{LogEntry}
use Rattle.shared_cache.specs.declared.log.LogEntry.TheVariants.{Ask, Send, Poll, TakeOut, Got, End}
use Rattle.shared_cache.specs.declared.log.LogEntry.TheVariants.{Bad}
use Rattle.shared_cache.specs.declared.entry.CacheEntry.{CacheEntry}
use Rattle.shared_cache.specs.declared.notices.Notice.{Notice}
use Rattle.shared_cache.specs.declared.notices.Notice.TheVariants.{Reply}
use Rattle.shared_cache.specs.Notices.{kind_of, notice_of}
use Rattle.shared_cache.specs.Log.{replies, reply_in, reply, caching_on_for}
use Rattle.shared_cache.specs.Held.{Setup, Key, Words, has_key, keys_held, earliest, key_held}
use Rattle.shared_cache.specs.Held.{leaving, is_key, filled_by, open_fetch, left, last_use, held}
use Rattle.shared_cache.specs.Held.{read_lead}
use Rattle.shared_cache.specs.Steps.{read_number}
use Rattle.shared_cache.specs.Laws.{LegalLog, Spared}
use Rattle.shared_cache.proofs.Capacity.{within_capacity, earliest_leaves}
use Rattle.shared_cache.proofs.Fetches.{stays}
use Rattle.shared_cache.proofs.HeldSteps.{replies_reply}
use Rattle.shared_cache.proofs.KeyTests.{bytes_same}
use Rattle.shared_cache.proofs.Led.{led_some}
use Rattle.shared_cache.proofs.LegalLogs.{replies_within}
use Rattle.cache_laws.specs.HeldExactly.{NotAnew, Displaces, NotDisplaced}
use Rattle.cache_laws.proofs.Fetching.{is_under_way, open_since}

-- ---- the reply of a number

pub none_yet : (n : ℕ) (vs : List Value) → length vs < n → reply_in n vs ≡ None
none_yet n [] lt = refl
none_yet n (v ∷ vs) lt =
    let other : n ≡ length vs + 1 → ⊥ = λ e. omega (arith, e, lt) in
    ap (λ b. cond b (Some v) (reply_in n vs)) (ne_eqb n (length vs + 1) other)
    ∙ none_yet n vs (omega (arith, lt))

pub has_come : (n : ℕ) (vs : List Value) → 0 < n → n ≤ length vs
    → (v : Value) × (reply_in n vs ≡ Some v)
has_come n [] pos le = absurd (omega (arith, pos, le))
has_come n (v ∷ vs) pos le = elim (cases_eq n (length vs + 1)) [
  | inl same ↦
      (v, ap (λ b. cond b (Some v) (reply_in n vs)) (eq-eqb n (length vs + 1) same))
  | inr other ↦
      let r = has_come n vs pos (omega (arith, le, other)) in
      (r.0, ap (λ b. cond b (Some v) (reply_in n vs)) (ne_eqb n (length vs + 1) other) ∙ r.1)
]

pub newest_reply : (v : Value) (vs : List Value) → reply_in (length vs + 1) (v ∷ vs) ≡ Some v
newest_reply v vs =
    ap (λ b. cond b (Some v) (reply_in (length vs + 1) vs))
    (eq-eqb (length vs + 1) (length vs + 1) refl)

-- ---- what lets a key leave

both_fail : (a b : Bool) (o : Option Key) (k : Key) → cond a None (cond b None o) ≡ Some k
    → (a ≡ false) × (b ≡ false)
both_fail true b o k e = absurd (let no : ⊥ = cc in no)
both_fail false true o k e = absurd (let no : ⊥ = cc in no)
both_fail false false o k e = (refl, refl)

some_filled : (capacity : ℕ) (use_of : Key → ℕ) (o : Option Words) (hs : List CacheEntry) (k : Key)
    → leaving capacity use_of o hs ≡ Some k → (q : Words) × (o ≡ Some q)
some_filled capacity use_of None hs k e = absurd (let no : ⊥ = cc in no)
some_filled capacity use_of (Some q) hs k e = (q, refl)

filled_some : (w : Wire) (kind : Notice) (o : Option Words) (q : Words)
    → filled_by w kind o ≡ Some q → (w ≡ Main) × (kind ≡ Reply) × (o ≡ Some q)
filled_some w kind o q e = grind arith

is_key_some : (l : Option Key) (q : Words) → is_key l (Some q) ≡ true → l ≡ Some (key_of q)
is_key_some None q e = absurd (let no : ⊥ = cc in no)
is_key_some (Some k) q e = ap Some (sym (bytes_same (key_of q) k e))

module _ (s : Setup) (log : List LogEntry) where
  abbrev count : ℕ
  count = length (replies s.mode Main log)

  -- a key that leaves is displaced
  pub displaces_main : (v : Value) (k : Key) → 0 < s.capacity → LegalLog s log → kind_of v ≡ Reply
      → (q : Words) → open_fetch s log (count + 1) ≡ Some q
      → leaving s.capacity (last_use s log) (Some q) (held s log) ≡ Some k
      → Displaces s log (Got Main v) k
  displaces_main v k some legal kind q fills chosen =
      let fail = both_fail (has_key (key_of q) (held s log))
      (nat_lt (keys_held (held s log)) s.capacity)
      (key_held (earliest (last_use s log) (held s log))) k chosen in
      record {
        value = v;
        got = refl;
        number = count + 1;
        answered = ap (reply_in (count + 1)) (replies_reply s log v kind)
            ∙ newest_reply v (replies s.mode Main log);
        first = none_yet (count + 1) (replies s.mode Main log) (omega arith);
        query = q;
        fetch = is_under_way s log (count + 1) q fills;
        other = fail.0;
        full =
            let within = within_capacity s log some legal in
            let most = ltb-false (keys_held (held s log)) s.capacity fail.1 in
            omega (arith, within, most);
        earliest = earliest_leaves s log q k chosen;
      }

  displaces : (w : Wire) (v : Value) (k : Key) → 0 < s.capacity → LegalLog s log
      → leaving s.capacity (last_use s log)
      (filled_by w (notice_of s.mode w v) (open_fetch s log (count + 1))) (held s log) ≡ Some k
      → Displaces s log (Got w v) k
  displaces w v k some legal e =
      let o = filled_by w (notice_of s.mode w v) (open_fetch s log (count + 1)) in
      let l = some_filled s.capacity (last_use s log) o (held s log) k e in
      let f = filled_some w (notice_of s.mode w v) (open_fetch s log (count + 1)) l.0 l.1 in
      subst (λ u. Displaces s log (Got u v) k) (sym f.0)
      (displaces_main v k some legal (subst (λ u. notice_of s.mode u v ≡ Reply) f.0 f.1) l.0 f.2
      (ap (λ p. leaving s.capacity (last_use s log) p (held s log)) (sym l.1) ∙ e))

-- ---- a fetch that stays

none_left : (was late goes : Bool) → was ≡ false → (late ≡ true → goes ≡ true → ⊥)
    → (was || (late && goes)) ≡ false
none_left true late goes e free = absurd (let no : ⊥ = cc in no)
none_left false true true e free = absurd (free refl refl)
none_left false true false e free = refl
none_left false false goes e free = refl

left_got : (s : Setup) (log : List LogEntry) (n : ℕ) (q : Words) (w : Wire) (v : Value)
    → 0 < s.capacity → LegalLog s log → 0 < n → open_fetch s log n ≡ Some q
    → left s log n ≡ false
    → ((u : Value) → reply s.mode log n ≡ Some u → Displaces s log (Got w v) (key_of q) → ⊥)
    → left s (Got w v ∷ log) n ≡ false
left_got s log n q w v some legal pos f was free =
    let count = length (replies s.mode Main log) in
    let gone = leaving s.capacity (last_use s log)
    (filled_by w (notice_of s.mode w v) (open_fetch s log (count + 1))) (held s log) in
    none_left (left s log n) (nat_le n count) (is_key gone (open_fetch s log n)) was
    (λ late goes.
    let come = has_come n (replies s.mode Main log) pos (leb-true n count late) in
    let chosen = is_key_some gone q (ap (is_key gone) (sym f) ∙ goes) in
    free come.0 come.1 (displaces s log w v (key_of q) some legal chosen))

left_one : (s : Setup) (log : List LogEntry) (n : ℕ) (q : Words) (e : LogEntry)
    → 0 < s.capacity → LegalLog s log → 0 < n → open_fetch s log n ≡ Some q
    → left s log n ≡ false
    → ((u : Value) → reply s.mode log n ≡ Some u → Displaces s log e (key_of q) → ⊥)
    → left s (e ∷ log) n ≡ false
left_one s log n q (Got w v) some legal pos f was free =
    left_got s log n q w v some legal pos f was free
left_one s log n q (Ask p) some legal pos f was free = was
left_one s log n q (Send ws) some legal pos f was free = was
left_one s log n q (Poll m) some legal pos f was free = was
left_one s log n q (TakeOut w m) some legal pos f was free = was
left_one s log n q (End w) some legal pos f was free = was
left_one s log n q (Bad w v) some legal pos f was free = was

pub legal_sooner : (s : Setup) (later sooner : List LogEntry) → LegalLog s (later ++ sooner)
    → LegalLog s sooner
legal_sooner s [] sooner legal = legal
legal_sooner s (e ∷ later) sooner legal = legal_sooner s later sooner legal.0

pub not_left : (s : Setup) (later sooner : List LogEntry) (n : ℕ) (q : Words) → 0 < s.capacity
    → LegalLog s (later ++ sooner) → 0 < n → open_fetch s sooner n ≡ Some q
    → left s sooner n ≡ false → Spared s sooner n (key_of q) later → NotAnew s sooner q later
    → NotDisplaced s sooner n (key_of q) later → left s (later ++ sooner) n ≡ false
not_left s [] sooner n q some legal pos f was spared last stayed = was
not_left s (e ∷ later) sooner n q some legal pos f was spared last stayed =
    left_one s (later ++ sooner) n q e some legal.0 pos
    (open_since s later sooner n q f spared.1 last.1)
    (not_left s later sooner n q some legal.0 pos f was spared.1 last.1 stayed.1) stayed.0

-- it has not where it was sent
pub not_left_first : (s : Setup) (log : List LogEntry) (n : ℕ) (q : Words) → LegalLog s log
    → n ≡ read_number s log q → left s (Ask q ∷ log) n ≡ false
not_left_first s log n q legal is =
    let within = replies_within s log legal in
    let some = led_some (read_lead s.mode.caching (caching_on_for s.mode log (key_of q))) q in
    stays s log n (omega (arith, within, is, some))
