-- What is held still holds.
use Rattle.std.proofs.Common.{◌≡◌, ◌+◌, ◌≤◌, ◌++◌, zero, suc, ◌&&◌, ◌||◌, ℕ, List, [], ◌∷◌, length}
use Rattle.std.proofs.Common.{Bool, true, false, cond, Option, Some, None, sym, ap, ◌∙◌, refl}
use Rattle.std.proofs.Common.{subst, inl, inr, arith, ne_eqb}
use Rattle.std.specs.List.{Contains}
use Rattle.std.proofs.lemmas.Bool.{cases_eq, cases_lt, or_parts, le-leb}
use Rattle.std.proofs.lemmas.List.Elements.{Contains-append_cases}
use Rattle.resp_value.specs.declared.value.Value.{Value}
use Rattle.command_words.specs.Queries.{key_of}
use Rattle.shared_cache.specs.declared.log.Wire.TheVariants.{Main}
use Rattle.shared_cache.specs.declared.log.LogEntry.{LogEntry}
use Rattle.shared_cache.specs.declared.log.LogEntry.TheVariants.{Ask, Send, Poll, TakeOut, Got, End}
use Rattle.shared_cache.specs.declared.log.LogEntry.TheVariants.{Bad}
use Rattle.shared_cache.specs.declared.entry.CacheEntry.{CacheEntry}
use Rattle.shared_cache.specs.declared.notices.Notice.{Notice}
use Rattle.shared_cache.specs.declared.notices.Notice.TheVariants.{Reply}
use Rattle.shared_cache.specs.Notices.{kind_of}
use Rattle.shared_cache.specs.Log.{replies, with_reply, reply_in, reply}
use Rattle.shared_cache.specs.Held.{Setup, Words, leaving, is_key, hold, held_by, filled_by}
use Rattle.shared_cache.specs.Held.{open_fetch, left, last_use, held}
use Rattle.shared_cache.specs.Laws.{LegalLog, Spared, Every, IsFetch}
use Rattle.shared_cache.proofs.FetchLaws.{held_is_fetch}
use Rattle.shared_cache.proofs.HeldSteps.{replies_reply}
use Rattle.shared_cache.proofs.KeyTests.{same_bytes}
use Rattle.cache_laws.specs.HeldExactly.{NotAnew, Displaces, NotDisplaced, StillHolds}
use Rattle.cache_laws.proofs.Fetching.{is_open, is_under_way, open_first, open_since}
use Rattle.cache_laws.proofs.Displaced.{none_yet}
use Rattle.cache_laws.proofs.Uses.{leaving_is}

left_before : (s : Setup) (log : List LogEntry) (n : ℕ) (e : LogEntry)
    → left s (e ∷ log) n ≡ false → left s log n ≡ false
left_before s log n (Got w v) f =
    (or_parts (left s log n) _ f).0
left_before s log n (Ask q) f = f
left_before s log n (Send ws) f = f
left_before s log n (Poll m) f = f
left_before s log n (TakeOut w m) f = f
left_before s log n (End w) f = f
left_before s log n (Bad w v) f = f

-- a value that brings a reply is one, and the reply of the next number
brings_reply : (s : Setup) (log : List LogEntry) (v u : Value) (n : ℕ)
    → reply s.mode (Got Main v ∷ log) n ≡ Some u → reply s.mode log n ≡ None
    → (kind_of v ≡ Reply) × (n ≡ length (replies s.mode Main log) + 1)
brings_reply s log v u n answered first = go (kind_of v) refl
  where
    vs : List Value
    vs = replies s.mode Main log

    go : (k : Notice) → kind_of v ≡ k → (kind_of v ≡ Reply) × (n ≡ length vs + 1)
    go Reply e = (
      e,
      elim (cases_eq n (length vs + 1)) [
        | inl same ↦ same
        | inr apart ↦
            let no : None ≡ Some u
            = sym (ap (λ b. cond b (Some v) (reply_in n vs)) (ne_eqb n (length vs + 1) apart)
            ∙ first) ∙ sym (ap (reply_in n) (replies_reply s log v e)) ∙ answered in
            absurd (let none : ⊥ = cc in none)
      ],
    )
    go k e =
        let same = ap (λ r. with_reply true r v vs) e in
        let no : None ≡ Some u = sym first ∙ sym (ap (reply_in n) same) ∙ answered in
        absurd (let none : ⊥ = cc in none)

displaced_left : (s : Setup) (log : List LogEntry) (n : ℕ) (q : Words) (e : LogEntry) (v : Value)
    → LegalLog s log → open_fetch s log n ≡ Some q → reply s.mode log n ≡ Some v
    → Displaces s log e (key_of q) → left s (e ∷ log) n ≡ true
displaced_left s log n q e v legal f come d =
    let vs = replies s.mode Main log in
    let brings = brings_reply s log d.value d.value d.number
    (ap (λ x. reply s.mode (x ∷ log) d.number) (sym d.got) ∙ d.answered) d.first in
    let fetch : open_fetch s log (length vs + 1) ≡ Some d.query
    = ap (open_fetch s log) (sym brings.1) ∙ is_open s log d.number d.query d.fetch in
    let use_of = last_use s log in
    let gone : leaving s.capacity use_of
    (filled_by Main (kind_of d.value) (open_fetch s log (length vs + 1))) (held s log)
    ≡ Some (key_of q)
    = (λ i. leaving s.capacity use_of (filled_by Main (brings.0 i) (fetch i)) (held s log))
    ∙ leaving_is s log d.query (key_of q) legal d.other d.full d.earliest in
    let within : n ≤ length vs = elim (cases_lt (length vs) n) [
      | inl lt ↦
          let no : None ≡ Some v = sym (none_yet n vs lt) ∙ come in
          absurd (let none : ⊥ = cc in none)
      | inr le ↦ le
    ] in
    ap (λ x. left s (x ∷ log) n) d.got
    ∙ (λ i. left s log n || (le-leb n (length vs) within i && is_key (gone i) (f i)))
    ∙ ap (λ b. left s log n || b) (same_bytes (key_of q))
    ∙ or_true (left s log n)
  where
    or_true : (b : Bool) → (b || true) ≡ true
    or_true true = refl
    or_true false = refl

kept_since : (s : Setup) (later sooner : List LogEntry) (n : ℕ) (q : Words)
    → LegalLog s (later ++ sooner) → open_fetch s sooner n ≡ Some q
    → Spared s sooner n (key_of q) later → NotAnew s sooner q later
    → left s (later ++ sooner) n ≡ false → NotDisplaced s sooner n (key_of q) later
kept_since s [] sooner n q legal f spared last stays = tt
kept_since s (e ∷ later) sooner n q legal f spared last stays = (
  λ v come d.
      let l = displaced_left s (later ++ sooner) n q e v legal.0
      (open_since s later sooner n q f spared.1 last.1) come d in
      let no : true ≡ false = sym l ∙ stays in
      absurd (let none : ⊥ = cc in none),
  kept_since s later sooner n q legal.0 f spared.1 last.1
      (left_before s (later ++ sooner) n e stays),
)

-- what is held has not left
module _ (open_of : ℕ → Option Words) (left_of : ℕ → Bool) where
  hold_stays : (o : Option Words) (gone : Bool) (v : Value) (n : ℕ) (h : CacheEntry)
      → left_of n ≡ gone → Contains (hold o gone v n) h → left_of h.number ≡ false
  hold_stays None gone v n h e c = absurd (omega (arith, c.1))
  hold_stays (Some q) true v n h e c = absurd (omega (arith, c.1))
  hold_stays (Some q) false v n h e (zero, lt, is) = ap (λ g. left_of g.number) (sym is) ∙ e
  hold_stays (Some q) false v n h e (suc k, lt, is) = absurd (omega (arith, lt))

  held_stays : (vs : List Value) (h : CacheEntry) → Contains (held_by open_of left_of vs) h
      → left_of h.number ≡ false
  held_stays [] h c = absurd (omega (arith, c.1))
  held_stays (v ∷ vs) h c =
      let m = length vs + 1 in
      elim (Contains-append_cases (held_by open_of left_of vs) (hold (open_of m) (left_of m) v m) h
      c) [
        | inl older ↦ held_stays vs h older
        | inr newer ↦ hold_stays (open_of m) (left_of m) v m h refl newer
      ]

every_contained : (P : CacheEntry → Type 0) (hs : List CacheEntry) (h : CacheEntry) → Every P hs
    → Contains hs h → P h
every_contained P [] h all c = absurd (omega (arith, c.1))
every_contained P (g ∷ hs) h all (zero, lt, is) = subst P is all.0
every_contained P (g ∷ hs) h all (suc k, lt, is) =
    every_contained P hs h all.1 (k, omega (arith, lt), is)

-- what is held has its reply
pub held_within : (s : Setup) (log : List LogEntry) (h : CacheEntry) → Contains (held s log) h
    → h.number ≤ length (replies s.mode Main log)
held_within s log h c =
    let i = every_contained (IsFetch s log) (held s log) h (held_is_fetch s log) c in
    elim (cases_lt (length (replies s.mode Main log)) h.number) [
      | inl past ↦
          let no : None ≡ Some h.value
          = sym (none_yet h.number (replies s.mode Main log) past) ∙ i.reply_is in
          absurd (let none : ⊥ = cc in none)
      | inr le ↦ le
    ]

pub holds : (s : Setup) (log : List LogEntry) → LegalLog s log → (h : CacheEntry)
    → Contains (held s log) h → StillHolds s log h
holds s log legal h c =
    let i = every_contained (IsFetch s log) (held s log) h (held_is_fetch s log) c in
    let u = is_under_way s log h.number h.query i.fetch in
    record {
      fetch = u;
      reply_is = i.reply_is;
      kept = kept_since s u.sent.later (Ask h.query ∷ u.sent.sooner) h.number h.query
          (subst (LegalLog s) u.sent.log_is legal) (open_first s log h.number h.query u)
          u.sent.spared u.last
          (ap (λ l. left s l h.number) (sym u.sent.log_is)
          ∙ held_stays (open_fetch s log) (left s log) (replies s.mode Main log) h c);
    }
