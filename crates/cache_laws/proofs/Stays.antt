-- What is held stays, but where an entry ends it or displaces its key.
use Rattle.std.proofs.Common.{◌≡◌, ◌<◌, ◌≤◌, zero, suc, List, [], ◌∷◌, length, Bool, true, false}
use Rattle.std.proofs.Common.{not, cond}
use Rattle.std.proofs.Common.{Option, Some, None, sym, ap, ◌∙◌, refl, subst, inl, inr, arith}
use Rattle.std.specs.List.{filter, Contains}
use Rattle.std.proofs.lemmas.Bool.{cases_Bool}
use Rattle.std.proofs.lemmas.List.Elements.{Contains-append_left}
use Rattle.command_words.specs.Queries.{key_of}
use Rattle.shared_cache.specs.declared.log.LogEntry.{LogEntry}
use Rattle.shared_cache.specs.declared.entry.CacheEntry.{CacheEntry}
use Rattle.shared_cache.specs.declared.log.Wire.TheVariants.{Main}
use Rattle.shared_cache.specs.Log.{replies}
use Rattle.shared_cache.specs.Held.{Setup, Key, leaving, last_use, held}
use Rattle.shared_cache.specs.Laws.{LegalLog}
use Rattle.shared_cache.proofs.Filled.{is_gone}
use Rattle.shared_cache.proofs.KeyTests.{bytes_same}
use Rattle.cache_laws.specs.HeldExactly.{Displaces, StaysUnless}
use Rattle.cache_laws.proofs.Displaced.{displaces_main}
use Rattle.cache_laws.proofs.Changes.{Fills, change}
use Rattle.cache_laws.proofs.Kept.{held_within}

contains_kept : (t : CacheEntry → Bool) (hs : List CacheEntry) (h : CacheEntry) → Contains hs h
    → t h ≡ true → Contains (filter t hs) h
contains_kept t [] h c passes = absurd (omega (arith, c.1))
contains_kept t (g ∷ hs) h (zero, lt, is) passes =
    subst (λ l. Contains l h)
    (sym (ap (λ b. cond b (g ∷ filter t hs) (filter t hs)) (ap t is ∙ passes)))
    (0, omega arith, is)
contains_kept t (g ∷ hs) h (suc k, lt, is) passes =
    let c = contains_kept t hs h (k, omega (arith, lt), is) passes in
    go (t g) refl c
  where
    go : (b : Bool) → t g ≡ b → Contains (filter t hs) h
        → Contains (cond b (g ∷ filter t hs) (filter t hs)) h
    go true e c = let lt = c.1 in (suc c.0, omega (arith, lt), c.2)
    go false e c = c

gone_is : (o : Option Key) (k : Key) → is_gone o k ≡ true → o ≡ Some k
gone_is None k e = absurd (let no : ⊥ = cc in no)
gone_is (Some j) k e = ap Some (sym (bytes_same k j e))

pub stays : (s : Setup) (log : List LogEntry) (e : LogEntry) → 0 < s.capacity
    → LegalLog s (e ∷ log) → (h : CacheEntry) → Contains (held s log) h → StaysUnless s log e h
stays s log e some legal h c = elim (change s log e legal) [
  | inl same ↦ inl (subst (λ l. Contains l h) (sym same) c)
  | inr other ↦ elim other [
    | inl ended ↦ elim (cases_Bool (ended.test (key_of h.query))) [
      | inl yes_ ↦ inr (inl (ended.ends_is h.number (key_of h.query) within ∙ yes_))
      | inr not_ ↦
          inl (subst (λ l. Contains l h) (sym ended.held_is)
          (contains_kept (λ g. not (ended.test (key_of g.query))) (held s log) h c (ap not not_)))
    ]
    | inr f ↦ filled_stays f
  ]
]
  where
    within : h.number ≤ length (replies s.mode Main log)
    within = held_within s log h c

    filled_stays : Fills s log e → StaysUnless s log e h
    filled_stays f =
        let gone = leaving s.capacity (last_use s log) (Some f.query) (held s log) in
        elim (cases_Bool (f.test (key_of h.query))) [
          | inl over ↦ inr (inl (f.ends_is h.number (key_of h.query) within ∙ over))
          | inr spared ↦ elim (cases_Bool (is_gone gone (key_of h.query))) [
            | inl yes_ ↦
                inr (inr (subst (λ x. Displaces s log x (key_of h.query)) (sym f.got)
                (displaces_main s log f.value (key_of h.query) some legal.0 f.kind f.query f.fetch
                (gone_is gone (key_of h.query) yes_))))
            | inr not_ ↦
                inl (subst (λ l. Contains l h) (sym f.held_is)
                (Contains-append_left
                (filter (λ g. not (is_gone gone (key_of g.query)))
                (filter (λ g. not (f.test (key_of g.query))) (held s log))) _ h
                (contains_kept (λ g. not (is_gone gone (key_of g.query)))
                (filter (λ g. not (f.test (key_of g.query))) (held s log)) h
                (contains_kept (λ g. not (f.test (key_of g.query))) (held s log) h c
                (ap not spared)) (ap not not_))))
          ]
        ]
