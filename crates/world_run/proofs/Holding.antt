-- How many queries a client holds, by the list of them.
use Rattle.std.proofs.Common.{◌≡◌, ◌<◌, ◌∙◌, ℕ, List, None, Some, arith, inl, inr, length, sym}
use Rattle.std.specs.List.{slice_get}
use Rattle.std.proofs.lemmas.Bool.{cases_lt}
use Rattle.std.proofs.lemmas.Option.{slice_get_cases}
use Rattle.shared_cache.specs.declared.entry.CacheEntry.{CacheEntry}
use Rattle.shared_cache.specs.Held.{held_in_place}
use Rattle.shared_cache.specs.Laws.{InOrder}

module _ (hs ys : List CacheEntry) (order : InOrder hs)
    (same : (place : ℕ) → slice_get ys place ≡ held_in_place place hs) where
  no_more : length hs < length ys → ⊥
  no_more more = elim (slice_get_cases ys (length hs)).1 [
    | inl found ↦
        let none : slice_get ys (length hs) ≡ None =
        same (length hs) ∙ order.beyond (length hs) (omega arith) in
        let some : Some found.0 ≡ None = sym found.2 ∙ none in
        (let no : ⊥ = cc in no)
    | inr past ↦ let le = past.0 in (let no : ⊥ = omega (arith, le, more) in no)
  ]

  no_fewer : length ys < length hs → ⊥
  no_fewer fewer = elim (slice_get_cases ys (length ys)).1 [
    | inl found ↦ let lt = found.1 in (let no : ⊥ = omega (arith, lt) in no)
    | inr past ↦
        let f = order.filled (length ys) fewer in
        let some : None ≡ Some f.0 = sym past.1 ∙ same (length ys) ∙ f.1 in
        (let no : ⊥ = cc in no)
  ]

  pub as_many : length ys ≡ length hs
  as_many = elim (cases_lt (length ys) (length hs)) [
    | inl fewer ↦ absurd (no_fewer fewer)
    | inr least ↦ elim (cases_lt (length hs) (length ys)) [
      | inl more ↦ absurd (no_more more)
      | inr most ↦ omega (arith, least, most)
    ]
  ]
