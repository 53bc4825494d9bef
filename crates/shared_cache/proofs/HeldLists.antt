-- How what is held changes with its fetches.
use Rattle.std.proofs.Common.{◌≡◌, ◌≤◌, ℕ, List, [], ◌∷◌, length, Bool, not, Option, None, ◌∙◌}
use Rattle.std.proofs.Common.{refl, arith, append-nil}
use Rattle.std.specs.List.{filter}
use Rattle.std.proofs.lemmas.List.Elements.{filter-append}
use Rattle.std.proofs.lemmas.Grind.{common_steps}
use Rattle.resp_value.specs.declared.value.Value.{Value}
use Rattle.command_words.specs.Queries.{same_query}
use Rattle.shared_cache.specs.declared.entry.CacheEntry.{CacheEntry}
use Rattle.shared_cache.specs.Held.{Words, held_for, hold, held_by}

-- some of what is held stays
pub held_filter : (open_of open_new : ℕ → Option Words) (left_of left_new : ℕ → Bool)
    (p : CacheEntry → Bool) (vs : List Value)
    → ((n : ℕ) (v : Value) → n ≤ length vs
    → hold (open_new n) (left_new n) v n ≡ filter p (hold (open_of n) (left_of n) v n))
    → held_by open_new left_new vs ≡ filter p (held_by open_of left_of vs)
held_filter open_of open_new left_of left_new p [] each = refl
held_filter open_of open_new left_of left_new p (v ∷ vs) each = grind (
  arith,
  filter-append,
  held_filter open_of open_new left_of left_new p vs (λ n u le. each n u (omega arith)),
)

-- nothing changes
pub held_same : (open_of open_new : ℕ → Option Words) (left_of left_new : ℕ → Bool)
    (vs : List Value)
    → ((n : ℕ) (v : Value) → n ≤ length vs
    → hold (open_new n) (left_new n) v n ≡ hold (open_of n) (left_of n) v n)
    → held_by open_new left_new vs ≡ held_by open_of left_of vs
held_same open_of open_new left_of left_new [] each = refl
held_same open_of open_new left_of left_new (v ∷ vs) each =
    grind (arith, held_same open_of open_new left_of left_new vs (λ n u le. each n u (omega arith)))

-- nothing is left
pub held_none : (left_of : ℕ → Bool) (vs : List Value) → held_by (λ n. None) left_of vs ≡ []
held_none left_of [] = refl
held_none left_of (v ∷ vs) = append-nil (held_by (λ n. None) left_of vs) ∙ held_none left_of vs

-- what is not held does not go
pub none_held : (q : Words) (hs : List CacheEntry) → held_for q hs ≡ None
    → filter (λ h. not (same_query h.query q)) hs ≡ hs
none_held q [] e = refl
none_held q (h ∷ hs) e = grind (arith, common_steps, none_held q hs)
