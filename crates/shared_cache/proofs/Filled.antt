-- What is held after a fill.
use Rattle.std.proofs.Common.{ℕ, List, [], ◌∷◌, ◌++◌, Bool, false, not, Option, Some, None}
use Rattle.std.specs.List.{filter}
use Rattle.std.specs.Str.{bytes_eq}
use Rattle.resp_value.specs.declared.value.Value.{Value}
use Rattle.command_words.specs.Queries.{key_of}
use Rattle.shared_cache.specs.declared.entry.CacheEntry.{CacheEntry}
use Rattle.shared_cache.specs.Held.{Key, Words, leaving}

abbrev pub is_gone : Option Key → Key → Bool
is_gone None k = false
is_gone (Some j) k = bytes_eq k j

-- what is held after a fill of the query, where there is one
abbrev pub filled : ℕ → (Key → ℕ) → Option Words → ℕ → Value → List CacheEntry → List CacheEntry
filled capacity use_of None n v hs = hs
filled capacity use_of (Some q) n v hs =
    filter (λ h. not (is_gone (leaving capacity use_of (Some q) hs) (key_of h.query))) hs
    ++ record { query = q; value = v; number = n } ∷ []

abbrev pub new_entry : Option Words → ℕ → Value → List CacheEntry
new_entry None n v = []
new_entry (Some q) n v = record { query = q; value = v; number = n } ∷ []

-- what is held after a reply, before which what is held of some keys goes: which key leaves is
-- judged by what was held before
abbrev pub replied_to : ℕ → (Key → ℕ) → Option Words → ℕ → Value → (Key → Bool) → List CacheEntry
    → List CacheEntry
replied_to capacity use_of o n v t hs =
    filter (λ h. not (is_gone (leaving capacity use_of o hs) (key_of h.query)))
    (filter (λ h. not (t (key_of h.query))) hs)
    ++ new_entry o n v
