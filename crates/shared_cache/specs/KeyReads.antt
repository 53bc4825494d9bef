-- What tells the queries of one key apart.
use Rattle.std.specs.Prelude.{◌≡◌, List, [], ◌∷◌, Bool, false, codes}
use Rattle.std.specs.List.{All}
use Rattle.std.specs.Str.{bytes_eq}
use Rattle.command_words.specs.Queries.{key_of}
use Rattle.shared_cache.specs.declared.entry.CacheEntry.{CacheEntry}
use Rattle.shared_cache.specs.Held.{Key, Words}
use Rattle.shared_cache.specs.HeldKeys.{Pairs}
use Rattle.shared_cache.specs.Laws.{Every}

-- a GET: of a key there is one
abbrev pub is_get : Words → Bool
is_get (name ∷ key ∷ []) = bytes_eq name (codes "GET")
is_get _ = false

abbrev pub AreOfKey : Key → List CacheEntry → Type 0
AreOfKey k = All (λ h. key_of h.query ≡ k)

-- what is held of each key is of that key
abbrev pub AreOfKeys : Pairs → Type 0
AreOfKeys = Every (λ p. AreOfKey p.0 p.1)
