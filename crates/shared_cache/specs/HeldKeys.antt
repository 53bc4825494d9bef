-- The cache as the client keeps it: the keys that are held, the one used last first, each with what
-- is held of it in order of the fetches.
use Rattle.std.specs.Prelude.{◌≡◌, ◌-◌, ◌<◌, ◌≤◌, ◌++◌, ℕ, List, [], ◌∷◌, take, true, not, Option}
use Rattle.std.specs.Prelude.{Some, None, false, map, length, slice_index_or, IsPermutation}
use denote.Ref.{Bor}
use Rattle.std.specs.List.{filter}
use Rattle.std.specs.Map.{lookup_entry, remove_entry}
use Rattle.std.specs.Option.{option_map_or}
use Rattle.std.specs.Str.{bytes_eq}
use Rattle.command_words.specs.Queries.{key_of}
use Rattle.command_words.specs.declared.written.Written.{Written}
use Rattle.command_words.specs.declared.written.Written.TheVariants as written
use Rattle.shared_cache.specs.declared.entry.CacheEntry.{CacheEntry}
use Rattle.resp_value.specs.declared.value.Value.{Value}
use Rattle.shared_cache.specs.Held.{Key, Words, held_for, has_key, keys_held, is_before}
use Rattle.shared_cache.specs.Laws.{Every}

abbrev pub Pairs : Type 0
Pairs = List (Key × List CacheEntry)

-- what is held of the query
abbrev pub found_in : Words → Pairs → Option CacheEntry
found_in q pairs =
    option_map_or (λ p. held_for q p.1) (lookup_entry (bytes_eq (key_of q)) pairs) None

-- what is held of the key
abbrev pub entries_of : Key → Pairs → List CacheEntry
entries_of k pairs = option_map_or (λ p. p.1) (lookup_entry (bytes_eq k) pairs) []

-- what is held of each key, one key after the other
abbrev pub listed : Pairs → List CacheEntry
listed [] = []
listed (p ∷ pairs) = p.1 ++ listed pairs

-- what references show
abbrev pub seen : List (Bor CacheEntry) → List CacheEntry
seen = map (λ (e : Bor CacheEntry). e.now)

-- the second list is the first in order
pub record IsSortedAs (hs sorted : List CacheEntry) : Type 0 where
  pub permutes : IsPermutation hs sorted
  pub ascends : (i j : ℕ) (d : CacheEntry) → i ≤ j → j < length sorted
      → is_before (slice_index_or sorted j d) (slice_index_or sorted i d) ≡ false

-- the other keys after a fill of this one: a new key pushes the last out of a full cache
abbrev pub others : Key → ℕ → Pairs → Pairs
others k most pairs =
    option_map_or (λ p. remove_entry (bytes_eq k) pairs) (lookup_entry (bytes_eq k) pairs)
    (take (most - 1) pairs)

-- after a fill the entry is the last of its key, and the key is first
abbrev pub stored : ℕ → CacheEntry → Pairs → Pairs
stored most h pairs =
    (key_of h.query, entries_of (key_of h.query) pairs ++ h ∷ [])
    ∷ others (key_of h.query) most pairs

-- or is all that its key has
abbrev pub stored_alone : ℕ → CacheEntry → Pairs → Pairs
stored_alone most h pairs =
    (key_of h.query, h ∷ []) ∷ others (key_of h.query) most pairs

-- the keys go, one after the other
abbrev pub forget : List Key → Pairs → Pairs
forget [] pairs = pairs
forget (k ∷ ks) pairs = forget ks (remove_entry (bytes_eq k) pairs)

abbrev pub forgotten : Written → Pairs → Pairs
forgotten (written.Keys ks) pairs = forget ks pairs
forgotten written.All pairs = []

abbrev pub of_key : Key → List CacheEntry → List CacheEntry
of_key k = filter (λ h. bytes_eq (key_of h.query) k)

abbrev pub but_key : Key → List CacheEntry → List CacheEntry
but_key k = filter (λ h. not (bytes_eq (key_of h.query) k))

-- the pairs are what is held, by key
abbrev pub ArePairsOf : Pairs → List CacheEntry → Type 0
ArePairsOf [] hs = hs ≡ []
ArePairsOf (p ∷ pairs) hs =
    (p.1 ≡ of_key p.0 hs) × (has_key p.0 hs ≡ true) × ArePairsOf pairs (but_key p.0 hs)

-- each key was used later than those after it
abbrev pub IsByUse : (Key → ℕ) → Pairs → Type 0
IsByUse use_of [] = Unit {0}
IsByUse use_of (p ∷ pairs) = Every (λ r. use_of r.0 < use_of p.0) pairs × IsByUse use_of pairs

-- what a contract sees of the keys that are held, and how many there may be
pub record KeysHeld : Type 0 where
  pub pairs : Pairs
  pub most : ℕ

abbrev pub with_pairs : Pairs → KeysHeld → KeysHeld
with_pairs pairs k = record { pairs = pairs; most = k.most }

abbrev pub without_named : Option Written → KeysHeld → KeysHeld
without_named None k = k
without_named (Some w) k = with_pairs (forgotten w k.pairs) k

abbrev pub put_beside : Option Written → CacheEntry → KeysHeld → KeysHeld
put_beside None h k = with_pairs (stored k.most h k.pairs) k
put_beside (Some w) h k = with_pairs (stored_alone k.most h k.pairs) k

-- the keys after a reply to that number, which fills the query of its fetch where it is open. Where
-- the keys that its command names are given, they go, and a fill is all that is held of its key.
abbrev pub answered_keys : Option Written → Option Words → ℕ → Value → KeysHeld → KeysHeld
answered_keys named None n v k = without_named named k
answered_keys named (Some q) n v k =
    put_beside named (record { query = q; value = v; number = n }) k

-- the keys are those of what is held, each used later than those after it, and no more than may be
pub record Keeps (most : ℕ) (use_of : Key → ℕ) (hs : List CacheEntry) (k : KeysHeld) : Type 0 where
  pub most_is : k.most ≡ most
  pub some : 0 < most
  pub within : keys_held hs ≤ most
  pub pairs_are : ArePairsOf k.pairs hs
  pub by_use : IsByUse use_of k.pairs
