-- What the calls of the map of keys do, as the definitions of the cache by key say it.
use Rattle.std.proofs.Common.{◌≡◌, ◌-◌, ℕ, List, [], ◌∷◌, map, take, true, false, cond, Vec, Global}
use Rattle.std.proofs.Common.{Option, Some, None, option_map, ap, ◌∙◌, refl, arith}
use Rattle.std.specs.Prelude.{is_some}
use Rattle.std.specs.Map.{lookup, lookup_entry, remove_entry}
use Rattle.std.specs.Option.{option_map_or}
use Rattle.std.specs.Str.{bytes_eq}
use Rattle.std.proofs.lemmas.Grind.{common_steps}
use Rattle.command_words.specs.Queries.{key_of}
use Rattle.shared_cache.specs.declared.entry.CacheEntry.{CacheEntry}
use Rattle.shared_cache.specs.Held.{Key, Words, held_for}
use Rattle.shared_cache.specs.HeldKeys.{Pairs, found_in, entries_of, others}
use Rattle.shared_cache.proofs.KeyTests.{same_bytes, bytes_same}
use Rattle.shared_cache.proofs.PlainKeys.{plain, value_plain, put_plain}

abbrev pub Kept : Type 0
Kept = List (Vec ℕ Global × List CacheEntry)

pair_or : (q : Words) (o : Option (Key × List CacheEntry))
    → option_map_or (held_for q) (option_map (λ p. p.1) o) None ≡ option_map_or
    (λ p. held_for q p.1) o None
pair_or q o = grind arith

pub found_plain : (q : Words) (k : Key) (es : Kept) (o : Option (List CacheEntry))
    → k ≡ key_of q → o ≡ lookup (λ y. bytes_eq k y.items) es
    → option_map_or (held_for q) o None ≡ found_in q (map plain es)
found_plain q k es o e f =
    ap (λ x. option_map_or (held_for q) x None) (f ∙ value_plain (bytes_eq k) es)
    ∙ pair_or q (lookup_entry (bytes_eq k) (map plain es))
    ∙ ap (λ j. option_map_or (λ (p : Key × List CacheEntry). held_for q p.1)
    (lookup_entry (bytes_eq j) (map plain es)) None) e

pair_list : (o : Option (Key × List CacheEntry))
    → option_map_or (λ l. l) (option_map (λ p. p.1) o) [] ≡ option_map_or (λ p. p.1) o []
pair_list o = grind arith

pub entries_plain : (k : Key) (es : Kept) (o : Option (List CacheEntry))
    → o ≡ lookup (λ y. bytes_eq k y.items) es
    → option_map_or (λ l. l) o [] ≡ entries_of k (map plain es)
entries_plain k es o f =
    ap (λ x. option_map_or (λ (l : List CacheEntry). l) x []) (f ∙ value_plain (bytes_eq k) es)
    ∙ pair_list (lookup_entry (bytes_eq k) (map plain es))

some_pair : (o : Option (Key × List CacheEntry)) → is_some (option_map (λ p. p.1) o) ≡ is_some o
some_pair o = grind arith

pub some_plain : (k : Key) (es : Kept)
    → is_some (lookup (λ y. bytes_eq k y.items) es) ≡ is_some
    (lookup_entry (bytes_eq k) (map plain es))
some_plain k es =
    ap is_some (value_plain (bytes_eq k) es) ∙ some_pair (lookup_entry (bytes_eq k) (map plain es))

-- the pair that is found has the key
pub key_is : (k : Key) (ps : Pairs) (p : Key × List CacheEntry)
    → lookup_entry (bytes_eq k) ps ≡ Some p → k ≡ p.0
key_is k [] p e = cc
key_is k (r ∷ ps) p e = grind (arith, common_steps, bytes_same k r.0, key_is k ps p)

put_cases : (k : Key) (vs : List CacheEntry) (most : ℕ) (ps : Pairs)
    (o : Option (Key × List CacheEntry)) → lookup_entry (bytes_eq k) ps ≡ o
    → option_map_or (λ e. (e.0, vs) ∷ remove_entry (bytes_eq k) ps) o ((k, vs) ∷ take (most - 1) ps)
    ≡ (k, vs) ∷ option_map_or (λ p. remove_entry (bytes_eq k) ps) o (take (most - 1) ps)
put_cases k vs most ps o e = grind (arith, key_is)

pub put_others : (es : Kept) (k : Vec ℕ Global) (v : List CacheEntry) (most : ℕ)
    → map plain (option_map_or (λ e. (e.0, v) ∷ remove_entry (λ y. bytes_eq k.items y.items) es)
    (lookup_entry (λ y. bytes_eq k.items y.items) es) ((k, v) ∷ take (most - 1) es))
    ≡ (k.items, v) ∷ others k.items most (map plain es)
put_others es k v most =
    put_plain (bytes_eq k.items) es k v (most - 1)
    ∙ put_cases k.items v most (map plain es)
    (lookup_entry (bytes_eq k.items) (map plain es)) refl

pub there_others : (k : Key) (most : ℕ) (ps : Pairs) → is_some (lookup_entry (bytes_eq k) ps) ≡ true
    → others k most ps ≡ remove_entry (bytes_eq k) ps
there_others k most ps s = grind arith

-- the first pair has the key
pub first_there : (k : Key) (vs : List CacheEntry) (ps : Pairs)
    → is_some (lookup_entry (bytes_eq k) ((k, vs) ∷ ps)) ≡ true
first_there k vs ps = grind (arith, same_bytes)

pub without_first : (k : Key) (vs : List CacheEntry) (ps : Pairs)
    → remove_entry (bytes_eq k) ((k, vs) ∷ ps) ≡ ps
without_first k vs ps = ap (λ b. cond b ps ((k, vs) ∷ remove_entry (bytes_eq k) ps)) (same_bytes k)

none_by : (o : Option (Key × List CacheEntry)) → is_some o ≡ false
    → option_map_or (λ p. p.1) o [] ≡ []
none_by o s = grind arith

-- nothing is held of a key that is not there
pub none_of : (k : Key) (ps : Pairs) → is_some (lookup_entry (bytes_eq k) ps) ≡ false
    → entries_of k ps ≡ []
none_of k ps s = none_by (lookup_entry (bytes_eq k) ps) s
