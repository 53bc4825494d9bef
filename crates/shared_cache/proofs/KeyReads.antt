-- What is held of each key stays of that key.
use Rattle.std.proofs.Common.{◌≡◌, ◌-◌, ◌++◌, ℕ, zero, suc, List, [], ◌∷◌, Bool, true, false, cond}
use Rattle.std.proofs.Common.{Vec, Global, Option, Some, map, take, sym, ap, ◌∙◌, refl, subst}
use Rattle.std.proofs.Common.{arith}
use Rattle.std.specs.Map.{lookup, lookup_entry, remove_entry}
use Rattle.std.specs.Option.{option_map_or}
use Rattle.std.specs.Str.{bytes_eq}
use Rattle.std.proofs.lemmas.List.Elements.{All-nil, All-append}
use Rattle.std.proofs.lemmas.Grind.{common_steps}
use Rattle.command_words.specs.Queries.{key_of}
use Rattle.lru.specs.LruCache.{promoted}
use Rattle.shared_cache.specs.declared.entry.CacheEntry.{CacheEntry}
use Rattle.shared_cache.specs.Held.{Key}
use Rattle.shared_cache.specs.HeldKeys.{Pairs, others, entries_of}
use Rattle.shared_cache.specs.KeyReads.{AreOfKey, AreOfKeys}
use Rattle.shared_cache.proofs.KeyCode.{Kept, key_is, entries_plain, put_others}
use Rattle.shared_cache.proofs.PlainKeys.{plain}

-- ---- the entries of each key stay of that key

pub of_keys_without : (t : Key → Bool) (ps : Pairs) → AreOfKeys ps → AreOfKeys (remove_entry t ps)
of_keys_without t [] a = tt
of_keys_without t (p ∷ ps) a = grind (arith, common_steps, a, of_keys_without t ps a.1)

found_of_key : (t : Key → Bool) (ps : Pairs) (p : Key × List CacheEntry)
    → lookup_entry t ps ≡ Some p → AreOfKeys ps → AreOfKey p.0 p.1
found_of_key t [] p e a = cc
found_of_key t (r ∷ ps) p e a = (elim (t r.0) as (λ b. t r.0 ≡ b → AreOfKey p.0 p.1) [
  | true ↦ λ same. let is : Some r ≡ Some p
      = sym (ap (λ b. cond b (Some r) (lookup_entry t ps)) same) ∙ e in
      let is_ : r ≡ p = cc in
      subst (λ (x : Key × List CacheEntry). AreOfKey x.0 x.1) is_ a.0
  | false ↦ λ other. found_of_key t ps p
      (sym (ap (λ b. cond b (Some r) (lookup_entry t ps)) other) ∙ e) a.1
]) refl

promoted_by : (t : Key → Bool) (ps : Pairs) (o : Option (Key × List CacheEntry))
    → lookup_entry t ps ≡ o → AreOfKeys ps
    → AreOfKeys (option_map_or (λ e. e ∷ remove_entry t ps) o ps)
promoted_by t ps o e a = grind (arith, found_of_key, of_keys_without)

pub of_keys_promoted : (t : Key → Bool) (ps : Pairs) → AreOfKeys ps → AreOfKeys (promoted t ps)
of_keys_promoted t ps a = promoted_by t ps (lookup_entry t ps) refl a

of_keys_first : (n : ℕ) (ps : Pairs) → AreOfKeys ps → AreOfKeys (take n ps)
of_keys_first zero ps a = tt
of_keys_first (suc n) [] a = tt
of_keys_first (suc n) (p ∷ ps) a = (a.0, of_keys_first n ps a.1)

pub of_keys_others : (k : Key) (most : ℕ) (ps : Pairs) → AreOfKeys ps → AreOfKeys (others k most ps)
of_keys_others k most ps a = grind (arith, of_keys_first, of_keys_without)

-- ---- what is found is of the key

pub entries_of_key : (k : Key) (ps : Pairs) → AreOfKeys ps → AreOfKey k (entries_of k ps)
entries_of_key k ps a = grind (arith, key_is, found_of_key)

pub found_is_of_key : (k : Key) (es : Kept) (vs : List CacheEntry)
    → Some vs ≡ lookup (λ y. bytes_eq k y.items) es → AreOfKeys (map plain es) → AreOfKey k vs
found_is_of_key k es vs e a =
    subst (AreOfKey k) (sym (entries_plain k es (Some vs) e)) (entries_of_key k (map plain es) a)

pub more_of_key : (k : Key) (hs : List CacheEntry) (h : CacheEntry) → AreOfKey k hs
    → key_of h.query ≡ k → AreOfKey k (hs ++ h ∷ [])
more_of_key k hs h a e =
    All-append (λ (o : CacheEntry). key_of o.query ≡ k) hs (h ∷ []) a (grind arith)

pub none_of_key : (k : Key) → AreOfKey k []
none_of_key k = All-nil (λ (o : CacheEntry). key_of o.query ≡ k)

-- what a put of these entries of the key leaves
pub put_of_keys : (es : Kept) (k : Vec ℕ Global) (v : List CacheEntry) (most : ℕ)
    → AreOfKeys (map plain es) → AreOfKey k.items v
    → AreOfKeys (map plain (option_map_or (λ e. (e.0, v)
    ∷ remove_entry (λ y. bytes_eq k.items y.items) es)
    (lookup_entry (λ y. bytes_eq k.items y.items) es) ((k, v) ∷ take (most - 1) es)))
put_of_keys es k v most a b =
    subst AreOfKeys (sym (put_others es k v most))
    (b, of_keys_others k.items most (map plain es) a)
