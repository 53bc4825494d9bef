-- The keys stay those of what is held.
use Rattle.std.proofs.Common.{◌≡◌, ◌<◌, ℕ, List, [], ◌∷◌, not, Option, Some, None}
use Rattle.std.proofs.Common.{◌++◌, Bool, true, false, sym, ap, ◌∙◌, refl, subst, arith}
use Rattle.std.specs.List.{filter, list_any}
use Rattle.std.specs.Map.{remove_entry}
use Rattle.std.specs.Str.{bytes_eq}
use Rattle.resp_value.specs.declared.value.Value.{Value}
use Rattle.command_words.specs.Queries.{key_of, names}
use Rattle.command_words.specs.declared.written.Written.{Written}
use Rattle.command_words.specs.declared.written.Written.TheVariants as written
use Rattle.lru.specs.LruCache.{promoted}
use Rattle.shared_cache.specs.declared.entry.CacheEntry.{CacheEntry}
use Rattle.shared_cache.specs.Held.{Key, Words, leaving, used_at}
use Rattle.shared_cache.specs.HeldKeys.{Pairs, KeysHeld, Keeps, ArePairsOf, IsByUse, but_key}
use Rattle.shared_cache.specs.HeldKeys.{with_pairs, forget, forgotten, stored, stored_alone}
use Rattle.shared_cache.specs.HeldKeys.{answered_keys}
use Rattle.shared_cache.proofs.Filled.{is_gone, filled, replied_to}
use Rattle.shared_cache.proofs.InPlace.{all_stay, none_stay, filter_twice, filter_same_test}
use Rattle.shared_cache.proofs.Capacity.{kept_keys, any_filled, any_replied}
use Rattle.shared_cache.proofs.HeldSteps.{replied_none}
use Rattle.shared_cache.proofs.KeyPairs.{pairs_without, pairs_promoted, pairs_filled, pairs_alone}
use Rattle.shared_cache.proofs.KeyPairs.{by_use_without, by_use_promoted, by_use_stored}
use Rattle.shared_cache.proofs.KeyPairs.{by_use_alone}

-- the keys that go at a reply are those that are named
abbrev pub NamedAs : Option Written → (Key → Bool) → Type 0
NamedAs None t = (j : Key) → t j ≡ false
NamedAs (Some w) t = (j : Key) → t j ≡ names w j

-- ---- none is held

pub keeps_none : (most : ℕ) (use_of : Key → ℕ) (hs : List CacheEntry) (k : KeysHeld)
    → Keeps most use_of hs k → (new : List CacheEntry) → new ≡ []
    → Keeps most use_of new (with_pairs [] k)
keeps_none most use_of hs k i new e = grind arith

-- ---- the same is held, used alike

pub keeps_same : (most : ℕ) (use_of use_new : Key → ℕ) (hs new : List CacheEntry) (k : KeysHeld)
    → ((j : Key) → use_new j ≡ use_of j) → new ≡ hs → Keeps most use_of hs k
    → Keeps most use_new new k
keeps_same most use_of use_new hs new k same e i = grind arith

-- ---- keys go

pairs_forget : (ks : List Key) (pairs : Pairs) (hs : List CacheEntry) → ArePairsOf pairs hs
    → ArePairsOf (forget ks pairs)
    (filter (λ h. not (list_any (bytes_eq (key_of h.query)) ks)) hs)
pairs_forget [] pairs hs p = subst (ArePairsOf pairs) (sym (all_stay hs)) p
pairs_forget (k ∷ ks) pairs hs p =
    grind (
      arith,
      filter_twice,
      filter_same_test,
      pairs_without,
      pairs_forget ks (remove_entry (bytes_eq k) pairs) (but_key k hs) (pairs_without k pairs hs p),
    )

by_use_forget : (use_of : Key → ℕ) (ks : List Key) (pairs : Pairs) → IsByUse use_of pairs
    → IsByUse use_of (forget ks pairs)
by_use_forget use_of [] pairs u = u
by_use_forget use_of (k ∷ ks) pairs u =
    by_use_forget use_of ks (remove_entry (bytes_eq k) pairs)
    (by_use_without use_of (bytes_eq k) pairs u)

module _ (most : ℕ) (use_of : Key → ℕ) (hs : List CacheEntry) (k : KeysHeld)
    (i : Keeps most use_of hs k) where
  pub keeps_forgotten : (w : Written)
      → Keeps most use_of (filter (λ h. not (names w (key_of h.query))) hs)
      (with_pairs (forgotten w k.pairs) k)
  keeps_forgotten (written.Keys ks) = record {
    most_is = i.most_is;
    some = i.some;
    within = (let l = kept_keys (names (written.Keys ks)) hs in let w = i.within in
        omega (arith, l, w));
    pairs_are = pairs_forget ks k.pairs hs i.pairs_are;
    by_use = by_use_forget use_of ks k.pairs i.by_use;
  }
  keeps_forgotten written.All = keeps_none most use_of hs k i _ (none_stay hs)

  -- ---- a key is used

  module _ (now : ℕ) (bound : (j : Key) → use_of j < now) where
    pub keeps_promoted : (q : Words)
        → Keeps most (λ j. used_at (Some q) j now (use_of j)) hs
        (with_pairs (promoted (bytes_eq (key_of q)) k.pairs) k)
    keeps_promoted q = record {
      most_is = i.most_is;
      some = i.some;
      within = i.within;
      pairs_are = pairs_promoted (key_of q) k.pairs hs i.pairs_are;
      by_use = by_use_promoted use_of q now bound k.pairs hs i.pairs_are i.by_use;
    }

    pub keeps_filled : (o : Option Words) (n : ℕ) (v : Value)
        → Keeps most (λ j. used_at o j now (use_of j)) (filled most use_of o n v hs)
        (answered_keys None o n v k)
    keeps_filled None n v = i
    keeps_filled (Some q) n v =
        let entry : CacheEntry = record { query = q; value = v; number = n } in
        record {
          most_is = i.most_is;
          some = i.some;
          within = any_filled most use_of (Some q) n v hs i.some i.within;
          pairs_are = subst (λ m. ArePairsOf (stored m entry k.pairs)
              (filled most use_of (Some q) n v hs)) (sym i.most_is)
              (pairs_filled most use_of q n v hs k.pairs i.some i.pairs_are i.by_use i.within);
          by_use = by_use_stored use_of q now bound k.most entry k.pairs refl i.by_use;
        }

    -- ---- a reply

    replied_plain : (o : Option Words) (n : ℕ) (v : Value) (t : Key → Bool)
        → ((k : Key) → t k ≡ false)
        → replied_to most use_of o n v t hs ≡ filled most use_of o n v hs
    replied_plain None n v t none =
        replied_none most use_of n v t hs
        ∙ filter_same_test (λ (h : CacheEntry). not (t (key_of h.query))) (λ h. true) hs
        (λ h. ap not (none (key_of h.query)))
        ∙ all_stay hs
    replied_plain (Some q) n v t none =
        ap (λ l. filter (λ (h : CacheEntry). not (is_gone (leaving most use_of (Some q) hs)
        (key_of h.query))) l ++ record { query = q; value = v; number = n } ∷ [])
        (filter_same_test (λ (h : CacheEntry). not (t (key_of h.query))) (λ h. true) hs
        (λ h. ap not (none (key_of h.query)))
        ∙ all_stay hs)

    keeps_alone : (q : Words) (n : ℕ) (v : Value) (t : Key → Bool)
        → ((j : Key) → t j ≡ bytes_eq j (key_of q))
        → Keeps most (λ j. used_at (Some q) j now (use_of j))
        (replied_to most use_of (Some q) n v t hs)
        (with_pairs (stored_alone k.most (record { query = q; value = v; number = n }) k.pairs) k)
    keeps_alone q n v t own =
        let entry : CacheEntry = record { query = q; value = v; number = n } in
        subst (λ l. Keeps most (λ j. used_at (Some q) j now (use_of j))
        (filter (λ (h : CacheEntry). not (is_gone (leaving most use_of (Some q) hs)
        (key_of h.query))) l ++ entry ∷ [])
        (with_pairs (stored_alone k.most entry k.pairs) k))
        (filter_same_test (λ (h : CacheEntry). not (bytes_eq (key_of h.query) (key_of q)))
        (λ (h : CacheEntry). not (t (key_of h.query))) hs
        (λ h. ap not (sym (own (key_of h.query)))))
        (record {
          most_is = i.most_is;
          some = i.some;
          within = any_replied most use_of (Some q) n v (λ j. bytes_eq j (key_of q)) hs i.some
              i.within;
          pairs_are = subst (λ m. ArePairsOf (stored_alone m entry k.pairs)
              (replied_to most use_of (Some q) n v (λ j. bytes_eq j (key_of q)) hs))
              (sym i.most_is)
              (pairs_alone most use_of q n v hs k.pairs i.some i.pairs_are i.by_use i.within);
          by_use = by_use_alone use_of q now bound k.most entry k.pairs refl i.by_use;
        })

    pub keeps_replied : (named : Option Written) (o : Option Words) (n : ℕ) (v : Value)
        (t : Key → Bool) → NamedAs named t
        → ((q : Words) → o ≡ Some q → (w : Written) → named ≡ Some w → (j : Key)
        → t j ≡ bytes_eq j (key_of q))
        → Keeps most (λ j. used_at o j now (use_of j)) (replied_to most use_of o n v t hs)
        (answered_keys named o n v k)
    keeps_replied None None n v t is exact =
        subst (λ l. Keeps most use_of l k) (sym (replied_plain None n v t is))
        (keeps_filled None n v)
    keeps_replied None (Some q) n v t is exact =
        subst (λ l. Keeps most (λ j. used_at (Some q) j now (use_of j)) l
        (with_pairs (stored k.most (record { query = q; value = v; number = n }) k.pairs) k))
        (sym (replied_plain (Some q) n v t is))
        (keeps_filled (Some q) n v)
    keeps_replied (Some w) None n v t is exact =
        subst (λ l. Keeps most use_of l (with_pairs (forgotten w k.pairs) k))
        (filter_same_test (λ (h : CacheEntry). not (names w (key_of h.query)))
        (λ (h : CacheEntry). not (t (key_of h.query))) hs
        (λ h. ap not (sym (is (key_of h.query))))
        ∙ sym (replied_none most use_of n v t hs))
        (keeps_forgotten w)
    keeps_replied (Some w) (Some q) n v t is exact =
        keeps_alone q n v t (λ j. exact q refl w refl j)
