-- The places of what is held are the same in the order of the keys.
use Rattle.std.proofs.Common.{◌≡◌, ◌+◌, ◌++◌, ◌⊎◌, ℕ, List, [], ◌∷◌, true, false, Bool, cond, not}
use Rattle.std.proofs.Common.{Option, Some, None, sym, ap, ◌∙◌, refl, subst, inl, inr, arith}
use Rattle.std.specs.Str.{bytes_eq}
use Rattle.std.proofs.lemmas.Grind.{common_steps}
use Rattle.command_words.specs.Queries.{key_of}
use Rattle.shared_cache.specs.declared.entry.CacheEntry.{CacheEntry}
use Rattle.shared_cache.specs.declared.log.LogEntry.{LogEntry}
use Rattle.shared_cache.specs.Held.{Setup, Key, held, rank, ranked, held_in_place}
use Rattle.shared_cache.specs.HeldKeys.{Pairs, ArePairsOf, listed, of_key, but_key}
use Rattle.shared_cache.proofs.Order.{Among, Apart, ranked_some, ranked_is, same_ranked, held_apart}

-- ---- the same entries

among_left : (h : CacheEntry) (xs ys : List CacheEntry) → Among h xs → Among h (xs ++ ys)
among_left h [] ys a = absurd a
among_left h (x ∷ xs) ys (inl e) = inl e
among_left h (x ∷ xs) ys (inr a) = inr (among_left h xs ys a)

among_right : (h : CacheEntry) (xs ys : List CacheEntry) → Among h ys → Among h (xs ++ ys)
among_right h [] ys a = a
among_right h (x ∷ xs) ys a = inr (among_right h xs ys a)

among_either : (h : CacheEntry) (xs ys : List CacheEntry) → Among h (xs ++ ys)
    → Among h xs ⊎ Among h ys
among_either h [] ys a = inr a
among_either h (x ∷ xs) ys (inl e) = inl (inl e)
among_either h (x ∷ xs) ys (inr a) = grind (arith, among_either h xs ys a)

or_right : {P Q R : Type 0} → (Q → R) → P ⊎ Q → P ⊎ R
or_right f e = grind arith

among_of : (k : Key) (h : CacheEntry) (hs : List CacheEntry) → Among h (of_key k hs) → Among h hs
among_of k h [] a = a
among_of k h (g ∷ gs) a =
    elim (bytes_eq (key_of g.query) k) as
    (λ b. Among h (cond b (g ∷ of_key k gs) (of_key k gs)) → Among h (g ∷ gs)) [
      | true ↦ λ x. or_right (among_of k h gs) x
      | false ↦ λ x. inr (among_of k h gs x)
    ] a

among_but : (k : Key) (h : CacheEntry) (hs : List CacheEntry) → Among h (but_key k hs) → Among h hs
among_but k h [] a = a
among_but k h (g ∷ gs) a =
    elim (bytes_eq (key_of g.query) k) as
    (λ b. Among h (cond (not b) (g ∷ but_key k gs) (but_key k gs)) → Among h (g ∷ gs)) [
      | true ↦ λ x. inr (among_but k h gs x)
      | false ↦ λ x. or_right (among_but k h gs) x
    ] a

first_or : {P Q R S : Type 0} → (Q → R ⊎ S) → P ⊎ Q → (P ⊎ R) ⊎ S
first_or f e = grind arith

second_or : {P Q R S : Type 0} → (Q → R ⊎ S) → P ⊎ Q → R ⊎ (P ⊎ S)
second_or f e = grind arith

among_parts : (k : Key) (h : CacheEntry) (hs : List CacheEntry) → Among h hs
    → Among h (of_key k hs) ⊎ Among h (but_key k hs)
among_parts k h [] a = absurd a
among_parts k h (g ∷ gs) a =
    elim (bytes_eq (key_of g.query) k) as
    (λ b. Among h (cond b (g ∷ of_key k gs) (of_key k gs))
    ⊎ Among h (cond (not b) (g ∷ but_key k gs) (but_key k gs)))
    [ true ↦ first_or (among_parts k h gs) a | false ↦ second_or (among_parts k h gs) a ]

pub listed_held : (pairs : Pairs) (hs : List CacheEntry) (h : CacheEntry) → ArePairsOf pairs hs
    → Among h (listed pairs) → Among h hs
listed_held [] hs h p a = absurd a
listed_held (r ∷ pairs) hs h p a = elim (among_either h r.1 (listed pairs) a) [
  | inl x ↦ among_of r.0 h hs (subst (Among h) p.0 x)
  | inr x ↦ among_but r.0 h hs (listed_held pairs (but_key r.0 hs) h p.2 x)
]

pub held_listed : (pairs : Pairs) (hs : List CacheEntry) (h : CacheEntry) → ArePairsOf pairs hs
    → Among h hs → Among h (listed pairs)
held_listed [] hs h p a = subst (Among h) p a
held_listed (r ∷ pairs) hs h p a = elim (among_parts r.0 h hs a) [
  | inl x ↦ among_left h r.1 (listed pairs) (subst (Among h) (sym p.0) x)
  | inr x ↦ among_right h r.1 (listed pairs) (held_listed pairs (but_key r.0 hs) h p.2 x)
]

-- ---- as many before each

pub rank_append : (h : CacheEntry) (xs ys : List CacheEntry)
    → rank h (xs ++ ys) ≡ rank h xs + rank h ys
rank_append h [] ys = omega arith
rank_append h (x ∷ xs) ys = grind (arith, common_steps, rank_append h xs ys)

rank_parts : (k : Key) (h : CacheEntry) (hs : List CacheEntry)
    → rank h (of_key k hs) + rank h (but_key k hs) ≡ rank h hs
rank_parts k h [] = refl
rank_parts k h (g ∷ gs) = let e = rank_parts k h gs in
    grind (arith, two)
  where
    one : (b : Bool) (l m n : ℕ) → l + m ≡ n → cond b (l + 1) l + m ≡ cond b (n + 1) n
    one b l m n e = grind (arith, common_steps)

    two : (b : Bool) (l m n : ℕ) → l + m ≡ n → l + cond b (m + 1) m ≡ cond b (n + 1) n
    two b l m n e = grind (arith, common_steps)

pub rank_listed : (pairs : Pairs) (hs : List CacheEntry) (h : CacheEntry) → ArePairsOf pairs hs
    → rank h (listed pairs) ≡ rank h hs
rank_listed [] hs h p = ap (rank h) (sym p)
rank_listed (r ∷ pairs) hs h p =
    grind (arith, rank_append, rank_parts, rank_listed pairs (but_key r.0 hs) h p.2)

-- ---- the same places

module _ (place : ℕ) (pairs : Pairs) (hs : List CacheEntry) (p : ArePairsOf pairs hs)
    (apart : Apart hs) where
  by_answer : (o : Option CacheEntry) → held_in_place place hs ≡ o → (u : Option CacheEntry)
      → held_in_place place (listed pairs) ≡ u → u ≡ o
  by_answer (Some h) e (Some g) f =
      let r = ranked_is place hs hs h e in
      let t = ranked_is place (listed pairs) (listed pairs) g f in
      ap Some (same_ranked hs g h apart (listed_held pairs hs g p t.0) r.0
      (sym (rank_listed pairs hs g p) ∙ t.1 ∙ sym r.1))
  by_answer (Some h) e None f =
      let r = ranked_is place hs hs h e in
      let s = ranked_some place (listed pairs) (listed pairs) h (held_listed pairs hs h p r.0)
      (rank_listed pairs hs h p ∙ r.1) in
      let no : None ≡ Some s.0 = sym f ∙ s.1 in absurd (let not_ : ⊥ = cc in not_)
  by_answer None e (Some g) f =
      let t = ranked_is place (listed pairs) (listed pairs) g f in
      let s = ranked_some place hs hs g (listed_held pairs hs g p t.0)
      (sym (rank_listed pairs hs g p) ∙ t.1) in
      let no : None ≡ Some s.0 = sym e ∙ s.1 in absurd (let not_ : ⊥ = cc in not_)
  by_answer None e None f = refl

pub pairs_placed : (s : Setup) (log : List LogEntry) (place : ℕ) (pairs : Pairs)
    → ArePairsOf pairs (held s log)
    → held_in_place place (listed pairs) ≡ held_in_place place (held s log)
pairs_placed s log place pairs p = grind (arith, held_apart, by_answer)

-- ---- one key after the other

pub ranked_append : (place : ℕ) (all xs ys : List CacheEntry) → ranked place all xs ≡ None
    → ranked place all (xs ++ ys) ≡ ranked place all ys
ranked_append place all [] ys e = refl
ranked_append place all (x ∷ xs) ys e = grind (arith, common_steps, ranked_append place all xs ys)

pub ranked_found : (place : ℕ) (all xs ys : List CacheEntry) (h : CacheEntry)
    → ranked place all xs ≡ Some h → ranked place all (xs ++ ys) ≡ Some h
ranked_found place all [] ys h e = cc
ranked_found place all (x ∷ xs) ys h e = grind (arith, common_steps, ranked_found place all xs ys h)
