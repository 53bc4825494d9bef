-- The keys in order of first occurrence, by way of a hash whose fields are the keys met so far.
use Rattle.std.proofs.Common.{◌≡◌, ℕ, Bool, true, false, List, [], ◌∷◌, ◌++◌}
use Rattle.std.proofs.Common.{refl, ap, sym, ◌∙◌, not, append_assoc, ◌-◌, ◌≤◌, length, get_or, take}
use Rattle.std.proofs.Common.{drop, map, subst, arith}
use Rattle.std.proofs.lemmas.List.{take_rest}
use Rattle.std.specs.Prelude.{◌&&◌, ◌||◌, if◌then◌else◌}
use Rattle.std.specs.List.{filter, list_any}
use Rattle.std.specs.Str.{bytes_eq}
use Rattle.resp_value.specs.Tree.{in_turn}
use Rattle.command_words.specs.Hashes.{Pairs, field_set}
use Rattle.command_words.specs.KeyLists.{each_once, with_key}
use Rattle.command_rows.proofs.KeysMet.{is_fresh, met-field_set, filter-filter}

pub all_fresh : (ks : List (List ℕ)) → filter (is_fresh []) ks ≡ ks
all_fresh [] = refl
all_fresh (k ∷ ks) = ap (λ r. k ∷ r) (all_fresh ks)

module _ (met : Pairs) (key v : List ℕ) (ks : List (List ℕ)) where
  others : filter (is_fresh met) (filter (λ k. not (bytes_eq k key)) (each_once ks))
      ≡ filter (is_fresh (field_set key v met)) (each_once ks)
  others =
      filter-filter (is_fresh met) (λ k. not (bytes_eq k key)) (is_fresh (field_set key v met))
      (λ k. ap not (met-field_set k key v met) ∙ neither (bytes_eq k key) _) (each_once ks)
    where
      neither : (a b : Bool) → not (a || b) ≡ (not a && not b)
      neither true b = refl
      neither false b = refl

  -- a key that is met first
  pub first_met : is_fresh met key ≡ true → (keys : List (List ℕ))
      → (keys ++ key ∷ []) ++ filter (is_fresh (field_set key v met)) (each_once ks)
      ≡ keys ++ filter (is_fresh met) (each_once (key ∷ ks))
  first_met fresh keys =
      append_assoc keys (key ∷ []) _
      ∙ ap (λ r. keys ++ r) (ap (λ r. key ∷ r) (sym others)
      ∙ ap (λ b. if b then key ∷ rest else rest) (sym fresh))
    where
      rest : List (List ℕ)
      rest = filter (is_fresh met) (filter (λ k. not (bytes_eq k key)) (each_once ks))

  -- a key that was met before
  pub met_again : is_fresh met key ≡ false → (keys : List (List ℕ))
      → keys ++ filter (is_fresh (field_set key v met)) (each_once ks)
      ≡ keys ++ filter (is_fresh met) (each_once (key ∷ ks))
  met_again stale keys =
      ap (λ r. keys ++ r) (sym others ∙ ap (λ b. if b then key ∷ rest else rest) (sym stale))
    where
      rest : List (List ℕ)
      rest = filter (is_fresh met) (filter (λ k. not (bytes_eq k key)) (each_once ks))

-- the first key of keys and values in turn
pub peeled : (key : List ℕ) (left : List (List ℕ)) → 2 ≤ length left → key ≡ get_or left 0 key
    → each_once (map (λ p. p.0) (in_turn left))
    ≡ each_once (key ∷ map (λ p. p.0) (in_turn (take (length left - 2) (drop 2 left))))
peeled key [] some first = absurd (omega arith)
peeled key (a ∷ []) some first = absurd (omega arith)
peeled key (a ∷ v ∷ left) some first =
    λ i. each_once (sym first i ∷ map (λ p. p.0) (in_turn (sym (take_rest (a ∷ v ∷ left) 2) i)))

module _ (key v : List ℕ) (met after : Pairs) (keys left all : List (List ℕ))
    (some : 2 ≤ length left) (first : key ≡ get_or left 0 key) (set : after ≡ field_set key v met)
    (so_far : keys ++ filter (is_fresh met) (each_once (map (λ p. p.0) (in_turn left))) ≡ all) where
  others_left : List (List ℕ)
  others_left = map (λ p. p.0) (in_turn (take (length left - 2) (drop 2 left)))

  peeled_off : keys ++ filter (is_fresh met) (each_once (key ∷ others_left)) ≡ all
  unfolding others_left
  peeled_off = ap (λ z. keys ++ filter (is_fresh met) z) (sym (peeled key left some first)) ∙ so_far

  pub more_first : is_fresh met key ≡ true → (more : List (List ℕ)) → more ≡ keys ++ key ∷ []
      → more ++ filter (is_fresh after)
      (each_once (map (λ p. p.0) (in_turn (take (length left - 2) (drop 2 left))))) ≡ all
  unfolding others_left
  more_first fresh more is =
      (λ i. is i ++ filter (is_fresh (set i)) (each_once others_left))
      ∙ (first_met met key v others_left fresh keys ∙ peeled_off)

  pub more_again : is_fresh met key ≡ false
      → keys ++ filter (is_fresh after)
      (each_once (map (λ p. p.0) (in_turn (take (length left - 2) (drop 2 left))))) ≡ all
  unfolding others_left
  more_again stale =
      (λ i. keys ++ filter (is_fresh (set i)) (each_once others_left))
      ∙ (met_again met key v others_left stale keys ∙ peeled_off)

-- ---- by a look at the keys met so far

-- they are the fields of a hash
abbrev pub fields : List (List ℕ) → Pairs
fields keys = map (λ k. (k, [])) keys

among : (key : List ℕ) (keys : List (List ℕ))
    → is_fresh (fields keys) key ≡ not (list_any (bytes_eq key) keys)
among key [] = refl
among key (k ∷ keys) = grind (arith, among key keys)

set_new : (key : List ℕ) (keys : List (List ℕ)) → list_any (bytes_eq key) keys ≡ false
    → field_set key [] (fields keys) ≡ fields (keys ++ key ∷ [])
set_new key [] e = refl
set_new key (k ∷ keys) e = grind (arith, set_new key keys)

set_again : (key : List ℕ) (keys : List (List ℕ)) → list_any (bytes_eq key) keys ≡ true
    → field_set key [] (fields keys) ≡ fields keys
set_again key [] e = absurd cc
set_again key (k ∷ keys) e = grind (arith, set_again key keys)

module _ (key : List ℕ) (keys left all : List (List ℕ)) (some : 2 ≤ length left)
    (first : key ≡ get_or left 0 key)
    (so_far : keys ++ filter (is_fresh (fields keys)) (each_once (map (λ p. p.0) (in_turn left)))
    ≡ all) where
  abbrev goes_on : List (List ℕ) → Type 0
  goes_on met = met ++ filter (is_fresh (fields met))
      (each_once (map (λ p. p.0) (in_turn (take (length left - 2) (drop 2 left))))) ≡ all

  abbrev after : List (List ℕ) → Pairs → Type 0
  after met fs = met ++ filter (is_fresh fs)
      (each_once (map (λ p. p.0) (in_turn (take (length left - 2) (drop 2 left))))) ≡ all

  by : (b : Bool) → list_any (bytes_eq key) keys ≡ b
      → goes_on (if b then keys else keys ++ key ∷ [])
  by true e =
      subst (after keys) (set_again key keys e)
      (more_again key [] (fields keys) (field_set key [] (fields keys)) keys left all some first
      refl so_far (among key keys ∙ ap not e))
  by false e =
      subst (after (keys ++ key ∷ [])) (set_new key keys e)
      (more_first key [] (fields keys) (field_set key [] (fields keys)) keys left all some first
      refl so_far (among key keys ∙ ap not e) (keys ++ key ∷ []) refl)

  pub looked_on : (more : List (List ℕ)) → more ≡ with_key key keys → goes_on more
  looked_on more is = subst goes_on (sym is) (by (list_any (bytes_eq key) keys) refl)
