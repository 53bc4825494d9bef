-- The keys among keys and values in turn, one after the other.
use Rattle.std.proofs.Common.{◌≡◌, ◌≤◌, ◌-◌, refl, ap, ℕ, List, [], ◌∷◌, ◌++◌, length, take, drop}
use Rattle.std.proofs.Common.{get_or, arith}
use Rattle.std.proofs.lemmas.List.{take_all}
use Rattle.command_words.specs.Queries.{keys_in_turn}

after_key : (out : List (List ℕ)) (k v : List ℕ) (ws : List (List ℕ)) →
    (out ++ k ∷ []) ++ keys_in_turn ws ≡ out ++ keys_in_turn (k ∷ v ∷ ws)
after_key [] k v ws = refl
after_key (o ∷ out) k v ws = ap (λ l. o ∷ l) (after_key out k v ws)

pub next_key : (out ws : List (List ℕ)) (k x : List ℕ) → 2 ≤ length ws → k ≡ x → x ≡ get_or ws 0 x
    → (out ++ k ∷ []) ++ keys_in_turn (take (length ws - 2) (drop 2 ws)) ≡ out ++ keys_in_turn ws
next_key out ws k h le e is = grind (arith, take_all, after_key)
