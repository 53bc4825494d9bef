-- What `rsplit_once` gives at a character of one byte, and HOST:PORT at its last colon.
use Rattle.std.proofs.Common.{◌≡◌, ◌<◌, ◌≤◌, ◌+◌, ◌-◌, ◌∙◌, ℕ, zero, suc, arith, refl, List, length}
use Rattle.std.proofs.Common.{get_or, take, drop, Some, None, Bor, MatchOption, sym, ap, ap₂, Bool}
use Rattle.std.proofs.Common.{cond, ⊎_elim, eq-eqb, ne_eqb, length-drop, get_or-drop}
use Rattle.std.specs.declared.option.Option.{Option}
use Rattle.std.specs.Option.{option_map}
use Rattle.std.specs.Prelude.{option_and_then, ◌==◌}
use Rattle.std.specs.Path.{rfind_below, rsplit_once}
use Rattle.std.specs.Str.Pattern.{RFindsChar}
use Rattle.command_line.specs.Commands.{connection_at, connection_in, port_of}
use Rattle.std.proofs.lemmas.Bool.{cases_eq, cond-true, cond-false}
use Rattle.std.proofs.lemmas.Str.{len_utf8_ascii}
use Rattle.std.proofs.lemmas.Str.Pattern.{NoCharPasses-char}

none_below : (c : ℕ) (text : List ℕ) (n : ℕ)
    → ((i : ℕ) → i < n → get_or text i 0 ≡ c → ⊥) → rfind_below c text n ≡ None
none_below c text zero h = refl
none_below c text (suc n) h =
    grind (arith, cond-false, ne_eqb, none_below c text n (λ i l. h i (omega arith)))

last_below : (c : ℕ) (text : List ℕ) (k n : ℕ) → k < n → get_or text k 0 ≡ c
    → ((i : ℕ) → k < i → i < n → get_or text i 0 ≡ c → ⊥) → rfind_below c text n ≡ Some k
last_below c text k zero l at h = absurd (omega arith)
last_below c text k (suc n) l at h =
    ⊎_elim
    (grind (arith, cond-true, eq-eqb, get_or))
    (λ other. cond-false _ _ _ (ne_eqb _ c (h n (omega arith) (omega arith)))
    ∙ last_below c text k n (omega arith) at (λ i a b. h i a (omega arith)))
    (cases_eq k n)

pub split_at : (c : ℕ) (text : List ℕ) (r : Option (Bor (List ℕ) × Bor (List ℕ)))
    → MatchOption r (RFindsChar c text None)
    (λ x. (i : ℕ) × (j : ℕ) × RFindsChar c text (Some (i, j)) × (x.0.now ≡ take i text)
    × (x.1.now ≡ drop j text) × (i ≤ j) × (length x.0.now ≡ i)
    × (length x.1.now + j ≡ length text))
    → c < 128 → option_map (λ x. (x.0.now, x.1.now)) r ≡ rsplit_once c text
unfolding rsplit_once
split_at c text None h low =
    sym (ap (option_map (λ i. (take i text, drop (i + 1) text)))
    (none_below c text (length text) (λ i. NoCharPasses-char c text i h low)))
split_at c text (Some x) h low =
    let i = h.0 in
    let j = h.1 in
    let next : j ≡ i + 1 = omega (arith, h.2.1.ends, len_utf8_ascii c low) in
    let later : (k : ℕ) → i < k → k < length text → get_or text k 0 ≡ c → ⊥ = λ k a l e.
    let after : j + (k - j) ≡ k = omega arith in
    NoCharPasses-char c (drop j text) (k - j) h.2.0 low (omega (arith, length-drop j text))
    (get_or-drop j text (k - j) 0 ∙ ap (λ n. get_or text n 0) after ∙ e) in
    grind (arith, last_below)

abbrev Splits : List ℕ → Option (Bor (List ℕ) × Bor (List ℕ)) → Type 0
Splits text r =
    MatchOption r (RFindsChar 58 text None)
    (λ x. (i : ℕ) × (j : ℕ) × RFindsChar 58 text (Some (i, j)) × (x.0.now ≡ take i text)
    × (x.1.now ≡ drop j text) × (i ≤ j) × (length x.0.now ≡ i)
    × (length x.1.now + j ≡ length text))

pub no_colon : (text : List ℕ) (r : Option (Bor (List ℕ) × Bor (List ℕ))) → Splits text r
    → r ≡ None → None ≡ connection_in text
no_colon text r splits none =
    ap (option_and_then (λ sides. connection_at sides.0 (port_of (Some sides.1))))
    (sym (ap (option_map (λ x. (x.0.now, x.1.now))) none) ∙ split_at 58 text r splits (omega arith))

pub at_colon : (text : List ℕ) (r : Option (Bor (List ℕ) × Bor (List ℕ)))
    (host port : Bor (List ℕ)) → Splits text r → r ≡ Some (host, port)
    → (b : Bool) → b ≡ (length host.now == 0) → (number : Option ℕ)
    → number ≡ port_of (Some port.now)
    → cond b None (option_map (λ n. record { host = host.now; port = n }) number)
    ≡ connection_in text
at_colon text r host port splits some b is_empty number is =
    ap₂ (λ (e : Bool) (o : Option ℕ).
    cond e None (option_map (λ n. record { host = host.now; port = n }) o)) is_empty is
    ∙ ap (option_and_then (λ sides. connection_at sides.0 (port_of (Some sides.1))))
    (sym (ap (option_map (λ x. (x.0.now, x.1.now))) some) ∙ split_at 58 text r splits (omega arith))
