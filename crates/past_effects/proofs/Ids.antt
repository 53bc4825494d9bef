-- Ids for which a test holds, and the bytes of what is sent to one of them.
use Rattle.std.proofs.Common.{◌≡◌, ◌<◌, ◌≤◌, ℕ, zero, suc, List, [], ◌∷◌, Bool, false, refl, ap}
use Rattle.std.proofs.Common.{arith, map, length, length-append}
use Rattle.std.proofs.lemmas.Bool.Decides.{nat_tests}
use Rattle.std.proofs.lemmas.List.Folds.{list_any-append}
use Rattle.serial_model.specs.Actions.{End, Sending, bytes_to, sending_bytes}
use Rattle.serial_model.specs.History.{posted_of}
use Rattle.serial_model.specs.Tracking.{has_id, ids_where}
use Rattle.past_effects.specs.Sendings.{bytes_for, end_of, outline, size_of}

pub ids_same : (f g : ℕ → Bool) (n : ℕ) → ((c : ℕ) → 0 < c → c ≤ n → f c ≡ g c)
    → ids_where f n ≡ ids_where g n
ids_same f g zero same = refl
ids_same f g (suc n) same =
    grind (arith, ids_same f g n (λ c some le. same c some (omega (arith, le))))

ids_above : (test : ℕ → Bool) (c n : ℕ) → n < c → has_id c (ids_where test n) ≡ false
ids_above test c zero lt = refl
ids_above test c (suc n) lt = grind (arith, list_any-append, nat_tests, ids_above test c n)

pub ids_has : (test : ℕ → Bool) (c n : ℕ) → 0 < c → c ≤ n
    → has_id c (ids_where test n) ≡ test c
ids_has test c zero some le = absurd (let no : ⊥ = omega (arith, some, le) in no)
ids_has test c (suc n) some le =
    grind (arith, list_any-append, nat_tests, ids_above, ids_has test c n)

-- ---- bytes

size_sent : (s : Sending) → size_of (posted_of s) ≡ length (sending_bytes s)
size_sent s = grind arith

pub bytes_are : (c : ℕ) (ss : List (ℕ × Sending))
    → bytes_for c (map outline ss) ≡ length (bytes_to c ss)
bytes_are c [] = refl
bytes_are c (s ∷ ss) = grind (arith, size_sent, length-append, bytes_are c ss)

-- ends have none
pub ends_no_bytes : (c : ℕ) (ids : List ℕ) → bytes_to c (map (λ id. (id, End)) ids) ≡ []
ends_no_bytes c [] = refl
ends_no_bytes c (id ∷ ids) = grind (arith, ends_no_bytes c ids)

pub ends_are : (ids : List ℕ) → map end_of ids ≡ map outline (map (λ id. (id, End)) ids)
ends_are [] = refl
ends_are (id ∷ ids) = ap (λ l. end_of id ∷ l) (ends_are ids)
