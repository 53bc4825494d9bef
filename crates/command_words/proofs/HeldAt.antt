-- What a key holds after a change of the keyspace.
use Rattle.std.proofs.Common.{◌≡◌, ◌∙◌, refl, sym, ap, ℕ, List, [], ◌∷◌, Bool, cond, None, Some}
use Rattle.std.proofs.Common.{not, ◌||◌, arith}
use Rattle.std.specs.Cmp.Lexicographic.{nat_list_cmp_total, texts_ties}
use Rattle.std.specs.FinMap.{get, insert, remove, get-insert, get-remove, get-retain_keys}
use Rattle.std.specs.FinMap.{slice_cmp-IsAntisymmetric, nat_cmp-IsAntisymmetric}
use Rattle.std.specs.List.{list_any}
use Rattle.std.specs.Str.{bytes_eq}
use Rattle.command_words.specs.Expiry.{is_past, without_due}
use Rattle.command_words.specs.Keys.{remove_each}
use Rattle.command_words.specs.Space.{Held, Space, held_at, deadline_at}

pub at_insert : (s : Space) (k : List ℕ) (held : Held) (q : List ℕ) →
    held_at q (insert s k held) ≡ cond (bytes_eq q k) (Some held) (held_at q s)
at_insert s k held q =
    get-insert nat_list_cmp_total s k held q
    ∙ ap (λ b. cond b (Some held) (get s q)) (sym (texts_ties q k))

pub at_remove : (s : Space) (k q : List ℕ) →
    held_at q (remove s k) ≡ cond (bytes_eq q k) None (held_at q s)
at_remove s k q =
    get-remove nat_list_cmp_total s k q
    ∙ ap (λ b. cond b None (get s q)) (sym (texts_ties q k))

pub at_remove_each : (ks : List (List ℕ)) (s : Space) (q : List ℕ) →
    held_at q (remove_each ks s) ≡ cond (list_any (bytes_eq q) ks) None (held_at q s)
at_remove_each [] s q = refl
at_remove_each (k ∷ ks) s q =
    at_remove_each ks (remove s k) q
    ∙ ap (cond (list_any (bytes_eq q) ks) None) (at_remove s k q)
    ∙ by (bytes_eq q k) (list_any (bytes_eq q) ks)
  where
    by : (a b : Bool) → cond b None (cond a None (get s q)) ≡ cond (a || b) None (get s q)
    by a b = grind arith

pub at_without_due : (moment : ℕ) (s : Space) (q : List ℕ) →
    held_at q (without_due moment s)
    ≡ cond (not (is_past moment (deadline_at q s))) (held_at q s) None
at_without_due moment s q =
    get-retain_keys s (λ key. not (is_past moment (deadline_at key s))) q
    (λ x tied. ap (λ key. not (is_past moment (deadline_at key s)))
    (sym (slice_cmp-IsAntisymmetric nat_cmp-IsAntisymmetric q x tied)))
