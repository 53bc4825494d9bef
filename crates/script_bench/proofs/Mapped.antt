-- A map of keys in bytes: what one more key leaves of the others.
use Rattle.std.proofs.Common.{◌≡◌, ◌<◌, ◌+◌, ℕ, List, Bool, true, false, Vec, Global, Some}
use Rattle.std.proofs.Common.{refl, sym, ap, subst, ◌∙◌, arith}
use Rattle.std.specs.Cmp.Lexicographic.{bytes_decides, nat_list_eq_equiv}
use Rattle.std.specs.HashMap.{HashMap, get_by, UpdatesBy}
use Rattle.std.specs.Map.{KeepsOthers, lookup}
use Rattle.std.specs.Str.{bytes_eq}
use Rattle.std.specs.Prelude.{nat_lt}
use Rattle.std.proofs.lemmas.Bool.Decides.{nat_tests}
use Rattle.resp_value.specs.declared.value.Value.{Value}
use Rattle.script_bench.specs.Asks.{key_of}
use Rattle.script_bench.specs.Filled.{content_is}

abbrev Key : Type 0
Key = Vec ℕ Global

abbrev same : Key → Key → Bool
same x y = bytes_eq x.items y.items

abbrev has : List ℕ → Key → Bool
has bytes k = bytes_eq bytes k.items

apart : (bytes others items : List ℕ) → bytes_eq bytes others ≡ false
    → bytes_eq bytes items ≡ true → bytes_eq others items ≡ false
apart bytes others items differ is =
    nat_list_eq_equiv.symm others items ∙ sym (nat_list_eq_equiv.congr bytes items others is)
    ∙ differ

other_key : (k : Key) (others : List ℕ) (old new : List (Key × Value))
    → KeepsOthers same (same k) old new → bytes_eq k.items others ≡ false
    → lookup (has others) new ≡ lookup (has others) old
unfolding KeepsOthers
other_key k others old new keeps differ =
    keeps (has others) (λ x y. nat_list_eq_equiv.congr others x.items y.items)
    (λ x. apart k.items others x.items differ)

module _ {S : Type 0} where
  by_case : (b : Bool) (k : Key) (m n : HashMap Key Value S) (bytes : List ℕ)
      → bytes_eq k.items bytes ≡ b → UpdatesBy same (same k) m n (Some content_is)
      → (b ≡ false → get_by (has bytes) m ≡ Some content_is)
      → get_by (has bytes) n ≡ Some content_is
  by_case true k m n bytes is put before =
      subst (λ x. get_by (has x) n ≡ Some content_is) ((bytes_decides k.items bytes).0 is) put.1
  by_case false k m n bytes is put before =
      other_key k bytes m.entries n.entries put.3 is ∙ before refl

  -- the keys up to that number are there
  pub one_more : (number next : ℕ) (k : Key) (m n : HashMap Key Value S) (v : Value)
      → k.items ≡ key_of number → v ≡ content_is → next ≡ number + 1
      → UpdatesBy same (same k) m n (Some v)
      → ((i : ℕ) → i < number → get_by (has (key_of i)) m ≡ Some content_is)
      → (i : ℕ) → i < next → get_by (has (key_of i)) n ≡ Some content_is
  one_more number next k m n v k_is v_is next_is put before i lt =
      let key = key_of i in
      by_case (bytes_eq k.items key) k m n key refl
      (subst (λ x. UpdatesBy same (same k) m n (Some x)) v_is put)
      (λ differ. before i (earlier differ))
    where
      not_same : bytes_eq k.items (key_of i) ≡ false → i ≡ number → ⊥
      not_same differ e =
          let is : bytes_eq k.items (key_of i) ≡ true
          = subst (λ x. bytes_eq k.items x ≡ true) (k_is ∙ ap key_of (sym e))
          (nat_list_eq_equiv.refl k.items) in
          let both : true ≡ false = sym is ∙ differ in cc

      below : (b : Bool) → nat_lt i number ≡ b → (i ≡ number → ⊥) → i < number
      below true e differ = grind (arith, nat_tests)
      below false e differ =
          absurd (differ (let here : i ≡ number = grind (arith, nat_tests, lt, next_is) in here))

      earlier : bytes_eq k.items (key_of i) ≡ false → i < number
      earlier differ = below (nat_lt i number) refl (not_same differ)
