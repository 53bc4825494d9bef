-- The order of deadlines, and that each change leaves an index in order.
use Rattle.std.proofs.Common.{◌≡◌, ℕ, List, [], ◌∷◌, Bool, true, false, refl, ap, sym, ◌∙◌}
use Rattle.std.proofs.Common.{eq-eqb, arith}
use Rattle.std.specs.Prelude.{filter}
use Rattle.std.specs.declared.cmp.Ordering.{Ordering}
use Rattle.std.specs.declared.cmp.Ordering.TheVariants.{Less, Equal}
use Rattle.std.specs.Ordering.{is_lt, nat_cmp, ordering_reverse}
use Rattle.std.specs.Cmp.Lexicographic.{slice_cmp, nat_list_cmp_total}
use Rattle.std.specs.FinMap.{slice_cmp-IsAntisymmetric, nat_cmp-IsAntisymmetric}
use Rattle.std.proofs.lemmas.Slice.Eq.{bytes_eq-Decides}
use Rattle.std.proofs.lemmas.Bool.Decides.{nat_tests}
use Rattle.expiry.specs.declared.index.Deadline.{Deadline}
use Rattle.expiry.specs.Index.{comes_before, is_same, with}
use Rattle.expiry.specs.Order.{IsBeforeAll, IsOrdered}

-- a deadline as one list of numbers, whose order is that of lists
abbrev text_of : Deadline → List ℕ
text_of d = d.at ∷ d.key

abbrev order : Deadline → Deadline → Ordering
order d e = slice_cmp nat_cmp (text_of d) (text_of e)

pub before_order : (d e : Deadline) → comes_before d e ≡ is_lt (order d e)
before_order d e = grind (arith, nat_tests)

is_less : (r : Ordering) → is_lt r ≡ true → r ≡ Less
is_less r e = grind (arith, nat_tests)

pub before_trans : (a b c : Deadline) → comes_before a b ≡ true → comes_before b c ≡ true
    → comes_before a c ≡ true
before_trans a b c e f =
    before_order a c
    ∙ ap is_lt (nat_list_cmp_total.trans (text_of a) (text_of b) (text_of c)
    (is_less _ (sym (before_order a b) ∙ e)) (is_less _ (sym (before_order b c) ∙ f)))

pub same_deadline : (d e : Deadline) → is_same d e ≡ true → d ≡ e
same_deadline d e is = grind (arith, bytes_eq-Decides, nat_tests)

pub is_itself : (d : Deadline) → is_same d d ≡ true
is_itself d = grind (arith, eq-eqb, bytes_eq-Decides, nat_tests)

of_same : (d e : Deadline) → d ≡ e → is_same d e ≡ true
of_same d e same = ap (is_same d) (sym same) ∙ is_itself d

pub same_turned : (d e : Deadline) → is_same d e ≡ is_same e d
same_turned d e = grind (arith, of_same, same_deadline)

is_equal : (d e : Deadline) → order e d ≡ Equal → d ≡ e
is_equal d e r =
    let texts : text_of e ≡ text_of d =
    slice_cmp-IsAntisymmetric nat_cmp-IsAntisymmetric (text_of e) (text_of d) r in
    grind arith

-- of two deadlines that differ one comes before the other
pub otherwise_before : (d e : Deadline) → comes_before e d ≡ false → is_same d e ≡ false
    → comes_before d e ≡ true
otherwise_before d e not_before other =
    before_order d e ∙ ap is_lt (nat_list_cmp_total.antisymm (text_of d) (text_of e))
    ∙ by (order e d) refl (sym (before_order e d) ∙ not_before)
  where
    by : (r : Ordering) → order e d ≡ r → is_lt r ≡ false → is_lt (ordering_reverse r) ≡ true
    by r is e' = grind (arith, of_same, is_equal, nat_tests)

-- none comes before itself
pub not_before_itself : (d : Deadline) → comes_before d d ≡ false
not_before_itself d = before_order d d ∙ by (order d d)
    (nat_list_cmp_total.antisymm (text_of d) (text_of d))
  where
    by : (r : Ordering) → r ≡ ordering_reverse r → is_lt r ≡ false
    by r e = grind (arith, nat_tests)

pub before_all_trans : (d e : Deadline) (ds : List Deadline) → comes_before d e ≡ true
    → IsBeforeAll e ds → IsBeforeAll d ds
before_all_trans d e [] before h = tt
before_all_trans d e (x ∷ xs) before h =
    (before_trans d e x before h.0, before_all_trans d e xs before h.1)

before_with : (x d : Deadline) (ds : List Deadline) → IsBeforeAll x ds → comes_before x d ≡ true
    → IsBeforeAll x (with d ds)
before_with e d [] h before = (before, tt)
before_with x d (e ∷ es) h before = grind (arith, before_with x d es h.1 before)

pub ordered_with : (d : Deadline) (ds : List Deadline) → IsOrdered ds → IsOrdered (with d ds)
ordered_with d [] h = (tt, tt)
ordered_with d (e ∷ es) h =
    grind (arith, before_with, otherwise_before, before_all_trans, ordered_with d es h.1)

module _ (p : Deadline → Bool) where
  before_filter : (d : Deadline) (ds : List Deadline) → IsBeforeAll d ds
      → IsBeforeAll d (filter p ds)
  before_filter d [] h = tt
  before_filter d (e ∷ es) h = grind (arith, before_filter d es h.1)

  pub ordered_filter : (ds : List Deadline) → IsOrdered ds → IsOrdered (filter p ds)
  ordered_filter [] h = tt
  ordered_filter (d ∷ ds) h = grind (arith, before_filter, ordered_filter ds h.1)
