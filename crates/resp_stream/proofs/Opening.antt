-- An aggregate by its head.
use Rattle.std.proofs.Common.{lit<, lit≤, ◌≡◌, ◌≢◌, ℕ, suc, ◌-◌, ◌<◌, List, [], ◌∷◌, ◌++◌, sym, ap}
use Rattle.std.proofs.Common.{subst, ◌∙◌, Bool, true, false, cond, arith, Some, None}
use Rattle.std.specs.Prelude.{nat_eq}
use Rattle.resp_stream.specs.declared.fault.Fault.{Fault}
use Rattle.resp_stream.specs.declared.fault.Fault.TheVariants.{BadByte}
use Rattle.resp_stream.specs.declared.value.Kind.{Kind}
use Rattle.resp_stream.specs.declared.value.TypeByte.{TypeByte}
use Rattle.resp_stream.specs.declared.value.TypeByte.TheVariants as mark
use Rattle.resp_value.specs.Tree.{Tree, null_array}
use Rattle.resp_stream.specs.Parsed.{Whole, More, Bad, Go, Stop, taken, ◌>>=◌}
use Rattle.resp_stream.specs.Tokens.{length_at, many}
use Rattle.resp_stream.specs.Value.{rule_of, elements, build, elements_at, aggregate_at, may_stand}
use Rattle.resp_stream.specs.Value.{type_byte_of, choice_of, too_deep, deeper, opening, value_in}
use Rattle.resp_stream.specs.ValueSteps.{Opened}
use Rattle.resp_stream.proofs.Readers.{reader_length}
use Rattle.resp_stream.proofs.Places.{steady}

-- ---- where nothing opens

none_by : (d c : ℕ) (b : List ℕ) (m : TypeByte) → opening (suc d) m ≡ None
    → taken (choice_of (deeper (nat_eq (suc d) 8) (value_in d)) m c) c b
    ≡ taken (choice_of too_deep m c) c b
none_by d c b m e = grind arith

pub leaf_here : (room c : ℕ) (text b : List ℕ) → text ≡ c ∷ b → opening room (type_byte_of c) ≡ None
    → value_in room text ≡ taken (choice_of too_deep (type_byte_of c) c) c b
unfolding value_in
leaf_here room c text b h e = grind (arith, none_by)

pub opens_here : (room : ℕ) (kind : Kind) (m : TypeByte) → opening room m ≡ Some kind
    → (m ≡ mark.Aggregate kind) × (0 < room)
opens_here room kind m e = grind arith

-- ---- where an aggregate opens

none_of : (kind : Kind) → elements kind 0 ≡ 0
none_of kind = grind arith

some_of : (kind : Kind) (n : ℕ) → 0 < n → 0 < elements kind n
some_of kind n h = grind arith

module _ (room c : ℕ) (text b : List ℕ) (kind : Kind) (head : text ≡ c ∷ b)
    (is : type_byte_of c ≡ mark.Aggregate kind) (some : 0 < room) where
  one : room ≡ suc (room - 1)
  one = omega arith

  -- what the head leads to, with any bytes behind it
  leads : (d : ℕ) (t : Bool) (m : List ℕ) → may_stand (nat_eq (suc d) 8) kind ≡ t
      → value_in (suc d) (c ∷ m)
      ≡ taken (cond t (Go (aggregate_at kind (value_in d))) (Stop BadByte)) c m
  unfolding value_in
  leads d t m e = grind arith

  allowed : (t : Bool) → may_stand (nat_eq room 8) kind ≡ t
      → may_stand (nat_eq (suc (room - 1)) 8) kind ≡ t
  allowed t e = ap (λ n. may_stand (nat_eq n 8) kind) (sym one) ∙ e

  at_text : (t : Bool) → may_stand (nat_eq room 8) kind ≡ t
      → value_in room text
      ≡ taken (cond t (Go (aggregate_at kind (value_in (room - 1)))) (Stop BadByte)) c b
  at_text t e = grind (arith, one, leads, allowed)

  pub may_not : may_stand (nat_eq room 8) kind ≡ false → value_in room text ≡ Bad BadByte text
  may_not e = at_text false e ∙ ap (λ q. Bad BadByte q) (sym head)

  module _ (may : may_stand (nat_eq room 8) kind ≡ true) where
    here : value_in room text ≡ aggregate_at kind (value_in (room - 1)) b
    here = at_text true may

    pub head_more : length_at (rule_of kind) b ≡ More → value_in room text ≡ More
    unfolding aggregate_at
    head_more e = here ∙ ap (λ q. q >>= elements_at kind (value_in (room - 1))) e

    pub head_bad : (r : List ℕ) (g : Fault) → length_at (rule_of kind) b ≡ Bad g r
        → value_in room text ≡ Bad g r
    unfolding aggregate_at
    head_bad r g e = here ∙ ap (λ q. q >>= elements_at kind (value_in (room - 1))) e

    pub head_null : (r : List ℕ) → length_at (rule_of kind) b ≡ Whole None r
        → value_in room text ≡ Whole null_array r
    unfolding aggregate_at
    head_null r e = here ∙ ap (λ q. q >>= elements_at kind (value_in (room - 1))) e

    no_elements : (d : ℕ) (n : ℕ) (r : List ℕ) → n ≡ 0
        → (many (value_in d) n r >>= λ ts s. Whole (build kind ts) s) ≡ Whole (build kind []) r
    unfolding many
    no_elements d n r z = ap (λ k. many (value_in d) k r >>= λ ts s. Whole (build kind ts) s) z

    pub head_empty : (n : ℕ) (r : List ℕ) (t : Tree) → length_at (rule_of kind) b ≡ Whole (Some n) r
        → n ≡ 0 → t ≡ build kind [] → value_in room text ≡ Whole t r
    unfolding aggregate_at
    head_empty n r t e z w = grind (arith, here, no_elements, none_of)

    counted : (d n : ℕ) (x s : List ℕ) → length_at (rule_of kind) x ≡ Whole (Some n) s
        → aggregate_at kind (value_in d) x
        ≡ (many (value_in d) (elements kind n) s >>= λ ts z. Whole (build kind ts) z)
    unfolding aggregate_at
    counted d n h s e = ap (λ q. q >>= elements_at kind (value_in d)) e

    pub head_some : (n k : ℕ) (r : List ℕ) → length_at (rule_of kind) b ≡ Whole (Some n) r → n ≢ 0
        → k ≡ elements kind n → Opened room text kind k r
    head_some n k r e z w =
        let l = (reader_length (rule_of kind) (grind (arith, lit<, lit≤))).whole b r (Some n) e in
        subst (λ (j : ℕ). Opened room text kind j r) (sym w) (record {
          some = some_of kind n (omega arith);
          inner = room - 1;
          room_is = one;
          front = c ∷ l.front;
          parts = head ∙ ap (λ (q : List ℕ). c ∷ q) l.parts;
          long = omega arith;
          same = λ m. ap (λ (q : List ℕ). value_in room (q ++ m)) head
              ∙ ap (λ j. value_in j (c ∷ (b ++ m))) one
              ∙ leads (room - 1) true (b ++ m) (allowed true may)
              ∙ counted (room - 1) n (b ++ m) (r ++ m)
              (grind (arith, steady, reader_length, lit<, lit≤));
        })
