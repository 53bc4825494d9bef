-- Blocks whose deadlines are due, and the first block where some are not.
use Rattle.std.proofs.Common.{◌≡◌, ◌<◌, ◌≤◌, ◌+◌, ℕ, List, [], ◌∷◌, ◌++◌, Bool, true, false, cond}
use Rattle.std.proofs.Common.{length, take, drop, set, refl, ap, sym, subst, ◌∙◌, inl, inr, arith}
use Rattle.std.proofs.Common.{append-nil, Some, None}
use Rattle.std.specs.Prelude.{slice_get, not}
use Rattle.std.proofs.lemmas.Bool.{cases_lt}
use Rattle.std.proofs.lemmas.List.{drop_more, drop_all, get_or-take, length-drop, length-take}
use Rattle.std.proofs.lemmas.List.Elements.{filter-append}
use Prim.Native.Nat.{zero, suc}
use Rattle.expiry.specs.declared.index.Deadline.{Deadline}
use Rattle.expiry.specs.Index.{comes_before, is_due, due, left}
use Rattle.expiry.specs.Order.{IsBeforeAll, IsOrdered}
use Rattle.expiry.specs.Blocks.{AreBlocks, AreHeld, IsBegun, IsPast, begins_due, block_at, is_past}
use Rattle.expiry.specs.Blocks.{is_nil, joined}
use Rattle.expiry.proofs.Orders.{ordered_filter}
use Rattle.expiry.proofs.Fronts.{later, none_due, all_left}
use Rattle.expiry.proofs.Parts.{before_right, ordered_right}
use Rattle.expiry.proofs.Joined.{Blocks, joined_parts, held_at, held_drop}

is_none : (ds : List Deadline) → is_nil ds ≡ true → ds ≡ []
is_none [] e = refl
is_none (d ∷ ds) e = absurd cc

is_some : (ds : List Deadline) → is_nil ds ≡ false → 0 < length ds
is_some [] e = absurd cc
is_some (d ∷ ds) e = omega arith

pub first_in : (bs : Blocks) (b : List Deadline) → AreHeld bs → slice_get bs 0 ≡ Some b
    → slice_get b 0 ≡ slice_get (joined bs) 0
first_in [] b h is = absurd cc
first_in ((e ∷ es) ∷ bs) b h is = grind arith
first_in ([] ∷ bs) b h is = absurd (omega (arith, h.0))

pub none_in : (bs : Blocks) → slice_get bs 0 ≡ None → None ≡ slice_get (joined bs) 0
none_in [] is = refl
none_in (b ∷ bs) is = absurd cc

module _ (moment : ℕ) where
  abbrev stays : Deadline → Bool
  stays d = not (is_due moment d)

  before_last : (d : Deadline) (ds : List Deadline) (n : ℕ) (e : Deadline) → IsBeforeAll d ds
      → slice_get ds n ≡ Some e → comes_before d e ≡ true
  before_last d [] n e h is = absurd cc
  before_last d (x ∷ xs) zero e h is = grind arith
  before_last d (x ∷ xs) (suc n) e h is = before_last d xs n e h.1 is

  -- all are due where the last one is
  pub last_past : (ds : List Deadline) (n : ℕ) (e : Deadline) → IsOrdered ds
      → suc n ≡ length ds → slice_get ds n ≡ Some e → is_past moment ds ≡ is_due moment e
  last_past [] n e h len is = absurd (omega arith)
  last_past (d ∷ []) zero e h len is = grind arith
  last_past (d ∷ x ∷ xs) zero e h len is = absurd (omega arith)
  last_past (d ∷ ds) (suc n) e h len is =
      elim (is_due moment d) as (λ b. is_due moment d ≡ b
      → is_nil (cond (not b) (d ∷ left moment ds) (left moment ds)) ≡ is_due moment e) [
        | true ↦ λ past. last_past ds n e h.1 (omega arith) is
        | false ↦ λ past. sym (later moment d e (before_last d ds n e h.0 is) past)
      ] refl

  -- what comes after a block where some are left is not due
  pub after_left : (b ys : List Deadline) → IsOrdered (b ++ ys) → is_past moment b ≡ false
      → left moment ys ≡ ys
  after_left [] ys h still = absurd cc
  after_left (d ∷ ds) ys h still =
      elim (is_due moment d) as (λ b. is_due moment d ≡ b
      → is_nil (cond (not b) (d ∷ left moment ds) (left moment ds)) ≡ false
      → left moment ys ≡ ys) [
        | true ↦ λ past e. after_left ds ys h.1 e
        | false ↦ λ past e. all_left moment d ys (before_right d ds ys h.0) past
      ] refl still

  pub all_gone : (bs : Blocks) (n : ℕ) → n ≤ length bs
      → ((i : ℕ) → i < n → is_past moment (block_at bs i) ≡ true)
      → left moment (joined (take n bs)) ≡ []
  all_gone bs zero le past = refl
  all_gone [] (suc n) le past = absurd (omega arith)
  all_gone (b ∷ bs) (suc n) le past =
      filter-append stays b (joined (take n bs))
      ∙ ap (λ l. l ++ left moment (joined (take n bs)))
      (is_none (left moment b) (past 0 (omega arith)))
      ∙ all_gone bs n (omega arith) (λ i lt. past (suc i) (omega arith))

  -- each block at the front begins with a deadline that is due
  pub front_begun : (bs : Blocks) (n : ℕ) → IsBegun moment bs n → (i : ℕ) → i < length (take n bs)
      → begins_due moment (block_at (take n bs) i) ≡ true
  front_begun bs n begun i lt =
      let low : i < n = omega (arith, lt, length-take n bs) in
      ap (begins_due moment) (get_or-take n bs i [] low) ∙ begun.before i low

  -- the deadlines that are due stand in the blocks that begin with one
  pub due_begun : (bs : Blocks) (n : ℕ) → AreBlocks bs → IsBegun moment bs n
      → due moment (joined (take n bs)) ≡ due moment (joined bs)
  due_begun bs n h begun =
      sym (ap (due moment) (joined_parts bs n)
      ∙ filter-append (is_due moment) (joined (take n bs)) (joined (drop n bs))
      ∙ ap (λ l. due moment (joined (take n bs)) ++ l) rest
      ∙ append-nil (due moment (joined (take n bs))))
    where
      order : IsOrdered (joined (drop n bs))
      order = ordered_right (joined (take n bs)) (joined (drop n bs))
          (subst IsOrdered (joined_parts bs n) h.ordered)

      by : (b : List Deadline) (cs : Blocks) → IsOrdered (b ++ joined cs) → 0 < length b
          → begins_due moment b ≡ false → due moment (b ++ joined cs) ≡ []
      by [] cs o some still = absurd (omega arith)
      by (d ∷ ds) cs o some still =
          ap (λ t. cond t (d ∷ due moment (ds ++ joined cs)) (due moment (ds ++ joined cs))) still
          ∙ none_due moment d (ds ++ joined cs) o.0 still

      rest : due moment (joined (drop n bs)) ≡ []
      rest = elim (cases_lt n (length bs)) [
        | inl more ↦
            let parts = drop_more bs n [] more in
            ap (λ l. due moment (joined l)) parts
            ∙ by (block_at bs n) (drop (n + 1) bs)
            (subst (λ l. IsOrdered (joined l)) parts order)
            (held_at bs n h.held more) (begun.next more)
        | inr none ↦ ap (λ l. due moment (joined l)) (drop_all n bs none)
      ]

  module _ (bs : Blocks) (n : ℕ) (h : AreBlocks bs) (past : IsPast moment bs n) where
    pub left_rest : left moment (joined bs) ≡ left moment (joined (drop n bs))
    left_rest =
        ap (left moment) (joined_parts bs n)
        ∙ filter-append stays (joined (take n bs)) (joined (drop n bs))
        ∙ ap (λ l. l ++ left moment (joined (drop n bs))) (all_gone bs n past.there past.before)

    pub rest_ordered : IsOrdered (joined (drop n bs))
    rest_ordered = ordered_right (joined (take n bs)) (joined (drop n bs))
        (subst IsOrdered (joined_parts bs n) h.ordered)

    pub none_left : length bs ≤ n → [] ≡ left moment (joined bs)
    none_left le = sym (left_rest ∙ ap (λ l. left moment (joined l)) (drop_all n bs le))

    -- where some are left, the first block of the rest changes alone
    module _ (more : n < length bs) where
      abbrev b : List Deadline
      b = block_at bs n

      abbrev cs : Blocks
      cs = drop (n + 1) bs

      parts : drop n bs ≡ b ∷ cs
      parts = drop_more bs n [] more

      pub left_changed : joined (left moment b ∷ cs) ≡ left moment (joined bs)
      left_changed =
          let order : IsOrdered (b ++ joined cs) =
          subst (λ l. IsOrdered (joined l)) parts rest_ordered in
          ap (λ l. left moment b ++ l)
          (sym (after_left b (joined cs) order (past.next more)))
          ∙ sym (filter-append stays b (joined cs))
          ∙ ap (λ l. left moment (joined l)) (sym parts)
          ∙ sym left_rest

      pub blocks_left : AreBlocks (left moment b ∷ cs)
      blocks_left = record {
        ordered = subst IsOrdered (sym left_changed) (ordered_filter stays (joined bs) h.ordered);
        held = (is_some (left moment b) (past.next more), held_drop bs (n + 1) h.held);
      }

    -- the same of what is left once the blocks before that one are gone
    module _ (rest : Blocks) (is : rest ≡ drop n bs) (some : 0 < length rest) where
      abbrev changed : Blocks → Blocks
      changed ds = set ds 0 (left moment (block_at ds 0))

      more : n < length bs
      more = omega (arith, ap length is, length-drop n bs)

      parts_changed : changed rest ≡ left moment (block_at bs n) ∷ drop (n + 1) bs
      parts_changed = ap changed (is ∙ drop_more bs n [] more)

      pub left_joined : joined (changed rest) ≡ left moment (joined bs)
      left_joined = ap joined parts_changed ∙ left_changed more

      pub left_blocks : AreBlocks (changed rest)
      left_blocks = subst AreBlocks (sym parts_changed) (blocks_left more)

    pub none_joined : (rest : Blocks) → rest ≡ drop n bs → length rest ≡ 0
        → (joined rest ≡ left moment (joined bs)) × AreBlocks rest
    none_joined [] is none = (
      none_left (omega (arith, ap length is, length-drop n bs)),
      record {
        ordered = tt;
        held = tt;
      },
    )
    none_joined (b ∷ cs) is none = absurd (omega arith)
