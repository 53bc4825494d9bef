-- The deadlines of blocks, one block behind the other, where one block changes.
use Rattle.std.proofs.Common.{◌≡◌, ◌<◌, ◌+◌, ℕ, List, [], ◌∷◌, ◌++◌, Bool, true, false}
use Rattle.std.proofs.Common.{length, take, drop, set, refl, ap, sym, subst, ◌∙◌, inl, inr, arith}
use Rattle.std.proofs.Common.{append_assoc, add-one}
use Rattle.std.specs.Prelude.{insert, not, ◌||◌}
use Rattle.std.specs.List.{remove}
use Rattle.std.proofs.lemmas.Bool.{cases_lt}
use Rattle.std.proofs.lemmas.List.{take-append-drop, drop_more, drop_all}
use Rattle.std.proofs.lemmas.List.Concat.{flat_map-append}
use Rattle.std.proofs.lemmas.List.Elements.{filter-append}
use Rattle.std.proofs.lemmas.List.Folds.{list_any-append}
use Prim.Native.Nat.{zero, suc}
use Rattle.expiry.specs.declared.index.Deadline.{Deadline}
use Rattle.expiry.specs.Index.{is_same, has, with, without}
use Rattle.expiry.specs.Order.{IsBeforeAll, IsOrdered}
use Rattle.expiry.specs.Blocks.{AreBlocks, AreHeld, IsBlockFor, begins_after, block_at, joined}
use Rattle.expiry.proofs.Orders.{ordered_with, ordered_filter, before_all_trans}
use Rattle.expiry.proofs.Members.{not_among}
use Rattle.expiry.proofs.Parts.{IsAfterAll, after_further, after_part, ordered_right}
use Rattle.expiry.proofs.Parts.{with_left, with_right, none_ahead, none_behind, not_behind}

abbrev pub Blocks : Type 0
Blocks = List (List Deadline)

module _ (bs : Blocks) (n : ℕ) where
  abbrev pub behind : List Deadline
  behind = joined (take n bs)

  abbrev pub ahead : List Deadline
  ahead = joined (drop (suc n) bs)

  abbrev pub around : List Deadline → List Deadline
  around b = behind ++ (b ++ ahead)

pub joined_parts : (bs : Blocks) (n : ℕ) → joined bs ≡ joined (take n bs) ++ joined (drop n bs)
joined_parts bs n =
    ap joined (sym (take-append-drop n bs)) ∙ flat_map-append (λ b. b) (take n bs) (drop n bs)

pub joined_at : (bs : Blocks) (n : ℕ) → n < length bs → joined bs ≡ around bs n (block_at bs n)
joined_at [] n lt = absurd (omega arith)
joined_at (b ∷ bs) zero lt = refl
joined_at (b ∷ bs) (suc n) lt =
    ap (λ l. b ++ l) (joined_at bs n (omega arith))
    ∙ sym (append_assoc b (behind bs n) (block_at bs n ++ ahead bs n))

pub joined_set : (bs : Blocks) (n : ℕ) (b : List Deadline) → n < length bs
    → joined (set bs n b) ≡ around bs n b
joined_set [] n b lt = absurd (omega arith)
joined_set (c ∷ bs) zero b lt = refl
joined_set (c ∷ bs) (suc n) b lt =
    ap (λ l. c ++ l) (joined_set bs n b (omega arith))
    ∙ sym (append_assoc c (behind bs n) (b ++ ahead bs n))

pub joined_remove : (bs : Blocks) (n : ℕ) → n < length bs → block_at bs n ≡ []
    → joined (remove bs n) ≡ joined bs
joined_remove bs n lt none =
    flat_map-append (λ b. b) (take n bs) (drop (suc n) bs)
    ∙ ap (around bs n) (sym none) ∙ sym (joined_at bs n lt)

pub joined_split : (bs : Blocks) (n : ℕ) (b c : List Deadline) → n < length bs
    → block_at bs n ≡ b ++ c → joined (insert (set bs n b) (suc n) c) ≡ joined bs
joined_split [] n b c lt is = absurd (omega arith)
joined_split (x ∷ bs) zero b c lt is =
    sym (append_assoc b c (joined bs)) ∙ ap (λ l. l ++ joined bs) (sym is)
joined_split (x ∷ bs) (suc n) b c lt is =
    ap (λ l. x ++ l) (joined_split bs n b c (omega arith) is)

-- ---- no block without a deadline

pub held_set : (bs : Blocks) (n : ℕ) (b : List Deadline) → AreHeld bs → 0 < length b
    → AreHeld (set bs n b)
held_set [] n b h some = tt
held_set (c ∷ bs) zero b h some = (some, h.1)
held_set (c ∷ bs) (suc n) b h some = (h.0, held_set bs n b h.1 some)

pub held_insert : (bs : Blocks) (n : ℕ) (b : List Deadline) → AreHeld bs → 0 < length b
    → AreHeld (insert bs n b)
held_insert [] zero b h some = (some, tt)
held_insert [] (suc n) b h some = (some, tt)
held_insert (c ∷ bs) zero b h some = (some, h)
held_insert (c ∷ bs) (suc n) b h some = (h.0, held_insert bs n b h.1 some)

pub held_without : (bs : Blocks) (n : ℕ) (b : List Deadline) → AreHeld bs → n < length bs
    → AreHeld (remove (set bs n b) n)
held_without [] n b h lt = absurd (omega arith)
held_without (c ∷ bs) zero b h lt = h.1
held_without (c ∷ bs) (suc n) b h lt = (h.0, held_without bs n b h.1 (omega arith))

pub held_back : (bs : Blocks) (n : ℕ) → AreHeld (remove bs n) → n < length bs
    → 0 < length (block_at bs n) → AreHeld bs
held_back [] n h lt some = tt
held_back (c ∷ bs) zero h lt some = (some, h)
held_back (c ∷ bs) (suc n) h lt some = (h.0, held_back bs n h.1 (omega arith) some)

pub held_at : (bs : Blocks) (n : ℕ) → AreHeld bs → n < length bs → 0 < length (block_at bs n)
held_at [] n h lt = absurd (omega arith)
held_at (b ∷ bs) zero h lt = h.0
held_at (b ∷ bs) (suc n) h lt = held_at bs n h.1 (omega arith)

pub held_drop : (bs : Blocks) (n : ℕ) → AreHeld bs → AreHeld (drop n bs)
held_drop bs zero h = h
held_drop [] (suc n) h = tt
held_drop (b ∷ bs) (suc n) h = held_drop bs n h.1

-- ---- the block of a deadline

module _ (d : Deadline) (bs : Blocks) (n : ℕ) (h : AreBlocks bs) (is_for : IsBlockFor d bs n) where
  cut : (b : List Deadline) → block_at bs n ≡ b → IsOrdered (around bs n b)
  cut b is = subst IsOrdered (joined_at bs n is_for.there ∙ ap (around bs n) is) h.ordered

  all_behind : IsAfterAll d (behind bs n)
  all_behind = elim (cases_lt 0 n) [
    | inl some ↦ by (block_at bs n) refl (held_at bs n h.held is_for.there) (is_for.begun some)
    | inr none ↦
        let first : 0 ≡ n = omega arith in
        subst (λ k. IsAfterAll d (joined (take k bs))) first tt
  ]
    where
      by : (b : List Deadline) → block_at bs n ≡ b → 0 < length b → begins_after d b ≡ false
          → IsAfterAll d (behind bs n)
      by [] is some still = absurd (omega arith)
      by (e ∷ es) is some still =
          after_further d e (behind bs n)
          (after_part (behind bs n) e (es ++ ahead bs n) (cut (e ∷ es) is)) still

  all_ahead : IsBeforeAll d (ahead bs n)
  all_ahead = elim (cases_lt (suc n) (length bs)) [
    | inl more ↦
        by (block_at bs (suc n)) refl (held_at bs (suc n) h.held more) (next more)
        (drop_more bs (suc n) [] more)
    | inr last ↦ subst (λ l. IsBeforeAll d (joined l)) (sym (drop_all (suc n) bs last)) tt
  ]
    where
      next : suc n < length bs → begins_after d (block_at bs (suc n)) ≡ true
      next more =
          subst (λ k. begins_after d (block_at bs k) ≡ true) (add-one n) (is_for.next (omega arith))

      by : (b : List Deadline) → block_at bs (suc n) ≡ b → 0 < length b
          → begins_after d b ≡ true
          → drop (suc n) bs ≡ block_at bs (suc n) ∷ drop (suc n + 1) bs
          → IsBeforeAll d (ahead bs n)
      by [] is some after parts = absurd (omega arith)
      by (e ∷ es) is some after parts =
          let rest = joined (drop (suc n + 1) bs) in
          let whole : ahead bs n ≡ e ∷ (es ++ rest) =
          ap joined parts ∙ ap (λ b. b ++ rest) is in
          let order : IsOrdered (e ∷ (es ++ rest)) =
          subst IsOrdered whole (ordered_right (joined (take (suc n) bs)) (ahead bs n)
          (subst IsOrdered (joined_parts bs (suc n)) h.ordered)) in
          subst (IsBeforeAll d) (sym whole)
          (after, before_all_trans d e (es ++ rest) after order.0)

  abbrev here : List Deadline
  here = block_at bs n

  pub with_block : joined (set bs n (with d here)) ≡ with d (joined bs)
  with_block =
      joined_set bs n (with d here) is_for.there
      ∙ ap (λ l. behind bs n ++ l) (sym (with_left d here (ahead bs n) all_ahead))
      ∙ sym (with_right d (behind bs n) (here ++ ahead bs n) all_behind)
      ∙ ap (with d) (sym (joined_at bs n is_for.there))

  pub blocks_with : (0 < length (with d here)) → AreBlocks (set bs n (with d here))
  blocks_with some = record {
    ordered = subst IsOrdered (sym with_block) (ordered_with d (joined bs) h.ordered);
    held = held_set bs n (with d here) h.held some;
  }

  abbrev p : Deadline → Bool
  p e = not (is_same d e)

  pub without_block : joined (set bs n (without d here)) ≡ without d (joined bs)
  without_block =
      joined_set bs n (without d here) is_for.there
      ∙ ap (λ l. l ++ (without d here ++ ahead bs n)) (sym (none_behind d (behind bs n) all_behind))
      ∙ ap (λ l. without d (behind bs n) ++ (without d here ++ l))
      (sym (none_ahead d (ahead bs n) all_ahead))
      ∙ ap (λ l. without d (behind bs n) ++ l) (sym (filter-append p here (ahead bs n)))
      ∙ sym (filter-append p (behind bs n) (here ++ ahead bs n))
      ∙ ap (without d) (sym (joined_at bs n is_for.there))

  pub ordered_without : IsOrdered (without d (joined bs))
  ordered_without = ordered_filter p (joined bs) h.ordered

  pub has_block : has d here ≡ has d (joined bs)
  has_block =
      by (has d here)
      ∙ ap (λ b. b || (has d here || has d (ahead bs n)))
      (sym (not_behind d (behind bs n) all_behind))
      ∙ ap (λ b. has d (behind bs n) || b) (sym (list_any-append (is_same d) here (ahead bs n)))
      ∙ sym (list_any-append (is_same d) (behind bs n) (here ++ ahead bs n))
      ∙ ap (has d) (sym (joined_at bs n is_for.there))
    where
      by : (b : Bool) → b ≡ (false || (b || has d (ahead bs n)))
      by true = refl
      by false = sym (not_among d (ahead bs n) all_ahead)
