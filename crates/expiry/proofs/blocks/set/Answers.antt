use Rattle.std.proofs.Common.{arith, ◌≡◌, List, [], ℕ, set, ap, sym, subst, ◌∙◌}
use Rattle.std.proofs.lemmas.List.{get_or_read, set-get_or}
use Rattle.expiry.specs.declared.index.Deadline.{Deadline}
use Rattle.expiry.specs.Index.{with}
use Rattle.expiry.specs.Blocks.{AreBlocks, IsBlockFor, block_at, joined}
use Rattle.expiry.proofs.Joined.{blocks_with, with_block}
use Rattle.expiry.proofs.Parts.{some_with}
use Rattle.expiry.proofs.blocks.set.Goals as goal
use Rattle.expiry.proofs.blocks.set.Goals.{After-blocks-1}

module _ (c : After-blocks-1) where
  abbrev d : Deadline
  d = record { at = c.args.at; key = c.args.key.now }

  abbrev bs : List (List Deadline)
  bs = c.make_room.new.blocks.items

  abbrev n : ℕ
  n = c.block_for-place.result

  is_for : IsBlockFor d bs n
  is_for = subst (λ l. IsBlockFor d l n) c.deref-2.ensures.value c.block_for-place.ensures

  here : c.index_mut.result.now ≡ block_at bs n
  here = grind (arith, get_or_read, is_for.there)

  is_with : c.set.new.self ≡ with d c.index_mut.result.now
      → joined (set bs n c.set.new.self) ≡ with d (joined c.args.blocks.now.items)
  is_with e =
      ap (λ b. joined (set bs n b)) (e ∙ ap (with d) here)
      ∙ with_block d bs n c.make_room.ensures.blocks is_for
      ∙ ap (with d) c.make_room.ensures.same

  are_with : c.set.new.self ≡ with d c.index_mut.result.now
      → AreBlocks (set bs n c.set.new.self)
  are_with e =
      subst (λ b. AreBlocks (set bs n b)) (sym (e ∙ ap (with d) here))
      (blocks_with d bs n c.make_room.ensures.blocks is_for (some_with d (block_at bs n)))

  are_same : c.set.new.self ≡ c.index_mut.result.now → AreBlocks (set bs n c.set.new.self)
  are_same e =
      subst AreBlocks (sym (ap (set bs n) (e ∙ here) ∙ set-get_or bs n []))
      c.make_room.ensures.blocks

pub returns-clause-ok : goal.returns-clause-ok
returns-clause-ok c = grind (arith, is_with c)

pub returns-clause-blocks : goal.returns-clause-blocks
returns-clause-blocks c = grind (arith, are_with c, are_same c)
