use Rattle.std.proofs.Common.{arith, ◌≡◌, List, ℕ, set, ap, sym, subst, ◌∙◌}
use Rattle.std.proofs.lemmas.List.{get_or_read}
use Rattle.expiry.specs.declared.index.Deadline.{Deadline}
use Rattle.expiry.specs.Index.{has, without}
use Rattle.expiry.specs.Order.{IsOrdered}
use Rattle.expiry.specs.Blocks.{IsBlockFor, block_at, joined}
use Rattle.expiry.proofs.Joined.{has_block, held_without, ordered_without, without_block}
use Rattle.expiry.proofs.blocks.unset.Goals as goal
use Rattle.expiry.proofs.blocks.unset.Goals.{After-remove_empty}

module _ (c : After-remove_empty) where
  abbrev d : Deadline
  d = record { at = c.args.at; key = c.args.key.now }

  abbrev bs : List (List Deadline)
  bs = c.args.blocks.now.items

  abbrev n : ℕ
  n = c.block_for-place.result

  is_for : IsBlockFor d bs n
  is_for = subst (λ l. IsBlockFor d l n) c.deref.ensures.value c.block_for-place.ensures

  here : c.index_mut.result.now ≡ block_at bs n
  here = grind (arith, get_or_read, is_for.there)

  gone : joined c.remove_empty.new.blocks.items ≡ without d (joined bs)
  gone =
      c.remove_empty.ensures.same
      ∙ ap (λ b. joined (set bs n b)) (c.unset-was.ensures.gone ∙ ap (without d) here)
      ∙ without_block d bs n c.requires is_for

pub remove_empty-requires-clause-held : goal.remove_empty-requires-clause-held
remove_empty-requires-clause-held c =
    let there = c.block_for-place.ensures.there in
    held_without _ _ _ c.requires.held (grind arith)

pub returns-clause-gone : goal.returns-clause-gone
returns-clause-gone c = gone c

pub returns-clause-was : goal.returns-clause-was
returns-clause-was c =
    c.unset-was.ensures.was ∙ ap (has (d c)) (here c)
    ∙ has_block (d c) (bs c) (n c) c.requires (is_for c)

pub returns-clause-blocks : goal.returns-clause-blocks
returns-clause-blocks c = record {
  ordered = subst IsOrdered (sym (gone c))
      (ordered_without (d c) (bs c) (n c) c.requires (is_for c));
  held = c.remove_empty.ensures.held;
}
