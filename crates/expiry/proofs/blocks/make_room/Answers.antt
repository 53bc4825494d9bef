use Rattle.std.proofs.Common.{arith, ◌≡◌, ◌++◌, set, suc, add-one, ap, sym, subst, ◌∙◌}
use Rattle.std.specs.Prelude.{insert}
use Rattle.std.proofs.lemmas.List.{get_or_read}
use Rattle.expiry.specs.Order.{IsOrdered}
use Rattle.expiry.specs.Blocks.{AreHeld, block_at, joined}
use Rattle.expiry.proofs.Joined.{joined_split, held_insert, held_set}
use Rattle.expiry.proofs.blocks.make_room.Goals as goal
use Rattle.expiry.proofs.blocks.make_room.Goals.{In-Ok}

now : (c : In-Ok) → c.insert.new.self.items
    ≡ insert (set c.args.blocks.now.items c.args.place c.split.new.self) (suc c.args.place)
    c.in_ok-after.after
now c = grind (arith, add-one)

here : (c : In-Ok) → block_at c.args.blocks.now.items c.args.place
    ≡ c.split.new.self ++ c.in_ok-after.after
here c = grind (arith, get_or_read)

same : (c : In-Ok) → joined c.insert.new.self.items ≡ joined c.args.blocks.now.items
same c = ap joined (now c) ∙ joined_split _ _ _ _ c.requires.there (here c)

pub returns-clause-same : goal.returns-clause-same
returns-clause-same c = same c

pub returns-clause-blocks : goal.returns-clause-blocks
returns-clause-blocks c =
    let bs = c.args.blocks.now.items in
    let n = c.args.place in
    record {
      ordered = subst IsOrdered (sym (same c)) c.requires.blocks.ordered;
      held = subst AreHeld (sym (now c))
          (held_insert (set bs n c.split.new.self) (suc n) c.in_ok-after.after
          (held_set bs n c.split.new.self c.requires.blocks.held c.in_ok-after.ensures.held.0)
          c.in_ok-after.ensures.held.1);
    }
