use Rattle.std.proofs.Common.{arith, ◌≡◌, ◌<◌, length, set, subst, sym}
use Rattle.std.proofs.lemmas.List.{get_or_read}
use Rattle.expiry.specs.Index.{left}
use Rattle.expiry.specs.Blocks.{AreBlocks, IsPast, block_at}
use Rattle.expiry.proofs.Past.{left_blocks, left_joined, none_joined}
use Rattle.expiry.proofs.blocks.drop_due.Goals as goal

pub returns-in-Some-clause-left : goal.returns-in-Some-clause-left
returns-in-Some-clause-left c =
    let some : 0 < length c.drop_front.new.blocks.items = grind arith in
    grind (arith, get_or_read, left_joined)

pub returns-in-Some-clause-blocks : goal.returns-in-Some-clause-blocks
returns-in-Some-clause-blocks c =
    let m = c.args.moment in
    let bs = c.args.blocks.now.items in
    let n = c.past-gone.result in
    let rest = c.drop_front.new.blocks.items in
    let some : 0 < length rest = grind arith in
    let here : c.drop_due.new.self ≡ left m (block_at rest 0) = grind (arith, get_or_read) in
    let is_past = subst (λ l. IsPast m l n) c.deref.ensures.value c.past-gone.ensures in
    subst (λ b. AreBlocks (set rest 0 b)) (sym here)
    (left_blocks m bs n c.requires is_past rest c.drop_front.ensures some)

pub returns-in_default-clause-left : goal.returns-in_default-clause-left
returns-in_default-clause-left c =
    let m = c.args.moment in
    let bs = c.args.blocks.now.items in
    let n = c.past-gone.result in
    let rest = c.drop_front.new.blocks.items in
    let none : length rest ≡ 0 = grind arith in
    let is_past = subst (λ l. IsPast m l n) c.deref.ensures.value c.past-gone.ensures in
    (none_joined m bs n c.requires is_past rest c.drop_front.ensures none).0
