use Rattle.std.proofs.Common.{ap, ◌∙◌}
use Rattle.keyspace.specs.Places.{all_placed, with_placed_of}
use Rattle.hash_cmds.proofs.TakenFields.{nothing_back}
use Rattle.hash_cmds.proofs.writes.take_fields.Goals as goal

pub returns-then-holds_text-clause-back : goal.returns-then-holds_text-clause-back
returns-then-holds_text-clause-back c =
    ap (λ l. with_placed_of c.args.key.now (all_placed l) c.args.space.now) c.new.ensures.items
    ∙ nothing_back c.args.key.now c.args.space.now
