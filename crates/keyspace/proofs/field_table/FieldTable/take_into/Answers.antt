use Rattle.std.proofs.Common.{ap, ◌∙◌}
use Rattle.keyspace.specs.Places.{all_placed, placed_back}
use Rattle.keyspace.proofs.Placing.{placed_last}
use Rattle.keyspace.proofs.field_table.FieldTable.take_into.Goals as goal

pub returns-in-Some-clause-back : goal.returns-in-Some-clause-back
returns-in-Some-clause-back c =
    ap (λ all. placed_back (all_placed all) c.take.new.self) c.push_reserved.ensures.items
    ∙ (placed_last c.args.taken.now.items c.in-Some.placed c.take.new.self
    ∙ ap (placed_back (all_placed c.args.taken.now.items)) c.in-Some.ensures.back)
