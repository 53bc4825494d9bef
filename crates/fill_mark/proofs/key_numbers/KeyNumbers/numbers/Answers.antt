use Rattle.std.proofs.Common.{◌∙◌, Some, None}
use Rattle.fill_mark.proofs.Keyed.{numbers_seen}
use Rattle.fill_mark.proofs.key_numbers.KeyNumbers.numbers.Goals as goal

pub returns-in-Some : goal.returns-in-Some
returns-in-Some c =
    c.as_slice.ensures.value
    ∙ numbers_seen c.self.inside.table.entries c.args.self.now c.self.view_is c.args.key.now
    (Some c.in-Some.numbers.now) c.in-Some.ensures.value

pub returns-in-None : goal.returns-in-None
returns-in-None c =
    numbers_seen c.self.inside.table.entries c.args.self.now c.self.view_is c.args.key.now None
    c.in-None.ensures.value
