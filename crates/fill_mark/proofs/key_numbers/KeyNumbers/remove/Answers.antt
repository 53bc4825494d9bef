use Rattle.std.proofs.Common.{ap, ◌∙◌}
use Rattle.std.specs.FinMap.{remove}
use Rattle.fill_mark.proofs.Keyed.{take_seen}
use Rattle.fill_mark.proofs.key_numbers.KeyNumbers.remove.Goals as goal

pub returns : goal.returns
returns c =
    let key = c.args.key.now in
    take_seen key c.self.inside.table c.swap_remove.new.self c.swap_remove.ensures.updates
    ∙ ap (λ m. remove m key) c.self.view_is
