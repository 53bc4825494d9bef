use Rattle.resp_value.proofs.TwoParts.{two_parts}
use Rattle.resp_value.proofs.short.Short.join.Goals as goal

pub returns : goal.returns
returns c =
    two_parts _ _ _ _ _ _ c.copy_from_slice.ensures.after c.copy_from_slice-2.ensures.after
