use Rattle.std.proofs.Common.{◌≡◌, true, false, arith}
use Rattle.std.proofs.lemmas.Bool.Decides.{nat_tests}
use Rattle.expiry.specs.Index.{is_due}
use Rattle.expiry.proofs.Fronts.{first_is, first_is_not, none_first}
use Rattle.expiry.proofs.index.DeadlineIndex.first_due.Goals as goal

pub returns-in_err-first : goal.returns-in_err-first
returns-in_err-first c = grind (arith, none_first)

pub returns-then-first-moment : goal.returns-then-first-moment
returns-then-first-moment c =
    let past : is_due c.args.moment c.in_ok-first.first.now ≡ true =
    grind (arith, nat_tests, c.if-first-moment.true) in
    grind (arith, first_is)

pub returns-else-first-moment : goal.returns-else-first-moment
returns-else-first-moment c =
    let still : is_due c.args.moment c.in_ok-first.first.now ≡ false =
    grind (arith, nat_tests, c.if-first-moment.false) in
    grind (arith, first_is_not)
