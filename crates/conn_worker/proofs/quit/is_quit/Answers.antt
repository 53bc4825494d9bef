use Rattle.std.proofs.Common.{ap, arith, length, sym}
use Rattle.conn_worker.proofs.Quitting.{not_alone}
use Rattle.conn_worker.proofs.quit.is_quit.Goals as goal

pub returns-in_default : goal.returns-in_default
returns-in_default c =
    let long = ap length c.as_slice.ensures in
    let few = c.in_default.len_below in
    sym (not_alone c.args.words.now (λ one. omega (arith, long, few, one)))

pub returns-in_default-2 : goal.returns-in_default-2
returns-in_default-2 c =
    let long = ap length c.as_slice.ensures in
    let many = c.in_default.len_at_least in
    sym (not_alone c.args.words.now (λ one. omega (arith, long, many, one)))
