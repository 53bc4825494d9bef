use Rattle.std.proofs.Common.{subst}
use Rattle.client_library.specs.Unknown.{AreGone}
use Rattle.client_library.proofs.GuardLaws.{none_left}
use Rattle.client_library.proofs.guarded.GuardedClient.send_unknown.Goals as goal

pub returns-in-Ok-clause-none : goal.returns-in-Ok-clause-none
returns-in-Ok-clause-none c =
    none_left c.args.words c.let_go.new.self c.pass_on.new.self c.pass_on.result
    (subst (λ keys. AreGone keys c.let_go.new.self.client) c.as_slice.ensures c.in-Ok.ensures.gone)
    c.pass_on.ensures
