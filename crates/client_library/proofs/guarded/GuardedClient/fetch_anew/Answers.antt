use Rattle.std.proofs.Common.{subst, ◌∙◌}
use Rattle.client_library.specs.Unknown.{AreGone}
use Rattle.client_library.proofs.GuardLaws.{misses}
use Rattle.client_library.proofs.guarded.GuardedClient.fetch_anew.Goals as goal

pub returns-in-Ok-let_go-clause-missed : goal.returns-in-Ok-let_go-clause-missed
returns-in-Ok-let_go-clause-missed c =
    misses c.let_go.new.self.client c.args.query c.fetch.result
    (subst (λ keys. AreGone keys c.let_go.new.self.client) (c.as_slice.ensures ∙ c.in-Ok.ensures)
    c.in-Ok-let_go.ensures.gone) c.fetch.ensures.hit
