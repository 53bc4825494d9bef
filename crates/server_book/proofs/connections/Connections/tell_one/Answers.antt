use Rattle.std.proofs.Common.{sym, ◌∙◌}
use Rattle.server_book.proofs.Routing.{told_passed, told_unpassed}
use Rattle.server_book.proofs.Sendings.{on_ok_then}
use Rattle.server_book.proofs.connections.Connections.tell_one.Goals as goal

pub returns-then-passes-clause-ok : goal.returns-then-passes-clause-ok
returns-then-passes-clause-ok c =
    λ keys is message. (
      told_passed c.args.entry c.args.but keys c.args.id c.args.self.now
          (sym c.passes.ensures ∙ c.if-passes.true),
      message,
    )

pub returns-clause-ok : goal.returns-clause-ok
returns-clause-ok c =
    on_ok_then c.tell_to.result _ _
    (λ sent keys is message. let told = sent keys is message in (
      told_unpassed c.args.entry c.args.but keys c.args.id c.args.self.now c.tell_to.new.self
          (sym c.passes.ensures ∙ c.if-passes.false) told.0,
      told.1,
    )) c.tell_to.ensures.ok
