use Rattle.std.proofs.Common.{sym, ◌∙◌}
use Rattle.client_library.proofs.TurnLaws.{got_full, got_kept}
use Rattle.client_library.proofs.turns.get.Goals as goal

pub returns-then-is_full-clause-ok : goal.returns-then-is_full-clause-ok
returns-then-is_full-clause-ok c =
    c.close.ensures.closed
    ∙ got_full c.args.state.now c.turn.new.state c.args.value c.in-Ok.reply c.turn.ensures.setup
    c.in-Ok.ensures.step (sym c.is_full.ensures ∙ c.if-is_full.true)

pub returns-else-is_full-clause-ok : goal.returns-else-is_full-clause-ok
returns-else-is_full-clause-ok c =
    got_kept c.args.state.now c.turn.new.state c.args.value c.in-Ok.reply c.turn.ensures.setup
    c.in-Ok.ensures.step (sym c.is_full.ensures ∙ c.if-is_full.false)
