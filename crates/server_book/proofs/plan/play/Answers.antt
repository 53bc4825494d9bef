use Rattle.std.proofs.Common.{sym, ◌∙◌}
use Rattle.server_book.specs.Plans.{runner}
use Rattle.server_book.proofs.Plans.{row_plays}
use Rattle.server_book.proofs.plan.play.Goals as goal

pub returns-then-allows : goal.returns-then-allows
returns-then-allows c =
    row_plays c.play_data.result (runner c.args.by c.args.mode.now) c.args.words.now
    c.in-Ok.command c.args.moment c.args.space.now c.play_data.new.space
    (sym c.requires.reading ∙ c.in-Ok.is)
    (sym c.has_row.ensures ∙ c.if-has_row.true) (sym c.allows.ensures ∙ c.if-allows.true)
    c.play_data.ensures.played c.play_data.ensures.err
