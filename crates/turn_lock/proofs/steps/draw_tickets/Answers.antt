use Rattle.std.proofs.Common.{rules, ◌≡◌, ap, ◌∙◌, arith}
use Rattle.turn_lock.specs.Rule.{waiting_view}
use Rattle.turn_lock.proofs.Keeps.{draws}
use Rattle.turn_lock.proofs.steps.draw_tickets.Goals as goal

pub compare_exchange-requires : goal.compare_exchange-requires
compare_exchange-requires g c = (
  search rules,
  search rules,
  draws g.S.Logged.setup g.S.Logged.stands g.S.Logged.step _ _ _ _ _ c.args.more _
      (omega arith) c.requires.idle,
)

pub returns-clause-drawn : goal.returns-clause-drawn
returns-clause-drawn g c is =
    let hit : c.compare_exchange.result ≡ c.args.at = search rules in
    c.compare_exchange.ensures.2.1 hit c.args.more (omega arith)
    ∙ ap (λ z. (waiting_view c.args.place.now.me.0 z c.args.more, c.args.place.now.me.1)) hit
