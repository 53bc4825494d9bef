use Rattle.std.proofs.Common.{sym, ◌∙◌}
use Rattle.client_library.proofs.GuardLaws.{settles_anew, settles_so}
use Rattle.client_library.proofs.guarded.GuardedClient.ask_within.Goals as goal

pub returns-then-is_stale-clause-asks : goal.returns-then-is_stale-clause-asks
returns-then-is_stale-clause-asks c =
    settles_anew c.args.age c.args.query c.args.self.now c.look_up-told.new.self
    c.look_up-told.result c.look_up-told.ensures.turn c.in-Ok.again c.fetch_anew.result
    c.fetch_anew.new.self (sym c.is_stale.ensures ∙ c.if-is_stale.true) c.in-Ok.ensures
    c.fetch_anew.ensures.fetches

pub returns-clause-asks : goal.returns-clause-asks
returns-clause-asks c =
    settles_so c.args.age c.args.query c.args.self.now c.look_up-told.new.self
    c.look_up-told.result c.look_up-told.ensures.turn c.keep_time.new.self
    (sym c.is_stale.ensures ∙ c.if-is_stale.false) c.keep_time.ensures
