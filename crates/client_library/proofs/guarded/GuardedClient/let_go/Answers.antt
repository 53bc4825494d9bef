use Rattle.client_library.proofs.GuardLaws.{gone_after, is_noted_or_refused}
use Rattle.client_library.proofs.guarded.GuardedClient.let_go.Goals as goal

pub as_noted-requires : goal.as_noted-requires
as_noted-requires c =
    let old = c.self.inside.client in
    is_noted_or_refused old.setup old.past c.get-told.new.self.past c.in-Ok.value c.get-told.result
    c.get-told.ensures.step

pub returns-clause-gone : goal.returns-clause-gone
returns-clause-gone c =
    gone_after c.args.keys.now c.in-Ok.value c.get-told.result c.self.inside.client
    c.get-told.new.self c.in-Ok.ensures c.in-Ok-as_noted.ensures.ok c.get-told.ensures
