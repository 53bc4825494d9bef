use Rattle.past_effects.proofs.Acting.{acted}
use Rattle.past_effects.proofs.scan.Scan.act.Goals as goal

pub returns : goal.returns
returns c l s f =
    let told = c.in_ok-sent.ensures in
    let done = c.in_ok-end_all.ensures in
    acted l c.args.self.now s f c.args.effect.now c.in_ok-own.own c.in_ok-own.ensures.own
    c.tell.new.self c.end_all.new.self c.causes.result c.in_ok-sent.sent c.end_all.new.sent
    (record {
      most = told.most;
      connections = told.connections;
      table = told.table;
      prefixes = told.prefixes;
      sends = told.sent;
    })
    c.causes.ensures
    (record {
      most = done.most;
      connections = done.connections;
      table = done.table;
      prefixes = done.prefixes;
      sends = done.sent;
    })
