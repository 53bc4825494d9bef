use Rattle.std.proofs.Common.{arith}
use Rattle.shared_cache.proofs.EndsLeft.{room_left}
use Rattle.shared_cache.proofs.OtherTurns.{reflects_take_main}
use Rattle.shared_cache.proofs.client.ClientState.give_main.Goals as goal

pub invariant_of-self : goal.invariant_of-self
invariant_of-self c =
    let i = c.self.inside in
    record {
      reflects = rw c.record.ensures
          (reflects_take_main _ _ _ c.self.invariant.reflects c.args.most _ c.advance.ensures);
      room =
          room_left i.log _ _ i.owed (i.owed) 3 i.ended i.side.ended c.record.ensures
          c.in_ok-reserve.ensures.ok (omega arith);
    }

pub returns-clause-bytes : goal.returns-clause-bytes
returns-clause-bytes c = grind arith
