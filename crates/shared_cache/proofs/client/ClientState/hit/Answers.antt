use Rattle.std.proofs.Common.{◌≡◌, true, arith}
use Rattle.std.specs.Prelude.{is_some}
use Rattle.shared_cache.specs.Held.{held, held_for}
use Rattle.shared_cache.proofs.EndsLeft.{room_left}
use Rattle.shared_cache.proofs.Asks.{reflects_hit}
use Rattle.shared_cache.proofs.client.ClientState.hit.Goals as goal

pub invariant_of-self : goal.invariant_of-self
invariant_of-self c =
    let i = c.self.inside in
    let k = c.self.invariant.reflects in
    let held_is : is_some
    (held_for c.args.query
    (held (record { mode = i.mode; capacity = i.capacity; log_max = i.log_max })
    (i.log))) ≡ true = grind arith in
    record {
      reflects = rw (
        c.record.ensures,
        c.promote.ensures,
        c.key.ensures,
      )
          (reflects_hit _ _ _ k c.args.query held_is);
      room =
          room_left i.log _ _ i.owed (i.owed) 3 i.ended i.side.ended c.record.ensures
          c.in_ok-reserve.ensures.ok (omega arith);
    }
