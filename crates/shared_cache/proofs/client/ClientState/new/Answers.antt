use Rattle.std.proofs.Common.{◌≡◌, arith, ap, length}
use Rattle.shared_cache.proofs.EndsLeft.{at_most_one}
use Rattle.shared_cache.proofs.OtherTurns.{reflects_none}
use Rattle.shared_cache.proofs.client.ClientState.new.Goals as goal

pub invariant_of-result : goal.invariant_of-result
invariant_of-result c = record {
  reflects = rw (
    c.new-3.ensures,
    c.new-4.ensures,
    c.new-5.ensures,
    c.new-6.ensures,
    c.in_ok-keys.ensures,
  )
      (reflects_none
      (record { mode = c.args.mode; capacity = c.args.capacity; log_max = c.args.log_max }) _ _
      c.requires.capacity.0 c.in_ok-queued.ensures c.in_ok-side.ensures);
  room =
      let none : length c.new-3.result ≡ 0 = ap length c.new-3.ensures in
      omega (arith, at_most_one c.in_ok-side.side.ended);
}
