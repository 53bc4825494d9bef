use Rattle.std.proofs.Common.{◌≡◌, ◌+◌, true, false, arith, ap, ◌∙◌, None}
use Rattle.command_words.specs.Queries.{key_of}
use Rattle.shared_cache.specs.Log.{is_ready, caching_on_for}
use Rattle.shared_cache.specs.Held.{held, held_for}
use Rattle.shared_cache.specs.ClientFields.{Client}
use Rattle.shared_cache.proofs.EndsLeft.{room_left}
use Rattle.shared_cache.proofs.Asks.{reflects_ask}
use Rattle.shared_cache.proofs.Led.{back_again}
use Rattle.shared_cache.proofs.client.ClientState.fetch.Goals as goal

pub invariant_of-self-2 : goal.invariant_of-self-2
invariant_of-self-2 c =
    let i = c.self.inside in
    let k = c.self.invariant.reflects in
    let miss : held_for c.args.query
    (held (record { mode = i.mode; capacity = i.capacity; log_max = i.log_max })
    (i.log)) ≡ None = grind arith in
    let ready : is_ready i.mode (i.log) ≡ true
    = ap (λ (st : Client). is_ready st.setup.mode st.past) c.self.view_is ∙ c.requires.ready in
    let open_ : i.ended ≡ false
    = grind arith in
    let on : c.is_caching_for-on.result ≡ caching_on_for i.mode (i.log)
    (key_of c.args.query) = grind arith in
    let number = c.handshake_length.result + c.len.result in
    record {
      reflects = rw c.record.ensures
          (reflects_ask _ _ _ k c.args.query
          number c.is_caching_for-on.result c.enqueue.new.queued c.enqueue.new.pending
          c.enqueue.new.named c.mark.new.marks c.words-words.ensures.query miss
          (omega (arith, c.len.ensures, c.handshake_length.ensures.length)) on ready open_
          (grind arith)
          (grind arith)
          (grind arith)
          (grind arith));
      room =
          room_left i.log _ _ i.owed (i.owed + 1) 4 i.ended i.side.ended c.record.ensures
          c.in_ok-reserve.ensures.ok (omega arith);
    }

pub invariant_of-self : goal.invariant_of-self
invariant_of-self c = record {
  reflects = rw (
    c.in_err-enqueue.ensures.err_queued,
    c.in_err-enqueue.ensures.err_pending,
    c.in_err-enqueue.ensures.err_named,
  ) c.self.invariant.reflects;
  room = c.self.invariant.room;
}

pub invariant_of-self-in-Err : goal.invariant_of-self-in-Err
invariant_of-self-in-Err c =
    let i = c.self.inside in
    record {
      reflects = rw (
        back_again _ i.queued _ _ _ c.len-before.ensures c.in_ok-enqueue.ensures.queued
            c.keep.ensures,
        back_again _ i.pending _ _ _ c.len-awaited.ensures.count
            c.in_ok-enqueue.ensures.pending c.keep-in-Err.ensures,
        back_again _ i.named _ _ _ c.len-named.ensures c.in_ok-enqueue.ensures.named
            c.shorten.ensures,
        c.in-Err.ensures.err,
      )
          c.self.invariant.reflects;
      room = c.self.invariant.room;
    }
