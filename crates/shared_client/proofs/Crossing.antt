-- A client may cross threads.
use denote.Param.Send.{IsSend, sendable, view_send}
use denote.Param.SendFields.{declared_send, as_row_send}
use Rattle.std.proofs.vec.Vec.TheSendSync as vec
use Rattle.std.proofs.collections.VecDeque.TheSendSync as deque
use Rattle.std.proofs.alloc.Global.TheSendSync as heap
use Rattle.std.proofs.hash.BuildHasherDefault.TheSendSync as builder
use Rattle.std.proofs.hash.FoldHasher.TheSendSync as hasher
use Rattle.std.proofs.Crossing.{frees}
use Rattle.resp_value.proofs.value.Pairs.TheLaws.TheKnot.{crosses}
use Rattle.resp_value.proofs.octets.Octets.TheSendSync as octets
use Rattle.resp_value.proofs.octets.Words.TheSendSync as words
use Rattle.command_words.proofs.query.Query.TheSendSync as query
use Rattle.lru.proofs.cache.LruCache.TheSendSync as lru
use Rattle.byte_queue.proofs.ByteQueue.TheSendSync as queue
use Rattle.fill_mark.proofs.marks.Marks.TheSendSync as marks
use Rattle.shared_cache.proofs.log.Wire.TheSendSync as wire
use Rattle.shared_cache.proofs.log.ClientMode.TheSendSync as mode
use Rattle.shared_cache.proofs.counted_log.CountedLog.TheSendSync as log
use Rattle.shared_cache.specs.contracts.entry.CacheEntry as entry
use Rattle.shared_cache.specs.contracts.entry.PendingReply as pending
use Rattle.shared_cache.specs.contracts.slot.Slot as slot
use Rattle.shared_cache.specs.contracts.slot.Slot.TheInside as slot_parts
use Rattle.shared_cache.specs.contracts.slots.SlotList as list
use Rattle.shared_cache.specs.contracts.slots.Slots as slots
use Rattle.shared_cache.specs.contracts.slots.Slots.TheInside as slots_parts
use Rattle.shared_cache.specs.contracts.held_keys.HeldKeys as keys
use Rattle.shared_cache.specs.contracts.pending.PendingReplies as replies
use Rattle.shared_cache.specs.contracts.pending.PendingReplies.TheInside as replies_parts
use Rattle.command_words.specs.contracts.written.Written as written
use Rattle.shared_cache.specs.contracts.outgoing.NamedKeys as named
use Rattle.shared_cache.specs.contracts.outgoing.NamedKeys.TheInside as named_parts
use Rattle.shared_cache.specs.contracts.side.SideLink as side
use Rattle.shared_cache.specs.contracts.client.ClientState as client
use Rattle.shared_cache.specs.contracts.client.ClientState.TheInside as client_parts
use Rattle.shared_client.specs.contracts.logged.SharedClient as shared
use Rattle.shared_client.specs.contracts.logged.SharedClient.TheInside as shared_parts
use Rattle.std.proofs.Common.{arith}

ruleset vectors = (vec.the_send, vec.the_sync, heap.the_send, heap.the_sync, frees)

ruleset parts = (
  sendable,
  crosses,
  vectors,
  octets.the_send,
  words.the_send,
  query.the_send,
  wire.the_send,
)

pub entry_send : IsSend entry.the_row
entry_send = search parts depth 20

pending_send : IsSend pending.the_row
pending_send = search parts depth 20

ruleset of_slot = (sendable, entry_send, octets.the_send, as_row_send)

slot_inside : IsSend slot_parts.the_row
slot_inside = declared_send slot_parts.the_type (
  search of_slot depth 10,
  (search of_slot depth 10, (search of_slot depth 10, tt)),
)

slot_send : IsSend slot.the_row
slot_send = view_send _ _ _ _ _ slot_inside

list_send : IsSend list.the_row
list_send = search (sendable, vectors, slot_send) depth 20

slots_inside : IsSend slots_parts.the_row
slots_inside = grind (arith, list_send)

slots_send : IsSend slots.the_row
slots_send = view_send _ _ _ _ _ slots_inside

keys_send : IsSend keys.the_row
keys_send =
    search (sendable, vectors, slots_send, builder.the_send, hasher.the_send, lru.the_send) depth 20

ruleset of_replies = (sendable, deque.the_send, heap.the_send, frees, pending_send, as_row_send)

replies_inside : IsSend replies_parts.the_row
replies_inside = declared_send replies_parts.the_type (
  search of_replies depth 10,
  (search of_replies depth 10, tt),
)

replies_send : IsSend replies.the_row
replies_send = view_send _ _ _ _ _ replies_inside

written_send : IsSend written.the_row
written_send = search parts depth 20

ruleset of_named = (sendable, deque.the_send, heap.the_send, frees, written_send, as_row_send)

named_inside : IsSend named_parts.the_row
named_inside = declared_send named_parts.the_type (search of_named depth 10, tt)

named_send : IsSend named.the_row
named_send = view_send _ _ _ _ _ named_inside

side_send : IsSend side.the_row
side_send = search (sendable, vectors, octets.the_send, queue.the_send) depth 20

ruleset fields = (
  sendable,
  vectors,
  keys_send,
  replies_send,
  named_send,
  side_send,
  log.the_send,
  queue.the_send,
  marks.the_send,
  mode.the_send,
  as_row_send,
)

client_inside : IsSend client_parts.the_row
client_inside =
    declared_send client_parts.the_type (
      search fields depth 10,
      (
        search fields depth 10,
        (
          search fields depth 10,
          (
            search fields depth 10,
            (
              search fields depth 10,
              (
                search fields depth 10,
                (
                  search fields depth 10,
                  (
                    search fields depth 10,
                    (
                      search fields depth 10,
                      (
                        search fields depth 10,
                        (
                          search fields depth 10,
                          (
                            search fields depth 10,
                            (
                              search fields depth 10,
                              (
                                search fields depth 10,
                                (
                                  search fields depth 10,
                                  tt,
                                ),
                              ),
                            ),
                          ),
                        ),
                      ),
                    ),
                  ),
                ),
              ),
            ),
          ),
        ),
      ),
    )

pub client_send : IsSend client.the_row
client_send = view_send _ _ _ _ _ client_inside

shared_inside : IsSend shared_parts.the_row
shared_inside =
    declared_send shared_parts.the_type (search (sendable, client_send) depth 10, tt)

pub shared_send : IsSend shared.the_row
shared_send = view_send _ _ _ _ _ shared_inside
