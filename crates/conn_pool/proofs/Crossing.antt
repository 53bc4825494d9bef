-- What the workers share, and what each has, may cross threads. The prover has no such fact of a
-- type that reaches itself, as the runs of a database that wait, nor of one that holds it.
use denote.Param.Send.{IsSend, IsSync, sendable, view_send}
use denote.RattleType.{RattleType}
use Rattle.std.specs.declared.sync.ledger.Ledger.{Ghosts}
use denote.Param.SendFields.{declared_send, as_row_send}
use Rattle.std.proofs.Crossing as std
use Rattle.std.proofs.vec.Vec.TheSendSync as vec
use Rattle.std.proofs.sync.Mutex.TheSendSync as mutex
use Rattle.std.proofs.sync.ledger.Share.TheSendSync as share
use Rattle.conn_pool.proofs.reports.Reports.TheSendSync as reports
use Rattle.conn_pool.proofs.bells.Bells.TheSendSync as bells
use Rattle.conn_pool.proofs.dispatcher.Dispatcher.TheSendSync as dispatcher
use Rattle.std.proofs.alloc.Global.TheSendSync as heap
use Rattle.command_set.proofs.prior.Prior.TheSendSync as prior
use Rattle.command_set.proofs.waiting.Waiting.TheLaws.TheKnot.{crosses}
use Rattle.keyspace.proofs.space.Keyspace.TheSendSync as space
use Rattle.expiry.proofs.index.DeadlineIndex.TheSendSync as index
use Rattle.track_table.proofs.table.TrackTable.TheSendSync as table
use Rattle.prefix_table.proofs.table.PrefixTable.TheSendSync as prefixes
use Rattle.resp_value.proofs.octets.Octets.TheSendSync as octets
use Rattle.resp_value.proofs.octets.Words.TheSendSync as words
use Rattle.command_words.proofs.command.Command.TheSendSync as command
use Rattle.command_words.proofs.command.Signalled.TheSendSync as signalled
use Rattle.serial_model.proofs.effect.EntryKind.TheSendSync as kind
use Rattle.resp_value.proofs.value.Pairs.TheLaws.TheKnot as value
use Rattle.server_book.proofs.connections.Connections.TheSendSync as connections
use Rattle.server_book.proofs.log.Log.TheSendSync as log
use Rattle.command_set.specs.contracts.waiting.Parts as parts
use Rattle.command_set.specs.contracts.database.Database as database
use Rattle.command_set.specs.contracts.database.Database.TheInside as database_parts
use Rattle.server_book.specs.contracts.stores.Stores as stores
use Rattle.server_book.specs.contracts.book.Book as book
use Rattle.server_book.specs.contracts.book.Book.TheInside as book_parts
use Rattle.turn_lock.proofs.lock.Seat.TheSendSync as seat
use Rattle.turn_lock.proofs.lock.TurnLock.TheSendSync as lock
use Rattle.conn_pool.specs.contracts.bells.Bells as bells_row
use Rattle.conn_pool.specs.contracts.crew.Crew as crew
use Rattle.conn_pool.specs.contracts.crew.Crew.TheInside as crew_parts
use Rattle.std.specs.contracts.sync.Mutex as mutex_row
use Rattle.conn_pool.specs.contracts.dispatcher.Dispatcher as dispatcher_row
use Rattle.conn_pool.specs.declared.dispatcher.Opening as opening
use Rattle.edge_links.specs.declared.links.Acceptor as acceptor
use Rattle.edge_links.specs.declared.links.Link as link
use Rattle.turn_lock.specs.contracts.lock.TurnLock as lock_row
use Rattle.serial_model.specs.contracts.effect.Effect as effect
use Rattle.serial_model.specs.contracts.history.Limits as limits
use Rattle.serial_model.specs.contracts.history.Entry as entry
use Rattle.serial_model.specs.contracts.history.BookCall as call
use Rattle.shared_book.proofs.posted.Posted.TheSendSync as posted
use Rattle.shared_book.specs.contracts.logged.Answer as reply
use Rattle.shared_book.specs.contracts.logged.SharedBookLogged.TheImpl as logged
use Rattle.shared_book.specs.contracts.logged.SharedBook as shared
use Rattle.shared_book.specs.contracts.logged.SharedBook.TheInside as shared_parts

parts_send : IsSend parts.the_row
parts_send = declared_send parts.the_type (
  search (sendable, space.the_send) depth 10,
  (
    search (sendable, index.the_send, as_row_send) depth 10,
    (
      search (std.crosses, crosses, prior.the_send, sendable, as_row_send) depth 60 fits 20000,
      (
        search (std.crosses, crosses, prior.the_send, sendable, as_row_send) depth 60 fits 20000,
        tt,
      ),
    ),
  ),
)

database_inside : IsSend database_parts.the_row
database_inside = declared_send database_parts.the_type (
  search (sendable, heap.the_send) depth 10,
  (search (sendable, parts_send) depth 10, tt),
)

database_send : IsSend database.the_row
database_send = view_send _ _ _ _ _ database_inside

stores_send : IsSend stores.the_row
stores_send =
    search (sendable, database_send, table.the_send, prefixes.the_send, connections.the_send)
    depth 20

ruleset values = (
  sendable,
  value.crosses,
  std.frees,
  vec.the_send,
  vec.the_sync,
  heap.the_send,
  heap.the_sync,
  octets.the_send,
)

effect_send : IsSend effect.the_row
effect_send = declared_send effect.the_type (
  search sendable depth 10,
  (
    search sendable depth 10,
    (
      search (sendable, command.the_send, as_row_send) depth 20,
      (
        search (sendable, words.the_send) depth 10,
        (
          search values depth 20 fits 100000,
          (
            search (sendable, signalled.the_send) depth 20,
            (search (sendable, kind.the_send) depth 20, tt),
          ),
        ),
      ),
    ),
  ),
)

book_inside : IsSend book_parts.the_row
book_inside = declared_send book_parts.the_type (
  search sendable depth 10,
  (
    search (sendable, log.the_send) depth 10,
    (
      search (sendable, stores_send) depth 10,
      (
        search sendable depth 10,
        (search (sendable, effect_send, as_row_send) depth 20, tt),
      ),
    ),
  ),
)

book_send : IsSend book.the_row
book_send = view_send _ _ _ _ _ book_inside

shared_inside : IsSend shared_parts.the_row
shared_inside = declared_send shared_parts.the_type (
  search (sendable, as_row_send) depth 10,
  (search (sendable, book_send) depth 10, (search (sendable, posted.the_send) depth 10, tt)),
)

pub shared_send : IsSend shared.the_row
shared_send = view_send _ _ _ _ _ shared_inside

module _ (L E : RattleType) (g : Ghosts L.Denot) (h : Ghosts E.Denot) (l : IsSend L) (e : IsSend E)
  where
    crew_inside : IsSend (crew_parts.the_row L E g h)
    crew_inside = declared_send (crew_parts.the_type L E g h) (
      search (sendable, shared_send, seat.the_send, as_row_send) depth 20,
      (
        search (sendable, share.the_send) depth 20,
        (
          search (sendable, share.the_send) depth 20,
          (
            search (sendable, reports.the_send, as_row_send) depth 20,
            (search (sendable, as_row_send) depth 20, tt),
          ),
        ),
      ),
    )

    pub crew_send : IsSend (crew.the_row L E g h)
    crew_send = view_send _ _ _ _ _ crew_inside

module _ (L E A K : RattleType) (o : opening.Ghosts L.Denot) (a : acceptor.Ghosts A.Denot K.Denot)
    (k : link.Ghosts K.Denot) (g : Ghosts L.Denot) (h : Ghosts E.Denot) where
  pub dispatcher_sync : IsSend A
      → IsSync (mutex_row.the_row (dispatcher_row.the_row L E A K o a k g h))
  dispatcher_sync s = search (sendable, dispatcher.the_send, mutex.the_sync) depth 20

pub lock_sync : IsSync (lock_row.the_row shared.the_row limits.the_row entry.the_row call.the_row
    reply.the_row logged.ghosts)
lock_sync = search (sendable, shared_send, lock.the_sync) depth 20

pub bells_sync : IsSync bells_row.the_row
bells_sync = bells.the_sync

pub ruleset crossing = (
  sendable,
  heap.the_send,
  heap.the_sync,
  dispatcher_sync,
  crew_send,
  lock_sync,
  bells_sync,
)
