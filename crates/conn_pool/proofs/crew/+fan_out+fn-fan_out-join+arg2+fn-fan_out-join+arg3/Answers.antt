use Prim.Native.Nat.{ℕ}
use mathlib.Core.List.{List, ◌∷◌, []}
use mir.Syntax.{named}
use contract.Lifetimes.{Lfts, Within, lft_at}
use denote.Exit.{yes}
use denote.Hole.{as_row}
use denote.Ref.{ShrRef}
use denote.Struct.Tuple.{TupleAt, type_at}
use denote.Struct.Field.{row_field, u64-field}
use denote.RattleType.{RattleType}
use denote.Param.{param}
use denote.Param.Send.{IsSend, IsSync, sendable, param_send, param_sync, shr_send}
use denote.Param.SendFields.{declared_send, as_row_send}
use Rattle.std.proofs.Common.{rules, arith, subst}
use Rattle.std.proofs.alloc.Global.TheSendSync as heap
use Rattle.std.specs.contracts.alloc.Global as global_row
use Rattle.std.specs.contracts.sync.Mutex as mutex_row
use Rattle.turn_lock.specs.contracts.lock.TurnLock as lock_row
use Rattle.serial_model.specs.contracts.history.Limits as limits
use Rattle.serial_model.specs.contracts.history.Entry as entry
use Rattle.serial_model.specs.contracts.history.BookCall as call
use Rattle.shared_book.specs.contracts.logged.Answer as reply
use Rattle.shared_book.specs.contracts.logged.SharedBookLogged.TheImpl as logged
use Rattle.shared_book.specs.contracts.logged.SharedBook as shared
use Rattle.conn_pool.specs.contracts.bells.Bells as bells_row
use Rattle.conn_pool.specs.contracts.crew.Crew as crew_row
use Rattle.conn_pool.specs.contracts.dispatcher.Dispatcher as dispatcher_row
use Rattle.conn_pool.specs.Crew.{Leaves}
use Rattle.conn_pool.proofs.Crossing.{bells_sync, lock_sync, dispatcher_sync, crew_send, crossing}
use Rattle.conn_pool.proofs.Leaving.{leaves_joined}
use Rattle.conn_pool.proofs.crew.+fan_out+fn-fan_out-join+arg2+fn-fan_out-join+arg3 as cycle
use Rattle.conn_pool.proofs.crew.+fan_out+fn-fan_out-join+arg2+fn-fan_out-join+arg3.Given.{Over}
use Rattle.conn_pool.proofs.crew.+fan_out+fn-fan_out-join+arg2+fn-fan_out-join+arg3.Goals as goal

-- what a half borrows for the j-th lifetime
abbrev borrowed : (κs : Lfts 22) (j : ℕ) → Within 22 j → RattleType → RattleType
borrowed κs j ok R = ShrRef (named j) (lft_at 22 j ok κs) R

abbrev dispatcher : Over → RattleType
dispatcher g = mutex_row.the_row (dispatcher_row.the_row (param 0 g.row.L) (param 1 g.row.E)
    (param 2 g.row.A) (param 6 g.row.A-Link) g.L.Opening g.A.Acceptor g.A.Link.Link g.L.Ledger
    g.E.Ledger)

abbrev lock : RattleType
lock = lock_row.the_row shared.the_row limits.the_row entry.the_row call.the_row reply.the_row
    logged.ghosts

abbrev crew : Over → RattleType
crew g = crew_row.the_row (param 0 g.row.L) (param 1 g.row.E) g.L.Ledger g.E.Ledger

-- what the work of a half captures, in order
abbrev captured : Over → Lfts 22 → List RattleType
captured g κs =
    borrowed κs 6 tt (param 5 g.row.R) ∷ borrowed κs 7 tt global_row.the_row
    ∷ borrowed κs 8 tt (dispatcher g) ∷ borrowed κs 9 tt lock ∷ borrowed κs 10 tt (param 3 g.row.C)
    ∷ borrowed κs 11 tt (param 4 g.row.G) ∷ borrowed κs 12 tt bells_row.the_row ∷ crew g
    ∷ borrowed κs 13 tt u64-field.row ∷ []

borrowed_send : (κs : Lfts 22) (j : ℕ) (ok : Within 22 j) (R : RattleType) → IsSync R
    → IsSend (as_row (row_field (borrowed κs j ok R)))
borrowed_send κs j ok R s = as_row_send (row_field _) (shr_send (named j) (lft_at 22 j ok κs) R s)

count_sync : IsSync u64-field.row
count_sync = search sendable

-- The work of a half may cross, since each of what it captures may. One search over them all does
-- not end.
half_send : (g : Over) (κs : Lfts 22) → IsSend (param 0 g.row.L) → IsSend (param 1 g.row.E)
    → IsSend (param 2 g.row.A) → IsSync g.row.C → IsSync g.row.G → IsSync g.row.R
    → IsSend (cycle.Lts-fan_out.arg-2-1 g.row.L g.row.E g.row.A g.row.C g.row.G g.row.R
    g.row.A-Link g.L.laws g.E.laws g.A.laws g.C.laws g.G.laws g.R.laws g.A.Link.laws g.L.Opening
    g.L.Opening-dict g.L.Ledger g.L.Ledger-dict g.E.Ledger g.E.Ledger-dict g.A.Acceptor
    g.A.Acceptor-dict g.A.Link.Link g.A.Link.Link-dict g.A.Watching g.A.Watching-dict
    g.C.Clock g.C.Clock-dict g.G.Gate g.G.Gate-dict g.R.Threads g.R.Threads-dict g.R.Wait
    g.R.Wait-dict g.A.Link.Watched g.A.Link.Watched-dict g.A.Link.Destruct-dict κs)
half_send g κs l e a c s r =
    let shares : IsSync (dispatcher g) =
    dispatcher_sync (param 0 g.row.L) (param 1 g.row.E) (param 2 g.row.A) (param 6 g.row.A-Link)
    g.L.Opening g.A.Acceptor g.A.Link.Link g.L.Ledger g.E.Ledger a in
    let moves : IsSend (crew g) =
    crew_send (param 0 g.row.L) (param 1 g.row.E) g.L.Ledger g.E.Ledger l e in
    let each : IsSend (TupleAt [] (captured g κs)) =
    declared_send (type_at [] (captured g κs)) (
      borrowed_send κs 6 tt _ (param_sync 5 _ r),
      (
        borrowed_send κs 7 tt _ heap.the_sync,
        (
          borrowed_send κs 8 tt (dispatcher g) shares,
          (
            borrowed_send κs 9 tt lock lock_sync,
            (
              borrowed_send κs 10 tt _ (param_sync 3 _ c),
              (
                borrowed_send κs 11 tt _ (param_sync 4 _ s),
                (
                  borrowed_send κs 12 tt _ bells_sync,
                  (
                    as_row_send (row_field (crew g)) moves,
                    (borrowed_send κs 13 tt _ count_sync, tt),
                  ),
                ),
              ),
            ),
          ),
        ),
      ),
    ) in
    record { owned = each.owned; leaving = λ _. each.leaving yes }

-- and what it leaves
left_send : (g : Over) (κs : Lfts 22) → IsSend (param 0 g.row.L) → IsSend (param 1 g.row.E)
    → IsSend (cycle.Lts-fan_out.arg-2-3 g.row.L g.row.E g.row.A g.row.C g.row.G g.row.R
    g.row.A-Link g.L.laws g.E.laws g.A.laws g.C.laws g.G.laws g.R.laws g.A.Link.laws g.L.Opening
    g.L.Opening-dict g.L.Ledger g.L.Ledger-dict g.E.Ledger g.E.Ledger-dict g.A.Acceptor
    g.A.Acceptor-dict g.A.Link.Link g.A.Link.Link-dict g.A.Watching g.A.Watching-dict
    g.C.Clock g.C.Clock-dict g.G.Gate g.G.Gate-dict g.R.Threads g.R.Threads-dict g.R.Wait
    g.R.Wait-dict g.A.Link.Watched g.A.Link.Watched-dict g.A.Link.Destruct-dict κs)
left_send g κs l e = search crossing depth 40

pub join-mine-requires-send-F : goal.join-mine-requires-send-F
join-mine-requires-send-F g t c κs within =
    param_send 1 _
    (half_send g κs (search rules) (search rules) (search rules) (search rules) (search rules)
    (search rules))

pub join-mine-requires-send-A : goal.join-mine-requires-send-A
join-mine-requires-send-A g t c κs within =
    param_send 3 _ (left_send g κs (search rules) (search rules))

pub returns-clause-left : goal.returns-clause-left
returns-clause-left g t c =
    let one = c.join-mine.result.0 in
    let both = c.join.ensures.amounts.1 in
    leaves_joined c.args.crew one c.join.new.self c.join.ensures.seat.1 c.join.ensures.seen
    (omega (arith, both))
    (subst (λ z. Leaves z one) c.split-other.ensures.old c.join-mine.ensures.first.1)
