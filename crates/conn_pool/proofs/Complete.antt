-- What the workers come to where the acceptor did not fail, by what is told of it and of the book.
use Rattle.std.proofs.Common.{◌≡◌, ◌<◌, ◌⊎◌, ℕ, List, Bool, true, false, length, refl, arith}
use Rattle.std.proofs.Common.{inl, inr, Ok, Err, Result, IfOk}
use Rattle.turn_lock.specs.Seats.{ClosedLock}
use Rattle.turn_lock.specs.declared.rule.TheConstants.{LAST_TICKET}
use Rattle.edge_links.specs.declared.counts.Counts.{Counts}
use Rattle.edge_links.specs.Counts.{Counted}
use Rattle.serial_model.specs.declared.history.Entry.{Entry}
use Rattle.serial_model.specs.declared.history.Limits.{Limits}
use Rattle.serial_model.specs.History.{is_stopped}
use Rattle.shared_book.specs.Turns.{Shared}
use Rattle.conn_worker.specs.declared.report.Report.{Report}
use Rattle.conn_worker.specs.declared.report.Ended.{Ended}
use Rattle.conn_worker.specs.declared.report.Ended.TheVariants as ended
use Rattle.conn_pool.specs.declared.serve.Served.{Served}
use Rattle.conn_pool.specs.Complete.{Completes, IsItsOwn}
use Rattle.conn_pool.specs.Outcome.{Stands}
use Rattle.conn_pool.specs.Shown.{ShowsEnd}

own_end : (e : Ended) (l : Limits) (past : List Entry) (tickets id : ℕ)
    → ShowsEnd e l past tickets id → tickets < LAST_TICKET → (is_stopped l past ≡ true → ⊥)
    → IsItsOwn e
own_end ended.Worn l past tickets id h left runs = absurd (omega (arith, h, left))
own_end ended.Stopped l past tickets id h left runs = runs h
own_end ended.PeerEnd l past tickets id h left runs = tt
own_end ended.Quit l past tickets id h left runs = tt
own_end ended.Dropped l past tickets id h left runs = tt
own_end (ended.BadRequest f) l past tickets id h left runs = tt
own_end ended.LinkFault l past tickets id h left runs = tt
own_end ended.NoMemory l past tickets id h left runs = tt

not_failed : (failed : Bool) (X : Type 0) → (X → ⊥) → (failed ≡ true → X) → failed ≡ false
not_failed true X none h = absurd (none (h refl))
not_failed false X none h = refl

pub completes : (limits : Limits) (connections : ℕ) (old new : Counts) (reports : List Report)
    (book : ClosedLock Shared) (failed : Bool) → (Counted old.faults new.faults → ⊥)
    → (failed ≡ true → Counted old.faults new.faults)
    → Counted old.faults new.faults ⊎ Counted old.ends new.ends
    ⊎ (0 < connections) × (length reports ≡ connections)
    ⊎ (is_stopped limits book.state.past ≡ true)
    → Stands limits reports book
    → Completes limits connections old new reports book failed
completes limits connections old new reports book failed none told over stands = record {
  accepted = not_failed failed (Counted old.faults new.faults) none told;
  over = elim over [ inl fault ↦ absurd (none fault) | inr other ↦ other ];
  own = λ left runs k d lt.
      let one = stands.shown k d lt in
      own_end _ limits book.state.past book.tickets _ one.cause left runs;
}

-- the same of an answer that is there unless memory ran out
pub completes_all : {A E : Type 0} (counts : A → Counts) (limits : Limits) (connections : ℕ)
    (acceptor : A) (r : Result (Served A) E)
    → IfOk r (λ s. s.accept_failed ≡ true
    → Counted (counts acceptor).faults (counts s.acceptor).faults)
    → IfOk r (λ s. Counted (counts acceptor).faults (counts s.acceptor).faults
    ⊎ Counted (counts acceptor).ends (counts s.acceptor).ends
    ⊎ (0 < connections) × (length s.reports.items ≡ connections)
    ⊎ (is_stopped limits s.book.state.past ≡ true))
    → IfOk r (λ s. Stands limits s.reports.items s.book)
    → IfOk r (λ s. (Counted (counts acceptor).faults (counts s.acceptor).faults → ⊥)
    → Completes limits connections (counts acceptor) (counts s.acceptor) s.reports.items s.book
    s.accept_failed)
completes_all counts limits connections acceptor (Ok s) failed over history = λ none.
    completes limits connections (counts acceptor) (counts s.acceptor) s.reports.items s.book
    s.accept_failed none failed over history
completes_all counts limits connections acceptor (Err e) failed over history = tt
