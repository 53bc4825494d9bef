use Rattle.std.proofs.Common.{rules, ◌≡◌, ◌<◌, ◌≤◌, ℕ, Some, sym, ap, subst, ◌∙◌}
use Rattle.std.specs.List.{All}
use Rattle.std.proofs.lemmas.Option.{same_Some}
use Rattle.turn_lock.specs.Counts.{total}
use Rattle.turn_lock.specs.History.{Legal, entries}
use Rattle.turn_lock.specs.Own.{past_of, turns_of}
use Rattle.shared_book.specs.Turns.{TurnStep, Place}
use Rattle.conn_pool.specs.Crew.{Team}
use Rattle.conn_worker.specs.Elsewhere.{closes, quits}
use Rattle.conn_pool.specs.Outcome.{IsDroppedBy}
use Rattle.conn_pool.specs.Shown.{AreShown, Shows}
use Rattle.conn_pool.specs.Ties.{Parted, Tied, admits, closing, names, quitting, requests}
use Rattle.conn_pool.proofs.Once.{named_once, parted_closes, parted_quits, tied_admits, tied_runs}
use Rattle.conn_pool.proofs.Once.{total_moved}
use Rattle.conn_pool.proofs.Parting.{all_dropped}
use Rattle.conn_pool.proofs.Showing.{shown_closed}
use Rattle.conn_pool.proofs.serve.serve_named.Goals as goal

pub returns-clause-history : goal.returns-clause-history
returns-clause-history g c =
    let k = c.apart-seat.result.0 in
    let found = c.in-Some.reports.items in
    let rs = c.in_order-reports.result.items in
    let moved = c.in_order-reports.ensures.same in
    let setup : k.setup ≡ Some c.args.limits =
    ap (λ (p : Place). p.setup) c.apart-seat.ensures.seat
    ∙ (c.fan_out-crew.ensures.same.1
    ∙ (ap (λ (t : Team). t.seat.setup) c.new-crew.ensures
    ∙ ap (λ (p : Place). p.setup) c.requires.opened.0)) in
    let (u, is, legal) = c.in-Ok.ensures.sound.0 in
    let law = subst (λ z. Legal TurnStep z k.seen) (same_Some u c.args.limits (sym is ∙ setup))
    legal in
    let tied : Tied found (turns_of k) = search rules in
    let shown : AreShown found k = search rules in
    let parted : Parted found (turns_of k) (past_of k) = search rules in
    let all = c.in-Ok.ensures.all.0 in
    let admitted : (n : ℕ) → 0 < n → total (admits n) (entries k.seen) ≡ total (names n) rs =
    λ n pos. tied_admits k all found tied n pos ∙ total_moved (names n) found rs moved in
    let once = named_once c.args.limits k.seen rs law admitted in
    let shows = shown_closed found rs k c.args.limits _ _ setup c.in-Ok.ensures.ok.1
    c.in-Ok.ensures.tickets.1 moved shown in
    record {
      history = k.seen;
      legal = law;
      limits = same_Some _ _ (sym c.in-Ok.ensures.ok.2 ∙ setup);
      past = c.in-Ok.ensures.ok.1;
      admitted = admitted;
      ran = λ n pos. tied_runs k all found tied n pos ∙ total_moved (requests n) found rs moved;
      once = once;
      shown = shows;
      dropped = subst (λ past. All (IsDroppedBy c.args.limits past) rs) (sym c.in-Ok.ensures.ok.1)
          (all_dropped c.args.limits (entries k.seen) c.in-Ok.book.tickets rs once
          (λ n pos. subst (λ m. total (closes n) (entries k.seen) ≤ m)
          (total_moved (closing n) found rs moved) (parted_closes k all found parted n pos))
          (λ n pos none. subst (λ m. total (quits n) (entries k.seen) ≤ m)
          (total_moved (quitting n) found rs moved) (parted_quits k all found parted n pos none))
          (subst (λ past. All (Shows c.args.limits past c.in-Ok.book.tickets) rs)
          c.in-Ok.ensures.ok.1 shows));
      in_order = c.in_order-reports.ensures.order;
    }
