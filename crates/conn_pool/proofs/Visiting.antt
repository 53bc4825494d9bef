-- What a worker has of one connection that came and went.
use Rattle.std.proofs.Common.{[], ◌∷◌, ◌∙◌}
use Rattle.std.specs.Prelude.{Option}
use Rattle.atomic_table.specs.Seated.{TableId}
use Rattle.serial_model.specs.declared.history.Limits.{Limits}
use Rattle.turn_lock.specs.Own.{IsWithin, past_of, turns_of}
use Rattle.shared_book.specs.Turns.{Place}
use Rattle.conn_worker.specs.declared.report.Report.{Report}
use Rattle.conn_pool.specs.Guests.{HasVisited, IsSeatOf}
use Rattle.conn_pool.specs.Shown.{AreShown}
use Rattle.conn_pool.specs.Ties.{Parted, Tied}
use Rattle.conn_pool.proofs.Parting.{parted_none, parted_visit}
use Rattle.conn_pool.proofs.Showing.{shown_none}
use Rattle.conn_pool.proofs.Tying.{shown_after, tied_none, tied_visit, visit_lock, visit_parts}
use Rattle.conn_pool.proofs.Tying.{visit_setup, visit_within}

module _ (lock : TableId) (setup : Option Limits) (r : Report) (seat : Place)
    (v : HasVisited lock setup r seat) where
  pub visited_within : IsWithin seat
  visited_within =
      visit_within v.clock r v.left0 v.left1 v.link0 v.link1 v.entered seat v.visits

  pub visited_tied : Tied (r ∷ []) (turns_of seat)
  visited_tied =
      tied_visit v.clock [] r v.left0 v.left1 v.link0 v.link1 v.entered seat
      (tied_none v.entered v.none) v.visits

  pub visited_shown : AreShown (r ∷ []) seat
  visited_shown =
      shown_after v.clock [] r v.left0 v.left1 v.link0 v.link1 v.entered seat
      (shown_none v.entered) v.visits

  pub visited_parted : Parted (r ∷ []) (turns_of seat) (past_of seat)
  visited_parted =
      parted_visit v.clock [] r v.left0 v.left1 v.link0 v.link1 v.entered seat
      (parted_none v.entered v.none) v.visits

  pub visited_seat : IsSeatOf lock setup seat
  visited_seat = (
    visit_lock v.clock r v.left0 v.left1 v.link0 v.link1 v.entered seat v.visits ∙ v.is_of.0,
    visit_setup v.clock r v.left0 v.left1 v.link0 v.link1 v.entered seat v.visits ∙ v.is_of.1,
    visit_parts v.clock r v.left0 v.left1 v.link0 v.link1 v.entered seat v.visits ∙ v.is_of.2,
  )
