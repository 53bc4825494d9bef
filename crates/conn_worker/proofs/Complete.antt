-- What the report of a visit shows, by what the visit did and its link counted.
use Rattle.std.proofs.Common.{◌≡◌, ◌∙◌, ℕ, List, [], ◌∷◌, None, true, length, inl, inr}
use Rattle.std.proofs.Common.{refl, sym, ap, subst, arith}
use Rattle.std.specs.Prelude.{Option}
use Rattle.resp_stream.specs.Parse.{requests_of}
use Rattle.edge_links.specs.declared.counts.Counts.{Counts}
use Rattle.serial_model.specs.declared.history.Entry.TheVariants as entry
use Rattle.serial_model.specs.History.{is_stopped}
use Rattle.turn_lock.specs.Own.{Grows, past_of}
use Rattle.turn_lock.proofs.Growing.{grows_past}
use Rattle.shared_book.specs.Turns.{IsCloseCause, IsServerCause, Place, Turn, limits_in, limits_of}
use Rattle.shared_book.specs.declared.turns.Refusal.{Refusal}
use Rattle.shared_book.specs.declared.turns.Refusal.TheVariants as refusal
use Rattle.shared_book.proofs.Histories.{begins_lift, stopped_more}
use Rattle.conn_worker.specs.declared.report.Report.{Report}
use Rattle.conn_worker.specs.declared.report.Ended.{Ended}
use Rattle.conn_worker.specs.declared.report.Ended.TheVariants as ended
use Rattle.conn_worker.specs.declared.connection.Stop.{Stop}
use Rattle.conn_worker.specs.Complete.{AllRan, EndShows}
use Rattle.conn_worker.specs.Elsewhere.{HadEnded}
use Rattle.conn_worker.specs.Quits.{stop_in, up_to_quit}
use Rattle.conn_worker.specs.Visits.{Alone, EndCounts, IsShown, IsWhole, Late, Leaves, MayClose}
use Rattle.conn_worker.specs.Visits.{Served, Visits, ended_by}

record Grown (last new : Place) : Type 0 where
  turns : List Turn
  grows : Grows last new turns

may_grow : (id : ℕ) (last new : Place) → MayClose id last new → Grown last new
may_grow id last new (inl c) =
    record { turns = (entry.Close id, c.past) ∷ []; grows = c.grows }
may_grow id last new (inr (x, h)) = record { turns = []; grows = h.grows }

-- a SHUTDOWN that a seat has seen it has seen behind a Close too
stopped_grown : (last new : Place) → Grown last new
    → is_stopped (limits_of last) (past_of last) ≡ true
    → is_stopped (limits_of new) (past_of new) ≡ true
stopped_grown last new g h =
    subst (λ l. is_stopped l (past_of new) ≡ true) (sym (ap limits_in g.grows.setup))
    (begins_lift (λ past. is_stopped (limits_of last) past ≡ true) (stopped_more (limits_of last))
    (past_of last) (past_of new) (grows_past last new g.turns g.grows) h)

module _ (clock : Option ℕ) (r : Report) (left0 left1 link0 link1 : Option (List ℕ))
    (old new : Place) (a b : Counts) where
  abbrev Shows : Ended → Type 0
  Shows e = EndShows e r left0 left1 a b new

  refused_shows : (x : Refusal) → IsServerCause x new → Shows (ended_by x)
  refused_shows refusal.Dropped h = absurd h
  refused_shows refusal.NoMemory h = tt
  refused_shows refusal.Worn h = h
  refused_shows refusal.Stopped h = h

  module _ (s : Served clock r left0 left1 link0 link1 old new) where
    late_shows : (x : Refusal) → IsCloseCause r.id x new
        → (ended_by x ≡ ended.Dropped → HadEnded r.id s.works.turns new) → Shows (ended_by x)
    late_shows refusal.Dropped h drop = (drop refl).ended
    late_shows refusal.NoMemory h drop = absurd h
    late_shows refusal.Worn h drop = h
    late_shows refusal.Stopped h drop = absurd h

    all_ran : (behind : Option Stop) → stop_in s.works.heard ≡ behind
        → r.requests ≡ length (up_to_quit (requests_of s.works.heard))
        → AllRan behind r.requests left0 left1
    all_ran behind is many = (s.works.heard, s.works.read, is, many)

    shows_by : (cause e : Ended)
        → (IsWhole cause → r.requests ≡ length (up_to_quit (requests_of s.works.heard)))
        → IsShown cause r.id s.works.heard s.works.turns s.last → Leaves cause e r.id s.last new
        → (e ≡ ended.Dropped → HadEnded r.id s.works.turns new) → EndCounts e a b → Shows e
    shows_by ended.PeerEnd e whole shown l drop c =
        subst Shows (sym l.0)
        ((subst (λ z. EndCounts z a b) l.0 c).0, all_ran None shown (whole tt))
    shows_by ended.Quit e whole shown (Alone is closes one) drop c =
        subst Shows (sym is) (all_ran _ shown.0 (whole tt))
    shows_by ended.Quit e whole shown (Late x is h) drop c =
        subst Shows (sym is) (late_shows x h.cause_is (λ d. drop (is ∙ d)))
    shows_by ended.Dropped e whole shown l drop c = subst Shows (sym l.0) (drop l.0).ended
    shows_by (ended.BadRequest f) e whole shown l drop c =
        subst Shows (sym l.0) (all_ran _ shown (whole tt))
    shows_by ended.LinkFault e whole shown l drop c =
        subst Shows (sym l.0) (subst (λ z. EndCounts z a b) l.0 c).0
    shows_by ended.NoMemory e whole shown l drop c = subst Shows (sym l.0) tt
    shows_by ended.Worn e whole shown l drop c =
        let grown = (may_grow r.id s.last new l.1).grows.tickets in
        subst Shows (sym l.0) (omega (arith, shown, grown))
    shows_by ended.Stopped e whole shown l drop c =
        subst Shows (sym l.0)
        (stopped_grown s.last new (may_grow r.id s.last new l.1) shown.1)

  pub ends_show : Visits clock r left0 left1 link0 link1 old new → EndCounts r.ended a b
      → EndShows r.ended r left0 left1 a b new
  ends_show (inl n) c = subst Shows (sym n.ended) (refused_shows n.refusal n.refuses.cause_is)
  ends_show (inr s) c =
      shows_by s s.cause r.ended (λ whole. s.works.counted ∙ ap length (s.works.all_ran whole))
      s.works.shown s.leaves s.dropped c
