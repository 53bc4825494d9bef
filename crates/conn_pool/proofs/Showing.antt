-- What is shown of a report stays shown, whatever the history grows by, and as workers are joined.
use Rattle.std.proofs.Common.{◌≡◌, ◌≤◌, ℕ, List, [], ◌∷◌, ◌++◌, true, sym, refl, ap, subst, arith}
use Rattle.std.proofs.Common.{◌∙◌, inl, inr}
use Rattle.std.specs.Prelude.{Option, Some}
use Rattle.std.specs.List.{All}
use Rattle.std.specs.List.Sorted.{IsPermutation}
use Rattle.std.proofs.lemmas.List.Elements.{All-nil, All-append}
use Rattle.std.proofs.lemmas.List.Sorted.{All-permutation}
use Rattle.turn_lock.specs.History.{IsPrefix}
use Rattle.serial_model.specs.declared.history.Limits.{Limits}
use Rattle.serial_model.specs.declared.history.Entry.{Entry}
use Rattle.serial_model.specs.History.{has_ended, is_admitted, is_stopped}
use Rattle.turn_lock.specs.Own.{past_of, Grows}
use Rattle.shared_book.specs.Turns.{IsCloseCause, IsServerCause, Place, Turn, limits_in, limits_of}
use Rattle.shared_book.specs.declared.turns.Refusal.{Refusal}
use Rattle.shared_book.specs.declared.turns.Refusal.TheVariants as refusal
use Rattle.turn_lock.proofs.Growing.{grows_past}
use Rattle.shared_book.proofs.Histories.{begins_lift, ended_more, stopped_more}
use Rattle.turn_lock.proofs.Turning.{entries_begin}
use Rattle.conn_worker.specs.declared.report.Report.{Report}
use Rattle.conn_worker.specs.declared.report.Ended.{Ended}
use Rattle.conn_worker.specs.declared.report.Ended.TheVariants as ended
use Rattle.conn_worker.specs.Elsewhere.{HadEnded}
use Rattle.conn_worker.specs.Quits.{has_quit}
use Rattle.conn_worker.specs.Visits.{Alone, IsShown, Late, Leaves, Served, Visits}
use Rattle.conn_worker.specs.Visits.{ended_by}
use Rattle.conn_worker.proofs.Parting.{Parts, close_turns, leaves_over, leaves_parts}
use Rattle.conn_worker.proofs.Serving.{works_admitted}
use Rattle.conn_worker.proofs.Stopping.{quit_begins}
use Rattle.conn_pool.specs.Shown.{ShowsEnd, Shows, AreShown, IsUnadmitted}

module _ (l : Limits) (a b : List Entry) (t u : ℕ) (more : IsPrefix a b) (le : t ≤ u) where
  ended_begins : (id : ℕ) → has_ended l id a ≡ true → has_ended l id b ≡ true
  ended_begins id h =
      begins_lift (λ past. has_ended l id past ≡ true) (ended_more l id) a b more h

  quits_begin : (id : ℕ) → has_quit id a ≡ true → has_quit id b ≡ true
  quits_begin id h = quit_begins id a b more h

  stopped_begins : is_stopped l a ≡ true → is_stopped l b ≡ true
  stopped_begins h = begins_lift (λ past. is_stopped l past ≡ true) (stopped_more l) a b more h

  end_more : (e : Ended) (id : ℕ) → ShowsEnd e l a t id → ShowsEnd e l b u id
  end_more e id h = grind (arith, ended_begins, quits_begin, stopped_begins)

  pub shows_more : (r : Report) → Shows l a t r → Shows l b u r
  shows_more r s = grind (arith, end_more, ended_begins)

  pub all_more : (rs : List Report) → All (Shows l a t) rs → All (Shows l b u) rs
  all_more rs s = λ k d lt. shows_more _ (s k d lt)

-- ---- one visit

module _ (clock : Option ℕ) (r : Report) (left0 left1 link0 link1 : Option (List ℕ))
    (old new : Place) where
  abbrev ShowsAs : Ended → Type 0
  ShowsAs e = ShowsEnd e (limits_of new) (past_of new) new.tickets r.id

  module _ (s : Served clock r left0 left1 link0 link1 old new) where
    there : is_admitted (past_of s.last) r.id ≡ true
    there = works_admitted clock s.cause r.id r.id r.requests left0 left1 link0 link1 old s.first
        s.last s.admits refl s.works

    parted : Parts r.id s.last new r.ended
    parted = leaves_parts r.id s.last new s.cause r.ended s.works.grows.within s.leaves

    more : IsPrefix (past_of s.last) (past_of new)
    more = grows_past s.last new (close_turns r.id parted.close) parted.grows

    late_shows : (e : Refusal) → IsCloseCause r.id e new → (ended_by e ≡ ended.Dropped
        → HadEnded r.id s.works.turns new) → ShowsAs (ended_by e)
    late_shows refusal.Dropped h drop = (drop refl).ended
    late_shows refusal.NoMemory h drop = absurd h
    late_shows refusal.Worn h drop = h
    late_shows refusal.Stopped h drop = absurd h

    -- what the seat showed of the end of its work, it shows behind its Close
    shows_by : (cause e : Ended) → IsShown cause r.id s.works.heard s.works.turns s.last
        → Leaves cause e r.id s.last new → (e ≡ ended.Dropped → HadEnded r.id s.works.turns new)
        → ShowsAs e
    shows_by ended.PeerEnd e shown l drop = subst ShowsAs (sym l.0) tt
    shows_by ended.Quit e shown (Alone is c one) drop =
        subst ShowsAs (sym is)
        (quit_begins r.id (past_of s.last) (past_of new) more shown.1)
    shows_by ended.Quit e shown (Late a is h) drop =
        subst ShowsAs (sym is) (late_shows a h.cause_is (λ d. drop (is ∙ d)))
    shows_by ended.Dropped e shown l drop = subst ShowsAs (sym l.0) (drop l.0).ended
    shows_by (ended.BadRequest f) e shown l drop = subst ShowsAs (sym l.0) tt
    shows_by ended.LinkFault e shown l drop = subst ShowsAs (sym l.0) tt
    shows_by ended.NoMemory e shown l drop = subst ShowsAs (sym l.0) tt
    shows_by ended.Worn e shown l drop =
        let grown = parted.grows.tickets in
        subst ShowsAs (sym l.0) (omega (arith, shown, grown))
    shows_by ended.Stopped e shown l drop =
        subst ShowsAs (sym l.0)
        (subst (λ z. is_stopped z (past_of new) ≡ true) (sym (ap limits_in parted.grows.setup))
        (begins_lift (λ past. is_stopped (limits_of s.last) past ≡ true)
        (stopped_more (limits_of s.last)) (past_of s.last) (past_of new) more shown.1))

    no_id : r.id ≡ 0 → ⊥
    no_id none = let next = s.admits.next in absurd (omega (arith, none, next))

    served_shows : Shows (limits_of new) (past_of new) new.tickets r
    served_shows = record {
      cause = shows_by s.cause r.ended s.works.shown s.leaves s.dropped;
      over = λ pos. leaves_over r.id s.last new s.cause r.ended s.works.turns there s.dropped
          s.leaves;
      refused = λ none. absurd (no_id none);
      idle = λ none. absurd (no_id none);
    }

  refused_shows : (e : Refusal) → IsServerCause e new
      → ShowsAs (ended_by e) × IsUnadmitted (ended_by e)
  refused_shows refusal.Dropped h = absurd h
  refused_shows refusal.NoMemory h = (tt, tt)
  refused_shows refusal.Worn h = (h, tt)
  refused_shows refusal.Stopped h = (h, tt)

  visit_shows : Visits clock r left0 left1 link0 link1 old new
      → Shows (limits_of new) (past_of new) new.tickets r
  visit_shows (inr s) = served_shows s
  visit_shows (inl s) =
      let two = refused_shows s.refusal s.refuses.cause_is in
      let zero_id = s.id in
      record {
        cause = subst ShowsAs (sym s.ended) two.0;
        over = λ pos. absurd (omega (arith, pos, zero_id));
        refused = λ none. subst IsUnadmitted (sym s.ended) two.1;
        idle = λ none. s.none;
      }

pub shown_none : (k : Place) → AreShown [] k
unfolding AreShown
shown_none k = All-nil (Shows (limits_of k) (past_of k) k.tickets)

-- what a seat had shown it shows once it has grown
pub shown_grown : (rs : List Report) (a b : Place) → b.setup ≡ a.setup → IsPrefix a.seen b.seen
    → a.tickets ≤ b.tickets → AreShown rs a → AreShown rs b
unfolding AreShown
shown_grown rs a b setup seen le s =
    subst (λ l. All (Shows l (past_of b) b.tickets) rs) (sym (ap limits_in setup))
    (all_more (limits_of a) (past_of a) (past_of b) a.tickets b.tickets
    (entries_begin a.seen b.seen seen) le rs s)

pub shown_same : (rs : List Report) (a b : Place) → b.setup ≡ a.setup → b.seen ≡ a.seen
    → b.tickets ≡ a.tickets → AreShown rs a → AreShown rs b
shown_same rs a b setup seen tickets s =
    shown_grown rs a b setup ([], sym seen) (omega (arith, tickets)) s

shown_append : (rs ss : List Report) (k : Place) → AreShown rs k → AreShown ss k
    → AreShown (rs ++ ss) k
unfolding AreShown
shown_append rs ss k s t = All-append (Shows (limits_of k) (past_of k) k.tickets) rs ss s t

shown_one : (r : Report) (k : Place) → Shows (limits_of k) (past_of k) k.tickets r
    → AreShown (r ∷ []) k
unfolding AreShown
shown_one r k s = grind arith

pub shown_visit : (clock : Option ℕ) (rs : List Report) (r : Report)
    (left0 left1 link0 link1 : Option (List ℕ)) (old new : Place) (ts : List Turn)
    → Grows old new ts → AreShown rs old → Visits clock r left0 left1 link0 link1 old new
    → AreShown (rs ++ r ∷ []) new
shown_visit clock rs r left0 left1 link0 link1 old new ts g s v =
    shown_append rs (r ∷ []) new (shown_grown rs old new g.setup g.seen g.tickets s)
    (shown_one r new (visit_shows clock r left0 left1 link0 link1 old new v))

-- the reports of both, where two seats are joined
pub shown_joined : (rs ss : List Report) (a b c : Place) → c.setup ≡ a.setup → b.setup ≡ a.setup
    → IsPrefix a.seen c.seen → IsPrefix b.seen c.seen → a.tickets ≤ c.tickets
    → b.tickets ≤ c.tickets → AreShown rs a → AreShown ss b → AreShown (rs ++ ss) c
shown_joined rs ss a b c ca ba e y le lf s t = grind (arith, shown_append, shown_grown)

-- the reports of the last seat, in any order, once its lock was closed
pub shown_closed : (rs ss : List Report) (k : Place) (l : Limits) (past : List Entry) (t : ℕ)
    → k.setup ≡ Some l → past ≡ past_of k → k.tickets ≤ t → IsPermutation rs ss → AreShown rs k
    → All (Shows l past t) ss
unfolding AreShown
shown_closed rs ss k l past t setup is le moved s =
    let same : limits_of k ≡ l = ap limits_in setup in
    let all = subst (λ z. All (Shows z (past_of k) k.tickets) rs) same s in
    let more = subst (λ z. All (Shows l z k.tickets) rs) (sym is) all in
    All-permutation (Shows l past t) rs ss moved
    (all_more l past past k.tickets t ([], refl) le rs more)
