-- What becomes of a connection whose service ended: its Close, and how it is reported.
use Rattle.std.proofs.Common.{◌≡◌, ◌≤◌, ◌⊎◌, ℕ, List, [], ◌∷◌, true, Some, None}
use Rattle.std.proofs.Common.{refl, sym, ap, subst, ◌∙◌, arith, inl, inr, cond, eq-eqb}
use Rattle.std.specs.Prelude.{Option}
use Rattle.std.specs.List.{All}
use Rattle.turn_lock.specs.Counts.{total}
use Rattle.turn_lock.specs.declared.rule.TheConstants.{LAST_TICKET}
use Rattle.edge_links.specs.declared.counts.Counts.{Counts}
use Rattle.serial_model.specs.declared.history.Entry.{Entry}
use Rattle.serial_model.specs.declared.history.Entry.TheVariants as entry
use Rattle.serial_model.specs.History.{has_ended, is_admitted}
use Rattle.serial_model.proofs.Standings as standings
use Rattle.turn_lock.specs.Own.{IsWithin, past_of, Grows}
use Rattle.turn_lock.proofs.Growing.{grows_none, grows_past}
use Rattle.shared_book.specs.Turns.{Closes, IsCloseCause, Place, Refuses, Turn, limits_of}
use Rattle.shared_book.specs.declared.turns.Refusal.{Refusal}
use Rattle.shared_book.specs.declared.turns.Refusal.TheVariants as refusal
use Rattle.conn_worker.specs.declared.report.Ended.{Ended}
use Rattle.conn_worker.specs.declared.report.Ended.TheVariants as ended
use Rattle.conn_worker.specs.Elsewhere.{HadEnded, HasQuit, closes}
use Rattle.conn_worker.specs.Visits.{Alone, EndCounts, IsShown, IsWork, Late, Leaves, MayClose}
use Rattle.conn_worker.specs.Visits.{QuitLeaves, ended_by}
use Rattle.shared_book.proofs.Histories.{admitted_more, begins_lift, ended_now}
use Rattle.conn_worker.proofs.Leaving.{had_ended_unread, has_quit_on, reads_unclosed}
use Rattle.conn_worker.proofs.Stopping.{unclosed_in}

abbrev pub close_turns : ℕ → Option (List Entry) → List Turn
close_turns id None = []
close_turns id (Some past) = (entry.Close id, past) ∷ []

module _ (id : ℕ) (last new : Place) where
  -- one that could be closed had no Close
  pub quit_leaves : Closes id last new → QuitLeaves ended.Quit id last new
  quit_leaves c =
      let none = reads_unclosed (limits_of last) id c.past c.keeps in
      let one : closes id (entry.Close id) ≡ 1 = ap (λ b. cond b 1 0) (eq-eqb id id refl) in
      let all = ap (total (closes id)) c.ends in
      Alone refl c (omega (arith, none, one, all))

  pub quit_late : (r : Refusal) → Refuses (IsCloseCause id) r last new
      → QuitLeaves (ended_by r) id last new
  quit_late r h = Late r refl h

  -- one that neither quit nor had ended
  pub other_leaves : (cause : Ended) → (cause ≡ ended.Dropped → ⊥) → (cause ≡ ended.Quit → ⊥)
      → MayClose id last new → Leaves cause cause id last new
  other_leaves ended.PeerEnd a b m = (refl, m)
  other_leaves ended.Quit a b m = absurd (b refl)
  other_leaves ended.Dropped a b m = absurd (a refl)
  other_leaves (ended.BadRequest f) a b m = (refl, m)
  other_leaves ended.LinkFault a b m = (refl, m)
  other_leaves ended.NoMemory a b m = (refl, m)
  other_leaves ended.Worn a b m = (refl, m)
  other_leaves ended.Stopped a b m = (refl, m)

  -- the link counted nothing more
  quit_counts : (e : Ended) (a b : Counts) → QuitLeaves e id last new
      → (b.faults ≡ a.faults) × (b.ends ≡ a.ends) → EndCounts e a b
  quit_counts e a b (Alone is c one) same = subst (λ z. EndCounts z a b) (sym is) same
  quit_counts e a b (Late r is h) same = subst (λ z. EndCounts z a b) (sym is) (by_case r)
    where
      by_case : (r : Refusal) → EndCounts (ended_by r) a b
      by_case refusal.Dropped = same
      by_case refusal.NoMemory = same
      by_case refusal.Worn = same
      by_case refusal.Stopped = same

  pub leaves_counts : (cause e : Ended) (a b : Counts) → Leaves cause e id last new
      → EndCounts cause a b → EndCounts e a b
  leaves_counts ended.PeerEnd e a b l h = subst (λ z. EndCounts z a b) (sym l.0) h
  leaves_counts ended.Quit e a b l h = quit_counts e a b l h
  leaves_counts ended.Dropped e a b l h = subst (λ z. EndCounts z a b) (sym l.0) h
  leaves_counts (ended.BadRequest f) e a b l h = subst (λ z. EndCounts z a b) (sym l.0) h
  leaves_counts ended.LinkFault e a b l h = subst (λ z. EndCounts z a b) (sym l.0) h
  leaves_counts ended.NoMemory e a b l h = subst (λ z. EndCounts z a b) (sym l.0) h
  leaves_counts ended.Worn e a b l h = subst (λ z. EndCounts z a b) (sym l.0) h
  leaves_counts ended.Stopped e a b l h = subst (λ z. EndCounts z a b) (sym l.0) h

  -- ---- it has ended, or no ticket was left

  closes_over : Closes id last new → has_ended (limits_of new) id (past_of new) ≡ true
  closes_over c =
      ap (has_ended (limits_of new) id) c.ends ∙ ended_now (limits_of new) id c.past

  refused_over : is_admitted (past_of last) id ≡ true → (r : Refusal)
      → Refuses (IsCloseCause id) r last new
      → (has_ended (limits_of new) id (past_of new) ≡ true) ⊎ (LAST_TICKET ≤ new.tickets)
  refused_over on refusal.Dropped h =
      inl (standings.reads_over (limits_of new) (past_of new) id
      (begins_lift (λ past. is_admitted past id ≡ true) (admitted_more id) (past_of last)
      (past_of new) (grows_past last new [] h.grows) on) h.cause_is)
  refused_over on refusal.NoMemory h = absurd h.cause_is
  refused_over on refusal.Worn h = inr h.cause_is
  refused_over on refusal.Stopped h = absurd h.cause_is

  may_over : is_admitted (past_of last) id ≡ true → MayClose id last new
      → (has_ended (limits_of new) id (past_of new) ≡ true) ⊎ (LAST_TICKET ≤ new.tickets)
  may_over on (inl c) = inl (closes_over c)
  may_over on (inr (r, h)) = refused_over on r h

  pub leaves_over : (cause e : Ended) (ts : List Turn) → is_admitted (past_of last) id ≡ true
      → (e ≡ ended.Dropped → HadEnded id ts new) → Leaves cause e id last new
      → (has_ended (limits_of new) id (past_of new) ≡ true) ⊎ (LAST_TICKET ≤ new.tickets)
  leaves_over ended.PeerEnd e ts on drop l = may_over on l.1
  leaves_over ended.Quit e ts on drop (Alone is c one) = inl (closes_over c)
  leaves_over ended.Quit e ts on drop (Late r is h) = refused_over on r h
  leaves_over ended.Dropped e ts on drop l = inl (drop l.0).ended
  leaves_over (ended.BadRequest f) e ts on drop l = may_over on l.1
  leaves_over ended.LinkFault e ts on drop l = may_over on l.1
  leaves_over ended.NoMemory e ts on drop l = may_over on l.1
  leaves_over ended.Worn e ts on drop l = may_over on l.1
  leaves_over ended.Stopped e ts on drop l = may_over on l.1

  -- ---- one that is reported as dropped

  late_dropped : (ts : List Turn) (clock : Option ℕ) → All (IsWork id clock) ts → HasQuit id last
      → (r : Refusal) → ended_by r ≡ ended.Dropped → Refuses (IsCloseCause id) r last new
      → HadEnded id ts new
  late_dropped ts clock work quit refusal.Dropped is h =
      had_ended_unread id ts new
      (has_quit_on id last new h.grows.setup (grows_past last new [] h.grows) quit) h.cause_is
      (unclosed_in id id clock ts work)
  late_dropped ts clock work quit refusal.NoMemory is h = absurd h.cause_is
  late_dropped ts clock work quit refusal.Worn is h = absurd (let no : ⊥ = cc in no)
  late_dropped ts clock work quit refusal.Stopped is h = absurd h.cause_is

  quit_dropped : (ts : List Turn) (clock : Option ℕ) (e : Ended) → All (IsWork id clock) ts
      → HasQuit id last → QuitLeaves e id last new → e ≡ ended.Dropped → HadEnded id ts new
  quit_dropped ts clock e work quit (Alone is c one) drop =
      absurd (let no : ended.Quit ≡ ended.Dropped = sym is ∙ drop in cc)
  quit_dropped ts clock e work quit (Late r is h) drop =
      late_dropped ts clock work quit r (sym is ∙ drop) h

  not_dropped : (cause e : Ended) → e ≡ cause → e ≡ ended.Dropped → cause ≡ ended.Dropped
  not_dropped cause e is drop = sym is ∙ drop

  pub leaves_dropped : (cause e : Ended) (ts : List Turn) (clock : Option ℕ) (heard : List ℕ)
      → All (IsWork id clock) ts → IsShown cause id heard ts last → Leaves cause e id last new
      → e ≡ ended.Dropped → HadEnded id ts new
  leaves_dropped ended.PeerEnd e ts clock heard work shown l drop =
      absurd (let no = not_dropped ended.PeerEnd e l.0 drop in cc)
  leaves_dropped ended.Quit e ts clock heard work shown l drop =
      quit_dropped ts clock e work shown.2 l drop
  leaves_dropped ended.Dropped e ts clock heard work shown l drop =
      subst (HadEnded id ts) (sym l.1) shown
  leaves_dropped (ended.BadRequest f) e ts clock heard work shown l drop =
      absurd (let no = not_dropped (ended.BadRequest f) e l.0 drop in cc)
  leaves_dropped ended.LinkFault e ts clock heard work shown l drop =
      absurd (let no = not_dropped ended.LinkFault e l.0 drop in cc)
  leaves_dropped ended.NoMemory e ts clock heard work shown l drop =
      absurd (let no = not_dropped ended.NoMemory e l.0 drop in cc)
  leaves_dropped ended.Worn e ts clock heard work shown l drop =
      absurd (let no = not_dropped ended.Worn e l.0 drop in cc)
  leaves_dropped ended.Stopped e ts clock heard work shown l drop =
      absurd (let no = not_dropped ended.Stopped e l.0 drop in cc)

  -- ---- the turns of it

  -- a Close of the connection, or none; none where it is reported as dropped
  pub record Parts (e : Ended) : Type 0 where
    pub close : Option (List Entry)
    pub grows : Grows last new (close_turns id close)
    pub kept : e ≡ ended.Dropped → close ≡ None

  may_parts : (e : Ended) → (e ≡ ended.Dropped → ⊥) → MayClose id last new → Parts e
  may_parts e not (inl c) = record {
    close = Some c.past;
    grows = c.grows;
    kept = λ drop. absurd (not drop);
  }
  may_parts e not (inr (r, h)) = record { close = None; grows = h.grows; kept = λ drop. refl }

  quit_parts : (e : Ended) → QuitLeaves e id last new → Parts e
  quit_parts e (Alone is c one) = record {
    close = Some c.past;
    grows = c.grows;
    kept = λ drop. absurd (let no : ended.Quit ≡ ended.Dropped = sym is ∙ drop in cc);
  }
  quit_parts e (Late r is h) = record { close = None; grows = h.grows; kept = λ drop. refl }

  pub leaves_parts : (cause e : Ended) → IsWithin last → Leaves cause e id last new → Parts e
  leaves_parts ended.PeerEnd e is l =
      may_parts e (λ drop. let no = not_dropped ended.PeerEnd e l.0 drop in cc) l.1
  leaves_parts ended.Quit e is l = quit_parts e l
  leaves_parts ended.Dropped e is l = record {
    close = None;
    grows = subst (λ k. Grows last k []) (sym l.1) (grows_none last is);
    kept = λ drop. refl;
  }
  leaves_parts (ended.BadRequest f) e is l =
      may_parts e (λ drop. let no = not_dropped (ended.BadRequest f) e l.0 drop in cc) l.1
  leaves_parts ended.LinkFault e is l =
      may_parts e (λ drop. let no = not_dropped ended.LinkFault e l.0 drop in cc) l.1
  leaves_parts ended.NoMemory e is l =
      may_parts e (λ drop. let no = not_dropped ended.NoMemory e l.0 drop in cc) l.1
  leaves_parts ended.Worn e is l =
      may_parts e (λ drop. let no = not_dropped ended.Worn e l.0 drop in cc) l.1
  leaves_parts ended.Stopped e is l =
      may_parts e (λ drop. let no = not_dropped ended.Stopped e l.0 drop in cc) l.1
