-- Closes and QUITs of a seat's own, and the connections that are reported as dropped.
use Rattle.std.proofs.Common.{◌≡◌, ◌<◌, ◌≤◌, ◌+◌, ◌⊎◌, ℕ, zero, suc, List, [], ◌∷◌, ◌++◌, true}
use Rattle.std.proofs.Common.{cond, refl, sym, ap, subst, ◌∙◌, arith, eq-eqb, inl, inr, Some}
use Rattle.std.proofs.Common.{None, Bool, false, ◌-◌}
use Rattle.std.specs.Prelude.{Option, ◌==◌, ◌&&◌}
use Rattle.std.specs.List.{All}
use Rattle.std.proofs.lemmas.List.Elements.{All-nil, All-cons}
use Rattle.std.proofs.lemmas.Bool.{eqb-true}
use Rattle.turn_lock.specs.Counts.{total}
use Rattle.turn_lock.specs.History.{IsPrefix, entries}
use Rattle.serial_model.specs.declared.history.Limits.{Limits}
use Rattle.serial_model.specs.declared.history.Entry.{Entry}
use Rattle.serial_model.specs.declared.history.Entry.TheVariants.{Admit, Run, Tick, Take, Close}
use Rattle.serial_model.specs.History.{has_ended, is_quit}
use Rattle.turn_lock.specs.Own.{IsWithin, past_of, turns_of, Grows}
use Rattle.turn_lock.proofs.Owning.{total-append}
use Rattle.turn_lock.proofs.Turning.{entries_begin}
use Rattle.shared_book.specs.Turns.{Place, Turn}
use Rattle.conn_worker.specs.declared.report.Report.{Report}
use Rattle.conn_worker.specs.declared.report.Ended.{Ended}
use Rattle.conn_worker.specs.declared.report.Ended.TheVariants as ended
use Rattle.conn_worker.specs.Elsewhere.{Closed, Dropped, HadEnded, Quit, closes, closes_in, quits}
use Rattle.conn_worker.specs.Elsewhere.{quits_in}
use Rattle.conn_worker.specs.Visits.{Served, Visits}
use Rattle.conn_worker.proofs.Leaving.{ended_past}
use Rattle.conn_worker.proofs.Parting.{close_turns}
use Rattle.conn_worker.proofs.Stopping.{unclosed_in}
use Rattle.conn_pool.specs.Crew.{Looks}
use Rattle.conn_pool.specs.Outcome.{IsDroppedBy}
use Rattle.conn_pool.specs.Shown.{IsUnadmitted, Shows, ShowsEnd}
use Rattle.conn_pool.specs.Ties.{Parted, closing, names, quitting, ran_in, runs, unless_dropped}
use Rattle.conn_pool.proofs.Showing.{shown_joined, shown_none, shown_same}
use Rattle.conn_pool.proofs.Tying.{joined_turns, joined_within, parts, same_turns, same_within}
use Rattle.conn_pool.proofs.Tying.{tied_joined, tied_none, served_whole, turns_none}
use Rattle.conn_pool.proofs.Tying.{within_none, work_runs}

none_before : (f : Entry → ℕ) (a b : List Entry) → IsPrefix a b → total f b ≡ 0
    → total f a ≡ 0
none_before f a b more none =
    let all = ap (total f) (sym more.1) in
    let parts = total-append f more.0 a in
    omega (arith, all, parts, none)

pub parted_none : (k : Place) → k.own ≡ [] → Parted [] (turns_of k) (past_of k)
unfolding Parted
parted_none k is n pos =
    let c = ap (total (λ (t : Turn). closes n t.0)) (turns_none k is) in
    let q = ap (total (λ (t : Turn). quits n t.0)) (turns_none k is) in
    (omega (arith, c), λ none. omega (arith, q))

-- the seat knows as much, and owns as much
pub parted_same : (rs : List Report) (a b : Place) → b.seen ≡ a.seen → b.own ≡ a.own
    → Parted rs (turns_of a) (past_of a) → Parted rs (turns_of b) (past_of b)
parted_same rs a b seen own p =
    subst (λ ts. Parted rs ts (past_of b)) (sym (same_turns a b seen own))
    (subst (λ past. Parted rs (turns_of a) past) (sym (ap past_in seen)) p)
  where
    past_in : List (ℕ × Entry) → List Entry
    past_in h = entries h

pub parted_joined : (rs ss : List Report) (a b c : Place) → c.own ≡ a.own ++ b.own
    → IsPrefix a.seen c.seen → IsPrefix b.seen c.seen → IsWithin a → IsWithin b
    → Parted rs (turns_of a) (past_of a) → Parted ss (turns_of b) (past_of b)
    → Parted (rs ++ ss) (turns_of c) (past_of c)
unfolding Parted
parted_joined rs ss a b c own x y wa wb p q n pos =
    let turns = joined_turns a b c own x y wa wb in
    let cf : Turn → ℕ = λ t. closes n t.0 in
    let qf : Turn → ℕ = λ t. quits n t.0 in
    let c0 = ap (total cf) turns in
    let c1 = total-append cf (turns_of a) (turns_of b) in
    let c2 = total-append (closing n) rs ss in
    let c3 = (p n pos).0 in
    let c4 = (q n pos).0 in
    let q0 = ap (total qf) turns in
    let q1 = total-append qf (turns_of a) (turns_of b) in
    let q2 = total-append (quitting n) rs ss in (
      omega (arith, c0, c1, c2, c3, c4),
      λ none.
          let q3 = (p n pos).1 (none_before (closes n) (past_of a) (past_of c)
          (entries_begin a.seen c.seen x) none) in
          let q4 = (q n pos).1 (none_before (closes n) (past_of b) (past_of c)
          (entries_begin b.seen c.seen y) none) in
          omega (arith, q0, q1, q2, q3, q4),
    )

-- ---- some turns of the seat, and the report of them

pub record Tells (r : Report) (ts : List Turn) (past : List Entry) : Type 0 where
  pub closed : (n : ℕ) → closes_in n ts ≤ closing n r
  pub quit : (n : ℕ) → total (closes n) past ≡ 0 → quits_in n ts ≤ quitting n r

pub parted_more : (rs : List Report) (r : Report) (ts : List Turn) (old new : Place)
    → Grows old new ts → Tells r ts (past_of new) → Parted rs (turns_of old) (past_of old)
    → Parted (rs ++ r ∷ []) (turns_of new) (past_of new)
unfolding Parted
parted_more rs r ts old new g t p n pos =
    let cf : Turn → ℕ = λ t. closes n t.0 in
    let qf : Turn → ℕ = λ t. quits n t.0 in
    let c0 = ap (total cf) g.own in
    let c1 = total-append cf ts (turns_of old) in
    let c2 = total-append (closing n) rs (r ∷ []) in
    let c3 = (p n pos).0 in
    let c4 = t.closed n in
    let q0 = ap (total qf) g.own in
    let q1 = total-append qf ts (turns_of old) in
    let q2 = total-append (quitting n) rs (r ∷ []) in (
      omega (arith, c0, c1, c2, c3, c4),
      λ none.
          let q3 = (p n pos).1 (none_before (closes n) (past_of old) (past_of new)
          (entries_begin old.seen new.seen g.seen) none) in
          let q4 = t.quit n none in
          omega (arith, q0, q1, q2, q3, q4),
    )

-- turns with no Close and no QUIT, of which no report tells
pub parted_grown : (rs : List Report) (ts : List Turn) (old new : Place) → Grows old new ts
    → ((n : ℕ) → (closes_in n ts ≡ 0) × (quits_in n ts ≡ 0))
    → Parted rs (turns_of old) (past_of old) → Parted rs (turns_of new) (past_of new)
unfolding Parted
parted_grown rs ts old new g none p n pos =
    let cf : Turn → ℕ = λ t. closes n t.0 in
    let qf : Turn → ℕ = λ t. quits n t.0 in
    let c0 = ap (total cf) g.own in
    let c1 = total-append cf ts (turns_of old) in
    let c2 = (none n).0 in
    let c3 = (p n pos).0 in
    let q0 = ap (total qf) g.own in
    let q1 = total-append qf ts (turns_of old) in
    let q2 = (none n).1 in (
      omega (arith, c0, c1, c2, c3),
      λ unclosed.
          let q3 = (p n pos).1 (none_before (closes n) (past_of old) (past_of new)
          (entries_begin old.seen new.seen g.seen) unclosed) in
          omega (arith, q0, q1, q2, q3),
    )

pub parted_look : (old new : Place) → Looks old new → (rs : List Report)
    → Parted rs (turns_of old) (past_of old) → Parted rs (turns_of new) (past_of new)
parted_look old new (inl (now, inl e)) rs p =
    parted_grown rs _ old new e.grows (λ n. (refl, refl)) p
parted_look old new (inl (now, inr q)) rs p =
    parted_grown rs _ old new q.grows (λ n. (refl, refl)) p
parted_look old new (inr (e, r)) rs p = parted_grown rs _ old new r.grows (λ n. (refl, refl)) p

-- ---- a visit

quits_run : (n m : ℕ) (q : Bool) → cond {A = ℕ} ((m == n) && q) 1 0 ≤ cond {A = ℕ} (m == n) 1 0
quits_run n m q = grind arith

quits_one : (n : ℕ) (e : Entry) → quits n e ≤ runs n e
quits_one n (Admit m) = omega arith
quits_one n (Run m words moment) = quits_run n m (is_quit words)
quits_one n (Tick moment) = omega arith
quits_one n (Take m most) = omega arith
quits_one n (Close m) = omega arith

quits_ran : (n : ℕ) (ts : List Turn) → quits_in n ts ≤ ran_in n ts
quits_ran n [] = omega arith
quits_ran n (t ∷ ts) =
    let one = quits_one n t.0 in let rest = quits_ran n ts in omega (arith, one, rest)

module _ (clock : Option ℕ) (r : Report) (left0 left1 link0 link1 : Option (List ℕ))
    (old new : Place) (s : Served clock r left0 left1 link0 link1 old new) where
  ran_is : (n : ℕ) → ran_in n s.works.turns ≡ cond (r.id == n) r.requests 0
  ran_is n = work_runs r.id n clock s.works.turns s.works.work
      ∙ ap (λ k. cond (r.id == n) k 0) (sym s.works.counted)

  -- the Close of a connection that was not dropped
  close_tells : (e : Ended) (c : Option (List Entry)) (n : ℕ) → (e ≡ ended.Dropped → c ≡ None)
      → closes_in n (close_turns r.id c) ≤ cond {A = ℕ} (r.id == n) (unless_dropped e 1) 0
  close_tells e None n kept = omega arith
  close_tells ended.PeerEnd (Some past) n kept = omega arith
  close_tells ended.Quit (Some past) n kept = omega arith
  close_tells ended.Dropped (Some past) n kept =
      absurd (let no : Some past ≡ None = kept refl in cc)
  close_tells (ended.BadRequest f) (Some past) n kept = omega arith
  close_tells ended.LinkFault (Some past) n kept = omega arith
  close_tells ended.NoMemory (Some past) n kept = omega arith
  close_tells ended.Worn (Some past) n kept = omega arith
  close_tells ended.Stopped (Some past) n kept = omega arith

  no_less : (e : Ended) (n : ℕ) → (e ≡ ended.Dropped → ⊥)
      → cond {A = ℕ} (r.id == n) r.requests 0
      ≡ cond {A = ℕ} (r.id == n) (unless_dropped e r.requests) 0
  no_less ended.PeerEnd n not = refl
  no_less ended.Quit n not = refl
  no_less ended.Dropped n not = absurd (not refl)
  no_less (ended.BadRequest f) n not = refl
  no_less ended.LinkFault n not = refl
  no_less ended.NoMemory n not = refl
  no_less ended.Worn n not = refl
  no_less ended.Stopped n not = refl

  is_dropped : (e : Ended) → (e ≡ ended.Dropped) ⊎ (e ≡ ended.Dropped → ⊥)
  is_dropped ended.PeerEnd = inr (λ no. cc)
  is_dropped ended.Quit = inr (λ no. cc)
  is_dropped ended.Dropped = inl refl
  is_dropped (ended.BadRequest f) = inr (λ no. cc)
  is_dropped ended.LinkFault = inr (λ no. cc)
  is_dropped ended.NoMemory = inr (λ no. cc)
  is_dropped ended.Worn = inr (λ no. cc)
  is_dropped ended.Stopped = inr (λ no. cc)

  drop_quits : HadEnded r.id s.works.turns new → total (closes r.id) (past_of new) ≡ 0
      → quits_in r.id s.works.turns ≡ 0
  drop_quits h none =
      elim h.by [
        | Dropped q d ↦ q
        | Closed lt ↦ absurd (omega (arith, lt, none))
        | Quit q lt ↦ q
      ]

  by_bool : {X : Type 0} (b : Bool) → (b ≡ true → X) → (b ≡ false → X) → X
  by_bool true f g = f refl
  by_bool false f g = g refl

  work_tells : (n : ℕ) → total (closes n) (past_of new) ≡ 0
      → quits_in n s.works.turns ≤ quitting n r
  work_tells n none =
      let most = quits_ran n s.works.turns in
      let ran = ran_is n in
      elim (is_dropped r.ended) [
        | inr not ↦ let same = no_less r.ended n not in omega (arith, most, ran, same)
        | inl drop ↦ by_bool (r.id == n)
            (λ own. let q = drop_quits (s.dropped drop)
            (subst (λ c. total (closes c) (past_of new) ≡ 0) (sym (eqb-true r.id n own)) none) in
            let q2 = subst (λ c. quits_in c s.works.turns ≡ 0) (eqb-true r.id n own) q in
            omega (arith, q2))
            (λ other. let zero_ran = ran ∙ ap (λ b. cond b r.requests 0) other in
            omega (arith, most, zero_ran))
      ]

  pub served_parts : (ts : List Turn) → ts ≡ close_turns r.id
      (parts clock r left0 left1 link0 link1 old new s).close
      ++ (s.works.turns ++ (Admit r.id, s.admits.past) ∷ []) → Tells r ts (past_of new)
  served_parts ts is =
      let p = parts clock r left0 left1 link0 link1 old new s in
      let c = close_turns r.id p.close in
      let a : List Turn = (Admit r.id, s.admits.past) ∷ [] in
      record {
        closed = λ n.
            let f : Turn → ℕ = λ t. closes n t.0 in
            let a0 = ap (total f) is in
            let a1 = total-append f c (s.works.turns ++ a) in
            let a2 = total-append f s.works.turns a in
            let a3 = unclosed_in r.id n clock s.works.turns s.works.work in
            let a4 = close_tells r.ended p.close n p.kept in
            omega (arith, a0, a1, a2, a3, a4);
        quit = λ n none.
            let f : Turn → ℕ = λ t. quits n t.0 in
            let a0 = ap (total f) is in
            let a1 = total-append f c (s.works.turns ++ a) in
            let a2 = total-append f s.works.turns a in
            let a3 = close_quits n p.close in
            let a4 = work_tells n none in
            omega (arith, a0, a1, a2, a3, a4);
      }
    where
      close_quits : (n : ℕ) (c : Option (List Entry)) → quits_in n (close_turns r.id c) ≡ 0
      close_quits n None = refl
      close_quits n (Some past) = refl

pub parted_visit : (clock : Option ℕ) (rs : List Report) (r : Report)
    (left0 left1 link0 link1 : Option (List ℕ)) (old new : Place)
    → Parted rs (turns_of old) (past_of old) → Visits clock r left0 left1 link0 link1 old new
    → Parted (rs ++ r ∷ []) (turns_of new) (past_of new)
parted_visit clock rs r left0 left1 link0 link1 old new p (inl s) =
    parted_more rs r [] old new s.refuses.grows
    (record { closed = λ n. omega arith; quit = λ n none. omega arith }) p
parted_visit clock rs r left0 left1 link0 link1 old new p (inr s) =
    parted_more rs r _ old new (served_whole clock r left0 left1 link0 link1 old new s)
    (served_parts clock r left0 left1 link0 link1 old new s _ refl) p

-- ---- once the lock was closed

each_within : (f : Report → ℕ) (rs : List Report) → All (λ r. f r ≤ total f rs) rs
each_within f [] = All-nil (λ (r : Report). f r ≤ 0)
each_within f (r ∷ rs) =
    let rest = each_within f rs in
    All-cons (λ x. f x ≤ total f (r ∷ rs)) r rs (omega arith)
    (λ k d lt. let le = rest k d lt in omega (arith, le))

-- 1 for a report that says that the connection was dropped
abbrev dropping : ℕ → Report → ℕ
dropping n r = cond (r.id == n) (1 - unless_dropped r.ended 1) 0

either_one : (b : Bool) (e : Ended) → cond {A = ℕ} b (unless_dropped e 1) 0
    + cond {A = ℕ} b (1 - unless_dropped e 1) 0 ≡ cond {A = ℕ} b 1 0
either_one b e = grind arith

either : (n : ℕ) (rs : List Report) → total (closing n) rs + total (dropping n) rs
    ≡ total (names n) rs
either n [] = refl
either n (r ∷ rs) =
    let one = either_one (r.id == n) r.ended in
    let rest = either n rs in
    omega (arith, one, rest)

quits_zero : (b : Bool) (e : Ended) (m : ℕ) → cond {A = ℕ} b (unless_dropped e 1) 0 ≡ 0
    → cond {A = ℕ} b (unless_dropped e m) 0 ≡ 0
quits_zero b e m h = grind arith

none_quitting : (n : ℕ) (rs : List Report) → total (closing n) rs ≡ 0
    → total (quitting n) rs ≡ 0
none_quitting n [] h = refl
none_quitting n (r ∷ rs) h =
    let one = quits_zero (r.id == n) r.ended r.requests (omega (arith, h)) in
    let rest = none_quitting n rs (omega (arith, h)) in
    omega (arith, one, rest)

some_id : (n : ℕ) → (0 < n) ⊎ (n ≡ 0)
some_id zero = inr refl
some_id (suc n) = inl (omega arith)

module _ (l : Limits) (past : List Entry) (tickets : ℕ) (rs : List Report)
    (once : (n : ℕ) → 0 < n → total (names n) rs ≤ 1)
    (closed : (n : ℕ) → 0 < n → total (closes n) past ≤ total (closing n) rs)
    (quit : (n : ℕ) → 0 < n → total (closes n) past ≡ 0
    → total (quits n) past ≤ total (quitting n) rs) where
  drop_named : (r : Report) → r.ended ≡ ended.Dropped → dropping r.id r ≡ 1
  drop_named r drop =
      ap (λ b. cond b (1 - unless_dropped r.ended 1) 0) (eq-eqb r.id r.id refl)
      ∙ ap (λ e. 1 - unless_dropped e 1) drop

  drop_one : (r : Report) → Shows l past tickets r
      → ((n : ℕ) → dropping n r ≤ total (dropping n) rs) → IsDroppedBy l past r
  drop_one r s within drop =
      elim (some_id r.id) [
        | inr none ↦ absurd (subst IsUnadmitted drop (s.refused none))
        | inl pos ↦
            let one = drop_named r drop in
            let le = within r.id in
            let all = either r.id rs in
            let names_once = once r.id pos in
            let none : total (closing r.id) rs ≡ 0 = omega (arith, one, le, all, names_once) in
            let c0 = closed r.id pos in
            let unclosed : total (closes r.id) past ≡ 0 = omega (arith, c0, none) in
            let q0 = quit r.id pos unclosed in
            let q1 = none_quitting r.id rs none in
            elim (ended_past l r.id past (ended_by_drop r s drop)) [
              | inl d ↦ d
              | inr (inl n) ↦ absurd (omega (arith, n, unclosed))
              | inr (inr n) ↦ absurd (omega (arith, n, q0, q1))
            ]
      ]
    where
      ended_by_drop : (r : Report) → Shows l past tickets r → r.ended ≡ ended.Dropped
          → has_ended l r.id past ≡ true
      ended_by_drop r s drop = subst (λ e. ShowsEnd e l past tickets r.id) drop s.cause

  -- the history drops each that is reported so
  pub all_dropped : All (Shows l past tickets) rs → All (IsDroppedBy l past) rs
  all_dropped shown = λ k d lt. drop_one _ (shown k d lt) (λ n. each_within (dropping n) rs k d lt)

pub ruleset beginning = (tied_none, within_none, shown_none, parted_none)

pub ruleset splitting = (
  tied_none,
  within_none,
  shown_none,
  parted_none,
  same_within,
  same_turns,
  shown_same,
  parted_same,
)

pub ruleset joining = (tied_joined, joined_within, shown_joined, parted_joined)
