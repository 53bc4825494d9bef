-- How far a connection has ended, entry by entry: whether it is read on, has quit or was dropped.
use Rattle.std.proofs.Common.{◌≡◌, ◌≤◌, ℕ, List, [], ◌∷◌, ◌++◌, Bool, true, false, cond}
use Rattle.std.proofs.Common.{inl, inr, refl, sym, ap, ◌∙◌, arith, subst, drop, length, max, min}
use Rattle.std.proofs.Common.{take, length-take}
use Rattle.std.specs.Prelude.{◌==◌, ◌&&◌, ◌||◌, ◌+◌, ◌-◌, not}
use Rattle.std.specs.List.{list_any}
use Rattle.std.proofs.lemmas.Bool.{both_ways, cases_Bool, eq-eqb, eqb-true, or_left, or_parts}
use Rattle.std.proofs.lemmas.Bool.{false_from_ne_true}
use Rattle.std.proofs.lemmas.List.{length-drop}
use Rattle.std.proofs.lemmas.List.Folds.{list_any-append}
use Rattle.std.proofs.lemmas.Bool.Decides.{nat_tests}
use Rattle.serial_model.specs.declared.history.Limits.{Limits}
use Rattle.serial_model.specs.declared.history.Entry.{Entry}
use Rattle.serial_model.specs.declared.history.Entry.TheVariants.{Admit, Run, Tick, Take, Close}
use Rattle.serial_model.specs.declared.history.BookCall.TheVariants as call
use Rattle.serial_model.specs.declared.standing.Standing.{Standing}
use Rattle.serial_model.specs.declared.standing.Standing.TheVariants.{Live, Quit, Gone}
use Rattle.serial_model.specs.State.{State, closed, is_live, keeps_bytes, may_take}
use Rattle.serial_model.specs.Tracking.{has_id}
use Rattle.serial_model.specs.Actions.{Action, ends, quits}
use Rattle.serial_model.specs.EntryEffects.{drops_one, was_dropped}
use Rattle.serial_model.specs.History.{gives_on, has_ended, is_admitted, is_quit}
use Rattle.serial_model.specs.History.{reads_on, run_action, runs_of, runs_on, state, stream}
use Rattle.serial_model.specs.History.{taken, tick_action, unsent, IsLegal}
use Rattle.serial_model.specs.Steps.{Turn, book_step}
use Rattle.serial_model.proofs.Ends.{ends_are}
use Rattle.serial_model.proofs.StateSteps.{dropped_stands, run_stands_quit}
use Rattle.serial_model.proofs.StepCases.{by_take}
use Rattle.serial_model.proofs.Standings.{ended_more, gives_take, reads_close, reads_run}
use Rattle.serial_model.proofs.Standings.{reads_take}
use Rattle.serial_model.proofs.Streams.{some_kept, unsent_gone, unsent_kept}
use Rattle.serial_model.proofs.Turning.{close_step}
use Rattle.server_links.specs.OneHistory.{ended_early, has_quit, QuitIsLast}

-- ---- one standing

ends_keeps : (h q : Bool) (x : Standing) → (h ≡ true → is_live x ≡ true)
    → keeps_bytes (cond h (cond q Quit Gone) x) ≡ true → keeps_bytes x ≡ true
ends_keeps h q x live e = grind arith

ends_quit : (h q : Bool) (x : Standing) → (h ≡ true → is_live x ≡ true) → has_quit x ≡ true
    → has_quit (cond h (cond q Quit Gone) x) ≡ true
ends_quit h q x live e = grind arith

closes_keeps : (b : Bool) (x y : Standing) → keeps_bytes (cond b (closed x) y) ≡ true
    → keeps_bytes y ≡ true
closes_keeps b x y e = grind arith

closes_quit : (b : Bool) (x y : Standing) → (b ≡ true → x ≡ y) → has_quit y ≡ true
    → has_quit (cond b (closed x) y) ≡ true
closes_quit b x y same e = grind arith

live_unquit : (a : Bool) (x : Standing) → (a && not (not (is_live x))) ≡ true → has_quit x ≡ false
live_unquit a x e = grind arith

read_quit : (a : Bool) (x : Standing) → (a && keeps_bytes x) ≡ true
    → (a && not (not (is_live x))) ≡ false → has_quit x ≡ true
read_quit a x e f = grind arith

-- ---- one more entry

-- whom an action ends had not ended
was_live : (l : Limits) (t : Action) (s : State) (c : ℕ) → has_id c (ends l t s) ≡ true
    → is_live (s.standing c) ≡ true
was_live l t s c h = grind (arith, ends_are)

module _ (l : Limits) (c : ℕ) where
  abbrev standing : List Entry → Standing
  standing past = (state l past).standing c

  abbrev action_ends : List Entry → Action → Bool
  action_ends past t = has_id c (ends l t (state l past))

  -- what an entry leaves of a standing
  by_entry : (P : Standing → Type 0) (e : Entry) (past : List Entry) → P (standing past)
      → ((h q : Bool) → (h ≡ true → is_live (standing past) ≡ true)
      → P (cond h (cond q Quit Gone) (standing past)))
      → ((b : Bool) (x : Standing) → (b ≡ true → x ≡ standing past)
      → P (cond b (closed x) (standing past)))
      → P (standing (e ∷ past))
  unfolding state
  by_entry P (Admit id) past same ended close = same
  by_entry P (Run id words moment) past same ended close =
      let s = state l past in
      let t = run_action id words moment s in
      ended (action_ends past t) (quits t c) (was_live l t s c)
  by_entry P (Tick moment) past same ended close =
      let s = state l past in
      let t = tick_action moment s in
      ended (action_ends past t) (quits t c) (was_live l t s c)
  by_entry P (Take id max) past same ended close = same
  by_entry P (Close id) past same ended close =
      close (id == c) ((state l past).standing id)
      (λ e. ap (λ i. (state l past).standing i) (eqb-true id c e))

  keeps_more : (e : Entry) (past : List Entry) → keeps_bytes (standing (e ∷ past)) ≡ true
      → keeps_bytes (standing past) ≡ true
  keeps_more e past =
      by_entry (λ x. keeps_bytes x ≡ true → keeps_bytes (standing past) ≡ true) e past (λ h. h)
      (λ h q live. ends_keeps h q (standing past) live)
      (λ b x same. closes_keeps b x (standing past))

  quit_more : (e : Entry) (past : List Entry) → has_quit (standing past) ≡ true
      → has_quit (standing (e ∷ past)) ≡ true
  quit_more e past h =
      by_entry (λ x. has_quit x ≡ true) e past h
      (λ b q live. ends_quit b q (standing past) live h)
      (λ b x same. closes_quit b x (standing past) same h)

  there_more : (e : Entry) (past : List Entry) → is_admitted past c ≡ true
      → is_admitted (e ∷ past) c ≡ true
  there_more e past h = grind (arith, nat_tests)

  -- ---- any entries

  pub there_on : (es past : List Entry) → is_admitted past c ≡ true
      → is_admitted (es ++ past) c ≡ true
  there_on [] past h = h
  there_on (e ∷ es) past h = there_more e (es ++ past) (there_on es past h)

  keeps_before : (es past : List Entry) → keeps_bytes (standing (es ++ past)) ≡ true
      → keeps_bytes (standing past) ≡ true
  keeps_before [] past h = h
  keeps_before (e ∷ es) past h = keeps_before es past (keeps_more e (es ++ past) h)

  either_more : (a b a' b' : Bool) → (a || b) ≡ true → (a ≡ true → a' ≡ true)
      → (b ≡ true → b' ≡ true) → (a' || b') ≡ true
  either_more a b a' b' h f g = grind arith

  -- one that has quit or was dropped stays so
  early_more : (e : Entry) (past : List Entry) → ended_early l c past ≡ true
      → ended_early l c (e ∷ past) ≡ true
  early_more e past h =
      either_more (has_quit (standing past)) (was_dropped l c past)
      (has_quit (standing (e ∷ past))) (was_dropped l c (e ∷ past)) h (quit_more e past)
      (or_left (was_dropped l c past) (drops_one l e past c))

  pub early_on : (es past : List Entry) → ended_early l c past ≡ true
      → ended_early l c (es ++ past) ≡ true
  early_on [] past h = h
  early_on (e ∷ es) past h = early_more e (es ++ past) (early_on es past h)

  -- one that was dropped has ended
  by_drop : (a b ended : Bool) → (a || b) ≡ true → (a ≡ true → ended ≡ true)
      → (b ≡ true → ended ≡ true) → ended ≡ true
  by_drop a b ended h f g = grind arith

  dropped_ended : (past : List Entry) → was_dropped l c past ≡ true → has_ended l c past ≡ true
  dropped_ended [] h = absurd (let no : ⊥ = cc in no)
  dropped_ended (e ∷ past) h =
      by_drop (was_dropped l c past) (drops_one l e past c) (has_ended l c (e ∷ past)) h
      (λ was. ended_more l past c e (dropped_ended past was))
      (λ now. ap (λ x. not (is_live x)) (dropped_stands l past e c now))

  pub early_before : (es past : List Entry) → ended_early l c (es ++ past) ≡ false
      → ended_early l c past ≡ false
  early_before es past h = grind (arith, early_on)

  -- one that is read on was so before
  pub reads_before : (es past : List Entry) → is_admitted past c ≡ true
      → reads_on l (es ++ past) c ≡ true → reads_on l past c ≡ true
  reads_before es past there h = grind (arith, keeps_before)

  pub unread_on : (es past : List Entry) → is_admitted past c ≡ true → reads_on l past c ≡ false
      → reads_on l (es ++ past) c ≡ false
  unread_on es past there h = grind (arith, reads_before)

  -- ---- what runs

  live_here : (a e : Bool) → (a && not e) ≡ true → e ≡ false
  live_here a e h = grind arith

  -- a connection that runs on has not quit, and was not dropped
  pub runs_unquit : (past : List Entry) → runs_on l past c ≡ true → ended_early l c past ≡ false
  runs_unquit past h =
      neither (has_quit (standing past)) (was_dropped l c past)
      (live_unquit (is_admitted past c) (standing past) h)
      (false_from_ne_true _ (λ was. both_ways _
      (live_here (is_admitted past c) (has_ended l c past) h) (dropped_ended past was)))
    where
      neither : (a b : Bool) → a ≡ false → b ≡ false → (a || b) ≡ false
      neither a b e f = grind arith

  -- one that runs no more has quit if it is read on; if it is not, it was perhaps dropped
  pub passed_early : (past : List Entry)
      → (reads_on l past c ≡ false → was_dropped l c past ≡ true) → runs_on l past c ≡ false
      → ended_early l c past ≡ true
  passed_early past unread off =
      elim (cases_Bool (reads_on l past c)) [
        | inl on ↦ or_left _ (was_dropped l c past)
            (read_quit (is_admitted past c) (standing past) on off)
        | inr none ↦ right (has_quit (standing past)) (was_dropped l c past) (unread none)
      ]
    where
      right : (a b : Bool) → b ≡ true → (a || b) ≡ true
      right a b h = grind arith

  -- its own Run leaves a connection read on, or drops it
  pub read_then : (past : List Entry) (words : List (List ℕ)) (moment : ℕ)
      → runs_on l past c ≡ true
      → (reads_on l past c ≡ false → was_dropped l c past ≡ true)
      → reads_on l (Run c words moment ∷ past) c ≡ false
      → was_dropped l c (Run c words moment ∷ past) ≡ true
  read_then past words moment on unread off =
      dropped (reads_on l past c) (drops_one l (Run c words moment) past c) (was_dropped l c past)
      (sym (reads_run l past c c moment words) ∙ off) unread
    where
      dropped : (a d was : Bool) → (a && not d) ≡ false → (a ≡ false → was ≡ true)
          → (was || d) ≡ true
      dropped a d was h f = grind arith

  -- its Close leaves it read no more
  pub unread_then : (past : List Entry) → reads_on l past c ≡ true
      → reads_on l (book_step l past (call.Close c)).past c ≡ false
  unread_then past on =
      ap (λ (t : Turn). reads_on l t.past c) (close_step l past c on)
      ∙ reads_close l past c c (eq-eqb c c refl)

  -- a Take leaves what a connection may do
  pub takes_same : (past : List Entry) (id most : ℕ) →
      let t : Turn = book_step l past (call.Take id most) in
      (reads_on l t.past c ≡ reads_on l past c) × (gives_on l t.past c ≡ gives_on l past c)
  takes_same past id most =
      by_take l past (λ (t : Turn). (reads_on l t.past c ≡ reads_on l past c)
      × (gives_on l t.past c ≡ gives_on l past c)) id most (refl, refl) (refl, refl)
      (λ on some. (reads_take l past c id most, gives_take l past c id most))

-- ---- behind a QUIT nothing runs

quit_added : (requests : List (List (List ℕ))) (words : List (List ℕ))
    → list_any is_quit requests ≡ false → QuitIsLast (requests ++ words ∷ [])
quit_added [] words none = (λ e. refl, tt)
quit_added (w ∷ requests) words none =
    let p = or_parts (is_quit w) (list_any is_quit requests) none in
    (λ e. absurd (both_ways _ p.0 e), quit_added requests words p.1)

quit_or : (requests : List (List (List ℕ))) (words : List (List ℕ))
    → list_any is_quit (requests ++ words ∷ []) ≡ true → list_any is_quit requests ≡ false
    → is_quit words ≡ true
quit_or requests words any none =
    right (list_any is_quit requests) (is_quit words)
    (sym (list_any-append is_quit requests (words ∷ [])) ∙ any) none
  where
    right : (a b : Bool) → (a || (b || false)) ≡ true → a ≡ false → b ≡ true
    right a b h none = grind arith

module _ (l : Limits) (c : ℕ) where
  abbrev runs_then : Bool → List Entry → List (List ℕ) → List (List (List ℕ))
  runs_then b past words = cond b (runs_of c past ++ words ∷ []) (runs_of c past)

  module _ (id moment : ℕ) (words : List (List ℕ)) (past : List Entry)
      (on : runs_on l past id ≡ true) where
    -- a connection that runs on has run no QUIT
    none_yet : (list_any is_quit (runs_of c past) ≡ true → ended_early l c past ≡ true)
        → (id == c) ≡ true → list_any is_quit (runs_of c past) ≡ false
    none_yet ran same =
        false_from_ne_true _ (λ h. both_ways _
        (runs_unquit l c past (subst (λ k. runs_on l past k ≡ true) (eqb-true id c same) on))
        (ran h))

    quits_here : (id == c) ≡ true → is_quit words ≡ true
        → ended_early l c (Run id words moment ∷ past) ≡ true
    quits_here same is =
        or_left _ (was_dropped l c (Run id words moment ∷ past))
        (subst (λ k. has_quit ((state l (Run id words moment ∷ past)).standing k) ≡ true)
        (eqb-true id c same) (ap has_quit (run_stands_quit l past id moment words on is)))

  -- one that ran a QUIT has quit
  ran_quit : (past : List Entry) → IsLegal l past → list_any is_quit (runs_of c past) ≡ true
      → ended_early l c past ≡ true
  ran_quit [] legal h = absurd (let no : ⊥ = cc in no)
  ran_quit (Admit id ∷ past) legal h = early_more l c (Admit id) past (ran_quit past legal.2 h)
  ran_quit (Run id words moment ∷ past) legal h =
      let before = ran_quit past legal.2 in
      elim (cases_Bool (id == c)) [
        | inl same ↦ quits_here id moment words past legal.0 same
            (quit_or (runs_of c past) words
            (sym (ap (λ b. list_any is_quit (runs_then b past words)) same) ∙ h)
            (none_yet id moment words past legal.0 before same))
        | inr other ↦ early_more l c (Run id words moment) past
            (before (sym (ap (λ b. list_any is_quit (runs_then b past words)) other) ∙ h))
      ]
  ran_quit (Tick moment ∷ past) legal h =
      early_more l c (Tick moment) past (ran_quit past legal.3 h)
  ran_quit (Take id max ∷ past) legal h =
      early_more l c (Take id max) past (ran_quit past legal.2 h)
  ran_quit (Close id ∷ past) legal h = early_more l c (Close id) past (ran_quit past legal.1 h)

  pub quit_is_last : (past : List Entry) → IsLegal l past → QuitIsLast (runs_of c past)
  quit_is_last [] legal = tt
  quit_is_last (Admit id ∷ past) legal = quit_is_last past legal.2
  quit_is_last (Run id words moment ∷ past) legal =
      let before = quit_is_last past legal.2 in
      elim (cases_Bool (id == c)) [
        | inl same ↦ subst (λ b. QuitIsLast (runs_then b past words)) (sym same)
            (quit_added (runs_of c past) words
            (none_yet id moment words past legal.0 (ran_quit past legal.2) same))
        | inr other ↦ subst (λ b. QuitIsLast (runs_then b past words)) (sym other) before
      ]
  quit_is_last (Tick moment ∷ past) legal = quit_is_last past legal.3
  quit_is_last (Take id max ∷ past) legal = quit_is_last past legal.2
  quit_is_last (Close id ∷ past) legal = quit_is_last past legal.1

-- ---- what is unsent

took_front : (took k m : ℕ) (q : List ℕ) (b : Bool) → b ≡ true → k ≡ length q
    → cond b (took + min m (k - took)) took - took ≡ length (take m (drop took q))
took_front took k m q b same is = grind (arith, length-take, length-drop)

kept_within : (b : Bool) (took : ℕ) (q : List ℕ) → length (cond b (drop took q) []) ≤ length q
kept_within true took q = let n = length-drop took q in omega (arith, n)
kept_within false took q = omega arith

gone_keeps : (a : Bool) (x : Standing) → a ≡ true → (a && may_take x) ≡ false
    → keeps_bytes x ≡ false
gone_keeps a x there off = grind arith

module _ (l : Limits) (past : List Entry) (id : ℕ) where
  -- where a Take takes something, it takes so much of the stream
  pub took_length : (most : ℕ) → (take most (unsent l id past) ≡ [] → ⊥)
      → taken l id (Take id most ∷ past) - taken l id past
      ≡ length (take most (unsent l id past))
  took_length most some =
      took_front (taken l id past) _ most (stream l id past) (id == id) (eq-eqb id id refl) refl
      ∙ ap (λ q. length (take most q))
      (sym (unsent_kept l past id (some_kept l past id most some)))

  pub unsent_le : length (unsent l id past) ≤ length (stream l id past)
  unfolding unsent
  unsent_le =
      kept_within (keeps_bytes ((state l past).standing id)) (taken l id past) (stream l id past)

  -- of a connection that can take nothing any more, nothing is
  pub unsent_none : is_admitted past id ≡ true → gives_on l past id ≡ false
      → unsent l id past ≡ []
  unsent_none there off =
      unsent_gone l past id
      (gone_keeps (is_admitted past id) ((state l past).standing id) there off)
