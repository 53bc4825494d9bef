-- What an entry leaves of each part of the state: whom a Run or a Tick ends, and how they stand
-- then.
use Rattle.std.proofs.Common.{◌≡◌, ◌<◌, ◌≤◌, ◌-◌, ℕ, List, [], ◌∷◌, Bool, true, false, cond, refl}
use Rattle.std.proofs.Common.{sym, ap, ◌∙◌, arith, length, drop}
use Rattle.std.specs.Prelude.{◌==◌, ◌&&◌, ◌||◌, not, filter}
use Rattle.std.proofs.lemmas.Bool.{and_parts, eq-eqb, eqb-true}
use Rattle.std.proofs.lemmas.Bool.Decides.{nat_tests}
use Rattle.track_table.specs.declared.table.Held.{Held}
use Rattle.track_table.specs.Table.{kept, without_connection}
use Rattle.serial_model.specs.declared.history.Limits.{Limits}
use Rattle.serial_model.specs.declared.history.Entry.{Entry}
use Rattle.serial_model.specs.declared.history.Entry.TheVariants.{Run, Tick}
use Rattle.serial_model.specs.declared.standing.Standing.{Standing}
use Rattle.serial_model.specs.declared.standing.Standing.TheVariants.{Quit, Gone}
use Rattle.serial_model.specs.Modes.{is_stopping}
use Rattle.serial_model.specs.State.{State, is_live, is_on, for_each}
use Rattle.serial_model.specs.Tracking.{has_id}
use Rattle.serial_model.specs.Actions.{Action, ends, is_overgrown, quits}
use Rattle.serial_model.specs.EntryEffects.{action_drops, drops_at, drops_one}
use Rattle.serial_model.specs.History.{state, run_action, tick_action, table, table_grown}
use Rattle.serial_model.specs.History.{table_then, is_quit, runs_on}
use Rattle.serial_model.specs.History.{has_ended, keyspace, ran}
use Rattle.serial_model.proofs.Counts.{on_is}
use Rattle.serial_model.proofs.Ends.{ends_are}
use Rattle.serial_model.proofs.ServedRows.{quit_in}
use Rattle.serial_model.proofs.TableSize.{table_within, without_keys_within}

-- ---- one that is on

pub on_parts : (s : State) (c : ℕ) → is_on s c ≡ true
    → (0 < c) × (c ≤ s.admitted) × (is_live (s.standing c) ≡ true)
on_parts s c h = (grind (arith, nat_tests), grind (arith, nat_tests), grind arith)

-- ---- whom an action ends, and whom of these it drops

has_filtered : (p : ℕ → Bool) (c : ℕ) (ids : List ℕ)
    → has_id c (filter p ids) ≡ (has_id c ids && p c)
has_filtered p c [] = refl
has_filtered p c (id ∷ ids) = grind (arith, nat_tests, has_filtered p c ids)

filter_alike : (p q : ℕ → Bool) (ids : List ℕ) → ((c : ℕ) → p c ≡ q c)
    → filter p ids ≡ filter q ids
filter_alike p q [] same = refl
filter_alike p q (id ∷ ids) same = grind (arith, filter_alike p q ids)

abbrev pub run_ends : Limits → ℕ → List (List ℕ) → ℕ → State → List ℕ
run_ends l id words moment s = ends l (run_action id words moment s) s

abbrev pub tick_ends : Limits → ℕ → State → List ℕ
tick_ends l moment s = ends l (tick_action moment s) s

-- a Run's own connection quits by it where its words are QUIT
pub run_quits : (id moment : ℕ) (words : List (List ℕ)) (s : State) (c : ℕ)
    → quits (run_action id words moment s) c ≡ ((id == c) && is_quit words)
run_quits id moment words s c = ap (λ b. (id == c) && b) (quit_in (s.modes id) words)

pub tick_quits : (moment : ℕ) (s : State) (c : ℕ) → quits (tick_action moment s) c ≡ false
tick_quits moment s c = grind arith

-- those whom a Run drops are those whom it ends but for the one that quits
pub drops_are : (l : Limits) (id : ℕ) (words : List (List ℕ)) (moment : ℕ) (s : State)
    → drops_at l (Run id words moment) s
    ≡ filter (λ c. not ((id == c) && is_quit words)) (run_ends l id words moment s)
drops_are l id words moment s =
    filter_alike (λ c. not (quits (run_action id words moment s) c)) _
    (run_ends l id words moment s) (λ c. ap not (run_quits id moment words s c))

module _ (l : Limits) (t : Action) (s : State) (c : ℕ) where
  action_dropped : has_id c (action_drops l t s) ≡ (has_id c (ends l t s) && not (quits t c))
  action_dropped = has_filtered (λ c. not (quits t c)) c (ends l t s)

  pub ends_on : has_id c (ends l t s) ≡ true → is_on s c ≡ true
  ends_on h = (and_parts (is_on s c) _ (sym (ends_are l t s c) ∙ h)).0

  -- one that is on ends where it quits
  quits_end : is_on s c ≡ true → quits t c ≡ true → has_id c (ends l t s) ≡ true
  quits_end on q = ends_are l t s c
      ∙ asked (is_on s c) (quits t c) (is_stopping t.effect.ending) (is_overgrown l t s c) on q
    where
      asked : (on q stop over : Bool) → on ≡ true → q ≡ true → (on && (q || stop || over)) ≡ true
      asked on q stop over e f = grind arith

-- what follows for a standing, where an action ends (h), by a quit (q) or a drop (d)
module _ (h q d : Bool) (x : Standing) (is : d ≡ (h && not q)) where
  stays_so : q ≡ false → d ≡ false → cond h (cond q Quit Gone) x ≡ x
  stays_so e f = grind arith

  is_dropped : d ≡ true → cond h (cond q Quit Gone) x ≡ Gone
  is_dropped e = grind arith

  has_quit : h ≡ true → q ≡ true → cond h (cond q Quit Gone) x ≡ Quit
  has_quit e f = grind arith

  ended_so : (q ≡ true → h ≡ true)
      → not (is_live (cond h (cond q Quit Gone) x)) ≡ (not (is_live x) || (q || d))
  ended_so f = grind arith

  no_quit : d ≡ true → q ≡ false
  no_quit e = grind arith

-- ---- standings

module _ (l : Limits) (past : List Entry) where
  abbrev s : State
  s = state l past

  pub run_dropped : (c id moment : ℕ) (words : List (List ℕ))
      → drops_one l (Run id words moment) past c
      ≡ (has_id c (run_ends l id words moment s) && not ((id == c) && is_quit words))
  run_dropped c id moment words =
      action_dropped l (run_action id words moment s) s c
      ∙ ap (λ q. has_id c (run_ends l id words moment s) && not q)
      (run_quits id moment words s c)

  pub tick_dropped : (c moment : ℕ)
      → drops_one l (Tick moment) past c ≡ has_id c (tick_ends l moment s)
  tick_dropped c moment =
      action_dropped l (tick_action moment s) s c
      ∙ all_of (has_id c (tick_ends l moment s)) (0 == c)
    where
      all_of : (h b : Bool) → (h && not (b && false)) ≡ h
      all_of h b = grind arith

  -- a connection that is dropped was on, and does not quit by that entry
  pub drop_live : (e : Entry) (c : ℕ) → drops_one l e past c ≡ true → is_on s c ≡ true
  drop_live (Run id words moment) c h =
      ends_on l (run_action id words moment s) s c
      (and_parts _ _ (sym (run_dropped c id moment words) ∙ h)).0
  drop_live (Tick moment) c h =
      ends_on l (tick_action moment s) s c (sym (tick_dropped c moment) ∙ h)
  drop_live e c h = absurd (let no : ⊥ = cc in no)

  pub drop_no_quit : (c id moment : ℕ) (words : List (List ℕ))
      → drops_one l (Run id words moment) past c ≡ true → ((id == c) && is_quit words) ≡ false
  drop_no_quit c id moment words h =
      no_quit (has_id c (run_ends l id words moment s)) _ _ Gone (run_dropped c id moment words) h

  pub run_after : (c id moment : ℕ) (words : List (List ℕ))
      → (state l (Run id words moment ∷ past)).standing c
      ≡ cond (has_id c (run_ends l id words moment s))
      (cond ((id == c) && is_quit words) Quit Gone) (s.standing c)
  unfolding state
  run_after c id moment words =
      ap (λ q. cond (has_id c (run_ends l id words moment s)) (cond q Quit Gone) (s.standing c))
      (run_quits id moment words s c)

  pub tick_after : (c moment : ℕ)
      → (state l (Tick moment ∷ past)).standing c
      ≡ cond (drops_one l (Tick moment) past c) Gone (s.standing c)
  unfolding state
  tick_after c moment =
      ap (λ q. cond (has_id c (tick_ends l moment s)) (cond q Quit Gone) (s.standing c))
      (tick_quits moment s c)
      ∙ ap (λ h. cond h Gone (s.standing c)) (sym (tick_dropped c moment))

  -- one that an entry neither drops nor lets quit stands as before
  pub run_stands : (c id moment : ℕ) (words : List (List ℕ)) → ((id == c) && is_quit words) ≡ false
      → drops_one l (Run id words moment) past c ≡ false
      → (state l (Run id words moment ∷ past)).standing c ≡ s.standing c
  run_stands c id moment words stays none =
      run_after c id moment words
      ∙ stays_so (has_id c (run_ends l id words moment s)) _ _ (s.standing c)
      (run_dropped c id moment words) stays none

  pub tick_stands : (c moment : ℕ) → drops_one l (Tick moment) past c ≡ false
      → (state l (Tick moment ∷ past)).standing c ≡ s.standing c
  tick_stands c moment none =
      tick_after c moment ∙ ap (λ b. cond b Gone (s.standing c)) none

  pub run_stands_quit : (id moment : ℕ) (words : List (List ℕ)) → runs_on l past id ≡ true
      → is_quit words ≡ true → (state l (Run id words moment ∷ past)).standing id ≡ Quit
  run_stands_quit id moment words on q =
      let t = run_action id words moment s in
      let own = ap (λ b. b && is_quit words) (eq-eqb id id refl) ∙ q in
      run_after id id moment words
      ∙ has_quit (has_id id (run_ends l id words moment s)) _ _ (s.standing id)
      (run_dropped id id moment words)
      (quits_end l t s id (on_is l past id ∙ on) (run_quits id moment words s id ∙ own)) own

  pub dropped_stands : (e : Entry) (c : ℕ) → drops_one l e past c ≡ true
      → (state l (e ∷ past)).standing c ≡ Gone
  dropped_stands (Run id words moment) c h =
      run_after c id moment words
      ∙ is_dropped (has_id c (run_ends l id words moment s)) _ _ (s.standing c)
      (run_dropped c id moment words) h
  dropped_stands (Tick moment) c h =
      tick_after c moment ∙ ap (λ b. cond b Gone (s.standing c)) h
  dropped_stands e c h = absurd (let no : ⊥ = cc in no)

  -- a Run ends its own connection where it quits, and those whom it drops
  pub ended_by_run : (c id moment : ℕ) (words : List (List ℕ))
      → (((id == c) && is_quit words) ≡ true → runs_on l past c ≡ true)
      → has_ended l c (Run id words moment ∷ past)
      ≡ (has_ended l c past
      || (((id == c) && is_quit words) || drops_one l (Run id words moment) past c))
  ended_by_run c id moment words on =
      ap (λ x. not (is_live x)) (run_after c id moment words)
      ∙ ended_so (has_id c (run_ends l id words moment s)) _ _ (s.standing c)
      (run_dropped c id moment words)
      (λ q. quits_end l (run_action id words moment s) s c (on_is l past c ∙ on q)
      (run_quits id moment words s c ∙ q))

  pub run_ended : (c id moment : ℕ) (words : List (List ℕ)) → runs_on l past id ≡ true
      → has_ended l c (Run id words moment ∷ past)
      ≡ (has_ended l c past
      || (((id == c) && is_quit words) || drops_one l (Run id words moment) past c))
  run_ended c id moment words on =
      ended_by_run c id moment words
      (λ q. ap (runs_on l past) (sym (eqb-true id c (and_parts (id == c) _ q).0)) ∙ on)

  pub tick_ended : (c moment : ℕ)
      → has_ended l c (Tick moment ∷ past)
      ≡ (has_ended l c past || drops_one l (Tick moment) past c)
  tick_ended c moment =
      ap (λ x. not (is_live x)) (tick_after c moment)
      ∙ over (drops_one l (Tick moment) past c) (s.standing c)
    where
      over : (d : Bool) (x : Standing)
          → not (is_live (cond d Gone x)) ≡ (not (is_live x) || d)
      over d x = grind arith

  -- ---- the keys

  pub run_space : (id moment : ℕ) (words : List (List ℕ))
      → keyspace l (Run id words moment ∷ past) ≡ (ran l past id words moment).space
  unfolding state
  run_space id moment words = refl

  -- ---- the table

  -- those that end leave it
  pub run_table : (id moment : ℕ) (words : List (List ℕ))
      → table l (Run id words moment ∷ past)
      ≡ for_each without_connection (run_ends l id words moment s)
      (kept l.table_max (table_grown l past id words moment))
  unfolding state
  run_table id moment words = refl

  all_kept : (limit : ℕ) (rows : List Held) → length rows ≤ limit → kept limit rows ≡ rows
  all_kept limit rows le =
      ap (λ n. drop n rows) (let e : length rows - limit ≡ 0 = omega (arith, le) in e)

  pub tick_table : (moment : ℕ)
      → table l (Tick moment ∷ past)
      ≡ for_each without_connection (tick_ends l moment s) (table_then l past moment)
  unfolding state
  tick_table moment =
      ap (for_each without_connection (tick_ends l moment s))
      (all_kept l.table_max (table_then l past moment)
      (grind (arith, without_keys_within, table_within)))
