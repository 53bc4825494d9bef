-- Whether a connection has ended, and what it may still do, entry by entry.
use Rattle.std.proofs.Common.{◌≡◌, ◌∙◌, ◌+◌, ℕ, List, ◌∷◌, Bool, true, false, cond, refl, ap}
use Rattle.std.proofs.Common.{arith, length}
use Rattle.std.specs.Prelude.{◌==◌, ◌&&◌, ◌||◌, not}
use Rattle.std.proofs.lemmas.Bool.{eqb-true, or_left}
use Rattle.serial_model.specs.declared.history.Limits.{Limits}
use Rattle.serial_model.specs.declared.history.Entry.{Entry}
use Rattle.serial_model.specs.declared.history.Entry.TheVariants.{Admit, Run, Tick, Take, Close}
use Rattle.serial_model.specs.declared.standing.Standing.{Standing}
use Rattle.serial_model.specs.declared.standing.Standing.TheVariants.{Live, Quit, QuitClosed, Gone}
use Rattle.serial_model.specs.State.{State, closed, is_live, keeps_bytes, may_take}
use Rattle.serial_model.specs.EntryEffects.{drops_one}
use Rattle.serial_model.specs.History.{gives_on, has_ended, is_admitted, reads_on, runs_on, state}
use Rattle.serial_model.specs.History.{is_quit}
use Rattle.serial_model.proofs.Ends.{ended_then}
use Rattle.serial_model.proofs.StateSteps.{run_ended, tick_ended}
use Rattle.serial_model.proofs.Streams.{keeps_run, keeps_tick, takes_run, takes_tick}

closed_ended : (x : Standing) → not (is_live (closed x)) ≡ true
closed_ended Live = refl
closed_ended Quit = refl
closed_ended QuitClosed = refl
closed_ended Gone = refl

closed_keeps : (x : Standing) → keeps_bytes (closed x) ≡ false
closed_keeps x = grind arith

closed_takes : (x : Standing) → may_take (closed x) ≡ (may_take x && not (is_live x))
closed_takes x = grind arith

and_false : (b : Bool) → (b && false) ≡ false
and_false b = grind arith

runs_over : (a : Bool) (x : Standing) (q : Bool)
    → (a && not (not (is_live x) || q)) ≡ ((a && not (not (is_live x))) && not q)
runs_over a x q = grind arith

close_more : (b ended : Bool) → ended ≡ true → cond b true ended ≡ true
close_more true ended h = refl
close_more false ended h = h

took_off : (a m e : Bool) → (a && (m && e)) ≡ ((a && m) && e)
took_off a m e = grind arith

is_quitted : (a : Bool) (x : Standing) → (a && keeps_bytes x) ≡ true → not (is_live x) ≡ true
    → x ≡ Quit
is_quitted a x h e = grind arith

is_over : (a : Bool) (x : Standing) → a ≡ true → (a && keeps_bytes x) ≡ false
    → not (is_live x) ≡ true
is_over a x h e = grind arith

is_done : (a : Bool) (x : Standing) → a ≡ true → (a && may_take x) ≡ false
    → not (is_live x) ≡ true
is_done a x h e = grind arith

module _ (l : Limits) (past : List Entry) (c : ℕ) where
  abbrev now : State
  now = state l past

  -- a Close ends its connection
  pub ended_close : (id : ℕ)
      → has_ended l c (Close id ∷ past) ≡ cond (id == c) true (has_ended l c past)
  unfolding state
  ended_close id =
      elim (id == c) as (λ b.
      not (is_live (cond b (closed (now.standing id)) (now.standing c)))
      ≡ cond b true (not (is_live (now.standing c)))) [
        | true ↦ closed_ended (now.standing id)
        | false ↦ refl
      ]

  abbrev pub EndsNobody : Entry → Type 0
  EndsNobody e = has_ended l c (e ∷ past) ≡ has_ended l c past

  pub ended_admit : (id : ℕ) → EndsNobody (Admit id)
  unfolding state
  ended_admit id = refl

  pub ended_take : (id max : ℕ) → EndsNobody (Take id max)
  unfolding state
  ended_take id max = refl

  -- where an entry neither admits nor ends a connection, it may do what it might
  module _ (e : Entry) (there : is_admitted (e ∷ past) c ≡ is_admitted past c) where
    pub reads_same : keeps_bytes ((state l (e ∷ past)).standing c) ≡ keeps_bytes (now.standing c)
        → reads_on l (e ∷ past) c ≡ reads_on l past c
    reads_same same =
        ap (λ b. b && keeps_bytes ((state l (e ∷ past)).standing c)) there
        ∙ ap (λ b. is_admitted past c && b) same

    pub gives_same : may_take ((state l (e ∷ past)).standing c) ≡ may_take (now.standing c)
        → gives_on l (e ∷ past) c ≡ gives_on l past c
    gives_same same =
        ap (λ b. b && may_take ((state l (e ∷ past)).standing c)) there
        ∙ ap (λ b. is_admitted past c && b) same

  -- ---- what a connection may do, entry by entry

  pub runs_run : (id moment : ℕ) (words : List (List ℕ)) → runs_on l past id ≡ true
      → runs_on l (Run id words moment ∷ past) c
      ≡ (runs_on l past c
      && not (((id == c) && is_quit words) || drops_one l (Run id words moment) past c))
  runs_run id moment words on =
      ap (λ b. is_admitted past c && not b) (run_ended l past c id moment words on)
      ∙ runs_over (is_admitted past c) (now.standing c) _

  -- also one that quits can be closed and may take, but none that is dropped
  pub reads_run : (id moment : ℕ) (words : List (List ℕ))
      → reads_on l (Run id words moment ∷ past) c
      ≡ (reads_on l past c && not (drops_one l (Run id words moment) past c))
  reads_run id moment words =
      ap (λ b. is_admitted past c && b) (keeps_run l past c id moment words)
      ∙ took_off (is_admitted past c) (keeps_bytes (now.standing c)) _

  pub gives_run : (id moment : ℕ) (words : List (List ℕ))
      → gives_on l (Run id words moment ∷ past) c
      ≡ (gives_on l past c && not (drops_one l (Run id words moment) past c))
  gives_run id moment words =
      ap (λ b. is_admitted past c && b) (takes_run l past c id moment words)
      ∙ took_off (is_admitted past c) (may_take (now.standing c)) _

  pub runs_tick : (moment : ℕ)
      → runs_on l (Tick moment ∷ past) c
      ≡ (runs_on l past c && not (drops_one l (Tick moment) past c))
  runs_tick moment =
      ap (λ b. is_admitted past c && not b) (tick_ended l past c moment)
      ∙ runs_over (is_admitted past c) (now.standing c) _

  pub reads_tick : (moment : ℕ)
      → reads_on l (Tick moment ∷ past) c
      ≡ (reads_on l past c && not (drops_one l (Tick moment) past c))
  reads_tick moment =
      ap (λ b. is_admitted past c && b) (keeps_tick l past c moment)
      ∙ took_off (is_admitted past c) (keeps_bytes (now.standing c)) _

  pub gives_tick : (moment : ℕ)
      → gives_on l (Tick moment ∷ past) c
      ≡ (gives_on l past c && not (drops_one l (Tick moment) past c))
  gives_tick moment =
      ap (λ b. is_admitted past c && b) (takes_tick l past c moment)
      ∙ took_off (is_admitted past c) (may_take (now.standing c)) _

  pub runs_take : (id max : ℕ) → runs_on l (Take id max ∷ past) c ≡ runs_on l past c
  unfolding state
  runs_take id max = refl

  pub reads_take : (id max : ℕ) → reads_on l (Take id max ∷ past) c ≡ reads_on l past c
  unfolding state
  reads_take id max = refl

  pub gives_take : (id max : ℕ) → gives_on l (Take id max ∷ past) c ≡ gives_on l past c
  unfolding state
  gives_take id max = refl

  -- a Close is the last of its connection, but for Takes of nothing after a QUIT
  pub reads_close : (id : ℕ) → (id == c) ≡ true → reads_on l (Close id ∷ past) c ≡ false
  unfolding state
  reads_close id same =
      ap (λ b. is_admitted past c && keeps_bytes (cond b (closed (now.standing id))
      (now.standing c))) same
      ∙ ap (λ b. is_admitted past c && b) (closed_keeps (now.standing id))
      ∙ and_false (is_admitted past c)

  pub gives_close : (id : ℕ) → (id == c) ≡ true
      → gives_on l (Close id ∷ past) c ≡ (gives_on l past c && has_ended l c past)
  unfolding state
  gives_close id same =
      ap (λ b. is_admitted past c && may_take (cond b (closed (now.standing id))
      (now.standing c))) same
      ∙ ap (λ k. is_admitted past c && may_take (closed (now.standing k))) (eqb-true id c same)
      ∙ ap (λ b. is_admitted past c && b) (closed_takes (now.standing c))
      ∙ took_off (is_admitted past c) (may_take (now.standing c)) _

  -- and it leaves the others
  pub stands_close : (id : ℕ) → (id == c) ≡ false
      → (state l (Close id ∷ past)).standing c ≡ now.standing c
  unfolding state
  stands_close id other =
      ap (λ b. cond b (closed (now.standing id)) (now.standing c)) other

  pub reads_close_other : (id : ℕ) → (id == c) ≡ false
      → reads_on l (Close id ∷ past) c ≡ reads_on l past c
  reads_close_other id other =
      reads_same (Close id) refl (ap keeps_bytes (stands_close id other))

  pub gives_close_other : (id : ℕ) → (id == c) ≡ false
      → gives_on l (Close id ∷ past) c ≡ gives_on l past c
  gives_close_other id other =
      gives_same (Close id) refl (ap may_take (stands_close id other))

  -- ---- one that has ended

  -- it stays so
  pub ended_more : (e : Entry) → has_ended l c past ≡ true → has_ended l c (e ∷ past) ≡ true
  unfolding state
  ended_more e h = ended_then l e now (length past + 1) c ∙ or_left _ _ h

  -- one that can be closed though it has ended has quit
  pub has_quit : reads_on l past c ≡ true → has_ended l c past ≡ true → now.standing c ≡ Quit
  has_quit on ended = is_quitted (is_admitted past c) (now.standing c) on ended

  -- one that was admitted and may not do something has ended
  pub gives_over : is_admitted past c ≡ true → gives_on l past c ≡ false
      → has_ended l c past ≡ true
  gives_over there none = is_done (is_admitted past c) (now.standing c) there none

  pub reads_over : is_admitted past c ≡ true → reads_on l past c ≡ false
      → has_ended l c past ≡ true
  reads_over there none = is_over (is_admitted past c) (now.standing c) there none
