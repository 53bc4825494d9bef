-- What one turn, and then any list of turns, does to what was given and to what ran.
use Rattle.std.proofs.Common.{◌≡◌, ◌+◌, ◌-◌, ℕ, List, [], ◌∷◌, ◌++◌, length, take, drop, min, max}
use Rattle.std.proofs.Common.{sym, ap, subst, ◌∙◌, refl, arith, true, false, cond, append-nil}
use Rattle.std.proofs.Common.{append_assoc}
use Rattle.std.specs.Prelude.{◌==◌, ◌↔◌, ◌<◌}
use Rattle.std.proofs.lemmas.List.{take-append-le, length-drop, take_all}
use Rattle.std.proofs.Math.Seq.{take-add}
use Rattle.std.proofs.lemmas.Bool.{cases_lt, eqb-true}
use Rattle.serial_model.specs.declared.history.Limits.{Limits}
use Rattle.serial_model.specs.declared.history.Entry.{Entry}
use Rattle.serial_model.specs.declared.history.Entry.TheVariants as entry
use Rattle.serial_model.specs.declared.history.BookCall.{BookCall}
use Rattle.serial_model.specs.declared.history.BookCall.TheVariants.{Admit, Run, Tick, Take, Close}
use Rattle.serial_model.specs.declared.history.BookReply.{BookReply}
use Rattle.serial_model.specs.declared.history.BookReply.TheVariants.{Ticked, Bytes, Refused}
use Rattle.serial_model.specs.declared.history.BookRefusal.TheVariants.{NoMemory}
use Rattle.serial_model.specs.History.{admitted, runs_on, reads_on, gives_on, latest}
use Rattle.serial_model.specs.History.{stream, taken, unsent, runs_of, IsLegal, expired, is_stopped}
use Rattle.serial_model.specs.Steps.{Turn, gone, stopped, admitting, running, closing, book_step}
use Rattle.serial_model.specs.Steps.{BookStep, Turns, given_by, given, ran_by, answered}
use Rattle.serial_model.specs.Laws.{IsAdded}
use Rattle.serial_model.proofs.Streams.{some_kept, stream_more, stream_take, taken_le, unsent_kept}
use Rattle.serial_model.proofs.StepCases.{by_admit, by_run, by_tick, by_take, by_close}

module _ (l : Limits) where
  -- what holds of the step, and of a turn that memory refused, holds of the turn
  pub by_step : (P : BookReply → List Entry → Type 0) (past new : List Entry) (call : BookCall)
      (reply : BookReply)
      → P (book_step l past call).reply (book_step l past call).past → P (Refused NoMemory) past
      → BookStep l past call reply new → P reply new
  by_step P past new call reply does none h = grind arith

  -- ---- what was given

  -- the first bytes of the stream, those that were taken
  first : ℕ → List Entry → List ℕ
  first c past = take (taken l c past) (stream l c past)

  Gives : ℕ → List Entry → BookCall → Turn → Type 0
  Gives c past call turn = first c past ++ given_by c call turn.reply ≡ first c turn.past

  -- an entry that takes nothing leaves the first bytes
  first_same : (c : ℕ) (past : List Entry) (e : Entry) → taken l c (e ∷ past) ≡ taken l c past
      → first c past ++ [] ≡ first c (e ∷ past)
  unfolding first
  first_same c past e took = grind (arith, append-nil, first, stream_more, take-append-le, taken_le)

  take_min : (m : ℕ) (q : List ℕ) → take (min m (length q)) q ≡ take m q
  take_min m q = grind (arith, cases_lt, take_all)

  first_take : (c id most : ℕ) (past : List Entry) (bytes : List ℕ)
      → (take most (unsent l id past) ≡ [] → ⊥) → take most (unsent l id past) ≡ bytes
      → first c past ++ (cond (id == c) bytes []) ≡ first c (entry.Take id most ∷ past)
  unfolding first
  first_take c id most past bytes some h =
      let n = min most (length (stream l c past) - taken l c past) in
      elim (id == c) as (λ b. (id == c) ≡ b
      → first c past ++ (cond b bytes [])
      ≡ take (cond b (taken l c past + n) (taken l c past)) (stream l c past)) [
        | true ↦ λ e. sym (take-add (taken l c past) n (stream l c past)
            ∙ ap (λ x. first c past ++ x)
            (ap (λ k. take (min most k) (drop (taken l c past) (stream l c past)))
            (sym (length-drop (taken l c past) (stream l c past)))
            ∙ take_min most (drop (taken l c past) (stream l c past))
            ∙ ap (λ i. take most (drop (taken l i past) (stream l i past))) (sym (eqb-true id c e))
            ∙ ap (take most) (sym (unsent_kept l past id (some_kept l past id most some))) ∙ h))
        | false ↦ λ e. append-nil (first c past)
      ] refl
      ∙ ap (take (taken l c (entry.Take id most ∷ past))) (sym (stream_take l past c id most))

  step_gives : (c : ℕ) (past : List Entry) (call : BookCall)
      → Gives c past call (book_step l past call)
  unfolding Gives
  step_gives c past Admit =
      by_admit l past (Gives c past Admit) (append-nil (first c past))
      (λ on. first_same c past (entry.Admit (admitted past + 1)) refl)
  step_gives c past (Run id words now) =
      by_run l past (Gives c past (Run id words now)) id words now (append-nil (first c past))
      (λ on. first_same c past (entry.Run id words (max now (latest past))) refl)
  step_gives c past (Tick now) =
      by_tick l past (Gives c past (Tick now)) now (append-nil (first c past))
      (append-nil (first c past))
      (λ on some. first_same c past (entry.Tick (max now (latest past))) refl)
  step_gives c past (Take id most) =
      by_take l past (Gives c past (Take id most)) id most (append-nil (first c past))
      (append-nil (first c past))
      (λ on some. first_take c id most past (take most (unsent l id past)) some refl)
  step_gives c past (Close id) =
      by_close l past (Gives c past (Close id)) id (append-nil (first c past))
      (λ on. first_same c past (entry.Close id) refl)

  -- a turn's reply gives what it takes of the stream
  pub step_gave : (c : ℕ) (past : List Entry) (call : BookCall)
      → take (taken l c past) (stream l c past) ++ given_by c call (book_step l past call).reply
      ≡ take (taken l c (book_step l past call).past) (stream l c (book_step l past call).past)
  unfolding first Gives
  step_gave c past call = step_gives c past call

  -- where memory ran out nothing was given, and nothing ran
  none_given : (c : ℕ) (past : List Entry) (call : BookCall)
      → first c past ++ given_by c call (Refused NoMemory) ≡ first c past
  none_given c past call = grind (arith, append-nil)

  turns_give : (c : ℕ) (calls : List BookCall) (replies : List BookReply) (old new : List Entry)
      → Turns l old calls replies new
      → first c old ++ given c calls replies ≡ first c new
  unfolding first
  turns_give c [] [] old new h = append-nil _ ∙ sym (ap (first c) h)
  turns_give c [] (reply ∷ replies) old new h = absurd h
  turns_give c (call ∷ calls) [] old new h = absurd h
  turns_give c (call ∷ calls) (reply ∷ replies) old new h =
      sym (append_assoc (first c old) (given_by c call reply) (given c calls replies))
      ∙ ap (λ x. x ++ given c calls replies) (by_step (λ r p. first c old ++ given_by c call r
      ≡ first c p) old h.0 call reply (step_gave c old call) (none_given c old call) h.1)
      ∙ turns_give c calls replies h.0 new h.2

  pub given_is_stream : (c : ℕ) (calls : List BookCall) (replies : List BookReply)
      (past : List Entry) → Turns l [] calls replies past
      → given c calls replies ≡ take (taken l c past) (stream l c past)
  unfolding first stream
  given_is_stream c calls replies past h = turns_give c calls replies [] past h

  -- ---- what ran

  Runs : ℕ → List Entry → BookCall → Turn → Type 0
  Runs c past call turn = runs_of c past ++ ran_by c call turn.reply ≡ runs_of c turn.past

  runs_step : (c : ℕ) (past : List Entry) (call : BookCall)
      → Runs c past call (book_step l past call)
  unfolding Runs
  runs_step c past Admit =
      by_admit l past (Runs c past Admit) (append-nil _) (λ on. append-nil _)
  runs_step c past (Run id words now) =
      by_run l past (Runs c past (Run id words now)) id words now (append-nil _)
      (grind (arith, append-nil))
  runs_step c past (Tick now) =
      by_tick l past (Runs c past (Tick now)) now (append-nil _) (append-nil _)
      (λ on some. append-nil _)
  runs_step c past (Take id most) =
      by_take l past (Runs c past (Take id most)) id most (append-nil _) (append-nil _)
      (λ on some. append-nil _)
  runs_step c past (Close id) =
      by_close l past (Runs c past (Close id)) id (append-nil _) (λ on. append-nil _)

  pub step_runs : (c : ℕ) (past : List Entry) (call : BookCall)
      → runs_of c past ++ ran_by c call (book_step l past call).reply
      ≡ runs_of c (book_step l past call).past
  unfolding Runs
  step_runs c past call = runs_step c past call

  turns_run : (c : ℕ) (calls : List BookCall) (replies : List BookReply) (old new : List Entry)
      → Turns l old calls replies new
      → runs_of c old ++ answered c calls replies ≡ runs_of c new
  turns_run c [] [] old new h = append-nil _ ∙ sym (ap (runs_of c) h)
  turns_run c [] (reply ∷ replies) old new h = absurd h
  turns_run c (call ∷ calls) [] old new h = absurd h
  turns_run c (call ∷ calls) (reply ∷ replies) old new h =
      sym (append_assoc (runs_of c old) (ran_by c call reply) (answered c calls replies))
      ∙ ap (λ x. x ++ answered c calls replies)
      (by_step (λ r p. runs_of c old ++ ran_by c call r
      ≡ runs_of c p) old h.0 call reply (step_runs c old call) (grind (arith, append-nil)) h.1)
      ∙ turns_run c calls replies h.0 new h.2

  pub each_run_once : (c : ℕ) (calls : List BookCall) (replies : List BookReply) (past : List Entry)
      → Turns l [] calls replies past
      → runs_of c past ≡ answered c calls replies
  each_run_once c calls replies past h = sym (turns_run c calls replies [] past h)

  -- ---- legal histories

  -- a turn on a legal history leaves a legal one
  pub step_legal : (past : List Entry) (call : BookCall) → IsLegal l past
      → IsLegal l (book_step l past call).past
  step_legal past Admit h =
      by_admit l past (λ t. IsLegal l t.past) h (λ on. (on, refl, h))
  step_legal past (Run id words now) h =
      by_run l past (λ t. IsLegal l t.past) id words now h
      (λ on. (on, omega arith, h))
  step_legal past (Tick now) h =
      by_tick l past (λ t. IsLegal l t.past) now h h
      (λ on some. (on, some, omega arith, h))
  step_legal past (Take id most) h =
      by_take l past (λ t. IsLegal l t.past) id most h h (λ on some. (on, some, h))
  step_legal past (Close id) h =
      by_close l past (λ t. IsLegal l t.past) id h (λ on. (on, h))

  -- ---- the step, where its questions are answered

  pub admit_step : (past : List Entry) → is_stopped l past ≡ false
      → book_step l past Admit ≡ admitting past
  unfolding book_step
  admit_step past on = ap (λ b. cond b (stopped past) (admitting past)) on

  pub run_step : (past : List Entry) (id now : ℕ) (words : List (List ℕ)) → runs_on l past id ≡ true
      → book_step l past (Run id words now) ≡ running past id words now
  unfolding book_step
  run_step past id now words on = grind arith

  pub tick_step : (past : List Entry) (now : ℕ) (key : List ℕ) (keys : List (List ℕ))
      → is_stopped l past ≡ false → expired l past (max now (latest past)) ≡ key ∷ keys
      → book_step l past (Tick now)
      ≡ record {
        reply = Ticked (length past + 1);
        past = entry.Tick (max now (latest past)) ∷ past;
      }
  unfolding book_step
  tick_step past now key keys on e = grind arith

  pub take_step : (past : List Entry) (id most b : ℕ) (bytes : List ℕ) → gives_on l past id ≡ true
      → take most (unsent l id past) ≡ b ∷ bytes
      → book_step l past (Take id most)
      ≡ record { reply = Bytes (length past + 1) (b ∷ bytes); past = entry.Take id most ∷ past }
  unfolding book_step
  take_step past id most b bytes on e = grind arith

  pub close_step : (past : List Entry) (id : ℕ) → reads_on l past id ≡ true
      → book_step l past (Close id) ≡ closing past id
  unfolding book_step
  close_step past id on = ap (λ v. cond v (closing past id) (gone past id)) on

  -- ---- a legal history is what steps add

  takes_some : (most : ℕ) (bytes : List ℕ) → (take most bytes ≡ [] → ⊥) → 0 < most
  takes_some most bytes full = grind arith

  take_added : (past : List Entry) (id most : ℕ) (bytes : List ℕ)
      → take most (unsent l id past) ≡ bytes → (bytes ≡ [] → ⊥)
      → gives_on l past id ≡ true
      → (book_step l past (Take id most)).past ≡ entry.Take id most ∷ past
  take_added past id most bytes e some on = grind (arith, take_step)

  tick_added : (past : List Entry) (now : ℕ) (keys : List (List ℕ)) → is_stopped l past ≡ false
      → expired l past (max now (latest past)) ≡ keys → (keys ≡ [] → ⊥)
      → (book_step l past (Tick now)).past ≡ entry.Tick (max now (latest past)) ∷ past
  tick_added past now [] on e some = absurd (some refl)
  tick_added past now (key ∷ keys) on e some = grind (arith, tick_step)

  added : (past : List Entry) → IsLegal l past → IsAdded l past
  added [] h = tt
  added (entry.Admit id ∷ past) h = (
    h.2,
    Admit,
    tt,
    ap (λ (t : Turn). t.past) (admit_step past h.0)
        ∙ ap (λ i. entry.Admit i ∷ past) (sym h.1),
  )
  added (entry.Run id words moment ∷ past) h = (
    h.2,
    Run id words moment,
    tt,
    ap (λ (t : Turn). t.past) (run_step past id moment words h.0)
        ∙ ap (λ m. entry.Run id words m ∷ past) (let e : max moment (latest past)
        ≡ moment = omega arith in e),
  )
  added (entry.Tick moment ∷ past) h =
      let e : max moment (latest past) ≡ moment = let le = h.2 in omega (arith, le) in (
        h.3,
        Tick moment,
        tt,
        grind (arith, tick_added),
      )
  added (entry.Take id most ∷ past) h = (
    h.2,
    Take id most,
    takes_some most (unsent l id past) h.1,
    take_added past id most (take most (unsent l id past)) refl h.1 h.0,
  )
  added (entry.Close id ∷ past) h = (
    h.1,
    Close id,
    tt,
    ap (λ (t : Turn). t.past) (close_step past id h.0),
  )

  legal : (past : List Entry) → IsAdded l past → IsLegal l past
  legal [] h = tt
  legal (e ∷ past) h = subst (IsLegal l) h.3 (step_legal past h.1 h.0)

  pub legal_is_added : (past : List Entry) → IsLegal l past ↔ IsAdded l past
  legal_is_added past = (added past, legal past)
