-- What an effect tells is what its entry does, kind by kind.
use Rattle.std.proofs.Common.{◌≡◌, ◌∙◌, ◌+◌, ◌-◌, ◌<◌, ℕ, List, [], ◌∷◌, Bool, true, false, cond}
use Rattle.std.proofs.Common.{refl, sym, ap, arith, length, take, Option, Some, None, Result, Ok}
use Rattle.std.proofs.Common.{Err, inl, inr, eq-eqb, ne_eqb, length-take, subst}
use Rattle.std.proofs.Math.Path.{fun_ext}
use Rattle.std.specs.FinMap.{empty}
use Rattle.std.specs.Prelude.{◌&&◌, nat_le, nat_lt, not}
use Rattle.std.proofs.lemmas.Bool.{and_parts, cases_eq}
use Rattle.command_words.specs.declared.command.Command.{Command}
use Rattle.command_words.specs.declared.command.WordFault.{WordFault}
use Rattle.track_modes.specs.Commands.{allows, fault_at, spent_mode}
use Rattle.track_modes.specs.ModeState.{ModeState, new_mode}
use Rattle.serial_model.specs.declared.effect.Effect.{Effect}
use Rattle.serial_model.specs.declared.history.Entry.{Entry}
use Rattle.serial_model.specs.declared.history.Entry.TheVariants.{Admit, Run, Tick, Take, Close}
use Rattle.serial_model.specs.declared.history.Limits.{Limits}
use Rattle.serial_model.specs.declared.standing.Standing.{Standing}
use Rattle.serial_model.specs.declared.standing.Standing.TheVariants.{Live}
use Rattle.serial_model.specs.Actions.{Action, End, action_leaves, action_sends}
use Rattle.serial_model.specs.EntryEffects.{command_of, effect_at}
use Rattle.serial_model.specs.History.{IsLegal, admitted, ending_in, is_admitted, made_of}
use Rattle.serial_model.specs.History.{run_action, runner_in, runs_on, sends, served_reading, state}
use Rattle.serial_model.specs.History.{tick_action, unsent}
use Rattle.serial_model.specs.History as history
use Rattle.serial_model.specs.Laws.{IsFirst}
use Rattle.serial_model.specs.Modes.{Ending, OwnEffect, Remembers, Runner, Stays, ending_of}
use Rattle.serial_model.specs.Modes.{is_barred, own_effect, refused_effect, target_of}
use Rattle.serial_model.specs.Modes.{unless_refused}
use Rattle.serial_model.specs.State.{State, at, is_live, is_on, keeps_bytes}
use Rattle.serial_model.proofs.Counts.{admitted_is, on_is}
use Rattle.serial_model.proofs.Fresh.{fresh_is_first}
use Rattle.serial_model.proofs.Streams.{waiting_is_unsent}
use Rattle.past_effects.specs.declared.scan.Scan.{Scan}
use Rattle.past_effects.specs.Made.{command_on, ending_by, is_target, own_by, runner_by}
use Rattle.past_effects.specs.Past.{Follows, action_of, next_by, sends_by, with_one}

-- an effect's action, by what its command makes of its connection and whom it ends
abbrev with_own : Effect → OwnEffect → Ending → Action
with_own e own ending =
    record {
      by = e.id;
      moment = 0;
      expired = e.expired;
      effect = record {
        reply = e.reply;
        signalled = e.signalled;
        mode = own.mode;
        memory = own.memory;
        ending = ending;
        space = empty;
      };
    }

-- ---- a Run

target_is : (s : State) (x : Option ℕ) → is_target (is_on s) x ≡ history.is_target s x
target_is s None = refl
target_is s (Some r) = refl

module _ (s : State) (id : ℕ) where
  abbrev m : ModeState
  m = s.modes id

  -- by a reading of the words
  own_read : (read : Result Command WordFault) (by : Runner) → by.mode ≡ m
      → by.target_exists ≡ history.is_target s (target_of read)
      → own_by (command_of m read) (runner_by id m (is_on s) (command_of m read))
      ≡ cond (is_barred m read) (refused_effect by.mode) (own_effect read by)
  own_read (Ok c) by mode target =
      elim (allows m c) as (λ x. allows m c ≡ x
      → own_by (cond x (Some c) None) (runner_by id m (is_on s) (cond x (Some c) None))
      ≡ cond (not x) (refused_effect by.mode) (own_effect (Ok c) by)) [
        | true ↦ λ can.
            ap (λ x. cond x (own_effect (Ok c) (runner_by id m (is_on s) (Some c)))
            (refused_effect m)) can
            ∙ ap (λ x. unless_refused (fault_at c x m) c m)
            (target_is s (target_of (Ok c)) ∙ sym target)
            ∙ ap (λ x. unless_refused (fault_at c by.target_exists x) c x) (sym mode)
        | false ↦ λ no. ap refused_effect (sym mode)
      ] refl
  own_read (Err fault) by mode target = ap refused_effect (sym mode)

  ending_read : (read : Result Command WordFault)
      → ending_by (command_of m read) m ≡ ending_in m read
  ending_read (Ok c) =
      elim (allows m c) as (λ x. allows m c ≡ x
      → ending_by (cond x (Some c) None) m ≡ cond (not x) Stays (ending_of (Ok c))) [
        | true ↦ λ can. ap (λ x. cond x (ending_of (Ok c)) Stays) can
        | false ↦ λ no. refl
      ] refl
  ending_read (Err fault) = refl

  module _ (moment : ℕ) (words : List (List ℕ)) (e : Effect) (own : e.id ≡ id)
      (is : e.command ≡ command_of m (served_reading words)) (on : is_on s id ≡ true) where
    made_is : own_by (command_of m (served_reading words))
        (runner_by id m (is_on s) (command_of m (served_reading words)))
        ≡ made_of words (runner_in s id words moment)
    unfolding made_of
    made_is = own_read (served_reading words) (runner_in s id words moment) refl refl

    pub run_is : action_of e s
        ≡ with_own e (made_of words (runner_in s id words moment))
        (ending_in m (served_reading words))
    run_is =
        ap (λ i. let x = command_on (is_on s i) e.command in
        with_own e (own_by x (runner_by i (s.modes i) (is_on s) x)) (ending_by x (s.modes i))) own
        ∙ ap (λ b. let x = command_on b e.command in
        with_own e (own_by x (runner_by id m (is_on s) x)) (ending_by x m)) on
        ∙ ap (λ x. with_own e (own_by x (runner_by id m (is_on s) x)) (ending_by x m)) is
        ∙ ap (λ o. with_own e o (ending_by (command_of m (served_reading words)) m)) made_is
        ∙ ap (with_own e (made_of words (runner_in s id words moment)))
        (ending_read (served_reading words))

-- ---- a Tick

no_command : (b : Bool) → command_on b None ≡ None
no_command true = refl
no_command false = refl

tick_is : (s : State) (e : Effect) → e.id ≡ 0 → e.command ≡ None → s.modes 0 ≡ new_mode
    → action_of e s ≡ with_own e (record { mode = s.modes 0; memory = Remembers [] }) Stays
tick_is s e own none zero =
    ap (λ x. let c = command_on (is_on s e.id) x in
    with_own e (own_by c (runner_by e.id (s.modes e.id) (is_on s) c))
    (ending_by c (s.modes e.id))) none
    ∙ ap (λ c. with_own e (own_by c (runner_by e.id (s.modes e.id) (is_on s) c))
    (ending_by c (s.modes e.id))) (no_command (is_on s e.id))
    ∙ ap (λ i. with_own e (refused_effect (s.modes i)) Stays) own
    ∙ ap (λ x. with_own e (record { mode = x; memory = Remembers [] }) Stays)
    (ap spent_mode zero ∙ sym zero)

-- ---- an Admit

at_same : {X : Type 0} (id : ℕ) (x : X) (f : ℕ → X) → f id ≡ x → at id x f ≡ f
at_same id x f is = fun_ext (λ c. elim (cases_eq id c) [
  | inl e ↦ ap (λ b. cond b x (f c)) (eq-eqb id c e) ∙ sym is ∙ ap f e
  | inr ne ↦ ap (λ b. cond b x (f c)) (ne_eqb id c ne)
])

one_more : (s : State) → IsFirst s (s.admitted + 1)
    → with_one s ≡ record s { admitted = s.admitted + 1 }
one_more s first =
    let id = s.admitted + 1 in
    ap (λ (f : ℕ → ModeState). record s {
      admitted = id;
      modes = f;
      standing = at id Live s.standing;
      waiting = at id 0 s.waiting;
    }) (at_same id new_mode s.modes first.mode)
    ∙ ap (λ (f : ℕ → Standing). record s {
      admitted = id;
      standing = f;
      waiting = at id 0 s.waiting;
    }) (at_same id Live s.standing first.standing)
    ∙ ap (λ (f : ℕ → ℕ). record s { admitted = id; waiting = f })
    (at_same id 0 s.waiting first.waiting)

-- ---- each kind

module _ (l : Limits) (past : List Entry) (old new : Scan)
    (f : Follows l old (state l past)) where
  abbrev s : State
  s = state l past

  -- what is sent is what the entry sends, and what is left follows the state behind it
  abbrev pub Tells : Entry → Type 0
  Tells entry =
      let e = effect_at l entry past in
      (sends_by l e e.kind s ≡ sends l entry s)
      × (Follows l new (next_by l e e.kind s) → Follows l new (state l (entry ∷ past)))

  -- the action of an effect is the entry's, but for the keys and the moment
  by_action : (e : Effect) (t : Action) (own : OwnEffect) (ending : Ending)
      → action_of e s ≡ with_own e own ending
      → (action_sends l (with_own e own ending) s ≡ action_sends l t s)
      → (Follows l new (action_leaves l (with_own e own ending) s)
      → Follows l new (action_leaves l t s))
      → (action_sends l (action_of e s) s ≡ action_sends l t s)
      × (Follows l new (action_leaves l (action_of e s) s) → Follows l new (action_leaves l t s))
  by_action e t own ending is same leaves = (
    ap (λ a. action_sends l a s) is ∙ same,
    λ left. leaves (subst (λ a. Follows l new (action_leaves l a s)) is left),
  )

  run_tells : (id moment : ℕ) (words : List (List ℕ)) → runs_on l past id ≡ true
      → Tells (Run id words moment)
  unfolding state
  run_tells id moment words runs =
      let e = effect_at l (Run id words moment) past in
      let own = made_of words (runner_in s id words moment) in
      let ending = ending_in (s.modes id) (served_reading words) in
      by_action e (run_action id words moment s) own ending
      (run_is s id moment words e refl refl (on_is l past id ∙ runs)) refl
      (λ (k : Follows l new (action_leaves l (with_own e own ending) s)). record {
        most = k.most;
        limit = k.limit;
        count = k.count;
        modes = k.modes;
        on = k.on;
        waiting = k.waiting;
        rows = k.rows;
        prefixes = k.prefixes;
      })

  tick_tells : (moment : ℕ) → Tells (Tick moment)
  unfolding state
  tick_tells moment =
      let e = effect_at l (Tick moment) past in
      let own : OwnEffect = record { mode = s.modes 0; memory = Remembers [] } in
      by_action e (tick_action moment s) own Stays (tick_is s e refl refl (sym (f.modes 0))) refl
      (λ (k : Follows l new (action_leaves l (with_own e own Stays) s)). record {
        most = k.most;
        limit = k.limit;
        count = k.count;
        modes = k.modes;
        on = k.on;
        waiting = k.waiting;
        rows = k.rows;
        prefixes = k.prefixes;
      })

  admit_tells : (id : ℕ) → IsLegal l past → Tells (Admit id)
  unfolding state
  admit_tells id legal =
      let lt : admitted past < s.admitted + 1 = omega (arith, admitted_is l past) in
      (refl, subst (Follows l new) (one_more s (fresh_is_first l (s.admitted + 1) past legal lt)))

  fewer : (max w : ℕ) (u : List ℕ) → w ≡ length u → w - length (take max u) ≡ w - max
  fewer max w u is = omega (arith, is, length-take max u)

  take_tells : (id max : ℕ) → Tells (Take id max)
  unfolding state
  take_tells id max =
      let u = unsent l id past in (
        refl,
        subst (λ w. Follows l new (record s { waiting = at id w s.waiting }))
            (fewer max (s.waiting id) u (waiting_is_unsent l id past)),
      )

  close_tells : (id : ℕ) → is_admitted past id ≡ true → Tells (Close id)
  unfolding state
  close_tells id there =
      let range : (nat_lt 0 id && nat_le id s.admitted) ≡ true =
      ap (λ n. nat_lt 0 id && nat_le id n) (admitted_is l past) ∙ there in
      (ap (λ b. cond (b && is_live (s.standing id)) ((id, End) ∷ []) []) range, λ left. left)

  pub tells : (entry : Entry) → IsLegal l (entry ∷ past) → Tells entry
  tells (Admit id) legal = admit_tells id legal.2
  tells (Run id words moment) legal = run_tells id moment words legal.0
  tells (Tick moment) legal = tick_tells moment
  tells (Take id max) legal = take_tells id max
  tells (Close id) legal =
      close_tells id (and_parts (is_admitted past id) (keeps_bytes (s.standing id)) legal.0).0
