-- A connection that is not on is sent nothing, and one that was not admitted has what it is
-- admitted with.
use Rattle.std.proofs.Common.{◌≡◌, ◌<◌, ◌+◌, ℕ, List, [], ◌∷◌, ◌++◌, Bool, true}
use Rattle.std.proofs.Common.{false}
use Rattle.std.proofs.Common.{refl, arith, ap, ◌∙◌, sym, map, length, cond}
use Rattle.std.specs.Prelude.{◌==◌, ◌&&◌, ◌||◌}
use Rattle.std.specs.List.{flat_map}
use Rattle.std.proofs.lemmas.Bool.{and_parts}
use Rattle.std.proofs.lemmas.Bool.Decides.{nat_tests}
use Rattle.track_modes.specs.ModeState.{ModeState, new_mode}
use Rattle.redirect.specs.Routes.{breaks}
use Rattle.serial_model.specs.declared.history.Limits.{Limits}
use Rattle.serial_model.specs.declared.history.Entry.{Entry}
use Rattle.serial_model.specs.declared.history.Entry.TheVariants.{Admit, Run, Tick, Take, Close}
use Rattle.serial_model.specs.declared.standing.Standing.TheVariants.{Quit, Gone}
use Rattle.serial_model.specs.Modes.{is_stopping}
use Rattle.serial_model.specs.State.{State, is_on, keeps_bytes}
use Rattle.serial_model.specs.Tracking.{has_id}
use Rattle.serial_model.specs.Actions.{Action, End, action_sends, action_leaves, messages}
use Rattle.serial_model.specs.Actions.{all_messages}
use Rattle.serial_model.specs.Actions.{ends}
use Rattle.serial_model.specs.Actions.{bytes_to, sending_bytes, standing_after, quits, is_overgrown}
use Rattle.serial_model.specs.Actions.{target_at}
use Rattle.serial_model.specs.History.{admitted, is_admitted, state, next, sends, sent, sent_to}
use Rattle.serial_model.specs.History.{run_action, tick_action}
use Rattle.serial_model.specs.Laws.{FreshIsSentNothing, FreshIsFirst, IsFirst}
use Rattle.serial_model.proofs.Tables.{sent_to-append}
use Rattle.serial_model.proofs.Counts.{admitted_is}
use Rattle.serial_model.proofs.Sendings.{bytes_are, none_live, none_to}
use Rattle.serial_model.proofs.Ends.{ends_are}

-- ---- one that is not on

off_ending : (l : Limits) (t : Action) (s : State) (c : ℕ) → is_on s c ≡ false
    → has_id c (ends l t s) ≡ false
off_ending l t s c off =
    ends_are l t s c
    ∙ ap (λ b. b && (quits t c || is_stopping t.effect.ending || is_overgrown l t s c)) off

pub action_sends_off : (l : Limits) (t : Action) (s : State) (n c : ℕ)
    → is_on s c ≡ false → sent_to n c (action_sends l t s) ≡ []
action_sends_off l t s n c off =
    sent_to-append n c (messages l t s) (map (λ id. (id, End)) (ends l t s))
    ∙ ap (λ x. x ++ sent_to n c (map (λ id. (id, End)) (ends l t s)))
    (none_live n c (is_on s) (all_messages l t s) off)
    ∙ none_to n c (ends l t s) (off_ending l t s c off)

-- ---- one that was not admitted

fresh_off : (s : State) (c : ℕ) → s.admitted < c → is_on s c ≡ false
fresh_off s c lt = grind (arith, nat_tests)

off : (l : Limits) (c : ℕ) (past : List Entry) → admitted past < c → is_on (state l past) c ≡ false
off l c past lt =
    fresh_off (state l past) c (let e = admitted_is l past in omega (arith, e, lt))

other_id : (past : List Entry) (id c : ℕ) → is_admitted past id ≡ true → admitted past < c
    → (id == c) ≡ false
other_id past id c on lt = grind (arith, nat_tests)

adds_none : (l : Limits) (c : ℕ) (e : Entry) (past : List Entry) → sent l c past ≡ []
    → sent_to (length past + 1) c (sends l e (state l past)) ≡ [] → sent l c (e ∷ past) ≡ []
adds_none l c e past f g =
    ap (λ x. x ++ sent_to (length past + 1) c (sends l e (state l past))) f ∙ g

close_other : (l : Limits) (id n c : ℕ) (s : State) → (id == c) ≡ false
    → sent_to n c (sends l (Close id) s) ≡ []
close_other l id n c s other = grind (arith, nat_tests)

pub sent_fresh : FreshIsSentNothing
sent_fresh l c [] h lt = refl
sent_fresh l c (Admit id ∷ past) h lt =
    adds_none l c (Admit id) past (sent_fresh l c past h.2 (omega (arith, lt))) refl
sent_fresh l c (Run id words moment ∷ past) h lt =
    let t = run_action id words moment (state l past) in
    adds_none l c (Run id words moment) past (sent_fresh l c past h.2 lt)
    (action_sends_off l t (state l past) _ c (off l c past lt))
sent_fresh l c (Tick moment ∷ past) h lt =
    let t = tick_action moment (state l past) in
    adds_none l c (Tick moment) past (sent_fresh l c past h.3 lt)
    (action_sends_off l t (state l past) _ c (off l c past lt))
sent_fresh l c (Take id max ∷ past) h lt =
    adds_none l c (Take id max) past (sent_fresh l c past h.2 lt) refl
sent_fresh l c (Close id ∷ past) h lt =
    adds_none l c (Close id) past (sent_fresh l c past h.1 lt)
    (close_other l id _ c (state l past)
    (other_id past id c (and_parts (is_admitted past id) _ h.0).0 lt))

-- ---- it has its first parts

no_break : (m : ModeState) (modes : ℕ → ModeState) (on : ℕ → Bool) (c : ℕ) → modes c ≡ new_mode
    → breaks (modes c).tracking (target_at modes on c) ≡ false
no_break m modes on c e =
    ap (λ (x : ModeState). breaks x.tracking (target_at modes on c)) e

stays_first : (by mends broken x y : Bool) (old new : Bool) → by ≡ false → broken ≡ false
    → old ≡ false → new ≡ false
    → ((cond (by && mends) false (broken || (x && old))) || (y && new)) ≡ false
stays_first by mends broken x y old new e f g h = grind arith

action_first : (l : Limits) (t : Action) (s : State) (c : ℕ) → is_on s c ≡ false
    → (t.by == c) ≡ false → IsFirst s c → IsFirst (action_leaves l t s) c
action_first l t s c is_off other first =
    let same : (action_leaves l t s).modes c ≡ new_mode
    = ap (λ b. cond b t.effect.mode (s.modes c)) other ∙ first.mode in
    let stands : standing_after l t s c ≡ s.standing c
    = ap (λ b. cond b (cond (quits t c) Quit Gone) (s.standing c)) (off_ending l t s c is_off) in
    record {
      mode = same;
      standing = stands ∙ first.standing;
      broken = stays_first (t.by == c) _ (s.broken c) _ _ _ _ other first.broken
          (no_break new_mode s.modes (is_on s) c first.mode)
          (no_break new_mode (action_leaves l t s).modes (is_on s) c same);
      waiting = ap (λ x. cond (keeps_bytes x) (s.waiting c
          + length (bytes_to c (action_sends l t s))) 0)
          (stands ∙ first.standing)
          ∙ ap (λ n. n + length (bytes_to c (action_sends l t s))) first.waiting
          ∙ ap (λ (x : List ℕ). 0 + length x) (sym (bytes_are 0 c (action_sends l t s))
          ∙ ap (λ ss. flat_map (λ m. sending_bytes m.1) ss) (action_sends_off l t s 0 c is_off));
    }

take_first : (l : Limits) (id max c : ℕ) (s : State) → (id == c) ≡ false → IsFirst s c
    → IsFirst (next l (Take id max) s) c
take_first l id max c s other first = grind arith

close_first : (l : Limits) (id c : ℕ) (s : State) → (id == c) ≡ false → IsFirst s c
    → IsFirst (next l (Close id) s) c
close_first l id c s other first = grind arith

no_zero : (n c : ℕ) → n < c → (0 == c) ≡ false
no_zero n c lt = grind (arith, nat_tests)

pub fresh_is_first : FreshIsFirst
unfolding state
fresh_is_first l c [] h lt = record { mode = refl; standing = refl; broken = refl; waiting = refl }
fresh_is_first l c (Admit id ∷ past) h lt =
    let f = fresh_is_first l c past h.2 (omega (arith, lt)) in
    record { mode = f.mode; standing = f.standing; broken = f.broken; waiting = f.waiting }
fresh_is_first l c (Run id words moment ∷ past) h lt =
    let t = run_action id words moment (state l past) in
    action_first l t (state l past) c (off l c past lt)
    (other_id past id c (and_parts (is_admitted past id) _ h.0).0 lt)
    (fresh_is_first l c past h.2 lt)
fresh_is_first l c (Tick moment ∷ past) h lt =
    let t = tick_action moment (state l past) in
    action_first l t (state l past) c (off l c past lt)
    (no_zero (admitted past) c lt) (fresh_is_first l c past h.3 lt)
fresh_is_first l c (Take id max ∷ past) h lt =
    take_first l id max c (state l past)
    (other_id past id c (and_parts (is_admitted past id) _ h.0).0 lt)
    (fresh_is_first l c past h.2 lt)
fresh_is_first l c (Close id ∷ past) h lt =
    close_first l id c (state l past)
    (other_id past id c (and_parts (is_admitted past id) _ h.0).0 lt)
    (fresh_is_first l c past h.1 lt)
