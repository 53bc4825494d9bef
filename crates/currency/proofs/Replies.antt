-- The replies to a connection's commands are, in order, what a test lets through of all that was
-- sent to it: each of them passes, and no end and no message of another kind that it is sent.
use Rattle.std.proofs.Common.{◌≡◌, ◌+◌, ℕ, List, [], ◌∷◌, ◌++◌, length, Bool, true, false, cond}
use Rattle.std.proofs.Common.{refl, ap, ◌∙◌, append-nil, Option, Some, None}
use Rattle.std.proofs.Common.{arith, inl, inr, map, sym}
use Rattle.std.specs.Prelude.{◌==◌}
use Rattle.std.specs.List.{filter}
use Rattle.std.proofs.lemmas.Bool.{cases_Bool, eqb-true}
use Rattle.std.proofs.lemmas.List.Elements.{filter-append}
use Rattle.std.proofs.lemmas.Grind.{common_steps}
use Rattle.resp_value.specs.declared.value.Value.{Value}
use Rattle.resp_value.specs.declared.value.Proto.{Proto}
use Rattle.resp_value.specs.declared.value.Proto.TheVariants.{Two, Three}
use Rattle.track_modes.specs.ModeState.{ModeState, redirect_of}
use Rattle.redirect.specs.declared.routes.Route.{Route}
use Rattle.redirect.specs.declared.routes.Route.TheVariants as route
use Rattle.redirect.specs.Messages.{message_of, notice_of, push_of}
use Rattle.serial_model.specs.declared.history.Limits.{Limits}
use Rattle.serial_model.specs.declared.history.Entry.{Entry}
use Rattle.serial_model.specs.declared.history.Entry.TheVariants.{Admit, Run, Tick, Take, Close}
use Rattle.serial_model.specs.Modes.{is_stopping}
use Rattle.serial_model.specs.Tracking.{Invalidation}
use Rattle.serial_model.specs.State.{State, is_live, is_on}
use Rattle.serial_model.specs.Actions.{Action, End, Message, Sending, ends, expiry_told}
use Rattle.serial_model.specs.Actions.{carried, later_told, modes_then, replies, routed, to_one}
use Rattle.serial_model.specs.Actions.{way}
use Rattle.serial_model.specs.History.{IsLegal, effect_in, ending_in, made, mode, ran, run_action}
use Rattle.serial_model.specs.History.{runs_on, sends, sent, sent_to, served_reading, state}
use Rattle.serial_model.specs.History.{tick_action}
use Rattle.serial_model.proofs.ActionSends.{run_sends, tick_sends}
use Rattle.serial_model.proofs.Tables.{sent_to-append}
use Rattle.currency.proofs.RunPlaces.{EachRun, each_older}
use Rattle.currency.proofs.Routes.{route_cases}
use Rattle.currency.proofs.Runs.{Older, older_all, older_more}

-- ---- the reply to a Run

-- what a Run sends its own connection
abbrev pub reply_to : Limits → List Entry → ℕ → List (List ℕ) → ℕ → Sending
reply_to l past id words moment =
    Message (made l past id words moment).mode.proto (ran l past id words moment).reply

-- of a command that stops no server it is the one reply of the entry
module _ (l : Limits) (past : List Entry) (id : ℕ) (words : List (List ℕ)) (m : ℕ)
    (goes_on : is_stopping (ending_in (mode l id past) (served_reading words)) ≡ false) where
  pub reply_some : (effect_in (state l past) id words m).reply
      ≡ Some (ran l past id words m).reply
  reply_some = ap (λ b. cond b None (Some (ran l past id words m).reply)) goes_on

  reply_is : replies (run_action id words m (state l past))
      ≡ (id, reply_to l past id words m) ∷ []
  reply_is = ap (to_one id (made l past id words m).mode.proto) reply_some

-- a reply is for the connection whose command it answers
other_reply : (n c id : ℕ) (p : Proto) (v : Option Value) → (id == c) ≡ false
    → sent_to n c (to_one id p v) ≡ []
other_reply n c id p None other = refl
other_reply n c id p (Some v) other = ap (λ b. cond b ((n, Message p v) ∷ []) []) other

-- the replies to a connection's commands, in order
unfoldable pub replies_of : Limits → ℕ → List Entry → List (ℕ × Sending)
replies_of l c [] = []
replies_of l c (Admit id ∷ past) = replies_of l c past
replies_of l c (Run id words moment ∷ past) =
    cond (id == c) (replies_of l c past
    ++ (length past + 1, reply_to l past id words moment) ∷ []) (replies_of l c past)
replies_of l c (Tick moment ∷ past) = replies_of l c past
replies_of l c (Take id max ∷ past) = replies_of l c past
replies_of l c (Close id ∷ past) = replies_of l c past

-- ---- what passes a test

-- no message of an entry's groups passes that is sent to a connection that is subscribed or not
pub record NoMessage (p : Sending → Bool) (subscribed : Bool) : Type 0 where
  pub push : (keys : Option (List (List ℕ))) → p (Message Three (push_of keys)) ≡ false
  pub notice : (target : ℕ) → p (Message Three (notice_of target)) ≡ false
  pub message :
      subscribed ≡ true → (keys : Option (List (List ℕ)))
      → p (Message Two (message_of keys)) ≡ false

-- a Run is answered by what passes
pub record Answered (p : Sending → Bool) (l : Limits) (id m : ℕ) (words : List (List ℕ))
    (past : List Entry) : Type 0 where
  pub goes_on : is_stopping (ending_in (mode l id past) (served_reading words)) ≡ false
  pub passes : p (reply_to l past id words m) ≡ true

-- of all that is sent to a connection the replies to its commands pass alone
pub record RepliesPass (p : Sending → Bool) (l : Limits) (c : ℕ) (past : List Entry)
    : Type 0 where
  pub no_end : p End ≡ false
  pub no_message : (up : List Entry) → Older up past → NoMessage p (mode l c up).subscribed
  pub own : EachRun (Answered p l) c past

abbrev pub passing : (Sending → Bool) → ℕ × Sending → Bool
passing p s = p s.1

-- ---- messages

module _ (p : Sending → Bool) (n c : ℕ) where
  one_none : (b : Bool) (x : Sending) → p x ≡ false
      → filter (passing p) (cond b ((n, x) ∷ []) []) ≡ []
  one_none true x h = ap (λ b. cond b ((n, x) ∷ []) []) h
  one_none false x h = refl

  module _ (modes : ℕ → ModeState) (none : NoMessage p (modes c).subscribed) (on : ℕ → Bool) where
    module _ (target : Option ℕ) (keys : Option (List (List ℕ))) where
      abbrev None_passes : Route → Type 0
      None_passes r = filter (passing p) (sent_to n c (carried r target keys)) ≡ []

      no_push : (r : ℕ) → None_passes (route.Push r)
      no_push r = one_none (r == c) (Message Three (push_of keys)) (none.push keys)

      no_message : (r : ℕ) → (modes r).subscribed ≡ true → None_passes (route.Message r)
      no_message r subscribed = elim (cases_Bool (r == c)) [
        | inl own ↦
            one_none (r == c) (Message Two (message_of keys))
            (none.message (sym (ap (λ d. (modes d).subscribed) (eqb-true r c own)) ∙ subscribed)
            keys)
        | inr other ↦
            ap (λ b. filter (passing p) (cond b ((n, Message Two (message_of keys)) ∷ []) [])) other
      ]

    no_notice : (target : Option ℕ) (keys : Option (List (List ℕ))) (r : ℕ)
        → filter (passing p) (sent_to n c (carried (route.BrokenNotice r) target keys)) ≡ []
    no_notice None keys r = refl
    no_notice (Some t) keys r = one_none (r == c) (Message Three (notice_of t)) (none.notice t)

    way_none : (i : Invalidation) → filter (passing p) (sent_to n c (way modes on i)) ≡ []
    way_none i =
        let target = redirect_of (modes i.to).tracking in
        route_cases modes on
        (λ r. filter (passing p) (sent_to n c (carried r target i.keys)) ≡ [])
        (no_push target i.keys) (no_message target i.keys) (no_notice target i.keys) refl i.to

    pub routed_none : (told : List Invalidation)
        → filter (passing p) (sent_to n c (routed modes on told)) ≡ []
    routed_none [] = refl
    routed_none (i ∷ told) =
        grind (arith, sent_to-append, filter-append, way_none, routed_none told)

  ends_none : p End ≡ false → (ids : List ℕ)
      → filter (passing p) (sent_to n c (map (λ id. (id, End)) ids)) ≡ []
  ends_none no_end [] = refl
  ends_none no_end (id ∷ ids) = grind (arith, common_steps, ends_none no_end ids)

  parts : (xs ys zs us : List (ℕ × Sending))
      → filter (passing p) (sent_to n c (((xs ++ ys) ++ zs) ++ us))
      ≡ ((filter (passing p) (sent_to n c xs) ++ filter (passing p) (sent_to n c ys))
      ++ filter (passing p) (sent_to n c zs)) ++ filter (passing p) (sent_to n c us)
  parts xs ys zs us = grind (arith, sent_to-append, filter-append)

  -- where the first group, the last and the ends have none, those between are all
  between : (xs ys zs us rs : List (ℕ × Sending)) → filter (passing p) (sent_to n c xs) ≡ []
      → filter (passing p) (sent_to n c zs) ≡ [] → filter (passing p) (sent_to n c us) ≡ []
      → filter (passing p) (sent_to n c ys) ≡ rs
      → filter (passing p) (sent_to n c (((xs ++ ys) ++ zs) ++ us)) ≡ rs
  between xs ys zs us rs first last end is = grind (arith, parts xs ys zs us, append-nil)

-- ---- entries

-- what a Run of a connection that has not ended sends, in order
module _ (l : Limits) (past : List Entry) (id : ℕ) (words : List (List ℕ)) (m : ℕ) where
  abbrev s : State
  s = state l past

  abbrev t : Action
  t = run_action id words m s

  abbrev pub early : List (ℕ × Sending)
  early = routed s.modes (is_on s) (expiry_told t s)

  abbrev pub late : List (ℕ × Sending)
  late = routed (modes_then t s) (is_on s) (later_told l t s)

  -- those that end by it are sent their ends last
  abbrev pub ending : List (ℕ × Sending)
  ending = map (λ c. (c, End)) (ends l t s)

  pub run_sends_are : IsLegal l past → runs_on l past id ≡ true
      → sends l (Run id words m) (state l past)
      ≡ ((early ++ replies t) ++ late) ++ ending
  run_sends_are legal on = run_sends l past id words m legal on

-- what passes up to an entry passes up to an older one
pass_tail : (p : Sending → Bool) (l : Limits) (c : ℕ) (e : Entry) (past : List Entry)
    → RepliesPass p l c (e ∷ past) → RepliesPass p l c past
pass_tail p l c e past h =
    let older : Older past (e ∷ past) = record { newer = e ∷ []; is = refl } in record {
      no_end = h.no_end;
      no_message = λ up o. h.no_message up (older_more up past (e ∷ past) o older);
      own = each_older (Answered p l) c past (e ∷ past) older h.own;
    }

module _ (p : Sending → Bool) (l : Limits) (c : ℕ) where
  abbrev Passes : List Entry → Type 0
  Passes past = RepliesPass p l c past

  -- the modes behind an entry's command are those that it leaves
  then_none : (id m : ℕ) (words : List (List ℕ)) (past : List Entry)
      → Passes (Run id words m ∷ past)
      → NoMessage p (modes_then (run_action id words m (state l past)) (state l past) c).subscribed
  unfolding state
  then_none id m words past h = h.no_message (Run id words m ∷ past) (older_all _)

  tick_then : (m : ℕ) (past : List Entry) → Passes (Tick m ∷ past)
      → NoMessage p (modes_then (tick_action m (state l past)) (state l past) c).subscribed
  unfolding state
  tick_then m past h = h.no_message (Tick m ∷ past) (older_all _)

  before_none : (e : Entry) (past : List Entry) → Passes (e ∷ past)
      → NoMessage p (mode l c past).subscribed
  before_none e past h = h.no_message past (record { newer = e ∷ []; is = refl })

  own_one : (b : Bool) (n : ℕ) (x : Sending) → p x ≡ true
      → filter (passing p) (cond b ((n, x) ∷ []) []) ≡ cond b ((n, x) ∷ []) []
  own_one true n x h = ap (λ b. cond b ((n, x) ∷ []) []) h
  own_one false n x h = refl

  -- the reply of an entry
  own_kept : (n id m : ℕ) (words : List (List ℕ)) (past : List Entry)
      → Passes (Run id words m ∷ past)
      → filter (passing p) (sent_to n c (replies (run_action id words m (state l past))))
      ≡ cond (id == c) ((n, reply_to l past id words m) ∷ []) []
  own_kept n id m words past h = elim (cases_Bool (id == c)) [
    | inl own ↦
        let a = h.own id m words past (older_all (Run id words m ∷ past)) own in
        ap (λ ss. filter (passing p) (sent_to n c ss)) (reply_is l past id words m a.goes_on)
        ∙ own_one (id == c) n (reply_to l past id words m) a.passes
    | inr other ↦
        let e = effect_in (state l past) id words m in
        ap (filter (passing p)) (other_reply n c id e.mode.proto e.reply other)
        ∙ ap (λ b. cond b ((n, reply_to l past id words m) ∷ []) []) (sym other)
  ]

  run_reply : (n id m : ℕ) (words : List (List ℕ)) (past : List Entry) → IsLegal l past
      → runs_on l past id ≡ true → Passes (Run id words m ∷ past)
      → filter (passing p) (sent_to n c (sends l (Run id words m) (state l past)))
      ≡ cond (id == c) ((n, reply_to l past id words m) ∷ []) []
  run_reply n id m words past legal on h =
      let s = state l past in
      let t = run_action id words m s in
      ap (λ ss. filter (passing p) (sent_to n c ss)) (run_sends_are l past id words m legal on)
      ∙ between p n c (early l past id words m) (replies t) (late l past id words m)
      (ending l past id words m) (cond (id == c) ((n, reply_to l past id words m) ∷ []) [])
      (routed_none p n c s.modes (before_none (Run id words m) past h) (is_on s)
      (expiry_told t s))
      (routed_none p n c (modes_then t s) (then_none id m words past h) (is_on s)
      (later_told l t s))
      (ends_none p n c h.no_end (ends l t s)) (own_kept n id m words past h)

  tick_reply : (n m : ℕ) (past : List Entry) → IsLegal l past → Passes (Tick m ∷ past)
      → filter (passing p) (sent_to n c (sends l (Tick m) (state l past))) ≡ []
  tick_reply n m past legal h =
      let s = state l past in
      let t = tick_action m s in
      ap (λ ss. filter (passing p) (sent_to n c ss)) (tick_sends l past m legal)
      ∙ between p n c (routed s.modes (is_on s) (expiry_told t s)) []
      (routed (modes_then t s) (is_on s) (later_told l t s)) (map (λ c. (c, End)) (ends l t s)) []
      (routed_none p n c s.modes (before_none (Tick m) past h) (is_on s) (expiry_told t s))
      (routed_none p n c (modes_then t s) (tick_then m past h) (is_on s) (later_told l t s))
      (ends_none p n c h.no_end (ends l t s)) refl

  close_none : (n id : ℕ) (b : Bool) → p End ≡ false
      → filter (passing p) (sent_to n c (cond b ((id, End) ∷ []) [])) ≡ []
  close_none n id true none = one_none p n c (id == c) End none
  close_none n id false none = refl

  add_none : (e : Entry) (past : List Entry)
      → filter (passing p) (sent_to (length past + 1) c (sends l e (state l past))) ≡ []
      → filter (passing p) (sent l c past) ≡ replies_of l c past
      → filter (passing p) (sent l c (e ∷ past)) ≡ replies_of l c past
  add_none e past none before = grind (arith, filter-append, append-nil)

  out_of : (b : Bool) (xs ys : List (ℕ × Sending)) → xs ++ cond b ys [] ≡ cond b (xs ++ ys) xs
  out_of b xs ys = grind (arith, common_steps)

  pub replies_are_of_runs : (past : List Entry) → IsLegal l past → Passes past
      → filter (passing p) (sent l c past) ≡ replies_of l c past
  unfolding replies_of
  replies_are_of_runs [] legal h = refl
  replies_are_of_runs (Tick m ∷ past) legal h =
      add_none (Tick m) past (tick_reply (length past + 1) m past legal.3 h)
      (replies_are_of_runs past legal.3 (pass_tail p l c (Tick m) past h))
  replies_are_of_runs (Close id ∷ past) legal h =
      add_none (Close id) past
      (close_none (length past + 1) id (is_live ((state l past).standing id)) h.no_end)
      (replies_are_of_runs past legal.1 (pass_tail p l c (Close id) past h))
  replies_are_of_runs (Run id words m ∷ past) legal h =
      filter-append (passing p) (sent l c past)
      (sent_to (length past + 1) c (sends l (Run id words m) (state l past)))
      ∙ ap (λ xs. filter (passing p) (sent l c past) ++ xs)
      (run_reply (length past + 1) id m words past legal.2 legal.0 h)
      ∙ ap (λ xs. xs ++ cond (id == c) ((length past + 1, reply_to l past id words m) ∷ []) [])
      (replies_are_of_runs past legal.2 (pass_tail p l c (Run id words m) past h))
      ∙ out_of (id == c) (replies_of l c past)
      ((length past + 1, reply_to l past id words m) ∷ [])
  replies_are_of_runs (Admit id ∷ past) legal h =
      add_none (Admit id) past refl
      (replies_are_of_runs past legal.2 (pass_tail p l c (Admit id) past h))
  replies_are_of_runs (Take id max ∷ past) legal h =
      add_none (Take id max) past refl
      (replies_are_of_runs past legal.2 (pass_tail p l c (Take id max) past h))
