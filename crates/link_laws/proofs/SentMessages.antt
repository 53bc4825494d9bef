-- Each message that is sent is well-formed.
use Rattle.std.proofs.Common.{◌≡◌, ℕ, List, [], ◌∷◌, ◌++◌, Bool, true, false, cond, Result, Ok, Err}
use Rattle.std.proofs.Common.{Option, None, Some, refl, map, arith, codes}
use Rattle.std.specs.Option.{option_map_or}
use Rattle.std.specs.Str.{bytes_eq}
use Rattle.resp_value.specs.declared.value.Proto.{Proto}
use Rattle.resp_value.specs.Tree.{blob, trees_of}
use Rattle.resp_value.specs.declared.value.Value.{Value}
use Rattle.resp_value.specs.declared.value.Value.TheVariants.{Array, Blob, Error, Map, Simple}
use Rattle.command_words.specs.declared.command.Command.{Command}
use Rattle.command_words.specs.declared.command.Command.TheVariants.{Ping, Echo, Hello, Reset, Quit}
use Rattle.command_words.specs.declared.command.Command.TheVariants.{ClientId, ClientTracking}
use Rattle.command_words.specs.declared.command.Command.TheVariants.{ClientCaching, ClientGetRedir}
use Rattle.command_words.specs.declared.command.Command.TheVariants.{ClientTrackingInfo}
use Rattle.command_words.specs.declared.command.Command.TheVariants.{Shutdown, Subscribe}
use Rattle.command_words.specs.declared.command.Command.TheVariants.{Unsubscribe}
use Rattle.command_words.specs.declared.command.WordFault.{WordFault}
use Rattle.command_words.specs.declared.command.WordFault.TheVariants.{Arity}
use Rattle.command_words.specs.Expiry.{without_due}
use Rattle.command_words.specs.Space.{Space}
use Rattle.command_words.specs.Words.{reading}
use Rattle.track_modes.specs.declared.fault.ModeFault.{ModeFault}
use Rattle.track_modes.specs.declared.fault.ModeFault.TheVariants.{NoTarget, PrefixNeedsBcast}
use Rattle.track_modes.specs.declared.fault.ModeFault.TheVariants.{SwitchBcast, BothOpts}
use Rattle.track_modes.specs.declared.fault.ModeFault.TheVariants.{OptWithBcast, SwitchOpt}
use Rattle.track_modes.specs.declared.fault.ModeFault.TheVariants.{Overlap, NotOpt, YesNeedsOptin}
use Rattle.track_modes.specs.declared.fault.ModeFault.TheVariants.{NoNeedsOptout, NoMemory}
use Rattle.track_modes.specs.Commands.{channel, fault_at}
use Rattle.track_modes.specs.ModeState.{ModeState, flags, prefixes_of, redirect_of}
use Rattle.track_modes.specs.Texts.{mode_fault_text}
use Rattle.redirect.specs.declared.routes.Route.{Route}
use Rattle.serial_model.specs.declared.history.Limits.{Limits}
use Rattle.serial_model.specs.declared.history.Entry.{Entry}
use Rattle.serial_model.specs.declared.history.Entry.TheVariants.{Admit, Run, Tick, Take, Close}
use Rattle.serial_model.specs.Modes.{Runner, accepted, is_confined, is_stopping}
use Rattle.serial_model.specs.Modes.{left_channel, pong, subscribe_reply, subscription}
use Rattle.serial_model.specs.Modes.{tracking_info, unsubscribe_reply}
use Rattle.serial_model.specs.Tracking.{Invalidation}
use Rattle.serial_model.specs.State.{State, is_live, is_on}
use Rattle.serial_model.specs.Actions.{Action, Sending, End, action_sends, all_messages, carried}
use Rattle.serial_model.specs.Actions.{ends, expiry_told, heard, later_told, messages, modes_then}
use Rattle.serial_model.specs.Actions.{replies, route_at, routed, to_one, way}
use Rattle.serial_model.specs.History.{effect_of, keyspace, ran_over, ran, run_action, runner}
use Rattle.serial_model.specs.History.{sends, sent_to, served, served_reading, state, tick_action}
use Rattle.serial_model.proofs.ServedRows.{ran_cases}
use Rattle.resp_laws.specs.Fronts.{AreWellFormed, Every, IsWellFormed}
use Rattle.resp_laws.specs.Values.{IsPlain}
use Rattle.link_laws.specs.Crossing.{IsReadable, SentIsWellFormed}
use Rattle.link_laws.proofs.Plain.{plain_text, fault_plain}
use Rattle.link_laws.proofs.Rows.{IsGood, Replies, are_mapped, effect_good}

-- ---- the reply to words

-- the text of a fault of a mode has no end of line
mode_fault_plain : (fault : ModeFault) → IsPlain (mode_fault_text fault)
mode_fault_plain NoTarget = plain_text (mode_fault_text NoTarget) refl
mode_fault_plain PrefixNeedsBcast = plain_text (mode_fault_text PrefixNeedsBcast) refl
mode_fault_plain SwitchBcast = plain_text (mode_fault_text SwitchBcast) refl
mode_fault_plain BothOpts = plain_text (mode_fault_text BothOpts) refl
mode_fault_plain OptWithBcast = plain_text (mode_fault_text OptWithBcast) refl
mode_fault_plain SwitchOpt = plain_text (mode_fault_text SwitchOpt) refl
mode_fault_plain (Overlap old) = plain_text (mode_fault_text (Overlap old)) refl
mode_fault_plain NotOpt = plain_text (mode_fault_text NotOpt) refl
mode_fault_plain YesNeedsOptin = plain_text (mode_fault_text YesNeedsOptin) refl
mode_fault_plain NoNeedsOptout = plain_text (mode_fault_text NoNeedsOptout) refl
mode_fault_plain NoMemory = tt

accepted_good : (fault : Option ModeFault) → IsGood (accepted fault)
accepted_good None p = plain_text (codes "OK") refl
accepted_good (Some fault) p = mode_fault_plain fault

pong_good : (m : ModeState) (text : Option (List ℕ)) → IsGood (pong m text)
pong_good m text = by (is_confined m) text
  where
    by : (confined : Bool) (text : Option (List ℕ))
        → IsGood (cond confined
        (Array (blob (codes "pong") ∷ blob (option_map_or (λ t. t) text []) ∷ []))
        (option_map_or Blob text (Simple (codes "PONG"))))
    by true text p = (tt, (tt, tt))
    by false None p = plain_text (codes "PONG") refl
    by false (Some text) p = tt

blobs_good : (p : Proto) (words : List (List ℕ)) → AreWellFormed p (trees_of (map blob words))
blobs_good p words = are_mapped blob p (λ w. tt) words

info_good : (is_broken : Bool) (m : ModeState) → IsGood (Map (tracking_info is_broken m))
info_good is_broken m p = (
  tt,
  blobs_good p (flags is_broken m),
  (tt, tt, (tt, blobs_good p (prefixes_of m.tracking), tt)),
)

subscribe_good : (c : List ℕ) → IsGood (subscribe_reply c)
subscribe_good c = by (bytes_eq c channel)
  where
    by : (served : Bool)
        → IsGood (cond served (subscription (codes "subscribe") (blob c) true)
        (Error (codes "ERR channel not served")))
    by true p = (tt, (tt, (tt, tt)))
    by false p = plain_text (codes "ERR channel not served") refl

left_good : (p : Proto) (c : Option (List ℕ)) (subscribed : Bool)
    → IsWellFormed p (left_channel c subscribed)
left_good p (Some c) subscribed = tt
left_good p None true = tt
left_good p None false = tt

unsubscribe_good : (c : Option (List ℕ)) (m : ModeState) → IsGood (unsubscribe_reply c m)
unsubscribe_good c m p = (tt, (left_good p c m.subscribed, (tt, tt)))

effect_of_good : (by : Runner) (words : List (List ℕ)) (r : Result Command WordFault)
    (space : Space) (moment : ℕ) → (r ≡ Err Arity → reading words ≡ Err Arity)
    → Replies (effect_of by words r space moment)
effect_of_good by words (Ok (Ping text)) space m h = pong_good by.mode text
effect_of_good by words (Ok (Echo text)) space m h = λ p. tt
effect_of_good by words (Ok (Hello word)) space m h = grind (arith, plain_text)
effect_of_good by words (Ok Reset) space m h = λ p. plain_text (codes "RESET") refl
effect_of_good by words (Ok Quit) space m h = λ p. plain_text (codes "OK") refl
effect_of_good by words (Ok (Shutdown mode)) space m h = λ p. tt
effect_of_good by words (Ok ClientId) space m h = λ p. tt
effect_of_good by words (Ok (ClientTracking options)) space m h =
    accepted_good (fault_at (ClientTracking options) by.target_exists by.mode)
effect_of_good by words (Ok (ClientCaching is_yes)) space m h =
    accepted_good (fault_at (ClientCaching is_yes) by.target_exists by.mode)
effect_of_good by words (Ok ClientGetRedir) space m h = λ p. tt
effect_of_good by words (Ok ClientTrackingInfo) space m h = info_good by.is_broken by.mode
effect_of_good by words (Ok (Subscribe c)) space m h = subscribe_good c
effect_of_good by words (Ok (Unsubscribe c)) space m h = unsubscribe_good c by.mode
effect_of_good by words (Ok command) space m h = effect_good command space m
effect_of_good by words (Err fault) space m h = grind (arith, fault_plain)

-- one that the mode does not allow is refused
ran_good : (by : Runner) (words : List (List ℕ)) (space : Space) (moment : ℕ)
    → Replies (ran_over space by words moment)
ran_good by words space moment =
    ran_cases by words (λ e o. Replies e) space moment
    (effect_of_good by words (served_reading words) space moment (read_arity (reading words)))
    (λ p. plain_text (codes "ERR not allowed while subscribed") refl)
  where
    read_arity : (read : Result Command WordFault) → served read ≡ Err Arity → read ≡ Err Arity
    read_arity read h = grind arith

pub reply_good : (l : Limits) (past : List Entry) (id moment : ℕ) (words : List (List ℕ))
    → Replies (ran l past id words moment)
reply_good l past id moment words =
    ran_good (runner l past id words moment) words (without_due moment (keyspace l past)) moment

-- ---- lists of what is sent

abbrev Readable : List (ℕ × Sending) → Type 0
Readable ss = Every (λ s. IsReadable s.1) ss

readable_both : (xs ys : List (ℕ × Sending)) → Readable xs → Readable ys → Readable (xs ++ ys)
readable_both [] ys h k = k
readable_both (x ∷ xs) ys h k = (h.0, readable_both xs ys h.1 k)

readable_to : (n c : ℕ) (ss : List (ℕ × Sending)) → Readable ss → Readable (sent_to n c ss)
readable_to n c [] h = tt
readable_to n c (s ∷ ss) h = grind (arith, readable_to n c ss h.1)

readable_kept : (b : Bool) (x : ℕ × Sending) (ss : List (ℕ × Sending)) → IsReadable x.1
    → Readable ss → Readable (cond b (x ∷ ss) ss)
readable_kept true x ss h k = (h, k)
readable_kept false x ss h k = k

readable_heard : (s : State) (ss : List (ℕ × Sending)) → Readable ss → Readable (heard s ss)
readable_heard s [] h = tt
readable_heard s (x ∷ ss) h =
    readable_kept (is_on s x.0) x (heard s ss) h.0 (readable_heard s ss h.1)

readable_carried : (r : Route) (target : Option ℕ) (keys : Option (List (List ℕ)))
    → Readable (carried r target keys)
readable_carried r target keys = grind (arith, are_mapped)

readable_routed : (modes : ℕ → ModeState) (on : ℕ → Bool) (told : List Invalidation)
    → Readable (routed modes on told)
readable_routed modes on [] = tt
readable_routed modes on (i ∷ told) =
    readable_both (way modes on i) (routed modes on told)
    (readable_carried (route_at modes on i.to) (redirect_of (modes i.to).tracking) i.keys)
    (readable_routed modes on told)

readable_ends : (ids : List ℕ) → Readable (map (λ c. (c, End)) ids)
readable_ends [] = tt
readable_ends (id ∷ ids) = (tt, readable_ends ids)

readable_reply : (stops : Bool) (id : ℕ) (proto : Proto) (v : Value) → IsGood v
    → Readable (to_one id proto (cond stops None (Some v)))
readable_reply true id proto v h = tt
readable_reply false id proto v h = (h proto, tt)

-- ---- an entry

module _ (l : Limits) (s : State) (t : Action) (replied : Readable (replies t)) where
  readable_messages : Readable (messages l t s)
  readable_messages =
      let told = routed s.modes (is_on s) (expiry_told t s) in
      let later = routed (modes_then t s) (is_on s) (later_told l t s) in
      readable_heard s (all_messages l t s)
      (readable_both (told ++ replies t) later
      (readable_both told (replies t) (readable_routed s.modes (is_on s) (expiry_told t s)) replied)
      (readable_routed (modes_then t s) (is_on s) (later_told l t s)))

  readable_action : Readable (action_sends l t s)
  readable_action =
      readable_both (messages l t s) (map (λ c. (c, End)) (ends l t s))
      readable_messages (readable_ends (ends l t s))

readable_close : (b : Bool) (id : ℕ) → Readable (cond b ((id, End) ∷ []) [])
readable_close true id = (tt, tt)
readable_close false id = tt

readable_sends : (l : Limits) (entry : Entry) (past : List Entry)
    → Readable (sends l entry (state l past))
readable_sends l (Run id words m) past =
    let t = run_action id words m (state l past) in
    readable_action l (state l past) t
    (readable_reply (is_stopping t.effect.ending) id t.effect.mode.proto
    (ran l past id words m).reply (reply_good l past id m words))
readable_sends l (Tick m) past =
    readable_action l (state l past) (tick_action m (state l past)) tt
readable_sends l (Close id) past = readable_close (is_live ((state l past).standing id)) id
readable_sends l (Admit id) past = tt
readable_sends l (Take id max) past = tt

pub sent_is_well_formed : SentIsWellFormed
sent_is_well_formed l c [] = tt
sent_is_well_formed l c (entry ∷ past) =
    grind (arith, readable_both, readable_to, readable_sends, sent_is_well_formed l c past)
