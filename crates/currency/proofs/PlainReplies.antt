-- A connection that keeps off the channel is answered by what is no push, and its messages are
-- pushes: so where a client gets all but pushes as replies, it tells them apart.
use Rattle.std.proofs.Common.{◌≡◌, ◌∙◌, ℕ, List, Bool, true, false, refl, ap, sym, subst}
use Rattle.std.proofs.Common.{arith, Result, Ok, Err, Option}
use Rattle.std.proofs.lemmas.Bool.{eqb-true}
use Rattle.resp_value.specs.Carried.{all_carried, carried}
use Rattle.resp_value.specs.Tree.{Tree, list_of, trees_of}
use Rattle.resp_value.specs.ValueTree.{tree_of, value_of}
use Rattle.resp_value.specs.declared.value.Value.{Value}
use Rattle.resp_value.specs.declared.value.Value.TheVariants.{Push}
use Rattle.resp_value.specs.declared.value.Proto.{Proto}
use Rattle.resp_value.specs.declared.value.Proto.TheVariants.{Three}
use Rattle.command_words.specs.declared.command.Command.{Command}
use Rattle.command_words.specs.declared.command.WordFault.{WordFault}
use Rattle.command_words.specs.Effect.{Effect}
use Rattle.command_words.specs.Effects.{has_row}
use Rattle.command_words.specs.Expiry.{without_due}
use Rattle.command_words.specs.Space.{Space}
use Rattle.command_words.specs.Words.{reading}
use Rattle.track_modes.specs.declared.fault.ModeFault.{ModeFault}
use Rattle.track_modes.specs.ModeState.{ModeState}
use Rattle.redirect.specs.Messages as messages
use Rattle.redirect.specs.Messages.{push_of}
use Rattle.serial_model.specs.declared.history.Limits.{Limits}
use Rattle.serial_model.specs.declared.history.Entry.{Entry}
use Rattle.serial_model.specs.declared.history.Entry.TheVariants.{Run}
use Rattle.serial_model.specs.Modes.{Runner, accepted, hello_reply, pong}
use Rattle.serial_model.specs.History.{effect_of, is_served, keyspace, made, mode, ran, runner}
use Rattle.serial_model.specs.History.{served, served_reading}
use Rattle.serial_model.proofs.ServedRows.{served_cases, data_effect}
use Rattle.shared_cache.specs.declared.log.ClientMode.{ClientMode}
use Rattle.shared_cache.specs.declared.log.Wire.{Wire}
use Rattle.shared_cache.specs.Notices.{is_reply, kind_of, notice_of, push}
use Rattle.currency.specs.Links.{is_reply_sent}
use Rattle.currency.proofs.OffChannel.{KeepsOff, has_no_reply, none_stops, off_mode, off_older}
use Rattle.currency.proofs.OffChannel.{ran_own, served_off}
use Rattle.currency.proofs.PushReplies.{is_push, no_push}
use Rattle.currency.proofs.Replies.{NoMessage, RepliesPass}
use Rattle.currency.proofs.Runs.{older_tail}

-- ---- no reply is a push, but for what SUBSCRIBE and UNSUBSCRIBE are answered

hello_no_push : (id : ℕ) (r : Result Proto (List ℕ)) → is_push (hello_reply id r) ≡ false
unfolding is_push
hello_no_push id r = grind arith

accepted_no_push : (fault : Option ModeFault) → is_push (accepted fault) ≡ false
unfolding is_push
accepted_no_push fault = grind arith

pong_no_push : (m : ModeState) (text : Option (List ℕ)) → is_push (pong m text) ≡ false
unfolding is_push
pong_no_push m text = grind arith

module _ (by : Runner) (words : List (List ℕ)) (space : Space) (m : ℕ) where
  own_no_push : (c : Command) → is_served c ≡ true → has_row c ≡ false
      → has_no_reply (Ok c) ≡ false
      → is_push (effect_of by words (Ok c) space m).reply ≡ false
  unfolding is_push
  own_no_push c is none off = grind (arith, hello_no_push, accepted_no_push, pong_no_push)

  fault_no_push : (f : WordFault) → is_push (effect_of by words (Err f) space m).reply ≡ false
  unfolding is_push
  fault_no_push f = refl

  effect_no_push : (read : Result Command WordFault) → has_no_reply (served read) ≡ false
      → is_push (effect_of by words (served read) space m).reply ≡ false
  effect_no_push =
      served_cases (λ r. has_no_reply r ≡ false
      → is_push (effect_of by words r space m).reply ≡ false) own_no_push
      (λ c row off. ap (λ (e : Effect). is_push e.reply) (data_effect by words c space m row)
      ∙ (no_push c space m row).is)
      (λ f off. fault_no_push f)

reply_no_push : (l : Limits) (past : List Entry) (id : ℕ) (words : List (List ℕ)) (m : ℕ)
    → (mode l id past).subscribed ≡ false → has_no_reply (reading words) ≡ false
    → is_push (ran l past id words m).reply ≡ false
reply_no_push l past id words m off none =
    let by = runner l past id words m in
    let space = without_due m (keyspace l past) in
    ap (λ (e : Effect). is_push e.reply) (ran_own by words off space m)
    ∙ effect_no_push by words space m (reading words) (served_off (reading words) none)

-- ---- as it is got

got_reply : (p : Proto) (v : Value) → is_push v ≡ false
    → is_reply (kind_of (value_of (carried p (tree_of v)))) ≡ true
unfolding is_push
got_reply p v h = grind arith

pushed : (ts : List Tree) → is_reply (push ts) ≡ false
pushed ts = grind arith

pub push_got : (v : Value) → is_push v ≡ true
    → is_reply (kind_of (value_of (carried Three (tree_of v)))) ≡ false
unfolding is_push
push_got (Push ts) h = pushed (list_of (all_carried Three (trees_of ts)))
push_got v h = absurd (let no : ⊥ = cc in no)

-- ---- on a link where all but pushes are replies

module _ (m : ClientMode) (w : Wire) (plain : (v : Value) → notice_of m w v ≡ kind_of v) where
  no_group : NoMessage (is_reply_sent m w) false
  unfolding is_reply_sent is_push
  no_group = record {
    push =
        λ keys. ap is_reply (plain (value_of (carried Three (tree_of (push_of keys)))))
        ∙ push_got (push_of keys) refl;
    notice =
        λ target. let v = messages.notice_of target in
        ap is_reply (plain (value_of (carried Three (tree_of v)))) ∙ push_got v refl;
    message = λ on keys. absurd (let no : ⊥ = cc in no);
  }

  pub plain_no_message : (subscribed : Bool) → subscribed ≡ false
      → NoMessage (is_reply_sent m w) subscribed
  plain_no_message subscribed off = subst (NoMessage (is_reply_sent m w)) (sym off) no_group

  pub plain_pass : (l : Limits) (c : ℕ) (past : List Entry) → KeepsOff c past
      → RepliesPass (is_reply_sent m w) l c past
  unfolding is_reply_sent
  plain_pass l c past keeps = record {
    no_end = refl;
    no_message =
        λ up o. plain_no_message (mode l c up).subscribed
        (off_mode l c up (off_older c up past o keeps));
    own =
        λ id moment words up o own. let none = keeps id moment words up o own in
        let off : (mode l id up).subscribed ≡ false =
        ap (λ d. (mode l d up).subscribed) (eqb-true id c own)
        ∙ off_mode l c up (off_older c up past (older_tail (Run id words moment) up past o) keeps)
        in
        let proto = (made l up id words moment).mode.proto in
        let reply = (ran l up id words moment).reply in
        record {
          goes_on =
              none_stops (mode l id up) (served_reading words) (served_off (reading words) none);
          passes =
              ap is_reply (plain (value_of (carried proto (tree_of reply))))
              ∙ got_reply proto reply (reply_no_push l up id words moment off none);
        };
  }
