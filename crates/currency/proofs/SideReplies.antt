-- Of two links, what of all that is sent to Side's connection are the replies to its commands.
use Rattle.std.proofs.Common.{◌≡◌, ◌∙◌, ◌⊎◌, ℕ, ℤ, zero, suc, List, ◌∷◌, Bool, true}
use Rattle.std.proofs.Common.{length, false, cond, refl, ap, sym, arith, inl, inr, Some, codes}
use Rattle.std.specs.Prelude.{pos, slice_get}
use Rattle.std.proofs.lemmas.Option.{same_Some}
use Rattle.resp_value.specs.Lists.{IsPrefix}
use Rattle.resp_value.specs.Carried.{carried}
use Rattle.resp_value.specs.Tree.{Tree, blob}
use Rattle.resp_value.specs.ValueTree.{tree_of, value_of}
use Rattle.resp_value.specs.declared.value.Value.{Value}
use Rattle.resp_value.specs.declared.value.Value.TheVariants.{Error, Number}
use Rattle.resp_value.specs.declared.value.Proto.{Proto}
use Rattle.resp_value.specs.declared.value.Proto.TheVariants.{Two, Three}
use Rattle.command_words.specs.ClientWords.{client_reading}
use Rattle.command_words.specs.ConnectionWords.{connection_reading}
use Rattle.command_words.specs.Expiry.{without_due}
use Rattle.command_words.specs.HashWords.{hash_reading}
use Rattle.command_words.specs.KeyWords.{key_reading}
use Rattle.command_words.specs.Space.{Space}
use Rattle.command_words.specs.StringWords.{string_reading}
use Rattle.command_words.specs.Words.{reading}
use Rattle.track_modes.specs.ModeState.{ModeState}
use Rattle.redirect.specs.Messages.{keys_of, message_of, push_of}
use Rattle.redirect.specs.Messages as messages
use Rattle.serial_model.specs.declared.history.Limits.{Limits}
use Rattle.serial_model.specs.declared.history.Entry.{Entry}
use Rattle.serial_model.specs.declared.history.Entry.TheVariants.{Run}
use Rattle.serial_model.specs.Actions.{Message}
use Rattle.serial_model.specs.Modes.{Runner, Stays, is_stopping, subscription}
use Rattle.serial_model.specs.History.{ending_in, keyspace, made, mode, ran_over}
use Rattle.serial_model.specs.History.{runner, runs_of, served_reading}
use Rattle.serial_model.proofs.ModeSteps.{mode_own}
use Rattle.serial_model.proofs.ServedRows.{ran_cases}
use Rattle.shared_cache.specs.declared.log.ClientMode.{ClientMode}
use Rattle.shared_cache.specs.declared.log.LogEntry.{LogEntry}
use Rattle.shared_cache.specs.declared.log.Shape.TheVariants.{Pair}
use Rattle.shared_cache.specs.declared.log.Wire.TheVariants.{Side}
use Rattle.shared_cache.specs.Held.{Setup, commands}
use Rattle.shared_cache.specs.Notices.{channel, is_reply, notice_of, payload, side_kind}
use Rattle.currency.specs.Links.{is_reply_sent}
use Rattle.currency.proofs.OffChannel.{has_no_reply}
use Rattle.currency.proofs.PlainReplies.{plain_pass, push_got}
use Rattle.currency.proofs.PushReplies.{is_push}
use Rattle.currency.proofs.Replies.{NoMessage, RepliesPass}
use Rattle.currency.proofs.Settings.{hello_words}
use Rattle.currency.proofs.SideHandshake.{command_at, id_words, side_words, stays_two}
use Rattle.currency.proofs.SideHandshake.{subscribe_words}

-- ---- on the third protocol all but pushes are replies

three_off : (n : ℕ) (words : List (List ℕ)) → slice_get (side_words Three) n ≡ Some words
    → has_no_reply (reading words) ≡ false
unfolding reading string_reading hash_reading key_reading connection_reading client_reading
three_off zero words e =
    ap (λ ws. has_no_reply (reading ws)) (sym (same_Some hello_words words e))
three_off (suc zero) words e =
    ap (λ ws. has_no_reply (reading ws)) (sym (same_Some id_words words e))
three_off (suc (suc n)) words e = absurd (let no : ⊥ = cc in no)

-- ---- on the second a message is none, and each command has its reply

-- CLIENT ID or SUBSCRIBE
abbrev pub IsOnSide : List (List ℕ) → Type 0
IsOnSide words = (words ≡ id_words) ⊎ (words ≡ subscribe_words)

two_is : (n : ℕ) (words : List (List ℕ)) → slice_get (side_words Two) n ≡ Some words
    → IsOnSide words
two_is zero words e = inl (sym (same_Some id_words words e))
two_is (suc zero) words e = inr (sym (same_Some subscribe_words words e))
two_is (suc (suc n)) words e = absurd (let no : ⊥ = cc in no)

payload_got : (t : Tree) → is_reply (payload t) ≡ false
payload_got t = grind arith

stays : (b : Bool) → is_stopping (cond b Stays Stays) ≡ false
stays true = refl
stays false = refl

-- none of them stops the server
on_side_stays : (m : ModeState) (words : List (List ℕ)) → IsOnSide words
    → is_stopping (ending_in m (served_reading words)) ≡ false
unfolding reading string_reading hash_reading key_reading connection_reading client_reading
on_side_stays m words (inl is) =
    ap (λ ws. is_stopping (ending_in m (served_reading ws))) is ∙ stays _
on_side_stays m words (inr is) =
    ap (λ ws. is_stopping (ending_in m (served_reading ws))) is ∙ stays _

module _ (m : ClientMode) (two : m.proto ≡ Two) where
  -- as the client gets it
  got : (v : Value) → is_reply (notice_of m Side v) ≡ is_reply (side_kind Two v)
  got v = ap (λ p. is_reply (side_kind p v)) two

  two_no_message : (subscribed : Bool) → NoMessage (is_reply_sent m Side) subscribed
  unfolding is_reply_sent is_push
  two_no_message subscribed = record {
    push =
        λ keys. got (value_of (carried Three (tree_of (push_of keys))))
        ∙ push_got (push_of keys) refl;
    notice =
        λ target. let v = messages.notice_of target in
        got (value_of (carried Three (tree_of v))) ∙ push_got v refl;
    message =
        λ on keys. got (value_of (carried Two (tree_of (message_of keys))))
        ∙ payload_got (carried Two (tree_of (keys_of keys)));
  }

  number_got : (p : Proto) (i : ℤ) → is_reply_sent m Side (Message p (Number i)) ≡ true
  unfolding is_reply_sent
  number_got p i = got (Number i)

  error_got : (p : Proto) (text : List ℕ) → is_reply_sent m Side (Message p (Error text)) ≡ true
  unfolding is_reply_sent
  error_got p text = got (Error text)

  subscription_got : (p : Proto) → p ≡ Two
      → is_reply_sent m Side (Message p (subscription (codes "subscribe") (blob channel) true))
      ≡ true
  unfolding is_reply_sent
  subscription_got p is =
      let v = subscription (codes "subscribe") (blob channel) true in
      ap (λ q. is_reply (notice_of m Side (value_of (carried q (tree_of v))))) is
      ∙ got (value_of (carried Two (tree_of v)))

  replied : (by : Runner) (words : List (List ℕ)) (space : Space) (moment : ℕ) (p : Proto)
      → p ≡ Two → IsOnSide words
      → is_reply_sent m Side (Message p (ran_over space by words moment).reply) ≡ true
  unfolding reading string_reading hash_reading key_reading connection_reading client_reading
  replied by words space moment p is (inl words_are) =
      ap (λ ws. is_reply_sent m Side (Message p (ran_over space by ws moment).reply)) words_are
      ∙ ran_cases by id_words (λ e o. is_reply_sent m Side (Message p e.reply) ≡ true) space moment
      (number_got p (pos by.id)) (error_got p _)
  replied by words space moment p is (inr words_are) =
      ap (λ ws. is_reply_sent m Side (Message p (ran_over space by ws moment).reply)) words_are
      ∙ ran_cases by subscribe_words (λ e o. is_reply_sent m Side (Message p e.reply) ≡ true) space
      moment (subscription_got p is) (error_got p _)

-- ---- on either

module _ (s : Setup) (l : Limits) (log : List LogEntry) (pair : s.mode.shape ≡ Pair) (c : ℕ)
    (past : List Entry) (ran_prefix : IsPrefix (runs_of c past) (commands s Side log)) where
  on_two : s.mode.proto ≡ Two → RepliesPass (is_reply_sent s.mode Side) l c past
  unfolding is_reply_sent
  on_two is = record {
    no_end = refl;
    no_message = λ up o. two_no_message s.mode is (mode l c up).subscribed;
    own =
        λ id moment words up o own. let words_are = two_is (length (runs_of c up)) words
        (ap (λ p. slice_get (side_words p) (length (runs_of c up))) (sym is)
        ∙ command_at s l log pair c past ran_prefix id moment words up own o) in record {
          goes_on = on_side_stays (mode l id up) words words_are;
          passes =
              replied s.mode is (runner l up id words moment) words
              (without_due moment (keyspace l up)) moment
              (made l up id words moment).mode.proto
              (ap (λ (m : ModeState). m.proto) (sym (mode_own l c id moment words up own))
              ∙ stays_two s l log pair c past ran_prefix is (Run id words moment ∷ up) o) words_are;
        };
  }

  on_three : s.mode.proto ≡ Three → RepliesPass (is_reply_sent s.mode Side) l c past
  on_three is =
      plain_pass s.mode Side (λ v. ap (λ p. side_kind p v) is) l c past
      (λ id moment words up o own. three_off (length (runs_of c up)) words
      (ap (λ p. slice_get (side_words p) (length (runs_of c up))) (sym is)
      ∙ command_at s l log pair c past ran_prefix id moment words up own o))

  pub side_pass : RepliesPass (is_reply_sent s.mode Side) l c past
  side_pass = by s.mode.proto refl
    where
      by : (p : Proto) → s.mode.proto ≡ p → RepliesPass (is_reply_sent s.mode Side) l c past
      by Three is = on_three is
      by Two is = on_two is
