-- What a turn is, by what its checks found.
use Rattle.std.proofs.Common.{◌≡◌, ◌==◌, ◌+◌, ◌<◌, ◌≤◌, ℕ, List, [], ◌∷◌, length, take}
use Rattle.std.proofs.Common.{Bool, true, false, cond, not, Option, Some, None, sym, ap, ◌∙◌, refl}
use Rattle.std.proofs.Common.{arith}
use Rattle.std.specs.Prelude.{◌-◌, nat_le, nat_lt}
use Rattle.std.specs.List.{slice_get}
use Rattle.std.proofs.lemmas.Bool.{and_left, and_right, le-ltb}
use Rattle.resp_value.specs.declared.value.Value.{Value}
use Rattle.command_words.specs.Control.{is_control}
use Rattle.shared_cache.specs.declared.log.Wire.{Wire}
use Rattle.shared_cache.specs.declared.log.Wire.TheVariants.{Main}
use Rattle.shared_cache.specs.declared.log.LogEntry.{LogEntry}
use Rattle.shared_cache.specs.declared.log.LogEntry.TheVariants as entry
use Rattle.shared_cache.specs.declared.log.ClientCall.{ClientCall}
use Rattle.shared_cache.specs.declared.log.ClientCall.TheVariants.{Ask, Send, Poll, TakeOut, Got}
use Rattle.shared_cache.specs.declared.log.ClientCall.TheVariants.{End}
use Rattle.shared_cache.specs.declared.log.ClientReply.{ClientReply}
use Rattle.shared_cache.specs.declared.log.ClientReply.TheVariants.{Sent, Bytes, Quiet, Noted}
use Rattle.shared_cache.specs.declared.log.ClientReply.TheVariants.{Refused}
use Rattle.shared_cache.specs.declared.log.ClientRefusal.{ClientRefusal}
use Rattle.shared_cache.specs.declared.log.ClientRefusal.TheVariants.{Down, Unexpected, BadPush}
use Rattle.shared_cache.specs.declared.log.ClientRefusal.TheVariants.{LogFull, SetupRefused}
use Rattle.shared_cache.specs.declared.log.ClientRefusal.TheVariants.{NotReady, Control, NoNumber}
use Rattle.shared_cache.specs.declared.entry.CacheEntry.{CacheEntry}
use Rattle.shared_cache.specs.declared.notices.Notice.{Notice}
use Rattle.shared_cache.specs.declared.notices.Notice.TheVariants.{Reply, Keys, All, Broken, Other}
use Rattle.shared_cache.specs.declared.notices.Notice.TheVariants.{Malformed}
use Rattle.shared_cache.specs.Notices.{notice_of, IsPush}
use Rattle.shared_cache.specs.Log.{handshake_length, first_number, replies, reply, is_ended}
use Rattle.shared_cache.specs.Log.{is_ready}
use Rattle.shared_cache.specs.Held.{Setup, Words, Caller, SentCommand, sent, put_ask, held}
use Rattle.shared_cache.specs.Held.{held_for, numbers, put_command, commands}
use Rattle.shared_cache.specs.declared.log.Caching.TheVariants.{Default}
use Rattle.shared_cache.specs.Out.{untaken, is_polled, is_callers, was_given, is_wanted}
use Rattle.shared_cache.specs.Laws.{Every}
use Rattle.shared_cache.proofs.Every.{every_append}
use Rattle.std.proofs.lemmas.Option.{slice_get_past}
use Rattle.shared_cache.specs.declared.log.ClientMode.{ClientMode}
use Rattle.shared_cache.specs.Steps.{refusing, is_log_full, read_number, command_number, answer_ask}
use Rattle.shared_cache.specs.Steps.{polling, taking_out, is_welcome, judged, fault_of, getting}
use Rattle.shared_cache.specs.Steps.{client_step, ClientStep, MayRunOut, NeedsRoom}

-- an answer to an Ask is the step's
pub stepped : (s : Setup) (log new : List LogEntry) (call : ClientCall) (o : Option CacheEntry)
    (n : ℕ) (r : ClientReply)
    → client_step s log call ≡ record { reply = answer_ask o n; past = new } → r ≡ answer_ask o n
    → ClientStep s log call r new
stepped s log new call o n r e f = grind arith

-- memory ran out where the step would have added an entry
pub ran_out : (s : Setup) (log new : List LogEntry) (call : ClientCall) (e : LogEntry)
    (r : ClientReply) → NeedsRoom e
    → client_step s log call ≡ record { reply = r; past = e ∷ log } → new ≡ log
    → MayRunOut s log call × (new ≡ log)
ran_out s log new call e r room is same = grind arith

-- ---- in default mode each command after the handshake is a caller's

ask_callers : (o : Option CacheEntry) (m : ClientMode) (on : Bool) (q : Words)
    → m.caching ≡ Default → Every (λ (c : SentCommand). c.origin ≡ Caller) (put_ask o m on q)
ask_callers o m on q e = grind arith

send_callers : (m : ClientMode) (on : Bool) (ws : Words)
    → m.caching ≡ Default → Every (λ (c : SentCommand). c.origin ≡ Caller) (put_command m on ws)
send_callers m on ws e = grind arith

pub sent_callers : (s : Setup) (log : List LogEntry) → s.mode.caching ≡ Default
    → Every (λ (c : SentCommand). c.origin ≡ Caller) (sent s log)
sent_callers s [] e = tt
sent_callers s (entry.Ask q ∷ log) e =
    grind (arith, every_append, ask_callers, sent_callers s log e)
sent_callers s (entry.Send ws ∷ log) e =
    grind (arith, every_append, send_callers, sent_callers s log e)
sent_callers s (entry.Poll n ∷ log) e = sent_callers s log e
sent_callers s (entry.TakeOut w n ∷ log) e = sent_callers s log e
sent_callers s (entry.Got w v ∷ log) e = sent_callers s log e
sent_callers s (entry.End w ∷ log) e = sent_callers s log e
sent_callers s (entry.Bad w v ∷ log) e = sent_callers s log e

module _ (s : Setup) (log : List LogEntry) where
  pub ask_down : (q : Words) → is_ended s.mode Main log ≡ true
      → client_step s log (Ask q) ≡ refusing (Down Main) log
  unfolding client_step
  ask_down q e = rw e refl

  pub ask_unready : (q : Words) → is_ended s.mode Main log ≡ false → is_ready s.mode log ≡ false
      → client_step s log (Ask q) ≡ refusing NotReady log
  unfolding client_step
  ask_unready q e r = rw (e, r) refl

  pub ask_full : (q : Words) → is_ended s.mode Main log ≡ false → is_ready s.mode log ≡ true
      → is_log_full s log ≡ true → client_step s log (Ask q) ≡ refusing (LogFull (length log)) log
  unfolding client_step
  ask_full q e r f = rw (e, r, f) refl

  pub ask_ok : (q : Words) → is_ended s.mode Main log ≡ false → is_ready s.mode log ≡ true
      → is_log_full s log ≡ false
      → client_step s log
      (Ask q) ≡ record {
        reply = answer_ask (held_for q (held s log)) (read_number s log q);
        past =
            entry.Ask q ∷ log;
      }
  unfolding client_step
  ask_ok q e r f = rw (e, r, f) refl

  pub send_down : (ws : Words) → is_ended s.mode Main log ≡ true
      → client_step s log (Send ws) ≡ refusing (Down Main) log
  unfolding client_step
  send_down ws e = rw e refl

  pub send_unready : (ws : Words) → is_ended s.mode Main log ≡ false → is_ready s.mode log ≡ false
      → client_step s log (Send ws) ≡ refusing NotReady log
  unfolding client_step
  send_unready ws e r = rw (e, r) refl

  pub send_control : (ws : Words) → is_ended s.mode Main log ≡ false → is_ready s.mode log ≡ true
      → is_control ws ≡ true → client_step s log (Send ws) ≡ refusing Control log
  unfolding client_step
  send_control ws e r c = rw (e, r, c) refl

  pub send_full : (ws : Words) → is_ended s.mode Main log ≡ false → is_ready s.mode log ≡ true
      → is_control ws ≡ false → is_log_full s log ≡ true
      → client_step s log (Send ws) ≡ refusing (LogFull (length log)) log
  unfolding client_step
  send_full ws e r c f = rw (e, r, c, f) refl

  pub send_ok : (ws : Words) → is_ended s.mode Main log ≡ false → is_ready s.mode log ≡ true
      → is_control ws ≡ false → is_log_full s log ≡ false
      → client_step s log
      (Send ws) ≡ record { reply = Sent (command_number s log ws); past = entry.Send ws ∷ log }
  unfolding client_step
  send_ok ws e r c f = rw (e, r, c, f) refl

  pub poll_unwanted : (n : ℕ) → is_wanted s log n ≡ false
      → client_step s log (Poll n) ≡ refusing (NoNumber n) log
  unfolding client_step
  poll_unwanted n e = grind arith

  pub poll_wanted : (n : ℕ) (o : Option Value) (over : Bool) → is_wanted s log n ≡ true
      → reply s.mode log n ≡ o → is_ended s.mode Main log ≡ over
      → client_step s log (Poll n) ≡ polling o n over log
  unfolding client_step
  poll_wanted n o over e f g = grind arith

  pub take_down : (w : Wire) (most : ℕ) → is_ended s.mode w log ≡ true
      → client_step s log (TakeOut w most) ≡ refusing (Down w) log
  unfolding client_step
  take_down w most e = rw e refl

  no_bytes : (w : Wire) (most : ℕ) (bytes : List ℕ) (full : Bool) → (length bytes == 0) ≡ true
      → taking_out w most bytes full log ≡ record { reply = Quiet; past = log }
  no_bytes w most bytes full e = grind arith

  some_bytes : (w : Wire) (most : ℕ) (bytes : List ℕ) → (length bytes == 0) ≡ false
      → taking_out w most bytes false log ≡ record
      { reply = Bytes (take most bytes); past = entry.TakeOut w most ∷ log }
  some_bytes w most bytes e = grind arith

  taking_is : (w : Wire) (most : ℕ) → is_ended s.mode w log ≡ false
      → client_step s log (TakeOut w most) ≡ taking_out w most (untaken s w log)
      (is_log_full s log) log
  unfolding client_step
  taking_is w most e = rw e refl

  pub take_quiet : (w : Wire) (most : ℕ) → is_ended s.mode w log ≡ false
      → (length (untaken s w log) == 0) ≡ true
      → client_step s log (TakeOut w most) ≡ record { reply = Quiet; past = log }
  take_quiet w most e f =
      taking_is w most e ∙ no_bytes w most (untaken s w log) (is_log_full s log) f

  pub take_full : (w : Wire) (most : ℕ) → is_ended s.mode w log ≡ false
      → (length (untaken s w log) == 0) ≡ false → is_log_full s log ≡ true
      → client_step s log (TakeOut w most) ≡ refusing (LogFull (length log)) log
  take_full w most e f g = grind (arith, taking_is)

  pub take_ok : (w : Wire) (most : ℕ) → is_ended s.mode w log ≡ false
      → (length (untaken s w log) == 0) ≡ false → is_log_full s log ≡ false
      → client_step s log
      (TakeOut w most) ≡ record
      { reply = Bytes (take most (untaken s w log)); past = entry.TakeOut w most ∷ log }
  take_ok w most e f g = grind (arith, taking_is, some_bytes)

  pub end_over : (w : Wire) → is_ended s.mode w log ≡ true
      → client_step s log (End w) ≡ record { reply = Noted; past = log }
  unfolding client_step
  end_over w e = rw e refl

  pub end_ok : (w : Wire) → is_ended s.mode w log ≡ false
      → client_step s log (End w) ≡ record { reply = Noted; past = entry.End w ∷ log }
  unfolding client_step
  end_ok w e = rw e refl

  pub got_down : (w : Wire) (v : Value) → is_ended s.mode w log ≡ true
      → client_step s log (Got w v) ≡ refusing (Down w) log
  unfolding client_step
  got_down w v e = rw e refl

  getting_is : (w : Wire) (v : Value) (f : Option ClientRefusal) → is_ended s.mode w log ≡ false
      → fault_of s log w v ≡ f
      → client_step s log (Got w v) ≡ getting f w v (is_log_full s log) log
  unfolding client_step
  getting_is w v f e g = rw (e, g) refl

  pub got_bad : (w : Wire) (v : Value) (r : ClientRefusal) → is_ended s.mode w log ≡ false
      → fault_of s log w v ≡ Some r
      → client_step s log (Got w v) ≡ record { reply = Refused r; past = entry.Bad w v ∷ log }
  got_bad w v r e f = getting_is w v (Some r) e f

  pub got_full : (w : Wire) (v : Value) → is_ended s.mode w log ≡ false
      → fault_of s log w v ≡ None → is_log_full s log ≡ true
      → client_step s log (Got w v) ≡ refusing (LogFull (length log)) log
  got_full w v e f g = getting_is w v None e f ∙ ap (λ b. getting None w v b log) g

  pub got_ok : (w : Wire) (v : Value) → is_ended s.mode w log ≡ false
      → fault_of s log w v ≡ None → is_log_full s log ≡ false
      → client_step s log (Got w v) ≡ record { reply = Noted; past = entry.Got w v ∷ log }
  got_ok w v e f g = getting_is w v None e f ∙ ap (λ b. getting None w v b log) g

  judged_as : (w : Wire) (v : Value) (n : Notice) → notice_of s.mode w v ≡ n
      → fault_of s log w v ≡ judged s.mode w (length (replies s.mode w log))
      (length (commands s w log)) v n
  unfolding fault_of
  judged_as w v n e =
      ap (judged s.mode w (length (replies s.mode w log)) (length (commands s w log)) v) e

  pub fault_malformed : (w : Wire) (v : Value) → notice_of s.mode w v ≡ Malformed
      → fault_of s log w v ≡ Some (BadPush w)
  fault_malformed w v e = judged_as w v Malformed e

  pub fault_push : (w : Wire) (v : Value) (n : Notice) → n ≡ notice_of s.mode w v → IsPush n
      → fault_of s log w v ≡ None
  fault_push w v Keys e p = judged_as w v Keys (sym e)
  fault_push w v All e p = judged_as w v All (sym e)
  fault_push w v Broken e p = judged_as w v Broken (sym e)
  fault_push w v Other e p = judged_as w v Other (sym e)
  fault_push w v n e p = absurd p

  pub fault_unexpected : (w : Wire) (v : Value) → notice_of s.mode w v ≡ Reply
      → nat_le (length (commands s w log)) (length (replies s.mode w log)) ≡ true
      → fault_of s log w v ≡ Some (Unexpected w)
  fault_unexpected w v e l = judged_as w v Reply e ∙ rw l refl

  pub fault_refused : (w : Wire) (v : Value) → notice_of s.mode w v ≡ Reply
      → nat_le (length (commands s w log)) (length (replies s.mode w log)) ≡ false
      → is_welcome s.mode w (length (replies s.mode w log) + 1) v ≡ false
      → fault_of s log w v ≡ Some (SetupRefused w)
  fault_refused w v e l h = judged_as w v Reply e
      ∙ rw l (ap (λ b. cond b None (Some (SetupRefused w))) h)

  pub fault_none : (w : Wire) (v : Value) → notice_of s.mode w v ≡ Reply
      → nat_le (length (commands s w log)) (length (replies s.mode w log)) ≡ false
      → is_welcome s.mode w (length (replies s.mode w log) + 1) v ≡ true
      → fault_of s log w v ≡ None
  fault_none w v e l h = judged_as w v Reply e
      ∙ rw l (ap (λ b. cond b None (Some (SetupRefused w))) h)

  cases_none : (w : Wire) (a b : Bool)
      → cond a (Some (Unexpected w)) (cond b None (Some (SetupRefused w))) ≡ None
      → (a ≡ false) × (b ≡ true)
  cases_none w a b e = grind arith

  pub awaits : (w : Wire) (v : Value) → notice_of s.mode w v ≡ Reply → fault_of s log w v ≡ None
      → (nat_le (length (commands s w log)) (length (replies s.mode w log)) ≡ false)
      × (is_welcome s.mode w (length (replies s.mode w log) + 1) v ≡ true)
  awaits w v e f =
      cases_none w (nat_le (length (commands s w log)) (length (replies s.mode w log)))
      (is_welcome s.mode w (length (replies s.mode w log) + 1) v)
      (sym (judged_as w v Reply e) ∙ f)

  -- ---- which numbers are wanted

  unwanted : (n : ℕ) → was_given s log n ≡ false → is_wanted s log n ≡ false
  unwanted n h = and_left (was_given s log n) (not (is_polled log n)) h

  pub handed : (n : ℕ) → is_polled log n ≡ true → is_wanted s log n ≡ false
  handed n h = and_right (was_given s log n) (not (is_polled log n)) (ap not h)

  pub low : (n : ℕ) → n ≤ handshake_length s.mode → is_wanted s log n ≡ false
  low n h =
      unwanted n (and_left (nat_lt (handshake_length s.mode) n)
      (is_callers (slice_get (sent s log) (n - first_number s.mode)))
      (le-ltb (handshake_length s.mode) n h))

  pub high : (n : ℕ) → numbers s log < n → is_wanted s log n ≡ false
  high n h =
      unwanted n (and_right (nat_lt (handshake_length s.mode) n)
      (is_callers (slice_get (sent s log) (n - first_number s.mode)))
      (ap is_callers (slice_get_past (sent s log) (n - first_number s.mode) (omega arith))))
