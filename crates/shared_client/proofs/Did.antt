-- What each reply to a client's turn says of its entry.
use Rattle.std.proofs.Common.{◌≡◌, ◌+◌, ℕ, List, [], ◌∷◌, length, Bool, true, false, cond, refl}
use Rattle.std.proofs.Common.{sym, ap, subst, arith, Some, None, inl, inr}
use Rattle.std.specs.Prelude.{Option, ◌⊎◌, ⊤, nat_le}
use Rattle.turn_lock.specs.History.{past_after}
use Rattle.resp_value.specs.declared.value.Value.{Value}
use Rattle.shared_cache.specs.declared.log.Wire.{Wire}
use Rattle.shared_cache.specs.declared.log.LogEntry.{LogEntry}
use Rattle.shared_cache.specs.declared.log.LogEntry.TheVariants as entry
use Rattle.shared_cache.specs.declared.log.ClientCall.{ClientCall}
use Rattle.shared_cache.specs.declared.log.ClientCall.TheVariants.{Ask, Send, Poll, TakeOut, Got}
use Rattle.shared_cache.specs.declared.log.ClientCall.TheVariants.{End}
use Rattle.shared_cache.specs.declared.log.ClientReply.{ClientReply}
use Rattle.shared_cache.specs.declared.log.ClientReply.TheVariants.{Hit, Sent, NotYet, Answer}
use Rattle.shared_cache.specs.declared.log.ClientReply.TheVariants.{Bytes, Quiet, Noted, Refused}
use Rattle.shared_cache.specs.declared.log.ClientRefusal.{ClientRefusal}
use Rattle.shared_cache.specs.declared.log.ClientRefusal.TheVariants.{Unexpected, BadPush, NoMemory}
use Rattle.shared_cache.specs.declared.log.ClientRefusal.TheVariants.{SetupRefused, NoNumber, Worn}
use Rattle.shared_cache.specs.declared.log.ClientMode.{ClientMode}
use Rattle.shared_cache.specs.declared.notices.Notice.{Notice}
use Rattle.shared_cache.specs.declared.notices.Notice.TheVariants.{Reply, Keys, All, Broken, Other}
use Rattle.shared_cache.specs.declared.notices.Notice.TheVariants.{Malformed}
use Rattle.shared_cache.specs.Notices.{notice_of}
use Rattle.shared_cache.specs.Log.{is_ended, replies, reply}
use Rattle.shared_cache.specs.Held.{Setup, commands}
use Rattle.shared_cache.specs.Laws.{LegalLog}
use Rattle.shared_cache.specs.Steps.{ClientTurn, client_step, ClientStep, MayRunOut, NeedsRoom}
use Rattle.shared_cache.specs.Steps.{refusing, polling, is_welcome, judged, fault_of}
use Rattle.shared_client.specs.Setups.{made_with, TurnStep}
use Rattle.shared_client.specs.Turns.{Allows}

-- the replies that a call may get, but for which refusals
abbrev pub comes : ClientCall → ClientReply → Bool
comes (Ask q) (Hit v n) = true
comes (Ask q) (Sent n) = true
comes (Send ws) (Sent n) = true
comes (Poll n) (Answer v) = true
comes (Poll n) NotYet = true
comes (TakeOut w most) (Bytes b) = true
comes (TakeOut w most) Quiet = true
comes (Got w v) Noted = true
comes (End w) Noted = true
comes (End w) (Refused r) = false
comes call (Refused r) = true
comes call r = false

abbrev IsWorn : ClientRefusal → Type 0
IsWorn Worn = ⊤
IsWorn r = ⊥

abbrev pub is_no_memory : ClientReply → Bool
is_no_memory (Refused NoMemory) = true
is_no_memory r = false

-- a refusal is one that the call may meet, and not want of a ticket
abbrev pub Meets : ClientCall → ClientReply → Type 0
Meets call (Refused r) = Allows call r × (IsWorn r → ⊥)
Meets call r = ⊤

-- the entry that a call adds which is answered so, if it adds one
abbrev pub entry_by : ClientCall → ClientReply → Option LogEntry
entry_by (Ask q) (Hit v n) = Some (entry.Ask q)
entry_by (Ask q) (Sent n) = Some (entry.Ask q)
entry_by (Send ws) (Sent n) = Some (entry.Send ws)
entry_by (Poll n) (Answer v) = Some (entry.Poll n)
entry_by (TakeOut w most) (Bytes b) = Some (entry.TakeOut w most)
entry_by (Got w v) Noted = Some (entry.Got w v)
entry_by (Got w v) (Refused (Unexpected u)) = Some (entry.Bad w v)
entry_by (Got w v) (Refused (BadPush u)) = Some (entry.Bad w v)
entry_by (Got w v) (Refused (SetupRefused u)) = Some (entry.Bad w v)
entry_by call r = None

-- an End adds none where the link has ended
abbrev pub Adding : ClientCall → ClientReply → Option LogEntry → Type 0
Adding (End w) r e = (e ≡ Some (entry.End w)) ⊎ (e ≡ None)
Adding call r e = e ≡ entry_by call r

-- a call's reply, and the log after it
abbrev pub Says : ClientCall → List LogEntry → ClientReply → List LogEntry → Type 0
Says call log r new =
    (comes call r ≡ true) × Meets call r × (e : Option LogEntry) × Adding call r e
    × (new ≡ past_after log e)

-- by the case of a test, which is known in each
by_test : {X : Type 0} (P : X → Type 0) (b : Bool) (x y : X) → (b ≡ true → P x)
    → (b ≡ false → P y) → P (cond b x y)
by_test P b e y f g = grind arith

-- ---- the values that end a link

abbrev IsFault : Option ClientRefusal → Type 0
IsFault None = Unit {0}
IsFault (Some (Unexpected w)) = Unit {0}
IsFault (Some (BadPush w)) = Unit {0}
IsFault (Some (SetupRefused w)) = Unit {0}
IsFault (Some r) = ⊥

judged_faults : (m : ClientMode) (w : Wire) (replied sent : ℕ) (v : Value) (n : Notice)
    → IsFault (judged m w replied sent v n)
judged_faults m w replied sent v Reply =
    by_test IsFault (nat_le sent replied) (Some (Unexpected w))
    (cond (is_welcome m w (replied + 1) v) None (Some (SetupRefused w))) (λ e. tt)
    (λ e. by_test IsFault (is_welcome m w (replied + 1) v) None (Some (SetupRefused w)) (λ e. tt)
    (λ e. tt))
judged_faults m w replied sent v Keys = tt
judged_faults m w replied sent v All = tt
judged_faults m w replied sent v Broken = tt
judged_faults m w replied sent v Other = tt
judged_faults m w replied sent v Malformed = tt

module _ (s : Setup) (log : List LogEntry) where
  abbrev TurnSays : ClientCall → ClientTurn → Type 0
  TurnSays call t = Says call log t.reply t.past

  end_says : (w : Wire) (over : Bool)
      → Says (End w) log Noted (cond over log (entry.End w ∷ log))
  end_says w true = (refl, tt, None, inr refl, refl)
  end_says w false = (refl, tt, Some (entry.End w), inl refl, refl)

  faults : (w : Wire) (v : Value) → IsFault (fault_of s log w v)
  unfolding fault_of
  faults w v =
      judged_faults s.mode w (length (replies s.mode w log)) (length (commands s w log)) v
      (notice_of s.mode w v)

  step_says : (call : ClientCall) → TurnSays call (client_step s log call)
  unfolding client_step
  step_says (Ask q) = grind (arith, by_test)
  step_says (Send ws) = grind (arith, by_test)
  step_says (Poll n) = grind (arith, by_test)
  step_says (TakeOut w most) = grind (arith, by_test)
  step_says (Got w v) = grind (arith, by_test, faults)
  step_says (End w) = end_says w (is_ended s.mode w log)

  abbrev first : LogEntry → List LogEntry → LogEntry
  first d [] = d
  first d (x ∷ xs) = x

  no_room_end : (w : Wire) (over : Bool) (e : LogEntry) → NeedsRoom e
      → cond over log (entry.End w ∷ log) ≡ e ∷ log → ⊥
  no_room_end w true e needs is = absurd (omega (arith, ap length is))
  no_room_end w false e needs is = subst NeedsRoom (ap (first e) (sym is)) needs

  no_room_poll : (n : ℕ) (o : Option Value) (over : Bool) (e : LogEntry) → NeedsRoom e
      → (polling o n over log).past ≡ e ∷ log → ⊥
  no_room_poll n (Some v) over e needs is = subst NeedsRoom (ap (first e) (sym is)) needs
  no_room_poll n None true e needs is = absurd (omega (arith, ap length is))
  no_room_poll n None false e needs is = absurd (omega (arith, ap length is))

  no_room_number : (n : ℕ) (b : Bool) (t : ClientTurn) (e : LogEntry) → NeedsRoom e
      → (t.past ≡ e ∷ log → ⊥)
      → (cond b (refusing (NoNumber n) log) t).past ≡ e ∷ log → ⊥
  no_room_number n true t e needs f is = absurd (omega (arith, ap length is))
  no_room_number n false t e needs f is = f is

  -- a Poll and an End take no memory
  memory_says : (call : ClientCall) → MayRunOut s log call → Says call log (Refused NoMemory) log
  unfolding client_step
  memory_says (Ask q) m = (refl, (tt, λ w. w), None, refl, refl)
  memory_says (Send ws) m = (refl, (tt, λ w. w), None, refl, refl)
  memory_says (Poll n) m = grind (arith, no_room_number, no_room_poll)
  memory_says (TakeOut w most) m = (refl, (tt, λ w. w), None, refl, refl)
  memory_says (Got w v) m = (refl, (tt, λ w. w), None, refl, refl)
  memory_says (End w) m = absurd (no_room_end w (is_ended s.mode w log) m.0 m.1 m.2)

  -- what the step says, a turn says
  by_step : (P : ClientReply → List LogEntry → Type 0) (call : ClientCall)
      → P (client_step s log call).reply (client_step s log call).past
      → (MayRunOut s log call → P (Refused NoMemory) log)
      → (reply : ClientReply) (new : List LogEntry) → ClientStep s log call reply new → P reply new
  by_step P call p m reply new is = grind arith

  pub says : (call : ClientCall) (reply : ClientReply) (new : List LogEntry)
      → ClientStep s log call reply new → Says call log reply new
  says call = by_step (λ r n. Says call log r n) call (step_says call) (memory_says call)

  -- but for want of memory a turn is the step
  pub stepped : (call : ClientCall) (reply : ClientReply) (new : List LogEntry)
      → ClientStep s log call reply new → is_no_memory reply ≡ false
      → client_step s log call ≡ record { reply = reply; past = new }
  stepped call = grind (arith, by_step)

-- a turn of a client is one that the lock's step allows
pub turned : (s u : Setup) (old past new : List LogEntry) (call : ClientCall) (reply : ClientReply)
    → ClientStep s old call reply new → (LegalLog s old → LegalLog u new) → u ≡ s → old ≡ past
    → (e : Option LogEntry) × TurnStep (made_with s) past call reply e × (new ≡ past_after past e)
turned s u old past new call reply does legal setup same = grind (arith, says)
