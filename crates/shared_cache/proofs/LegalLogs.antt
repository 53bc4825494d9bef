-- What a turn adds to a legal log, and that it stays legal.
use Rattle.std.proofs.Common.{◌≡◌, ◌<◌, ◌≤◌, ◌⊎◌, ℕ, List, [], ◌∷◌, length, Bool, true, false, cond}
use Rattle.std.proofs.Common.{◌+◌, None, sym, ap, ◌∙◌, subst, inl, inr, refl, arith}
use Rattle.std.proofs.Common.{length-append, ne_eqb}
use Rattle.std.proofs.lemmas.Bool.{cases_Bool}
use Rattle.resp_value.specs.declared.value.Value.{Value}
use Rattle.command_words.specs.Control.{is_control}
use Rattle.shared_cache.specs.declared.log.Wire.{Wire}
use Rattle.shared_cache.specs.declared.log.Wire.TheVariants.{Main, Side}
use Rattle.shared_cache.specs.declared.log.ClientMode.{ClientMode}
use Rattle.shared_cache.specs.declared.log.ClientCall.{ClientCall}
use Rattle.shared_cache.specs.declared.log.ClientCall.TheVariants as call
use Rattle.shared_cache.specs.declared.log.ClientReply.{ClientReply}
use Rattle.shared_cache.specs.declared.log.ClientReply.TheVariants.{Refused}
use Rattle.shared_cache.specs.declared.log.ClientRefusal.{ClientRefusal}
use Rattle.shared_cache.specs.declared.log.ClientRefusal.TheVariants.{NoMemory}
use Rattle.shared_cache.specs.declared.log.LogEntry.{LogEntry}
use Rattle.shared_cache.specs.declared.log.LogEntry.TheVariants.{Ask, Send, Poll, TakeOut, Got, End}
use Rattle.shared_cache.specs.declared.log.LogEntry.TheVariants.{Bad}
use Rattle.shared_cache.specs.declared.notices.Notice.{Notice}
use Rattle.shared_cache.specs.Notices.{notice_of}
use Rattle.shared_cache.specs.Log.{HasWire, handshake_length, handshake, replies, reply_in}
use Rattle.shared_cache.specs.Log.{with_reply, is_accepted, is_ended, is_ready, is_told, caching_on}
use Rattle.shared_cache.specs.Held.{Setup, put_command, numbers, sent, commands}
use Rattle.shared_cache.specs.Steps.{ClientTurn, refusing, judged, fault_of, client_step}
use Rattle.std.proofs.lemmas.Bool.{not-false}
use Rattle.shared_cache.specs.Laws.{IsQuery, IsCall, AsksQuery, LegalLog, LegalStep}
use Rattle.shared_cache.proofs.Handshakes.{put_count, handshake_longer, handshake_within, partial}
use Rattle.shared_cache.proofs.Handshakes.{told_later}

-- ---- what a turn adds

no_entry : (log : List LogEntry) (e : LogEntry) → log ≡ e ∷ log → ⊥
no_entry log e h = let f : length log ≡ length (e ∷ log) = ap length h in omega arith

-- what is known of an entry that a call added
abbrev pub Known : Setup → List LogEntry → LogEntry → Type 0
Known s log (Ask q) = IsQuery q × (is_ready s.mode log ≡ true)
Known s log (Send ws) = (is_control ws ≡ false) × (is_ready s.mode log ≡ true) × (0 < length ws)
Known s log (Poll n) = Unit {0}
Known s log (TakeOut w n) = Unit {0}
Known s log (Got w v) =
    HasWire s.mode.shape w × (fault_of s log w v ≡ None) × (is_ended s.mode w log ≡ false)
Known s log (End w) = Unit {0}
Known s log (Bad w v) = Unit {0}

is_head : (log : List LogEntry) (e f : LogEntry) (P : LogEntry → Type 0) → e ∷ log ≡ f ∷ log → P e
    → P f
is_head log e f P h p = let g : e ≡ f = cc in subst P g p

-- a turn adds nothing, or an entry of which this is known
abbrev Adds : Setup → List LogEntry → ClientTurn → Type 0
Adds s log t = (t.past ≡ log) ⊎ ((e : LogEntry) × (t.past ≡ e ∷ log) × Known s log e)

unless_refused : (s : Setup) (log : List LogEntry) (b : Bool) (r : ClientRefusal) (t : ClientTurn)
    → (b ≡ false → Adds s log t) → Adds s log (cond b (refusing r log) t)
unless_refused s log b r t adds = grind arith

step_adds : (s : Setup) (log : List LogEntry) (c : ClientCall) → IsCall s.mode c → AsksQuery c
    → Adds s log (client_step s log c)
unfolding client_step
step_adds s log (call.Ask q) is query = grind (arith, unless_refused, not-false)
step_adds s log (call.Send ws) is query = grind (arith, unless_refused, not-false)
step_adds s log (call.Poll n) is query = grind (arith, unless_refused)
step_adds s log (call.TakeOut w n) is query = grind (arith, unless_refused)
step_adds s log (call.Got w v) is query = grind (arith, unless_refused)
step_adds s log (call.End w) is query = grind arith

known : (s : Setup) (log : List LogEntry) (c : ClientCall) (e : LogEntry) → IsCall s.mode c
    → AsksQuery c
    → (client_step s log c).past ≡ e ∷ log → Known s log e
known s log c e is query h = elim (step_adds s log c is query) [
  | inl same ↦ absurd (no_entry log e (sym same ∙ h))
  | inr new ↦ is_head log new.0 e (Known s log) (sym new.1 ∙ h) new.2
]

pub newest : (s : Setup) (log : List LogEntry) (e : LogEntry) → LegalLog s (e ∷ log) → Known s log e
newest s log e l = known s log l.1.0 e l.1.1 l.1.2 l.1.3

one_reply_more : (k : Notice) (m : ClientMode) (w : Wire) (v : Value) (vs : List Value) (sent : ℕ)
    → length vs ≤ sent → judged m w (length vs) sent v k ≡ None
    → length (with_reply true k v vs) ≤ sent
one_reply_more k m w v vs sent le e = grind arith

pub opened : (s : Setup) (log : List LogEntry) (w : Wire) (v : Value) → fault_of s log w v ≡ None
    → judged s.mode w (length (replies s.mode w log)) (length (commands s w log)) v
    (notice_of s.mode w v) ≡ None
unfolding fault_of
opened s log w v e = e

-- as many commands went out on Main
put_more : (s : Setup) (e : LogEntry) (log : List LogEntry) (n : ℕ)
    → length (sent s log) ≤ length (sent s (e ∷ log)) → n ≤ length (commands s Main log)
    → n ≤ length (commands s Main (e ∷ log))
put_more s e log n more le =
    let old = put_count s log in
    let new = put_count s (e ∷ log) in
    let longer = handshake_longer s.mode e log in
    omega arith

pub replies_within_put : (s : Setup) (log : List LogEntry) → LegalLog s log
    → length (replies s.mode Main log) ≤ length (commands s Main log)
replies_within_put s [] l = omega arith
replies_within_put s (Ask q ∷ log) l =
    put_more s (Ask q) log (length (replies s.mode Main log))
    (grind (arith, length-append)) (replies_within_put s log l.0)
replies_within_put s (Send ws ∷ log) l =
    put_more s (Send ws) log (length (replies s.mode Main log))
    (omega (arith, length-append (sent s log) (put_command s.mode (caching_on s.mode log) ws)))
    (replies_within_put s log l.0)
replies_within_put s (Poll n ∷ log) l = replies_within_put s log l.0
replies_within_put s (TakeOut w n ∷ log) l = replies_within_put s log l.0
replies_within_put s (Got Main v ∷ log) l =
    one_reply_more (notice_of s.mode Main v) s.mode Main v (replies s.mode Main log)
    (length (commands s Main log)) (replies_within_put s log l.0)
    (opened s log Main v (newest s log (Got Main v) l).1)
replies_within_put s (Got Side v ∷ log) l =
    put_more s (Got Side v) log (length (replies s.mode Main log)) (omega arith)
    (replies_within_put s log l.0)
replies_within_put s (End w ∷ log) l = replies_within_put s log l.0
replies_within_put s (Bad w v ∷ log) l = replies_within_put s log l.0

pub replies_within : (s : Setup) (log : List LogEntry) → LegalLog s log
    → length (replies s.mode Main log) ≤ numbers s log
replies_within s log l =
    let w = replies_within_put s log l in
    let c = put_count s log in
    let h = handshake_within s.mode log in
    omega arith

-- ---- nothing is sent before Side is told

pub accepted_there : (n : ℕ) (vs : List Value) → is_accepted (reply_in n vs) ≡ true → n ≤ length vs
accepted_there n [] e = cc
accepted_there n (v ∷ vs) e = grind (arith, ne_eqb, accepted_there n vs)

pub ready_replied : (m : ClientMode) (log : List LogEntry) → is_ready m log ≡ true
    → handshake_length m ≤ length (replies m Main log)
ready_replied m log e = accepted_there (handshake_length m) (replies m Main log) e

-- a client that is ready has sent all of its handshake, so Side was told
pub ready_told : (s : Setup) (log : List LogEntry) (replied : ℕ)
    → (is_told s.mode log ≡ true) ⊎ (sent s log ≡ [])
    → replied ≤ length (handshake s.mode Main log) + length (sent s log)
    → handshake_length s.mode ≤ replied → is_told s.mode log ≡ true
ready_told s log replied (inl told) within le = told
ready_told s log replied (inr none) within le = elim (cases_Bool (is_told s.mode log)) [
  | inl told ↦ told
  | inr not_ ↦
      absurd (omega (arith, partial s.mode log not_, ap length none))
]

ready_after : (s : Setup) (log : List LogEntry) → LegalLog s log
    → (is_told s.mode log ≡ true) ⊎ (sent s log ≡ []) → is_ready s.mode log ≡ true
    → is_told s.mode log ≡ true
ready_after s log l before e =
    ready_told s log (length (replies s.mode Main log)) before
    (let w = replies_within_put s log l in let c = put_count s log in omega arith)
    (ready_replied s.mode log e)

pub told_first : (s : Setup) (log : List LogEntry) → LegalLog s log
    → (is_told s.mode log ≡ true) ⊎ (sent s log ≡ [])
told_first s [] l = inr refl
told_first s (Ask q ∷ log) l =
    inl (told_later s.mode (Ask q) log
    (ready_after s log l.0 (told_first s log l.0) (newest s log (Ask q) l).1))
told_first s (Send ws ∷ log) l =
    inl (told_later s.mode (Send ws) log
    (ready_after s log l.0 (told_first s log l.0) (newest s log (Send ws) l).1))
told_first s (Poll n ∷ log) l = told_first s log l.0
told_first s (TakeOut w n ∷ log) l = told_first s log l.0
told_first s (Got w v ∷ log) l = elim (told_first s log l.0) [
  | inl told ↦ inl (told_later s.mode (Got w v) log told)
  | inr none ↦ inr none
]
told_first s (End w ∷ log) l = told_first s log l.0
told_first s (Bad w v ∷ log) l = told_first s log l.0

pub told_when_ready : (s : Setup) (log : List LogEntry) → LegalLog s log
    → is_ready s.mode log ≡ true → is_told s.mode log ≡ true
told_when_ready s log l e = ready_after s log l (told_first s log l) e

-- ---- a turn leaves a legal log legal

legal_after : (s : Setup) (log new : List LogEntry) (c : ClientCall) (r : ClientReply)
    → LegalLog s log → IsCall s.mode c → AsksQuery c
    → client_step s log c ≡ record { reply = r; past = new } → LegalLog s new
legal_after s log new c r l is query e = grind (arith, step_adds)

pub legal_step : LegalStep
legal_step s log new c (Refused NoMemory) l is query e = subst (LegalLog s) (sym e.1) l
legal_step s log new c h l is query e = legal_after s log new c _ l is query e
