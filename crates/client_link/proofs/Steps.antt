-- What a client's step says by its reply, and what stays true of a log whatever is added to it.
use Rattle.std.proofs.Common.{◌≡◌, ◌≤◌, ◌+◌, ℕ, List, [], ◌∷◌, ◌++◌, length, take, drop, Bool, true}
use Rattle.std.proofs.Common.{false, cond, refl, ap, subst, ◌∙◌, arith, Some, None, length-append}
use Rattle.std.proofs.Common.{◌-◌, map, min, sym}
use Rattle.std.specs.Prelude.{Option, ◌||◌}
use Rattle.std.specs.List.{flat_map}
use Rattle.std.proofs.lemmas.Bool.Decides.{nat_tests}
use Rattle.std.proofs.lemmas.Grind.{flat_map-append}
use Rattle.std.proofs.lemmas.List.{length-drop}
use Rattle.turn_lock.specs.History.{IsPrefix}
use Rattle.resp_value.specs.Lists.{IsPrefix as IsFront}
use Rattle.resp_value.specs.Spelling.{request_spelling}
use Rattle.resp_value.specs.declared.value.Value.{Value}
use Rattle.shared_cache.specs.declared.log.Wire.{Wire}
use Rattle.shared_cache.specs.declared.log.Wire.TheVariants.{Main, Side}
use Rattle.shared_cache.specs.declared.log.LogEntry.{LogEntry}
use Rattle.shared_cache.specs.declared.log.LogEntry.TheVariants as entry
use Rattle.shared_cache.specs.declared.log.ClientCall.TheVariants.{Ask, Send, Poll, TakeOut, Got}
use Rattle.shared_cache.specs.declared.log.ClientCall.TheVariants.{End}
use Rattle.shared_cache.specs.declared.log.ClientReply.TheVariants.{Hit, Sent, Answer, Bytes, Quiet}
use Rattle.shared_cache.specs.declared.log.ClientReply.TheVariants.{Noted, Refused}
use Rattle.shared_cache.specs.declared.log.ClientRefusal.{ClientRefusal}
use Rattle.shared_cache.specs.declared.log.ClientRefusal.TheVariants.{Down, LogFull}
use Rattle.shared_cache.specs.declared.entry.CacheEntry.{CacheEntry}
use Rattle.shared_cache.specs.declared.log.Shape.{Shape}
use Rattle.shared_cache.specs.declared.log.Shape.TheVariants.{Single, Pair}
use Rattle.shared_cache.specs.Log.{ends_wire, handshake, is_ended, is_ready, is_wire, reply}
use Rattle.shared_cache.specs.Held.{Setup, SentCommand, held, held_for, sent}
use Rattle.shared_cache.specs.Out.{out, taken, untaken}
use Rattle.shared_cache.specs.Steps.{ClientTurn, client_step, refusing, is_log_full}
use Rattle.shared_cache.specs.Steps.{read_number, command_number, getting}
use Rattle.shared_cache.proofs.CommandLists.{after, main_grows}
use Rattle.shared_cache.proofs.Handshakes.{handshake_grows, side_same}

module _ (w : Wire) (log new : List LogEntry) where
  -- ---- Got, where the log is as before

  got_down_in : (v : Value) (over : Bool) (o : Option ClientRefusal) (full : Bool) (u : Wire)
      → new ≡ log
      → cond over (refusing (Down w) log) (getting o w v full log)
      ≡ record { reply = Refused (Down u); past = new } → over ≡ true
  got_down_in v true o full u same is = refl
  got_down_in v false (Some r) full u same is =
      absurd (let e : entry.Bad w v ∷ log ≡ log = ap (λ (t : ClientTurn). t.past) is ∙ same in
      omega (arith, ap length e))
  got_down_in v false None true u same is = grind arith
  got_down_in v false None false u same is = grind arith

  got_full_in : (v : Value) (over : Bool) (o : Option ClientRefusal) (full : Bool) (k : ℕ)
      → new ≡ log
      → cond over (refusing (Down w) log) (getting o w v full log)
      ≡ record { reply = Refused (LogFull k); past = new } → full ≡ true
  got_full_in v true o full k same is = grind arith
  got_full_in v false (Some r) full k same is =
      absurd (let e : entry.Bad w v ∷ log ≡ log = ap (λ (t : ClientTurn). t.past) is ∙ same in
      omega (arith, ap length e))
  got_full_in v false None true k same is = refl
  got_full_in v false None false k same is = grind arith

module _ (s : Setup) (log : List LogEntry) where
  pub quiet_none : (w : Wire) (n : ℕ) (new : List LogEntry)
      → client_step s log (TakeOut w n) ≡ record { reply = Quiet; past = new }
      → untaken s w log ≡ []
  unfolding client_step
  quiet_none w n new is = grind (arith, nat_tests)

  pub bytes_given : (w : Wire) (n : ℕ) (given : List ℕ) (new : List LogEntry)
      → client_step s log (TakeOut w n) ≡ record { reply = Bytes given; past = new }
      → given ≡ take n (untaken s w log)
  unfolding client_step
  bytes_given w n given new is = grind (arith, nat_tests)

  pub take_down : (w : Wire) (n : ℕ) (u : Wire) (new : List LogEntry)
      → client_step s log (TakeOut w n) ≡ record { reply = Refused (Down u); past = new }
      → is_ended s.mode w log ≡ true
  unfolding client_step
  take_down w n u new is = grind (arith, nat_tests)

  pub take_full : (w : Wire) (n k : ℕ) (new : List LogEntry)
      → client_step s log (TakeOut w n) ≡ record { reply = Refused (LogFull k); past = new }
      → is_log_full s log ≡ true
  unfolding client_step
  take_full w n k new is = grind (arith, nat_tests)

  pub got_down : (w : Wire) (v : Value) (u : Wire)
      → client_step s log (Got w v) ≡ record { reply = Refused (Down u); past = log }
      → is_ended s.mode w log ≡ true
  unfolding client_step
  got_down w v u is = grind (arith, got_down_in)

  pub got_full : (w : Wire) (v : Value) (k : ℕ)
      → client_step s log (Got w v) ≡ record { reply = Refused (LogFull k); past = log }
      → is_log_full s log ≡ true
  unfolding client_step
  got_full w v k is = grind (arith, got_full_in)

  pub ask_hit : (q : List (List ℕ)) (v : Value) (k : ℕ) (new : List LogEntry)
      → client_step s log (Ask q) ≡ record { reply = Hit v k; past = new }
      → (h : CacheEntry) × (held_for q (held s log) ≡ Some h) × (v ≡ h.value) × (k ≡ h.number)
  unfolding client_step
  ask_hit q v k new is = grind (arith, nat_tests)

  pub ask_sent : (q : List (List ℕ)) (k : ℕ) (new : List LogEntry)
      → client_step s log (Ask q) ≡ record { reply = Sent k; past = new }
      → (held_for q (held s log) ≡ None) × (k ≡ read_number s log q)
  unfolding client_step
  ask_sent q k new is = grind (arith, nat_tests)

  pub send_sent : (ws : List (List ℕ)) (k : ℕ) (new : List LogEntry)
      → client_step s log (Send ws) ≡ record { reply = Sent k; past = new }
      → k ≡ command_number s log ws
  unfolding client_step
  send_sent ws k new is = grind (arith, nat_tests)

  pub poll_answer : (n : ℕ) (v : Value) (new : List LogEntry)
      → client_step s log (Poll n) ≡ record { reply = Answer v; past = new }
      → reply s.mode log n ≡ Some v
  unfolding client_step
  poll_answer n v new is = grind (arith, nat_tests)

  end_in : (w : Wire) (over : Bool) → cond over log (entry.End w ∷ log) ≡ log → over ≡ true
  end_in w true is = refl
  end_in w false is = absurd (omega (arith, ap length is))

  pub end_over : (w : Wire) → client_step s log (End w) ≡ record { reply = Noted; past = log }
      → is_ended s.mode w log ≡ true
  unfolding client_step
  end_over w is = end_in w (is_ended s.mode w log) (ap (λ (t : ClientTurn). t.past) is)

  nothing_left : (n : ℕ) (xs : List ℕ) → drop n xs ≡ [] → length xs ≤ n
  nothing_left n xs h = omega (arith, ap length h, length-drop n xs)

  -- nothing is queued, so all was taken
  pub all_taken : (w : Wire) → untaken s w log ≡ [] → length (out s w log) ≤ taken s w log
  unfolding untaken
  all_taken w none = nothing_left (taken s w log) (out s w log) none

-- ---- what any entries leave true

pub begins_lift : (P : List LogEntry → Type 0)
    → ((e : LogEntry) (past : List LogEntry) → P past → P (e ∷ past)) → (a b : List LogEntry)
    → IsPrefix a b → P a → P b
begins_lift P one a b more p = subst P more.1 (by_more more.0)
  where
    by_more : (xs : List LogEntry) → P (xs ++ a)
    by_more [] = p
    by_more (x ∷ xs) = one x (xs ++ a) (by_more xs)

flat_longer : (f : List (List ℕ) → List ℕ) (xs ys : List (List (List ℕ)))
    → length (flat_map f xs) ≤ length (flat_map f (xs ++ ys))
flat_longer f [] ys = omega arith
flat_longer f (x ∷ xs) ys = grind (arith, length-append, flat_longer f xs ys)

-- both parts are longer, so the whole is
both_longer : (f : List (List ℕ) → List ℕ) (xs more ys others : List (List (List ℕ)))
    → IsFront xs more → IsFront ys others
    → length (flat_map f (xs ++ ys)) ≤ length (flat_map f (more ++ others))
both_longer f xs more ys others p q =
    let a : length (flat_map f xs) ≤ length (flat_map f more) =
    subst (λ z. length (flat_map f xs) ≤ length (flat_map f z)) p.1 (flat_longer f xs p.0) in
    let b : length (flat_map f ys) ≤ length (flat_map f others) =
    subst (λ z. length (flat_map f ys) ≤ length (flat_map f z)) q.1 (flat_longer f ys q.0) in
    omega (
      arith,
      a,
      b,
      ap length (flat_map-append f xs ys),
      length-append (flat_map f xs) (flat_map f ys),
      ap length (flat_map-append f more others),
      length-append (flat_map f more) (flat_map f others),
    )

module _ (s : Setup) where
  out_one : (w : Wire) (e : LogEntry) (log : List LogEntry)
      → length (out s w log) ≤ length (out s w (e ∷ log))
  unfolding out
  out_one Side e log =
      subst (λ h. length (flat_map request_spelling (handshake s.mode Side log ++ []))
      ≤ length (flat_map request_spelling (h ++ []))) (sym (side_same s.mode log (e ∷ log)))
      (omega arith)
  out_one Main e log =
      both_longer request_spelling (handshake s.mode Main log) (handshake s.mode Main (e ∷ log))
      (map (λ (c : SentCommand). c.words) (sent s log))
      (map (λ (c : SentCommand). c.words) (sent s (e ∷ log))) (handshake_grows s.mode e log)
      (after [] (sent s log) (sent s (e ∷ log)) (main_grows s e log))

  pub out_begins : (w : Wire) (a b : List LogEntry) → IsPrefix a b
      → length (out s w a) ≤ length (out s w b)
  out_begins w a b more =
      begins_lift (λ past. length (out s w a) ≤ length (out s w past))
      (λ e past h. let o = out_one w e past in omega (arith, h, o)) a b more (omega arith)

  taken_if : (b : Bool) (n more : ℕ) → n ≤ cond b (n + more) n
  taken_if b n more = grind (arith, nat_tests)

  taken_one : (w : Wire) (e : LogEntry) (log : List LogEntry)
      → taken s w log ≤ taken s w (e ∷ log)
  taken_one w (entry.TakeOut u n) log =
      taken_if (is_wire u w) (taken s w log) (min n (length (out s w log) - taken s w log))
  taken_one w e log = omega arith

  pub taken_begins : (w : Wire) (a b : List LogEntry) → IsPrefix a b
      → taken s w a ≤ taken s w b
  taken_begins w a b more =
      begins_lift (λ past. taken s w a ≤ taken s w past)
      (λ e past h. let o = taken_one w e past in omega (arith, h, o)) a b more (omega arith)

  pub full_begins : (a b : List LogEntry) → IsPrefix a b → is_log_full s a ≡ true
      → is_log_full s b ≡ true
  full_begins a b more = begins_lift (λ past. is_log_full s past ≡ true) one a b more
    where
      one : (e : LogEntry) (past : List LogEntry) → is_log_full s past ≡ true
          → is_log_full s (e ∷ past) ≡ true
      one e past h = grind (arith, nat_tests, h)

  -- an end of a link ends that link
  own_wire : (shape : Shape) (w : Wire) (ready : Bool) → ends_wire shape w w ready ≡ true
  own_wire Single Main ready = refl
  own_wire Single Side ready = refl
  own_wire Pair Main ready = refl
  own_wire Pair Side ready = refl

  pub end_own : (w : Wire) (log : List LogEntry) → is_ended s.mode w (entry.End w ∷ log) ≡ true
  end_own w log =
      ap (λ b. b || is_ended s.mode w log) (own_wire s.mode.shape w (is_ready s.mode log))

  pub bad_own : (w : Wire) (v : Value) (log : List LogEntry)
      → is_ended s.mode w (entry.Bad w v ∷ log) ≡ true
  bad_own w v log =
      ap (λ b. b || is_ended s.mode w log) (own_wire s.mode.shape w (is_ready s.mode log))

  ended_if : (b over : Bool) → over ≡ true → (b || over) ≡ true
  ended_if b over h = grind (arith, nat_tests)

  ended_one : (w : Wire) (e : LogEntry) (log : List LogEntry) → is_ended s.mode w log ≡ true
      → is_ended s.mode w (e ∷ log) ≡ true
  ended_one w (entry.End u) log h = ended_if _ _ h
  ended_one w (entry.Bad u v) log h = ended_if _ _ h
  ended_one w e log h = h

  pub ended_begins : (w : Wire) (a b : List LogEntry) → IsPrefix a b
      → is_ended s.mode w a ≡ true → is_ended s.mode w b ≡ true
  ended_begins w a b more =
      begins_lift (λ past. is_ended s.mode w past ≡ true) (ended_one w) a b more
