-- What a turn of a client does to its log: what it got, what it took out, and whether its links
-- have ended.
use Rattle.std.proofs.Common.{◌≡◌, ◌+◌, ◌-◌, ◌⊎◌, ℕ, List, [], ◌∷◌, ◌++◌, Bool, true, false, cond}
use Rattle.std.proofs.Common.{Some, None, Option, length, take, drop, min, inl, inr, refl, sym, ap}
use Rattle.std.proofs.Common.{◌∙◌, arith, append-nil, subst, not}
use Rattle.std.specs.Prelude.{◌||◌}
use Rattle.std.proofs.Math.Seq.{take-add}
use Rattle.std.specs.List.{flat_map}
use Rattle.std.proofs.lemmas.Bool.{cases_lt}
use Rattle.std.proofs.lemmas.Grind.{flat_map-append}
use Rattle.std.proofs.lemmas.List.{take-append-le, take_all, length-drop}
use Rattle.command_words.specs.Control.{is_control}
use Rattle.resp_value.specs.Spelling.{request_spelling}
use Rattle.resp_value.specs.declared.value.Value.{Value}
use Rattle.shared_cache.specs.declared.log.Shape.{Shape}
use Rattle.shared_cache.specs.declared.log.Wire.{Wire}
use Rattle.shared_cache.specs.declared.log.Wire.TheVariants.{Main, Side}
use Rattle.shared_cache.specs.declared.log.LogEntry.{LogEntry}
use Rattle.shared_cache.specs.declared.log.LogEntry.TheVariants as entry
use Rattle.shared_cache.specs.declared.log.ClientCall.{ClientCall}
use Rattle.shared_cache.specs.declared.log.ClientCall.TheVariants.{Ask, Send, Poll, TakeOut, Got}
use Rattle.shared_cache.specs.declared.log.ClientCall.TheVariants.{End}
use Rattle.shared_cache.specs.declared.log.ClientRefusal.{ClientRefusal}
use Rattle.shared_cache.specs.declared.log.ClientRefusal.TheVariants.{Control, Down, LogFull}
use Rattle.shared_cache.specs.declared.log.ClientRefusal.TheVariants.{NoNumber, NotReady}
use Rattle.shared_cache.specs.declared.log.ClientReply.{ClientReply}
use Rattle.shared_cache.specs.declared.log.ClientReply.TheVariants.{Answer, Bytes, Noted, NotYet}
use Rattle.shared_cache.specs.declared.log.ClientReply.TheVariants.{Quiet, Refused}
use Rattle.shared_cache.specs.Log.{ends_wire, is_ended, is_ready, is_wire, reply}
use Rattle.shared_cache.specs.Held.{Setup, commands}
use Rattle.shared_cache.specs.Laws.{gots, IsCall, AsksQuery, LegalLog}
use Rattle.shared_cache.specs.Out.{is_wanted, out, taken, untaken}
use Rattle.shared_cache.specs.Steps.{ClientTurn, client_step, is_log_full, refusing, polling}
use Rattle.shared_cache.specs.Steps.{getting, taking_out}
use Rattle.shared_cache.specs.Steps as steps
use Rattle.world_run.specs.ClientMoves.{bytes_of, fault_of}
use Rattle.shared_cache.proofs.Bytes.{taken_within}
use Rattle.shared_cache.proofs.CommandLists.{commands_grow}
use Rattle.world_run.proofs.Wires.{other_wire}

-- the bytes that were taken out for a link
abbrev pub taken_of : Setup → Wire → List LogEntry → List ℕ
taken_of s u log = take (taken s u log) (out s u log)

by_if : (P : ClientTurn → Type 0) (b : Bool) (x y : ClientTurn) → P x → P y → P (cond b x y)
by_if P b e y p q = grind arith

-- ---- what is added

-- at most one entry
abbrev pub Adds : List LogEntry → List LogEntry → Type 0
Adds log new = (new ≡ log) ⊎ ((e : LogEntry) × (new ≡ e ∷ log))

pub turn_adds : (s : Setup) (log : List LogEntry) (c : ClientCall) → IsCall s.mode c
    → Adds log (client_step s log c).past
unfolding client_step
turn_adds s log c h = grind arith

pub turn_legal : (s : Setup) (log : List LogEntry) (c : ClientCall) → IsCall s.mode c
    → AsksQuery c → LegalLog s log → LegalLog s (client_step s log c).past
turn_legal s log c h q legal = grind (arith, turn_adds)

-- ---- what was taken out

-- more commands leave what was taken out
taken_more : (s : Setup) (u : Wire) (e : LogEntry) (log : List LogEntry) → LegalLog s (e ∷ log)
    → taken s u (e ∷ log) ≡ taken s u log → taken_of s u (e ∷ log) ≡ taken_of s u log
unfolding out
taken_more s u e log legal same =
    let p = commands_grow s u e log (inr legal) in
    let more : out s u (e ∷ log) ≡ out s u log ++ flat_map request_spelling p.0 =
    ap (flat_map request_spelling) (sym p.1)
    ∙ flat_map-append request_spelling (commands s u log) p.0 in
    grind (arith, take-append-le, taken_within)

take_min : (m : ℕ) (q : List ℕ) → take (min m (length q)) q ≡ take m q
take_min m q = grind (arith, cases_lt, take_all)

-- the entry changes no commands
same_out : (s : Setup) (u : Wire) (most : ℕ) (log : List LogEntry)
    → out s u (entry.TakeOut u most ∷ log) ≡ out s u log
unfolding out
same_out s Main most log = refl
same_out s Side most log = refl

taken_next : (s : Setup) (u : Wire) (most : ℕ) (log : List LogEntry)
    → taken s u (entry.TakeOut u most ∷ log)
    ≡ taken s u log + min most (length (out s u log) - taken s u log)
taken_next s Main most log = refl
taken_next s Side most log = refl

taken_out : (s : Setup) (u : Wire) (log : List LogEntry) (most : ℕ)
    → taken_of s u (entry.TakeOut u most ∷ log) ≡ taken_of s u log ++ take most (untaken s u log)
unfolding untaken
taken_out s u log most =
    let bytes = out s u log in
    let t = taken s u log in
    (λ i. take (taken_next s u most log i) (same_out s u most log i))
    ∙ take-add t (min most (length bytes - t)) bytes
    ∙ ap (λ x. take t bytes ++ x)
    (ap (λ k. take (min most k) (drop t bytes)) (sym (length-drop t bytes))
    ∙ take_min most (drop t bytes))

-- ---- what a turn leaves

-- of a link that it is not about
pub record TurnKeeps (s : Setup) (u : Wire) (log new : List LogEntry) : Type 0 where
  pub gots_are : gots u new ≡ gots u log
  -- but a turn on Side may end Main
  pub going : is_ended s.mode u new ≡ false → is_ended s.mode u log ≡ false
  pub taken_is : taken_of s u new ≡ taken_of s u log

-- no turn that reads or takes bytes on this link, or ends it
abbrev pub IsApart : Wire → ClientCall → Type 0
IsApart u (Ask q) = Unit {0}
IsApart u (Send ws) = Unit {0}
IsApart u (Poll n) = Unit {0}
IsApart u (TakeOut w most) = is_wire w u ≡ false
IsApart u (Got w v) = is_wire w u ≡ false
IsApart u (End w) = is_wire w u ≡ false

-- one of the client's end of this link
abbrev pub IsHere : Wire → ClientCall → Type 0
IsHere w (Ask q) = Unit {0}
IsHere w (Send ws) = Unit {0}
IsHere w (Poll n) = Unit {0}
IsHere w (TakeOut u most) = u ≡ w
IsHere w (Got u v) = u ≡ w
IsHere w (End u) = u ≡ w

pub here_apart : (w u : Wire) (c : ClientCall) → IsHere w c → (u ≡ w → ⊥) → IsApart u c
here_apart w u (Ask q) h n = tt
here_apart w u (Send ws) h n = tt
here_apart w u (Poll k) h n = tt
here_apart w u (TakeOut x most) h n = other_wire x u (λ e. n (e ∙ h))
here_apart w u (Got x v) h n = other_wire x u (λ e. n (e ∙ h))
here_apart w u (End x) h n = other_wire x u (λ e. n (e ∙ h))

-- where the log is legal
record Keeping (s : Setup) (u : Wire) (log : List LogEntry) (t : ClientTurn) : Type 0 where
  keeps : LegalLog s t.past → TurnKeeps s u log t.past

same_log : (s : Setup) (u : Wire) (log : List LogEntry) → TurnKeeps s u log log
same_log s u log = record { gots_are = refl; going = λ on. on; taken_is = refl }

keeps_none : (s : Setup) (u : Wire) (r : ClientReply) (log : List LogEntry)
    → Keeping s u log (record { reply = r; past = log })
keeps_none s u r log = record { keeps = λ legal. same_log s u log }

-- an entry that reads and takes nothing on this link
keeps_entry : (s : Setup) (u : Wire) (r : ClientReply) (e : LogEntry) (log : List LogEntry)
    → gots u (e ∷ log) ≡ gots u log → taken s u (e ∷ log) ≡ taken s u log
    → (is_ended s.mode u (e ∷ log) ≡ false → is_ended s.mode u log ≡ false)
    → Keeping s u log (record { reply = r; past = e ∷ log })
keeps_entry s u r e log gots_are same going = record {
  keeps = λ legal. record {
    gots_are = gots_are;
    going = going;
    taken_is = taken_more s u e log legal same;
  };
}

before_or : (a b : Bool) → (a || b) ≡ false → b ≡ false
before_or a b e = grind arith

keeps_polling : (s : Setup) (u : Wire) (o : Option Value) (n : ℕ) (ended : Bool)
    (log : List LogEntry) → Keeping s u log (polling o n ended log)
keeps_polling s u (Some v) n ended log =
    keeps_entry s u (Answer v) (entry.Poll n) log refl refl (λ on. on)
keeps_polling s u None n true log = keeps_none s u (Refused (Down Main)) log
keeps_polling s u None n false log = keeps_none s u NotYet log

keeps_taking : (s : Setup) (u w : Wire) (most : ℕ) (bytes : List ℕ) (full : Bool)
    (log : List LogEntry) → is_wire w u ≡ false → Keeping s u log (taking_out w most bytes full log)
keeps_taking s u w most [] full log other = keeps_none s u Quiet log
keeps_taking s u w most (b ∷ bytes) true log other =
    keeps_none s u (Refused (LogFull (length log))) log
keeps_taking s u w most (b ∷ bytes) false log other =
    keeps_entry s u (Bytes (take most (b ∷ bytes))) (entry.TakeOut w most) log refl
    (ap (λ c. cond c (taken s u log + min most (length (out s u log) - taken s u log))
    (taken s u log)) other)
    (λ on. on)

keeps_getting : (s : Setup) (u w : Wire) (r : Option ClientRefusal) (v : Value) (full : Bool)
    (log : List LogEntry) → is_wire w u ≡ false → Keeping s u log (getting r w v full log)
keeps_getting s u w (Some r) v full log other =
    keeps_entry s u (Refused r) (entry.Bad w v) log refl refl
    (before_or (ends_wire s.mode.shape w u (is_ready s.mode log)) (is_ended s.mode u log))
keeps_getting s u w None v true log other =
    keeps_none s u (Refused (LogFull (length log))) log
keeps_getting s u w None v false log other =
    keeps_entry s u Noted (entry.Got w v) log
    (ap (λ c. cond c (gots u log ++ v ∷ []) (gots u log)) other) refl (λ on. on)

keeps_ending : (s : Setup) (u w : Wire) (ended : Bool) (log : List LogEntry)
    → Keeping s u log (record { reply = Noted; past = cond ended log (entry.End w ∷ log) })
keeps_ending s u w true log = keeps_none s u Noted log
keeps_ending s u w false log =
    keeps_entry s u Noted (entry.End w) log refl refl
    (before_or (ends_wire s.mode.shape w u (is_ready s.mode log)) (is_ended s.mode u log))

keeps_step : (s : Setup) (u : Wire) (log : List LogEntry) (c : ClientCall) → IsApart u c
    → Keeping s u log (client_step s log c)
unfolding client_step
keeps_step s u log (Ask q) apart =
    let none : (r : ClientRefusal) → Keeping s u log (refusing r log) =
    λ r. keeps_none s u (Refused r) log in
    by_if (Keeping s u log) (is_ended s.mode Main log) _ _ (none (Down Main))
    (by_if (Keeping s u log) (not (is_ready s.mode log)) _ _ (none NotReady)
    (by_if (Keeping s u log) (is_log_full s log) _ _ (none (LogFull (length log)))
    (keeps_entry s u _ (entry.Ask q) log refl refl (λ on. on))))
keeps_step s u log (Send ws) apart =
    let none : (r : ClientRefusal) → Keeping s u log (refusing r log) =
    λ r. keeps_none s u (Refused r) log in
    by_if (Keeping s u log) (is_ended s.mode Main log) _ _ (none (Down Main))
    (by_if (Keeping s u log) (not (is_ready s.mode log)) _ _ (none NotReady)
    (by_if (Keeping s u log) (is_control ws) _ _ (none Control)
    (by_if (Keeping s u log) (is_log_full s log) _ _ (none (LogFull (length log)))
    (keeps_entry s u _ (entry.Send ws) log refl refl (λ on. on)))))
keeps_step s u log (Poll n) apart =
    by_if (Keeping s u log) (not (is_wanted s log n)) _ _
    (keeps_none s u (Refused (NoNumber n)) log)
    (keeps_polling s u (reply s.mode log n) n (is_ended s.mode Main log) log)
keeps_step s u log (TakeOut w most) apart =
    by_if (Keeping s u log) (is_ended s.mode w log) _ _ (keeps_none s u (Refused (Down w)) log)
    (keeps_taking s u w most (untaken s w log) (is_log_full s log) log apart)
keeps_step s u log (Got w v) apart =
    by_if (Keeping s u log) (is_ended s.mode w log) _ _ (keeps_none s u (Refused (Down w)) log)
    (keeps_getting s u w (steps.fault_of s log w v) v (is_log_full s log) log apart)
keeps_step s u log (End w) apart = keeps_ending s u w (is_ended s.mode w log) log

pub turn_keeps : (s : Setup) (u : Wire) (log : List LogEntry) (c : ClientCall) → LegalLog s log
    → IsCall s.mode c → AsksQuery c → IsApart u c → TurnKeeps s u log (client_step s log c).past
turn_keeps s u log c legal is_call asks apart =
    (keeps_step s u log c apart).keeps (turn_legal s log c is_call asks legal)

-- ---- of its own link

-- bytes are taken out
pub record TurnTakes (s : Setup) (w : Wire) (log : List LogEntry) (t : ClientTurn) : Type 0 where
  pub gots_are : gots w t.past ≡ gots w log
  pub ended_is : is_ended s.mode w t.past ≡ is_ended s.mode w log
  pub taken_is : taken_of s w t.past ≡ taken_of s w log ++ bytes_of t.reply

takes_none : (s : Setup) (w : Wire) (log : List LogEntry) (r : ClientRefusal)
    → TurnTakes s w log (refusing r log)
takes_none s w log r = grind (arith, append-nil)

pub take_takes : (s : Setup) (w : Wire) (log : List LogEntry) (most : ℕ)
    → TurnTakes s w log (client_step s log (TakeOut w most))
unfolding client_step
take_takes s w log most =
    by_if (TurnTakes s w log) (is_ended s.mode w log) _ _ (takes_none s w log (Down w))
    (grind (arith, append-nil, takes_none, taken_out))

-- a value is got
pub record TurnGets (s : Setup) (w : Wire) (v : Value) (log : List LogEntry) (t : ClientTurn) :
    Type 0 where
  pub gots_front : (gots w t.past ≡ gots w log) ⊎ (gots w t.past ≡ gots w log ++ v ∷ [])
  pub done : fault_of t.reply ≡ None → is_ended s.mode w t.past ≡ false
      → gots w t.past ≡ gots w log ++ v ∷ []
  pub taken_is : taken_of s w t.past ≡ taken_of s w log

-- an end of a link ends it
ends_itself : (shape : Shape) (w : Wire) (ready rest : Bool)
    → (ends_wire shape w w ready || rest) ≡ true
ends_itself shape Main ready rest = refl
ends_itself shape Side ready rest = refl

got_here : (w : Wire) (v : Value) (log : List LogEntry)
    → gots w (entry.Got w v ∷ log) ≡ gots w log ++ v ∷ []
got_here Main v log = refl
got_here Side v log = refl

gets_judged : (s : Setup) (w : Wire) (v : Value) (r : Option ClientRefusal) (full : Bool)
    (log : List LogEntry) → let t = getting r w v full log in LegalLog s t.past
    → TurnGets s w v log t
gets_judged s w v (Some r) full log legal = record {
  gots_front = inl refl;
  done = λ none going. absurd
      (let no : true ≡ false =
      sym (ends_itself s.mode.shape w (is_ready s.mode log) (is_ended s.mode w log)) ∙ going in cc);
  taken_is = taken_more s w (entry.Bad w v) log legal refl;
}
gets_judged s w v None true log legal = record {
  gots_front = inl refl;
  done = λ none going. absurd (let no : ⊥ = cc in no);
  taken_is = refl;
}
gets_judged s w v None false log legal = record {
  gots_front = inr (got_here w v log);
  done = λ none going. got_here w v log;
  taken_is = taken_more s w (entry.Got w v) log legal refl;
}

gets_going : (s : Setup) (w : Wire) (log : List LogEntry) (v : Value)
    → is_ended s.mode w log ≡ false
    → let t = client_step s log (Got w v) in LegalLog s t.past → TurnGets s w v log t
unfolding client_step
gets_going s w log v going =
    let G : ClientTurn = getting (steps.fault_of s log w v) w v (is_log_full s log) log in
    subst (λ b. let t = cond {A = ClientTurn} b (refusing (Down w) log) G in
    LegalLog s t.past → TurnGets s w v log t) (sym going)
    (gets_judged s w v (steps.fault_of s log w v) (is_log_full s log) log)

pub got_gets : (s : Setup) (w : Wire) (log : List LogEntry) (v : Value) → LegalLog s log
    → IsCall s.mode (Got w v) → is_ended s.mode w log ≡ false
    → TurnGets s w v log (client_step s log (Got w v))
got_gets s w log v legal is_call going =
    gets_going s w log v going (turn_legal s log (Got w v) is_call tt legal)

-- the link ends
pub record TurnEnds (s : Setup) (w : Wire) (log new : List LogEntry) : Type 0 where
  pub gots_are : gots w new ≡ gots w log
  pub ended_is : is_ended s.mode w new ≡ true
  pub taken_is : taken_of s w new ≡ taken_of s w log

ends_step : (s : Setup) (w : Wire) (log : List LogEntry)
    → let new = (client_step s log (End w)).past in LegalLog s new → TurnEnds s w log new
unfolding client_step
ends_step s w log = elim (is_ended s.mode w log) as (λ b. is_ended s.mode w log ≡ b
    → LegalLog s (cond b log (entry.End w ∷ log))
    → TurnEnds s w log (cond b log (entry.End w ∷ log))) [
      | true ↦ λ e legal. record { gots_are = refl; ended_is = e; taken_is = refl }
      | false ↦ λ e legal. record {
        gots_are = refl;
        ended_is = ends_itself s.mode.shape w (is_ready s.mode log) (is_ended s.mode w log);
        taken_is = taken_more s w (entry.End w) log legal refl;
      }
    ] refl

pub end_ends : (s : Setup) (w : Wire) (log : List LogEntry) → LegalLog s log
    → IsCall s.mode (End w) → TurnEnds s w log (client_step s log (End w)).past
end_ends s w log legal is_call =
    ends_step s w log (turn_legal s log (End w) is_call tt legal)
