-- All turns of a session are those of its callers, of its pumps and the last, and where a caller
-- was told that Main is down a pump had ended a link.
use Rattle.turn_lock.proofs.Owning.{total-append, own_all, pasts_length}
use Rattle.std.proofs.Common.{◌≡◌, ◌≤◌, ◌<◌, ◌+◌, inl, inr, ℕ, suc, List, [], ◌∷◌, ◌++◌, Bool, true}
use Rattle.std.proofs.Common.{false, cond, length, refl, ap, ◌∙◌, arith, Some, None}
use Rattle.std.specs.Prelude.{Option, nat_lt, ◌&&◌, ◌==◌, ◌⊎◌}
use Rattle.std.specs.List.{All}
use Rattle.std.proofs.lemmas.Bool.Decides.{nat_tests}
use Rattle.std.proofs.lemmas.List.Elements.{All-head, All-nil, All-tail}
use Rattle.turn_lock.specs.Counts.{times, total}
use Rattle.turn_lock.specs.History.{entries, IsPrefix, Legal}
use Rattle.turn_lock.specs.Own.{with_pasts, past_of, turns_of}
use Rattle.turn_lock.proofs.Turning.{begins_trans}
use Rattle.shared_cache.specs.declared.log.Wire.{Wire}
use Rattle.shared_cache.specs.declared.log.Wire.TheVariants.{Main, Side}
use Rattle.shared_cache.specs.declared.log.ClientMode.{ClientMode}
use Rattle.shared_cache.specs.declared.log.LogEntry.{LogEntry}
use Rattle.shared_cache.specs.declared.log.LogEntry.TheVariants as entry
use Rattle.shared_cache.specs.declared.log.ClientCall.TheVariants as call
use Rattle.shared_cache.specs.declared.log.ClientReply.TheVariants as reply
use Rattle.shared_cache.specs.declared.log.ClientRefusal.{ClientRefusal}
use Rattle.shared_cache.specs.declared.log.ClientRefusal.TheVariants as refusal
use Rattle.command_words.specs.Control.{is_control}
use Rattle.shared_cache.specs.Held.{Setup}
use Rattle.shared_cache.specs.Laws.{LegalLog}
use Rattle.shared_cache.specs.Log.{is_ended}
use Rattle.shared_cache.specs.Steps.{ClientTurn, client_step}
use Rattle.shared_client.specs.declared.logged.ClientSetup.{ClientSetup}
use Rattle.shared_client.specs.Setups.{TurnStep, setup_of}
use Rattle.shared_client.specs.Turns.{Place, Turn, setup_at}
use Rattle.script_text.specs.declared.script_line.ScriptCall.{ScriptCall}
use Rattle.script_text.specs.declared.script_line.ScriptCall.TheVariants.{Ask, Do}
use Rattle.script_text.specs.declared.script_line.ScriptLine.{ScriptLine}
use Rattle.script_text.specs.Scripts.{IsValidCall, IsValidLine}
use Rattle.client_link.specs.declared.pump_end.PumpEnd.{PumpEnd}
use Rattle.client_link.specs.declared.pump_end.PumpEnd.TheVariants as ended
use Rattle.client_link.specs.Pumps.{IsWork, Finishes}
use Rattle.script_run.specs.declared.answer.Answer.{Answer}
use Rattle.script_run.specs.declared.answer.Answer.TheVariants.{Refused}
use Rattle.script_run.specs.Lines.{call_for, Between, RefusedBy, Unplayed, NoAnswer, Came, AllCame}
use Rattle.script_run.specs.Lines.{ThreadsCame, calls_of}
use Rattle.script_run.specs.Session.{turns_in, IsDown, AnyDown, HasDown, LinkEnd, EndsLink}
use Rattle.script_run.specs.Session.{AnyEnds, PumpedBy, SidePumped, ClosedBy, SideClosed}
use Rattle.script_run.proofs.Totals.{prefix_length, prefix_total, two_none, works_none}
use Rattle.script_run.proofs.Numbers.{polls, all_fair, came_fair, threads_fair, Missed}
use Rattle.script_run.proofs.Numbers.{refused_missed, missed_first, missed_last, none_missed}

-- ---- each turn once

turns_are : (h : List (ℕ × LogEntry)) → turns_in (entries h) ≡ entries (with_pasts h)
turns_are [] = refl
turns_are (e ∷ h) = ap (λ z. (e.1, entries h) ∷ z) (turns_are h)

-- where the seat has each place once, its turns are all
pub every_turn : (k : Place) → ((p : ℕ) → p < length k.seen → times p k.own ≡ 1)
    → (f : Turn → ℕ) → total f (turns_in (past_of k)) ≡ total f (turns_of k)
unfolding turns_of
every_turn k once f = grind (arith, turns_are, own_all, pasts_length)

pub legal_log : (u : ClientSetup) (h : List (ℕ × LogEntry)) → Legal TurnStep u h
    → LegalLog (setup_of u) (entries h)
legal_log u [] l = tt
legal_log u (e ∷ h) l = l.1.2.1 (legal_log u h l.0)

-- ---- the ends in a log

-- of either link: one of Side can end Main
abbrev is_end : Turn → Bool
is_end (entry.Ask q, past) = false
is_end (entry.Send ws, past) = false
is_end (entry.Poll n, past) = false
is_end (entry.TakeOut w n, past) = false
is_end (entry.Got w v, past) = false
is_end (entry.End w, past) = true
is_end (entry.Bad w v, past) = true

-- 1 for an end that has fewer entries before it
abbrev early_end : ℕ → Turn → ℕ
early_end n t = cond (is_end t && nat_lt (length t.1) n) 1 0

end_step : (m : ClientMode) (n : ℕ) (e : LogEntry) (k : List LogEntry) → length k < n
    → (is_ended m Main k ≡ true → 1 ≤ total (early_end n) (turns_in k))
    → is_ended m Main (e ∷ k) ≡ true → 1 ≤ total (early_end n) (turns_in (e ∷ k))
end_step m n (entry.Ask q) k lt r is = omega (arith, r is)
end_step m n (entry.Send ws) k lt r is = omega (arith, r is)
end_step m n (entry.Poll i) k lt r is = omega (arith, r is)
end_step m n (entry.TakeOut w i) k lt r is = omega (arith, r is)
end_step m n (entry.Got w v) k lt r is = omega (arith, r is)
end_step m n (entry.End w) k lt r is = grind (arith, nat_tests)
end_step m n (entry.Bad w v) k lt r is = grind (arith, nat_tests)

-- a log that is ended has an end
has_end : (m : ClientMode) (n : ℕ) (k : List LogEntry) → length k ≤ n
    → is_ended m Main k ≡ true → 1 ≤ total (early_end n) (turns_in k)
has_end m n [] le is = absurd (let z : ⊥ = cc in z)
has_end m n (e ∷ k) le is = end_step m n e k (omega arith) (has_end m n k (omega arith)) is

-- ---- no end is a caller's

module _ (n : ℕ) where
  abbrev f : Turn → ℕ
  f = early_end n

  came_none : (s : Setup) (c : ScriptCall) (a : Answer) (ts : List Turn) (seen : List LogEntry)
      (t : ℕ) → Came s c a ts seen t → total f ts ≡ 0
  came_none s c a ts seen t h = grind arith

  all_none : (s : Setup) (cs : List ScriptCall) (rs : List Answer) (ts : List Turn)
      (log : List LogEntry) (t : ℕ) → AllCame s cs rs ts log t → total f ts ≡ 0
  all_none s [] (a ∷ rs) ts log t h = absurd h
  all_none s (c ∷ cs) (a ∷ rs) ts log t h =
      grind (arith, two_none, came_none, all_none s cs rs h.1 log t h.4)
  all_none s cs [] ts log t h = ap (total f) h

  threads_none : (s : Setup) (lines : List ScriptLine) (thread : ℕ) (all : List (List Answer))
      (ts : List Turn) (log : List LogEntry) (t : ℕ) → ThreadsCame s lines thread all ts log t
      → total f ts ≡ 0
  threads_none s lines thread [] ts log t h = ap (total f) h
  threads_none s lines thread (rs ∷ all) ts log t h =
      grind (arith, two_none, all_none, threads_none s lines (suc thread) all h.1 log t h.4)

  -- nor an earlier one the last
  not_early : (b : Bool) (m : ℕ) → n ≤ m → cond {A = ℕ} (b && nat_lt m n) 1 0 ≡ 0
  not_early b m le = grind (arith, nat_tests)

  closing_none : (s : Setup) (w : Wire) (ts : List Turn) (seen log : List LogEntry) (t : ℕ)
      → n ≤ length seen → ClosedBy s w ts seen log t → total f ts ≡ 0
  closing_none s w ts seen log t le h = grind (arith, prefix_length, not_early)

  side_closing_none : (s : Setup) (l : Option LinkEnd) (ts : List Turn) (seen log : List LogEntry)
      (t : ℕ) → n ≤ length seen → SideClosed s l ts seen log t → total f ts ≡ 0
  side_closing_none s None ts seen log t le h = ap (total f) h
  side_closing_none s (Some l) ts seen log t le h = closing_none s Side ts seen log t le h

  work_none : (w : Wire) (e : LogEntry) (past : List LogEntry) → IsWork w (e, past)
      → f (e, past) ≡ 0
  work_none w e past h = grind arith

  none_but_works : (w : Wire) (ending ts : List Turn) → ending ≡ [] → All (IsWork w) ts
      → total f (ending ++ ts) ≡ 0
  none_but_works w ending ts e h =
      ap (λ z. total f (z ++ ts)) e ∙ works_none f w (work_none w) ts h

  -- a pump that did not end its link has no end among its turns
  ends_or_none : (w : Wire) (e : PumpEnd) (s : Setup) (ending ts : List Turn) (k : Place)
      → Finishes w e s ending k → All (IsWork w) ts
      → EndsLink e ⊎ (total f (ending ++ ts) ≡ 0)
  ends_or_none w ended.Done s ending ts k h works =
      inr (none_but_works w ending ts h.0 works)
  ends_or_none w ended.Worn s ending ts k h works =
      inr (none_but_works w ending ts h.0 works)
  ends_or_none w e s ending ts k h works = inl tt

  pump_none : (s : Setup) (w : Wire) (l : LinkEnd) (ts : List Turn) (log : List LogEntry) (t : ℕ)
      → PumpedBy s w l ts log t → EndsLink l.end ⊎ (total f ts ≡ 0)
  pump_none s w l ts log t p =
      let k = p.pumps in
      elim (ends_or_none w l.end (setup_at p.before) k.ending k.works.turns p.after k.finishes
      k.works.work) [
        | inl is ↦ inl is
        | inr none ↦ inr (ap (total f) p.turns_are ∙ none)
      ]

  main_none : (s : Setup) (main : LinkEnd) (side : Option LinkEnd) (ts : List Turn)
      (log : List LogEntry) (t : ℕ) → PumpedBy s Main main ts log t
      → AnyEnds main side ⊎ (total f ts ≡ 0)
  main_none s main side ts log t p = elim (pump_none s Main main ts log t p) [
    | inl is ↦ inl (by_side side is)
    | inr none ↦ inr none
  ]
    where
      by_side : (o : Option LinkEnd) → EndsLink main.end → AnyEnds main o
      by_side None is = is
      by_side (Some side) is = inl is

  side_none : (s : Setup) (main : LinkEnd) (side : Option LinkEnd) (ts : List Turn)
      (log : List LogEntry) (t : ℕ) → SidePumped s side ts log t
      → AnyEnds main side ⊎ (total f ts ≡ 0)
  side_none s main None ts log t h = inr (ap (total f) h)
  side_none s main (Some side) ts log t h = elim (pump_none s Side side ts log t h) [
    | inl is ↦ inl (inr is)
    | inr none ↦ inr none
  ]

-- ---- who was told that the link is down has seen its end

abbrev pub Answered : ClientTurn → ClientRefusal → List LogEntry → Type 0
Answered turn r log = turn ≡ record { reply = reply.Refused r; past = log }

call_down : (s : Setup) (log : List LogEntry) (w : Wire) (c : ScriptCall)
    → Answered (client_step s log (call_for c)) (refusal.Down w) log
    → is_ended s.mode Main log ≡ true
unfolding client_step
call_down s log w c is = grind arith

pub poll_down : (s : Setup) (log : List LogEntry) (w : Wire) (n : ℕ)
    → Answered (client_step s log (call.Poll n)) (refusal.Down w) log
    → is_ended s.mode Main log ≡ true
unfolding client_step
poll_down s log w n is = grind arith

refused_down : (s : Setup) (c : ScriptCall) (w : Wire) (ts : List Turn) (seen : List LogEntry)
    (t : ℕ) → RefusedBy s c (refusal.Down w) ts seen t → is_ended s.mode Main seen ≡ true
refused_down s c w ts seen t (Unplayed e why) = call_down s seen w c why.1
refused_down s c w ts seen t (NoAnswer n past e step why) = poll_down s seen w n why.1

not_control : (s : Setup) (ws : List (List ℕ)) (log : List LogEntry) → is_control ws ≡ false
    → Answered (client_step s log (call.Send ws)) refusal.Control log → ⊥
unfolding client_step
not_control s ws log valid is = grind arith

-- a line that is down has seen the link's end, or its number was unknown
abbrev Told : Setup → List Turn → List LogEntry → Type 0
Told s ts seen = (is_ended s.mode Main seen ≡ true) ⊎ Missed s seen ts

by_refusal : (s : Setup) (c : ScriptCall) (r : ClientRefusal) (ts : List Turn)
    (seen : List LogEntry) (t : ℕ) → IsValidCall c → Between [] ts seen
    → RefusedBy s c r ts seen t → IsDown (Refused r) → Told s ts seen
by_refusal s c (refusal.Down w) ts seen t v b h d = inl (refused_down s c w ts seen t h)
by_refusal s c (refusal.NoNumber n) ts seen t v b h d = inr (refused_missed s c n ts seen t b h)
by_refusal s (Do ws) refusal.Control ts seen t v b (Unplayed e why) d =
    absurd (not_control s ws seen v.1 why.1)
by_refusal s c refusal.Control ts seen t v b (NoAnswer n past e step why) d = absurd why.0
by_refusal s c r ts seen t v b h d = grind arith

came_down : (s : Setup) (c : ScriptCall) (a : Answer) (ts : List Turn) (seen : List LogEntry)
    (t : ℕ) → IsValidCall c → Between [] ts seen → Came s c a ts seen t → IsDown a
    → Told s ts seen
came_down s (Ask q) (Refused r) ts seen t ok b h d = by_refusal s (Ask q) r ts seen t ok b h d
came_down s (Do ws) (Refused r) ts seen t ok b h d = by_refusal s (Do ws) r ts seen t ok b h d
came_down s c a ts seen t ok b h d = absurd (let no : ⊥ = cc in no)

record SawEnd (s : Setup) (log : List LogEntry) : Type 0 where
  seen : List LogEntry
  begins : IsPrefix seen log
  over : is_ended s.mode Main seen ≡ true

all_down : (s : Setup) (cs : List ScriptCall) (rs : List Answer) (ts : List Turn)
    (log : List LogEntry) (t : ℕ) → All IsValidCall cs → AllCame s cs rs ts log t → AnyDown rs
    → SawEnd s log ⊎ Missed s log ts
all_down s cs [] ts log t ok h d = absurd d
all_down s [] (a ∷ rs) ts log t ok h d = absurd h
all_down s (c ∷ cs) (a ∷ rs) ts log t ok h d =
    let i = h.3 in
    elim d [
      | inl is ↦ elim (came_down s c a h.0 i.seen i.ticket (All-head IsValidCall c cs ok)
          i.in_order i.came is) [
            | inl over ↦ inl (record { seen = i.seen; begins = i.begins; over = over })
            | inr m ↦ inr (grind (arith, missed_last, all_fair))
          ]
      | inr is ↦ elim (all_down s cs rs h.1 log t (All-tail IsValidCall c cs ok) h.4 is) [
        | inl saw ↦ inl saw
        | inr m ↦ grind (arith, missed_first, came_fair)
      ]
    ]

-- the calls of a thread are valid where the lines are
valid_calls : (thread : ℕ) (lines : List ScriptLine) → All IsValidLine lines
    → All IsValidCall (calls_of thread lines)
valid_calls thread [] ok = All-nil IsValidCall
valid_calls thread (line ∷ lines) ok =
    by_case (line.thread == thread)
    (valid_calls thread lines (All-tail IsValidLine line lines ok))
  where
    by_case : (b : Bool) → All IsValidCall (calls_of thread lines)
        → All IsValidCall (cond b (line.call ∷ calls_of thread lines) (calls_of thread lines))
    by_case b rest = grind (arith, nat_tests)

threads_down : (s : Setup) (lines : List ScriptLine) → All IsValidLine lines → (thread : ℕ)
    (all : List (List Answer)) (ts : List Turn) (log : List LogEntry) (t : ℕ)
    → ThreadsCame s lines thread all ts log t → HasDown all → SawEnd s log ⊎ Missed s log ts
threads_down s lines ok thread [] ts log t h d = absurd d
threads_down s lines ok thread (rs ∷ all) ts log t h d =
    let mine = h.3.came in
    let cs = calls_of thread lines in
    elim d [
      | inl is ↦ grind (arith, all_down, valid_calls, missed_last, threads_fair)
      | inr is ↦ elim (threads_down s lines ok (suc thread) all h.1 log t h.4 is) [
        | inl saw ↦ inl saw
        | inr m ↦ grind (arith, missed_first, all_fair)
      ]
    ]

-- ---- so a pump had ended one

polls_no_work : (n : ℕ) (w : Wire) (e : LogEntry) (past : List LogEntry) → IsWork w (e, past)
    → polls n (e, past) ≡ 0
polls_no_work n w e past h = grind arith

-- what a pump does at its end is no Poll
ending_polls : (n : ℕ) (w : Wire) (e : PumpEnd) (s : Setup) (ending : List Turn) (k : Place)
    → Finishes w e s ending k → total (polls n) ending ≡ 0
ending_polls n w e s ending k h = grind (arith, polls)

pump_polls : (n : ℕ) (s : Setup) (w : Wire) (l : LinkEnd) (ts : List Turn) (log : List LogEntry)
    (t : ℕ) → PumpedBy s w l ts log t → total (polls n) ts ≡ 0
pump_polls n s w l ts log t p =
    let k = p.pumps in
    let ending = ending_polls n w l.end (setup_at p.before) k.ending p.after k.finishes in
    let works = works_none (polls n) w (polls_no_work n w) k.works.turns k.works.work in
    ap (total (polls n)) p.turns_are ∙ total-append (polls n) k.ending k.works.turns
    ∙ omega (arith, ending, works)

side_polls : (n : ℕ) (s : Setup) (side : Option LinkEnd) (ts : List Turn) (log : List LogEntry)
    (t : ℕ) → SidePumped s side ts log t → total (polls n) ts ≡ 0
side_polls n s None ts log t h = ap (total (polls n)) h
side_polls n s (Some side) ts log t h = pump_polls n s Side side ts log t h

closing_polls : (n : ℕ) (s : Setup) (w : Wire) (ts : List Turn) (seen log : List LogEntry) (t : ℕ)
    → ClosedBy s w ts seen log t → total (polls n) ts ≡ 0
closing_polls n s w ts seen log t h = grind arith

side_closing_polls : (n : ℕ) (s : Setup) (side : Option LinkEnd) (ts : List Turn)
    (seen log : List LogEntry) (t : ℕ) → SideClosed s side ts seen log t
    → total (polls n) ts ≡ 0
side_closing_polls n s None ts seen log t h = ap (total (polls n)) h
side_closing_polls n s (Some side) ts seen log t h = closing_polls n s Side ts seen log t h

both_none : (f : Turn → ℕ) (xs ys : List Turn) → total f xs ≡ 0 → total f ys ≡ 0
    → total f (xs ++ ys) ≡ 0
both_none f xs ys a b = total-append f xs ys ∙ omega (arith, a, b)

module _ (s : Setup) (lines : List ScriptLine) (answers : List (List Answer)) (main : LinkEnd)
    (side : Option LinkEnd) (called pumped side_pumped closing side_closing : List Turn)
    (seen log : List LogEntry) (t : ℕ) (begins : IsPrefix seen log)
    (came : ThreadsCame s lines 1 answers called seen t)
    (pumps : PumpedBy s Main main pumped log t)
    (side_pumps : SidePumped s side side_pumped log t)
    (closes : ClosedBy s Main closing seen log t)
    (side_closes : SideClosed s side side_closing seen log t)
    (all : (f : Turn → ℕ) → total f (turns_in log)
    ≡ total f (pumped ++ side_pumped) + (total f (side_closing ++ closing) + total f called)) where
  saw_ends : SawEnd s seen → AnyEnds main side
  saw_ends saw =
      let n = length saw.seen in
      let f = early_end n in
      let there = has_end s.mode n saw.seen (omega arith) saw.over in
      let whole : IsPrefix saw.seen log = begins_trans saw.seen seen log saw.begins begins in
      let more : total f (turns_in saw.seen) ≤ total f (turns_in log) =
      grind (arith, prefix_total) in
      let le = prefix_length saw.seen seen saw.begins in
      let z = threads_none n s lines 1 answers called seen t came in
      let y = both_none f side_closing closing
      (side_closing_none n s side side_closing seen log t le side_closes)
      (closing_none n s Main closing seen log t le closes) in
      elim (main_none n s main side pumped log t pumps) [
        | inl is ↦ is
        | inr a ↦ elim (side_none n s main side side_pumped log t side_pumps) [
          | inl is ↦ is
          | inr b ↦
              let x = both_none f pumped side_pumped a b in
              let w = all f in
              absurd (let no : ⊥ = omega (arith, there, more, w, x, y, z) in no)
        ]
      ]

  pub none_missing : Missed s seen called → ⊥
  none_missing m = none_missed s log called (pumped ++ side_pumped) (side_closing ++ closing) all
      (λ n. both_none (polls n) pumped side_pumped (pump_polls n s Main main pumped log t pumps)
      (side_polls n s side side_pumped log t side_pumps))
      (λ n. both_none (polls n) side_closing closing
      (side_closing_polls n s side side_closing seen log t side_closes)
      (closing_polls n s Main closing seen log t closes))
      (missed_last s seen log called called [] refl begins (λ n. omega arith) m)

  pub down_ends : All IsValidLine lines → HasDown answers → AnyEnds main side
  down_ends ok d = elim (threads_down s lines ok 1 answers called seen t came d) [
    | inl saw ↦ saw_ends saw
    | inr m ↦ absurd (none_missing m)
  ]
