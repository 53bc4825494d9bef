-- A line that is down has no reply in the session's log: behind the link's end nothing is got.
use Rattle.std.proofs.Common.{◌≡◌, inl, inr, ℕ, suc, List, [], ◌∷◌, ◌++◌, true, false}
use Rattle.std.proofs.Common.{None, refl, sym, ap, subst, ◌∙◌, arith}
use Rattle.std.specs.Prelude.{◌⊎◌, ◌||◌, Bool}
use Rattle.turn_lock.specs.History.{IsPrefix}
use Rattle.turn_lock.proofs.Turning.{begins_trans}
use Rattle.shared_cache.specs.declared.log.Wire.{Wire}
use Rattle.shared_cache.specs.declared.log.Wire.TheVariants.{Main, Side}
use Rattle.shared_cache.specs.declared.log.LogEntry.{LogEntry}
use Rattle.shared_cache.specs.declared.log.LogEntry.TheVariants as entry
use Rattle.shared_cache.specs.declared.log.ClientCall.TheVariants as call
use Rattle.shared_cache.specs.declared.log.ClientRefusal.{ClientRefusal}
use Rattle.shared_cache.specs.declared.log.ClientRefusal.TheVariants as refusal
use Rattle.shared_cache.specs.Held.{Setup}
use Rattle.shared_cache.specs.Laws.{LegalLog}
use Rattle.shared_cache.specs.Log.{ends_wire, is_ended, is_ready, replies, reply_in}
use Rattle.shared_cache.specs.Log.{reply as reply_of}
use Rattle.shared_cache.specs.Steps.{client_step}
use Rattle.shared_cache.proofs.LegalLogs.{newest}
use Rattle.shared_client.specs.Turns.{Turn}
use Rattle.script_text.specs.declared.script_line.ScriptCall.{ScriptCall}
use Rattle.script_text.specs.declared.script_line.ScriptCall.TheVariants.{Ask, Do}
use Rattle.script_text.specs.declared.script_line.ScriptLine.{ScriptLine}
use Rattle.script_run.specs.declared.answer.Answer.{Answer}
use Rattle.script_run.specs.declared.answer.Answer.TheVariants.{Refused}
use Rattle.script_run.specs.Lines.{Between, RefusedBy, Unplayed, NoAnswer, Came, AllCame}
use Rattle.script_run.specs.Lines.{ThreadsCame, calls_of}
use Rattle.script_run.specs.Session.{IsDown, NoReply, AllUnanswered, Unanswered}
use Rattle.script_run.proofs.Numbers.{all_fair, came_fair, threads_fair, Missed, refused_missed}
use Rattle.script_run.proofs.Numbers.{missed_first, missed_last}
use Rattle.script_run.proofs.Sessions.{Answered, poll_down}

-- ---- behind the end of the link

or_true : (a b : Bool) → b ≡ true → (a || b) ≡ true
or_true true b is = refl
or_true false b is = is

module _ (s : Setup) where
  -- no value is got on a link behind its end, so the replies are those of before
  kept_one : (e : LogEntry) (log : List LogEntry) → is_ended s.mode Main log ≡ true
      → LegalLog s (e ∷ log)
      → (replies s.mode Main (e ∷ log) ≡ replies s.mode Main log)
      × (is_ended s.mode Main (e ∷ log) ≡ true)
  kept_one (entry.Got Main v) log over legal =
      absurd (let no : true ≡ false =
      sym over ∙ (newest s log (entry.Got Main v) legal).2 in cc)
  kept_one (entry.Got Side v) log over legal = (refl, over)
  kept_one (entry.End w) log over legal =
      (refl, or_true (ends_wire s.mode.shape w Main (is_ready s.mode log)) _ over)
  kept_one (entry.Bad w v) log over legal =
      (refl, or_true (ends_wire s.mode.shape w Main (is_ready s.mode log)) _ over)
  kept_one e log over legal = (refl, over)

  kept_more : (more past : List LogEntry) → is_ended s.mode Main past ≡ true
      → LegalLog s (more ++ past)
      → (replies s.mode Main (more ++ past) ≡ replies s.mode Main past)
      × (is_ended s.mode Main (more ++ past) ≡ true)
  kept_more [] past over legal = (refl, over)
  kept_more (e ∷ more) past over legal =
      let r = kept_more more past over legal.0 in
      let k = kept_one e (more ++ past) r.1 legal in (k.0 ∙ r.0, k.1)

  reply_kept : (past log : List LogEntry) (n : ℕ) → is_ended s.mode Main past ≡ true
      → LegalLog s log → IsPrefix past log → reply_of s.mode past n ≡ None
      → reply_of s.mode log n ≡ None
  reply_kept past log n over legal p none =
      let k = kept_more p.0 past over (subst (LegalLog s) (sym p.1) legal) in
      ap (λ z. reply_in n (replies s.mode Main z)) (sym p.1) ∙ ap (reply_in n) k.0 ∙ none

  poll_none : (log : List LogEntry) (w : Wire) (n : ℕ)
      → Answered (client_step s log (call.Poll n)) (refusal.Down w) log
      → reply_of s.mode log n ≡ None
  unfolding client_step
  poll_none log w n is = grind arith

  -- ---- each line

  refused_silent : (c : ScriptCall) (r : ClientRefusal) (ts : List Turn) (seen log : List LogEntry)
      (t : ℕ) → LegalLog s log → IsPrefix seen log → Between [] ts seen
      → RefusedBy s c r ts seen t → (IsDown (Refused r) → NoReply s c ts log) ⊎ Missed s seen ts
  refused_silent c r ts seen log t l p b (Unplayed e why) = inl (λ d. inl e)
  refused_silent c (refusal.Down w) ts seen log t l p b (NoAnswer n past e step why) =
      inl (λ d. inr (
        n,
        past,
        e,
        step,
        reply_kept seen log n (poll_down s seen w n why.1) l p
            (poll_none seen w n why.1),
      ))
  refused_silent c (refusal.NoNumber n) ts seen log t l p b h =
      inr (refused_missed s c n ts seen t b h)
  refused_silent c r ts seen log t l p b (NoAnswer n past e step why) =
      inl (λ d. absurd (let no : ⊥ = grind arith in no))

  came_silent : (c : ScriptCall) (a : Answer) (ts : List Turn) (seen log : List LogEntry) (t : ℕ)
      → LegalLog s log → IsPrefix seen log → Between [] ts seen → Came s c a ts seen t
      → (IsDown a → NoReply s c ts log) ⊎ Missed s seen ts
  came_silent (Ask q) (Refused r) ts seen log t l p b h =
      refused_silent (Ask q) r ts seen log t l p b h
  came_silent (Do ws) (Refused r) ts seen log t l p b h =
      refused_silent (Do ws) r ts seen log t l p b h
  came_silent c a ts seen log t l p b h = inl (λ d. absurd (let no : ⊥ = cc in no))

  all_silent : (cs : List ScriptCall) (rs : List Answer) (ts : List Turn) (seen log : List LogEntry)
      (t : ℕ) → LegalLog s log → IsPrefix seen log → (h : AllCame s cs rs ts seen t)
      → AllUnanswered s cs rs ts seen t h log ⊎ Missed s seen ts
  all_silent cs [] ts seen log t l p h = inl tt
  all_silent [] (a ∷ rs) ts seen log t l p h = absurd h
  all_silent (c ∷ cs) (a ∷ rs) ts seen log t l p h =
      let i = h.3 in
      let within = begins_trans i.seen seen log i.begins p in
      elim (came_silent c a h.0 i.seen log i.ticket l within i.in_order i.came) [
        | inl one ↦ elim (all_silent cs rs h.1 seen log t l p h.4) [
          | inl rest ↦ inl (one, rest)
          | inr m ↦ inr (missed_first s seen ts h.0 h.1 h.2
              (λ n. came_fair s n c a h.0 i.seen i.ticket i.came) m)
        ]
        | inr m ↦ inr (missed_last s i.seen seen ts h.0 h.1 h.2 i.begins
            (λ n. all_fair s n cs rs h.1 seen t h.4) m)
      ]

  threads_silent : (lines : List ScriptLine) (thread : ℕ) (all : List (List Answer))
      (ts : List Turn) (seen log : List LogEntry) (t : ℕ) → LegalLog s log → IsPrefix seen log
      → (h : ThreadsCame s lines thread all ts seen t)
      → Unanswered s lines thread all ts seen t h log ⊎ Missed s seen ts
  threads_silent lines thread [] ts seen log t l p h = inl tt
  threads_silent lines thread (rs ∷ all) ts seen log t l p h =
      let cs = calls_of thread lines in
      elim (all_silent cs rs h.0 seen log t l p h.3.came) [
        | inl one ↦ elim (threads_silent lines (suc thread) all h.1 seen log t l p h.4) [
          | inl rest ↦ inl (one, rest)
          | inr m ↦ inr (missed_first s seen ts h.0 h.1 h.2
              (λ n. all_fair s n cs rs h.0 seen t h.3.came) m)
        ]
        | inr m ↦ inr (missed_last s seen seen ts h.0 h.1 h.2 ([], refl)
            (λ n. threads_fair s n lines (suc thread) all h.1 seen t h.4) m)
      ]

  -- no line was told that there is no such number
  pub unanswered : (lines : List ScriptLine) (all : List (List Answer)) (ts : List Turn)
      (seen log : List LogEntry) (t : ℕ) → LegalLog s log → IsPrefix seen log
      → (h : ThreadsCame s lines 1 all ts seen t) → (Missed s seen ts → ⊥)
      → Unanswered s lines 1 all ts seen t h log
  unanswered lines all ts seen log t l p h none =
      elim (threads_silent lines 1 all ts seen log t l p h) [
        | inl u ↦ u
        | inr m ↦ absurd (none m)
      ]
