-- No caller is told that there is no such number: each number is issued once in a log, and its
-- caller alone asks for the reply, once.
use Rattle.std.proofs.Common.{◌≡◌, ◌≤◌, ◌<◌, ◌+◌, ◌-◌, ◌==◌, ◌&&◌, ℕ, suc, List, [], ◌∷◌, ◌++◌}
use Rattle.std.proofs.Common.{Bool, true, false, cond, length, Some, None, refl, sym, ap, subst}
use Rattle.std.proofs.Common.{◌∙◌, arith, append-nil, append_assoc, length-append, ne_eqb}
use Rattle.std.specs.Prelude.{Option, nat_lt, nat_le}
use Rattle.std.specs.List.{slice_get}
use Rattle.std.proofs.lemmas.Bool.Decides.{nat_tests}
use Rattle.turn_lock.specs.Counts.{total}
use Rattle.turn_lock.specs.History.{IsPrefix}
use Rattle.turn_lock.proofs.Turning.{begins_trans}
use Rattle.command_words.specs.Queries.{key_of}
use Rattle.shared_cache.specs.declared.log.LogEntry.{LogEntry}
use Rattle.shared_cache.specs.declared.log.LogEntry.TheVariants as entry
use Rattle.shared_cache.specs.declared.log.ClientCall.TheVariants as call
use Rattle.shared_cache.specs.declared.log.ClientReply.TheVariants as reply
use Rattle.shared_cache.specs.declared.log.ClientRefusal.{ClientRefusal}
use Rattle.shared_cache.specs.declared.log.ClientRefusal.TheVariants as refusal
use Rattle.shared_cache.specs.Log.{caching_on, caching_on_for, first_number, handshake_length}
use Rattle.shared_cache.specs.Held.{Setup, Words, SentCommand, read_lead, send_lead, is_read}
use Rattle.shared_cache.specs.Held.{put_ask, put_command, held, held_for, numbers, sent}
use Rattle.shared_cache.specs.Out.{is_callers, is_polled, is_wanted, was_given}
use Rattle.shared_cache.specs.Steps.{client_step, read_number, command_number}
use Rattle.shared_cache.proofs.HeldSteps.{sent_miss}
use Rattle.shared_cache.proofs.Led.{own, led_parts}
use Rattle.shared_client.specs.Turns.{Turn}
use Rattle.script_text.specs.declared.script_line.ScriptCall.{ScriptCall}
use Rattle.script_text.specs.declared.script_line.ScriptCall.TheVariants.{Ask, Do}
use Rattle.script_text.specs.declared.script_line.ScriptLine.{ScriptLine}
use Rattle.script_run.specs.declared.answer.Answer.{Answer}
use Rattle.script_run.specs.declared.answer.Answer.TheVariants.{Hit, Read, Reply, Refused}
use Rattle.script_run.specs.Lines.{call_for, entry_for, Between, RefusedBy, Unplayed, NoAnswer}
use Rattle.script_run.specs.Lines.{Came, AllCame, ThreadsCame}
use Rattle.script_run.specs.Session.{turns_in}
use Rattle.script_run.proofs.Totals.{parts_total, prefix_total}

-- ---- how often a number is asked for

abbrev pub polls : ℕ → Turn → ℕ
polls n (entry.Poll m, past) = cond (m == n) 1 0
polls n (entry.Ask q, past) = 0
polls n (entry.Send ws, past) = 0
polls n (entry.TakeOut w m, past) = 0
polls n (entry.Got w v, past) = 0
polls n (entry.End w, past) = 0
polls n (entry.Bad w v, past) = 0

poll_step : (n : ℕ) (e : LogEntry) (k : List LogEntry)
    → (is_polled k n ≡ true → 1 ≤ total (polls n) (turns_in k)) → is_polled (e ∷ k) n ≡ true
    → 1 ≤ total (polls n) (turns_in (e ∷ k))
poll_step n e k r is = grind arith

-- a number that was polled is asked for in the log
polled_there : (n : ℕ) (k : List LogEntry) → is_polled k n ≡ true
    → 1 ≤ total (polls n) (turns_in k)
polled_there n [] is = absurd (let z : ⊥ = cc in z)
polled_there n (e ∷ k) is = poll_step n e k (polled_there n k) is

-- a pump asks for none
module _ (n : ℕ) where
  abbrev f : Turn → ℕ
  f = polls n

-- ---- how often a number is issued

get_behind : (xs ys : List SentCommand) (c : SentCommand)
    → slice_get (xs ++ c ∷ ys) (length xs) ≡ Some c
get_behind [] ys c = refl
get_behind (x ∷ xs) ys c = get_behind xs ys c

given_at : (handshake number : ℕ) (o : Option SentCommand) (words : Words) → handshake < number
    → o ≡ Some (own words) → (nat_lt handshake number && is_callers o) ≡ true
given_at handshake number o words lt is = grind (arith, nat_tests)

module _ (s : Setup) where
  sent_step : (e : LogEntry) (log : List LogEntry)
      → (new : List SentCommand) × (sent s (e ∷ log) ≡ sent s log ++ new)
  sent_step (entry.Ask q) log =
      (put_ask (held_for q (held s log)) s.mode (caching_on_for s.mode log (key_of q)) q, refl)
  sent_step (entry.Send ws) log = (put_command s.mode (caching_on s.mode log) ws, refl)
  sent_step e log = ([], sym (append-nil (sent s log)))

  sent_more : (more log : List LogEntry)
      → (new : List SentCommand) × (sent s (more ++ log) ≡ sent s log ++ new)
  sent_more [] log = ([], sym (append-nil (sent s log)))
  sent_more (e ∷ more) log =
      let r = sent_more more log in
      let t = sent_step e (more ++ log) in
      (r.0 ++ t.0, t.1 ∙ ap (λ z. z ++ t.0) r.1 ∙ append_assoc (sent s log) r.0 t.0)

  -- the turn puts a caller's command on the wire, the last that it puts there, with that number
  record Issues (e : LogEntry) (past : List LogEntry) (number : ℕ) : Type 0 where
    words : Words
    front : List SentCommand
    sends : sent s (e ∷ past) ≡ sent s past ++ (front ++ own words ∷ [])
    number_is : number ≡ numbers s past + length front + 1

  -- 1 for a turn that issues the number
  abbrev pub issues : ℕ → Turn → ℕ
  issues n t = cond (nat_lt (numbers s t.1) n && nat_le n (numbers s (t.0 ∷ t.1))) 1 0

  not_early : (a : Bool) (b n : ℕ) → b < n → cond {A = ℕ} (a && nat_le n b) 1 0 ≡ 0
  not_early a b n lt = grind arith

  -- a number is issued once in a log, and only up to the last
  issued_once : (n : ℕ) (log : List LogEntry)
      → (numbers s log < n → total (issues n) (turns_in log) ≡ 0)
      × (total (issues n) (turns_in log) ≤ 1)
  issued_once n [] = (λ lt. refl, omega arith)
  issued_once n (e ∷ log) = by_case (issued_once n log) (nat_lt (numbers s log) n) refl
    where
      whole : total (issues n) (turns_in (e ∷ log))
          ≡ issues n (e, log) + total (issues n) (turns_in log)
      whole = refl

      by_case : (numbers s log < n → total (issues n) (turns_in log) ≡ 0)
          × (total (issues n) (turns_in log) ≤ 1) → (b : Bool) → nat_lt (numbers s log) n ≡ b
          → (numbers s (e ∷ log) < n → total (issues n) (turns_in (e ∷ log)) ≡ 0)
          × (total (issues n) (turns_in (e ∷ log)) ≤ 1)
      by_case r b is = grind (arith, not_early, whole, sent_step, length-append, nat_tests)

  -- who was issued a number was given it from then on
  given : (e : LogEntry) (past seen : List LogEntry) (number : ℕ) → Issues e past number
      → IsPrefix (e ∷ past) seen → was_given s seen number ≡ true
  given e past seen number i p =
      let c : SentCommand = own i.words in
      let m = sent_more p.0 (e ∷ past) in
      let all : sent s seen ≡ (sent s past ++ i.front) ++ c ∷ m.0
      = ap (sent s) (sym p.1) ∙ m.1
      ∙ ap (λ z. z ++ m.0) (i.sends ∙ sym (append_assoc (sent s past) i.front (c ∷ [])))
      ∙ append_assoc (sent s past ++ i.front) (c ∷ []) m.0 in
      let place : number - first_number s.mode ≡ length (sent s past ++ i.front)
      = omega (arith, i.number_is, length-append (sent s past) i.front) in
      given_at (handshake_length s.mode) number
      (slice_get (sent s seen) (number - first_number s.mode)) i.words
      (omega (arith, i.number_is))
      (ap (slice_get (sent s seen)) place
      ∙ ap (λ cs. slice_get cs (length (sent s past ++ i.front))) all
      ∙ get_behind (sent s past ++ i.front) m.0 c)

  -- ---- a command that was sent

  send_issues : (ws : Words) (past : List LogEntry) (number : ℕ)
      → number ≡ command_number s past ws → Issues (entry.Send ws) past number
  send_issues ws past number is =
      let p = led_parts (send_lead s.mode.caching (caching_on s.mode past) (is_read ws)) ws in
      record {
        words = ws;
        front = p.front;
        sends = ap (λ cs. sent s past ++ cs) p.parts;
        number_is =
            omega (arith, is, ap length p.parts, length-append p.front (own ws ∷ []));
      }

  read_issues : (q : Words) (past : List LogEntry) (number : ℕ) → held_for q (held s past) ≡ None
      → number ≡ read_number s past q → Issues (entry.Ask q) past number
  read_issues q past number none is =
      let p = led_parts (read_lead s.mode.caching (caching_on_for s.mode past (key_of q))) q in
      record {
        words = q;
        front = p.front;
        sends = sent_miss s past q none ∙ ap (λ cs. sent s past ++ cs) p.parts;
        number_is =
            omega (arith, is, ap length p.parts, length-append p.front (own q ∷ []));
      }

  step_issues : (c : ScriptCall) (past : List LogEntry) (number : ℕ)
      → client_step s past (call_for c)
      ≡ record { reply = reply.Sent number; past = entry_for c ∷ past }
      → Issues (entry_for c) past number
  unfolding client_step
  step_issues c past number is = grind (arith, read_issues, send_issues)

  -- ---- no line asks for a number more often than it is issued one

  abbrev pub Fair : ℕ → List Turn → Type 0
  Fair n ts = total (polls n) ts ≤ total (issues n) ts

  fair_by : (n : ℕ) (ts us : List Turn) → ts ≡ us → Fair n us → Fair n ts
  fair_by n ts us e h = subst (Fair n) (sym e) h

  refused_fair : (n : ℕ) (c : ScriptCall) (r : ClientRefusal) (ts : List Turn)
      (seen : List LogEntry) (t : ℕ) → RefusedBy s c r ts seen t → total (polls n) ts ≡ 0
  refused_fair n c r ts seen t h = grind arith

  pub came_fair : (n : ℕ) (c : ScriptCall) (a : Answer) (ts : List Turn) (seen : List LogEntry)
      (t : ℕ) → Came s c a ts seen t → Fair n ts
  came_fair n (Ask q) (Hit m v) ts seen t h =
      let z : total (polls n) ts ≡ 0 = ap (total (polls n)) h.turns_are in omega (arith, z)
  came_fair n (Ask q) (Read m v) ts seen t h =
      fair_by n ts _ h.turns_are (grind (arith, ne_eqb, length-append, nat_tests, read_issues))
  came_fair n (Ask q) (Reply v) ts seen t h = absurd h
  came_fair n (Ask q) (Refused r) ts seen t h =
      let z = refused_fair n (Ask q) r ts seen t h in omega (arith, z)
  came_fair n (Do ws) (Reply v) ts seen t h =
      fair_by n ts _ h.turns_are (grind (arith, ne_eqb, length-append, nat_tests, send_issues))
  came_fair n (Do ws) (Refused r) ts seen t h =
      let z = refused_fair n (Do ws) r ts seen t h in omega (arith, z)
  came_fair n (Do ws) a ts seen t h = absurd h

  fair_both : (n : ℕ) (ts mine rest : List Turn) → ts ≡ rest ++ mine → Fair n rest → Fair n mine
      → Fair n ts
  fair_both n ts mine rest e r m = grind (arith, parts_total)

  pub all_fair : (n : ℕ) (cs : List ScriptCall) (rs : List Answer) (ts : List Turn)
      (log : List LogEntry) (t : ℕ) → AllCame s cs rs ts log t → Fair n ts
  all_fair n cs [] ts log t h = grind (arith, nat_tests)
  all_fair n [] (a ∷ rs) ts log t h = absurd h
  all_fair n (c ∷ cs) (a ∷ rs) ts log t h =
      let i = h.3 in
      fair_both n ts h.0 h.1 h.2 (all_fair n cs rs h.1 log t h.4)
      (came_fair n c a h.0 i.seen i.ticket i.came)

  pub threads_fair : (n : ℕ) (lines : List ScriptLine) (thread : ℕ) (all : List (List Answer))
      (ts : List Turn) (log : List LogEntry) (t : ℕ) → ThreadsCame s lines thread all ts log t
      → Fair n ts
  threads_fair n lines thread [] ts log t h = grind arith
  threads_fair n lines thread (rs ∷ all) ts log t h =
      grind (arith, fair_both, all_fair, threads_fair n lines (suc thread) all h.1 log t h.4)

  -- ---- a line that was told that there is no such number

  -- A number that was given is wanted no more, and these turns issue it once more than they ask
  -- for it.
  pub record Missed (log : List LogEntry) (ts : List Turn) : Type 0 where
    pub number : ℕ
    pub seen : List LogEntry
    pub begins : IsPrefix seen log
    pub was : was_given s seen number ≡ true
    pub unwanted : is_wanted s seen number ≡ false
    pub fewer : total (polls number) ts + 1 ≤ total (issues number) ts

  poll_unwanted : (log : List LogEntry) (n m : ℕ)
      → client_step s log (call.Poll n)
      ≡ record { reply = reply.Refused (refusal.NoNumber m); past = log }
      → is_wanted s log n ≡ false
  unfolding client_step
  poll_unwanted log n m is = grind arith

  unanswered : (c : ScriptCall) (n m : ℕ) (past : List LogEntry) (ts : List Turn)
      (seen : List LogEntry) → Between [] ts seen → ts ≡ (entry_for c, past) ∷ []
      → polls n (entry_for c, past) ≡ 0
      → client_step s past (call_for c)
      ≡ record { reply = reply.Sent n; past = entry_for c ∷ past }
      → client_step s seen (call.Poll n)
      ≡ record { reply = reply.Refused (refusal.NoNumber m); past = seen } → Missed seen ts
  unanswered c n m past ts seen b e none step why =
      let i = step_issues c past n step in
      let there : IsPrefix (entry_for c ∷ past) seen = (subst (λ z. Between [] z seen) e b).0 in
      record {
        number = n;
        seen = seen;
        begins = ([], refl);
        was = given (entry_for c) past seen n i there;
        unwanted = poll_unwanted seen n m why;
        fewer = grind (arith, length-append, nat_tests);
      }

  pub refused_missed : (c : ScriptCall) (m : ℕ) (ts : List Turn) (seen : List LogEntry) (t : ℕ)
      → Between [] ts seen → RefusedBy s c (refusal.NoNumber m) ts seen t → Missed seen ts
  refused_missed (Ask q) m ts seen t b (Unplayed e why) = absurd why.0
  refused_missed (Do ws) m ts seen t b (Unplayed e why) = absurd why.0
  refused_missed (Ask q) m ts seen t b (NoAnswer n past e step why) =
      unanswered (Ask q) n m past ts seen b e refl step why.1
  refused_missed (Do ws) m ts seen t b (NoAnswer n past e step why) =
      unanswered (Do ws) n m past ts seen b e refl step why.1

  fewer_in : (n : ℕ) (ts mine rest : List Turn) → ts ≡ rest ++ mine
      → total (polls n) rest + total (polls n) mine + 1
      ≤ total (issues n) rest + total (issues n) mine
      → total (polls n) ts + 1 ≤ total (issues n) ts
  fewer_in n ts mine rest e h = grind (arith, parts_total)

  -- it stands among turns that are fair
  pub missed_last : (log more : List LogEntry) (ts mine rest : List Turn) → ts ≡ rest ++ mine
      → IsPrefix log more → ((n : ℕ) → Fair n rest) → Missed log mine → Missed more ts
  missed_last log more ts mine rest e p fair m = record {
    number = m.number;
    seen = m.seen;
    begins = begins_trans m.seen log more m.begins p;
    was = m.was;
    unwanted = m.unwanted;
    fewer = let a = fair m.number in let b = m.fewer in
        fewer_in m.number ts mine rest e (omega (arith, a, b));
  }

  pub missed_first : (log : List LogEntry) (ts mine rest : List Turn) → ts ≡ rest ++ mine
      → ((n : ℕ) → Fair n mine) → Missed log rest → Missed log ts
  missed_first log ts mine rest e fair m = grind (arith, fewer_in)

  -- but no session has such a line
  pub none_missed : (log : List LogEntry) (called pumped closing : List Turn)
      → ((f : Turn → ℕ) → total f (turns_in log)
      ≡ total f pumped + (total f closing + total f called))
      → ((n : ℕ) → total (polls n) pumped ≡ 0) → ((n : ℕ) → total (polls n) closing ≡ 0)
      → Missed log called → ⊥
  none_missed log called pumped closing all p c m =
      grind (arith, issued_once, prefix_total, polled_there, nat_tests)
