-- One line of a script: its turns, and how its answer came by them.
use Rattle.std.proofs.Common.{◌≡◌, ℕ, List, [], ◌∷◌, true, false, refl, sym, ap, arith}
use Rattle.turn_lock.specs.History.{IsPrefix}
use Rattle.turn_lock.specs.Own.{past_of, Grows}
use Rattle.turn_lock.proofs.Growing.{grows_then, grows_past}
use Rattle.turn_lock.proofs.Turning.{begins_trans}
use Rattle.resp_value.specs.declared.value.Value.{Value}
use Rattle.shared_cache.specs.declared.log.LogEntry.{LogEntry}
use Rattle.shared_cache.specs.declared.log.LogEntry.TheVariants as entry
use Rattle.shared_cache.specs.declared.log.ClientCall.{ClientCall}
use Rattle.shared_cache.specs.declared.log.ClientCall.TheVariants as call
use Rattle.shared_cache.specs.declared.log.ClientReply.{ClientReply}
use Rattle.shared_cache.specs.declared.log.ClientRefusal.{ClientRefusal}
use Rattle.shared_client.specs.Turns.{Place, Turn, setup_at, setup_in, Adds, Refuses}
use Rattle.script_text.specs.declared.script_line.ScriptCall.{ScriptCall}
use Rattle.script_text.specs.declared.script_line.ScriptCall.TheVariants.{Ask, Do}
use Rattle.client_link.specs.declared.callers.Fetched.{Fetched}
use Rattle.client_link.specs.Callers.{Fails, Reads, Fetches, Unanswered, FetchFails, NotAsked}
use Rattle.client_link.specs.Callers.{NoReply, Sends, SendFails}
use Rattle.script_run.specs.declared.answer.Answer.TheVariants.{Hit, Read, Reply, Refused}
use Rattle.script_run.specs.Lines.{call_for, entry_for, Between, RefusedSo, RefusedBy, PlaysLine}
use Rattle.script_run.specs.Lines.{Unplayed, NoAnswer}

-- ---- logs that grow

here : {A : Type 0} (a b : List A) → b ≡ a → IsPrefix a b
here a b e = ([], sym e)

-- the entry that a call added is in what was seen behind it
added : (c : ClientCall) (e : LogEntry) (old new : Place) (past : List LogEntry)
    → past_of new ≡ e ∷ past → IsPrefix (e ∷ past) (past_of new)
added c e old new past is = here (e ∷ past) (past_of new) is

-- ---- one turn, or two

module _ (c : ClientCall) (e : LogEntry) (old k new : Place) where
  -- a turn alone
  one : {r : ClientReply} (a : Adds c r e old new)
      → Between (past_of old) ((e, a.past) ∷ []) (past_of new)
  one a = (here (e ∷ a.past) (past_of new) a.ends, a.begins)

  -- a turn, and what came behind it added nothing
  one_then : {r : ClientReply} (a : Adds c r e old k) → Grows k new []
      → Between (past_of old) ((e, a.past) ∷ []) (past_of new)
  one_then a g = (
    begins_trans (e ∷ a.past) (past_of k) (past_of new) (here (e ∷ a.past) (past_of k) a.ends)
        (grows_past k new [] g),
    a.begins,
  )

  -- a turn, and a second one
  two : {r s : ClientReply} {d : ClientCall} {f : LogEntry} (a : Adds c r e old k)
      (b : Adds d s f k new)
      → Between (past_of old) ((f, b.past) ∷ (e, a.past) ∷ []) (past_of new)
  two {f = f} a b = grind (arith, here)

-- ---- why a call was refused

record WhyNot (c : ClientCall) (r : ClientRefusal) (old new : Place) : Type 0 where
  grows : Grows old new []
  why : RefusedSo (setup_at old) c r (past_of new) new.tickets

why_fails : (c : ClientCall) (r : ClientRefusal) (old new : Place) → Fails c r old new
    → WhyNot c r old new
why_fails c r old new h = grind arith

why_poll : (n : ℕ) (r : ClientRefusal) (old new : Place) → Refuses (call.Poll n) r old new
    → WhyNot (call.Poll n) r old new
why_poll n r old new h = grind arith

-- ---- the answers

setup_kept : (old new : Place) (ts : List Turn) → Grows old new ts
    → setup_at new ≡ setup_at old
setup_kept old new ts g = ap setup_in g.setup

read_line : (q : List (List ℕ)) (f : Fetched) (old new : Place) → Reads q f old new
    → PlaysLine (Ask q) (Read f.number f.value) old new
read_line q f old new h =
    let polls = h.answers.polls in
    let n = f.number in
    record {
      turns = (entry.Poll n, polls.past) ∷ (entry.Ask q, h.asks.past) ∷ [];
      grows = grows_then old h.sent new ((entry.Ask q, h.asks.past) ∷ [])
          ((entry.Poll n, polls.past) ∷ []) h.asks.grows polls.grows;
      between = two (call.Ask q) (entry.Ask q) old h.sent new h.asks polls;
      came = grind (arith, setup_kept);
    }

pub fetched_hit : (q : List (List ℕ)) (f : Fetched) (old new : Place) → Fetches q f old new
    → f.from_cache ≡ true → PlaysLine (Ask q) (Hit f.number f.value) old new
fetched_hit q f old new h is = grind (arith, one)

pub fetched_read : (q : List (List ℕ)) (f : Fetched) (old new : Place) → Fetches q f old new
    → f.from_cache ≡ false → PlaysLine (Ask q) (Read f.number f.value) old new
fetched_read q f old new h is = read_line q f old new (h.1 is)

pub sent_line : (ws : List (List ℕ)) (v : Value) (old new : Place) → Sends ws v old new
    → PlaysLine (Do ws) (Reply v) old new
sent_line ws v old new h =
    let polls = h.answers.polls in
    let n = h.number in
    record {
      turns = (entry.Poll n, polls.past) ∷ (entry.Send ws, h.sends.past) ∷ [];
      grows = grows_then old h.sent new ((entry.Send ws, h.sends.past) ∷ [])
          ((entry.Poll n, polls.past) ∷ []) h.sends.grows polls.grows;
      between = two (call.Send ws) (entry.Send ws) old h.sent new h.sends polls;
      came = grind (arith, setup_kept);
    }

record RefusedLine (c : ScriptCall) (r : ClientRefusal) (old new : Place) : Type 0 where
  turns : List Turn
  grows : Grows old new turns
  between : Between (past_of old) turns (past_of new)
  how : RefusedBy (setup_at old) c r turns (past_of new) new.tickets

unplayed : (c : ScriptCall) (r : ClientRefusal) (old new : Place)
    → Fails (call_for c) r old new → RefusedLine c r old new
unplayed c r old new h =
    let w = why_fails (call_for c) r old new h in
    record {
      turns = [];
      grows = w.grows;
      between = grows_past old new [] w.grows;
      how = Unplayed refl w.why;
    }

unanswered : (c : ScriptCall) (r : ClientRefusal) (old new : Place)
    → Unanswered (call_for c) (entry_for c) r old new → RefusedLine c r old new
unanswered c r old new h =
    let w = why_poll h.number r h.sent new h.refuses in
    let past = h.sends.past in
    record {
      turns = (entry_for c, past) ∷ [];
      grows = grows_then old h.sent new ((entry_for c, past) ∷ []) [] h.sends.grows w.grows;
      between = one_then (call_for c) (entry_for c) old h.sent new h.sends w.grows;
      how = NoAnswer h.number past refl h.sends.step
          (grind (arith, setup_kept));
    }

asked_refused : (q : List (List ℕ)) (r : ClientRefusal) (old new : Place)
    → RefusedLine (Ask q) r old new → PlaysLine (Ask q) (Refused r) old new
asked_refused q r old new l =
    record { turns = l.turns; grows = l.grows; between = l.between; came = l.how }

done_refused : (ws : List (List ℕ)) (r : ClientRefusal) (old new : Place)
    → RefusedLine (Do ws) r old new → PlaysLine (Do ws) (Refused r) old new
done_refused ws r old new l =
    record { turns = l.turns; grows = l.grows; between = l.between; came = l.how }

pub fetch_refused : (q : List (List ℕ)) (r : ClientRefusal) (old new : Place)
    → FetchFails q r old new → PlaysLine (Ask q) (Refused r) old new
fetch_refused q r old new (NotAsked h) =
    asked_refused q r old new (unplayed (Ask q) r old new h)
fetch_refused q r old new (NoReply h) =
    asked_refused q r old new (unanswered (Ask q) r old new h)

pub send_refused : (ws : List (List ℕ)) (r : ClientRefusal) (old new : Place)
    → SendFails ws r old new → PlaysLine (Do ws) (Refused r) old new
send_refused ws r old new e = grind (arith, done_refused, unplayed, unanswered)

pub ruleset line_outcomes = (fetched_hit, fetched_read, sent_line, fetch_refused, send_refused)
