-- What the logs of clients have of a schedule.
use Rattle.std.proofs.Common.{◌≡◌, ◌<◌, ℕ, List, [], ◌∷◌, ◌++◌, Some, None, Option, length}
use Rattle.std.proofs.Common.{refl, sym, ap, subst, ◌∙◌, arith, append_assoc, append-nil}
use Rattle.std.proofs.Common.{length-append, ◌+◌, inl, inr}
use Rattle.std.specs.Prelude.{option_to_list}
use Rattle.std.proofs.lemmas.Bool.{cases_lt}
use Rattle.std.proofs.lemmas.Grind.{flat_map-append}
use Rattle.serial_model.specs.declared.history.Limits.{Limits}
use Rattle.shared_cache.specs.declared.log.ClientCall.{ClientCall}
use Rattle.shared_cache.specs.declared.log.ClientCall.TheVariants as call
use Rattle.shared_cache.specs.declared.log.Wire.TheVariants.{Main}
use Rattle.shared_cache.specs.Laws.{Every}
use Rattle.script_text.specs.declared.event.Event.{Event}
use Rattle.script_text.specs.declared.line.Line.{Line}
use Rattle.script_text.specs.Valid.{IsValid}
use Rattle.server_links.specs.Transcript.{unless_fault}
use Rattle.world_run.specs.WorldState.{MemberState, WorldState, client_at, end_at, link_on}
use Rattle.world_run.specs.WorldState.{member_at, start_with}
use Rattle.world_run.specs.ScheduleLog.{AllNoted, IsNoted, LogsStand, Notes, all_noted, answer_by}
use Rattle.world_run.specs.ScheduleLog.{answerer, answers_of, call_of, calls_in, calls_of, noted}
use Rattle.world_run.specs.WorldTranscript.{after, heard_at, transcript}
use Rattle.world_run.specs.WorldHistory.{said_by}
use Rattle.world_run.specs.World.{step}
use Rattle.world_run.proofs.ReadLogEvents.{Accounts, event_accounts}
use Rattle.world_run.proofs.ScheduleLogEvents.{NamesApart, Nobody, Noting, event_notes}
use Rattle.world_run.proofs.ScheduleLogEvents.{own_answer}
use Rattle.world_run.proofs.ScheduleLogMoves.{calls_more}
use Rattle.world_run.proofs.WorldEvents.{event_comes}
use Rattle.world_run.proofs.Worlds.{WorldStands}

-- ---- one more call

calls_snoc : (name : List ℕ) (events : List Event) (e : Event)
    → calls_of name (events ++ e ∷ []) ≡ calls_of name events ++ option_to_list (call_of name e)
calls_snoc name events e =
    flat_map-append (λ x. option_to_list (call_of name x)) events (e ∷ [])
    ∙ ap (λ x. calls_of name events ++ x) (append-nil (option_to_list (call_of name e)))

answers_more : (name : List ℕ) (lines ls : List Line)
    → answers_of name (lines ++ ls) ≡ answers_of name lines ++ answers_of name ls
answers_more name lines ls =
    flat_map-append (λ l. option_to_list (answer_by name (answerer l) l)) lines ls

noted_snoc : (calls : List ClientCall) (lines : List Line) (c : ClientCall) (l : Line)
    → length lines ≡ length calls
    → all_noted (calls ++ c ∷ []) (lines ++ l ∷ []) ≡ all_noted calls lines ++ noted c l
noted_snoc [] [] c l e = append-nil (noted c l)
noted_snoc [] (k ∷ lines) c l e = absurd (let no : ⊥ = omega (arith, e) in no)
noted_snoc (d ∷ calls) [] c l e = absurd (let no : ⊥ = omega (arith, e) in no)
noted_snoc (d ∷ calls) (k ∷ lines) c l e =
    ap (λ x. noted d k ++ x) (noted_snoc calls lines c l (omega (arith, e)))
    ∙ sym (append_assoc (noted d k) (all_noted calls lines) (noted c l))

noted_calls : (c : ClientCall) (l : Line) → calls_in (noted c l) ≡ noted c l
noted_calls (call.Ask q) l = grind arith
noted_calls (call.Send words) l = grind arith
noted_calls (call.Poll n) l = grind arith
noted_calls (call.TakeOut w most) l = refl
noted_calls (call.Got w v) l = refl
noted_calls (call.End w) l = refl

module _ (events : List Event) (lines : List Line) (m : MemberState) (k : IsNoted events lines m)
    (e : Event) (ls : List Line) (new : MemberState) (named : new.name ≡ m.name) where
  noted_more : (o : Option ClientCall) → call_of m.name e ≡ o
      → Notes o m.state.setup m.name m.state.past new.state.past ls
      → IsNoted (events ++ e ∷ []) (lines ++ ls) (record new { name = m.name })
  noted_more None is u =
      let calls = calls_snoc m.name events e
      ∙ ap (λ o. calls_of m.name events ++ option_to_list o) is
      ∙ append-nil (calls_of m.name events) in
      let answers = answers_more m.name lines ls
      ∙ ap (λ x. answers_of m.name lines ++ x) u.no_answer
      ∙ append-nil (answers_of m.name lines) in
      record {
        answered = ap length answers ∙ k.answered ∙ ap length (sym calls);
        entries = ap calls_in u.grows ∙ calls_more u.entries m.state.past
            ∙ ap (λ x. calls_in m.state.past ++ x) u.no_call
            ∙ append-nil (calls_in m.state.past) ∙ k.entries
            ∙ ap (λ c. all_noted c (answers_of m.name lines)) (sym calls)
            ∙ ap (all_noted (calls_of m.name (events ++ e ∷ []))) (sym answers);
      }
  noted_more (Some c) is d =
      let calls = calls_snoc m.name events e
      ∙ ap (λ o. calls_of m.name events ++ option_to_list o) is in
      let answers = answers_more m.name lines ls
      ∙ ap (λ x. answers_of m.name lines ++ x)
      (own_answer m.state.setup m.name m.state.past new.state.past c ls d) in
      record {
        answered = ap length answers
            ∙ length-append (answers_of m.name lines) (d.answer ∷ [])
            ∙ ap (λ n. n + 1) k.answered
            ∙ sym (length-append (calls_of m.name events) (c ∷ [])) ∙ ap length (sym calls);
        entries = ap calls_in d.grows ∙ calls_more (noted c d.answer) m.state.past
            ∙ ap (λ x. calls_in m.state.past ++ x) (noted_calls c d.answer)
            ∙ ap (λ x. x ++ noted c d.answer) k.entries
            ∙ sym (noted_snoc (calls_of m.name events) (answers_of m.name lines) c d.answer
            k.answered)
            ∙ ap (λ x. all_noted x (answers_of m.name lines ++ d.answer ∷ [])) (sym calls)
            ∙ ap (all_noted (calls_of m.name (events ++ e ∷ []))) (sym answers);
      }

-- ---- after a schedule

-- what is said of the clients, and that nothing is of others
record Told (events : List Event) (lines : List Line) (w : WorldState) : Type 0 where
  clients : (at : ℕ) → at < length w.members → IsNoted events lines (member_at w.members at)
  others : (name : List ℕ) → Nobody w name
      → (calls_of name events ≡ []) × (answers_of name lines ≡ [])

as_named : (events : List Event) (lines : List Line) (m : MemberState) (name : List ℕ)
    → name ≡ m.name → IsNoted events lines (record m { name = name }) → IsNoted events lines m
as_named events lines m name is k =
    subst (λ n. IsNoted events lines (record m { name = n })) is k

told_more : (events : List Event) (lines : List Line) (w : WorldState) (e : Event)
    → Told events lines w → Noting w (λ n. call_of n e) (step w e)
    → Told (events ++ e ∷ []) (lines ++ (step w e).lines) (step w e).state
told_more events lines w e told k =
    let v = (step w e).state in
    let ls = (step w e).lines in
    let none : (name : List ℕ) → Nobody w name
    → (calls_of name (events ++ e ∷ []) ≡ []) × (answers_of name (lines ++ ls) ≡ []) =
    λ name free. (let a = told.others name free in let b = k.others name free in (
      calls_snoc name events e ∙ ap (λ x. x ++ option_to_list (call_of name e)) a.0
          ∙ ap option_to_list b.0,
      answers_more name lines ls ∙ ap (λ x. x ++ answers_of name ls) a.1 ∙ b.1,
    )) in
    record {
      clients = λ at lt.
          let new = member_at v.members at in
          elim (cases_lt at (length w.members)) [
            | inl old ↦
                let m = member_at w.members at in
                let named = k.named at old in
                as_named (events ++ e ∷ []) (lines ++ ls) new m.name (sym named)
                (noted_more events lines m (told.clients at old) e ls new named
                (call_of m.name e) refl (k.notes at old))
            | inr le ↦
                let n = k.new at le lt in
                let both = none new.name n.1 in
                record {
                  answered = ap length both.1 ∙ ap length (sym both.0);
                  entries = ap calls_in n.0
                      ∙ ap (λ c. all_noted c (answers_of new.name (lines ++ ls))) (sym both.0);
                }
          ];
      others = λ name free.
          none name (λ i lt e. free i (omega (arith, lt, k.grows)) (k.named i lt ∙ e));
    }

told_start : (l : Limits) (log_max : ℕ) → Told [] [] (start_with l log_max)
told_start l log_max = record {
  clients = λ at lt. absurd (omega (arith, lt));
  others = λ name free. (refl, refl);
}

got_start : (l : Limits) (log_max : ℕ) → Accounts [] (start_with l log_max)
got_start l log_max = record {
  each = λ at lt. absurd (omega (arith, lt));
  apart = λ name free. refl;
}

-- clients are apart by their names, since the links that their commands go on are
module _ (l : Limits) (heard : ℕ → List ℕ) (raw : List ℕ → List ℕ) (lines : List Line)
    (w : WorldState) (s : WorldStands l heard raw lines w) where
  main_link : (k : ℕ) → k < length w.ends → (end_at w.ends k).end.wire ≡ Main → (i : ℕ)
      → (end_at w.ends k).end.client ≡ i
      → (end_at w.ends k).end.link ≡ link_on Main (member_at w.members i).name
  main_link k lt wire i client =
      (s.each k lt).0.named ∙ ap (λ u. link_on u (client_at w k).name) wire
      ∙ ap (λ c. link_on Main (member_at w.members c).name) client

  names_apart : NamesApart w
  names_apart i j li lj same =
      let a = s.ends i li Main tt in
      let b = s.ends j lj Main tt in
      let one : b.0 ≡ a.0 =
      s.distinct a.0 b.0 a.1 b.1 (main_link b.0 b.1 b.3 j b.2 ∙ ap (link_on Main) same
      ∙ sym (main_link a.0 a.1 a.3 i a.2)) in
      sym b.2 ∙ ap (λ k. (end_at w.ends k).end.client) one ∙ a.2

logs_after : (l : Limits) (sooner events : List Event) (before : ℕ → List ℕ)
    (raw : List ℕ → List ℕ) (lines : List Line) (v w : WorldState) → Every IsValid events
    → WorldStands l before raw lines v → Told sooner lines v → Accounts lines v
    → after v events ≡ Some w
    → Told (sooner ++ events) (lines ++ transcript v events) w × AllNoted v events
    × Accounts (lines ++ transcript v events) w
logs_after l sooner [] before raw lines v w valid s told got e =
    let same : v ≡ w = cc in (
      subst (λ x. Told x (lines ++ []) w) (sym (append-nil sooner))
          (subst (λ x. Told sooner x w) (sym (append-nil lines))
          (subst (Told sooner lines) same told)),
      tt,
      subst (λ x. Accounts x w) (sym (append-nil lines)) (subst (Accounts lines) same got),
    )
logs_after l sooner (d ∷ more) before raw lines v w valid s told got e =
    let t = step v d in
    elim t.fault as (λ f. t.fault ≡ f → unless_fault f (after t.state more) None ≡ Some w
    → Told (sooner ++ d ∷ more) (lines
    ++ (t.lines ++ unless_fault f (transcript t.state more) [])) w × AllNoted v (d ∷ more)
    × Accounts (lines ++ (t.lines ++ unless_fault f (transcript t.state more) [])) w) [
      | Some f ↦ λ is q. absurd (let no : ⊥ = cc in no)
      | None ↦ λ is q.
          let k = event_notes v (names_apart l before raw lines v s) s.clients d is in
          let rest = logs_after l (sooner ++ d ∷ []) more (λ i. before i ++ heard_at v i d)
          (λ n. raw n ++ said_by n d) (lines ++ t.lines) t.state w valid.1
          ((event_comes l before raw lines v s d valid.0).ends is)
          (told_more sooner lines v d told k)
          (event_accounts l before raw lines v s got d is) q in (
            subst (λ x. Told x (lines ++ (t.lines ++ transcript t.state more)) w)
                (append_assoc sooner (d ∷ []) more)
                (subst (λ x. Told ((sooner ++ d ∷ []) ++ more) x w)
                (append_assoc lines t.lines (transcript t.state more)) rest.0),
            (k.notes, rest.1),
            subst (λ x. Accounts x w) (append_assoc lines t.lines (transcript t.state more))
                rest.2,
          )
    ] refl e

pub logs_stand : (l : Limits) (log_max : ℕ) (events : List Event) (w : WorldState)
    → Every IsValid events → let first = start_with l log_max in
    WorldStands l (λ i. []) (λ n. []) [] first → after first events ≡ Some w
    → LogsStand first events (transcript first events) w
logs_stand l log_max events w valid s e =
    let k = logs_after l [] events (λ i. []) (λ n. []) [] (start_with l log_max) w valid s
    (told_start l log_max) (got_start l log_max) e in
    record { clients = k.0.clients; notes = k.1; got = k.2.each }
