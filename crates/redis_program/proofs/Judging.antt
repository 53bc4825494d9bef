-- The verdict on the whole input, and what a run comes to.
use Rattle.std.proofs.Common.{◌≡◌, ◌<◌, ◌+◌, ℕ, List, [], ◌∷◌, ◌++◌, Some, None, cond, length, refl}
use Rattle.std.proofs.Common.{sym, ap, subst, ◌∙◌, append_assoc, append-nil, arith, length-append}
use Rattle.std.proofs.Common.{eq-eqb, ne_eqb, inl, inr}
use Rattle.std.specs.Prelude.{◌==◌}
use Rattle.std.specs.declared.option.Option.{Option}
use Rattle.std.specs.Io.KnownBytes.{IsAtEnd}
use Rattle.resp_value.specs.Lists.{IsPrefix}
use Rattle.resp_value.proofs.Prefixes.{prefix_trans}
use Rattle.serial_model.specs.declared.history.Limits.{Limits}
use Rattle.script_text.specs.declared.event.Event.{Event}
use Rattle.script_text.specs.declared.line.Line.{Line}
use Rattle.script_text.specs.Events.{longest_line}
use Rattle.script_text.specs.Printed.{text_of}
use Rattle.server_links.specs.declared.fault.WorldFault.{WorldFault}
use Rattle.server_links.specs.declared.fault.WorldFault.TheVariants as fault
use Rattle.server_links.specs.Faults.{IsRefusal}
use Rattle.world_run.specs.WorldState.{WorldState, start}
use Rattle.world_run.specs.World.{step}
use Rattle.world_run.specs.WorldTranscript.{transcript}
use Rattle.world_run.proofs.History.{faults_none, have_links, step_lines}
use Rattle.world_run.proofs.Played.{transcript_then}
use Rattle.redis_program.proofs.Valid.{lines_valid}
use Rattle.redis_program.specs.declared.status.Ending.{Ending}
use Rattle.redis_program.specs.declared.status.Ending.TheVariants.{Done, BadLine, ReadFault}
use Rattle.redis_program.specs.declared.status.Ending.TheVariants.{WriteFault, Refused, HistoryFull}
use Rattle.redis_program.specs.declared.status.Ending.TheVariants.{NoMemory}
use Rattle.redis_program.specs.Headline.{Begins, Comes, EndsAs, Next, PlayedThen, Plays, PlaysPart}
use Rattle.redis_program.specs.Headline.{ReadsBad, ReadsWhole, ending_at, event_at, events_of}
use Rattle.redis_program.specs.Headline.{faulty_or, first_fault, text_lines, transcript_of, verdict}
use Rattle.edge_lines.proofs.Splitting.{line_ended, lines_ended, line_alone, line_begun}
use Rattle.redis_program.proofs.Scheduling.{same_length, events_then, no_event, one_event}
use Rattle.redis_program.proofs.Scheduling.{transcript_begins, fault_then}
use Rattle.redis_program.proofs.Scheduling.{transcript_faulty, fault_first, too_long}

-- the first line of what comes after the lines
whole_first : (line more rest : List ℕ) (in1 : Option (List ℕ)) → ReadsWhole line more in1
    → (IsAtEnd in1 → rest ≡ [])
    → (others : List (List ℕ)) × (text_lines (more ++ rest) ≡ line ∷ others)
whole_first line more rest in1 r none = elim r.1 [
  | inl e ↦ (
    text_lines rest,
    ap (λ l. text_lines (l ++ rest)) e
        ∙ ap text_lines (append_assoc line (10 ∷ []) rest) ∙ line_ended line rest r.0,
  )
  | inr e ↦ (
    [],
    ap (λ l. text_lines (l ++ rest)) e.1 ∙ ap (λ l. text_lines (line ++ l)) (none e.2)
        ∙ ap text_lines (append-nil line) ∙ line_alone line r.0 e.0,
  )
]

bad_first : (n : ℕ) (line more rest : List ℕ) (in1 : Option (List ℕ))
    → ReadsBad longest_line line more in1 → event_at n line ≡ None → (IsAtEnd in1 → rest ≡ [])
    → (first : List ℕ) × (others : List (List ℕ))
    × (text_lines (more ++ rest) ≡ first ∷ others) × (event_at n first ≡ None)
bad_first n line more rest in1 r h none = elim r [
  | inl w ↦ let k = whole_first line more rest in1 w none in (line, k.0, k.1, h)
  | inr l ↦
      let some : line ≡ [] → ⊥ = λ e.
      let nothing : length line ≡ 0 = ap length e in
      let long = l.2 in
      absurd (omega arith) in
      let k = line_begun line rest l.0 some in
      let long : longest_line < length (line ++ k.0) =
      let l2 = l.2 in
      omega (arith, length-append line k.0) in
      (line ++ k.0, k.1, ap (λ x. text_lines (x ++ rest)) l.1 ∙ k.2, too_long n (line ++ k.0) long)
]

module _ (limits : Limits) where
  abbrev otherwise : List (List ℕ) → List Event → Ending
  otherwise ls events =
      cond (length events == length ls) Done (BadLine (length events + 1))

  verdict_is : (ls : List (List ℕ)) (events : List Event) → events_of 1 ls ≡ events
      → verdict limits ls
      ≡ faulty_or (first_fault (start limits) 1 events) (otherwise ls events)
  verdict_is ls events e =
      ap (λ es. faulty_or (first_fault (start limits) 1 es) (otherwise ls es)) e

  module _ (lines : List (List ℕ)) (events : List Event) (w : WorldState)
      (p : Plays limits lines events w) where
    abbrev next : ℕ
    next = length lines + 1

    -- no event of these meets a fault
    no_fault : first_fault (start limits) 1 events ≡ None
    no_fault =
        sym (ap (first_fault (start limits) 1) (append-nil events))
        ∙ fault_then (start limits) w 1 (length events + 1) events [] p.plays.played refl

    -- what the lines with others after them print
    lines_then : (tail : List (List ℕ)) → transcript_of limits (lines ++ tail)
        ≡ transcript (start limits) events ++ transcript w (events_of next tail)
    lines_then tail = grind (arith, events_then, transcript_then)

    -- the verdict on lines that were all played
    done_ends : (body : List ℕ) → body ≡ text_of (transcript (start limits) events)
        → EndsAs limits lines Done body
    done_ends body b =
        let are : events_of 1 lines ≡ events =
        sym (ap (events_of 1) (append-nil lines))
        ∙ events_then 1 next lines [] events p.lines_are refl ∙ append-nil events in
        let same = same_length 1 lines events p.lines_are in (
          sym (verdict_is lines events are
              ∙ ap (λ f. faulty_or f (otherwise lines events)) no_fault
              ∙ ap (λ t. cond t Done (BadLine (length events + 1)))
              (eq-eqb (length events) (length lines) same)),
          b ∙ ap (λ es. text_of (transcript (start limits) es)) (sym are),
        )

    bad_ends : (others : List (List ℕ)) (first : List ℕ) (number : ℕ) (printed : List Line)
        (body : List ℕ) → number ≡ next → printed ≡ [] → event_at next first ≡ None
        → body ≡ text_of (transcript (start limits) events ++ printed)
        → EndsAs limits (lines ++ first ∷ others) (BadLine number) body
    bad_ends others first number printed body k none h b =
        let all = lines ++ first ∷ others in
        let out = no_event next first others h in
        let are : events_of 1 all ≡ events =
        events_then 1 next lines (first ∷ others) events p.lines_are refl
        ∙ ap (λ ds. events ++ ds) out ∙ append-nil events in
        let same = same_length 1 lines events p.lines_are in
        let longer : length all ≡ length lines + length (first ∷ others) =
        length-append lines (first ∷ others) in
        let differ : length events ≡ length all → ⊥ = λ e. absurd (omega arith) in
        let at : length events + 1 ≡ number = omega arith in (
          sym (verdict_is all events are
              ∙ ap (λ f. faulty_or f (otherwise all events)) no_fault
              ∙ ap (λ t. cond t Done (BadLine (length events + 1)))
              (ne_eqb (length events) (length all) differ)
              ∙ ap BadLine at),
          b ∙ ap (λ l. text_of (transcript (start limits) events ++ l))
              (none ∙ sym (ap (transcript w) out))
              ∙ ap text_of (sym (lines_then (first ∷ others))),
        )

    -- the event of the next line meets a fault
    fault_ends : (others : List (List ℕ)) (first : List ℕ) (event : Event) (f : WorldFault)
        (printed : List Line) (body : List ℕ) → event_at next first ≡ Some event
        → (step w event).fault ≡ Some f → printed ≡ (step w event).lines
        → body ≡ text_of (transcript (start limits) events ++ printed)
        → (ending_at next f ≡ verdict limits (lines ++ first ∷ others))
        × (body ≡ text_of (transcript_of limits (lines ++ first ∷ others)))
    fault_ends others first event f printed body h met prints b =
        let all = lines ++ first ∷ others in
        let ds = events_of (next + 1) others in
        let is = one_event next first others event h in
        let are : events_of 1 all ≡ events ++ event ∷ ds =
        events_then 1 next lines (first ∷ others) events p.lines_are refl
        ∙ ap (λ es. events ++ es) is in
        let same = same_length 1 lines events p.lines_are in
        let at : next ≡ length events + 1 = omega arith in
        let meets = fault_then (start limits) w 1 next events (event ∷ ds) p.plays.played at
        ∙ fault_first w next event ds f met in (
          sym (verdict_is all (events ++ event ∷ ds) are
              ∙ ap (λ o. faulty_or o (otherwise all (events ++ event ∷ ds))) meets),
          b ∙ ap (λ l. text_of (transcript (start limits) events ++ l))
              (prints ∙ sym (ap (transcript w) is ∙ transcript_faulty w event ds f met))
              ∙ ap text_of (sym (lines_then (first ∷ others))),
        )

    -- the first lines of what is printed, where the run ends before the verdict
    cut_ends : (tail : List (List ℕ)) (printed : List Line) (body : List ℕ)
        → IsPrefix printed (transcript w (events_of next tail))
        → body ≡ text_of (transcript (start limits) events ++ printed)
        → Begins limits (lines ++ tail) body
    cut_ends tail printed body f b = grind (arith, append_assoc, lines_then)

    -- nothing of the next line was printed
    none_ends : (tail : List (List ℕ)) (printed : List Line) (body : List ℕ) → printed ≡ []
        → body ≡ text_of (transcript (start limits) events ++ printed)
        → Begins limits (lines ++ tail) body
    none_ends tail printed body e b =
        let all = transcript w (events_of next tail) in
        cut_ends tail printed body (all, ap (λ l. l ++ all) e) b

    part_ends : (line more rest : List ℕ) (event : Event) (printed : List Line) (body : List ℕ)
        → ReadsWhole line more (Some rest) → event_at next line ≡ Some event
        → PlaysPart limits events w event printed
        → body ≡ text_of (transcript (start limits) events ++ printed)
        → Begins limits (lines ++ text_lines (more ++ rest)) body
    part_ends line more rest event printed body r at part b =
        let k = whole_first line more rest (Some rest) r (λ e. e) in
        let ds = events_of (next + 1) k.0 in
        let all : events_of next (text_lines (more ++ rest)) ≡ event ∷ ds =
        ap (events_of next) k.1 ∙ one_event next line k.0 event at in
        let begins : IsPrefix printed (transcript w (event ∷ ds)) =
        prefix_trans printed part.lines (transcript w (event ∷ ds)) part.begins
        (prefix_trans part.lines (step w event).lines (transcript w (event ∷ ds))
        (step_lines w event part.state part.lines part.reached) (transcript_begins w event ds)) in
        cut_ends (text_lines (more ++ rest)) printed body
        (subst (λ es. IsPrefix printed (transcript w es)) (sym all) begins) b

  refused_at : (n : ℕ) (f : WorldFault) → IsRefusal f → ending_at n f ≡ Refused n f
  refused_at n f r = grind arith

  by_ending : (ending : Ending) (lines : List (List ℕ)) (events : List Event) (w : WorldState)
      (more : List ℕ) (printed : List Line) (body rest : List ℕ) → (ending ≡ Done → ⊥)
      → Plays limits lines events w
      → Next limits ending (Some rest) events (length lines + 1) w more printed
      → body ≡ text_of (transcript (start limits) events ++ printed)
      → EndsAs limits (lines ++ text_lines (more ++ rest)) ending body
  by_ending Done lines events w more printed body rest d p x b = absurd (d refl)
  by_ending (BadLine number) lines events w more printed body rest d p x b =
      let k = bad_first (length lines + 1) x.2 more rest (Some rest) x.3 x.4 (λ e. e) in
      subst (λ t. EndsAs limits (lines ++ t) (BadLine number) body) (sym k.2)
      (bad_ends lines events w p k.1 k.0 number printed body x.0 x.1 k.3 b)
  by_ending ReadFault lines events w more printed body rest d p x b =
      none_ends lines events w p (text_lines (more ++ rest)) printed body x.0 b
  by_ending WriteFault lines events w more printed body rest d p x b =
      part_ends lines events w p x.0 more rest x.1 printed body x.2 x.3 x.4 b
  by_ending (Refused number f) lines events w more printed body rest d p x b =
      let k = whole_first x.3 more rest (Some rest) x.5 (λ e. e) in
      let links = have_links limits limits.history_max events w
      (lines_valid 1 lines events p.lines_are) p.plays.played in
      let none = (faults_none w x.4 f links x.7 x.2).1 in
      let ends = fault_ends lines events w p k.0 x.3 x.4 f printed body x.6 x.7
      (x.1 ∙ sym none) b in
      subst (λ t. EndsAs limits (lines ++ t) (Refused number f) body) (sym k.1) (
        ap (λ n. Refused n f) x.0 ∙ sym (refused_at (length lines + 1) f x.2) ∙ ends.0,
        ends.1,
      )
  by_ending HistoryFull lines events w more printed body rest d p x b =
      let k = whole_first x.0 more rest (Some rest) x.3 (λ e. e) in
      subst (λ t. EndsAs limits (lines ++ t) HistoryFull body) (sym k.1)
      (fault_ends lines events w p k.0 x.0 x.1 (fault.HistoryFull x.2) printed body x.4 x.5 x.6 b)
  by_ending NoMemory lines events w more printed body rest d p x b = elim x [
    | inl h ↦ none_ends lines events w p (text_lines (more ++ rest)) printed body h.0 b
    | inr (inl h) ↦ none_ends lines events w p (text_lines (more ++ rest)) printed body h.0 b
    | inr (inr h) ↦ part_ends lines events w p h.0 more rest h.1 printed body h.2 h.3 h.4 b
  ]

  next_ends : (ending : Ending) (text rest : List ℕ) (body : List ℕ) → (ending ≡ Done → ⊥)
      → PlayedThen limits ending (Some text) (Some rest) body
      → EndsAs limits (text_lines text) ending body
  next_ends ending text rest body not_done p = grind (arith, append_assoc, lines_ended, by_ending)

  -- the whole input is known
  pub ends_as : (text : List ℕ) (in1 : Option (List ℕ)) (ending : Ending) (body : List ℕ)
      → Comes limits (Some text) in1 ending body → EndsAs limits (text_lines text) ending body
  ends_as text in1 ending body c = grind (arith, append-nil, done_ends, next_ends)
