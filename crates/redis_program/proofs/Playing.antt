-- A schedule played so far, and how a line takes it on or brings it to an end.
use Rattle.std.proofs.Common.{◌≡◌, ◌+◌, ℕ, List, [], ◌∷◌, ◌++◌, Some, None, Ok, Err, length, refl}
use Rattle.std.proofs.Common.{sym, ap, subst, ◌∙◌, append-nil, arith, length-append, inl, inr}
use Rattle.std.specs.declared.option.Option.{Option}
use Rattle.std.specs.Io.KnownBytes.{Appends, Consumes, IsAtEnd}
use Rattle.edge_links.specs.declared.counts.Counts.{Counts}
use Rattle.edge_links.specs.Counts.{EndCounted, FaultCounted}
use Rattle.serial_model.specs.declared.history.Limits.{Limits}
use Rattle.script_text.specs.declared.event.Event.{Event}
use Rattle.script_text.specs.declared.line.Line.{Line}
use Rattle.script_text.specs.Printed.{text_of}
use Rattle.script_text.specs.Valid.{IsValid}
use Rattle.shared_cache.specs.Laws.{Every}
use Rattle.world_run.specs.WorldState.{WorldState, start}
use Rattle.world_run.specs.World.{step}
use Rattle.world_run.specs.WorldTranscript.{transcript, after}
use Rattle.world_run.specs.WorldHistory.{HasOneHistory, HitStands}
use Rattle.world_run.proofs.History.{every_front, faults_none, have_links}
use Rattle.world_run.proofs.Played.{event_more, events_played}
use Rattle.redis_program.specs.declared.status.Ending.{Ending}
use Rattle.redis_program.specs.declared.status.Ending.TheVariants.{Done, BadLine, WriteFault}
use Rattle.redis_program.specs.declared.status.Ending.TheVariants.{Refused, HistoryFull, NoMemory}
use Rattle.redis_program.specs.Headline.{AppendsFirst, AreLinesOf, ArePlain, IsPlain, Next, Plays}
use Rattle.redis_program.specs.Headline.{PlayedThen, PlaysPart, ReadsWhole, ended}
use Rattle.redis_program.specs.Headline.{text_lines}
use Rattle.redis_program.specs.Playing.{ComesTo, LineGives, PartPrinted}
use Rattle.edge_links.proofs.Bytes.{appends_none, appends_more, consumes_none, consumes_more}
use Rattle.edge_lines.proofs.Bytes.{first_then}
use Rattle.edge_lines.proofs.Splitting.{lines_ended, line_alone, plain_more, ended_more}
use Rattle.redis_program.proofs.Scheduling.{are_more, text_more}
use Rattle.redis_program.proofs.LineTexts.{all_printed}
use Rattle.redis_program.proofs.Valid.{event_valid, lines_valid}

-- whole lines were read and played, and what they print was written; the next line has this number
pub record Standing (limits : Limits) (number : ℕ) (w : WorldState)
    (in0 in1 out0 out1 : Option (List ℕ)) : Type 0 where
  pub lines : List (List ℕ)
  pub events : List Event
  pub consumed : Consumes in0 in1 (ended lines)
  pub plain : ArePlain lines
  pub lines_are : AreLinesOf 1 lines events
  pub played : after (start limits) events ≡ Some w
  pub numbered : number ≡ length lines + 1
  pub written : Appends out0 out1 (text_of (transcript (start limits) events))

pub standing_none : (limits : Limits) (w : WorldState) (input output : Option (List ℕ))
    → w ≡ start limits → Standing limits 1 w input input output output
unfolding text_of
standing_none limits w input output e = record {
  lines = [];
  events = [];
  consumed = consumes_none input;
  plain = tt;
  lines_are = tt;
  played = ap Some (sym e);
  numbered = refl;
  written = appends_none output;
}

plays_of : HasOneHistory → (limits : Limits) (lines : List (List ℕ)) (events : List Event)
    (w : WorldState) → AreLinesOf 1 lines events → after (start limits) events ≡ Some w
    → Plays limits lines events w
plays_of law limits lines events w a p = record {
  lines_are = a;
  plays = events_played law limits events w (lines_valid 1 lines events a) p;
}

part_of : HasOneHistory → (limits : Limits) (lines : List (List ℕ)) (events : List Event)
    (w : WorldState) (n : ℕ) (line : List ℕ) (printed : List Line) → AreLinesOf 1 lines events
    → after (start limits) events ≡ Some w
    → (part : PartPrinted n w line printed) → PlaysPart limits events w part.0 printed
part_of law limits lines events w n line printed a p part =
    let all = law limits limits.history_max events w (lines_valid 1 lines events a) p in
    let follows = all.1 part.0 part.2 part.3 (event_valid n line part.0 part.1) part.4 in
    record {
      state = part.2;
      lines = part.3;
      reached = part.4;
      begins = part.5;
      hits = every_front (HitStands w part.0) printed part.3 part.5 follows.hits;
      follows = follows;
    }

-- more lines are printed after those that were written
written_more : (all lines : List Line) (out0 out1 out2 : Option (List ℕ))
    → Appends out0 out1 (text_of all) → Appends out1 out2 (text_of lines)
    → Appends out0 out2 (text_of (all ++ lines))
written_more all lines out0 out1 out2 p q = grind (arith, text_more, appends_more)

module _ (limits : Limits) (number : ℕ) (w : WorldState)
    (in0 in1 in2 out0 out1 out2 : Option (List ℕ)) where
  abbrev printed_by : List Event → List Line
  printed_by events = transcript (start limits) events

  -- a line was played
  module _ (new : WorldState) (line : List ℕ) (done : Unit {0})
      (s : Standing limits number w in0 in1 out0 out1)
      (g : LineGives number w line (Ok done) new out1 out2) where
    abbrev event : Event
    event = g.1.0

    abbrev events : List Event
    events = s.events ++ event ∷ []

    played : after (start limits) events ≡ Some new
    played = (event_more (start limits) w s.events event s.played g.1.2).0 ∙ ap Some (sym g.1.3)

    written : Appends out0 out2 (text_of (printed_by events))
    written = grind (arith, event_more, written_more)

    lines_are : AreLinesOf 1 (s.lines ++ line ∷ []) events
    lines_are = are_more 1 number s.lines s.events line event s.lines_are s.numbered g.1.1

    pub standing_more : IsPlain line → Consumes in1 in2 (line ++ 10 ∷ [])
        → Standing limits (number + 1) new in0 in2 out0 out2
    standing_more p c =
        grind (
          arith,
          ended_more,
          consumes_more,
          plain_more,
          lines_are,
          played,
          length-append,
          written,
        )

    -- the end of the source ended it
    pub done_last : HasOneHistory → IsPlain line → (line ≡ [] → ⊥) → Consumes in1 in2 line
        → IsAtEnd in2 → ComesTo limits in0 in2 Done out0 out2
    done_last law p some c e =
        let split : text_lines (ended s.lines ++ line) ≡ s.lines ++ line ∷ [] =
        lines_ended s.lines line s.plain ∙ ap (λ l. s.lines ++ l) (line_alone line p some) in (
          text_of (printed_by events),
          record {
            bytes = ended s.lines ++ line;
            events = events;
            w = new;
            consumed = consumes_more in0 in1 in2 (ended s.lines) line s.consumed c;
            at_end = e;
            plays = plays_of law limits (text_lines (ended s.lines ++ line)) events new
                (subst (λ ls. AreLinesOf 1 ls events) (sym split) lines_are) played;
            prints = refl;
          },
          written,
        )

  -- nothing comes after the lines
  pub done_here : HasOneHistory → Standing limits number w in0 in1 out0 out1
      → Consumes in1 in2 [] → IsAtEnd in2 → ComesTo limits in0 in2 Done out0 out1
  done_here law s c e =
      let split : text_lines (ended s.lines ++ []) ≡ s.lines =
      lines_ended s.lines [] s.plain ∙ append-nil s.lines in (
        text_of (printed_by s.events),
        record {
          bytes = ended s.lines ++ [];
          events = s.events;
          w = w;
          consumed = consumes_more in0 in1 in2 (ended s.lines) [] s.consumed c;
          at_end = e;
          plays = plays_of law limits (text_lines (ended s.lines ++ [])) s.events w
              (subst (λ ls. AreLinesOf 1 ls s.events) (sym split) s.lines_are) s.played;
          prints = refl;
        },
        s.written,
      )

  played_then : HasOneHistory → (ending : Ending) (more : List ℕ) (printed : List Line)
      (s : Standing limits number w in0 in1 out0 out1) → Consumes in1 in2 more
      → Next limits ending in2 s.events number w more printed
      → PlayedThen limits ending in0 in2 (text_of (printed_by s.events ++ printed))
  played_then law ending more printed s c next = record {
    lines = s.lines;
    events = s.events;
    w = w;
    more = more;
    printed = printed;
    reads = record {
      consumed = consumes_more in0 in1 in2 (ended s.lines) more s.consumed c;
      plain = s.plain;
    };
    plays = plays_of law limits s.lines s.events w s.lines_are s.played;
    next = subst (λ k. Next limits ending in2 s.events k w more printed) s.numbered next;
    prints = refl;
  }

  -- something else was read after the lines, and printed nothing
  pub ends_here : HasOneHistory → (ending : Ending) (more : List ℕ)
      (s : Standing limits number w in0 in1 out0 out1)
      → Consumes in1 in2 more → Next limits ending in2 s.events number w more []
      → (body : List ℕ) × PlayedThen limits ending in0 in2 body × Appends out0 out1 body
  ends_here law ending more s c next = (
    text_of (printed_by s.events ++ []),
    played_then law ending more [] s c next,
    subst (λ l. Appends out0 out1 (text_of l)) (sym (append-nil (printed_by s.events))) s.written,
  )

  -- the next line printed this
  ends_with : HasOneHistory → (ending : Ending) (more : List ℕ) (printed : List Line)
      (s : Standing limits number w in0 in1 out0 out1) → Consumes in1 in2 more
      → Next limits ending in2 s.events number w more printed
      → Appends out1 out2 (text_of printed)
      → (body : List ℕ) × PlayedThen limits ending in0 in2 body × Appends out0 out2 body
  ends_with law ending more printed s c next a = grind (arith, played_then, written_more)

  -- a line was read, and brought the run to an ending
  pub line_ends : HasOneHistory → (ending : Ending) (new : WorldState) (line more : List ℕ)
      → Standing limits number w in0 in1 out0 out1 → ReadsWhole line more in2
      → Consumes in1 in2 more → LineGives number w line (Err ending) new out1 out2
      → ComesTo limits in0 in2 ending out0 out2
  line_ends law (BadLine k) new line more s r c g =
      ends_with law (BadLine k) more g.0 s c (g.1.0, g.1.1, line, inl r, g.1.2) g.2
  line_ends law WriteFault new line more s r c g =
      let part = part_of law limits s.lines s.events w number line g.0 s.lines_are s.played g.1 in (
        text_of (printed_by s.events ++ g.0),
        played_then law WriteFault more g.0 s c (line, g.1.0, r, g.1.1, part),
        subst (λ l. AppendsFirst out0 out2 l) (sym (text_more (printed_by s.events) g.0))
            (first_then out0 out1 out2 (text_of (printed_by s.events)) (text_of g.0) s.written
            g.2),
      )
  line_ends law (Refused k f) new line more s r c g =
      let links = have_links limits limits.history_max s.events w
      (lines_valid 1 s.lines s.events s.lines_are) s.played in
      let none = (faults_none w g.1.2 f links g.1.4 g.1.1).1 in
      ends_with law (Refused k f) more g.0 s c
      (g.1.0, g.1.5 ∙ none, g.1.1, line, g.1.2, r, g.1.3, g.1.4) g.2
  line_ends law HistoryFull new line more s r c g =
      let printed = all_printed number w line g.1.0 g.0 g.1.1 g.1.4 in
      let part =
      part_of law limits s.lines s.events w number line g.0 s.lines_are s.played printed in
      ends_with law HistoryFull more g.0 s c
      (line, g.1.0, g.1.2, r, g.1.1, g.1.3, g.1.4, part) g.2
  line_ends law NoMemory new line more s r c g = elim g.1 [
    | inl none ↦ ends_with law NoMemory more g.0 s c (inr (inl (none, line, r))) g.2
    | inr part ↦
        let plays =
        part_of law limits s.lines s.events w number line g.0 s.lines_are s.played part in
        ends_with law NoMemory more g.0 s c (inr (inr (line, part.0, r, part.1, plays))) g.2
  ]
  line_ends law ending new line more s r c g = absurd g.1

  -- the same of the bytes of a line, which is the line that was played
  pub line_brings : HasOneHistory → (ending : Ending) (new : WorldState) (items line : List ℕ)
      → Standing limits number w in0 in1 out0 out1 → line ≡ items → IsPlain items
      → Consumes in1 in2 (items ++ 10 ∷ [])
      → LineGives number w line (Err ending) new out1 out2
      → ComesTo limits in0 in2 ending out0 out2
  line_brings law ending new items line s e p c g = grind (arith, line_ends)

  pub last_brings : HasOneHistory → (ending : Ending) (new : WorldState) (items line : List ℕ)
      → Standing limits number w in0 in1 out0 out1 → line ≡ items → IsPlain items
      → (items ≡ [] → ⊥) → Consumes in1 in2 items → IsAtEnd in2
      → LineGives number w line (Err ending) new out1 out2
      → ComesTo limits in0 in2 ending out0 out2
  last_brings law ending new items line s e p some c end g = grind (arith, line_ends)

  pub line_played : (new : WorldState) (items line : List ℕ) (done : Unit {0})
      → Standing limits number w in0 in1 out0 out1 → line ≡ items → IsPlain items
      → Consumes in1 in2 (items ++ 10 ∷ [])
      → LineGives number w line (Ok done) new out1 out2
      → Standing limits (number + 1) new in0 in2 out0 out2
  line_played new items line done s e p c g =
      standing_more new items done s
      (subst (λ l. LineGives number w l (Ok done) new out1 out2) e g) p c

  pub last_played : HasOneHistory → (new : WorldState) (items line : List ℕ) (done : Unit {0})
      → Standing limits number w in0 in1 out0 out1 → line ≡ items → IsPlain items
      → (items ≡ [] → ⊥) → Consumes in1 in2 items → IsAtEnd in2
      → LineGives number w line (Ok done) new out1 out2 → ComesTo limits in0 in2 Done out0 out2
  last_played law new items line done s e p some c end g =
      done_last new items done s
      (subst (λ l. LineGives number w l (Ok done) new out1 out2) e g) law p some c end

pub end_counted : (old mid now : Counts) → mid ≡ old → EndCounted mid now → EndCounted old now
end_counted old mid now e r = subst (λ x. EndCounted x now) e r

pub fault_counted : (old mid now : Counts) → mid ≡ old → FaultCounted mid now
    → FaultCounted old now
fault_counted old mid now e r = subst (λ x. FaultCounted x now) e r

-- the world could not be made
pub no_world : HasOneHistory → (limits : Limits) (input output : Option (List ℕ))
    → ComesTo limits input input NoMemory output output
no_world law limits input output =
    ends_here limits 1 (start limits) input input input output output output law NoMemory []
    (standing_none limits (start limits) input output refl) (consumes_none input)
    (inl (refl, tt))
