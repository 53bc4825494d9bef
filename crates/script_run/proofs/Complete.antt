-- What the end of a session rests on: its lines, its links, its log and its tickets.
use Rattle.std.proofs.Common.{◌≡◌, ◌≤◌, inl, inr, ℕ, suc, zero, List, [], ◌∷◌, ◌++◌, Bool}
use Rattle.std.proofs.Common.{true, false, cond, refl, sym, ap, subst, ◌∙◌, arith, None}
use Rattle.std.specs.Prelude.{Option, Some, ◌⊎◌, ◌||◌, ◌&&◌, ◌==◌, ◌-◌, ⊤, nat_le, not, option_map}
use Rattle.std.specs.List.{All}
use Rattle.std.proofs.lemmas.Bool.Decides.{nat_tests}
use Rattle.std.proofs.lemmas.List.Elements.{All-cons, All-head, All-nil, All-tail}
use Rattle.turn_lock.specs.History.{IsPrefix}
use Rattle.turn_lock.specs.declared.rule.TheConstants.{LAST_TICKET}
use Rattle.turn_lock.specs.Own.{past_of}
use Rattle.turn_lock.proofs.Growing.{grows_stands}
use Rattle.turn_lock.proofs.Turning.{begins_trans}
use Rattle.edge_links.specs.declared.counts.Counts.{Counts}
use Rattle.shared_cache.specs.declared.log.Wire.{Wire}
use Rattle.shared_cache.specs.declared.log.Wire.TheVariants.{Main, Side}
use Rattle.shared_cache.specs.declared.log.LogEntry.{LogEntry}
use Rattle.shared_cache.specs.declared.log.LogEntry.TheVariants as entry
use Rattle.shared_cache.specs.declared.log.ClientCall.TheVariants as call
use Rattle.shared_cache.specs.declared.log.ClientReply.TheVariants as reply
use Rattle.shared_cache.specs.declared.log.ClientRefusal.{ClientRefusal}
use Rattle.shared_cache.specs.declared.log.ClientRefusal.TheVariants as refusal
use Rattle.shared_cache.specs.Held.{Setup}
use Rattle.shared_cache.specs.Steps.{client_step, is_log_full}
use Rattle.shared_client.specs.Turns.{Turn, setup_in, setup_at}
use Rattle.client_link.specs.declared.pump_end.PumpEnd.{PumpEnd}
use Rattle.client_link.specs.declared.pump_end.PumpEnd.TheVariants as pumped
use Rattle.client_link.specs.Pumps.{EndCounts, EndsByValue, FaultIs, Finishes, end_number}
use Rattle.client_link.proofs.Steps.{full_begins}
use Rattle.script_text.specs.declared.answer_line.ScriptAnswer.TheVariants as said
use Rattle.script_text.specs.declared.script_line.ScriptCall.{ScriptCall}
use Rattle.script_text.specs.declared.script_line.ScriptCall.TheVariants.{Ask, Do}
use Rattle.script_text.specs.declared.script_line.ScriptLine.{ScriptLine}
use Rattle.script_run.specs.declared.answer.Answer.{Answer}
use Rattle.script_run.specs.declared.answer.Answer.TheVariants.{Refused}
use Rattle.script_run.specs.declared.reports.LineEnd.{LineEnd}
use Rattle.script_run.specs.declared.reports.LineEnd.TheVariants as line
use Rattle.script_run.specs.declared.reports.SessionEnd.{SessionEnd}
use Rattle.script_run.specs.declared.reports.SessionEnd.TheVariants as ended
use Rattle.script_run.specs.declared.reports.Tally.{Tally}
use Rattle.script_run.specs.declared.session.PumpedLink.{PumpedLink}
use Rattle.script_run.specs.Complete.{AreSound, Completes, EndCause, EndShows, HasValue}
use Rattle.script_run.specs.Complete.{SoundSessionsAnswer, end_of}
use Rattle.script_run.specs.Ends.{SideCounts, side_end}
use Rattle.script_run.specs.Lines.{AllCame, Came, NoAnswer, RefusedBy, ThreadsCame, Unplayed}
use Rattle.script_run.specs.Lines.{call_for, calls_of}
use Rattle.script_run.specs.Reports.{ends_of, first_at, line_end, no_tally, note_end, refused_end}
use Rattle.script_run.specs.Reports.{ends_so, is_printing, link_ended, rest_at, session_end}
use Rattle.script_run.specs.Reports.{tally_after}
use Rattle.script_run.specs.Session.{AnyDown, AnyEnds, EndsLink, HasDown, LinkEnd, PumpedBy}
use Rattle.script_run.specs.Session.{Session, SidePumped}
use Rattle.script_run.proofs.Sessions.{Answered}

-- ---- who was told that the log is full has seen it so

call_full : (s : Setup) (log : List LogEntry) (n : ℕ) (c : ScriptCall)
    → Answered (client_step s log (call_for c)) (refusal.LogFull n) log
    → is_log_full s log ≡ true
unfolding client_step
call_full s log n c is = grind arith

-- ---- what the end of a line shows

abbrev LineShows : LineEnd → Setup → List LogEntry → ℕ → Type 0
LineShows line.LogFull s log tickets = is_log_full s log ≡ true
LineShows line.Worn s log tickets = LAST_TICKET ≤ tickets
LineShows (line.Said a) s log tickets = ⊤
LineShows line.NoMemory s log tickets = ⊤

shows_more : (x : LineEnd) (s : Setup) (seen log : List LogEntry) (t tickets : ℕ)
    → IsPrefix seen log → t ≤ tickets → LineShows x s seen t → LineShows x s log tickets
shows_more x s seen log t tickets p le h = grind (arith, full_begins)

refused_shows : (s : Setup) (c : ScriptCall) (r : ClientRefusal) (ts : List Turn)
    (seen : List LogEntry) (t : ℕ) → RefusedBy s c r ts seen t
    → LineShows (refused_end r) s seen t
refused_shows s c (refusal.LogFull n) ts seen t (Unplayed e why) = call_full s seen n c why.1
refused_shows s c (refusal.LogFull n) ts seen t (NoAnswer m past e step why) = absurd why.0
refused_shows s c r ts seen t h = grind arith

came_shows : (s : Setup) (c : ScriptCall) (a : Answer) (ts : List Turn) (seen : List LogEntry)
    (t : ℕ) → Came s c a ts seen t → LineShows (line_end (Some a)) s seen t
came_shows s (Ask q) (Refused r) ts seen t h = refused_shows s (Ask q) r ts seen t h
came_shows s (Do ws) (Refused r) ts seen t h = refused_shows s (Do ws) r ts seen t h
came_shows s c a ts seen t h = tt

-- ---- the answers that end a line so

module _ (x : LineEnd) where
  abbrev AnyEndSo : List Answer → Type 0
  AnyEndSo [] = ⊥
  AnyEndSo (a ∷ rs) = (line_end (Some a) ≡ x) ⊎ AnyEndSo rs

  abbrev HasEnds : List (List Answer) → Type 0
  HasEnds [] = ⊥
  HasEnds (rs ∷ all) = AnyEndSo rs ⊎ HasEnds all

  abbrev AnyLine : List LineEnd → Type 0
  AnyLine [] = ⊥
  AnyLine (e ∷ ends) = (e ≡ x) ⊎ AnyLine ends

  all_show : (s : Setup) (cs : List ScriptCall) (rs : List Answer) (ts : List Turn)
      (log : List LogEntry) (t : ℕ) → AllCame s cs rs ts log t → AnyEndSo rs → LineShows x s log t
  all_show s cs [] ts log t h d = absurd d
  all_show s [] (a ∷ rs) ts log t h d = absurd h
  all_show s (c ∷ cs) (a ∷ rs) ts log t h d =
      let i = h.3 in
      elim d [
        | inl is ↦ grind (arith, shows_more, came_shows)
        | inr is ↦ all_show s cs rs h.1 log t h.4 is
      ]

  threads_show : (s : Setup) (lines : List ScriptLine) (thread : ℕ) (all : List (List Answer))
      (ts : List Turn) (log : List LogEntry) (t : ℕ) → ThreadsCame s lines thread all ts log t
      → HasEnds all → LineShows x s log t
  threads_show s lines thread [] ts log t h d = absurd d
  threads_show s lines thread (rs ∷ all) ts log t h d =
      elim d [
        | inl is ↦ all_show s (calls_of thread lines) rs h.0 log t h.3.came is
        | inr is ↦ threads_show s lines (suc thread) all h.1 log t h.4 is
      ]

  module _ (some : x ≡ line.NoMemory → ⊥) where
    first_has : (place : ℕ) (all : List (List Answer)) → line_end (first_at place all) ≡ x
        → HasEnds all
    first_has place [] h = absurd (some (sym h))
    first_has zero (rs ∷ all) h = inl (grind arith)
    first_has (suc place) (rs ∷ all) h = inr (first_has place all h)

    rest_has : (place : ℕ) (all : List (List Answer)) → HasEnds (rest_at place all) → HasEnds all
    rest_has place [] h = h
    rest_has zero (rs ∷ all) h = elim h [ inl i ↦ inl (grind arith) | inr i ↦ inr i ]
    rest_has (suc place) (rs ∷ all) h =
        elim h [ inl i ↦ inl i | inr i ↦ inr (rest_has place all i) ]

    lines_have : (lines : List ScriptLine) (all : List (List Answer)) → AnyLine (ends_of lines all)
        → HasEnds all
    lines_have [] all h = absurd h
    lines_have (l ∷ lines) all h = elim h [
      | inl i ↦ first_has (l.thread - 1) all i
      | inr i ↦ rest_has (l.thread - 1) all (lines_have lines (rest_at (l.thread - 1) all) i)
    ]

any_down : (rs : List Answer) → AnyEndSo (line.Said said.Down) rs → AnyDown rs
any_down [] h = h
any_down (a ∷ rs) h = elim h [ inl is ↦ inl is | inr is ↦ inr (any_down rs is) ]

has_down : (all : List (List Answer)) → HasEnds (line.Said said.Down) all → HasDown all
has_down [] h = h
has_down (rs ∷ all) h = elim h [ inl is ↦ inl (any_down rs is) | inr is ↦ inr (has_down all is) ]

-- ---- what a tally has noted

module _ (flag : Tally → Bool) (x : LineEnd)
    (noted : (t : Tally) (e : LineEnd) → flag (note_end t e) ≡ true
    → (flag t ≡ true) ⊎ (e ≡ x)) where
  tally_noted : (t : Tally) (ends : List LineEnd) → flag (tally_after t ends) ≡ true
      → (flag t ≡ true) ⊎ AnyLine x ends
  tally_noted t [] h = inl h
  tally_noted t (e ∷ ends) h = grind (arith, tally_noted (note_end t e) ends h)

full_noted : (t : Tally) (e : LineEnd) → (note_end t e).log_full ≡ true
    → (t.log_full ≡ true) ⊎ (e ≡ line.LogFull)
full_noted t e h = grind arith

worn_noted : (t : Tally) (e : LineEnd) → (note_end t e).worn ≡ true
    → (t.worn ≡ true) ⊎ (e ≡ line.Worn)
worn_noted t e h = grind arith

down_noted : (t : Tally) (e : LineEnd) → (note_end t e).down ≡ true
    → (t.down ≡ true) ⊎ (e ≡ line.Said said.Down)
down_noted t e h = grind arith

-- no line so far is without its value
abbrev all_said : Tally → Bool
all_said t = not t.down && is_printing t

note_said : (t : Tally) (e : LineEnd) → all_said (note_end t e) ≡ true
    → (all_said t ≡ true) × HasValue e
note_said t (line.Said (said.Hit n v)) h = (h, tt)
note_said t (line.Said (said.Read n v)) h = (h, tt)
note_said t (line.Said (said.Reply v)) h = (h, tt)
note_said t e h = grind arith

tally_said : (t : Tally) (ends : List LineEnd) → all_said (tally_after t ends) ≡ true
    → (all_said t ≡ true) × All HasValue ends
tally_said t [] h = (h, All-nil HasValue)
tally_said t (e ∷ ends) h =
    let rest = tally_said (note_end t e) ends h in
    let one = note_said t e rest.0 in
    (one.0, All-cons HasValue e ends one.1 rest.1)

said_noted : (t : Tally) (e : LineEnd) → HasValue e → note_end t e ≡ t
said_noted t (line.Said (said.Hit n v)) h = refl
said_noted t (line.Said (said.Read n v)) h = refl
said_noted t (line.Said (said.Reply v)) h = refl
said_noted t e h = grind arith

said_tally : (t : Tally) (ends : List LineEnd) → All HasValue ends → tally_after t ends ≡ t
said_tally t [] h = refl
said_tally t (e ∷ ends) h =
    ap (λ z. tally_after z ends) (said_noted t e (All-head HasValue e ends h))
    ∙ said_tally t ends (All-tail HasValue e ends h)

-- ---- truth values

either_true : (a b : Bool) → (a || b) ≡ true → (a ≡ true) ⊎ (b ≡ true)
either_true a b h = grind arith

first_false : (a b : Bool) → (a || b) ≡ false → a ≡ false
first_false a b h = grind arith

last_false : (a b : Bool) → (a || b) ≡ false → b ≡ false
last_false a b h = grind arith

down_then : (down a b c : Bool) → (not down && (not a && (not b && not c))) ≡ false → a ≡ false
    → b ≡ false → c ≡ false → down ≡ true
down_then down a b c h x y z = grind arith

-- ---- what came of a link

module _ (s : Setup) (w : Wire) (turns : List Turn) (log : List LogEntry) (tickets : ℕ)
    (l : LinkEnd) (k : PumpedBy s w l turns log tickets) where
  setup_same : setup_at k.after ≡ s
  setup_same = ap setup_in k.pumps.works.grows.setup ∙ k.setup_is

  worn_pump : l.end ≡ pumped.Worn → LAST_TICKET ≤ tickets
  worn_pump is =
      let le = k.not_more in
      let last = (subst (λ e. Finishes w e (setup_at k.before) k.pumps.ending k.after) is
      k.pumps.finishes).1 in omega (arith, le, last)

  full_pump : l.end ≡ pumped.LogFull → is_log_full s log ≡ true
  full_pump is =
      let full = (subst (λ e. Finishes w e (setup_at k.before) k.pumps.ending k.after) is
      k.pumps.finishes).2 in
      full_begins s (past_of k.after) log k.begins
      (subst (λ z. is_log_full z (past_of k.after) ≡ true) setup_same full)

  by_full : (end_number l.end == 7) ≡ true → is_log_full s log ≡ true
  by_full is = full_pump (number_seven l.end is)
    where
      number_seven : (e : PumpEnd) → (end_number e == 7) ≡ true → e ≡ pumped.LogFull
      number_seven e h = grind arith

  by_worn : (end_number l.end == 8) ≡ true → LAST_TICKET ≤ tickets
  by_worn is = worn_pump (number_eight l.end is)
    where
      number_eight : (e : PumpEnd) → (end_number e == 8) ≡ true → e ≡ pumped.Worn
      number_eight e h = grind arith

  -- the value that ended the link stands in the log
  value_cause : (r : ClientRefusal)
      → EndsByValue (setup_at k.before) w r k.pumps.ending → EndCause (pumped.Refused r) s w l log
  value_cause r v =
      let last : Turn = (entry.Bad w v.value, v.past) in
      let works = k.pumps.works in
      let stand = grows_stands k.before k.after (k.pumps.ending ++ works.turns) works.grows in
      let first = All-head (λ (t : Turn). IsPrefix (t.0 ∷ t.1) (past_of k.after)) last works.turns
      (subst (λ ts. All (λ (t : Turn). IsPrefix (t.0 ∷ t.1) (past_of k.after))
      (ts ++ works.turns)) v.turns_are stand) in (
        v.value,
        v.past,
        begins_trans (entry.Bad w v.value ∷ v.past) (past_of k.after) log first k.begins,
        subst (λ z. client_step z v.past (call.Got w v.value)
            ≡ record { reply = reply.Refused r; past = entry.Bad w v.value ∷ v.past })
            k.setup_is v.step,
      )

  -- a pump that ended its link has a cause, but for want of memory or a full log
  cause_of : EndCounts l.end l.counts0 l.counts1 → EndsLink l.end
      → (end_number l.end == 6) ≡ false → (end_number l.end == 7) ≡ false
      → EndCause l.end s w l log
  cause_of counted ends six seven =
      by_end l.end k.pumps.finishes k.pumps.works.fault_is counted ends six seven
    where
      by_end : (e : PumpEnd) → Finishes w e (setup_at k.before) k.pumps.ending k.after
          → FaultIs e k.pumps.works.heard → EndCounts e l.counts0 l.counts1 → EndsLink e
          → (end_number e == 6) ≡ false → (end_number e == 7) ≡ false → EndCause e s w l log
      by_end pumped.PeerEnd f h c d six seven = c.0
      by_end pumped.LinkFault f h c d six seven = c.0
      by_end (pumped.BadStream fault) f h c d six seven =
          (k.pumps.works.heard, k.pumps.works.read, h)
      by_end (pumped.Refused r) f h c d six seven = value_cause r f.0
      by_end pumped.Done f h c d six seven = absurd d
      by_end pumped.NoMemory f h c d six seven = absurd (let no : true ≡ false = six in cc)
      by_end pumped.LogFull f h c d six seven = absurd (let no : true ≡ false = seven in cc)
      by_end pumped.Worn f h c d six seven = absurd d

-- a pump that ended its link has a number up to 4, but for want of memory or a full log
ends_low : (e : PumpEnd) → EndsLink e → (end_number e == 6) ≡ false
    → (end_number e == 7) ≡ false → nat_le (end_number e) 4 ≡ true
ends_low e ends six seven = grind (arith, nat_tests)

low_ends : (e : PumpEnd) → nat_le (end_number e) 4 ≡ true → EndsLink e
low_ends e le = grind (arith, nat_tests)

-- ---- why a session ends so

-- the end of a session by the cases in which it is told
by_cases : (P : SessionEnd → Type 0) (all some full worn : Bool) (e : SessionEnd)
    → (all ≡ true → P ended.Done) → P ended.NoMemory → (full ≡ true → P ended.HistoryFull)
    → (worn ≡ true → P ended.Worn)
    → (all ≡ false → some ≡ false → full ≡ false → worn ≡ false → P e)
    → P (cond all ended.Done (cond some ended.NoMemory (cond full ended.HistoryFull
    (cond worn ended.Worn e))))
by_cases P true some full worn e a b c d f = a refl
by_cases P false true full worn e a b c d f = b
by_cases P false false true worn e a b c d f = c refl
by_cases P false false false true e a b c d f = d refl
by_cases P false false false false e a b c d f = f refl refl refl refl

abbrev side_number : Option LinkEnd → Option ℕ
side_number side = option_map end_number (option_map (λ (l : LinkEnd). l.end) side)

-- the counts of the link of Side, where there is one
abbrev pub SideCounted : Option LinkEnd → Type 0
SideCounted None = ⊤
SideCounted (Some l) = EndCounts l.end l.counts0 l.counts1

pub side_counted : {L : Type 0} (left contents : L → Option (List ℕ)) (counts : L → Counts)
    (o : Option L) (p : Option (PumpedLink L)) → SideCounts counts o p
    → SideCounted (side_end left contents counts o p)
side_counted left contents counts None None h = tt
side_counted left contents counts (Some l) (Some p) h = h
side_counted left contents counts None (Some p) h = absurd h
side_counted left contents counts (Some l) None h = absurd h

module _ (s : Setup) (lines : List ScriptLine) (answers : List (List Answer)) (main : LinkEnd)
    (side : Option LinkEnd) (log : List LogEntry) (tickets : ℕ)
    (k : Session s lines answers main side log tickets)
    (counted : EndCounts main.end main.counts0 main.counts1) where
  abbrev ends : List LineEnd
  ends = ends_of lines answers

  abbrev all : Tally
  all = tally_after no_tally ends

  line_shows : (x : LineEnd) → (x ≡ line.NoMemory → ⊥) → AnyLine x ends → LineShows x s log tickets
  line_shows x some any = grind (arith, shows_more, threads_show, lines_have)

  noted_line : (flag : Tally → Bool) (x : LineEnd) → ((t : Tally) (e : LineEnd)
      → flag (note_end t e) ≡ true → (flag t ≡ true) ⊎ (e ≡ x)) → flag no_tally ≡ false
      → flag all ≡ true → AnyLine x ends
  noted_line flag x noted off h = elim (tally_noted flag x noted no_tally ends h) [
    | inl on ↦ absurd (let clash : ⊥ = cc in clash)
    | inr any ↦ any
  ]

  told_full : all.log_full ≡ true → is_log_full s log ≡ true
  told_full h =
      line_shows line.LogFull (λ e. cc) (noted_line (λ t. t.log_full) _ full_noted refl h)

  told_worn : all.worn ≡ true → LAST_TICKET ≤ tickets
  told_worn h = line_shows line.Worn (λ e. cc) (noted_line (λ t. t.worn) _ worn_noted refl h)

  told_down : all.down ≡ true → AnyEnds main side
  told_down h =
      let any = noted_line (λ t. t.down) (line.Said said.Down) down_noted refl h in
      k.down (has_down answers (lines_have _ (λ e. cc) lines answers any))

  -- a pump of the session that ended by 7 or 8
  full_so : (side : Option LinkEnd) → SidePumped s side k.side_pumped log tickets
      → ends_so 7 (end_number main.end) (side_number side) ≡ true → is_log_full s log ≡ true
  full_so None p is = by_full s Main k.pumped log tickets main k.pumps is
  full_so (Some l) p is = elim (either_true _ _ is) [
    | inl m ↦ by_full s Main k.pumped log tickets main k.pumps m
    | inr m ↦ by_full s Side k.side_pumped log tickets l p m
  ]

  worn_so : (side : Option LinkEnd) → SidePumped s side k.side_pumped log tickets
      → ends_so 8 (end_number main.end) (side_number side) ≡ true → LAST_TICKET ≤ tickets
  worn_so None p is = by_worn s Main k.pumped log tickets main k.pumps is
  worn_so (Some l) p is = elim (either_true _ _ is) [
    | inl m ↦ by_worn s Main k.pumped log tickets main k.pumps m
    | inr m ↦ by_worn s Side k.side_pumped log tickets l p m
  ]

  -- the link of which a session tells, where a pump has ended one
  link_so : (side : Option LinkEnd) → SidePumped s side k.side_pumped log tickets
      → SideCounted side → AnyEnds main side
      → ends_so 6 (end_number main.end) (side_number side) ≡ false
      → ends_so 7 (end_number main.end) (side_number side) ≡ false
      → EndShows (link_ended (end_number main.end) (side_number side)) s ends main side log tickets
  link_so None p c any six seven =
      (refl, cause_of s Main k.pumped log tickets main k.pumps counted any six seven)
  link_so (Some l) p c any six seven = by_low (nat_le (end_number main.end) 4) refl
    where
      by_low : (b : Bool) → nat_le (end_number main.end) 4 ≡ b
          → EndShows (cond b (ended.LinkEnded Main (end_number main.end))
          (ended.LinkEnded Side (end_number l.end))) s ends main (Some l) log tickets
      by_low true low = (
        refl,
        cause_of s Main k.pumped log tickets main k.pumps counted
            (low_ends main.end low) (first_false _ _ six) (first_false _ _ seven),
      )
      by_low false high = elim any [
        | inl is ↦
            let low = ends_low main.end is (first_false _ _ six) (first_false _ _ seven) in
            absurd (let no : true ≡ false = sym low ∙ high in cc)
        | inr is ↦ (
          refl,
          cause_of s Side k.side_pumped log tickets l p c is (last_false _ _ six)
              (last_false _ _ seven),
        )
      ]

  pub completes : SideCounted side → Completes s ends main side log tickets
  completes side_counts = record {
    done = λ every. ap (λ t. session_end t (end_number main.end) (side_number side))
        (said_tally no_tally ends every);
    shown = by_cases (λ e. EndShows e s ends main side log tickets) (all_said all)
        (all.no_memory || ends_so 6 (end_number main.end) (side_number side))
        (all.log_full || ends_so 7 (end_number main.end) (side_number side))
        (all.worn || ends_so 8 (end_number main.end) (side_number side))
        (link_ended (end_number main.end) (side_number side))
        (λ said. (tally_said no_tally ends said).1)
        tt
        (λ full. elim (either_true all.log_full _ full) [
          | inl told ↦ told_full told
          | inr by ↦ full_so side k.side_pumps by
        ])
        (λ worn. elim (either_true all.worn _ worn) [
          | inl told ↦ told_worn told
          | inr by ↦ worn_so side k.side_pumps by
        ])
        (λ said none full worn.
        link_so side k.side_pumps side_counts
        (told_down (down_then all.down all.no_memory all.log_full all.worn said
        (first_false _ _ none) (first_false _ _ full) (first_false _ _ worn)))
        (last_false _ _ none) (last_false _ _ full));
  }

-- ---- a session over links that are sound

pub sound_sessions_answer : SoundSessionsAnswer
sound_sessions_answer s ends main side log tickets c sound room left =
    by_end (end_of ends main side) c.shown
  where
    no_link : (side : Option LinkEnd) → AreSound s main side log → (w : Wire) (n : ℕ)
        → EndShows (ended.LinkEnded w n) s ends main side log tickets → ⊥
    no_link None sound Main n h = sound h.1
    no_link None sound Side n h = h
    no_link (Some l) sound Main n h = sound.0 h.1
    no_link (Some l) sound Side n h = sound.1 h.1

    by_end : (e : SessionEnd) → EndShows e s ends main side log tickets
        → (All HasValue ends × (e ≡ ended.Done)) ⊎ (e ≡ ended.NoMemory)
    by_end ended.Done h = inl (h, refl)
    by_end (ended.LinkEnded w n) h = absurd (no_link side sound w n h)
    by_end ended.HistoryFull h = absurd (room h)
    by_end ended.NoMemory h = inr refl
    by_end ended.Worn h = absurd (omega (arith, h, left))
