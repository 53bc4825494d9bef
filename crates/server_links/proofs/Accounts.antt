-- The account of a link: what was put on it and what was taken for it are heard or read, in flight
-- or lost, and what its server's end heard ran, or stands behind a QUIT or a drop. Each move keeps
-- it, and wherever memory runs out a part of it stands.
use Rattle.std.proofs.Common.{◌≡◌, ℕ, List, [], ◌∷◌, ◌++◌, true, false, None, Option, take, sym}
use Rattle.std.proofs.Common.{ap}
use Rattle.std.proofs.Common.{◌∙◌, append_assoc, append-nil, arith}
use Rattle.resp_value.specs.Lists.{IsPrefix}
use Rattle.resp_stream.specs.declared.fault.StreamFault.{StreamFault}
use Rattle.resp_stream.specs.Parse.{parse, requests_of}
use Rattle.resp_stream.proofs.Onward.{GoesOn}
use Rattle.serial_model.specs.declared.history.Limits.{Limits}
use Rattle.serial_model.specs.declared.history.Entry.{Entry}
use Rattle.serial_model.specs.EntryEffects.{was_dropped}
use Rattle.serial_model.specs.History.{reads_on, stream, taken, runs_of}
use Rattle.script_text.specs.declared.line.Line.{Line}
use Rattle.server_links.specs.declared.fault.WorldFault.TheVariants.{NothingThere}
use Rattle.server_links.specs.Directions.{is_open}
use Rattle.server_links.specs.OneHistory.{ended_early, read_on, PartServes}
use Rattle.server_links.specs.Outcome.{Outcome, stays, refuses, and_then}
use Rattle.server_links.specs.Session.{Session}
use Rattle.server_links.proofs.Outcomes.{Meets, meets_stays, meets_once, meets_refuses, meets_then}
use Rattle.server_links.proofs.Outcomes.{meets_weaker}
use Rattle.server_links.proofs.Carries.{read_more}
use Rattle.server_links.proofs.Endings.{early_before}
use Rattle.server_links.proofs.Moving.{Every, every_named}

-- the first bytes of a stream, those that were taken
unfoldable pub gave : Limits → ℕ → List Entry → List ℕ
gave l c past = take (taken l c past) (stream l c past)

pub record InFlight (heard said read : List ℕ) (s : Session) : Type 0 where
  pub up_lost : List ℕ
  pub all_said : (heard ++ s.link.up.bytes) ++ up_lost ≡ said
  pub none_up : is_open s.link.up.eof ≡ true → up_lost ≡ []
  pub down_lost : List ℕ
  pub all_taken : (read ++ s.link.down.bytes) ++ down_lost ≡ gave s.limits s.link.id s.past
  pub none_down : is_open s.link.down.eof ≡ true → down_lost ≡ []

-- what was heard ran, or was passed over since it stands behind a QUIT or a drop, or is still to
-- run
pub record Ran (todo : List (List (List ℕ))) (heard : List ℕ) (l : Limits) (c : ℕ)
    (past : List Entry) : Type 0 where
  pub passed : List (List (List ℕ))
  pub all : (runs_of c past ++ passed) ++ todo ≡ requests_of heard
  pub none : ended_early l c past ≡ false → passed ≡ []

-- entries that run nothing of it leave that
pub ran_grown : (todo : List (List (List ℕ))) (heard : List ℕ) (l : Limits) (c : ℕ)
    (entries past new : List Entry) → new ≡ entries ++ past → runs_of c new ≡ runs_of c past
    → Ran todo heard l c past → Ran todo heard l c new
ran_grown todo heard l c entries past new grows same r = record {
  passed = r.passed;
  all = ap (λ x. (x ++ r.passed) ++ todo) same ∙ r.all;
  none = λ h. r.none (early_before l c entries past
      (sym (ap (ended_early l c) grows) ∙ h));
}

pub ran_front : (todo : List (List (List ℕ))) (heard : List ℕ) (l : Limits) (c : ℕ)
    (past : List Entry) → Ran todo heard l c past → IsPrefix (runs_of c past) (requests_of heard)
ran_front todo heard l c past r = (
  r.passed ++ todo,
  sym (append_assoc (runs_of c past) r.passed todo) ∙ r.all,
)

pub record Account (heard said read : List ℕ) (s : Session) : Type 0 where
  pub bytes : InFlight heard said read s
  pub runs : Ran [] heard s.limits s.link.id s.past
  pub reading : reads_on s.limits s.past s.link.id ≡ true → GoesOn parse heard s.link.reader

-- one that is read no more was dropped
abbrev pub IsOpen : Session → Type 0
IsOpen s = reads_on s.limits s.past s.link.id ≡ false → was_dropped s.limits s.link.id s.past ≡ true

-- these requests are still to run
pub record Running (todo : List (List (List ℕ))) (heard said read : List ℕ) (s : Session) : Type 0
  where
    pub bytes : InFlight heard said read s
    pub on : IsOpen s
    pub runs : Ran todo heard s.limits s.link.id s.past

-- all ran, up to this fault
pub record Halted (fault : Option StreamFault) (heard said read : List ℕ) (s : Session) : Type 0
  where
    pub bytes : InFlight heard said read s
    pub runs : Ran [] heard s.limits s.link.id s.past
    pub reading : fault ≡ None → GoesOn parse heard s.link.reader

-- and the connection is still read
pub record Stopping (fault : Option StreamFault) (heard said read : List ℕ) (s : Session) : Type 0
  where
    pub halted : Halted fault heard said read s
    pub on : reads_on s.limits s.past s.link.id ≡ true

unfoldable pub Part : List ℕ → List ℕ → Session → Type 0
Part said read s = PartServes s.limits said read s.past s.link

pub part_of : (heard said read : List ℕ) (s : Session) → InFlight heard said read s
    → IsPrefix (runs_of s.link.id s.past) (requests_of heard) → Part said read s
unfolding Part gave
part_of heard said read s b front = grind arith

pub account_part : (heard said read : List ℕ) (s : Session) → Account heard said read s
    → Part said read s
account_part heard said read s a =
    part_of heard said read s a.bytes (ran_front [] heard s.limits s.link.id s.past a.runs)

pub running_part : (todo : List (List (List ℕ))) (heard said read : List ℕ) (s : Session)
    → Running todo heard said read s → Part said read s
running_part todo heard said read s r =
    part_of heard said read s r.bytes (ran_front todo heard s.limits s.link.id s.past r.runs)

pub halted_part : (fault : Option StreamFault) (heard said read : List ℕ) (s : Session)
    → Halted fault heard said read s → Part said read s
halted_part fault heard said read s h =
    part_of heard said read s h.bytes (ran_front [] heard s.limits s.link.id s.past h.runs)

-- ---- one move after another

-- from P, a move ends in Q, and comes to W wherever memory runs out
unfoldable pub Keeps : (P Q W : List ℕ → Session → Type 0) → Session → Outcome Session → Type 0
Keeps P Q W s m =
    (read : List ℕ) → P read s
    → Meets (λ t l. Q (read ++ read_on s.link.name l) t)
    (λ t l. W (read ++ read_on s.link.name l) t) m

-- what is enough to keep it
pub keeps_from : (P R Q W : List ℕ → Session → Type 0) (s : Session) (m : Outcome Session)
    → ((read : List ℕ) → P read s → R read s) → Keeps R Q W s m → Keeps P Q W s m
unfolding Keeps
keeps_from P R Q W s m f k read p = k read (f read p)

pub keeps_then : (P R Q W : List ℕ → Session → Type 0) (s : Session) (m : Outcome Session)
    (next : Session → Outcome Session)
    → Every s m → Keeps P R W s m → ((t : Session) → Keeps R Q W t (next t))
    → Keeps P Q W s (and_then m next)
unfolding Keeps
keeps_then P R Q W s m next e h g read p =
    let name = s.link.name in
    meets_then (λ t l. R (read ++ read_on name l) t) (λ t l. Q (read ++ read_on name l) t)
    (λ t l. W (read ++ read_on name l) t) m next (h read p)
    (λ none r.
    let same : (l : List Line) → (read ++ read_on name m.lines) ++ read_on m.state.link.name l
    ≡ read ++ read_on name (m.lines ++ l) =
    λ l. (ap (λ n. (read ++ read_on name m.lines) ++ read_on n l) (every_named s m e none)
    ∙ append_assoc read (read_on name m.lines) (read_on name l)
    ∙ ap (λ x. read ++ x) (sym (read_more name m.lines l))) in
    grind (arith, meets_weaker))

module _ (P Q W : List ℕ → Session → Type 0) (s : Session) where
  pub keeps_stays : (new : Session) → ((read : List ℕ) → P read s → Q read new × W read new)
      → Keeps P Q W s (stays new)
  unfolding Keeps
  keeps_stays new f read p = grind (arith, meets_stays, append-nil)

  pub keeps_refuses : ((read : List ℕ) → P read s → W read s)
      → Keeps P Q W s (refuses s NothingThere)
  unfolding Keeps
  keeps_refuses f read p = grind (arith, meets_refuses, append-nil)

  -- something is done whose lines tell of these bytes
  pub keeps_once : (new : Session) (lines : List Line) (fault : Option _) (bytes : List ℕ)
      → read_on s.link.name lines ≡ bytes
      → ((read : List ℕ) → P read s → W read s × (fault ≡ None → Q (read ++ bytes) new)
      × W (read ++ bytes) new)
      → Keeps P Q W s (record { state = new; lines = lines; fault = fault; points = (s, []) ∷ [] })
  unfolding Keeps
  keeps_once new lines fault bytes tells f read p = grind (arith, meets_once, append-nil)

  pub keeps_quiet : (new : Session) (lines : List Line) (fault : Option _)
      → read_on s.link.name lines ≡ []
      → ((read : List ℕ) → P read s → W read s × (fault ≡ None → Q read new) × W read new)
      → Keeps P Q W s (record { state = new; lines = lines; fault = fault; points = (s, []) ∷ [] })
  keeps_quiet new lines fault tells f = grind (arith, keeps_once, append-nil)
