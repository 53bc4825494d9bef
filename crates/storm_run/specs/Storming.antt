-- What a storm plays and sums up: the schedule of a number, on a world.
use Rattle.std.specs.Prelude.{◌≡◌, ◌+◌, ◌++◌, ℕ, List, [], ◌∷◌, Bool, true, false, codes}
use Rattle.std.specs.Prelude.{count_by, length, Result, Ok, Err}
use Rattle.std.specs.declared.option.Option.TheVariants.{None, Some}
use Rattle.std.specs.Fmt.{decimal}
use Rattle.serial_model.specs.declared.history.Limits.{Limits}
use Rattle.script_text.specs.declared.event.Event.{Event}
use Rattle.script_text.specs.declared.line.Line.{Line}
use Rattle.script_text.specs.declared.line.Line.TheVariants as line
use Rattle.script_text.specs.Storm.{storm}
use Rattle.script_text.specs.Valid.{IsValid}
use Rattle.server_links.specs.declared.fault.WorldFault.TheVariants as fault
use Rattle.shared_cache.specs.Laws.{Every}
use Rattle.world_run.specs.Counts.{all_held}
use Rattle.world_run.specs.WorldState.{WorldState, start_with}
use Rattle.world_run.specs.World.{step}
use Rattle.world_run.specs.WorldTranscript.{after, transcript}
use Rattle.storm_laws.specs.Storms.{IsPlayed}
use Rattle.storm_run.specs.declared.play.Unplayed.{Unplayed}
use Rattle.storm_run.specs.declared.play.Unplayed.TheVariants as unplayed
use Rattle.storm_run.specs.declared.tally.Tally.{Tally}

-- ---- the summary

abbrev pub is_hit : Line → Bool
is_hit (line.Hit client value entry point) = true
is_hit l = false

abbrev pub is_miss : Line → Bool
is_miss (line.Miss client number) = true
is_miss l = false

abbrev pub named_number : List ℕ → ℕ → List ℕ
named_number name number = name ++ decimal number ++ codes "\n"

abbrev pub five_lines : ℕ → ℕ → ℕ → ℕ → ℕ → List ℕ
five_lines steps entries hits misses held =
    named_number (codes "steps ") steps
    ++ named_number (codes "entries ") entries
    ++ named_number (codes "hits ") hits
    ++ named_number (codes "misses ") misses
    ++ named_number (codes "held ") held

-- the steps, how many entries the history has at the end, the lines of answers from a cache and of
-- queries that were sent, and how many queries the clients hold at the end
abbrev pub summary : ℕ → List Line → WorldState → List ℕ
summary steps lines w =
    five_lines steps (length w.links.past) (count_by is_hit lines) (count_by is_miss lines)
    (all_held w)

-- ---- what a storm comes to

-- a world where nothing was played, of any limits
abbrev pub IsFresh : WorldState → Type 0
IsFresh w = (l : Limits) × (log_max : ℕ) × (w ≡ start_with l log_max)

-- all events of a storm were played in a world, and this is the summary
pub record SumsUp (first : WorldState) (number steps : ℕ) (w : WorldState) (text : List ℕ)
    : Type 0 where
  pub valid : Every IsValid (storm number steps)
  pub played : after first (storm number steps) ≡ Some w
  pub text_is : text ≡ summary steps (transcript first (storm number steps)) w

-- in a world, an event of it finds the log of its client full, which ends the storm there
pub record MeetsFullLog (first : WorldState) (number steps : ℕ) : Type 0 where
  pub played : List Event
  pub event : Event
  pub left : List Event
  pub w : WorldState
  pub entries : ℕ
  pub split : played ++ event ∷ left ≡ storm number steps
  pub leads : after first played ≡ Some w
  pub is_full : (step w event).fault ≡ Some (fault.HistoryFull entries)

-- why not all of a storm was played in a world; memory may run out at any time
abbrev pub EndsStorm : WorldState → ℕ → ℕ → Unplayed → Type 0
EndsStorm first number steps unplayed.NoMemory = Unit {0}
EndsStorm first number steps unplayed.HistoryFull = MeetsFullLog first number steps

-- ---- on the way

-- an event was played, and the answers among its lines were counted
pub record Played (w : WorldState) (event : Event) (old : Tally) (w' : WorldState) (new : Tally)
    : Type 0 where
  pub fault : (step w event).fault ≡ None
  pub state : w' ≡ (step w event).state
  pub hits : new.hits ≡ old.hits + count_by is_hit (step w event).lines
  pub misses : new.misses ≡ old.misses + count_by is_miss (step w event).lines

-- it found the log of its client full
abbrev pub FindsFull : WorldState → Event → Type 0
FindsFull w event = (entries : ℕ) × ((step w event).fault ≡ Some (fault.HistoryFull entries))

-- it was played, or it was not
abbrev pub EventComes : WorldState → Event → Tally → Result (Unit {0}) Unplayed → WorldState
    → Tally → Type 0
EventComes w event old (Ok done) w' new = Played w event old w' new
EventComes w event old (Err unplayed.NoMemory) w' new = Unit {0}
EventComes w event old (Err unplayed.HistoryFull) w' new = FindsFull w event

-- the same of the first of those that are left, if one is
abbrev pub NextComes : WorldState → List Event → Tally → Result Bool Unplayed → WorldState
    → List Event → Tally → Type 0
NextComes w left old (Ok true) w' left' new =
    (event : Event) × (left ≡ event ∷ left') × IsValid event × Played w event old w' new
NextComes w left old (Ok false) w' left' new = (left ≡ []) × (w' ≡ w) × (new ≡ old)
NextComes w left old (Err unplayed.NoMemory) w' left' new = Unit {0}
NextComes w left old (Err unplayed.HistoryFull) w' left' new =
    (event : Event) × (rest : List Event) × (left ≡ event ∷ rest) × FindsFull w event

abbrev pub IsPlayedNext : WorldState → List Event → Type 0
IsPlayedNext w left = (event : Event) (rest : List Event) → left ≡ event ∷ rest → IsPlayed w event

-- these valid events were played in a world, and all answers that they printed were counted
pub record Tallied (first : WorldState) (events : List Event) (w : WorldState) (tally : Tally)
    : Type 0 where
  pub valid : Every IsValid events
  pub played : after first events ≡ Some w
  pub hits : tally.hits ≡ count_by is_hit (transcript first events)
  pub misses : tally.misses ≡ count_by is_miss (transcript first events)
