-- The schedule of a number: an opening, and then steps that are drawn from it.
use Rattle.std.specs.Prelude.{◌≡◌, ◌+◌, ◌*◌, ◌/◌, ◌%◌, ◌^◌, ◌==◌, ◌++◌, ℕ, zero, suc, List, []}
use Rattle.std.specs.Prelude.{◌∷◌, Bool, true, false, if◌then◌else◌, nat_lt, min, drop, codes}
use Rattle.std.specs.Prelude.{option_to_list, count_by}
use Rattle.std.specs.declared.option.Option.{Option}
use Rattle.std.specs.declared.option.Option.TheVariants.{None}
use Rattle.std.specs.Fmt.{decimal}
use Rattle.std.specs.List.{list_all}
use Rattle.resp_value.specs.declared.value.Proto.{Proto}
use Rattle.resp_value.specs.declared.value.Proto.TheVariants.{Two, Three}
use Rattle.shared_cache.specs.declared.log.Shape.{Shape}
use Rattle.shared_cache.specs.declared.log.Shape.TheVariants.{Single, Pair}
use Rattle.shared_cache.specs.declared.log.Caching.{Caching}
use Rattle.shared_cache.specs.declared.log.Caching.TheVariants.{Default, OptIn, Bcast}
use Rattle.script_text.specs.declared.event.Event.{Event}
use Rattle.script_text.specs.declared.event.Event.TheVariants.{Raw, Say, Client, Out, Serve}
use Rattle.script_text.specs.declared.event.Event.TheVariants.{Send, Recv, Flow, FlowAll, Ask}
use Rattle.script_text.specs.declared.event.Event.TheVariants.{Do, Now, Tick}
use Rattle.script_text.specs.Words.{greatest}
use Rattle.script_text.specs.Grammar.{is_valid}

-- ---- draws, by a linear congruential generator of 64 bits
unfoldable pub next_state : ℕ → ℕ
next_state state = (state * 6364136223846793005 + 1442695040888963407) % 2 ^ 64

abbrev pub state_behind : ℕ → ℕ → ℕ
state_behind zero state = state
state_behind (suc draws) state = state_behind draws (next_state state)

-- a number below n, by the high bits of a state
unfoldable pub number_below : ℕ → ℕ → ℕ
number_below n state = state / 2 ^ 33 % n

-- the draw at a place below n, from a state on; the first has place 1
abbrev pub draw : ℕ → ℕ → ℕ → ℕ
draw state place n = number_below n (state_behind place state)

-- ---- names and words
abbrev pub storm_client : ℕ → List ℕ
storm_client number =
    if number == 0 then codes "a" else
    if number == 1 then codes "b" else
    if number == 2 then codes "c" else
    codes "d"

-- the links in order of making
abbrev pub storm_link : ℕ → List ℕ
storm_link number =
    if number == 0 then codes "a.data" else
    if number == 1 then codes "b.inv" else
    if number == 2 then codes "b.data" else
    if number == 3 then codes "c.inv" else
    if number == 4 then codes "c.data" else
    if number == 5 then codes "d.data" else
    codes "w"

abbrev pub storm_key : ℕ → List ℕ
storm_key number = codes "k" ++ decimal number

abbrev pub get_words : ℕ → List (List ℕ)
get_words key = codes "GET" ∷ storm_key key ∷ []

abbrev pub set_words : ℕ → ℕ → List (List ℕ)
set_words key value = codes "SET" ∷ storm_key key ∷ decimal value ∷ []

abbrev pub lapsing_words : ℕ → ℕ → ℕ → List (List ℕ)
lapsing_words key value life = set_words key value ++ codes "PX" ∷ decimal life ∷ []

abbrev pub del_words : ℕ → List (List ℕ)
del_words key = codes "DEL" ∷ storm_key key ∷ []

-- ---- the opening
-- a client of the opening holds the queries of at most 8 keys
abbrev pub opened : ℕ → Shape → Proto → Caching → Bool → Event
opened number shape proto caching noloop = Client (storm_client number)
    (record { shape = shape; proto = proto; caching = caching; noloop = noloop }) 8

abbrev pub opening : List Event
opening =
    opened 0 Single Three Default false
    ∷ opened 1 Pair Three Default true
    ∷ opened 2 Pair Two OptIn false
    ∷ opened 3 Single Three (Bcast (codes "k1" ∷ [])) false
    ∷ Raw (codes "w")
    ∷ FlowAll
    ∷ FlowAll
    ∷ []

-- ---- a step: its first draw is its kind, and the row of the kind names the others
pub record Step : Type 0 where
  pub draws : ℕ
  pub events : List Event

abbrev pub in_draws : ℕ → List Event → Step
in_draws draws events = record { draws = draws; events = events }

-- the clock stands still at its type's end
abbrev pub later : ℕ → ℕ → ℕ
later clock more = min (clock + more) greatest

unfoldable pub step_at : ℕ → ℕ → Step
step_at state clock =
    let kind = draw state 1 16 in
    let client = storm_client (draw state 2 4) in
    let link = storm_link (draw state 2 7) in
    if nat_lt kind 6 then
    in_draws 3 (Ask client (get_words (draw state 3 16)) ∷ []) else
    if kind == 6 then
    in_draws 4 (Do client (set_words (draw state 3 16) (draw state 4 100)) ∷ []) else
    if nat_lt kind 9 then
    in_draws 3 (Say (codes "w") (set_words (draw state 2 16) (draw state 3 100)) ∷ []) else
    if kind == 9 then
    in_draws 4 (Say (codes "w")
    (lapsing_words (draw state 2 16) (draw state 3 100) (1 + draw state 4 50)) ∷ []) else
    if kind == 10 then
    in_draws 2 (Say (codes "w") (del_words (draw state 2 16)) ∷ []) else
    if kind == 11 then in_draws 2 (Flow link ∷ []) else
    if kind == 12 then in_draws 2 (Out link None ∷ Serve link None ∷ []) else
    if kind == 13 then in_draws 2 (Send link None ∷ []) else
    if kind == 14 then in_draws 2 (Recv link None ∷ []) else
    in_draws 2 (Now (later clock (draw state 2 20)) ∷ Tick ∷ [])

-- ---- the steps
abbrev pub clock_set : Event → ℕ → ℕ
clock_set (Now moment) clock = moment
clock_set _ clock = clock

-- the clock's value behind events
abbrev pub clock_behind : List Event → ℕ → ℕ
clock_behind [] clock = clock
clock_behind (event ∷ events) clock = clock_behind events (clock_set event clock)

unfoldable pub steps_from : ℕ → ℕ → ℕ → List Event
steps_from zero state clock = []
steps_from (suc steps) state clock =
    let step = step_at state clock in
    step.events
    ++ steps_from steps (state_behind step.draws state) (clock_behind step.events clock)

-- the events of a number with so many steps; its state is the number, and the clock stands at 0
abbrev pub storm : ℕ → ℕ → List Event
storm number steps = opening ++ steps_from steps number 0

-- what is left where so many events of the opening were given, and the second of a step where only
-- its first was
abbrev pub left_of_storm : ℕ → Option Event → ℕ → ℕ → ℕ → List Event
left_of_storm given second steps state clock =
    drop given opening ++ option_to_list second ++ steps_from steps state clock

-- ---- what holds of each
-- each event has its line, and is one that a world can play
abbrev pub StormsAreValid : Type 0
StormsAreValid = (number steps : ℕ) → list_all is_valid (storm number steps) ≡ true

-- with more steps there are the same events, and others behind them
abbrev pub StormsGrow : Type 0
StormsGrow = (number steps more : ℕ)
    → (rest : List Event) × (storm number (steps + more) ≡ storm number steps ++ rest)

-- the second event of a step is a Serve or a Tick, and no other event is one
abbrev pub begins_step : Event → Bool
begins_step (Serve link amount) = false
begins_step Tick = false
begins_step _ = true

-- the events of the opening are 7, and each step begins once
abbrev pub StepsBeginOnce : Type 0
StepsBeginOnce = (number steps : ℕ) → count_by begins_step (storm number steps) ≡ 7 + steps
