-- The events of a schedule, read from its lines.
use Rattle.std.specs.Prelude.{◌==◌, ℕ, List, [], ◌∷◌, if◌then◌else◌, nat_le, codes, length}
use Rattle.std.specs.declared.option.Option.{Option}
use Rattle.std.specs.declared.option.Option.TheVariants.{None, Some}
use Rattle.std.specs.List.{slice_split}
use Rattle.std.specs.Option.{option_map, option_and_then}
use Rattle.std.specs.Str.{bytes_eq}
use Rattle.command_words.specs.Queries.{query_of}
use Rattle.script_text.specs.declared.event.Event.{Event}
use Rattle.script_text.specs.declared.event.Event.TheVariants.{Raw, Say, Bytes, Client, Out, Serve}
use Rattle.script_text.specs.declared.event.Event.TheVariants.{Send, Recv, Flow, FlowAll, Cut, Ask}
use Rattle.script_text.specs.declared.event.Event.TheVariants.{Do, Poll, Show, Now, Tick}
use Rattle.script_text.specs.Words.{is_name, is_link, word_of, words_of, number_within, greatest}
use Rattle.script_text.specs.Clients.{client_of}

-- an event of which the line says no more
abbrev pub bare : Event → List (List ℕ) → Option Event
bare event [] = Some event
bare event (_ ∷ _) = None

-- a request has at least one word
abbrev pub request_of : List (List ℕ) → Option (List (List ℕ))
request_of [] = None
request_of (text ∷ texts) = words_of (text ∷ texts)

-- bytes stand as one word
abbrev pub bytes_of : List (List ℕ) → Option (List ℕ)
bytes_of [] = None
bytes_of (text ∷ []) = word_of text
bytes_of (text ∷ _ ∷ _) = None

-- the words of a query; its name is read in any case
abbrev pub asked_of : List (List ℕ) → Option (List (List ℕ))
asked_of texts = option_and_then query_of (words_of texts)

-- the number of a command may be any, and so may a moment
abbrev pub polled_of : List (List ℕ) → Option ℕ
polled_of [] = None
polled_of (text ∷ []) = number_within 0 greatest text
polled_of (text ∷ _ ∷ _) = None

-- how much is moved: a count, which is at least 1, or all where there is none
abbrev pub amount_of : List (List ℕ) → Option (Option ℕ)
amount_of [] = Some None
amount_of (text ∷ []) = option_map Some (number_within 1 greatest text)
amount_of (text ∷ _ ∷ _) = None

-- an event of a connection or of a client, by its name
unfoldable pub named_event : List ℕ → List ℕ → List (List ℕ) → Option Event
named_event kind name rest =
    if bytes_eq kind (codes "raw") then bare (Raw name) rest else
    if bytes_eq kind (codes "say") then option_map (Say name) (request_of rest) else
    if bytes_eq kind (codes "bytes") then option_map (Bytes name) (bytes_of rest) else
    if bytes_eq kind (codes "client") then
    option_map (λ made. Client name made.0 made.1) (client_of rest)
    else
    if bytes_eq kind (codes "ask") then option_map (Ask name) (asked_of rest) else
    if bytes_eq kind (codes "do") then option_map (Do name) (request_of rest) else
    if bytes_eq kind (codes "poll") then option_map (Poll name) (polled_of rest) else
    if bytes_eq kind (codes "show") then bare (Show name) rest else
    None

-- an event of a link
unfoldable pub link_event : List ℕ → List ℕ → List (List ℕ) → Option Event
link_event kind link rest =
    if bytes_eq kind (codes "out") then option_map (Out link) (amount_of rest) else
    if bytes_eq kind (codes "serve") then option_map (Serve link) (amount_of rest) else
    if bytes_eq kind (codes "send") then option_map (Send link) (amount_of rest) else
    if bytes_eq kind (codes "recv") then option_map (Recv link) (amount_of rest) else
    if bytes_eq kind (codes "flow") then bare (Flow link) rest else
    if bytes_eq kind (codes "cut") then bare (Cut link) rest else
    None

abbrev pub first_there : Option Event → Option Event → Option Event
first_there (Some event) other = Some event
first_there None other = other

-- an event of which the line says the kind alone
abbrev pub event_alone : List ℕ → Option Event
event_alone kind =
    if bytes_eq kind (codes "flow") then Some FlowAll else
    if bytes_eq kind (codes "tick") then Some Tick else
    None

-- a line begins with the kind of its event and a name, save that `flow` and `tick` may stand alone,
-- and `now` before a moment
unfoldable pub event_of_parts : List (List ℕ) → Option Event
event_of_parts [] = None
event_of_parts (kind ∷ []) = event_alone kind
event_of_parts (kind ∷ name ∷ rest) =
    if bytes_eq kind (codes "now") then option_map Now (polled_of (name ∷ rest)) else
    first_there
    (if is_name name then named_event kind name rest else None)
    (if is_link name then link_event kind name rest else None)

abbrev pub longest_line : ℕ
longest_line = 1048576

-- the event of a line, where the line is in the grammar: its parts stand between single spaces
unfoldable pub event_of : List ℕ → Option Event
event_of line = if nat_le (length line) longest_line then
    event_of_parts (slice_split (λ b. b == 32) line) else None
