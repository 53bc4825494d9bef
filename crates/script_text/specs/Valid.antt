-- What holds of the events that lines are read as.
use Rattle.std.specs.Prelude.{◌≡◌, ◌<◌, ◌≤◌, ℕ, List, Some, length}
use Rattle.command_words.specs.Queries.{query_of}
use Rattle.script_text.specs.declared.event.Event.{Event}
use Rattle.script_text.specs.declared.event.Event.TheVariants.{Raw, Say, Bytes, Client, Out, Serve}
use Rattle.script_text.specs.declared.event.Event.TheVariants.{Send, Recv, Flow, FlowAll, Cut, Ask}
use Rattle.script_text.specs.declared.event.Event.TheVariants.{Do, Poll, Show, Now, Tick}
use Rattle.script_text.specs.Clients.{most_keys}
use Rattle.script_text.specs.Events.{event_of}

-- a client may hold some keys; an Ask's words read as the query; a command has a word
abbrev pub IsValid : Event → Type 0
IsValid (Raw name) = Unit {0}
IsValid (Say name words) = 0 < length words
IsValid (Bytes name bytes) = Unit {0}
IsValid (Client name mode capacity) = (0 < capacity) × (capacity ≤ most_keys)
IsValid (Out name count) = Unit {0}
IsValid (Serve name count) = Unit {0}
IsValid (Send name count) = Unit {0}
IsValid (Recv name count) = Unit {0}
IsValid (Flow name) = Unit {0}
IsValid FlowAll = Unit {0}
IsValid (Cut name) = Unit {0}
IsValid (Now n) = Unit {0}
IsValid Tick = Unit {0}
IsValid (Ask name q) = query_of q ≡ Some q
IsValid (Do name words) = 0 < length words
IsValid (Poll name n) = Unit {0}
IsValid (Show name) = Unit {0}

-- each line that has an event has a valid one
abbrev pub EventsAreValid : Type 0
EventsAreValid = (line : List ℕ) (event : Event) → event_of line ≡ Some event → IsValid event
