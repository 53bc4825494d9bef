-- The grammar of schedules as its lines: each valid event has one line, save that the name of a
-- query may be in any case, and no other line has an event.
use Rattle.std.specs.Prelude.{◌≡◌, ◌↔◌, ◌&&◌, ◌++◌, ℕ, List, [], ◌∷◌, Bool, true, false, nat_lt}
use Rattle.std.specs.Prelude.{nat_le, codes, length, map}
use Rattle.std.specs.declared.option.Option.{Option}
use Rattle.std.specs.declared.option.Option.TheVariants.{None, Some}
use Rattle.std.specs.Fmt.{decimal}
use Rattle.std.specs.List.{list_all, join_with_byte, flat_map}
use Rattle.std.specs.Option.{option_map_or}
use Rattle.command_words.specs.Printed.{printed}
use Rattle.command_words.specs.Queries.{query_of, same_query}
use Rattle.resp_value.specs.declared.value.Proto.{Proto}
use Rattle.resp_value.specs.declared.value.Proto.TheVariants.{Two, Three}
use Rattle.shared_cache.specs.declared.log.Shape.{Shape}
use Rattle.shared_cache.specs.declared.log.Shape.TheVariants.{Single, Pair}
use Rattle.shared_cache.specs.declared.log.Caching.{Caching}
use Rattle.shared_cache.specs.declared.log.Caching.TheVariants.{Default, OptIn, OptOut, Bcast}
use Rattle.shared_cache.specs.declared.log.ClientMode.{ClientMode}
use Rattle.script_text.specs.declared.event.Event.{Event}
use Rattle.script_text.specs.declared.event.Event.TheVariants.{Raw, Say, Bytes, Client, Out, Serve}
use Rattle.script_text.specs.declared.event.Event.TheVariants.{Send, Recv, Flow, FlowAll, Cut, Ask}
use Rattle.script_text.specs.declared.event.Event.TheVariants.{Do, Poll, Show, Now, Tick}
use Rattle.script_text.specs.Words.{is_name, is_link, is_byte, is_within, greatest}
use Rattle.script_text.specs.Clients.{may_speak, most_keys}
use Rattle.script_text.specs.Events.{event_of, longest_line}

-- an amount is its count, and all that is there is nothing
abbrev pub amount_parts : Option ℕ → List (List ℕ)
amount_parts None = []
amount_parts (Some count) = decimal count ∷ []

abbrev pub shape_text : Shape → List ℕ
shape_text Single = codes "single"
shape_text Pair = codes "pair"

abbrev pub proto_text : Proto → List ℕ
proto_text Two = codes "2"
proto_text Three = codes "3"

abbrev pub caching_text : Caching → List ℕ
caching_text Default = codes "default"
caching_text OptIn = codes "optin"
caching_text OptOut = codes "optout"
caching_text (Bcast prefixes) = codes "bcast"

abbrev pub noloop_parts : Bool → List (List ℕ)
noloop_parts true = codes "noloop" ∷ []
noloop_parts false = []

abbrev pub prefixes_in : Caching → List (List ℕ)
prefixes_in Default = []
prefixes_in OptIn = []
prefixes_in OptOut = []
prefixes_in (Bcast prefixes) = prefixes

abbrev pub prefix_parts : List (List ℕ) → List (List ℕ)
prefix_parts prefixes = flat_map (λ prefix. codes "prefix" ∷ printed prefix ∷ []) prefixes

-- what stands behind the name of a client
abbrev pub client_parts : ClientMode → ℕ → List (List ℕ)
client_parts mode keys =
    shape_text mode.shape ∷ proto_text mode.proto ∷ caching_text mode.caching ∷ decimal keys
    ∷ noloop_parts mode.noloop ++ prefix_parts (prefixes_in mode.caching)

-- the parts of a line that asks for these words
abbrev pub asking : List ℕ → List (List ℕ) → List (List ℕ)
asking client words = codes "ask" ∷ client ∷ map printed words

-- the parts of the line of an event
abbrev pub parts_of : Event → List (List ℕ)
parts_of (Raw link) = codes "raw" ∷ link ∷ []
parts_of (Say link words) = codes "say" ∷ link ∷ map printed words
parts_of (Bytes link bytes) = codes "bytes" ∷ link ∷ printed bytes ∷ []
parts_of (Client client mode keys) = codes "client" ∷ client ∷ client_parts mode keys
parts_of (Out link amount) = codes "out" ∷ link ∷ amount_parts amount
parts_of (Serve link amount) = codes "serve" ∷ link ∷ amount_parts amount
parts_of (Send link amount) = codes "send" ∷ link ∷ amount_parts amount
parts_of (Recv link amount) = codes "recv" ∷ link ∷ amount_parts amount
parts_of (Flow link) = codes "flow" ∷ link ∷ []
parts_of FlowAll = codes "flow" ∷ []
parts_of (Cut link) = codes "cut" ∷ link ∷ []
parts_of (Now moment) = codes "now" ∷ decimal moment ∷ []
parts_of Tick = codes "tick" ∷ []
parts_of (Ask client query) = asking client query
parts_of (Do client words) = codes "do" ∷ client ∷ map printed words
parts_of (Poll client number) = codes "poll" ∷ client ∷ decimal number ∷ []
parts_of (Show client) = codes "show" ∷ client ∷ []

-- the one line of an event, its parts joined by single spaces; a query has its name in upper case
abbrev pub line_of : Event → List ℕ
line_of event = join_with_byte 32 (parts_of event)

unfoldable pub event_text : Event → List ℕ
event_text event = line_of event ++ 10 ∷ []

-- the parts behind the first of a line, a space ahead of each
abbrev pub parts_text : List (List ℕ) → List ℕ
parts_text parts = flat_map (λ part. 32 ∷ part) parts

abbrev pub are_bytes : List ℕ → Bool
are_bytes bytes = list_all is_byte bytes

abbrev pub is_amount : Option ℕ → Bool
is_amount None = true
is_amount (Some count) = is_within 1 greatest count

abbrev pub is_request : List (List ℕ) → Bool
is_request words = nat_lt 0 (length words) && list_all are_bytes words

abbrev pub is_mode : ClientMode → Bool
is_mode mode = may_speak mode.shape mode.proto && list_all are_bytes (prefixes_in mode.caching)

-- words that are a query, with its name in upper case
abbrev pub is_query : List (List ℕ) → Bool
is_query words = option_map_or (same_query words) (query_of words) false

abbrev pub has_fields : Event → Bool
has_fields (Raw link) = is_name link
has_fields (Say link words) = is_name link && is_request words
has_fields (Bytes link bytes) = is_name link && are_bytes bytes
has_fields (Client client mode keys) =
    is_name client && (is_mode mode && is_within 1 most_keys keys)
has_fields (Out link amount) = is_link link && is_amount amount
has_fields (Serve link amount) = is_link link && is_amount amount
has_fields (Send link amount) = is_link link && is_amount amount
has_fields (Recv link amount) = is_link link && is_amount amount
has_fields (Flow link) = is_link link
has_fields FlowAll = true
has_fields (Cut link) = is_link link
has_fields (Now moment) = is_within 0 greatest moment
has_fields Tick = true
has_fields (Ask client query) = is_name client && (is_query query && list_all are_bytes query)
has_fields (Do client words) = is_name client && is_request words
has_fields (Poll client number) = is_name client && is_within 0 greatest number
has_fields (Show client) = is_name client

-- an event is valid where its fields are in range and its line is not too long
abbrev pub is_valid : Event → Bool
is_valid event = has_fields event && nat_le (length (line_of event)) longest_line

-- the lines of an event: its one line, and those that have the name of a query in another case
abbrev pub IsLineOf : Event → List ℕ → Type 0
IsLineOf (Ask client query) line =
    (words : List (List ℕ)) × ((query_of words ≡ Some query) × (list_all are_bytes words ≡ true)
    × (join_with_byte 32 (asking client words) ≡ line))
IsLineOf event line = line_of event ≡ line

-- a line has an event exactly where the event is valid and the line is that event's
abbrev pub LinesComeBack : Type 0
LinesComeBack = (event : Event) (line : List ℕ) → are_bytes line ≡ true
    → (event_of line ≡ Some event) ↔ ((is_valid event ≡ true) × IsLineOf event line)

-- so the line of a valid event has that event
abbrev pub EventsComeBack : Type 0
EventsComeBack = (event : Event) → is_valid event ≡ true → event_of (line_of event) ≡ Some event
