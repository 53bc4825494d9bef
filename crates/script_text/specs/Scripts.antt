-- The lines of a script, each with what a thread asks of the client.
use Rattle.std.specs.Prelude.{◌≡◌, ◌↔◌, ◌==◌, ◌&&◌, ◌<◌, ◌≤◌, ℕ, List, [], ◌∷◌, Bool, true, false}
use Rattle.std.specs.Prelude.{if◌then◌else◌, not, nat_le, codes, length, map}
use Rattle.std.specs.declared.option.Option.{Option}
use Rattle.std.specs.declared.option.Option.TheVariants.{None, Some}
use Rattle.std.specs.Fmt.{decimal}
use Rattle.std.specs.List.{slice_split, list_all, join_with_byte}
use Rattle.std.specs.Option.{option_map, option_and_then}
use Rattle.std.specs.Str.{bytes_eq}
use Rattle.command_words.specs.Control.{is_control}
use Rattle.command_words.specs.Printed.{printed}
use Rattle.command_words.specs.Queries.{query_of}
use Rattle.script_text.specs.declared.script_line.ScriptCall.{ScriptCall}
use Rattle.script_text.specs.declared.script_line.ScriptCall.TheVariants.{Ask, Do}
use Rattle.script_text.specs.declared.script_line.ScriptLine.{ScriptLine}
use Rattle.script_text.specs.Words.{number_within, is_within}
use Rattle.script_text.specs.Events.{asked_of, request_of, longest_line}
use Rattle.script_text.specs.Grammar.{are_bytes, is_query, is_request}

-- threads are numbered from 1
abbrev pub most_threads : ℕ
most_threads = 8

abbrev pub unless_control : List (List ℕ) → Option (List (List ℕ))
unless_control words = if is_control words then None else Some words

-- a command that is not the client's own
abbrev pub sent_of : List (List ℕ) → Option (List (List ℕ))
sent_of texts = option_and_then unless_control (request_of texts)

unfoldable pub script_call : List ℕ → List (List ℕ) → Option ScriptCall
script_call kind rest =
    if bytes_eq kind (codes "ask") then option_map Ask (asked_of rest) else
    if bytes_eq kind (codes "do") then option_map Do (sent_of rest) else
    None

abbrev pub line_with : Option ℕ → Option ScriptCall → Option ScriptLine
line_with (Some thread) (Some call) = Some (record { thread = thread; call = call })
line_with (Some thread) None = None
line_with None call = None

-- a thread's number, and what it asks
unfoldable pub script_line_of_parts : List (List ℕ) → Option ScriptLine
script_line_of_parts [] = None
script_line_of_parts (thread ∷ []) = None
script_line_of_parts (thread ∷ kind ∷ rest) =
    line_with (number_within 1 most_threads thread) (script_call kind rest)

-- what a line of a script asks, where the line is in the grammar
unfoldable pub script_line_of : List ℕ → Option ScriptLine
script_line_of line = if nat_le (length line) longest_line then
    script_line_of_parts (slice_split (λ b. b == 32) line) else None

-- ---- the same, from what is asked to its line
-- a command that the client may send for its caller
abbrev pub is_sent : List (List ℕ) → Bool
is_sent words = is_request words && not (is_control words)

abbrev pub is_call : ScriptCall → Bool
is_call (Ask query) = is_query query && list_all are_bytes query
is_call (Do words) = is_sent words

abbrev pub is_script_line : ScriptLine → Bool
is_script_line line = is_within 1 most_threads line.thread && is_call line.call

-- the parts of a line
abbrev pub said : ℕ → List ℕ → List (List ℕ) → List (List ℕ)
said thread kind words = decimal thread ∷ kind ∷ map printed words

-- a command has one line; a query has its name in any case
abbrev pub IsTextOf : ℕ → ScriptCall → List ℕ → Type 0
IsTextOf thread (Ask query) text =
    (words : List (List ℕ)) × ((query_of words ≡ Some query) × (list_all are_bytes words ≡ true)
    × (join_with_byte 32 (said thread (codes "ask") words) ≡ text))
IsTextOf thread (Do words) text = join_with_byte 32 (said thread (codes "do") words) ≡ text

-- a text has a line exactly where it is that line's, and is not too long
abbrev pub ScriptLinesComeBack : Type 0
ScriptLinesComeBack = (line : ScriptLine) (text : List ℕ) → are_bytes text ≡ true
    → (script_line_of text ≡ Some line)
    ↔ ((is_script_line line ≡ true) × (nat_le (length text) longest_line ≡ true)
    × IsTextOf line.thread line.call text)

-- an Ask's words read as the query; a command has a word, and is not the client's own
abbrev pub IsValidCall : ScriptCall → Type 0
IsValidCall (Ask query) = query_of query ≡ Some query
IsValidCall (Do words) = (0 < length words) × (is_control words ≡ false)

abbrev pub IsValidLine : ScriptLine → Type 0
IsValidLine line =
    (1 ≤ line.thread) × (line.thread ≤ most_threads) × IsValidCall line.call

abbrev pub ScriptLinesAreValid : Type 0
ScriptLinesAreValid = (text : List ℕ) (line : ScriptLine) → script_line_of text ≡ Some line
    → IsValidLine line
