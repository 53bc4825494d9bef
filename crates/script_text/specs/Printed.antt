-- The lines of a transcript as they are printed.
use Rattle.std.specs.Prelude.{ℕ, List, [], ◌∷◌, ◌++◌, codes}
use Rattle.std.specs.List.{flat_map}
use Rattle.std.specs.Fmt.{decimal}
use Rattle.command_words.specs.Printed.{printed}
use Rattle.resp_value.specs.declared.value.Proto.TheVariants.{Three}
use Rattle.resp_value.specs.declared.value.Value.{Value}
use Rattle.resp_value.specs.Spelling.{spelling}
use Rattle.resp_value.specs.ValueTree.{tree_of}
use Rattle.script_text.specs.declared.line.Line.{Line}
use Rattle.script_text.specs.declared.line.Line.TheVariants.{Admit, Run, Drop, Bad, Close, Take}
use Rattle.script_text.specs.declared.line.Line.TheVariants.{Fault, End, Hit, Miss, Sent, Answer}
use Rattle.script_text.specs.declared.line.Line.TheVariants.{Wait, Down, NotReady, Holds, Complete}
use Rattle.script_text.specs.declared.line.Line.TheVariants.{Read, Tick}

-- the number of an entry, what it is, and the link
abbrev pub entry_text : ℕ → List ℕ → List ℕ → List ℕ
entry_text entry what link = codes "#" ++ decimal entry ++ what ++ link

-- a name, what is said of it, and a number
abbrev pub number_text : List ℕ → List ℕ → ℕ → List ℕ
number_text name what number = name ++ what ++ decimal number

-- each word in its printed form, after a space
abbrev pub words_text : List (List ℕ) → List ℕ
words_text words = flat_map (λ word. 32 ∷ printed word) words

-- the spelling of a value in the third protocol, as one word
abbrev pub value_text : Value → List ℕ
value_text value = printed (spelling Three (tree_of value))

-- a line without its LF
abbrev pub unended_text : Line → List ℕ
unended_text (Admit entry link id) = entry_text entry (codes " admit ") link ++ codes " "
    ++ decimal id
unended_text (Run entry link words) = entry_text entry (codes " run ") link ++ words_text words
unended_text (Bad link fault offset) = number_text link (codes " bad ") fault ++ codes " "
    ++ decimal offset
unended_text (Drop entry link) = entry_text entry (codes " drop ") link
unended_text (Close entry link) = entry_text entry (codes " close ") link
unended_text (Take entry link count) = entry_text entry (codes " take ") link ++ codes " "
    ++ decimal count
unended_text (Tick entry moment) = codes "#" ++ decimal entry ++ codes " tick " ++ decimal moment
unended_text (Read link bytes) = link ++ codes " < " ++ printed bytes
unended_text (Fault link number) = number_text link (codes " fault ") number
unended_text (End link) = link ++ codes " end"
unended_text (Hit client value entry point) = client ++ codes " hit " ++ value_text value
    ++ codes " from " ++ decimal entry ++ codes " at " ++ decimal point
unended_text (Miss client number) = number_text client (codes " miss ") number
unended_text (Sent client number) = number_text client (codes " sent ") number
unended_text (Answer client number value) = number_text client (codes " answer ") number
    ++ codes " " ++ value_text value
unended_text (Wait client number) = number_text client (codes " wait ") number
unended_text (Down client) = client ++ codes " down"
unended_text (NotReady client) = client ++ codes " not-ready"
unended_text (Holds client words value entry) = client ++ codes " holds" ++ words_text words
    ++ codes " = " ++ value_text value ++ codes " from " ++ decimal entry
unended_text (Complete client entries) = number_text client (codes " complete ") entries

unfoldable pub line_text : Line → List ℕ
line_text line = unended_text line ++ 10 ∷ []

-- lines one after the other
unfoldable pub text_of : List Line → List ℕ
text_of lines = flat_map line_text lines
