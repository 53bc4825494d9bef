-- The lines of turns, and those of a whole history.
use Rattle.std.specs.Prelude.{◌+◌, ◌-◌, ℕ, List, [], ◌∷◌, ◌++◌, Bool, true, false, length}
use Rattle.std.specs.Prelude.{slice_index_or}
use Rattle.serial_model.specs.declared.history.Limits.{Limits}
use Rattle.serial_model.specs.declared.history.Entry.{Entry}
use Rattle.serial_model.specs.declared.history.Entry.TheVariants as entry
use Rattle.serial_model.specs.declared.history.BookReply.{BookReply}
use Rattle.serial_model.specs.declared.history.BookReply.TheVariants.{Admitted, Ran, Ticked, Quiet}
use Rattle.serial_model.specs.declared.history.BookReply.TheVariants.{Bytes, Closed, Refused}
use Rattle.serial_model.specs.EntryEffects.{dropped_by, drops_at}
use Rattle.serial_model.specs.History.{state, taken}
use Rattle.script_text.specs.declared.line.Line.{Line}
use Rattle.script_text.specs.declared.line.Line.TheVariants.{Admit, Run, Bad, Close, Take, Read}
use Rattle.script_text.specs.declared.line.Line.TheVariants.{Drop, End}
use Rattle.script_text.specs.declared.line.Line.TheVariants as line

-- what a turn of a link prints, of this name
abbrev pub reply_lines : List ℕ → List (List ℕ) → BookReply → List Line
reply_lines link words (Admitted e id) = Admit e link id ∷ []
reply_lines link words (Ran e) = Run e link words ∷ []
reply_lines link words (Ticked e) = []
reply_lines link words Quiet = []
reply_lines link words (Bytes e bytes) = Take e link (length bytes) ∷ []
reply_lines link words (Closed e) = Close e link ∷ []
reply_lines link words (Refused r) = []

-- the name of a connection's link, where the connection of the id n has the n-th name
abbrev pub name_of : List (List ℕ) → ℕ → List ℕ
name_of names id = slice_index_or names (id - 1) []

-- whom an entry dropped, each by the name of its link
abbrev pub drop_lines : ℕ → List (List ℕ) → List ℕ → List Line
drop_lines entry names [] = []
drop_lines entry names (id ∷ ids) = Drop entry (name_of names id) ∷ drop_lines entry names ids

-- whom a turn dropped by the entry that it added
abbrev pub dropped_lines : Limits → List (List ℕ) → BookReply → List Entry → List Line
dropped_lines l names (Admitted e id) past = []
dropped_lines l names (Ran e) past = drop_lines e names (dropped_by l past)
dropped_lines l names (Ticked e) past = drop_lines e names (dropped_by l past)
dropped_lines l names Quiet past = []
dropped_lines l names (Bytes e bytes) past = []
dropped_lines l names (Closed e) past = []
dropped_lines l names (Refused r) past = []

-- a line that begins with `#`
abbrev pub is_entry_line : Line → Bool
is_entry_line (Admit e link id) = true
is_entry_line (Run e link words) = true
is_entry_line (Drop e link) = true
is_entry_line (Bad link fault offset) = false
is_entry_line (Close e link) = true
is_entry_line (Take e link count) = true
is_entry_line (line.Tick e moment) = true
is_entry_line (Read link bytes) = false
is_entry_line (line.Fault link number) = false
is_entry_line (End link) = false
is_entry_line (line.Hit client value entry point) = false
is_entry_line (line.Miss client number) = false
is_entry_line (line.Sent client number) = false
is_entry_line (line.Answer client number value) = false
is_entry_line (line.Wait client number) = false
is_entry_line (line.Down client) = false
is_entry_line (line.NotReady client) = false
is_entry_line (line.Holds client query value entry) = false
is_entry_line (line.Complete client entry) = false

-- The lines of a history, from it and the names of the links alone: one for each entry, in order,
-- with its number and what it did, and then one for each connection that it dropped. A Take's line
-- has the count of the bytes that it took.
abbrev pub entry_lines : Limits → List (List ℕ) → List Entry → List Line
entry_lines l names [] = []
entry_lines l names (entry.Admit id ∷ past) =
    entry_lines l names past ++ Admit (length past + 1) (name_of names id) id ∷ []
entry_lines l names (entry.Run id words moment ∷ past) =
    entry_lines l names past
    ++ Run (length past + 1) (name_of names id) words
    ∷ drop_lines (length past + 1) names (drops_at l (entry.Run id words moment) (state l past))
entry_lines l names (entry.Tick moment ∷ past) =
    entry_lines l names past
    ++ line.Tick (length past + 1) moment
    ∷ drop_lines (length past + 1) names (drops_at l (entry.Tick moment) (state l past))
entry_lines l names (entry.Take id max ∷ past) =
    entry_lines l names past
    ++ Take (length past + 1) (name_of names id)
    (taken l id (entry.Take id max ∷ past) - taken l id past) ∷ []
entry_lines l names (entry.Close id ∷ past) =
    entry_lines l names past ++ Close (length past + 1) (name_of names id) ∷ []
