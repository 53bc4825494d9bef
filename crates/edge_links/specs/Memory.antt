-- What contracts see of a source and a sink in memory, and what these answer.
use Rattle.std.specs.Prelude.{ℕ, ◌+◌, ◌-◌, ◌^◌, ◌==◌, ◌||◌, min, List, length, drop, Bool}
use Rattle.std.specs.Prelude.{if◌then◌else◌}
use Rattle.std.specs.List.{list_any}
use Rattle.edge_links.specs.declared.memory.MemorySource.{MemorySource}
use Rattle.edge_links.specs.declared.memory.MemorySink.{MemorySink}
use Rattle.edge_links.specs.declared.streams.SourceRead.{SourceRead}
use Rattle.edge_links.specs.declared.streams.SourceRead.TheVariants.{Bytes, End, Failed}
use Rattle.edge_links.specs.declared.streams.Wrote.{Wrote}
use Rattle.edge_links.specs.declared.streams.Wrote.TheVariants as wrote

-- the number of the next call, from 1; it stays at its type's last value
abbrev pub next_call : ℕ → ℕ
next_call calls = min (calls + 1) (2 ^ 64 - 1)

-- whether the next call is one of those that fail
abbrev pub is_named : List ℕ → ℕ → Bool
is_named fails calls = list_any (λ number. number == next_call calls) fails

abbrev pub bytes_left : MemorySource → List ℕ
bytes_left s = drop s.at s.bytes.items

-- how many reads were made, and the numbers of those that fail
abbrev pub reads_made : MemorySource → ℕ
reads_made s = s.reads

abbrev pub reads_named : MemorySource → List ℕ
reads_named s = s.fails.items

-- what a read into a buffer of that length answers: as many bytes as there are and fit
abbrev pub read_answer : MemorySource → ℕ → SourceRead
read_answer s size =
    if is_named (reads_named s) (reads_made s) then Failed
    else (if length (bytes_left s) == 0 then End else Bytes (min (length (bytes_left s)) size))

abbrev pub bytes_written : MemorySink → List ℕ
bytes_written s = s.bytes.items

-- how many bytes it keeps in all
abbrev pub room_of : MemorySink → ℕ
room_of s = s.room

abbrev pub writes_made : MemorySink → ℕ
writes_made s = s.writes

abbrev pub writes_named : MemorySink → List ℕ
writes_named s = s.fails.items

-- what a write of a piece of that length answers: as many bytes are taken as there is room for
abbrev pub write_answer : MemorySink → ℕ → Wrote
write_answer s size =
    let taken = min (room_of s - length (bytes_written s)) size in
    if is_named (writes_named s) (writes_made s) || taken == 0 then wrote.Failed
    else wrote.Took taken
