-- What contracts see of a link and an acceptor in memory.
use Rattle.std.specs.Prelude.{ℕ, List, [], ◌∷◌, ◌==◌, length, drop, Bool, false, nat_le, min}
use Rattle.std.specs.Prelude.{Option, Some, None, if◌then◌else◌}
use Rattle.std.specs.Io.KnownBytes.{prepend_known}
use Rattle.edge_links.specs.declared.memory_link.LinkStep.{LinkStep}
use Rattle.edge_links.specs.declared.memory_link.LinkStep.TheVariants as step
use Rattle.edge_links.specs.declared.memory_link.MemoryLink.{MemoryLink}
use Rattle.edge_links.specs.declared.memory_acceptor.AcceptStep.{AcceptStep}
use Rattle.edge_links.specs.declared.memory_acceptor.AcceptStep.TheVariants as accept
use Rattle.edge_links.specs.declared.streams.Wrote.{Wrote}
use Rattle.edge_links.specs.declared.streams.Wrote.TheVariants as wrote
use Rattle.edge_links.specs.Counts.{nought}
use Rattle.edge_links.specs.Memory.{bytes_written, next_call, write_answer}

-- The bytes that the steps give, where they are known; nothing comes behind an end. While bytes are
-- awaited it is not known whether what stands behind comes.
abbrev pub step_bytes : List LinkStep → Option (List ℕ)
step_bytes [] = Some []
step_bytes (step.Bytes bytes ∷ steps) = prepend_known bytes.items (step_bytes steps)
step_bytes (step.Idle ∷ steps) = step_bytes steps
step_bytes (step.Wait count ∷ steps) = step_bytes steps
step_bytes (step.Await count reads ∷ steps) = None
step_bytes (step.Fail ∷ steps) = step_bytes steps
step_bytes (step.End ∷ steps) = Some []

-- the same, where so many bytes of the first step were given
abbrev pub bytes_from : LinkStep → ℕ → List LinkStep → Option (List ℕ)
bytes_from (step.Bytes bytes) at steps = prepend_known (drop at bytes.items) (step_bytes steps)
bytes_from step.Idle at steps = step_bytes steps
bytes_from (step.Wait count) at steps = step_bytes steps
bytes_from (step.Await count reads) at steps = None
bytes_from step.Fail at steps = step_bytes steps
bytes_from step.End at steps = Some []

abbrev pub bytes_to_come : MemoryLink → Option (List ℕ)
bytes_to_come l = bytes_from l.step l.at l.steps.items

-- the step has nothing to answer, where so many bytes of it were given and so many were written
abbrev pub passed : LinkStep → ℕ → ℕ → Bool
passed (step.Bytes bytes) at written = nat_le (length bytes.items) at
passed step.Idle at written = false
passed (step.Wait count) at written = nat_le count written
passed (step.Await count reads) at written = nat_le count written
passed step.Fail at written = false
passed step.End at written = false

abbrev pub is_passed : MemoryLink → Bool
is_passed l = passed l.step l.at (length (bytes_written l.written))

-- how many writes were made, which one fails, and how many bytes one takes at most
pub record LinkWrites : Type 0 where
  pub made : ℕ
  pub failing : ℕ
  pub most : ℕ

abbrev pub link_writes : MemoryLink → LinkWrites
link_writes l = record { made = l.writes; failing = l.failing; most = l.most }

-- what a write of a piece of that length answers: no more than the most goes to what keeps it
abbrev pub link_write_answer : MemoryLink → ℕ → Wrote
link_write_answer l size =
    if next_call l.writes == l.failing then wrote.Failed
    else write_answer l.written (min l.most size)

-- a link with its counts at 0
abbrev pub begun_anew : MemoryLink → MemoryLink
begun_anew l = record l { counts = nought }

-- the links that the steps give
abbrev pub step_links : List AcceptStep → List MemoryLink
step_links [] = []
step_links (accept.Came link ∷ steps) = begun_anew link ∷ step_links steps
step_links (accept.Idle ∷ steps) = step_links steps
step_links (accept.Fail ∷ steps) = step_links steps
