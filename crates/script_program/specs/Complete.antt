-- The run of a script as a whole, of which neither the source, nor the net, nor the sink failed.
use Rattle.std.specs.Prelude.{⊤, ℕ, List, Option, Result, Ok, Err}
use Rattle.edge_links.specs.declared.counts.Counts.{Counts}
use Rattle.edge_lines.specs.declared.lines.SinkFailed.{SinkFailed}
use Rattle.shared_cache.specs.Held.{Setup}
use Rattle.script_program.specs.declared.run.ScriptEnd.{ScriptEnd}
use Rattle.script_program.specs.declared.run.ScriptEnd.TheVariants as end
use Rattle.script_program.specs.declared.run.ScriptSession.{ScriptSession}
use Rattle.script_program.specs.Written.{Comes}

-- such an end rests on no fault of the source or of the net
abbrev pub IsFaultless : ScriptEnd → Type 0
IsFaultless (end.Played e) = ⊤
IsFaultless (end.BadLine number) = ⊤
IsFaultless end.ReadFault = ⊥
IsFaultless end.NetFault = ⊥
IsFaultless end.NoMemory = ⊤

-- All was written. A line is outside the grammar, or memory ran out; or the script of the input was
-- played, and each of its lines has its value, or the session shows why not.
abbrev pub Completes : {L : Type 0} → (L → Option (List ℕ)) → (L → Option (List ℕ)) → (L → Counts)
    → Setup → Option (List ℕ) → Option (ScriptSession L) → Result ScriptEnd SinkFailed → Type 0
Completes left contents counts client input session (Ok e) =
    IsFaultless e × (text : List ℕ) × Comes left contents counts client input session e text
Completes left contents counts client input session (Err failed) = ⊥
