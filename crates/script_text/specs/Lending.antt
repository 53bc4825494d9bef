-- A list of lines after a `&mut` to their vector has ended.
use Rattle.std.specs.Prelude.{List}
use Rattle.std.specs.Borrow.{Fml, Lends, MutBor, RattleType}
use Rattle.std.specs.Global.{Vec}
use Rattle.std.specs.contracts.alloc.Global as global
use Rattle.std.specs.contracts.vec.Vec as vec
use Rattle.std.specs.contracts.impls.GlobalAllocator.TheImpl.{ghosts}
use Rattle.script_text.specs.declared.line.Line.{Line}
use Rattle.script_text.specs.contracts.line.Line as line
use Rattle.script_text.specs.contracts.line.Lines as lines

-- the type of the vector, as the logic holds it
abbrev pub items_row : RattleType
items_row = vec.the_row line.the_row global.the_row ghosts

abbrev pub lends_items : MutBor (List Line) → MutBor (Vec Line) → Fml
lends_items old items = Lends lines.the_row items_row old items (λ last. last.items)
