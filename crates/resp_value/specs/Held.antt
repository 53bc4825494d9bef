-- The bytes of a byte string, wherever they lie.
use Rattle.std.specs.Prelude.{List, ℕ, take}
use Rattle.std.specs.Arc.{arc_value}
use Rattle.resp_value.specs.declared.held.Held.{Held}
use Rattle.resp_value.specs.declared.held.Held.TheVariants.{Short, Owned, Shared}

abbrev pub bytes_of : Held → List ℕ
bytes_of (Short s) = take s.len s.bytes
bytes_of (Owned v) = v.items
bytes_of (Shared v) = (arc_value v).items
