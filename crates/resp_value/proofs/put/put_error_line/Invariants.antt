use Rattle.std.proofs.Common.{◌≡◌, ◌++◌, ◌∷◌, map, take}
use Rattle.resp_value.specs.Spelling.{plain_byte}
use Rattle.resp_value.proofs.put.put_error_line.Given as goal

abbrev pub invariant-loop-byte : goal.invariant-loop-byte
invariant-loop-byte l =
    l.out.items ≡ l.fn.out.items ++ 45 ∷ map plain_byte (take l.byte-index l.text)
