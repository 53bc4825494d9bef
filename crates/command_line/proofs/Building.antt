-- What the builders make of a command with only options.
use Rattle.std.proofs.Common.{◌≡◌, ◌++◌, false, ap₂, List, [], ◌∷◌, append_assoc, arith}
use Rattle.std.proofs.lemmas.List.{map-append}
use Rattle.clap.specs.Walk.{rule_of}
use Rattle.clap.specs.Built.{AddsArg}
use Rattle.clap.specs.declared.builder.arg.Arg.{Arg}
use Rattle.clap.specs.declared.builder.command.Command.{Command}
use Rattle.command_line.specs.Options.{Word, Known}
use Rattle.command_line.specs.Clap.{HasOptions, raw_rule}

pub with_one : (name : Word) (known : List Known) (k : Known) (old new : Command) (a : Arg)
    → AddsArg old a new → a.global ≡ false → rule_of a ≡ raw_rule k
    → HasOptions name known old → HasOptions name (known ++ k ∷ []) new
with_one name known k old new a adds local is before = grind (arith, ap₂, map-append)

-- three options that were added one after another
pub three_added : (name : Word) (known : List Known) (a b d : Known) (c : Command)
    → HasOptions name (((known ++ a ∷ []) ++ b ∷ []) ++ d ∷ []) c
    → HasOptions name (known ++ a ∷ b ∷ d ∷ []) c
three_added name known a b d c has = grind (arith, append_assoc)
