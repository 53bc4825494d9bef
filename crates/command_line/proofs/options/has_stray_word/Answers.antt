use Rattle.std.proofs.Common.{arith}
use Rattle.command_line.proofs.Words.{any_word}
use Rattle.command_line.proofs.options.has_stray_word.Goals as goal

pub returns-then-is_stray_word : goal.returns-then-is_stray_word
returns-then-is_stray_word c = grind (arith, any_word)
