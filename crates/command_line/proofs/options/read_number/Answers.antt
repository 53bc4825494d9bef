use Rattle.std.proofs.Common.{arith, sym}
use Rattle.std.proofs.lemmas.Fmt.{parse-decimal}
use Rattle.std.proofs.lemmas.Bool.{false≢true}
use Rattle.std.proofs.lemmas.Slice.Eq.{bytes_eq-Decides}
use Rattle.command_line.proofs.Numbers.{number_of-none}
use Rattle.command_line.proofs.options.read_number.Goals as goal

pub returns-in_default : goal.returns-in_default
returns-in_default c = sym (number_of-none c.args.text.now (λ n high e.
    c.in_default.not-Ok n
    (parse-decimal 64 n c.args.text.now c.parse.result high high
    (sym e) c.parse.ensures.value.0)))

pub returns : goal.returns
returns c = sym (number_of-none c.args.text.now (λ n high e.
    let parsed =
    parse-decimal 64 n c.args.text.now c.parse.result high high
    (sym e) c.parse.ensures.value.0 in
    grind (arith, false≢true, bytes_eq-Decides)))
