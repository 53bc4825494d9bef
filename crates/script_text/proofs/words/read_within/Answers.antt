use Rattle.std.proofs.Common.{◌<◌, ◌^◌, sym, ◌∙◌, arith, subst}
use Rattle.std.proofs.lemmas.Fmt.{parse-decimal, IsAscii-decimal}
use Rattle.std.proofs.lemmas.Slice.Eq.{bytes_eq-Decides}
use Rattle.std.proofs.lemmas.Str.{IsUtf8-from_ascii}
use Rattle.std.specs.Str.{IsUtf8}
use Rattle.script_text.proofs.Numbers.{number_within-none, small_within}
use Rattle.script_text.proofs.words.read_within.Goals as goal
use Rattle.script_text.proofs.words.read_within.Goals.{else-is_within-via-then-is_within+else-eq}
use Rattle.script_text.proofs.words.read_within.Goals.{else-is_within-via-else-is_within}

pub returns-in_default : goal.returns-in_default
returns-in_default c =
    sym (number_within-none c.args.low c.args.high c.args.text.now (λ n within e.
    let small : n < 2 ^ 64 = small_within c.args.low c.args.high n (omega arith) within in
    c.in_default.ensures.cases.0 (subst IsUtf8 e (IsUtf8-from_ascii _ (IsAscii-decimal n small)))))

pub returns-in_default-parse : goal.returns-in_default-parse
returns-in_default-parse c =
    sym (number_within-none c.args.low c.args.high c.args.text.now (λ n within e.
    let small : n < 2 ^ 64 = small_within c.args.low c.args.high n (omega arith) within in
    c.in_default-parse.not-Ok n (parse-decimal 64 n c.in-Ok.digits.now c.parse.result small small
    (c.in-Ok.ensures.cases.0 ∙ sym e) c.parse.ensures.value.0)))

pub returns : goal.returns
returns c = sym (number_within-none c.args.low c.args.high c.args.text.now (λ n within e.
    let small : n < 2 ^ 64 = small_within c.args.low c.args.high n (omega arith) within in
    let parsed = parse-decimal 64 n c.in-Ok.digits.now c.parse.result small small
    (c.in-Ok.ensures.cases.0 ∙ sym e) c.parse.ensures.value.0 in
    grind (arith, bytes_eq-Decides, else-is_within-via-else-is_within)))
