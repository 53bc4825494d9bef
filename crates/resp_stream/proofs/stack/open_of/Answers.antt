use Rattle.std.proofs.Common.{sym, ap, ◌∙◌, arith}
use Rattle.resp_stream.specs.declared.fault.Broken.{Broken}
use Rattle.resp_stream.specs.Parsed.{Bad}
use Rattle.resp_stream.specs.Tokens.{length_at}
use Rattle.resp_stream.specs.Value.{build}
use Rattle.resp_stream.proofs.Opening.{may_not, head_more, head_bad, head_null, head_empty}
use Rattle.resp_stream.proofs.Opening.{head_some}
use Rattle.resp_stream.proofs.stack.open_of.Goals as goal

pub returns-then-not-may_stand : goal.returns-then-not-may_stand
returns-then-not-may_stand c =
    let b = c.bad_byte.ensures in (
      c.args.bytes.now,
      may_not c.args.room c.args.c c.args.bytes.now c.args.rest.now c.args.kind c.requires.head
          c.requires.mark c.requires.room (sym c.may_stand.ensures ∙ c.if-not-may_stand.true)
          ∙ ap (λ (e : Broken). Bad e.fault c.args.bytes.now) (sym b),
      ap (λ (e : Broken). e.left) (sym b),
    )

pub returns-in-Ok-None : goal.returns-in-Ok-None
returns-in-Ok-None c = grind (arith, head_more)

pub returns-in-Ok-Some-None-default : goal.returns-in-Ok-Some-None-default
returns-in-Ok-Some-None-default c =
    head_null c.args.room c.args.c c.args.bytes.now c.args.rest.now c.args.kind c.requires.head
    c.requires.mark c.requires.room (sym c.may_stand.ensures ∙ c.if-not-may_stand.false)
    c.in-Ok-Some-None-default.rest.now
    (grind arith)

pub returns-in-Ok : goal.returns-in-Ok
returns-in-Ok c =
    head_empty c.args.room c.args.c c.args.bytes.now c.args.rest.now c.args.kind c.requires.head
    c.requires.mark c.requires.room (sym c.may_stand.ensures ∙ c.if-not-may_stand.false)
    c.in-Ok-Some-Some-default.count
    c.in-Ok-Some-Some-default.rest.now _
    (grind arith)
    c.if-count-eq0.true (c.in-Ok.ensures ∙ ap (build c.args.kind) c.new.ensures)

pub returns-else-count-eq0 : goal.returns-else-count-eq0
returns-else-count-eq0 c = grind (arith, head_some)

pub returns-in-Err : goal.returns-in-Err
returns-in-Err c = (
  c.in-Err.ensures.gives.0,
  head_bad c.args.room c.args.c c.args.bytes.now c.args.rest.now c.args.kind c.requires.head
      c.requires.mark c.requires.room (sym c.may_stand.ensures ∙ c.if-not-may_stand.false)
      c.in-Err.ensures.gives.0 c.in-Err.e.fault
      (ap (λ r. length_at r c.args.rest.now) (sym c.rule_of.ensures) ∙ c.in-Err.ensures.gives.1),
  c.in-Err.ensures.gives.2,
)
