use Rattle.server_links.proofs.Outcomes.{gives_reached}
use Rattle.std.proofs.Common.{arith, [], ◌++◌, ap, inl, inr, refl, sym, ◌∙◌}
use Rattle.resp_value.proofs.Prefixes.{prefix_same}
use Rattle.script_text.specs.Printed.{text_of}
use Rattle.redis_program.proofs.Scheduling.{text_none}
use Rattle.redis_program.proofs.Valid.{event_valid}
use Rattle.redis_program.proofs.schedule.play_line.Goals as goal

pub returns-in-Ok-None : goal.returns-in-Ok-None
returns-in-Ok-None c =
    ([], text_none _ c.requires, (refl, refl, sym c.in-Ok-None.ensures ∙ c.in-Ok-None.field-0-is))

pub returns-in-Err : goal.returns-in-Err
returns-in-Err c = ([], text_none _ c.requires, inl refl)

pub returns-in-Err-put_lines : goal.returns-in-Err-put_lines
returns-in-Err-put_lines c =
    let err = c.in-Err-put_lines.ensures.err in
    let at = sym c.in-Ok-Some.ensures ∙ c.in-Ok-Some.field-0-is in (
      err.0,
      err.2 ∙ ap (λ t. t ++ text_of err.0) c.requires,
      inr (grind (arith, gives_reached)),
    )

pub returns-in-Err-NoMemory : goal.returns-in-Err-NoMemory
returns-in-Err-NoMemory c =
    let lines = c.step-stepped.new.lines in
    let at = sym c.in-Ok-Some.ensures ∙ c.in-Ok-Some.field-0-is in (
      lines,
      c.in-Ok.ensures.ok ∙ ap (λ t. t ++ text_of lines) c.requires,
      inr (grind (arith, gives_reached, prefix_same)),
    )

pub step-stepped-requires : goal.step-stepped-requires
step-stepped-requires c =
    event_valid _ _ _ (sym c.in-Ok-Some.ensures ∙ c.in-Ok-Some.field-0-is)
