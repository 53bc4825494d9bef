use Rattle.std.proofs.Common.{false, true, sym, ◌∙◌, refl}
use Rattle.command_line.specs.Commands.{port_of}
use Rattle.std.specs.Prelude.{Some, None}
use Rattle.command_line.proofs.LastColon.{at_colon, no_colon}
use Rattle.command_line.proofs.commands.connection_in.Goals as goal

pub returns-in_default : goal.returns-in_default
returns-in_default c =
    no_colon c.args.text.now c.rsplit_once.result c.rsplit_once.ensures.cases c.in_default.is

pub returns-then-is_empty : goal.returns-then-is_empty
returns-then-is_empty c =
    at_colon c.args.text.now c.rsplit_once.result c.in-Some.host c.in-Some.port
    c.rsplit_once.ensures.cases c.in-Some.is true (sym c.if-is_empty.true ∙ c.is_empty.ensures)
    (port_of (Some c.in-Some.port.now)) refl

pub returns-in_default-2 : goal.returns-in_default-2
returns-in_default-2 c =
    at_colon c.args.text.now c.rsplit_once.result c.in-Some.host c.in-Some.port
    c.rsplit_once.ensures.cases c.in-Some.is false (sym c.if-is_empty.false ∙ c.is_empty.ensures)
    None (sym c.in_default-2.is ∙ c.in_ok-port.ensures)

pub returns : goal.returns
returns c = rw (c.in_ok-host.ensures)
    (at_colon c.args.text.now c.rsplit_once.result c.in-Some.host c.in-Some.port
    c.rsplit_once.ensures.cases c.in-Some.is false (sym c.if-is_empty.false ∙ c.is_empty.ensures)
    (Some c.in-Some-2.port) (sym c.in-Some-2.is ∙ c.in_ok-port.ensures))
