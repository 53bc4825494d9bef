use Rattle.std.proofs.Common.{arith, ap, sym, ◌∙◌, Ok}
use Rattle.command_words.specs.declared.command.Command.TheVariants as command
use Rattle.command_words.specs.declared.command.WordFault.TheVariants.{Unknown}
use Rattle.serial_model.specs.History.{served}
use Rattle.server_book.specs.Plans.{runner}
use Rattle.server_book.proofs.Plans.{fault_planned, command_planned}
use Rattle.server_book.proofs.connection_plan.plan_command.Goals as goal

pub returns-in-Ping : goal.returns-in-Ping
returns-in-Ping c =
    command_planned c.plan_ping.result (runner c.args.by c.args.mode.now) c.args.words.now
    (command.Ping c.in-Ping.text) (served (Ok c.args.command.now)) c.plan_ping.ensures
    (ap (λ x. served (Ok x)) c.in-Ping.is)

pub returns-in-Echo : goal.returns-in-Echo
returns-in-Echo c =
    command_planned c.plan_echo.result (runner c.args.by c.args.mode.now) c.args.words.now
    (command.Echo c.in-Echo.text) (served (Ok c.args.command.now)) c.plan_echo.ensures
    (ap (λ x. served (Ok x)) c.in-Echo.is)

pub returns-in-Hello : goal.returns-in-Hello
returns-in-Hello c =
    command_planned c.plan_hello.result (runner c.args.by c.args.mode.now) c.args.words.now
    c.args.command.now (served (Ok c.args.command.now)) c.plan_hello.ensures
    (ap (λ x. served (Ok x)) c.in-Hello.is ∙ sym (ap Ok c.in-Hello.is))

pub returns-in-Reset : goal.returns-in-Reset
returns-in-Reset c =
    command_planned c.plan_reset.result (runner c.args.by c.args.mode.now) c.args.words.now
    command.Reset (served (Ok c.args.command.now)) c.plan_reset.ensures
    (ap (λ x. served (Ok x)) c.in-Reset.is)

pub returns-in-Quit : goal.returns-in-Quit
returns-in-Quit c =
    command_planned c.plan_quit.result (runner c.args.by c.args.mode.now) c.args.words.now
    command.Quit (served (Ok c.args.command.now)) c.plan_quit.ensures
    (ap (λ x. served (Ok x)) c.in-Quit.is)

pub returns-in-Shutdown : goal.returns-in-Shutdown
returns-in-Shutdown c =
    let save = c.in-Shutdown.field-0 in
    command_planned (Ok c.plan_shutdown.result) (runner c.args.by c.args.mode.now)
    c.args.words.now (command.Shutdown save) (served (Ok c.args.command.now))
    (c.plan_shutdown.ensures c.args.by save)
    (ap (λ x. served (Ok x)) c.in-Shutdown.is)

pub returns-in-ClientId : goal.returns-in-ClientId
returns-in-ClientId c =
    command_planned c.plan_id.result (runner c.args.by c.args.mode.now) c.args.words.now
    command.ClientId (served (Ok c.args.command.now)) c.plan_id.ensures
    (ap (λ x. served (Ok x)) c.in-ClientId.is)

pub returns-in-ClientCaching : goal.returns-in-ClientCaching
returns-in-ClientCaching c =
    command_planned c.plan_caching.result (runner c.args.by c.args.mode.now) c.args.words.now
    (command.ClientCaching c.in-ClientCaching.is_yes) (served (Ok c.args.command.now))
    c.plan_caching.ensures
    (ap (λ x. served (Ok x)) c.in-ClientCaching.is)

pub returns-in-ClientGetRedir : goal.returns-in-ClientGetRedir
returns-in-ClientGetRedir c =
    command_planned (Ok c.plan_getredir.result) (runner c.args.by c.args.mode.now)
    c.args.words.now command.ClientGetRedir (served (Ok c.args.command.now))
    (c.plan_getredir.ensures c.args.by)
    (ap (λ x. served (Ok x)) c.in-ClientGetRedir.is)

pub returns-in-ClientTrackingInfo : goal.returns-in-ClientTrackingInfo
returns-in-ClientTrackingInfo c =
    command_planned c.plan_info.result (runner c.args.by c.args.mode.now) c.args.words.now
    command.ClientTrackingInfo (served (Ok c.args.command.now)) c.plan_info.ensures
    (ap (λ x. served (Ok x)) c.in-ClientTrackingInfo.is)

pub returns-in-ClientTracking : goal.returns-in-ClientTracking
returns-in-ClientTracking c =
    command_planned c.plan_tracking.result (runner c.args.by c.args.mode.now) c.args.words.now
    (command.ClientTracking c.in-ClientTracking.options) (served (Ok c.args.command.now))
    c.plan_tracking.ensures
    (ap (λ x. served (Ok x)) c.in-ClientTracking.is)

pub returns-in-Subscribe : goal.returns-in-Subscribe
returns-in-Subscribe c =
    command_planned c.plan_subscribe.result (runner c.args.by c.args.mode.now) c.args.words.now
    c.args.command.now (served (Ok c.args.command.now)) c.plan_subscribe.ensures
    (ap (λ x. served (Ok x)) c.in-Subscribe.is ∙ sym (ap Ok c.in-Subscribe.is))

pub returns-in-Unsubscribe : goal.returns-in-Unsubscribe
returns-in-Unsubscribe c =
    command_planned c.plan_unsubscribe.result (runner c.args.by c.args.mode.now) c.args.words.now
    c.args.command.now (served (Ok c.args.command.now)) c.plan_unsubscribe.ensures
    (ap (λ x. served (Ok x)) c.in-Unsubscribe.is ∙ sym (ap Ok c.in-Unsubscribe.is))

pub returns-in_default : goal.returns-in_default
returns-in_default c =
    fault_planned c.plan_fault.result (runner c.args.by c.args.mode.now)
    c.args.words.now Unknown (served (Ok c.args.command.now)) c.plan_fault.ensures
    (grind arith)
