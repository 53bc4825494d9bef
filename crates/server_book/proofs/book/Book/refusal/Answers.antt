use Rattle.std.proofs.Common.{◌≡◌, ◌∙◌, ap, arith, sym, true}
use Rattle.std.proofs.lemmas.Bool.Decides.{nat_tests}
use Rattle.serial_model.specs.History.{is_stopped}
use Rattle.server_book.specs.BookState.{BookState}
use Rattle.server_book.proofs.Refusals.{close_gone, run_gone, stopped_refusal, take_gone}
use Rattle.server_book.proofs.Refusals.{take_quiet}
use Rattle.server_book.proofs.book.Book.refusal.Goals as goal

pub returns-then-self : goal.returns-then-self
returns-then-self c =
    let b = c.args.self.now in
    let on : is_stopped b.limits b.past ≡ true =
    ap (λ (x : BookState). is_stopped x.limits x.past) (sym c.self.view_is)
    ∙ sym c.self.invariant.stopped_is ∙ c.if-self.true in
    stopped_refusal b c.args.call.now c.in-Admit.is on

pub returns-else-runs_on : goal.returns-else-runs_on
returns-else-runs_on c = grind (arith, run_gone)

pub returns-else-waiting-gt0 : goal.returns-else-waiting-gt0
returns-else-waiting-gt0 c = grind (arith, nat_tests, take_quiet)

pub returns-else-gives_on : goal.returns-else-gives_on
returns-else-gives_on c = grind (arith, take_gone)

pub returns-else-reads_on : goal.returns-else-reads_on
returns-else-reads_on c = grind (arith, close_gone)
