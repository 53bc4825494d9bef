use Rattle.std.proofs.Common.{◌≡◌, Ok, Err, arith, ap, sym, ◌∙◌, refl, true, false}
use Rattle.serial_model.specs.History.{served}
use Rattle.serial_model.specs.Modes.{is_barred}
use Rattle.server_book.specs.Plans.{runner}
use Rattle.server_book.proofs.Plans.{barred_is, fault_reads, if_planned, words_allowed}
use Rattle.server_book.proofs.Plans.{words_barred}
use Rattle.server_book.proofs.plan.plan_words.Goals as goal

pub returns-then-not-allows : goal.returns-then-not-allows
returns-then-not-allows c =
    let by = runner c.args.by c.args.mode.now in
    let words = c.args.words.now in
    let command = c.in-Ok.command in
    let barred : is_barred by.mode (served (Ok command)) ≡ true = grind (arith, barred_is) in
    if_planned c.plan_barred.result _ _
    (λ p is s m. words_barred by words (served (Ok command))
    (ap served (sym c.requires.reading ∙ c.in-Ok.is)) s m p barred is) c.plan_barred.ensures

pub returns-else-is_served : goal.returns-else-is_served
returns-else-is_served c =
    let by = runner c.args.by c.args.mode.now in
    let words = c.args.words.now in
    let command = c.in-Ok.command in
    let free : is_barred by.mode (served (Ok command)) ≡ false = grind (arith, barred_is) in
    if_planned c.plan_command.result _ _
    (λ p planned s m. words_allowed by words (served (Ok command))
    (ap served (sym c.requires.reading ∙ c.in-Ok.is)) s m p free (planned s m))
    c.plan_command.ensures

pub returns-in-Err : goal.returns-in-Err
returns-in-Err c =
    let by = runner c.args.by c.args.mode.now in
    let words = c.args.words.now in
    let fault = c.in-Err.fault in
    if_planned c.plan_fault.result _ _
    (λ p planned s m. words_allowed by words (Err fault)
    (ap served (sym c.requires.reading ∙ c.in-Err.is)) s m p refl
    (planned (Err fault) s m (fault_reads fault))) c.plan_fault.ensures
