use Rattle.std.proofs.Common.{◌∙◌, ap, List, ℕ}
use Rattle.std.specs.Prelude.{◌∷◌, []}
use Rattle.serial_model.specs.History.{is_quit}
use Rattle.conn_worker.proofs.Quitting.{by_name}
use Rattle.conn_worker.proofs.quit.is_quit_alone.Goals as goal

pub returns : goal.returns
returns c =
    let test = c.eq_ignore_ascii_case.ensures.test in
    by_name c.as_slice.result.now c.eq_ignore_ascii_case.result test.0 test.1
    ∙ ap (λ (z : List ℕ). is_quit (z ∷ [])) c.as_slice.ensures
