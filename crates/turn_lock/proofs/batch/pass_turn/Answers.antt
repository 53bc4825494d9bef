use Rattle.std.proofs.Common.{arith, rules, ◌∷◌, Some, sym, ap, ◌∙◌}
use Rattle.std.proofs.lemmas.Option.{same_Some}
use Rattle.atomic_table.specs.Table.{rest}
use Rattle.turn_lock.proofs.Keeps.{turn_done}
use Rattle.turn_lock.proofs.batch.pass_turn.Goals as goal

pub exchange-requires : goal.exchange-requires
exchange-requires g c = (
  search rules,
  (
    Some c.requires.state.0,
    c.requires.state.1
        ∙ ap (λ r. (0, Some c.requires.state.0) ∷ rest r) (sym c.requires.state.1),
  ),
)

pub serve_next-requires-clause-call : goal.serve_next-requires-clause-call
serve_next-requires-clause-call g c = grind (arith, same_Some, turn_done)
