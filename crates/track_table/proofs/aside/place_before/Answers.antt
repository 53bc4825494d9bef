use Rattle.std.proofs.Common.{List, ℕ, Option, ap, sym, Some, ◌∙◌}
use Rattle.track_table.specs.Aside.{put_in}
use Rattle.track_table.proofs.Asides.{put_at, put_behind, put_last}
use Rattle.track_table.proofs.aside.place_before.Goals as goal

pub returns-in-Some-place_of-clause-place : goal.returns-in-Some-place_of-clause-place
returns-in-Some-place_of-clause-place c = λ row.
    let at = c.in-Some-place_of.ensures in
    put_at c.as_slice.result.now row c.args.rows.now c.in-Some-place_of.place at.0 at.1 at.2
    ∙ ap (λ (next : Option (List ℕ)). put_in (record { row = row; next = next }) c.args.rows.now)
    (ap (λ k. Some k) c.as_slice.ensures ∙ sym c.in-Some.is)

pub returns-in-None-place_of-clause-place : goal.returns-in-None-place_of-clause-place
returns-in-None-place_of-clause-place c = λ row.
    put_last c.as_slice.result.now row c.args.rows.now c.in-None-place_of.ensures
    ∙ ap (λ (next : Option (List ℕ)). put_in (record { row = row; next = next }) c.args.rows.now)
    (ap (λ k. Some k) c.as_slice.ensures ∙ sym c.in-Some.is)

pub returns-in-None-clause-place : goal.returns-in-None-clause-place
returns-in-None-clause-place c = λ row.
    put_behind row c.args.rows.now
    ∙ ap (λ (next : Option (List ℕ)). put_in (record { row = row; next = next }) c.args.rows.now)
    (sym c.in-None.is)
