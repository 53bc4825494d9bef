use Rattle.track_table.proofs.Aged.{if_next}
use Rattle.track_table.proofs.rows.next_age.Goals as goal

pub returns-in-Some : goal.returns-in-Some
returns-in-Some c =
    if_next c.in-Some.last.now _ c.checked_add.result c.args.rows.now.entries
    c.in-Some.ensures.all_up_to c.checked_add.ensures
