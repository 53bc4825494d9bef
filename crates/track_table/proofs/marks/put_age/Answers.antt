use Rattle.std.proofs.Common.{ap, Some, ◌∙◌, cond}
use Rattle.std.specs.Str.{bytes_eq}
use Rattle.track_table.specs.Marks.{mark_at, other_at}
use Rattle.track_table.proofs.Marked.{other_after, put_text}
use Rattle.track_table.proofs.marks.put_age.Goals as goal

pub returns-in_ok-insert-in-Some-clause-ok : goal.returns-in_ok-insert-in-Some-clause-ok
returns-in_ok-insert-in-Some-clause-ok c =
    put_text c.args.key.now c.args.age c.args.marks.now.entries c.args.others.now.entries
    c.insert.new.self.entries c.in-Some.field-0.now
    (c.in-Some.ensures.value ∙ ap (λ m. mark_at m c.args.marks.now.entries) c.mark_of-mark.ensures)
    (λ q. other_after c.in_ok-from_slice-in-Some.field-0.items c.args.others.now c.insert.new.self
    (Some c.args.age) c.in_ok-insert-in-Some.ensures.updates q
    ∙ ap (λ k. cond (bytes_eq q k) (Some c.args.age) (other_at q c.args.others.now.entries))
    c.in_ok-from_slice-in-Some.ensures.items)
