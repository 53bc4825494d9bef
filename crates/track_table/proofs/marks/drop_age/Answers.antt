use Rattle.std.proofs.Common.{◌&&◌, ap, cond, None, ◌∙◌}
use Rattle.track_table.specs.Marks.{is_age, mark_at}
use Rattle.track_table.proofs.Aged.{at_age}
use Rattle.track_table.proofs.Marked.{other_after}
use Rattle.track_table.proofs.marks.drop_age.Goals as goal

pub returns : goal.returns
returns c = record {
  by_mark = λ m.
      c.drop_mark.ensures m
      ∙ ap (λ n. cond (at_age n m && is_age (mark_at m c.args.marks.now.entries) c.args.age) None
      (mark_at m c.args.marks.now.entries)) c.mark_of.ensures;
  by_text = λ q.
      other_after c.args.key.now c.args.others.now c.remove.new.self None
      c.remove.ensures.updates q;
}
