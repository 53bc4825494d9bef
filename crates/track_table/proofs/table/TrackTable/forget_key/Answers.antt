use Rattle.std.proofs.Common.{◌≡◌, rules, ap, sym, ◌∙◌, ◌++◌}
use Rattle.std.proofs.lemmas.Fn.{filter_same}
use Rattle.track_table.specs.Table.{without_key, TableState}
use Rattle.track_table.proofs.Parts.{whole_without_key, without_key_parts}
use Rattle.track_table.proofs.table.TrackTable.forget_key.Goals as goal
use Rattle.track_table.proofs.table.TrackTable.forget_key.Goals.{After-retain}

front : (c : After-retain) → c.retain.new.self.items
    ≡ without_key c.args.key.now c.self.inside.oldest.items
front c = filter_same _ _ _ (λ x b f' k. search rules) _ _ c.retain.ensures.filtered

pub invariant_of-self : goal.invariant_of-self
invariant_of-self c =
    whole_without_key c.self.inside.limit c.self.inside.oldest.items c.self.inside.rows
    c.self.invariant c.args.key.now c.retain.new.self.items
    c.forget_key.new.self
    (front (goal.at.invariant_of-self c).After-retain) c.forget_key.ensures

pub returns-clause-rows : goal.returns-clause-rows
returns-clause-rows c =
    let first = front (goal.at.returns-clause-rows c).After-retain in
    (λ i. first i ++ c.forget_key.ensures i)
    ∙ sym (without_key_parts c.args.key.now c.self.inside.oldest.items c.self.inside.rows)
    ∙ ap (λ (t : TableState). without_key c.args.key.now t.rows) c.self.view_is
