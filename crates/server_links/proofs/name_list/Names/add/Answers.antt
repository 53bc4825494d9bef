use Rattle.std.proofs.Common.{arith, ◌≡◌, ◌++◌, ◌∷◌, [], None, ap, ◌∙◌}
use Rattle.std.specs.Prelude.{position}
use Rattle.std.specs.Str.{bytes_eq}
use Rattle.server_links.proofs.NameLists.{name_added, plain}
use Rattle.server_links.proofs.name_list.Names.add.Goals as goal

pub returns-clause-ok : goal.returns-clause-ok
returns-clause-ok c =
    let keys = c.self.inside.table.keys in
    let k = c.in_ok-name.name in
    let free : position (λ n. bytes_eq n k.items) (plain keys) ≡ None = grind (arith, plain) in
    ap plain c.in_ok-insert.ensures.keys ∙ name_added k keys free
    ∙ ap (λ b. plain keys ++ b ∷ []) c.in_ok-name.ensures.items
    ∙ ap (λ l. l ++ c.args.name.now ∷ []) c.self.view_is
