use Rattle.std.proofs.Common.{ap, ◌∙◌}
use Rattle.std.specs.Prelude.{position}
use Rattle.std.specs.Str.{bytes_eq}
use Rattle.server_links.proofs.NameLists.{find_name}
use Rattle.server_links.proofs.name_list.Names.place.Goals as goal

pub returns : goal.returns
returns c =
    c.get_index_of.ensures.index ∙ find_name c.args.name.now c.self.inside.table.keys
    ∙ ap (position (λ n. bytes_eq n c.args.name.now)) c.self.view_is
