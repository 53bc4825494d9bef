use Rattle.std.proofs.Common.{ap, ◌∙◌}
use Rattle.std.specs.Prelude.{position}
use Rattle.std.specs.Str.{bytes_eq}
use Rattle.server_links.specs.LinkSteps.{place_of}
use Rattle.server_links.specs.Session.{world}
use Rattle.server_links.proofs.NameLists.{name_place}
use Rattle.server_links.proofs.server_links.ServerLinks.place_of.Goals as goal

pub returns : goal.returns
returns c =
    let i = c.self.inside in
    c.place_of.ensures
    ∙ ap (λ s. position (λ n. bytes_eq n s) i.server.names) c.as_slice.ensures
    ∙ name_place i.server.names (world i.server i.links.items) c.self.invariant.1 c.args.name.now
    ∙ ap (place_of c.args.name.now) c.self.view_is
