use Rattle.std.proofs.Common.{◌≡◌, ◌∙◌, sym, ap, List, ℕ}
use Rattle.std.specs.declared.option.Option.{Option}
use Rattle.std.specs.declared.option.Option.TheVariants.{None, Some}
use Rattle.command_words.specs.Queries.{query_of}
use Rattle.script_text.specs.Storm.{get_words}
use Rattle.script_text.proofs.Storms.{get_is_query}
use Rattle.script_text.proofs.generator.ask.Goals as goal

pub unreachable-requires : goal.unreachable-requires
unreachable-requires c =
    let none : Option (List (List ℕ)) = None in
    let clash : none ≡ Some (get_words c.args.key) =
    sym c.in-None.is ∙ c.in_ok-query.ensures ∙ ap query_of (c.in_ok-words.ensures)
    ∙ get_is_query c.args.key in
    cc
