use Rattle.std.proofs.Common.{◌+◌, ap, ◌∙◌, drop}
use Rattle.std.proofs.lemmas.List.{drop-drop}
use Rattle.resp_stream.proofs.input.Input.cut.Goals as goal

pub returns-clause-rest : goal.returns-clause-rest
returns-clause-rest c =
    c.pass.ensures.rest ∙ ap (drop 2) c.in_ok-blob.ensures.ok
    ∙ drop-drop 2 (c.args.first + c.args.count) c.args.self.now.rest
