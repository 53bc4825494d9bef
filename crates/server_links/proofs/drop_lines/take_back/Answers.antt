use Rattle.std.proofs.Common.{◌≡◌, ◌-◌, ◌∙◌, ◌∷◌, [], ap, arith, length, length-append, take}
use Rattle.std.proofs.Math.Seq.{take-append_seam}
use Rattle.std.specs.Prelude.{vec_len}
use Rattle.server_links.proofs.drop_lines.take_back.Goals as goal

pub returns : goal.returns
returns c before line is =
    let items = c.args.items.now in
    let more = ap length is ∙ length-append before (line ∷ []) in
    let one : vec_len items - 1 ≡ length before = omega (arith, items.ok.0, more) in
    c.pop.ensures.rest ∙ ap (λ n. take n items.items) one ∙ ap (take (length before)) is
    ∙ take-append_seam before (line ∷ [])
