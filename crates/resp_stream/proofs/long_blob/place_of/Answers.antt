use Rattle.std.proofs.Common.{◌∙◌, ◌∷◌, ap}
use Rattle.resp_stream.specs.Parsed.{Whole}
use Rattle.resp_stream.proofs.LongBlob.{length_goes}
use Rattle.resp_stream.proofs.long_blob.place_of.Goals as goal

pub overflow_sub-first : goal.overflow_sub-first
overflow_sub-first c =
    let b = c.in-Ok-Some-Some-default.rest.now in
    (length_goes c.args.rule c.requires c.args.text.now c.in_ok-mark.rest.now b
    c.in-Ok-Some-Some-default.length
    (c.in_ok-mark.ensures.some ∙ ap (λ m. m ∷ c.in_ok-mark.rest.now) c.if-mark-ne36.false)
    ((rw c.in-Ok-Some-Some-default.field-0-is at c.in-Ok-Some-Some-default.ensures.gives)
    ∙ ap (λ n. Whole n b) c.in-Ok-Some-Some-default.field-0-0-0-is)).within
