use Rattle.std.proofs.Common.{arith, refl, subst, sym, ap, ◌∙◌, ◌++◌, ◌∷◌, [], List, ℕ, Some, Ok}
use Rattle.std.specs.Prelude.{is_some}
use Rattle.resp_stream.specs.Readers.{RequestGives}
use Rattle.resp_stream.specs.ReaderStates.{stream_of}
use Rattle.resp_stream.specs.RequestSteps.{IsLastAt}
use Rattle.resp_stream.specs.Stream.{Stream}
use Rattle.resp_stream.specs.declared.request.Progress.TheVariants.{Line}
use Rattle.resp_stream.proofs.LastWord.{last_gives, last_set}
use Rattle.resp_stream.proofs.ReaderFaults.{none_is}
use Rattle.resp_stream.proofs.RequestFaults.{fresh}
use Rattle.resp_stream.proofs.request_reader.RequestReader.cut.Goals as goal

pub invariant_of-self-2 : goal.invariant_of-self-2
invariant_of-self-2 c = fresh c.cut.new.self (Line 0) refl (grind (arith, none_is))

pub returns-clause-gives : goal.returns-clause-gives
returns-clause-gives c =
    let old = stream_of c.self.inside.input in
    let new = stream_of c.cut.new.self in
    let p = c.args.place in
    let cut = c.in-Ok-cut.ensures in
    subst (λ (s : Stream). RequestGives s new (Ok (Some c.set_last.new.self))) c.self.view_is (
    last_gives old new c.args.words c.set_last.new.self p.first p.count
    (subst (λ (s : Stream). IsLastAt s.rest c.args.words p.first p.count) (sym c.self.view_is)
    c.requires.place)
    (c.set_last.ensures
    ∙ last_set c.args.words c.push.new.self c.from_vec-empty.result c.in-Ok-cut.word
    c.in-Ok.ensures.ok
    ∙ ap (λ (w : List ℕ). c.args.words ++ w ∷ []) cut.cut)
    cut.rest cut.before (ap is_some cut.broken)
    )
