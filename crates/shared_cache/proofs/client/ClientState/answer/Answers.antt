use Rattle.std.proofs.Common.{ap, sym, ◌∙◌, refl}
use Rattle.std.specs.Prelude.{is_some}
use Rattle.shared_cache.specs.declared.log.ClientReply.TheVariants.{Hit, Sent}
use Rattle.shared_cache.specs.Held.{held, held_for}
use Rattle.shared_cache.specs.Steps.{answer_ask, read_number}
use Rattle.shared_cache.specs.ClientFields.{Client}
use Rattle.shared_cache.proofs.OtherTurns.{query_found}
use Rattle.shared_cache.proofs.client.ClientState.answer.Goals as goal

pub hit-requires : goal.hit-requires
hit-requires c =
    sym (ap is_some (c.in-Some.ensures
    ∙ query_found _ _ _ c.self.invariant.reflects c.args.query c.self.inside.keys refl
    ∙ ap (λ (st : Client). held_for c.args.query (held st.setup st.past)) c.self.view_is))

pub fetch-requires-clause-miss : goal.fetch-requires-clause-miss
fetch-requires-clause-miss c =
    sym (c.in-None.ensures
    ∙ query_found _ _ _ c.self.invariant.reflects c.args.query c.self.inside.keys refl
    ∙ ap (λ (st : Client). held_for c.args.query (held st.setup st.past)) c.self.view_is)

pub returns-in_ok-hit-in-Some-clause-reply : goal.returns-in_ok-hit-in-Some-clause-reply
returns-in_ok-hit-in-Some-clause-reply c =
    ap (λ v. Hit v c.in-Some.entry.now.number) c.in_ok-value-in-Some.ensures
    ∙ ap (λ o. answer_ask o (read_number c.args.self.now.setup c.args.self.now.past c.args.query))
    (c.in-Some.ensures
    ∙ query_found _ _ _ c.self.invariant.reflects c.args.query c.self.inside.keys refl
    ∙ ap (λ (st : Client). held_for c.args.query (held st.setup st.past)) c.self.view_is)

pub returns-in_ok-fetch-in-None-clause-reply : goal.returns-in_ok-fetch-in-None-clause-reply
returns-in_ok-fetch-in-None-clause-reply c =
    ap Sent c.in_ok-fetch-in-None.ensures.number
    ∙ ap (λ o. answer_ask o (read_number c.args.self.now.setup c.args.self.now.past c.args.query))
    (c.in-None.ensures
    ∙ query_found _ _ _ c.self.invariant.reflects c.args.query c.self.inside.keys refl
    ∙ ap (λ (st : Client). held_for c.args.query (held st.setup st.past)) c.self.view_is)
