use Rattle.std.proofs.Common.{ap, ◌∙◌, refl}
use Rattle.shared_cache.specs.Held.{held, held_in_place, as_listed}
use Rattle.shared_cache.specs.ClientFields.{Client}
use Rattle.shared_cache.proofs.OtherTurns.{entry_placed}
use Rattle.shared_cache.proofs.client.ClientState.held.Goals as goal

pub returns-in_err-entry : goal.returns-in_err-entry
returns-in_err-entry c =
    rw c.from_residual.ensures (ap as_listed (c.in_err-entry.ensures
    ∙ entry_placed _ _ _ c.self.invariant.reflects c.args.place c.self.inside.keys refl
    ∙ ap (λ (st : Client). held_in_place c.args.place (held st.setup st.past)) c.self.view_is))

pub returns : goal.returns
returns c =
    ap as_listed (c.in_ok-entry.ensures
    ∙ entry_placed _ _ _ c.self.invariant.reflects c.args.place c.self.inside.keys refl
    ∙ ap (λ (st : Client). held_in_place c.args.place (held st.setup st.past)) c.self.view_is)
