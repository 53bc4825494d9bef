use Rattle.std.proofs.Common.{sym, ap, ◌∙◌}
use Rattle.world_run.specs.Members.{client_of}
use Rattle.world_run.specs.WorldState.{MemberState}
use Rattle.world_run.proofs.Replied.{complete_single}
use Rattle.world_run.proofs.member.Member.complete.Goals as goal

pub returns-in-Single : goal.returns-in-Single
returns-in-Single c =
    let ls = c.args.links.now in
    let m = c.args.self.now in
    let single = ap (λ (m : MemberState). m.state.setup.mode.shape) (sym c.self.view_is)
    ∙ sym c.self.invariant.1 ∙ c.in-Single.is in
    c.in_ok-main.ensures ∙ complete_single ls.limits (client_of m) ls.past m.state.past single
