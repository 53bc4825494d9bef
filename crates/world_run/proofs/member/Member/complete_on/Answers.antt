use Rattle.std.proofs.Common.{◌≡◌, ◌+◌, Some, None, false, subst, sym, ◌∙◌}
use Rattle.std.specs.Prelude.{slice_get}
use Rattle.shared_cache.specs.Log.{is_ended}
use Rattle.server_links.specs.Notes.{sent_entries}
use Rattle.world_run.specs.Members.{client_of}
use Rattle.world_run.specs.WorldState.{MemberState}
use Rattle.world_run.proofs.Replied.{complete_none, complete_some}
use Rattle.world_run.proofs.member.Member.complete_on.Goals as goal

pub returns-in-Some : goal.returns-in-Some
returns-in-Some c =
    let ls = c.args.links.now in
    let m = c.args.self.now in
    let w = c.args.wire in
    let on = subst (λ (m : MemberState). is_ended m.state.setup.mode w m.state.past ≡ false)
    c.self.view_is (sym c.has_ended_on.ensures ∙ c.if-has_ended_on.false) in
    let there = subst (λ p. slice_get (sent_entries ls.limits (p + 1) ls.past) c.got_on.result
    ≡ Some c.in-Some.entry) c.place_on.ensures (sym c.in_ok-entry.ensures ∙ c.in-Some.is) in
    c.saturating_sub.ensures ∙ complete_some ls.limits (client_of m) w ls.past m.state.past on
    c.got_on.result c.in-Some.entry c.got_on.ensures there

pub returns-in-None : goal.returns-in-None
returns-in-None c =
    let ls = c.args.links.now in
    let m = c.args.self.now in
    let w = c.args.wire in
    let on = subst (λ (m : MemberState). is_ended m.state.setup.mode w m.state.past ≡ false)
    c.self.view_is (sym c.has_ended_on.ensures ∙ c.if-has_ended_on.false) in
    let there = subst (λ p. slice_get (sent_entries ls.limits (p + 1) ls.past) c.got_on.result
    ≡ None) c.place_on.ensures (sym c.in_ok-entry.ensures ∙ c.in-None.is) in
    c.entries-in-None.ensures ∙ complete_none ls.limits (client_of m) w ls.past m.state.past on
    c.got_on.result c.got_on.ensures there
