use Rattle.std.proofs.Common.{◌≡◌, ◌+◌, ◌-◌, ◌≤◌, ◌<◌, ℕ, List, Result, Ok, Err, length, arith}
use Rattle.std.proofs.Common.{refl, sym, subst, ◌∙◌, append-nil}
use Rattle.std.proofs.lemmas.Result.{err_from_is_err_and}
use Rattle.script_text.specs.declared.line.Line.{Line}
use Rattle.server_links.specs.declared.fault.WorldFault.{WorldFault}
use Rattle.server_links.specs.Outcome.{Stops}
use Rattle.server_links.proofs.Outcomes.{Ends}
use Rattle.world_run.specs.World.{flow_at, flow_first, step}
use Rattle.world_run.specs.WorldState.{IsOver, WorldState}
use Rattle.world_run.proofs.WorldCode.{flow_more, flow_on, flow_still, flow_stops}
use Rattle.world_run.proofs.world.World.flow_all.Goals as goal

pub links-init : goal.links-init
unfolding flow_first
links-init c =
    let w = c.args.self.now in
    let lines = c.args.lines.now in
    let to = c.next_after-at.result in
    let e = c.next_after-at.ensures in
    subst (λ (v : WorldState). Ends (flow_first to w) lines v lines
    × (0 ≤ to) × (to ≤ length w.links.links)
    × (length v.links.links ≡ length w.links.links)
    × ((k : ℕ) → 0 ≤ k → k < to → IsOver v k)) (sym e.same) (
      flow_on 0 to w w lines lines e.order.0 e.apart e.over
          (refl, refl, sym (append-nil lines)),
      e.order.0,
      e.order.1,
      refl,
      e.over,
    )

pub returns-in_err-flow_at : goal.returns-in_err-flow_at
unfolding step
returns-in_err-flow_at c =
    let w = c.args.self.now in
    let lines = c.args.lines.now in
    let k = c.links.invariant in
    let n = c.links.at in
    let u = c.flow_at.new.self in
    let all = length w.links.links in
    let fault = c.in_err-flow_at.field-0.0 in
    let r : Result (Unit {0}) WorldFault = Err fault in
    let up : (n + 1) + (all - (n + 1)) ≡ all =
    omega (arith, c.count.ensures.count, k.3, c.links-test.true) in
    let p = err_from_is_err_and c.from_residual.result c.from_residual.ensures.1 in
    rw p.1 (rw p.2
    (subst (λ k. Stops (flow_first k w) lines fault u c.flow_at.new.lines) up
    (flow_stops (n + 1) (all - (n + 1)) w lines fault u c.flow_at.new.lines
    (flow_more n w c.links.self lines c.links.lines r u c.flow_at.new.lines
    k.0 c.in_err-flow_at.ensures.gives))))

-- what was over when a link flowed
flowed_over : (n over : ℕ) (v u : WorldState) (lines lines1 : List Line)
    → Ends (flow_at n v) lines u lines1 → ((k : ℕ) → over ≤ k → k < n → IsOver v k) → (k : ℕ)
    → over ≤ k → k < n → IsOver u k
flowed_over n over v u lines lines1 g is k order below =
    let r : Result (Unit {0}) WorldFault = Ok (tt {0}) in
    flow_still n v u lines r lines1 g k (is k order below)

pub over_from-over-requires-clause-over : goal.over_from-over-requires-clause-over
over_from-over-requires-clause-over c =
    let k = c.links.invariant in
    flowed_over c.links.at c.links.over c.links.self c.flow_at.new.self c.links.lines
    c.flow_at.new.lines c.in_ok-flow_at.ensures.gives k.4

pub links-preserved : goal.links-preserved
links-preserved c =
    let w = c.args.self.now in
    let lines = c.args.lines.now in
    let k = c.links.invariant in
    let n = c.links.at in
    let u = c.flow_at.new.self in
    let r : Result (Unit {0}) WorldFault = Ok (tt {0}) in
    let e = c.next_after-at-in-links.ensures in
    let to = c.next_after-at-in-links.result in
    let size = c.in_ok-flow_at.ensures.count ∙ k.3 in
    let over = c.over_from-over.result in
    subst (λ (v : WorldState). Ends (flow_first to w) lines v c.flow_at.new.lines
    × (over ≤ to) × (to ≤ length w.links.links)
    × (length v.links.links ≡ length w.links.links)
    × ((k : ℕ) → over ≤ k → k < to → IsOver v k)) (sym e.same) (
      flow_on (n + 1) to w u lines c.flow_at.new.lines e.order.0 e.apart
          (λ k a b. e.over k (omega (arith, a, c.over_from-over.ensures.order)) b)
          (flow_more n w c.links.self lines c.links.lines r u c.flow_at.new.lines k.0
          c.in_ok-flow_at.ensures.gives),
      omega (arith, c.over_from-over.ensures.order, e.order.0),
      omega (arith, e.order.1, size),
      size,
      e.over,
    )

pub returns : goal.returns
unfolding step
returns c = grind arith
