use Rattle.std.proofs.Common.{◌≤◌, arith, max, slice_index_or, sym, subst}
use Rattle.world_run.specs.WorldState.{AreOver}
use Rattle.world_run.proofs.Skipping.{noted, run_on}
use Rattle.world_run.proofs.world.World.next_after.Goals as goal

pub invariant_of-self : goal.invariant_of-self
invariant_of-self c = (
  (let i = c.self.inside in
      let to = c.min-next.result in
      let are = subst (AreOver i.living) c.self.view_is c.self.invariant.0 in
      let is : to ≤ max c.args.at (slice_index_or i.living c.args.at 0) =
      omega (arith, c.min-next.ensures, c.next.ensures) in
      let run = run_on i.living c.args.over c.args.at to c.args.self.now are is c.requires.over in
      subst (AreOver c.note.new.self) (sym c.self.view_is)
      (noted i.living c.note.new.self c.args.over to c.note.result c.args.self.now
      c.note.ensures.ok c.note.ensures.err c.note.ensures.others run are)),
  c.self.invariant.1,
  c.self.invariant.2,
)

pub returns-clause-over : goal.returns-clause-over
returns-clause-over c =
    let i = c.self.inside in
    let to = c.min-next.result in
    let are = subst (AreOver i.living) c.self.view_is c.self.invariant.0 in
    let is : to ≤ max c.args.at (slice_index_or i.living c.args.at 0) =
    omega (arith, c.min-next.ensures, c.next.ensures) in
    run_on i.living c.args.over c.args.at to c.args.self.now are is c.requires.over
