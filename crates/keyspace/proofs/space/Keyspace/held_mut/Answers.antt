use Rattle.std.proofs.Common.{arith, refl, subst, ◌∙◌}
use Rattle.std.specs.Option.{IsSome}
use Rattle.keyspace.specs.Plain.{held_of}
use Rattle.keyspace.proofs.Keyed.{found, put-seen, seen, same_lending, same_end}
use Rattle.keyspace.proofs.space.Keyspace.held_mut.Goals as goal

pub returns-in-Some : goal.returns-in-Some
returns-in-Some c =
    let key = c.args.key.now in
    let old = c.args.self.now in
    let had = found held_of _ old c.self.view_is key _ c.in-Some.ensures.value in
    let has = subst IsSome c.in-Some.ensures.value refl in (
      same_lending _ _ _ (λ w.
          put-seen held_of key c.self.inside.table (c.get_mut.follows.lender w) w
          ((c.get_mut.follows.holds w).3 has)
          ∙ (grind arith)),
      record { writes_back = tt; value = had },
    )

pub returns-in-None : goal.returns-in-None
returns-in-None c =
    let key = c.args.key.now in
    let none = found held_of _ c.args.self.now c.self.view_is key _ c.in-None.ensures.value in
    grind (arith, same_end, seen)
