use Rattle.std.proofs.Common.{arith, ap, refl, subst, ◌∙◌}
use Rattle.std.specs.Option.{is_some, option_map_or, IsSome}
use Rattle.std.specs.FinMap.{insert}
use Rattle.keyspace.specs.Plain.{held_of}
use Rattle.keyspace.specs.declared.space.Held as entry
use Rattle.keyspace.proofs.Keyed.{found, put-seen, seen}
use Rattle.keyspace.proofs.space.Keyspace.set_deadline.Goals as goal

pub returns-in_default-clause-set : goal.returns-in_default-clause-set
returns-in_default-clause-set c =
    let old = c.args.self.now in
    let key = c.args.key.now in
    let none = found held_of _ old c.self.view_is key _ c.in_default.ensures.value in
    grind (arith, seen)

pub returns-in_default-clause-was : goal.returns-in_default-clause-was
returns-in_default-clause-was c =
    let key = c.args.key.now in
    ap is_some (found held_of _ c.args.self.now c.self.view_is key _ c.in_default.ensures.value)

pub returns-clause-set : goal.returns-clause-set
returns-clause-set c =
    let key = c.args.key.now in
    let old = c.args.self.now in
    let new : entry.Held = record c.in-Some.held.now { deadline = c.args.deadline } in
    let has = subst IsSome c.in-Some.ensures.value refl in
    put-seen held_of key c.self.inside.table (c.get_mut.follows.lender new) new
    ((c.get_mut.follows.holds new).3 has)
    ∙ (ap (λ m. insert m key (held_of new)) c.self.view_is
    ∙ ap (λ r. option_map_or (λ h. insert old key (record h { deadline = c.args.deadline })) r old)
    (found held_of _ old c.self.view_is key _ c.in-Some.ensures.value))

pub returns-clause-was : goal.returns-clause-was
returns-clause-was c =
    let key = c.args.key.now in
    ap is_some (found held_of _ c.args.self.now c.self.view_is key _ c.in-Some.ensures.value)
