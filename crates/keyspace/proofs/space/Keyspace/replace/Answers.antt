use Rattle.std.proofs.Common.{ap, map, refl, subst, Some, ◌∙◌}
use Rattle.std.specs.FinMap.{from_entries, insert}
use Rattle.std.specs.Option.{IsSome}
use Rattle.keyspace.specs.Plain.{held_of}
use Rattle.keyspace.proofs.Keyed.{found, put-seen, seen}
use Rattle.keyspace.proofs.space.Keyspace.replace.Goals as goal

pub returns-in-Some-clause-ok : goal.returns-in-Some-clause-ok
returns-in-Some-clause-ok c =
    let key = c.args.key.now in
    let held = c.replace.new.dest in
    let has = subst IsSome c.in-Some.ensures.value refl in
    put-seen held_of key c.self.inside.table (c.get_mut.follows.lender held) held
    ((c.get_mut.follows.holds held).3 has)
    ∙ (λ i. insert (c.self.view_is i) key (held_of (c.replace.ensures.after i)))

pub returns-in-Some-clause-had : goal.returns-in-Some-clause-had
returns-in-Some-clause-had c =
    found held_of _ c.args.self.now c.self.view_is c.args.key.now _
    (ap Some c.replace.ensures.value ∙ c.in-Some.ensures.value)

pub returns-in_ok-insert-in-None-clause-ok : goal.returns-in_ok-insert-in-None-clause-ok
returns-in_ok-insert-in-None-clause-ok c =
    let name = c.in_ok-name-in-None.name.items in
    let old = c.get_mut.follows.lender-at-none in
    let view = ap (λ m. from_entries (map (seen held_of) m.entries)) c.get_mut.follows.holds-at-none
    ∙ c.self.view_is in
    put-seen held_of name old c.insert.new.self c.args.held c.in_ok-insert-in-None.ensures.updates
    ∙ (λ i. insert (view i) (c.in_ok-name-in-None.ensures.items i) (held_of c.args.held))

pub returns-in_ok-insert-in-None-clause-had : goal.returns-in_ok-insert-in-None-clause-had
returns-in_ok-insert-in-None-clause-had c =
    found held_of _ c.args.self.now c.self.view_is c.args.key.now _ c.in-None.ensures.value
