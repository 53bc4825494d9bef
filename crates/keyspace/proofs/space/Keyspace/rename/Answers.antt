use Rattle.std.proofs.Common.{arith, ap, map, ◌∙◌}
use Rattle.std.specs.Option.{is_some}
use Rattle.std.specs.FinMap.{from_entries}
use Rattle.keyspace.specs.Plain.{held_of}
use Rattle.keyspace.proofs.Keyed.{found, put-seen, seen, take-seen}
use Rattle.keyspace.proofs.space.Keyspace.rename.Goals as goal

pub returns-in_default-clause-ok : goal.returns-in_default-clause-ok
returns-in_default-clause-ok c =
    let old = c.args.self.now in
    let from = c.args.from.now in
    let view = ap (λ es. from_entries (map (seen held_of) es)) c.in_ok-reserve.ensures.entries
    ∙ c.self.view_is in
    let none = found held_of _ old view from _ c.in_default.ensures.value in
    grind (arith, seen)

pub returns-in_default-clause-was : goal.returns-in_default-clause-was
returns-in_default-clause-was c =
    let view = ap (λ es. from_entries (map (seen held_of) es)) c.in_ok-reserve.ensures.entries
    ∙ c.self.view_is in
    ap is_some (found held_of _ c.args.self.now view c.args.from.now _ c.in_default.ensures.value)

pub returns-clause-ok : goal.returns-clause-ok
returns-clause-ok c =
    let old = c.args.self.now in
    let from = c.args.from.now in
    let to = c.args.to.now in
    let held = held_of c.in-Some.held in
    let room = c.reserve.new.self in
    let table = c.swap_remove.new.self in
    let view = ap (λ es. from_entries (map (seen held_of) es)) c.in_ok-reserve.ensures.entries
    ∙ c.self.view_is in
    let has = found held_of _ old view from _ c.in-Some.ensures.value in
    put-seen held_of c.in_ok-name.name.items table c.insert_in_room.new.table c.in-Some.held
    c.insert_in_room.ensures.updates
    ∙ (grind (arith, take-seen))

pub returns-clause-was : goal.returns-clause-was
returns-clause-was c =
    let view = ap (λ es. from_entries (map (seen held_of) es)) c.in_ok-reserve.ensures.entries
    ∙ c.self.view_is in
    ap is_some (found held_of _ c.args.self.now view c.args.from.now _ c.in-Some.ensures.value)
