use Rattle.std.proofs.Common.{arith, ap, refl, subst, ◌∙◌}
use Rattle.std.specs.Option.{option_map_or, IsSome}
use Rattle.std.specs.FinMap.{insert}
use Rattle.command_words.specs.Space.{Text, held_at}
use Rattle.keyspace.specs.Plain.{content_of, held_of}
use Rattle.keyspace.specs.declared.space.Held as entry
use Rattle.keyspace.proofs.Keyed.{found, put-seen, seen}
use Rattle.keyspace.proofs.space.Keyspace.hollow.Goals as goal

pub returns-in_err-held-clause-was : goal.returns-in_err-held-clause-was
returns-in_err-held-clause-was c =
    let none = found held_of _ c.args.self.now c.self.view_is c.args.key.now _
    c.in_err-held.ensures.value in
    grind arith

pub returns-in_err-held-clause-now : goal.returns-in_err-held-clause-now
returns-in_err-held-clause-now c =
    let none = found held_of _ c.args.self.now c.self.view_is c.args.key.now _
    c.in_err-held.ensures.value in
    grind (arith, seen)

pub returns-clause-was : goal.returns-clause-was
returns-clause-was c =
    let had = found held_of _ c.args.self.now c.self.view_is c.args.key.now _
    c.in_ok-held.ensures.value in
    grind arith

pub returns-clause-now : goal.returns-clause-now
returns-clause-now c =
    let key = c.args.key.now in
    let old = c.args.self.now in
    let new : entry.Held = record c.in_ok-held.held.now {
      content = c.replace-content.new.dest;
    } in
    let empty = ap content_of c.replace-content.ensures.after
    ∙ ap Text (c.from_vec-empty.ensures ∙ c.new.ensures.items) in
    let has = subst IsSome c.in_ok-held.ensures.value refl in
    put-seen held_of key c.self.inside.table (c.get_mut.follows.lender new) new
    ((c.get_mut.follows.holds new).3 has)
    ∙ (ap (λ m. insert m key (held_of new)) c.self.view_is
    ∙ (ap (λ r. option_map_or (λ h. insert old key (record h { content = content_of new.content }))
    r old)
    (found held_of _ old c.self.view_is key _ c.in_ok-held.ensures.value)
    ∙ ap (λ x. option_map_or (λ h. insert old key (record h { content = x }))
    (held_at key old) old) empty))
