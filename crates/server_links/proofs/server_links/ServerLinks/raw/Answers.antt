use Rattle.std.proofs.Common.{◌≡◌, ◌+◌, ◌++◌, ◌∷◌, [], arith, Some, None, Option, Bool, List, ℕ}
use Rattle.std.proofs.Common.{true, false, sym, ap, subst, ◌∙◌}
use Rattle.std.specs.Option.{is_some}
use Rattle.std.proofs.lemmas.Result.{err_from_is_err_and}
use Rattle.server_links.specs.LinkEvent.{Raw}
use Rattle.script_text.specs.declared.line.Line.TheVariants as line
use Rattle.server_links.specs.declared.fault.WorldFault.TheVariants.{NameTaken}
use Rattle.server_links.specs.declared.fault.WorldFault.TheVariants as fault
use Rattle.server_links.specs.Outcome.{Stops}
use Rattle.server_links.specs.Session.{world}
use Rattle.server_links.specs.LinkSteps.{place_of, step, stopped_number}
use Rattle.server_links.specs.LinksState.{AreNames, Fits, LinksState, fresh_link}
use Rattle.server_links.proofs.NameLists.{name_place}
use Rattle.server_links.proofs.Outcomes.{Ends}
use Rattle.server_links.proofs.Stepping.{raw_before, raw_gives, raw_stands, raw_stands_still}
use Rattle.server_links.proofs.Stepping.{raw_stopped, raw_stops, raw_taken}
use Rattle.server_links.proofs.server_links.ServerLinks.raw.Goals as goal

some : {A : Type 0} → (o : Option A) → is_some o ≡ true → (a : A) × (o ≡ Some a)
some o e = grind arith

free : (v w : LinksState) (name : List ℕ) (o : Option ℕ) (b : Bool) → v ≡ w → o ≡ place_of name w
    → b ≡ is_some o → b ≡ false → place_of name v ≡ None
free v w name o b view place is off = grind arith

pub returns-then-is_some : goal.returns-then-is_some
returns-then-is_some c =
    let i = c.self.inside in
    let is = some (place_of c.args.name.now (world i.server i.links.items))
    (grind arith) in
    subst (λ (w : LinksState). Stops (step w (Raw c.args.name.now)) c.args.lines.now NameTaken w
    c.args.lines.now) c.self.view_is
    (raw_taken i.server i.links.items c.args.name.now c.args.lines.now is.0 is.1)

pub returns-in_err-next_entry : goal.returns-in_err-next_entry
returns-in_err-next_entry c =
    let i = c.self.inside in
    let free = free (world i.server i.links.items) c.args.self.now c.args.name.now c.place_of.result
    c.is_some.result c.self.view_is c.place_of.ensures c.is_some.ensures c.if-is_some.false in
    let p = err_from_is_err_and c.from_residual.result c.from_residual.ensures.1 in
    rw p.1 (grind (arith, raw_before, free))

pub returns-in_err-copy : goal.returns-in_err-copy
returns-in_err-copy c =
    let i = c.self.inside in
    let free = free (world i.server i.links.items) c.args.self.now c.args.name.now c.place_of.result
    c.is_some.result c.self.view_is c.place_of.ensures c.is_some.ensures c.if-is_some.false in
    let p = err_from_is_err_and c.from_residual-in_err-copy.result
    c.from_residual-in_err-copy.ensures.1 in
    rw p.1 (grind (arith, raw_before, free))

pub returns-in_err-copy-2 : goal.returns-in_err-copy-2
returns-in_err-copy-2 c =
    let i = c.self.inside in
    let free = free (world i.server i.links.items) c.args.self.now c.args.name.now c.place_of.result
    c.is_some.result c.self.view_is c.place_of.ensures c.is_some.ensures c.if-is_some.false in
    let p = err_from_is_err_and c.from_residual-in_err-copy-2.result
    c.from_residual-in_err-copy-2.ensures.1 in
    rw p.1 (grind (arith, raw_before, free))

pub returns-in_err-reserve : goal.returns-in_err-reserve
returns-in_err-reserve c =
    let i = c.self.inside in
    let free = free (world i.server i.links.items) c.args.self.now c.args.name.now c.place_of.result
    c.is_some.result c.self.view_is c.place_of.ensures c.is_some.ensures c.if-is_some.false in
    let p = err_from_is_err_and c.from_residual-in_err-reserve.result
    c.from_residual-in_err-reserve.ensures.1 in
    rw p.1 (grind (arith, raw_before, free))

pub returns-then-is_stopped : goal.returns-then-is_stopped
returns-then-is_stopped c =
    let i = c.self.inside in
    let free = free (world i.server i.links.items) c.args.self.now c.args.name.now c.place_of.result
    c.is_some.result c.self.view_is c.place_of.ensures c.is_some.ensures c.if-is_some.false in
    subst (λ (w : LinksState). Stops (step w (Raw c.args.name.now)) c.args.lines.now
    (fault.Refused stopped_number) w c.args.lines.now) c.self.view_is
    (raw_stopped i.server i.links.items c.args.name.now c.args.lines.now free
    (sym c.is_stopped.ensures ∙ c.if-is_stopped.true))

pub admit-requires : goal.admit-requires
admit-requires c =
    let i = c.self.inside in
    record {
      goes_on = sym c.is_stopped.ensures ∙ c.if-is_stopped.false;
      new = name_place i.server.names (world i.server i.links.items) c.self.invariant.1
          c.args.name.now
          ∙ free (world i.server i.links.items) c.args.self.now c.args.name.now c.place_of.result
          c.is_some.result c.self.view_is c.place_of.ensures c.is_some.ensures c.if-is_some.false;
    }

pub invariant_of-self-in_err-admit : goal.invariant_of-self-in_err-admit
invariant_of-self-in_err-admit c =
    let i = c.self.inside in
    subst (λ l. Fits c.admit.new.self.book.past l × AreNames c.admit.new.self.names l)
    (sym c.reserve.ensures.items)
    (raw_stands_still i.server i.links.items c.args.name.now c.args.lines.now
    (grind (arith, free))
    c.admit.new.self (line.Admit c.in_ok-next_entry.field-0 c.in_ok-copy.field-0
    (c.len.result + 1)) c.admit.new.lines c.admit.ensures.limits c.admit.ensures.clock
    c.in_err-admit.field-0.0 c.in_err-admit.ensures.gives c.self.invariant)

pub returns-in_err-admit : goal.returns-in_err-admit
returns-in_err-admit c =
    let i = c.self.inside in
    let fault = c.in_err-admit.field-0.0 in
    let p = err_from_is_err_and c.from_residual-in_err-admit.result
    c.from_residual-in_err-admit.ensures.1 in
    rw p.1 (rw p.2
    (subst (λ (w : LinksState). Stops (step w (Raw c.args.name.now)) c.args.lines.now fault
    (world c.admit.new.self c.reserve.new.self.items) c.admit.new.lines) c.self.view_is
    (subst (λ l. Stops (step (world i.server i.links.items) (Raw c.args.name.now)) c.args.lines.now
    fault (world c.admit.new.self l) c.admit.new.lines) (sym c.reserve.ensures.items)
    (raw_stops i.server i.links.items c.args.name.now c.args.lines.now
    (grind (arith, free))
    c.admit.new.self (line.Admit c.in_ok-next_entry.field-0 c.in_ok-copy.field-0
    (c.len.result + 1)) c.admit.new.lines c.admit.ensures.limits c.admit.ensures.clock fault
    c.in_err-admit.ensures.gives))))

pub invariant_of-self-2 : goal.invariant_of-self-2
invariant_of-self-2 c =
    let i = c.self.inside in
    let free = free (world i.server i.links.items) c.args.self.now c.args.name.now
    c.place_of.result c.is_some.result c.self.view_is c.place_of.ensures c.is_some.ensures
    c.if-is_some.false in
    let id = c.len.result + 1 in
    let more : c.push_reserved.new.self.items ≡ i.links.items
    ++ fresh_link id c.args.name.now ∷ [] = grind arith in
    subst (λ l. Fits c.admit.new.self.book.past l × AreNames c.admit.new.self.names l) (sym more)
    (raw_stands i.server i.links.items c.args.name.now c.args.lines.now free
    c.admit.new.self (line.Admit c.in_ok-next_entry.field-0 c.in_ok-copy.field-0 id)
    c.admit.new.lines c.admit.ensures.limits c.admit.ensures.clock
    c.in_ok-admit.ensures.gives (sym c.is_stopped.ensures ∙ c.if-is_stopped.false) id
    c.self.invariant (omega (arith, c.len.ensures))
    (cc (c.in_ok-next_entry.ensures, c.in_ok-copy.ensures)))

pub returns : goal.returns
returns c =
    let i = c.self.inside in
    let id = c.len.result + 1 in
    let more : c.push_reserved.new.self.items ≡ i.links.items
    ++ fresh_link id c.args.name.now ∷ [] = grind arith in
    subst (λ (w : LinksState). Ends (step w (Raw c.args.name.now)) c.args.lines.now
    (world c.admit.new.self c.push_reserved.new.self.items) c.admit.new.lines) c.self.view_is
    (subst (λ l. Ends (step (world i.server i.links.items) (Raw c.args.name.now)) c.args.lines.now
    (world c.admit.new.self l) c.admit.new.lines) (sym more)
    (raw_gives i.server i.links.items c.args.name.now c.args.lines.now
    (grind (arith, free))
    c.admit.new.self (line.Admit c.in_ok-next_entry.field-0 c.in_ok-copy.field-0 id)
    c.admit.new.lines c.admit.ensures.limits c.admit.ensures.clock
    c.in_ok-admit.ensures.gives (sym c.is_stopped.ensures ∙ c.if-is_stopped.false) id
    c.self.invariant (omega (arith, c.len.ensures))
    (cc (c.in_ok-next_entry.ensures, c.in_ok-copy.ensures))))
