use Rattle.std.proofs.Common.{◌≡◌, ◌<◌, ◌∷◌, ◌++◌, [], Err, Ok, Result, ap, arith}
use Rattle.std.proofs.Common.{length, subst, sym, true, ◌∙◌}
use Rattle.std.specs.Result.{is_err}
use Rattle.std.proofs.lemmas.Result.{err_from_is_err_and}
use Rattle.shared_cache.specs.declared.log.Shape.TheVariants.{Single}
use Rattle.shared_cache.specs.declared.log.Wire.TheVariants.{Main}
use Rattle.server_links.specs.declared.fault.WorldFault.{WorldFault}
use Rattle.server_links.specs.declared.fault.WorldFault.TheVariants.{NoMemory}
use Rattle.server_links.specs.LinkEvent.{Raw}
use Rattle.server_links.specs.LinkSteps as links
use Rattle.server_links.specs.LinksState.{LinksState}
use Rattle.server_links.specs.Outcome.{Gives, Stops}
use Rattle.server_links.proofs.Outcomes.{Ends}
use Rattle.world_run.specs.Members.{world}
use Rattle.world_run.specs.World.{setup_by}
use Rattle.world_run.specs.WorldState.{AreOver, EndState, HaveClients, WorldState, fresh_end}
use Rattle.world_run.specs.WorldState.{fresh_member, link_on}
use Rattle.world_run.proofs.WorldCode as code
use Rattle.world_run.proofs.WorldCode.{client_made}
use Rattle.world_run.proofs.world.World.connect_one.Goals as goal
use Rattle.world_run.proofs.world.World.connect_one.Goals.{After-push_reserved-2, After-raw-made}
use Rattle.world_run.proofs.world.World.connect_one.Goals.{After-reserve, After-reserve-2}

-- ---- room is made for the client

more_members : (c : After-reserve) → let i = c.self.inside in
    world i.log_max i.links c.reserve.new.self.items i.ends.items
    ≡ world i.log_max i.links i.members.items i.ends.items
more_members c =
    let i = c.self.inside in
    ap (λ ms. world i.log_max i.links ms i.ends.items) c.reserve.ensures.items

more_ends : (c : After-reserve-2) (ls : LinksState) → let i = c.self.inside in
    world i.log_max ls c.reserve.new.self.items c.reserve-2.new.self.items
    ≡ world i.log_max ls i.members.items i.ends.items
more_ends c ls =
    let i = c.self.inside in
    ap (λ ms. world i.log_max ls ms c.reserve-2.new.self.items) c.reserve.ensures.items
    ∙ ap (λ es. world i.log_max ls i.members.items es) c.reserve-2.ensures.items

before : (c : After-reserve-2) → let i = c.self.inside in
    Stops (client_made Single c.args.name.now c.args.mode.now c.args.capacity c.args.self.now)
    c.args.lines.now NoMemory
    (world i.log_max i.links c.reserve.new.self.items c.reserve-2.new.self.items) c.args.lines.now
before c =
    let i = c.self.inside in
    code.made_before Single c.args.name.now c.args.mode.now c.args.capacity
    (world i.log_max i.links i.members.items i.ends.items) c.args.self.now
    (world i.log_max i.links c.reserve.new.self.items c.reserve-2.new.self.items)
    c.args.lines.now c.self.view_is (more_ends c i.links)

kept : (c : After-reserve-2) → let i = c.self.inside in
    let u = world i.log_max i.links c.reserve.new.self.items c.reserve-2.new.self.items in
    AreOver i.living u × HaveClients u × (0 < i.log_max)
kept c =
    let i = c.self.inside in
    subst (λ (w : WorldState). AreOver i.living w × HaveClients w × (0 < i.log_max))
    (sym (more_ends c i.links)) c.self.invariant

pub returns-in_err-reserve : goal.returns-in_err-reserve
returns-in_err-reserve c =
    let i = c.self.inside in
    let p = err_from_is_err_and c.from_residual.result c.from_residual.ensures.1 in
    rw p.1 (rw p.2
    (code.made_before Single c.args.name.now c.args.mode.now c.args.capacity
    (world i.log_max i.links i.members.items i.ends.items) c.args.self.now
    (world i.log_max i.links c.reserve.new.self.items i.ends.items)
    c.args.lines.now c.self.view_is
    (more_members (goal.at.returns-in_err-reserve c).After-reserve)))

pub returns-in_err-reserve-2 : goal.returns-in_err-reserve-2
returns-in_err-reserve-2 c =
    let p = err_from_is_err_and c.from_residual-in_err-reserve-2.result
    c.from_residual-in_err-reserve-2.ensures.1 in
    rw p.1 (rw p.2 (before (goal.at.returns-in_err-reserve-2 c).After-reserve-2))

pub returns-in_err-main : goal.returns-in_err-main
returns-in_err-main c =
    let p = err_from_is_err_and c.from_residual-in_err-main.result
    c.from_residual-in_err-main.ensures.1 in
    rw p.1 (rw p.2 (before (goal.at.returns-in_err-main c).After-reserve-2))

pub returns-in_err-member : goal.returns-in_err-member
returns-in_err-member c =
    let p = err_from_is_err_and c.from_residual-in_err-member.result
    c.from_residual-in_err-member.ensures.1 in
    rw p.1 (rw p.2 (before (goal.at.returns-in_err-member c).After-reserve-2))

pub invariant_of-self : goal.invariant_of-self
invariant_of-self c =
    let i = c.self.inside in
    subst (λ (w : WorldState). AreOver i.living w × HaveClients w × (0 < i.log_max))
    (sym (more_members (goal.at.invariant_of-self c).After-reserve)) c.self.invariant

pub invariant_of-self-in_err-reserve-2 : goal.invariant_of-self-in_err-reserve-2
invariant_of-self-in_err-reserve-2 c =
    kept (goal.at.invariant_of-self-in_err-reserve-2 c).After-reserve-2

pub invariant_of-self-in_err-main : goal.invariant_of-self-in_err-main
invariant_of-self-in_err-main c = kept (goal.at.invariant_of-self-in_err-main c).After-reserve-2

pub invariant_of-self-in_err-member : goal.invariant_of-self-in_err-member
invariant_of-self-in_err-member c =
    kept (goal.at.invariant_of-self-in_err-member c).After-reserve-2

-- ---- its link is made

link_is : (c : After-raw-made) → c.link.result.now ≡ link_on Main c.args.name.now
link_is c = c.link.ensures ∙ ap (λ (e : EndState). e.end.link) c.in_ok-main.ensures

-- or not
stopped : (c : After-raw-made) → is_err c.raw-made.result ≡ true → let i = c.self.inside in
    Gives (client_made Single c.args.name.now c.args.mode.now c.args.capacity c.args.self.now)
    c.args.lines.now c.raw-made.result
    (world i.log_max c.raw-made.new.self c.reserve.new.self.items c.reserve-2.new.self.items)
    c.raw-made.new.lines
stopped c off =
    let i = c.self.inside in
    let name = c.args.name.now in
    let mode = c.args.mode.now in
    let lines = c.args.lines.now in
    let new = c.raw-made.new.self in
    let lines1 = c.raw-made.new.lines in
    let old = world i.log_max i.links i.members.items i.ends.items in
    let u = world i.log_max new c.reserve.new.self.items c.reserve-2.new.self.items in
    let e = code.an_err c.raw-made.result off in
    let r : Result (Unit {0}) WorldFault = Err e.0 in
    subst (λ x. Gives (client_made Single name mode c.args.capacity c.args.self.now) lines x u
    lines1) (sym e.1)
    (code.made_as Single name mode c.args.capacity old c.args.self.now
    (world i.log_max new i.members.items i.ends.items) u lines r lines1 c.self.view_is
    (more_ends (goal.at.After-raw-made c).After-reserve-2 new)
    (code.one_stops name (setup_by old mode c.args.capacity) i.log_max i.links i.members.items
    i.ends.items lines e.0 new lines1
    (subst (λ n. Stops (links.step i.links (Raw n)) lines e.0 new lines1) (link_is c)
    (subst (λ x. Gives (links.step i.links (Raw c.link.result.now)) lines x new lines1) e.1
    c.raw-made.ensures))))

pub returns-then-is_err : goal.returns-then-is_err
returns-then-is_err c =
    stopped (goal.at.returns-then-is_err c).After-raw-made
    (sym c.is_err.ensures.value ∙ c.if-is_err.true)

pub invariant_of-self-then-is_err : goal.invariant_of-self-then-is_err
invariant_of-self-then-is_err c =
    let i = c.self.inside in
    let g = (goal.at.invariant_of-self-then-is_err c).After-raw-made in
    let new = c.raw-made.new.self in
    let old = world i.log_max i.links i.members.items i.ends.items in
    let u = world i.log_max new c.reserve.new.self.items c.reserve-2.new.self.items in (
      code.over_making i.living Single c.args.name.now
          (setup_by c.args.self.now c.args.mode.now c.args.capacity) old c.args.self.now u
          c.args.lines.now c.raw-made.result c.raw-made.new.lines c.self.view_is c.requires.shape
          (stopped g (sym c.is_err.ensures.value ∙ c.if-is_err.true)) c.self.invariant.0,
      subst (λ (w : WorldState). HaveClients w)
          (sym (more_ends (goal.at.After-raw-made g).After-reserve-2 new)) c.self.invariant.1,
      c.self.invariant.2,
    )

-- ---- the client is there

members_are : (c : After-push_reserved-2) → let i = c.self.inside in
    let place = length i.links.links in
    let old = world i.log_max i.links i.members.items i.ends.items in
    c.push_reserved.new.self.items
    ≡ i.members.items
    ++ fresh_member c.args.name.now place place (setup_by old c.args.mode.now c.args.capacity) ∷ []
members_are c =
    let i = c.self.inside in
    let old = world i.log_max i.links i.members.items i.ends.items in
    c.push_reserved.ensures.items
    ∙ ap (λ ms. ms ++ c.in_ok-member.member ∷ []) c.reserve.ensures.items
    ∙ ap (λ m. i.members.items ++ m ∷ []) (c.in_ok-member.ensures
    ∙ ap (λ p. fresh_member c.args.name.now p p (setup_by old c.args.mode.now c.args.capacity))
    c.count-place.ensures.count)

ends_are : (c : After-push_reserved-2) → let i = c.self.inside in
    c.push_reserved-2.new.self.items
    ≡ i.ends.items
    ++ fresh_end (length i.members.items) Main c.args.name.now (length i.links.links) ∷ []
ends_are c =
    let i = c.self.inside in
    let name = c.args.name.now in
    let count = ap (λ ms. length ms) c.reserve.ensures.items in
    let client : c.len.result ≡ length i.members.items =
    omega (arith, c.len.ensures, c.reserve.new.self.ok.0, count) in
    c.push_reserved-2.ensures.items
    ∙ ap (λ es. es ++ c.in_ok-main.main ∷ []) c.reserve-2.ensures.items
    ∙ ap (λ e. i.ends.items ++ e ∷ []) (c.in_ok-main.ensures
    ∙ ap (λ p. fresh_end c.len.result Main name p) c.count-place.ensures.count
    ∙ ap (λ n. fresh_end n Main name (length i.links.links)) client)

joined : (c : After-push_reserved-2) → let i = c.self.inside in
    let place = length i.links.links in
    let old = world i.log_max i.links i.members.items i.ends.items in
    world i.log_max c.keep_words.new.self c.push_reserved.new.self.items
    c.push_reserved-2.new.self.items
    ≡ world i.log_max c.raw-made.new.self
    (i.members.items ++ fresh_member c.args.name.now place place
    (setup_by old c.args.mode.now c.args.capacity) ∷ [])
    (i.ends.items ++ fresh_end (length i.members.items) Main c.args.name.now place ∷ [])
joined c =
    let i = c.self.inside in
    let place = length i.links.links in
    let old = world i.log_max i.links i.members.items i.ends.items in
    let ms = i.members.items ++ fresh_member c.args.name.now place place
    (setup_by old c.args.mode.now c.args.capacity) ∷ [] in
    ap (λ ls. world i.log_max ls c.push_reserved.new.self.items c.push_reserved-2.new.self.items)
    c.keep_words.ensures
    ∙ ap (λ ms. world i.log_max c.raw-made.new.self ms c.push_reserved-2.new.self.items)
    (members_are c)
    ∙ ap (λ es. world i.log_max c.raw-made.new.self ms es) (ends_are c)

made : (c : After-push_reserved-2) → let i = c.self.inside in
    Ends (client_made Single c.args.name.now c.args.mode.now c.args.capacity c.args.self.now)
    c.args.lines.now
    (world i.log_max c.keep_words.new.self c.push_reserved.new.self.items
    c.push_reserved-2.new.self.items) c.raw-made.new.lines
made c =
    let i = c.self.inside in
    let name = c.args.name.now in
    let mode = c.args.mode.now in
    let lines = c.args.lines.now in
    let new = c.raw-made.new.self in
    let lines1 = c.raw-made.new.lines in
    let place = length i.links.links in
    let old = world i.log_max i.links i.members.items i.ends.items in
    let setup = setup_by old mode c.args.capacity in
    let r : Result (Unit {0}) WorldFault = Ok (tt {0}) in
    let ok = code.an_ok c.raw-made.result (sym c.is_err.ensures.value ∙ c.if-is_err.false) in
    code.made_as Single name mode c.args.capacity old c.args.self.now
    (world i.log_max new (i.members.items ++ fresh_member name place place setup ∷ [])
    (i.ends.items ++ fresh_end (length i.members.items) Main name place ∷ []))
    (world i.log_max c.keep_words.new.self c.push_reserved.new.self.items
    c.push_reserved-2.new.self.items) lines r lines1 c.self.view_is (joined c)
    (code.one_ends name setup i.log_max i.links i.members.items i.ends.items lines c.requires.shape
    new lines1
    (subst (λ n. Ends (links.step i.links (Raw n)) lines new lines1)
    (link_is (goal.at.After-push_reserved-2 c).After-raw-made)
    (subst (λ x. Gives (links.step i.links (Raw c.link.result.now)) lines x new lines1) ok.1
    c.raw-made.ensures)))

pub returns : goal.returns
returns c = made (goal.at.returns c).After-push_reserved-2

pub invariant_of-self-2 : goal.invariant_of-self-2
invariant_of-self-2 c =
    let i = c.self.inside in
    let g = (goal.at.invariant_of-self-2 c).After-push_reserved-2 in
    let r : Result (Unit {0}) WorldFault = Ok (tt {0}) in
    let place = length i.links.links in
    let old = world i.log_max i.links i.members.items i.ends.items in
    let setup = setup_by old c.args.mode.now c.args.capacity in (
      code.over_making i.living Single c.args.name.now
          (setup_by c.args.self.now c.args.mode.now c.args.capacity) old c.args.self.now
          (world i.log_max c.keep_words.new.self c.push_reserved.new.self.items
          c.push_reserved-2.new.self.items) c.args.lines.now r c.raw-made.new.lines c.self.view_is
          c.requires.shape (made g) c.self.invariant.0,
      subst (λ (w : WorldState). HaveClients w) (sym (joined g))
          (code.one_clients i.log_max i.log_max i.links c.raw-made.new.self i.members.items
          i.ends.items (fresh_member c.args.name.now place place setup) c.args.name.now
          c.self.invariant.1 place),
      c.self.invariant.2,
    )
