use Rattle.std.proofs.Common.{◌≡◌, ◌∙◌, ◌++◌, ap, arith, length, refl, sym}
use Rattle.server_links.specs.EntryLines.{dropped_lines}
use Rattle.server_links.specs.ServerState.{ServerState}
use Rattle.server_links.proofs.Drops.{ids_fit, ids_rise, kept_then, lines_are}
use Rattle.server_links.proofs.server.Server.play_out.Goals as goal

pub put_drops-requires-clause-rise : goal.put_drops-requires-clause-rise
put_drops-requires-clause-rise c =
    let i = c.self.inside in
    ids_rise i.book.limits i.book.past c.args.call c.play-reply.result c.play-reply.new.book.past
    i.names i.copies.items c.self.invariant.1 c.play-reply.ensures.step c.last_drops.result.now
    (c.last_drops.ensures ∙ c.play-reply.ensures.drops) _ (omega (arith, i.copies.ok.0))

pub put_drops-requires-clause-room : goal.put_drops-requires-clause-room
put_drops-requires-clause-room c =
    let i = c.self.inside in
    let fit = ids_fit i.book.limits i.book.past c.args.call c.play-reply.result
    c.play-reply.new.book.past i.names i.copies.items c.self.invariant.1 c.play-reply.ensures.step
    c.last_drops.result.now (c.last_drops.ensures ∙ c.play-reply.ensures.drops)
    (length c.args.self.now.names) (sym (ap (λ (s : ServerState). length s.names) c.self.view_is))
    in
    let room = c.requires.room in omega arith

pub invariant_of-self-in-Ran : goal.invariant_of-self-in-Ran
invariant_of-self-in-Ran c =
    let i = c.self.inside in
    let left = c.put_drops.new.copies in (
      c.play-reply.ensures.notes c.self.invariant.0,
      kept_then i.book.limits i.book.past c.args.call c.play-reply.result
          c.play-reply.new.book.past i.names i.copies.items c.self.invariant.1
          c.play-reply.ensures.step c.last_drops.result.now
          (c.last_drops.ensures ∙ c.play-reply.ensures.drops) _ left.items
          c.play-reply.ensures.limits c.requires.admits_none
          (omega (arith, left.ok.0, i.copies.ok.0, c.put_drops.ensures.count))
          c.put_drops.ensures.others,
      c.self.invariant.2 ∙ sym c.play-reply.ensures.limits,
      c.self.invariant.3,
    )

pub invariant_of-self : goal.invariant_of-self
invariant_of-self c =
    let i = c.self.inside in (
      c.play-reply.ensures.notes c.self.invariant.0,
      kept_then i.book.limits i.book.past c.args.call c.play-reply.result
          c.play-reply.new.book.past i.names i.copies.items c.self.invariant.1
          c.play-reply.ensures.step _ refl _ i.copies.items c.play-reply.ensures.limits
          c.requires.admits_none refl (λ n more none. refl),
      c.self.invariant.2 ∙ sym c.play-reply.ensures.limits,
      c.self.invariant.3,
    )

pub returns-in-Ran-clause-lines : goal.returns-in-Ran-clause-lines
returns-in-Ran-clause-lines c =
    let i = c.self.inside in
    let reply = c.play-reply.result in
    let new = c.play-reply.new.book.past in
    c.put_drops.ensures.lines
    ∙ ap (λ ls. c.args.items.now.items ++ ls)
    (lines_are i.book.limits i.book.past c.args.call reply new i.names i.copies.items
    c.self.invariant.1 c.play-reply.ensures.step c.last_drops.result.now
    (c.last_drops.ensures ∙ c.play-reply.ensures.drops) c.in-Ran.entry c.in-Ran.is
    ∙ ap (λ (s : ServerState). dropped_lines s.book.limits s.names reply new) c.self.view_is)
