use Rattle.std.proofs.Common.{◌∙◌, ap, arith, length, List, slice_index_or, slice_set, subst, sym}
use Rattle.std.proofs.Common.{Some, None}
use Rattle.server_book.specs.Places.{Connection, fresh, gone}
use Rattle.server_book.specs.Roster.{IsAmong, bit_in, seen}
use Rattle.server_book.proofs.Rosters.{closed_roster, got_shut, kept_closed, listed_length}
use Rattle.server_book.proofs.Rosters.{still_closed}
use Rattle.server_book.proofs.roster.Roster.close.Goals as goal

pub put-requires : goal.put-requires
put-requires c =
    let i = c.self.inside in
    let count = sym (listed_length (seen i.places.items i.kept.items i.quits.items) 0 i.count)
    ∙ ap length c.self.view_is in
    omega (arith, c.requires, c.self.invariant.0.bits, count)

pub invariant_of-self : goal.invariant_of-self
invariant_of-self c =
    let i = c.self.inside in
    let is = subst (λ ps. IsAmong ps c.args.place (Some c.in-Some.at)) c.deref.ensures.value
    c.in-Some.ensures in (
      closed_roster i.places.items i.quits.items c.put.new.words.items i.kept.items i.count
          c.in-Some.at c.remove-in-Some.new.self.items c.remove.new.self.items
          c.remove-in-Some.ensures.items c.remove.ensures.items is.0 c.put.ensures.length
          c.self.invariant.0,
      c.self.invariant.1,
      c.self.invariant.2,
    )

pub returns-in-Some : goal.returns-in-Some
returns-in-Some c =
    let i = c.self.inside in
    let count = sym (listed_length (seen i.places.items i.kept.items i.quits.items) 0 i.count)
    ∙ ap length c.self.view_is in
    let is = subst (λ ps. IsAmong ps c.args.place (Some c.in-Some.at)) c.deref.ensures.value
    c.in-Some.ensures in
    kept_closed i.places.items i.quits.items c.put.new.words.items i.kept.items i.count
    c.args.place c.in-Some.at c.remove.result c.remove-in-Some.new.self.items
    c.remove.new.self.items c.remove-in-Some.ensures.items c.remove.ensures.items
    (omega (arith, c.requires, count)) c.self.invariant.0 is c.remove.ensures.value
    (c.put.ensures.here ∙ c.has_quit-quit.ensures) c.put.ensures.others
    ∙ ap (λ (all : List Connection). slice_set all c.args.place
    (gone (slice_index_or all c.args.place fresh))) c.self.view_is

pub returns-in-None : goal.returns-in-None
returns-in-None c =
    let i = c.self.inside in
    let count = sym (listed_length (seen i.places.items i.kept.items i.quits.items) 0 i.count)
    ∙ ap length c.self.view_is in
    still_closed c.args.self.now c.args.place (bit_in i.quits.items c.args.place)
    (ap (λ (all : List Connection). slice_index_or all c.args.place fresh) (sym c.self.view_is)
    ∙ got_shut i.places.items i.kept.items i.quits.items i.count c.args.place
    (omega (arith, c.requires, count))
    (subst (λ ps. IsAmong ps c.args.place None) c.deref.ensures.value c.in-None.ensures))
