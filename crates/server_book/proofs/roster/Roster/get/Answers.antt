use Rattle.std.proofs.Common.{◌∙◌, ap, arith, length, slice_index_or, subst, sym, List, Some, None}
use Rattle.std.proofs.lemmas.List.{get_or_read}
use Rattle.server_book.specs.Places.{Connection, fresh, shut}
use Rattle.server_book.specs.Roster.{IsAmong, bit_in, seen}
use Rattle.server_book.proofs.Rosters.{got_kept, got_shut, listed_length}
use Rattle.server_book.proofs.roster.Roster.get.Goals as goal

pub is_set-requires : goal.is_set-requires
is_set-requires c =
    let i = c.self.inside in
    let count = sym (listed_length (seen i.places.items i.kept.items i.quits.items) 0 i.count)
    ∙ ap length c.self.view_is in
    rw c.deref-in-None.ensures.value (omega (arith, c.requires, c.self.invariant.0.bits, count))

pub returns-in-Some : goal.returns-in-Some
returns-in-Some c =
    let i = c.self.inside in
    let count = sym (listed_length (seen i.places.items i.kept.items i.quits.items) 0 i.count)
    ∙ ap length c.self.view_is in
    let is = subst (λ ps. IsAmong ps c.args.place (Some c.in-Some.at)) c.deref.ensures.value
    c.in-Some.ensures in
    get_or_read i.kept.items c.in-Some.at c.index.result.now
    (omega (arith, c.self.invariant.0.pairs, is.0)) c.index.ensures fresh
    ∙ sym (got_kept i.places.items i.kept.items i.quits.items i.count c.args.place c.in-Some.at
    (omega (arith, c.requires, count)) c.self.invariant.0 is)
    ∙ ap (λ (all : List Connection). slice_index_or all c.args.place fresh) c.self.view_is

pub returns-then-is_set : goal.returns-then-is_set
returns-then-is_set c =
    let i = c.self.inside in
    let count = sym (listed_length (seen i.places.items i.kept.items i.quits.items) 0 i.count)
    ∙ ap length c.self.view_is in
    let bit = ap (λ ws. bit_in ws c.args.place) (sym c.deref-in-None.ensures.value)
    ∙ sym c.is_set.ensures ∙ c.if-is_set.true in
    c.self.invariant.1 ∙ ap shut (sym bit)
    ∙ sym (got_shut i.places.items i.kept.items i.quits.items i.count c.args.place
    (omega (arith, c.requires, count))
    (subst (λ ps. IsAmong ps c.args.place None) c.deref.ensures.value c.in-None.ensures))
    ∙ ap (λ (all : List Connection). slice_index_or all c.args.place fresh) c.self.view_is

pub returns-else-is_set : goal.returns-else-is_set
returns-else-is_set c =
    let i = c.self.inside in
    let count = sym (listed_length (seen i.places.items i.kept.items i.quits.items) 0 i.count)
    ∙ ap length c.self.view_is in
    let bit = ap (λ ws. bit_in ws c.args.place) (sym c.deref-in-None.ensures.value)
    ∙ sym c.is_set.ensures ∙ c.if-is_set.false in
    c.self.invariant.2 ∙ ap shut (sym bit)
    ∙ sym (got_shut i.places.items i.kept.items i.quits.items i.count c.args.place
    (omega (arith, c.requires, count))
    (subst (λ ps. IsAmong ps c.args.place None) c.deref.ensures.value c.in-None.ensures))
    ∙ ap (λ (all : List Connection). slice_index_or all c.args.place fresh) c.self.view_is
