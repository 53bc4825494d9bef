use Rattle.std.proofs.Common.{◌<◌, ◌∙◌, ap, arith, length, slice_index_or, slice_set, subst, sym}
use Rattle.std.proofs.Common.{List, Some, None}
use Rattle.std.proofs.lemmas.List.{get_or_read}
use Rattle.server_book.specs.Places.{Connection, fresh}
use Rattle.server_book.specs.Roster.{IsAmong, bit_in, seen}
use Rattle.server_book.proofs.Rosters.{got_kept, got_shut, kept_put, listed_length, same_lending}
use Rattle.server_book.proofs.Rosters.{same_end, shut_gone}
use Rattle.server_book.proofs.roster.Roster.get_mut.Goals as goal

pub returns-in-Some : goal.returns-in-Some
returns-in-Some c =
    let i = c.self.inside in
    let count = sym (listed_length (seen i.places.items i.kept.items i.quits.items) 0 i.count)
    ∙ ap length c.self.view_is in
    let is = subst (λ ps. IsAmong ps c.args.place (Some c.in-Some.at)) c.deref.ensures.value
    c.in-Some.ensures in
    let lt : c.args.place < i.count = omega (arith, c.requires, count) in (
      same_lending _ _ _ (λ w.
          kept_put i.places.items i.kept.items i.quits.items i.count c.args.place c.in-Some.at w lt
          c.self.invariant.0 is
          ∙ ap (λ (all : List Connection). slice_set all c.args.place w) c.self.view_is),
      record {
        writes_back = tt;
        value =
            get_or_read i.kept.items c.in-Some.at c.index_mut.result.now
            (omega (arith, c.self.invariant.0.pairs, is.0)) c.index_mut.ensures.value fresh
            ∙ sym (got_kept i.places.items i.kept.items i.quits.items i.count c.args.place
            c.in-Some.at lt c.self.invariant.0 is)
            ∙ ap (λ (all : List Connection). slice_index_or all c.args.place fresh) c.self.view_is;
      },
    )

pub returns-in-None : goal.returns-in-None
returns-in-None c =
    let i = c.self.inside in
    let count = sym (listed_length (seen i.places.items i.kept.items i.quits.items) 0 i.count)
    ∙ ap length c.self.view_is in
    let lt : c.args.place < i.count = omega (arith, c.requires, count) in
    let is = subst (λ ps. IsAmong ps c.args.place None) c.deref.ensures.value c.in-None.ensures in
    let read =
    ap (λ (all : List Connection). slice_index_or all c.args.place fresh) (sym c.self.view_is)
    ∙ got_shut i.places.items i.kept.items i.quits.items i.count c.args.place lt is in (
      same_end _ _ c.self.view_is,
      record {
        writes_back = tt;
        value = shut_gone (bit_in i.quits.items c.args.place) _ read;
      },
    )
