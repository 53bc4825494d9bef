use Rattle.std.proofs.Common.{◌<◌, ap, sym, ◌∙◌, arith, length, slice_index_or, take}
use Rattle.std.specs.List.{flat_map}
use Rattle.std.proofs.lemmas.List.{take_all}
use Rattle.server_book.specs.Connections.{ConnectionsState}
use Rattle.server_book.specs.Sendings.{before_posts, told_at, unpassed, with_told}
use Rattle.server_book.proofs.PrefixGroups.{group_is, none_registered, places_next}
use Rattle.server_book.proofs.Routing.{before_told, told_behind, told_nobody}
use Rattle.server_book.proofs.Sendings.{on_err}
use Rattle.server_book.proofs.stores.Stores.tell_prefixes.Goals as goal

pub returns-then-is_empty-clause-told : goal.returns-then-is_empty-clause-told
returns-then-is_empty-clause-told c =
    let s = c.args.self.now in
    sym (told_nobody c.args.entry s.connections)
    ∙ ap (λ x. with_told c.args.entry (unpassed c.args.but x) s.connections)
    (sym (none_registered c.args.keys.now s.prefixes
    (sym c.is_empty.ensures ∙ c.if-is_empty.true)))

pub returns-in_err-tell_at-clause-back : goal.returns-in_err-tell_at-clause-back
returns-in_err-tell_at-clause-back c =
    let s = c.args.self.now in
    let places = take c.loop-place.place-index c.deref-place-items.result.now in
    let told = flat_map (told_at c.args.keys.now s.prefixes) places in
    on_err _ _ (c.in_err-tell_at.ensures.back
    ∙ ap (λ (x : ConnectionsState). before_posts x.posts x.items) c.loop-place.invariant.told
    ∙ before_told c.args.entry (unpassed c.args.but told) s.connections)

pub loop-place-preserved : goal.loop-place-preserved
loop-place-preserved c =
    let s = c.args.self.now in
    let now = c.loop-place.self.connections in
    let told = told_at c.args.keys.now s.prefixes in
    let places = c.deref-place-items.result.now in
    let k = c.loop-place.place-index in
    let lt : k < length places = omega (arith, c.loop-place-test.true) in
    let place = slice_index_or places k 0 in
    record {
      table = c.tell_at.ensures.table ∙ c.loop-place.invariant.table;
      space = c.tell_at.ensures.space ∙ c.loop-place.invariant.space;
      prefixes = c.tell_at.ensures.prefixes ∙ c.loop-place.invariant.prefixes;
      told = told_behind c.args.entry c.args.but s.connections now c.tell_at.new.self.connections
          (flat_map told (take k places)) (told place) c.loop-place.invariant.told
          (c.in_ok-tell_at.ensures.told
          ∙ ap (λ rs. with_told c.args.entry
          (unpassed c.args.but (told_at c.args.keys.now rs place)) now)
          c.loop-place.invariant.prefixes)
          ∙ ap (λ x. with_told c.args.entry (unpassed c.args.but x) s.connections)
          (sym (places_next told places k lt));
    }

pub returns-clause-told : goal.returns-clause-told
returns-clause-told c = grind (arith, take_all, group_is)
