use Rattle.std.proofs.Common.{◌≡◌, ◌+◌, ◌∙◌, [], arith, drop, length, length-drop, length-set, sym}
use Rattle.std.proofs.lemmas.List.{get_or_read}
use Rattle.server_links.specs.EntryLines.{name_of}
use Rattle.server_links.proofs.Drops.{next_line, next_others, next_within}
use Rattle.server_links.proofs.drop_lines.put_drops.Goals as goal

pub overflow_sub-id : goal.overflow_sub-id
overflow_sub-id c =
    let k = c.loop-id.invariant in
    (next_within c.args.entry c.args.copies.now.items c.loop-id.copies.items c.args.ids.now
    c.loop-id.id-index c.loop-id-test.true (omega (arith, k.count)) (grind arith) k.others).0

pub index_mut-requires : goal.index_mut-requires
index_mut-requires c =
    let k = c.loop-id.invariant in
    let next = (next_within c.args.entry c.args.copies.now.items c.loop-id.copies.items
    c.args.ids.now c.loop-id.id-index c.loop-id-test.true (omega (arith, k.count)) (grind arith)
    k.others).1 in omega arith

pub loop-id-preserved : goal.loop-id-preserved
loop-id-preserved c =
    let k = c.loop-id.invariant in
    let copies = c.args.copies.now.items in
    let now = c.loop-id.copies.items in
    let ids = c.args.ids.now in
    let i = c.loop-id.id-index in
    let size : length now ≡ length copies = omega (arith, k.count) in
    let rise = c.requires.rise in
    let within = (next_within c.args.entry copies now ids i c.loop-id-test.true size (grind arith)
    k.others).1 in
    let name = get_or_read now _ _ within c.index_mut.ensures.value [] in
    record {
      lines = c.push_reserved.ensures.items
          ∙ next_line c.args.entry copies now ids i c.loop-id-test.true size (grind arith) k.others
          c.args.items.now.items c.loop-id.items.items c.replace-name.result
          (c.replace-name.ensures.value ∙ name) k.lines;
      room =
          let a = c.push_reserved.ensures.len in
          let b = c.push_reserved.ensures.capacity in
          let d = length-drop i ids in
          let e = length-drop (i + 1) ids in
          let f = k.room in
          let g = c.loop-id-test.true in omega arith;
      count = grind (arith, length-set);
      others = next_others c.args.entry copies now ids i c.loop-id-test.true size (grind arith)
          k.others c.replace-name.new.dest;
    }
