use Rattle.std.proofs.Common.{◌<◌, ◌/◌, ◌%◌, ◌∙◌, length, arith, sym, slice_index_or, w64}
use Rattle.std.proofs.lemmas.List.{get_or_read}
use Rattle.std.proofs.lemmas.Nat.Bits.{bit_at_clear_other, bit_at_clear_same, bit_at_set_other}
use Rattle.std.proofs.lemmas.Nat.Bits.{bit_at_set_same}
use Rattle.server_book.proofs.WordBits.{put_else, put_here}
use Rattle.server_book.proofs.bits.put.Goals as goal

pub returns-then-on-clause-here : goal.returns-then-on-clause-here
returns-then-on-clause-here c =
    let ws = c.args.words.now.items in
    let at = c.args.at in
    let lt : at / 64 < length ws = omega (arith, c.requires) in
    rw (get_or_read ws (at / 64) c.index_mut.result.now lt c.index_mut.ensures.value 0) (
    put_here ws at _ 1 lt
    (bit_at_set_same w64 (slice_index_or ws (at / 64) 0) (at % 64) (omega arith))
    ∙ sym c.if-on.true)

pub returns-then-on-clause-others : goal.returns-then-on-clause-others
returns-then-on-clause-others c =
    let ws = c.args.words.now.items in
    let at = c.args.at in
    let lt : at / 64 < length ws = omega (arith, c.requires) in
    rw (get_or_read ws (at / 64) c.index_mut.result.now lt c.index_mut.ensures.value 0) (
    put_else ws at _ lt (λ i below not.
    bit_at_set_other w64 (slice_index_or ws (at / 64) 0) (at % 64) (omega arith) i not))

pub returns-else-on-clause-here : goal.returns-else-on-clause-here
returns-else-on-clause-here c =
    let ws = c.args.words.now.items in
    let at = c.args.at in
    let lt : at / 64 < length ws = omega (arith, c.requires) in
    rw (get_or_read ws (at / 64) c.index_mut-else-on.result.now lt
    c.index_mut-else-on.ensures.value 0) (
    put_here ws at _ 0 lt
    (bit_at_clear_same w64 (slice_index_or ws (at / 64) 0) (at % 64) (omega arith))
    ∙ sym c.if-on.false)

pub returns-else-on-clause-others : goal.returns-else-on-clause-others
returns-else-on-clause-others c =
    let ws = c.args.words.now.items in
    let at = c.args.at in
    let lt : at / 64 < length ws = omega (arith, c.requires) in
    rw (get_or_read ws (at / 64) c.index_mut-else-on.result.now lt
    c.index_mut-else-on.ensures.value 0) (
    put_else ws at _ lt (λ i below not.
    bit_at_clear_other w64 (slice_index_or ws (at / 64) 0) (at % 64) (omega arith) i below not))
