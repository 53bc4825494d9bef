use Rattle.std.proofs.Common.{◌≡◌, ◌++◌, ◌+◌, ◌<◌, ◌≤◌, ℕ, drop, false, length, take}
use Rattle.std.specs.Prelude.{vec_capacity, vec_len}
use Rattle.serial_model.specs.Tracking.{has_id}
use Rattle.server_links.specs.EntryLines.{drop_lines, name_of}
use Rattle.server_links.proofs.drop_lines.put_drops.Given as goal

abbrev pub invariant-loop-id : goal.invariant-loop-id
invariant-loop-id l = record {
  lines : l.items.items
      ≡ l.initial.items.items
      ++ drop_lines l.entry l.initial.copies.items (take l.id-index l.ids);
  room : vec_len l.items + length (drop l.id-index l.ids) ≤ vec_capacity l.items;
  count : vec_len l.copies ≡ vec_len l.initial.copies;
  others : (c : ℕ) → 0 < c → has_id c (take l.id-index l.ids) ≡ false
      → name_of l.copies.items c ≡ name_of l.initial.copies.items c;
}
