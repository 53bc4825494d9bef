use Rattle.std.proofs.Common.{◌≡◌, ◌<◌, ◌≤◌, length, take, true}
use Rattle.server_book.proofs.Endings.{AreWithin}
use Rattle.server_book.proofs.connections.Connections.ending_within.Given as goal

abbrev pub invariant-loop-place : goal.invariant-loop-place
invariant-loop-place l = record {
  after_there : l.after ≤ length l.fn.self.items;
  last_there : l.last ≤ length l.fn.self.items;
  by : l.fn.ends.quits ≡ true → (l.after < l.fn.ends.by) × (l.fn.ends.by ≤ l.last);
  posted : AreWithin l.fn.ends.limit l.fn.self.items (take l.place l.fn.self.posts) l.after l.last;
}
