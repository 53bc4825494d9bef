use Rattle.std.proofs.Common.{◌≡◌, List, ℕ, Option, take}
use Rattle.redirect.specs.Messages.{push_of}
use Rattle.serial_model.specs.Tracking.{told_to}
use Rattle.server_book.specs.Sendings.{IsMessage, unpassed, with_told}
use Rattle.server_book.proofs.connections.Connections.tell_each.Given as goal

abbrev pub invariant-loop-place : goal.invariant-loop-place
invariant-loop-place l =
    (keys : Option (List (List ℕ))) → l.push ≡ push_of keys
    → (l.self
    ≡ with_told l.entry (unpassed l.but (told_to keys (take l.place l.to))) l.initial.self)
    × IsMessage keys l.message
