-- The connections after a `&mut` to one of them has ended.
use Rattle.std.specs.Prelude.{ℕ, List, Option, slice_set}
use Rattle.std.specs.Borrow.{Fml, MutBor, Lends, LendsIf}
use Rattle.server_book.specs.Places.{Connection}
use Rattle.server_book.specs.contracts.connection.Connection as connection
use Rattle.server_book.specs.contracts.roster.Roster as roster

abbrev pub lends_place : MutBor (List Connection) → ℕ → Option (MutBor Connection) → Fml
lends_place all place r =
    LendsIf roster.the_row connection.the_row all r (slice_set all.now place) all.now

abbrev pub lends_open : MutBor (List Connection) → ℕ → MutBor Connection → Fml
lends_open all place r = Lends roster.the_row connection.the_row all r (slice_set all.now place)
