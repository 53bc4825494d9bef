-- A server as its links see it.
use Rattle.std.specs.Prelude.{ℕ, List}
use Rattle.server_book.specs.BookState.{BookState}

-- its book, its clock in milliseconds, and the names of its links: the connection of the id n has
-- the n-th
pub record ServerState : Type 0 where
  pub book : BookState
  pub clock : ℕ
  pub names : List (List ℕ)
