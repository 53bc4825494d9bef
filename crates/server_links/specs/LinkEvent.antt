-- What happens to the links of a server.
use Rattle.std.specs.Prelude.{ℕ, List}
use Rattle.server_links.specs.declared.link.LinkMove.{LinkMove}

-- a link is made and admitted; its client's end puts bytes on the way up; something moves over it;
-- the clock is set; the keys that are due by it leave
pub data LinkEvent : Type 0 where
  Raw : List ℕ → LinkEvent
  Put : List ℕ → List ℕ → LinkEvent
  Over : List ℕ → LinkMove → LinkEvent
  Now : ℕ → LinkEvent
  Tick : LinkEvent
