-- What goes with a client's pointer.
use Rattle.std.specs.Prelude.{Option, Some, None}
use Rattle.std.specs.Box.Ownership.{box_owns}
use Rattle.std.specs.contracts.impls.GlobalAllocator.TheImpl.{ghosts}
use Rattle.client_library.specs.Handles.{Handle}
use Rattle.client_library.specs.contracts.foreign.ForeignClient.{the_row}
use base.Fml.{Fml, ftrue}
use denote.RawPtr.{Ptr}

-- the client that lies there, and the right to free its block; where there is none, nothing
abbrev pub pointed : Ptr → Option (Option Handle) → Fml
pointed p None = ftrue
pointed p (Some h) = box_owns (ghosts.dealloc_token _) the_row p h
