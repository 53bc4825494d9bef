-- What making a client tells.
use Rattle.std.specs.Prelude.{◌≡◌, ◌⊎◌, ℕ, List, Option, Some, Result, Ok, Err}
use Rattle.client_library.specs.declared.options.ClientOptions.{ClientOptions}
use Rattle.client_library.specs.declared.options.OptionFault.{OptionFault}
use Rattle.client_library.specs.Handles.{Handle}
use Rattle.client_library.specs.Foreign.{made}
use Rattle.client_library.specs.Options.{option_status}

abbrev pub IsMade :
    Result (Option Handle) OptionFault → Option (Option Handle) → ℕ → Option (Option Handle)
    → Type 0
IsMade (Ok h) old status new = (status ≡ 0) × (new ≡ Some h)
IsMade (Err f) old status new = (status ≡ option_status f) × (new ≡ old)

-- the client is made and stands at the pointer, or an option is none, or memory ran out; where none
-- is made the pointer is as before
abbrev pub Makes :
    ClientOptions → List ℕ → Option (Option Handle) → ℕ → Option (Option Handle) → Type 0
Makes options prefixes old status new =
    IsMade (made options prefixes) old status new ⊎ ((status ≡ 12) × (new ≡ old))
