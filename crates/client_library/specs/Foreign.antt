-- A client for a program of another language: a handle, until it is closed.
use Rattle.std.specs.Prelude.{◌≡◌, ◌==◌, ℕ, List, [], Bool, true, false, Option, Some, None}
use Rattle.std.specs.Prelude.{Result, Ok, Err, length, nat_lt, if◌then◌else◌}
use Rattle.shared_cache.specs.Held.{Words}
use Rattle.client_library.specs.declared.options.ClientOptions.{ClientOptions}
use Rattle.client_library.specs.declared.options.OptionFault.{OptionFault}
use Rattle.client_library.specs.declared.options.OptionFault.TheVariants.{Prefixes}
use Rattle.client_library.specs.Guarded.{begun_with}
use Rattle.client_library.specs.Library.{has_ended}
use Rattle.client_library.specs.Handles.{Handle, IsCount, copied, silent}
use Rattle.client_library.specs.Options.{fault_of, mode_of, prefixes_in}

-- 0 is no bound
abbrev pub bound : ℕ → Option ℕ
bound max_age = if max_age == 0 then None else Some max_age

abbrev pub made_with : ClientOptions → Option Words → Result (Option Handle) OptionFault
made_with o None = Err Prefixes
made_with o (Some prefixes) =
    Ok (Some (silent (begun_with (mode_of o prefixes) o.capacity (bound o.max_age))))

abbrev pub made_unless :
    Option OptionFault → ClientOptions → List ℕ → Result (Option Handle) OptionFault
made_unless (Some f) o prefixes = Err f
made_unless None o prefixes = made_with o (prefixes_in prefixes)

-- a client that has done nothing, or the first fault of its options
abbrev pub made : ClientOptions → List ℕ → Result (Option Handle) OptionFault
made o prefixes = made_unless (fault_of o (nat_lt 0 (length prefixes))) o prefixes

-- a call on a handle; where it was closed, it tells that the link has ended
abbrev pub OnOpen : (Handle → ℕ → Handle → Type 0) → Option Handle → ℕ → Option Handle → Type 0
OnOpen P None status new = (status ≡ 7) × (new ≡ None)
OnOpen P (Some h) status new = (k : Handle) × (new ≡ Some k) × P h status k

abbrev pub Closes : Option Handle → ℕ → Option Handle → Type 0
Closes old status new = (status ≡ 0) × (new ≡ None)

abbrev pub one_if : Bool → ℕ
one_if true = 1
one_if false = 0

abbrev pub ended_in : Option Handle → ℕ
ended_in None = 1
ended_in (Some h) = one_if (has_ended h.client.client)

abbrev pub number_in : Option Handle → ℕ
number_in None = 0
number_in (Some h) = h.number

abbrev pub answer_in : Option Handle → List ℕ
answer_in None = []
answer_in (Some h) = h.answer

abbrev pub TellsEnded : Option Handle → ℕ → Option Handle → Type 0
TellsEnded old told new = (told ≡ ended_in old) × (new ≡ old)

abbrev pub TellsNumber : Option Handle → ℕ → Option Handle → Type 0
TellsNumber old told new = (told ≡ number_in old) × (new ≡ old)

abbrev pub CountIn : ℕ → Option Handle → ℕ → Type 0
CountIn name None told = told ≡ 0
CountIn name (Some h) told = IsCount name h.client.counts told

abbrev pub TellsCount : ℕ → Option Handle → ℕ → Option Handle → Type 0
TellsCount name old told new = CountIn name old told × (new ≡ old)

-- the size of the answer, which is in the room where it is enough
abbrev pub Copies : Option Handle → List ℕ → ℕ → List ℕ → Option Handle → Type 0
Copies old room size after new =
    (size ≡ length (answer_in old)) × (after ≡ copied (answer_in old) room) × (new ≡ old)
