-- What a program chooses of its client: what its numbers and bytes say, and what is wrong with
-- them.
use Rattle.std.specs.Prelude.{◌≡◌, ◌==◌, ◌&&◌, ◌||◌, ℕ, List, [], ◌∷◌, Bool, true, false, length}
use Rattle.std.specs.Prelude.{Option, Some, None, not, nat_le, if◌then◌else◌}
use Rattle.resp_value.specs.declared.value.Proto.TheVariants.{Three}
use Rattle.shared_cache.specs.declared.log.Shape.TheVariants.{Single}
use Rattle.shared_cache.specs.declared.log.Caching.{Caching}
use Rattle.shared_cache.specs.declared.log.Caching.TheVariants.{Default, OptIn, OptOut, Bcast}
use Rattle.shared_cache.specs.declared.log.ClientMode.{ClientMode}
use Rattle.shared_cache.specs.Held.{Words}
use Rattle.client_library.specs.declared.options.ClientOptions.{ClientOptions}
use Rattle.client_library.specs.declared.options.OptionFault.{OptionFault}
use Rattle.client_library.specs.declared.options.OptionFault.TheVariants as fault
use Rattle.client_library.specs.Requests.{first_request}

-- what a fault is told by
abbrev pub option_status : OptionFault → ℕ
option_status fault.Limit = 15
option_status fault.Tracking = 16
option_status fault.Noloop = 17
option_status fault.Prefixes = 18
option_status fault.Reserved = 19

-- at least a key, at most 1,000,000
abbrev pub is_limit : ClientOptions → Bool
is_limit o = not (o.capacity == 0) && nat_le o.capacity 1000000

abbrev pub are_clear : List ℕ → Bool
are_clear [] = true
are_clear (n ∷ ns) = n == 0 && are_clear ns

-- the first fault; prefixes go with BCAST alone
abbrev pub fault_of : ClientOptions → Bool → Option OptionFault
fault_of o has_prefixes =
    if not (is_limit o) then Some fault.Limit else
    if not (nat_le o.tracking 3) then Some fault.Tracking else
    if not (nat_le o.noloop 1) then Some fault.Noloop else
    if not (are_clear o.reserved) then Some fault.Reserved else
    if has_prefixes && not (o.tracking == 3) then Some fault.Prefixes else
    None

-- the words that the bytes write; no bytes write none
abbrev pub prefixes_in : List ℕ → Option Words
prefixes_in bytes = if length bytes == 0 then Some [] else first_request bytes

abbrev pub caching : ℕ → Words → Caching
caching n prefixes =
    if n == 0 then Default else
    if n == 1 then OptIn else
    if n == 2 then OptOut else
    Bcast prefixes

-- one link, the third protocol, and the tracking that was chosen
abbrev pub mode_of : ClientOptions → Words → ClientMode
mode_of o prefixes = record {
  shape = Single;
  proto = Three;
  caching = caching o.tracking prefixes;
  noloop = o.noloop == 1;
}
