-- A command as a program writes it.
use Rattle.std.specs.Prelude.{ℕ, List, Option, Some, None}
use Rattle.resp_stream.specs.Parsed.{Parsed, Whole, More, Bad}
use Rattle.resp_stream.specs.Request.{request_at, skip_empty}

abbrev pub whole_in : {A : Type 0} → Parsed A → Option A
whole_in (Whole x r) = Some x
whole_in More = None
whole_in (Bad f r) = None

-- the words of the request that the bytes begin with, empty ones passed over
abbrev pub first_request : List ℕ → Option (List (List ℕ))
first_request b = whole_in (request_at (skip_empty b))
