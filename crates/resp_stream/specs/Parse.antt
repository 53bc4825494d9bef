-- The values or requests of a stream, with what is left and the fault that stops them.
use Rattle.std.specs.Prelude.{ℕ, zero, suc, ◌+◌, ◌-◌, List, [], ◌∷◌, length, true}
use Rattle.std.specs.Prelude.{Option, Some, None}
use Rattle.resp_value.specs.Tree.{Tree}
use Rattle.resp_stream.specs.declared.fault.StreamFault.{StreamFault}
use Rattle.resp_stream.specs.Parsed.{Parsed, Whole, More, Bad}
use Rattle.resp_stream.specs.Readers.{skipped}
use Rattle.resp_stream.specs.Request.{request_at}
use Rattle.resp_stream.specs.Stream.{Stream, begun, fed, moved_on, offset_by, stream_fault}
use Rattle.resp_stream.specs.Value.{value_at}

pub record Batch (A : Type 0) : Type 0 where
  pub items : List A
  pub stream : Stream
  pub fault : Option StreamFault

-- by what s begins with
abbrev pub batch_by : {A : Type 0} → Stream → Parsed A → (List ℕ → Batch A) → Batch A
batch_by s (Whole x r) more =
    record { items = x ∷ (more r).items; stream = (more r).stream; fault = (more r).fault }
batch_by s More more = record { items = []; stream = s; fault = None }
batch_by s (Bad g r) more =
    record {
      items = [];
      stream = record s { failed = true };
      fault = Some (stream_fault g (offset_by s.before (length s.rest - length r)));
    }

-- at most n, where `past` passes over what is not answered
unfoldable pub batch_in : {A : Type 0} → (List ℕ → Parsed A) → (Stream → Stream) → ℕ → Stream
    → Batch A
batch_in read past zero s = record { items = []; stream = s; fault = None }
batch_in read past (suc n) s =
    batch_by (past s) (read (past s).rest) (λ r. batch_in read past n (moved_on s r))

-- all of them: there are no more than bytes
unfoldable pub batch : {A : Type 0} → (List ℕ → Parsed A) → (Stream → Stream) → Stream → Batch A
batch read past s = batch_in read past (length s.rest + 1) s

-- the requests of a stream
unfoldable pub parse : Stream → Batch (List (List ℕ))
parse s = batch request_at skipped s

-- the values of a stream
unfoldable pub parse_values : Stream → Batch Tree
parse_values s = batch value_at (λ t. t) s

-- the requests of a text
abbrev pub requests_of : List ℕ → List (List (List ℕ))
requests_of b = (parse (fed begun b)).items

-- the values of a text
abbrev pub values_of : List ℕ → List Tree
values_of b = (parse_values (fed begun b)).items
