-- What is read of a stream piece by piece is what is read of it at once.
use Rattle.std.proofs.Common.{◌≡◌, ℕ, List, [], ◌++◌, false, None, refl, ap, append_assoc, arith}
use Rattle.resp_value.specs.Tree.{Tree}
use Rattle.resp_stream.specs.Parse.{Batch, parse, parse_values, requests_of, values_of}
use Rattle.resp_stream.specs.Readers.{skipped}
use Rattle.resp_stream.specs.Request.{request_at, request_begun, skip_empty, skip_empty_in}
use Rattle.resp_stream.specs.Stream.{Stream, begun, fed}
use Rattle.resp_stream.specs.Value.{value_at, value_in}
use Rattle.resp_stream.proofs.Batches.{batch_unfailed}
use Rattle.resp_stream.proofs.FaultPieces.{fault_joined, passes_requests, passes_values}
use Rattle.resp_stream.proofs.Parse.{parse_joined, parse_more, parse_unfailed, takes_requests}
use Rattle.resp_stream.proofs.Parse.{takes_values, values_joined}
use Rattle.resp_stream.proofs.Values.{values_more}

-- ---- of no bytes

pub none_parsed : parse (fed begun [])
    ≡ record { items = []; stream = skipped (fed begun []); fault = None }
unfolding skip_empty skip_empty_in request_at request_begun
none_parsed = parse_more (fed begun []) refl

pub no_requests : requests_of [] ≡ []
no_requests = ap (λ (p : Batch (List (List ℕ))). p.items) none_parsed

pub none_valued : parse_values (fed begun []) ≡ record { items = []; stream = begun; fault = None }
unfolding value_at value_in
none_valued = values_more (fed begun []) refl

pub no_values : values_of [] ≡ []
no_values = ap (λ (p : Batch Tree). p.items) none_valued

-- ---- of two pieces

fed_twice : (s : Stream) (a b : List ℕ) → s.failed ≡ false
    → (fed s (a ++ b)).rest ≡ (fed (fed s a) b).rest
fed_twice s a b t = grind (arith, append_assoc)

-- `all` reads the same in two pieces, where the first has no fault
pub record Joins {A : Type 0} (all : Stream → Batch A) : Type 0 where
  pub unfailed : (s : Stream) → s.failed ≡ false → (all s).fault ≡ None
      → (all s).stream.failed ≡ false
  pub joined : (s : Stream) (b : List ℕ) → s.failed ≡ false → (all s).fault ≡ None
      → (all (fed s b)).items ≡ (all s).items ++ (all (fed (all s).stream b)).items
  pub faults : (s : Stream) (b : List ℕ) → s.failed ≡ false → (all s).fault ≡ None
      → (all (fed s b)).fault ≡ (all (fed (all s).stream b)).fault

pub requests_join : Joins parse
unfolding parse
requests_join = record {
  unfailed = parse_unfailed;
  joined = parse_joined;
  faults = fault_joined request_at skipped takes_requests passes_requests;
}

pub values_join : Joins parse_values
unfolding parse_values
values_join = record {
  unfailed = λ s t e. batch_unfailed value_at (λ q. q) takes_values s t e;
  joined = values_joined;
  faults = fault_joined value_at (λ q. q) takes_values passes_values;
}

-- what will be read is read on from the reader
pub record GoesOn {A : Type 0} (all : Stream → Batch A) (heard : List ℕ) (reader : Stream) : Type 0
  where
    pub unfailed : reader.failed ≡ false
    pub further : (m : List ℕ) → (all (fed begun (heard ++ m))).items
        ≡ (all (fed begun heard)).items ++ (all (fed reader m)).items
    pub none : (all (fed begun heard)).fault ≡ None
    pub faults : (m : List ℕ) → (all (fed begun (heard ++ m))).fault ≡ (all (fed reader m)).fault

pub requests_begun : GoesOn parse [] begun
requests_begun = grind (arith, no_requests, none_parsed)

pub values_begun : GoesOn parse_values [] begun
values_begun = grind (arith, no_values, none_valued)

-- where the piece brought no fault, it is read on from there
pub goes_further : {A : Type 0} (all : Stream → Batch A) (heard piece : List ℕ) (reader : Stream)
    → Joins all → GoesOn all heard reader → (all (fed reader piece)).fault ≡ None
    → GoesOn all (heard ++ piece) (all (fed reader piece)).stream
goes_further all heard piece reader j r none = grind (arith, append_assoc, fed_twice)
