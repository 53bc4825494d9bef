-- The values of a stream, by what it begins with.
use Rattle.std.proofs.Common.{◌≡◌, ◌-◌, ℕ, List, [], ◌∷◌, true, length}
use Rattle.std.proofs.Common.{Option, Some, None, Ok, subst}
use Rattle.resp_value.specs.declared.value.Value.{Value}
use Rattle.resp_value.specs.Tree.{Tree}
use Rattle.resp_stream.specs.Parse.{parse_values}
use Rattle.resp_stream.specs.Parsed.{Whole, More, Bad}
use Rattle.resp_stream.specs.Readers.{ValueGives}
use Rattle.resp_stream.specs.Stream.{Stream, moved_on, offset_by, stream_fault}
use Rattle.resp_stream.specs.Value.{value_at}
use Rattle.resp_stream.specs.declared.fault.Fault.{Fault}
use Rattle.resp_stream.proofs.Batches.{batch_whole, batch_more, batch_bad}
use Rattle.resp_stream.proofs.Parse.{takes_values}

pub values_whole : (s : Stream) (t : Tree) (r : List ℕ) → value_at s.rest ≡ Whole t r
    → parse_values s ≡ record {
      items = t ∷ (parse_values (moved_on s r)).items;
      stream =
          (parse_values (moved_on s r)).stream;
      fault = (parse_values (moved_on s r)).fault;
    }
unfolding parse_values
values_whole s t r e = batch_whole value_at (λ q. q) takes_values s t r e

pub values_more : (s : Stream) → value_at s.rest ≡ More
    → parse_values s ≡ record { items = []; stream = s; fault = None }
unfolding parse_values
values_more s e = batch_more value_at (λ q. q) takes_values s e

pub values_bad : (s : Stream) (g : Fault) (r : List ℕ) → value_at s.rest ≡ Bad g r
    → parse_values s ≡ record {
      items = [];
      stream = record s { failed = true };
      fault =
          Some (stream_fault g (offset_by s.before (length s.rest - length r)));
    }
unfolding parse_values
values_bad s g r e = batch_bad value_at (λ q. q) takes_values s g r e

-- what a reader gives, where its answer is known
pub value_gives_at : (old new : Stream) (r s : Option Value) → ValueGives old new (Ok r) → r ≡ s
    → ValueGives old new (Ok s)
value_gives_at old new r s g e = subst (λ x. ValueGives old new (Ok x)) e g
