-- A fault of a stream that has no place is none.
use Rattle.std.proofs.Common.{◌≡◌, ◌+◌, ℕ, zero, suc, List, None, length, refl, arith}
use Rattle.resp_stream.specs.Parsed.{Parsed}
use Rattle.resp_stream.specs.Parse.{Batch, batch, batch_by, batch_in, parse, parse_values}
use Rattle.resp_stream.specs.Readers.{skipped}
use Rattle.resp_stream.specs.Request.{request_at}
use Rattle.resp_stream.specs.Stream.{Stream, moved_on}
use Rattle.resp_stream.specs.Value.{value_at}
use Rattle.server_links.specs.Moves.{stopped_at}

by_front : {A : Type 0} (s : Stream) (a : Parsed A) (f : List ℕ → Batch A)
    → ((r : List ℕ) → stopped_at (f r).fault ≡ None → (f r).fault ≡ None)
    → stopped_at (batch_by s a f).fault ≡ None → (batch_by s a f).fault ≡ None
by_front s a f more e = grind arith

module _ {A : Type 0} (read : List ℕ → Parsed A) (past : Stream → Stream) where
  place_met : (n : ℕ) (s : Stream) → stopped_at (batch_in read past n s).fault ≡ None
      → (batch_in read past n s).fault ≡ None
  unfolding batch_in
  place_met zero s e = refl
  place_met (suc n) s e =
      by_front (past s) (read (past s).rest) (λ r. batch_in read past n (moved_on s r))
      (λ r. place_met n (moved_on s r)) e

pub parse_met : (s : Stream) → stopped_at (parse s).fault ≡ None → (parse s).fault ≡ None
unfolding parse batch
parse_met s e = place_met request_at skipped (length s.rest + 1) s e

pub values_met : (s : Stream) → stopped_at (parse_values s).fault ≡ None
    → (parse_values s).fault ≡ None
unfolding parse_values batch
values_met s e = place_met value_at (λ t. t) (length s.rest + 1) s e
