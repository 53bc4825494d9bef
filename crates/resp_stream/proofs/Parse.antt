-- The requests and the values of a stream, one at a time and in pieces.
use Rattle.std.proofs.Common.{◌≡◌, ℕ, zero, suc, ◌-◌, ◌<◌, ◌≤◌, List, [], ◌∷◌, ◌++◌, refl, ◌∙◌}
use Rattle.std.proofs.Common.{true, false, length, arith, Some, None}
use Rattle.resp_value.specs.Tree.{Tree}
use Rattle.resp_stream.specs.declared.fault.Fault.{Fault}
use Rattle.resp_stream.specs.Parsed.{Parsed, Whole, More, Bad}
use Rattle.resp_stream.specs.Parse.{parse, parse_values}
use Rattle.resp_stream.specs.Readers.{skipped}
use Rattle.resp_stream.specs.Request.{whole_limit, request_begun, request_at, skip_by}
use Rattle.resp_stream.specs.Request.{skip_empty_in, skip_empty}
use Rattle.resp_stream.specs.Stream.{Stream, fed, moved_on, offset_by, stream_fault}
use Rattle.resp_stream.specs.Value.{value_in, value_at}
use Rattle.resp_stream.proofs.Batches.{Takes, fed_rest, batch_whole, batch_more, batch_bad}
use Rattle.resp_stream.proofs.Batches.{batch_unfailed, batch_joined}
use Rattle.resp_stream.proofs.Capped.{capped_whole, still_whole}
use Rattle.resp_stream.proofs.Places.{reads_on}
use Rattle.resp_stream.proofs.RequestLaws.{reader_request}
use Rattle.resp_stream.proofs.Skipping.{takes, skip_on, skip_bad, skip_whole}
use Rattle.resp_stream.proofs.ValueLaws.{reader_value, no_value}

-- ---- a request takes a byte, and so do those that were passed over

after_le : (b : List ℕ) (f : List ℕ → List ℕ) (a : Parsed (List (List ℕ)))
    → ((r : List ℕ) → a ≡ Whole [] r → length (f r) ≤ length b) → length (skip_by b a f) ≤ length b
after_le b f a h = grind arith

skip_in_le : (n : ℕ) (b : List ℕ) → length (skip_empty_in n b) ≤ length b
unfolding skip_empty_in
skip_in_le zero b = omega arith
skip_in_le (suc n) b =
    after_le b (λ r. skip_empty_in n r) (request_at b)
    (λ r e. omega (arith, skip_in_le n r, takes b r [] e))

pub skip_le : (b : List ℕ) → length (skip_empty b) ≤ length b
unfolding skip_empty
skip_le b = skip_in_le (length b) b

pub shorter : (b r : List ℕ) (words : List (List ℕ)) → request_at (skip_empty b) ≡ Whole words r
    → length r < length b
shorter b r words e = omega (arith, takes (skip_empty b) r words e, skip_le b)

-- ---- with more bytes

request_kept : (b r m : List ℕ) (words : List (List ℕ)) → request_at b ≡ Whole words r
    → request_at (b ++ m) ≡ Whole words (r ++ m)
unfolding request_at
request_kept b r m words e = still_whole whole_limit request_begun reader_request b r m words e

joined_by : (b m : List ℕ) (f : List ℕ → List ℕ) (a : Parsed (List (List ℕ)))
    → ((r : List ℕ) → a ≡ Whole [] r → skip_empty (b ++ m) ≡ skip_empty (f r ++ m))
    → skip_empty (b ++ m) ≡ skip_empty (skip_by b a f ++ m)
joined_by b m f a h = grind arith

joined_in : (n : ℕ) (b m : List ℕ) → skip_empty (b ++ m) ≡ skip_empty (skip_empty_in n b ++ m)
unfolding skip_empty_in
joined_in zero b m = refl
joined_in (suc n) b m =
    joined_by b m (λ r. skip_empty_in n r) (request_at b)
    (λ r e. skip_on (b ++ m) (r ++ m) (request_kept b r m [] e) ∙ joined_in n r m)

skip_joined : (b m : List ℕ) → skip_empty (b ++ m) ≡ skip_empty (skip_empty b ++ m)
unfolding skip_empty
skip_joined b m = joined_in (length b) b m

-- after empty requests a request has words

some_by : (b r : List ℕ) (words : List (List ℕ)) (f : List ℕ → List ℕ) (a : Parsed (List (List ℕ)))
    → request_at b ≡ a
    → ((q : List ℕ) → a ≡ Whole [] q → request_at (f q) ≡ Whole words r → 0 < length words) →
    request_at (skip_by b a f) ≡ Whole words r → 0 < length words
some_by b r words f a k h e = grind arith

some_in : (n : ℕ) (b r : List ℕ) (words : List (List ℕ)) → length b ≤ n
    → request_at (skip_empty_in n b) ≡ Whole words r → 0 < length words
unfolding skip_empty_in
some_in zero b r words le e = absurd (omega (arith, takes b r words e))
some_in (suc n) b r words le e =
    some_by b r words (λ q. skip_empty_in n q) (request_at b) refl
    (λ q h k. some_in n q r words (omega (arith, takes b q [] h)) k) e

pub some_words : (b r : List ℕ) (words : List (List ℕ)) → request_at (skip_empty b) ≡ Whole words r
    → 0 < length words
unfolding skip_empty
some_words b r words e = some_in (length b) b r words (omega arith) e

pub takes_requests : Takes request_at skipped
takes_requests =
    grind (arith, shorter, fed_rest, skip_joined, skip_bad, request_kept, skip_whole, some_words)

pub parse_whole : (s : Stream) (words : List (List ℕ)) (r : List ℕ)
    → request_at (skip_empty s.rest) ≡ Whole words r
    → parse s ≡ record {
      items = words ∷ (parse (moved_on s r)).items;
      stream =
          (parse (moved_on s r)).stream;
      fault = (parse (moved_on s r)).fault;
    }
unfolding parse
parse_whole s words r e = batch_whole request_at skipped takes_requests s words r e

pub parse_more : (s : Stream) → request_at (skip_empty s.rest) ≡ More
    → parse s ≡ record { items = []; stream = skipped s; fault = None }
unfolding parse
parse_more s e = batch_more request_at skipped takes_requests s e

pub parse_bad : (s : Stream) (g : Fault) (r : List ℕ) → request_at (skip_empty s.rest) ≡ Bad g r
    → parse s ≡ record {
      items = [];
      stream = record (skipped s) { failed = true };
      fault =
          Some (stream_fault g (offset_by (skipped s).before (length (skipped s).rest - length r)));
    }
unfolding parse
parse_bad s g r e = batch_bad request_at skipped takes_requests s g r e

pub parse_unfailed : (s : Stream) → s.failed ≡ false → (parse s).fault ≡ None
    → (parse s).stream.failed ≡ false
unfolding parse
parse_unfailed s t e = batch_unfailed request_at skipped takes_requests s t e

pub parse_joined : (s : Stream) (b : List ℕ) → s.failed ≡ false → (parse s).fault ≡ None
    → (parse (fed s b)).items ≡ (parse s).items ++ (parse (fed (parse s).stream b)).items
unfolding parse
parse_joined s b t e = batch_joined request_at skipped takes_requests s b t e

-- ---- values

value_shorter : (b r : List ℕ) (t : Tree) → value_at b ≡ Whole t r → length r < length b
unfolding value_at
value_shorter b r t e =
    let g =
    reads_on (value_in 8) (reader_value 8) (no_value 8) b r 0 t (omega arith)
    (capped_whole whole_limit b (value_in 8 b) t r e).0 in
    omega (arith, g.on, g.within)

value_kept : (b r m : List ℕ) (t : Tree) → value_at b ≡ Whole t r
    → value_at (b ++ m) ≡ Whole t (r ++ m)
unfolding value_at
value_kept b r m t e = still_whole whole_limit (value_in 8) (reader_value 8) b r m t e

pub takes_values : Takes value_at (λ s. s)
takes_values = grind (arith, value_shorter, fed_rest, value_kept)

pub values_joined : (s : Stream) (b : List ℕ) → s.failed ≡ false → (parse_values s).fault ≡ None
    → (parse_values (fed s b)).items
    ≡ (parse_values s).items ++ (parse_values (fed (parse_values s).stream b)).items
unfolding parse_values
values_joined s b t e = batch_joined value_at (λ q. q) takes_values s b t e
