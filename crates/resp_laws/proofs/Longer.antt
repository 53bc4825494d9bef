-- What a text holds is the first of what a longer one holds.
use Rattle.std.proofs.Common.{◌≡◌, ℕ, zero, suc, ◌+◌, ◌<◌, List, ◌∷◌, ◌++◌, refl, sym, ap, ◌∙◌}
use Rattle.std.proofs.Common.{false, length, arith}
use Rattle.resp_value.specs.Lists.{IsPrefix}
use Rattle.resp_stream.specs.Parsed.{Parsed, Whole, More, Bad}
use Rattle.resp_stream.specs.Parse.{Batch, batch, parse, parse_values}
use Rattle.resp_stream.specs.Readers.{skipped}
use Rattle.resp_stream.specs.Request.{request_at}
use Rattle.resp_stream.specs.Stream.{Stream, begun, fed, moved_on}
use Rattle.resp_stream.specs.Value.{value_at}
use Rattle.resp_stream.proofs.Batches.{Takes, fed_rest, batch_whole, batch_more, batch_bad}
use Rattle.resp_stream.proofs.Batches.{batch_rest}
use Rattle.resp_stream.proofs.Parse.{takes_requests, takes_values}
use Rattle.resp_laws.specs.Pieces.{RequestsGrow, ValuesGrow}

module _ {A : Type 0} (read : List ℕ → Parsed A) (past : Stream → Stream) (takes : Takes read past)
  where
    abbrev Grows : Stream → List ℕ → Type 0
    Grows s m = IsPrefix (batch read past s).items (batch read past (fed s m)).items

    grows_by : (s : Stream) (m : List ℕ) → s.failed ≡ false
        → ((x : A) (r : List ℕ) → read (past s).rest ≡ Whole x r → Grows (moved_on s r) m)
        → (a : Parsed A) → read (past s).rest ≡ a → Grows s m
    grows_by s m t ih (Whole x r) e =
        let f = ih x r e in (
          f.0,
          ap (λ (q : Batch A). q.items ++ f.0) (batch_whole read past takes s x r e)
              ∙ ap (λ (q : List A). x ∷ q)
              (f.1 ∙ batch_rest read past takes (fed (moved_on s r) m)
              (moved_on (fed s m) (r ++ m)) (fed_rest (moved_on s r) m t))
              ∙ sym (ap (λ (q : Batch A). q.items)
              (batch_whole read past takes (fed s m) x (r ++ m) (takes.kept s m x r t e))),
        )
    grows_by s m t ih More e =
        let all = (batch read past (fed s m)).items in
        (all, ap (λ (q : Batch A). q.items ++ all) (batch_more read past takes s e))
    grows_by s m t ih (Bad g r) e =
        let all = (batch read past (fed s m)).items in
        (all, ap (λ (q : Batch A). q.items ++ all) (batch_bad read past takes s g r e))

    grows_in : (n : ℕ) (s : Stream) (m : List ℕ) → length s.rest < n → s.failed ≡ false
        → Grows s m
    grows_in zero s m lt t = absurd (omega arith)
    grows_in (suc n) s m lt t =
        grows_by s m t
        (λ x r e. grows_in n (moved_on s r) m (omega (arith, takes.some s x r e)) t)
        (read (past s).rest) refl

    grows : (s : Stream) (m : List ℕ) → s.failed ≡ false → Grows s m
    grows s m t = grows_in (length s.rest + 1) s m (omega arith) t

pub requests_grow : RequestsGrow
unfolding parse
requests_grow b m = grows request_at skipped takes_requests (fed begun b) m refl

pub values_grow : ValuesGrow
unfolding parse_values
values_grow b m = grows value_at (λ s. s) takes_values (fed begun b) m refl
