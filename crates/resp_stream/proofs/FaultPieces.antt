-- The fault that is met in pieces is the one of the bytes as a whole, for any reader that takes
-- bytes.
use Rattle.std.proofs.Common.{◌≡◌, ℕ, zero, suc, ◌+◌, ◌-◌, ◌<◌, ◌≤◌, List, ◌++◌, refl, sym, ap, ◌∙◌}
use Rattle.std.proofs.Common.{false, length, length-append, arith, Some, None}
use Rattle.std.specs.Prelude.{Option}
use Rattle.resp_stream.specs.declared.fault.StreamFault.{StreamFault}
use Rattle.resp_stream.specs.Parsed.{Parsed, Whole, More, Bad}
use Rattle.resp_stream.specs.Parse.{Batch, batch}
use Rattle.resp_stream.specs.Readers.{skipped}
use Rattle.resp_stream.specs.Stream.{Stream, fed, moved_on, offset_by, stream_fault}
use Rattle.resp_stream.proofs.Batches.{Takes, fed_rest, batch_whole, batch_more, batch_bad}
use Rattle.resp_stream.proofs.Parse.{skip_le, takes_requests}

-- ---- offsets

-- the same bytes are before it, counted in two parts or at once
place_in_two : (n a l c r : ℕ) → l ≤ a → r ≤ l + c
    → offset_by n (a + c - r) ≡ offset_by (offset_by n (a - l)) (l + c - r)
place_in_two n a l c r la rl = omega arith

-- What was passed over before more came need not be looked at again, and moves no byte.
pub record Passes (past : Stream → Stream) : Type 0 where
  pub joined : (s : Stream) (b : List ℕ) → s.failed ≡ false → past (fed s b) ≡ past (fed (past s) b)
  pub moved : (s : Stream) (b r : List ℕ) → s.failed ≡ false
      → length r < length (fed (past s) b).rest
      → moved_on (fed s b) r ≡ moved_on (fed (past s) b) r

skipped_joined : (s : Stream) (b : List ℕ) → s.failed ≡ false
    → skipped (fed s b) ≡ skipped (fed (skipped s) b)
skipped_joined s b t =
    let q = (skipped (fed s b)).rest in
    let p = (skipped (fed (skipped s) b)).rest in
    let same : q ≡ p = takes_requests.joined s b t in
    grind (arith, fed_rest, length-append, skip_le, place_in_two)

pub passes_requests : Passes skipped
passes_requests = record {
  joined = skipped_joined;
  moved = grind (arith, fed_rest, length-append, place_in_two, skip_le);
}

pub passes_values : Passes (λ s. s)
passes_values = record { joined = λ s b t. refl; moved = λ s b r t lt. refl }

-- ---- faults

none_is : (f : StreamFault) (o : Option StreamFault) → o ≡ Some f → o ≡ None → ⊥
none_is f o k z = cc

module _ {A : Type 0} (read : List ℕ → Parsed A) (past : Stream → Stream) (takes : Takes read past)
    (passes : Passes past) where
  -- what was passed over is nothing to the fault behind it
  fault_past_by : (s t : Stream) → past s ≡ past t
      → ((r : List ℕ) → length r < length s.rest → length r < length t.rest
      → moved_on s r ≡ moved_on t r)
      → (a : Parsed A) → read (past s).rest ≡ a
      → (batch read past s).fault ≡ (batch read past t).fault
  fault_past_by s t same moved (Whole x r) e =
      let k = ap (λ (q : Stream). read q.rest) (sym same) ∙ e in
      ap (λ (p : Batch A). p.fault) (batch_whole read past takes s x r e)
      ∙ ap (λ (q : Stream). (batch read past q).fault)
      (moved r (takes.some s x r e) (takes.some t x r k))
      ∙ ap (λ (p : Batch A). p.fault) (sym (batch_whole read past takes t x r k))
  fault_past_by s t same moved More e = grind (arith, batch_more)
  fault_past_by s t same moved (Bad g r) e =
      let k = ap (λ (q : Stream). read q.rest) (sym same) ∙ e in
      ap (λ (p : Batch A). p.fault) (batch_bad read past takes s g r e)
      ∙ ap (λ (q : Stream). Some (stream_fault g (offset_by q.before (length q.rest - length r))))
      same
      ∙ ap (λ (p : Batch A). p.fault) (sym (batch_bad read past takes t g r k))

  joined_by : (s : Stream) (b : List ℕ) → s.failed ≡ false → (batch read past s).fault ≡ None
      → ((x : A) (r : List ℕ) → read (past s).rest ≡ Whole x r
      → (batch read past (moved_on s r)).fault ≡ None
      → (batch read past (fed (moved_on s r) b)).fault
      ≡ (batch read past (fed (batch read past (moved_on s r)).stream b)).fault)
      → (a : Parsed A) → read (past s).rest ≡ a
      → (batch read past (fed s b)).fault
      ≡ (batch read past (fed (batch read past s).stream b)).fault
  joined_by s b t none ih (Whole x r) e =
      let p = batch_whole read past takes s x r e in
      let le = takes.some s x r e in
      ap (λ (q : Batch A). q.fault)
      (batch_whole read past takes (fed s b) x (r ++ b) (takes.kept s b x r t e))
      ∙ ap (λ (q : Stream). (batch read past q).fault) (grind (arith, fed_rest, length-append))
      ∙ ih x r e (ap (λ (q : Batch A). q.fault) (sym p) ∙ none)
      ∙ ap (λ (q : Batch A). (batch read past (fed q.stream b)).fault) (sym p)
  joined_by s b t none ih More e = grind (arith, fault_past_by, batch_more)
  joined_by s b t none ih (Bad g r) e =
      absurd (none_is _ (batch read past s).fault
      (ap (λ (q : Batch A). q.fault) (batch_bad read past takes s g r e)) none)

  joined_in : (n : ℕ) (s : Stream) (b : List ℕ) → length s.rest < n → s.failed ≡ false
      → (batch read past s).fault ≡ None
      → (batch read past (fed s b)).fault
      ≡ (batch read past (fed (batch read past s).stream b)).fault
  joined_in zero s b lt t none = absurd (omega arith)
  joined_in (suc n) s b lt t none =
      joined_by s b t none
      (λ x r e. joined_in n (moved_on s r) b (omega (arith, lt, takes.some s x r e)) t)
      (read (past s).rest) refl

  pub fault_joined : (s : Stream) (b : List ℕ) → s.failed ≡ false
      → (batch read past s).fault ≡ None
      → (batch read past (fed s b)).fault
      ≡ (batch read past (fed (batch read past s).stream b)).fault
  fault_joined s b t none = joined_in (length s.rest + 1) s b (omega arith) t none
