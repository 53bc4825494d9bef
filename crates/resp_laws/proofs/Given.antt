-- A reader whose bytes begin with something whole answers it.
use Rattle.std.proofs.Common.{◌≡◌, ℕ, List, [], ◌++◌, Some, None, Ok, Err, refl, ap, ◌∙◌}
use Rattle.std.specs.Prelude.{Option, Result}
use Rattle.resp_value.specs.ValueTree.{tree_of}
use Rattle.resp_value.specs.declared.octets.Words.{Words}
use Rattle.resp_stream.specs.declared.fault.Fault.{Fault}
use Rattle.resp_stream.specs.declared.fault.StreamFault.{StreamFault}
use Rattle.resp_stream.specs.declared.fault.StreamFault.TheVariants.{BadByte, TooLong, TooDeep}
use Rattle.resp_stream.specs.declared.fault.StreamFault.TheVariants.{NotServed, NoMemory}
use Rattle.resp_stream.specs.Parsed.{Parsed, Whole, More, Bad}
use Rattle.resp_stream.specs.Readers.{IsFaultOf, ReaderGives, skipped}
use Rattle.resp_stream.specs.Request.{request_at}
use Rattle.resp_stream.specs.Stream.{Stream}
use Rattle.resp_stream.specs.Value.{value_at}
use Rattle.resp_laws.specs.Progress.{IsGiven, WholeRequests, WholeValues}
use Rattle.resp_laws.specs.Streams.{Steady}
use Rattle.resp_laws.proofs.Steadiness.{same_answer, steady_requests, steady_values}

not_more : {A : Type 0} (x : A) (r : List ℕ) (a : Parsed A) → a ≡ Whole x r → a ≡ More → ⊥
not_more x r a e h = cc

not_bad : {A : Type 0} (x : A) (r s : List ℕ) (g : Fault) (a : Parsed A) → a ≡ Whole x r
    → a ≡ Bad g s → ⊥
not_bad x r s g a e h = cc

module _ {A X : Type 0} (read : List ℕ → Parsed A) (view : X → A) (steady : Steady read)
    (b m : List ℕ) (x : A) (past old new : Stream) (whole : read b ≡ Whole x [])
    (rest : past.rest ≡ b ++ m) where
  here : read past.rest ≡ Whole x m
  here = ap read rest ∙ steady.whole b [] x whole m

  no_fault : (f : StreamFault) → IsFaultOf read past f → ⊥
  no_fault f i = not_bad x m i.left i.fault (read past.rest) here i.is

  pub given : (result : Result (Option X) StreamFault) → ReaderGives read view past old new result
      → IsGiven view x m new result
  given (Ok None) g = absurd (not_more x m (read past.rest) here g.0)
  given (Ok (Some v)) g = same_answer (view v) x new.rest m (read past.rest) g.0 here
  given (Err (BadByte o)) g = absurd (no_fault (BadByte o) g.0)
  given (Err (TooLong o n)) g = absurd (no_fault (TooLong o n) g.0)
  given (Err (TooDeep o)) g = absurd (no_fault (TooDeep o) g.0)
  given (Err (NotServed o c)) g = absurd (no_fault (NotServed o c) g.0)
  given (Err NoMemory) g = refl

pub whole_values : WholeValues
whole_values b m x old new result whole rest gives =
    given value_at tree_of steady_values b m x old old new whole rest result gives

pub whole_requests : WholeRequests
whole_requests b m x old new result whole rest gives =
    given request_at (λ (ws : Words). ws) steady_requests b m x (skipped old) old new whole rest
    result gives
