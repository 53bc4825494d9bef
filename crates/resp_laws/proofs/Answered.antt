-- What a reader answers stands in what it was fed.
use Rattle.std.proofs.Common.{◌≡◌, ℕ, List, [], ◌∷◌, ◌++◌, refl, sym, ap, subst, ◌∙◌, append_assoc}
use Rattle.std.proofs.Common.{true, false, cond, Some, None, Ok, Err, arith}
use Rattle.resp_value.specs.Lists.{IsPrefix}
use Rattle.resp_value.specs.ValueTree.{tree_of}
use Rattle.resp_value.specs.declared.octets.Words.{Words}
use Rattle.resp_stream.specs.declared.fault.Fault.{Fault}
use Rattle.resp_stream.specs.declared.fault.StreamFault.{StreamFault}
use Rattle.resp_stream.specs.declared.fault.StreamFault.TheVariants.{BadByte, TooLong, TooDeep}
use Rattle.resp_stream.specs.declared.fault.StreamFault.TheVariants.{NotServed, NoMemory}
use Rattle.resp_stream.specs.Parsed.{Parsed, Bad}
use Rattle.resp_stream.specs.Parse.{Batch, batch, parse, parse_values}
use Rattle.resp_stream.specs.Readers.{IsFaultOf, ReaderGives, skipped}
use Rattle.resp_stream.specs.Request.{request_at}
use Rattle.resp_stream.specs.Stream.{Stream, begun, fed, moved_on}
use Rattle.resp_stream.specs.Value.{value_at}
use Rattle.resp_stream.proofs.Batches.{Takes, fed_rest, batch_whole, batch_rest, batch_past}
use Rattle.resp_stream.proofs.Parse.{takes_requests, takes_values}
use Rattle.resp_laws.specs.Pieces.{ReaderCall, Fed, Answered, AreCalls, bytes_fed, items_answered}
use Rattle.resp_laws.specs.Pieces.{OnlyRequests, OnlyValues}

module _ {A X : Type 0} (read : List ℕ → Parsed A) (past : Stream → Stream) (view : X → A)
    (takes : Takes read past) where
  abbrev Calls : Stream → List (ReaderCall X) → Type 0
  Calls s calls =
      AreCalls (λ old new result. ReaderGives read view (past old) old new result) s calls

  -- ---- after a fault

  fed_failed : (s : Stream) (b : List ℕ) → s.failed ≡ true → (fed s b).rest ≡ s.rest
  fed_failed s b t = ap (λ c. cond c s.rest (s.rest ++ b)) t

  failed_on : (s t : Stream) (g : Fault) (r : List ℕ) → read (past s).rest ≡ Bad g r
      → t ≡ record (past s) { failed = true } → read (past t).rest ≡ Bad g r
  failed_on s t g r h e = ap read (takes.stays s t g r h (ap (λ (q : Stream). q.rest) e)) ∙ h

  none_after : (s : Stream) (g : Fault) (r : List ℕ) (calls : List (ReaderCall X)) → s.failed ≡ true
      → read (past s).rest ≡ Bad g r → Calls s calls → items_answered view calls ≡ []
  none_after s g r [] t h c = refl
  none_after s g r (Fed piece ∷ calls) t h c =
      none_after (fed s piece) g r calls t
      (ap read (takes.by_rest (fed s piece) s (fed_failed s piece t)) ∙ h) c
  none_after s g r (Answered (Ok None) ∷ calls) t h c = grind arith
  none_after s g r (Answered (Ok (Some x)) ∷ calls) t h c = grind arith
  none_after s g r (Answered (Err NoMemory) ∷ calls) t h c =
      none_after s g r calls t h (subst (λ (q : Stream). Calls q calls) c.1 c.2)
  none_after s g r (e ∷ calls) t h c =
      none_after c.0 g r calls (ap (λ (q : Stream). q.failed) c.1.1) (failed_on s c.0 g r h c.1.1)
      c.2

  at_fault : (s t : Stream) (f : StreamFault) (calls : List (ReaderCall X)) (all : List A)
      → IsFaultOf read (past s) f → t ≡ record (past s) { failed = true } → Calls t calls
      → IsPrefix (items_answered view calls) all
  at_fault s t f calls all i e c =
      let none : items_answered view calls ≡ [] =
      none_after t i.fault i.left calls (ap (λ (q : Stream). q.failed) e)
      (failed_on s t i.fault i.left i.is e) c in
      (all, ap (λ (q : List A). q ++ all) none)

  -- ---- before one

  abbrev Front : Stream → List (ReaderCall X) → Type 0
  Front s calls =
      IsPrefix (items_answered view calls) (batch read past (fed s (bytes_fed calls))).items

  moves : (s t : Stream) (calls : List (ReaderCall X))
      → (batch read past (fed t (bytes_fed calls))).items
      ≡ (batch read past (fed s (bytes_fed calls))).items → Front t calls → Front s calls
  moves s t calls e f = (f.0, f.1 ∙ e)

  fronts : (s : Stream) (calls : List (ReaderCall X)) → s.failed ≡ false → Calls s calls
      → Front s calls
  fronts s [] t c = ((batch read past (fed s [])).items, refl)
  fronts s (Fed piece ∷ calls) t c =
      let f = fronts (fed s piece) calls t c in grind (arith, batch_rest, fed_rest, append_assoc)
  fronts s (Answered (Ok None) ∷ calls) t c =
      moves s (past s) calls
      (grind (arith, batch_past))
      (fronts (past s) calls (takes.failed s ∙ t) (subst (λ (q : Stream). Calls q calls) c.1.1 c.2))
  fronts s (Answered (Ok (Some x)) ∷ calls) t c =
      let r = c.0.rest in
      let b = bytes_fed calls in
      let f = fronts (moved_on s r) calls t (subst (λ (q : Stream). Calls q calls) c.1.1 c.2) in (
        f.0,
        ap (λ (q : List A). view x ∷ q)
            (f.1 ∙ batch_rest read past takes (fed (moved_on s r) b) (moved_on (fed s b) (r ++ b))
            (fed_rest (moved_on s r) b t))
            ∙ sym (ap (λ (p : Batch A). p.items)
            (batch_whole read past takes (fed s b) (view x) (r ++ b)
            (takes.kept s b (view x) r t c.1.0))),
      )
  fronts s (Answered (Err NoMemory) ∷ calls) t c =
      fronts s calls t (subst (λ (q : Stream). Calls q calls) c.1 c.2)
  fronts s (Answered (Err (BadByte o)) ∷ calls) t c =
      at_fault s c.0 (BadByte o) calls _ c.1.0 c.1.1 c.2
  fronts s (Answered (Err (TooLong o n)) ∷ calls) t c =
      at_fault s c.0 (TooLong o n) calls _ c.1.0 c.1.1 c.2
  fronts s (Answered (Err (TooDeep o)) ∷ calls) t c =
      at_fault s c.0 (TooDeep o) calls _ c.1.0 c.1.1 c.2
  fronts s (Answered (Err (NotServed o b)) ∷ calls) t c =
      at_fault s c.0 (NotServed o b) calls _ c.1.0 c.1.1 c.2

pub only_requests : OnlyRequests
unfolding parse
only_requests calls c =
    fronts request_at skipped (λ (ws : Words). ws) takes_requests begun calls refl c

pub only_values : OnlyValues
unfolding parse_values
only_values calls c = fronts value_at (λ s. s) tree_of takes_values begun calls refl c
