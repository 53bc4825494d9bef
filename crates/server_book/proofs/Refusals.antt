-- The answers to calls that add no entry, in their order.
use Rattle.std.proofs.Common.{◌≡◌, ◌<◌, ℕ, List, [], true, false, cond, Some}
use Rattle.std.proofs.Common.{length, take, ap, refl, arith, max, ◌⊎◌, inl, inr, subst, sym}
use Rattle.serial_model.specs.declared.history.BookCall.{BookCall}
use Rattle.serial_model.specs.declared.history.BookCall.TheVariants.{Admit, Run, Tick, Take}
use Rattle.serial_model.specs.declared.history.BookCall.TheVariants.{Close}
use Rattle.serial_model.specs.declared.history.BookReply.TheVariants.{Quiet, Refused}
use Rattle.serial_model.specs.declared.history.BookRefusal.TheVariants.{Gone, Stopped}
use Rattle.serial_model.specs.History.{runs_on, gives_on, reads_on, unsent, is_stopped, latest}
use Rattle.serial_model.specs.Steps.{admitting, taking, closing, gone, book_step, stopped, tick_at}
use Rattle.serial_model.specs.Steps.{AddsEntry, MayRunOut, IsCallable}
use Rattle.server_book.specs.BookState.{BookState, IsAccepted, IsRefusal}

pub take_some : (most : ℕ) (bytes : List ℕ) → 0 < most → 0 < length bytes
    → 0 < length (take most bytes)
take_some most bytes m h = grind arith

pub takes_some : (most : ℕ) (bytes : List ℕ) → 0 < most → 0 < length bytes → take most bytes ≡ []
    → ⊥
takes_some most bytes m h e = grind arith

take_none : (most : ℕ) (bytes : List ℕ) → length bytes ≡ 0 → take most bytes ≡ []
take_none most bytes h = grind arith

module _ (b : BookState) where
  take_step : (id most : ℕ) → gives_on b.limits b.past id ≡ true
      → book_step b.limits b.past (Take id most)
      ≡ taking b.past id most (take most (unsent b.limits id b.past))
  unfolding book_step
  take_step id most on = grind arith

  pub take_quiet : (id most : ℕ) → gives_on b.limits b.past id ≡ true
      → length (unsent b.limits id b.past) ≡ 0
      → IsRefusal b (Take id most) (Some Quiet)
  take_quiet id most on none = grind (arith, take_step, take_none)

  pub run_gone : (id now : ℕ) (words : List (List ℕ)) → runs_on b.limits b.past id ≡ false
      → IsRefusal b (Run id words now) (Some (Refused (Gone id)))
  unfolding book_step
  run_gone id now words off = grind arith

  pub take_gone : (id most : ℕ) → gives_on b.limits b.past id ≡ false
      → IsRefusal b (Take id most) (Some (Refused (Gone id)))
  unfolding book_step
  take_gone id most off = grind arith

  pub close_gone : (id : ℕ) → reads_on b.limits b.past id ≡ false
      → IsRefusal b (Close id) (Some (Refused (Gone id)))
  unfolding book_step
  close_gone id off = (ap (λ v. cond v (closing b.past id) (gone b.past id)) off, refl, refl, refl)

  admit_stopped : is_stopped b.limits b.past ≡ true
      → IsRefusal b Admit (Some (Refused Stopped))
  unfolding book_step
  admit_stopped on = (ap (λ v. cond v (stopped b.past) (admitting b.past)) on, refl, refl, refl)

  tick_stopped : (now : ℕ) → is_stopped b.limits b.past ≡ true
      → IsRefusal b (Tick now) (Some (Refused Stopped))
  unfolding book_step
  tick_stopped now on = (
    ap (λ v. cond v (stopped b.past) (tick_at b.limits b.past (max now (latest b.past)))) on,
    refl,
    refl,
    refl,
  )

  -- once a SHUTDOWN ran
  pub stopped_refusal : (call : BookCall) → (call ≡ Admit) ⊎ ((now : ℕ) × (call ≡ Tick now))
      → is_stopped b.limits b.past ≡ true → IsRefusal b call (Some (Refused Stopped))
  stopped_refusal call (inl is) on =
      subst (λ x. IsRefusal b x (Some (Refused Stopped))) (sym is) (admit_stopped on)
  stopped_refusal call (inr is) on =
      subst (λ x. IsRefusal b x (Some (Refused Stopped))) (sym is.1) (tick_stopped is.0 on)

  adds_taken : (id most : ℕ) (bytes : List ℕ) → 0 < length bytes
      → AddsEntry (taking b.past id most bytes).reply
  adds_taken id most bytes h = grind arith

  -- at a call that is accepted memory may run out
  pub accepted_adds : (call : BookCall) → IsCallable call → IsAccepted b.limits b.past call
      → MayRunOut call (book_step b.limits b.past call).reply
  unfolding book_step
  accepted_adds call m h = grind (arith, adds_taken, take_some)
