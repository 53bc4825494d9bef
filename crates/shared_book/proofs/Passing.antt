-- A Take that is passed unplayed, behind a call that added no entry.
use Rattle.std.proofs.Common.{◌≡◌, ◌<◌, ℕ, zero, suc, List, [], ◌∷◌, length, take, true}
use Rattle.std.proofs.Common.{false, refl, ap, ◌∙◌, arith}
use Rattle.std.proofs.lemmas.Bool.Decides.{nat_tests}
use Rattle.serial_model.specs.declared.history.BookCall.TheVariants.{Take}
use Rattle.serial_model.specs.declared.history.BookReply.TheVariants.{Quiet, Refused}
use Rattle.serial_model.specs.declared.history.BookRefusal.TheVariants.{Gone, NoMemory}
use Rattle.serial_model.specs.History.{gives_on, unsent}
use Rattle.serial_model.specs.Steps.{book_step, taking}
use Rattle.shared_book.specs.Turns.{Shared}
use Rattle.shared_book.specs.Batches.{PassesTake}

take_some : (n : ℕ) (xs : List ℕ) → 0 < n → 0 < length xs
    → (b : ℕ) × (bytes : List ℕ) × (take n xs ≡ b ∷ bytes)
take_some zero xs lt some = absurd (omega arith)
take_some (suc n) [] lt some = absurd (omega arith)
take_some (suc n) (x ∷ xs) lt some = (x, take n xs, refl)

take_nothing : (n : ℕ) (xs : List ℕ) → length xs ≡ 0 → take n xs ≡ []
take_nothing n xs none = grind (arith, nat_tests)

module _ (s : Shared) (id : ℕ) where
  pub pass_gone : gives_on s.limits s.past id ≡ false → PassesTake s id (Refused (Gone id))
  unfolding book_step
  pass_gone off = grind (arith, nat_tests)

  gives_step : (most : ℕ) → gives_on s.limits s.past id ≡ true
      → book_step s.limits s.past (Take id most)
      ≡ taking s.past id most (take most (unsent s.limits id s.past))
  unfolding book_step
  gives_step most on = grind (arith, nat_tests)

  pub pass_quiet : (n : ℕ) → gives_on s.limits s.past id ≡ true
      → n ≡ length (unsent s.limits id s.past) → n ≡ 0 → PassesTake s id Quiet
  pass_quiet n on is none = grind (arith, gives_step, take_nothing, nat_tests)

  -- there is something to take
  some_step : (most : ℕ) → 0 < most → gives_on s.limits s.past id ≡ true
      → 0 < length (unsent s.limits id s.past)
      → (b : ℕ) × (bytes : List ℕ) × (book_step s.limits s.past (Take id most)
      ≡ taking s.past id most (b ∷ bytes))
  some_step most pos on some =
      let (b, bytes, is) = take_some most (unsent s.limits id s.past) pos some in
      (b, bytes, gives_step most on ∙ ap (taking s.past id most) is)

  pub pass_memory : (n : ℕ) → gives_on s.limits s.past id ≡ true
      → n ≡ length (unsent s.limits id s.past) → (n ≡ 0 → ⊥) → PassesTake s id (Refused NoMemory)
  pass_memory n on waits some = (
    refl,
    λ most pos.
        let (b, bytes, takes) = some_step most pos on (omega (arith, waits, some)) in grind arith,
  )

pub ruleset passing = (pass_gone, pass_quiet, pass_memory)
