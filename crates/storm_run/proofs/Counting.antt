-- How many events a storm has.
use Rattle.std.proofs.Common.{◌≤◌, ◌+◌, ◌==◌, ℕ, zero, suc, Bool, cond, length, arith, true, false}
use Rattle.std.proofs.Common.{length-append}
use Rattle.std.specs.Prelude.{nat_lt}
use Rattle.script_text.specs.Storm.{Step, clock_behind, draw, opening, state_behind, step_at}
use Rattle.script_text.specs.Storm.{steps_from, storm}

by_choice : {A : Type 0} (P : A → Type 0) (test : Bool) (a b : A) → P a → P b → P (cond test a b)
by_choice P test a b h k = elim test as (λ t. P (cond t a b)) [ true ↦ h | false ↦ k ]

abbrev IsShort : Step → Type 0
IsShort step = length step.events ≤ 2

step_short : (state clock : ℕ) → IsShort (step_at state clock)
unfolding step_at
step_short state clock =
    let kind = draw state 1 16 in
    let one : 1 ≤ 2 = omega arith in
    let two : 2 ≤ 2 = omega arith in
    by_choice IsShort (nat_lt kind 6) _ _ one (
    by_choice IsShort (kind == 6) _ _ one (
    by_choice IsShort (nat_lt kind 9) _ _ one (
    by_choice IsShort (kind == 9) _ _ one (
    by_choice IsShort (kind == 10) _ _ one (
    by_choice IsShort (kind == 11) _ _ one (
    by_choice IsShort (kind == 12) _ _ two (
    by_choice IsShort (kind == 13) _ _ one (
    by_choice IsShort (kind == 14) _ _ one two))))))))

steps_short : (steps state clock : ℕ) → length (steps_from steps state clock) ≤ steps + steps
unfolding steps_from
steps_short zero state clock = omega arith
steps_short (suc steps) state clock =
    let step = step_at state clock in
    let rest = steps_from steps (state_behind step.draws state) (clock_behind step.events clock) in
    let short = step_short state clock in
    let others = steps_short steps (state_behind step.draws state)
    (clock_behind step.events clock) in
    omega (arith, length-append step.events rest, short, others)

pub few_events : (number steps : ℕ) → length (storm number steps) ≤ 7 + (steps + steps)
few_events number steps =
    let short = steps_short steps number 0 in
    omega (arith, length-append opening (steps_from steps number 0), short)
