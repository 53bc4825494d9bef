-- A worker looks whether a SHUTDOWN ran, and leaves.
use Rattle.std.proofs.Common.{◌≡◌, ℕ, ◌≤◌, List, sym, refl, ap, subst, arith, true, inl, inr}
use Rattle.turn_lock.specs.Counts.{total}
use Rattle.turn_lock.specs.History.{IsPrefix}
use Rattle.serial_model.specs.History.{is_stopped}
use Rattle.turn_lock.specs.Own.{past_of, turns_of, IsWithin, Grows}
use Rattle.turn_lock.proofs.Owning.{total-append}
use Rattle.turn_lock.proofs.Turning.{entries_begin}
use Rattle.shared_book.specs.Turns.{Place, Turn, limits_in, limits_of}
use Rattle.shared_book.proofs.Histories.{begins_lift, stopped_more}
use Rattle.conn_worker.specs.declared.report.Report.{Report}
use Rattle.conn_pool.specs.Crew.{IsStopped, Leaves, Looks, Team}
use Rattle.conn_pool.specs.Shown.{AreShown}
use Rattle.conn_pool.specs.Ties.{admits, runs, admitted_in, ran_in, Tied}
use Rattle.conn_pool.proofs.Showing.{shown_grown}

-- ---- a server that was stopped stays so

pub stays_stopped : (a b : Place) → b.setup ≡ a.setup → IsPrefix a.seen b.seen → IsStopped a
    → IsStopped b
stays_stopped a b setup seen h =
    subst (λ l. is_stopped l (past_of b) ≡ true) (sym (ap limits_in setup))
    (begins_lift (λ past. is_stopped (limits_of a) past ≡ true) (stopped_more (limits_of a))
    (past_of a) (past_of b) (entries_begin a.seen b.seen seen) h)

-- workers that were joined have left where one of them has
pub leaves_joined : (crew one all : Team) → all.seat.setup ≡ one.seat.setup
    → IsPrefix one.seat.seen all.seat.seen → one.gone ≤ all.gone → Leaves crew one
    → Leaves crew all
leaves_joined crew one all setup seen le (inl left) = inl (omega (arith, left, le))
leaves_joined crew one all setup seen le (inr h) =
    inr (stays_stopped one.seat all.seat setup seen h)

-- ---- a look

-- it adds a Tick or nothing, of which reports tell nothing
look_grows : (old new : Place) → Looks old new → (ts : List Turn) × Grows old new ts
    × ((n : ℕ) → (admitted_in n ts ≡ 0) × (ran_in n ts ≡ 0))
look_grows old new (inl (now, inl e)) = (_, e.grows, λ n. (refl, refl))
look_grows old new (inl (now, inr q)) = (_, q.grows, λ n. (refl, refl))
look_grows old new (inr (e, r)) = (_, r.grows, λ n. (refl, refl))

module _ (old new : Place) (look : Looks old new) where
  pub look_lock : new.lock ≡ old.lock
  look_lock = (look_grows old new look).1.lock

  pub look_setup : new.setup ≡ old.setup
  look_setup = (look_grows old new look).1.setup

  pub look_parts : new.parts ≡ old.parts
  look_parts = (look_grows old new look).1.parts

  pub look_seen : IsPrefix old.seen new.seen
  look_seen = (look_grows old new look).1.seen

  pub look_within : IsWithin new
  look_within = (look_grows old new look).1.within

  pub tied_look : (rs : List Report) → Tied rs (turns_of old) → Tied rs (turns_of new)
  unfolding Tied
  tied_look rs t n pos =
      let (ts, g, none) = look_grows old new look in
      let f : Turn → ℕ = λ t. admits n t.0 in
      let h : Turn → ℕ = λ t. runs n t.0 in
      let a0 = ap (total f) g.own in
      let a1 = total-append f ts (turns_of old) in
      let b0 = ap (total h) g.own in
      let b1 = total-append h ts (turns_of old) in
      let a2 = (none n).0 in
      let b2 = (none n).1 in
      let a3 = (t n pos).0 in
      let b3 = (t n pos).1 in (
        omega (arith, a0, a1, a2, a3),
        omega (arith, b0, b1, b2, b3),
      )

  pub shown_look : (rs : List Report) → AreShown rs old → AreShown rs new
  shown_look rs s =
      let (ts, g, none) = look_grows old new look in
      shown_grown rs old new g.setup g.seen g.tickets s

pub ruleset looking = (look_lock, look_setup, look_parts, look_within, tied_look, shown_look)
