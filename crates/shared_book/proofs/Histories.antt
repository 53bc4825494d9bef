-- What stays true of a server's history, whatever is added to it.
use Rattle.std.proofs.Common.{◌≡◌, ◌≤◌, ◌+◌, ℕ, List, [], ◌∷◌, ◌++◌, length, Bool, true, false}
use Rattle.std.proofs.Common.{cond, refl, ap, ◌∙◌, subst, arith, length-append, eq-eqb}
use Rattle.std.proofs.Common.{◌<◌, drop}
use Rattle.std.specs.Prelude.{◌&&◌, ◌||◌, not}
use Rattle.std.proofs.lemmas.Bool.Decides.{nat_tests}
use Rattle.turn_lock.specs.History.{IsPrefix}
use Rattle.serial_model.specs.declared.history.Limits.{Limits}
use Rattle.serial_model.specs.declared.history.Entry.{Entry}
use Rattle.serial_model.specs.declared.history.Entry.TheVariants.{Admit, Run, Tick, Take, Close}
use Rattle.serial_model.specs.declared.standing.Standing.{Standing}
use Rattle.serial_model.specs.State.{is_live, keeps_bytes, may_take}
use Rattle.serial_model.specs.History.{admitted, is_admitted, gives_on, has_ended, reads_on}
use Rattle.serial_model.specs.History.{is_stopped, runs_on, state, stream, taken, unsent}
use Rattle.serial_model.proofs.Standings as standings
use Rattle.serial_model.proofs.Streams.{stream_more}

-- what an entry leaves true, any entries do
pub begins_lift : (P : List Entry → Type 0)
    → ((e : Entry) (past : List Entry) → P past → P (e ∷ past)) → (a b : List Entry)
    → IsPrefix a b → P a → P b
begins_lift P one a b more p = subst P more.1 (by_more more.0)
  where
    by_more : (xs : List Entry) → P (xs ++ a)
    by_more [] = p
    by_more (x ∷ xs) = one x (xs ++ a) (by_more xs)

both : (a b : Bool) → (a && b) ≡ true → (a ≡ true) × (b ≡ true)
both a b h = grind (arith, nat_tests)

admitted_one : (e : Entry) (past : List Entry) → admitted past ≤ admitted (e ∷ past)
admitted_one e past = grind (arith, nat_tests)

pub admitted_more : (id : ℕ) (e : Entry) (past : List Entry) → is_admitted past id ≡ true
    → is_admitted (e ∷ past) id ≡ true
admitted_more id e past h = grind (arith, both, admitted_one, nat_tests)

-- the connection that an Admit names
pub admitted_now : (past : List Entry) → is_admitted (Admit (admitted past + 1) ∷ past)
    (admitted past + 1) ≡ true
admitted_now past = grind (arith, nat_tests)

or_true : (a b : Bool) → a ≡ true → (a || b) ≡ true
or_true a b h = ap (λ x. x || b) h

module _ (l : Limits) where
  -- a server that was stopped stays so
  pub stopped_more : (e : Entry) (past : List Entry) → is_stopped l past ≡ true
      → is_stopped l (e ∷ past) ≡ true
  unfolding state
  stopped_more (Admit id) past h = h
  stopped_more (Run id words moment) past h = or_true (is_stopped l past) _ h
  stopped_more (Tick moment) past h = or_true (is_stopped l past) false h
  stopped_more (Take id most) past h = h
  stopped_more (Close id) past h = h

module _ (l : Limits) (c : ℕ) where
  pub ended_more : (e : Entry) (past : List Entry) → has_ended l c past ≡ true
      → has_ended l c (e ∷ past) ≡ true
  ended_more e past h = standings.ended_more l past c e h

  pub ended_now : (past : List Entry) → has_ended l c (Close c ∷ past) ≡ true
  ended_now past =
      standings.ended_close l past c c
      ∙ ap (λ b. cond b true (has_ended l c past)) (eq-eqb c c refl)

  -- a connection that was admitted runs on, or has ended
  pub ended_or : (past : List Entry) → is_admitted past c ≡ true → runs_on l past c ≡ false
      → has_ended l c past ≡ true
  ended_or past on h = grind (arith, nat_tests)

  -- ---- what it may not do any more, whatever is added

  ended_off : (a e : Bool) → e ≡ true → (a && not e) ≡ false
  ended_off a e h = grind arith

  pub runs_off : (e : Entry) (past : List Entry) → is_admitted past c ≡ true
      → runs_on l past c ≡ false → runs_on l (e ∷ past) c ≡ false
  runs_off e past there off =
      ended_off (is_admitted (e ∷ past) c) (has_ended l c (e ∷ past))
      (ended_more e past (ended_or past there off))

  -- ---- what a connection may do, by how far it has ended

  live_takes : (a : Bool) (x : Standing) → (a && may_take x) ≡ false
      → (a && not (not (is_live x))) ≡ false
  live_takes a x h = grind arith

  -- no Run is accepted where no Take is
  pub no_runs_ungiven : (past : List Entry) → gives_on l past c ≡ false → runs_on l past c ≡ false
  no_runs_ungiven past h = live_takes (is_admitted past c) ((state l past).standing c) h

  keeps_some : (a k : Bool) (x : Standing) (xs : List ℕ) → (a && may_take x) ≡ true
      → k ≡ keeps_bytes x → 0 < length (cond k xs []) → (a && k) ≡ true
  keeps_some a k x xs on is some = grind arith

  -- what can be taken was kept
  pub kept_by : (past : List Entry) → gives_on l past c ≡ true → 0 < length (unsent l c past)
      → reads_on l past c ≡ true
  unfolding unsent
  kept_by past on some =
      keeps_some (is_admitted past c) _ ((state l past).standing c)
      (drop (taken l c past) (stream l c past)) on refl some

  kept_if : (a k : Bool) (xs : List ℕ) → (a && k) ≡ true → cond k xs [] ≡ xs
  kept_if a k xs on = grind arith

  -- what was not taken can be, where it was kept
  pub unsent_kept : (past : List Entry) → reads_on l past c ≡ true
      → unsent l c past ≡ drop (taken l c past) (stream l c past)
  unfolding unsent
  unsent_kept past on =
      kept_if (is_admitted past c) (keeps_bytes ((state l past).standing c))
      (drop (taken l c past) (stream l c past)) on

  taken_if : (b : Bool) (n more : ℕ) → n ≤ cond b (n + more) n
  taken_if b n more = grind (arith, nat_tests)

  taken_one : (e : Entry) (past : List Entry) → taken l c past ≤ taken l c (e ∷ past)
  taken_one e past = grind (arith, taken_if, nat_tests)

  stream_one : (e : Entry) (past : List Entry)
      → length (stream l c past) ≤ length (stream l c (e ∷ past))
  stream_one e past = grind (arith, stream_more, length-append, nat_tests)

  pub stream_begins : (a b : List Entry) → IsPrefix a b
      → length (stream l c a) ≤ length (stream l c b)
  stream_begins a b more =
      begins_lift (λ past. length (stream l c a) ≤ length (stream l c past))
      (λ e past h. omega (arith, h, stream_one e past)) a b more (omega arith)
