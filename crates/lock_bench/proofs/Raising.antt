-- What turns that raise a register add up to.
use Rattle.std.proofs.Common.{◌≡◌, ℕ, ◌+◌, ◌-◌, ◌*◌, ◌<◌, ◌≤◌, ◌%◌, ◌^◌, List, [], ◌∷◌, length}
use Rattle.std.proofs.Common.{sym, ap, subst, ◌∙◌, arith, length-append}
use Rattle.std.proofs.Math.Nat.{add-mul}
use Rattle.std.specs.Prelude.{Option, Some, min}
use Rattle.std.proofs.lemmas.Option.{same_Some}
use Rattle.lock_bench.specs.Register.{value_of, RegisterStep, RaisedBy}
use Rattle.lock_bench.specs.declared.register.Ask.{Ask}
use Rattle.lock_bench.specs.declared.register.Ask.TheVariants.{Raise, Read}
use Rattle.lock_bench.specs.declared.register.Raised.{Raised}
use Rattle.lock_bench.specs.declared.register.Register.{Register}
use Rattle.turn_lock.specs.History.{entries, Legal}
use Rattle.turn_lock.specs.Seats.{Known, split_seat, joined_seat}
use Rattle.turn_lock.specs.declared.rule.TheConstants.{LAST_TICKET}

-- what one thread and the others raised
pub both_raised : (threads turns number : ℕ) (seat one others mine theirs after : Known ℕ Raised)
    → 2 ≤ threads → threads ≤ seat.parts → one ≡ record seat { parts = seat.parts - (threads - 1) }
    → others ≡ split_seat seat number (threads - 1) → RaisedBy turns one mine
    → RaisedBy ((threads - 1) * turns) others theirs → after ≡ joined_seat mine theirs
    → RaisedBy (threads * turns) seat after
both_raised threads turns number seat one others mine theirs after two enough is is' r r' joined =
    let a = subst (λ z. RaisedBy turns z mine) is r in
    let b = subst (λ z. RaisedBy ((threads - 1) * turns) z theirs) is' r' in
    let whole : 1 + (threads - 1) ≡ threads = omega arith in
    let sum : 1 * turns + (threads - 1) * turns ≡ threads * turns
    = sym (add-mul 1 (threads - 1) turns) ∙ ap (λ n. n * turns) whole in
    subst (λ z. RaisedBy (threads * turns) seat z) (sym joined) record {
      lock = a.lock;
      setup = a.setup;
      parts = let p = a.parts in let q = b.parts in omega arith;
      not_less = let p = a.not_less in grind arith;
      raised = let l = length-append mine.own theirs.own in
          let x = a.raised in let y = b.raised in omega arith;
      most = let x = a.most in let y = b.most in omega arith;
      all = λ small. let x = a.all (grind arith) in let y = b.all (grind arith) in omega arith;
    }

-- the tickets that all threads drew
pub drawn_by_all : (asked tickets : ℕ) (before after : Known ℕ Raised) → RaisedBy asked before after
    → before.turns ≡ 0 → tickets ≡ after.turns → after.tickets ≤ tickets → tickets ≤ LAST_TICKET
    → tickets ≡ min asked LAST_TICKET
drawn_by_all asked tickets before after r none is le last =
    let m = r.most in let a = r.all in grind arith

replied : (start : ℕ) (past : List Raised) (ask : Ask) (reply : ℕ) (e : Raised)
    → RegisterStep start past ask reply (Some e) → e.replied ≡ value_of start past
replied start past (Raise number) reply e (is, same) =
    ap (λ (z : Raised). z.replied) (same_Some e (record { replied = reply }) same) ∙ is
replied start past Read reply e (is, same) = absurd cc

-- a legal history of a register has raised it as often as it has entries
raised : (start : ℕ) (h : List (ℕ × Raised)) → start < 2 ^ 64 → Legal RegisterStep start h
    → value_of start (entries h) ≡ (start + length h) % 2 ^ 64
raised start [] low l = omega arith
raised start (e ∷ h) low (rest, (ask, reply, step)) =
    let r = replied start (entries h) ask reply e.1 step in
    let is = raised start h low rest in omega arith

-- the value of a register that began at 0 is the number of the entries of its legal history
pub raised_by_all : (state : Register) (setup : Option ℕ) (seen : List (ℕ × Raised)) (n : ℕ)
    → setup ≡ Some 0 → setup ≡ Some state.start
    → (u : ℕ) × (setup ≡ Some u) × Legal RegisterStep u seen
    → state.value ≡ value_of state.start (entries seen) → length seen ≡ n → n ≤ LAST_TICKET
    → state.value ≡ n
raised_by_all state setup seen n from_0 start (u, is, legal) stands long le =
    let legal0 : Legal RegisterStep 0 seen
    = subst (λ k. Legal RegisterStep k seen) (same_Some u 0 (sym is ∙ from_0)) legal in
    let value : state.value ≡ value_of 0 (entries seen)
    = stands ∙ ap (λ k. value_of k (entries seen))
    (same_Some state.start 0 (sym start ∙ from_0)) in
    let all = raised 0 seen (omega arith) legal0 in omega arith
