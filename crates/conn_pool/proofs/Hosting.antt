-- A worker with its connections, as its parts move between them.
use Rattle.std.proofs.Common.{◌≡◌, ◌≤◌, ◌+◌, ℕ, Bool, true, false, refl, sym, ap, ◌∙◌}
use Rattle.std.proofs.Common.{arith, subst, inl, inr, []}
use Rattle.std.specs.Prelude.{Option}
use Rattle.atomic_table.specs.Seated.{TableId}
use Rattle.turn_lock.specs.History.{IsPrefix}
use Rattle.turn_lock.proofs.Turning.{begins_trans}
use Rattle.serial_model.specs.declared.history.Limits.{Limits}
use Rattle.conn_pool.specs.Crew.{Gives, Goes, Hosted, Hosts, IsOf, IsStopped, Leaves, Looks, Ready}
use Rattle.conn_pool.specs.Crew.{Same, Team, hosted}
use Rattle.conn_pool.specs.Guests.{IsVisit}
use Rattle.conn_pool.specs.declared.crew.TheConstants.{PARTS}
use Rattle.conn_pool.proofs.Leaving.{look_lock, look_parts, look_seen, look_setup, stays_stopped}

-- ---- steps

pub goes_same : (h : Hosted) → Goes h h
goes_same h = record {
  lock = refl;
  setup = refl;
  each = refl;
  parts = refl;
  link_parts = refl;
  gone_parts = refl;
  gone = omega arith;
  seen = ([], refl);
  left = λ l. inl l;
}

leaves_before : (a b c : Team) → a.gone ≤ b.gone → Leaves b c → Leaves a c
leaves_before a b c le (inl more) = inl (omega (arith, le, more))
leaves_before a b c le (inr stopped) = inr stopped

leaves_after : (a b c : Team) → c.seat.setup ≡ b.seat.setup → IsPrefix b.seat.seen c.seat.seen
    → b.gone ≤ c.gone → Leaves a b → Leaves a c
leaves_after a b c setup seen le (inl more) = inl (omega (arith, le, more))
leaves_after a b c setup seen le (inr stopped) =
    inr (stays_stopped b.seat c.seat setup seen stopped)

pub goes_then : (a b c : Hosted) → Goes a b → Goes b c → Goes a c
goes_then a b c x y =
    let p0 = x.parts in
    let p1 = y.parts in
    let l0 = x.link_parts in
    let l1 = y.link_parts in
    let g0 = x.gone_parts in
    let g1 = y.gone_parts in
    let n0 = x.gone in
    let n1 = y.gone in
    record {
      lock = y.lock ∙ x.lock;
      setup = y.setup ∙ x.setup;
      each = y.each ∙ x.each;
      parts = omega (arith, p0, p1);
      link_parts = omega (arith, l0, l1);
      gone_parts = omega (arith, g0, g1);
      gone = omega (arith, n0, n1);
      seen = begins_trans a.team.seat.seen b.team.seat.seen c.team.seat.seen x.seen y.seen;
      left = λ l.
          elim (y.left l) [
            | inl before ↦
                elim (x.left before) [
                  | inl first ↦ inl first
                  | inr leaves ↦
                      inr (leaves_after a.team b.team c.team y.setup y.seen y.gone leaves)
                ]
            | inr leaves ↦ inr (leaves_before a.team b.team c.team x.gone leaves)
          ];
    }

pub goes_hosts : (lock : TableId) (setup : Option Limits) (each : Bool) (a b : Hosted)
    → Hosts lock setup each a → Goes a b → Hosts lock setup each b
goes_hosts lock setup each a b h g =
    let p0 = h.parts in
    let p1 = g.parts in
    let l0 = h.link_parts in
    let l1 = g.link_parts in
    let g0 = h.gone_parts in
    let g1 = g.gone_parts in
    record {
      is_of = (g.lock ∙ h.is_of.0, g.setup ∙ h.is_of.1, g.each ∙ h.is_of.2);
      parts = omega (arith, p0, p1);
      link_parts = omega (arith, l0, l1);
      gone_parts = omega (arith, g0, g1);
    }

pub new_hosts : (lock : TableId) (setup : Option Limits) (each : Bool) (t : Team) (n : ℕ)
    → n ≡ 0 → IsOf lock setup each t → Ready lock PARTS t
    → Hosts lock setup each (hosted t n false)
new_hosts lock setup each t n none is r =
    let p = r.1 in
    let l = r.2 in
    let g = r.3 in
    record {
      is_of = is;
      parts = omega (arith, none, p);
      link_parts = omega (arith, none, l);
      gone_parts = omega (arith, none, g);
    }

-- what changes neither the parts nor the number of connections does so whatever that is
pub goes_with : (a b : Team) (l k : Bool) (n : ℕ) → Goes (hosted a 0 l) (hosted b 0 k)
    → Goes (hosted a n l) (hosted b n k)
goes_with a b l k n g =
    let p = g.parts in
    let q = g.link_parts in
    let r = g.gone_parts in
    record {
      lock = g.lock;
      setup = g.setup;
      each = g.each;
      parts = omega (arith, p);
      link_parts = omega (arith, q);
      gone_parts = omega (arith, r);
      gone = g.gone;
      seen = g.seen;
      left = g.left;
    }

-- where it has no connections, whatever stands for that number
pub goes_none : (t : Team) (n : ℕ) → n ≡ 0 → Goes (hosted t 0 false) (hosted t n false)
goes_none t n none = subst (λ m. Goes (hosted t 0 false) (hosted t m false)) (sym none)
    (goes_same (hosted t 0 false))

pub goes_count : (t : Team) (n m : ℕ) → n ≡ m → Goes (hosted t m false) (hosted t n false)
goes_count t n m is =
    subst (λ k. Goes (hosted t m false) (hosted t k false)) (sym is)
    (goes_same (hosted t m false))

-- it takes no more links, as before
pub goes_stay : (t : Team) (n : ℕ) (l : Bool) → l ≡ true → Goes (hosted t n l) (hosted t n true)
goes_stay t n l is = subst (λ k. Goes (hosted t n l) (hosted t n k)) is (goes_same (hosted t n l))

-- it may have taken no more links before
pub goes_any : (a b : Team) (n m : ℕ) (l k : Bool) → Goes (hosted a n false) (hosted b m k)
    → Goes (hosted a n l) (hosted b m k)
goes_any a b n m l k g =
    record {
      lock = g.lock;
      setup = g.setup;
      each = g.each;
      parts = g.parts;
      link_parts = g.link_parts;
      gone_parts = g.gone_parts;
      gone = g.gone;
      seen = g.seen;
      left = λ is.
          elim (g.left is) [
            | inl never ↦ absurd (let it : false ≡ true = never in cc)
            | inr leaves ↦ inr leaves
          ];
    }

pub goes_as : (h : Hosted) (b : Team) (m : ℕ) (k j : Bool) → k ≡ j → Goes h (hosted b m k)
    → Goes h (hosted b m j)
goes_as h b m k j is g = subst (λ x. Goes h (hosted b m x)) is g

-- once it takes no more links, that stays so
pub goes_left : (a b : Team) (n m : ℕ) (l : Bool) → Goes (hosted a n false) (hosted b m false)
    → Goes (hosted a n l) (hosted b m l)
goes_left a b n m l g =
    record {
      lock = g.lock;
      setup = g.setup;
      each = g.each;
      parts = g.parts;
      link_parts = g.link_parts;
      gone_parts = g.gone_parts;
      gone = g.gone;
      seen = g.seen;
      left = λ is. inl is;
    }

pub hosts_then : (lock : TableId) (setup : Option Limits) (each : Bool) (a b : Team) (n m : ℕ)
    (l k : Bool) → Hosts lock setup each (hosted a n l)
    → Goes (hosted a n false) (hosted b m k) → Hosts lock setup each (hosted b m k)
hosts_then lock setup each a b n m l k h g =
    goes_hosts lock setup each (hosted a n l) (hosted b m k) h (goes_any a b n m l k g)

pub work_hosts : (lock : TableId) (setup : Option Limits) (each : Bool) (t : Team) (h : Hosted)
    → IsOf lock setup each t → Ready lock PARTS t → Goes (hosted t 0 false) h
    → Hosts lock setup each h
work_hosts lock setup each t h is r g =
    goes_hosts lock setup each (hosted t 0 false) h (new_hosts lock setup each t 0 refl is r) g

-- ---- what a worker gives and gets

-- a link came, or none
pub gives_goes : (a b : Team) (n links leaves : ℕ) → Gives links leaves a b
    → Goes (hosted a n false) (hosted b (n + links) false)
gives_goes a b n links leaves g =
    let p = g.3 in
    let l = g.4 in
    let q = g.5 in
    let more = g.6 in
    record {
      lock = g.0;
      setup = g.1;
      each = g.2;
      parts = omega (arith, p);
      link_parts = omega (arith, l);
      gone_parts = omega (arith, q);
      gone = omega (arith, more);
      seen = ([], sym g.7);
      left = λ l. absurd (let no : false ≡ true = l in cc);
    }

-- no link came, and it left the dispatcher
pub over_goes : (a b : Team) (n : ℕ) → Gives 0 1 a b → Goes (hosted a n false) (hosted b n true)
over_goes a b n g =
    let p = g.3 in
    let l = g.4 in
    let q = g.5 in
    let more = g.6 in
    record {
      lock = g.0;
      setup = g.1;
      each = g.2;
      parts = omega (arith, p);
      link_parts = omega (arith, l);
      gone_parts = omega (arith, q);
      gone = omega (arith, more);
      seen = ([], sym g.7);
      left = λ is. inr (inl (omega (arith, more)));
    }

-- it looked whether a SHUTDOWN ran
pub look_goes : (a b : Team) (n : ℕ) (stops : Bool) → b ≡ record a { seat = b.seat }
    → Looks a.seat b.seat → (stops ≡ true → IsStopped b.seat)
    → Goes (hosted a n false) (hosted b n stops)
look_goes a b n stops is look stopped =
    let p = look_parts a.seat b.seat look in
    let l = ap (λ (t : Team). t.link_parts) is in
    let q = ap (λ (t : Team). t.gone_parts) is in
    let g = ap (λ (t : Team). t.gone) is in
    record {
      lock = look_lock a.seat b.seat look;
      setup = look_setup a.seat b.seat look;
      each = ap (λ (t : Team). t.each) is;
      parts = omega (arith, p);
      link_parts = omega (arith, l);
      gone_parts = omega (arith, q);
      gone = omega (arith, g);
      seen = look_seen a.seat b.seat look;
      left = λ l. inr (inr (stopped l));
    }

-- what it has of a connection that is gone was joined to it
pub joins_goes : (lock : TableId) (setup : Option Limits) (each : Bool) (a b visit : Team) (n : ℕ)
    → IsVisit lock setup each visit
    → (b.seat.lock ≡ a.seat.lock) × (b.seat.setup ≡ a.seat.setup)
    × (b.seat.parts ≡ a.seat.parts + visit.seat.parts)
    → (b.link_parts ≡ a.link_parts + visit.link_parts)
    × (b.gone_parts ≡ a.gone_parts + visit.gone_parts)
    → (b.links ≡ a.links + visit.links) × (b.gone ≡ a.gone + visit.gone)
    → IsPrefix a.seat.seen b.seat.seen → b.each ≡ a.each
    → Goes (hosted a (n + 1) false) (hosted b n false)
joins_goes lock setup each a b visit n v seat parts amounts seen same =
    let p0 = v.1 in
    let l0 = v.2 in
    let q0 = v.3 in
    let p = seat.2 in
    let l = parts.0 in
    let q = parts.1 in
    let g = amounts.1 in
    record {
      lock = seat.0;
      setup = seat.1;
      each = same;
      parts = omega (arith, p0, p);
      link_parts = omega (arith, l0, l);
      gone_parts = omega (arith, q0, q);
      gone = omega (arith, g);
      seen = seen;
      left = λ l. absurd (let no : false ≡ true = l in cc);
    }

-- a connection was taken out, and put back
pub back_goes : (a : Team) (n m k : ℕ) → m + 1 ≡ n → k ≡ m + 1
    → Goes (hosted a n false) (hosted a k false)
back_goes a n m k out into =
    let same : k ≡ n = omega (arith, out, into) in
    subst (λ x. Goes (hosted a n false) (hosted a x false)) (sym same)
    (goes_same (hosted a n false))

-- ---- the end

-- where no connection is left, it has the parts that it had, and has left
pub done_same : (a b : Team) (n : ℕ) → n ≡ 0 → Goes (hosted a 0 false) (hosted b n true)
    → Same a b × Leaves a b
done_same a b n none g =
    let p = g.parts in
    let l = g.link_parts in
    let q = g.gone_parts in
    let parts : b.seat.parts ≡ a.seat.parts = omega (arith, none, p) in
    let links : b.link_parts ≡ a.link_parts = omega (arith, none, l) in
    let gone : b.gone_parts ≡ a.gone_parts = omega (arith, none, q) in (
      (g.lock, g.setup, parts, links, gone, g.each),
      elim (g.left refl) [
        | inl never ↦ absurd (let it : false ≡ true = never in cc)
        | inr leaves ↦ leaves
      ],
    )
