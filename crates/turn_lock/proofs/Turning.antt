-- A turn of a seat, as what it adds to the seat's own.
use Rattle.std.proofs.Common.{◌≡◌, ◌≤◌, ℕ, List, [], ◌∷◌, ◌++◌, length, Some, None}
use Rattle.std.proofs.Common.{refl, sym, ap, subst, ◌∙◌, arith}
use Rattle.std.specs.Prelude.{Option}
use Rattle.turn_lock.specs.History.{entries, IsPrefix, past_after, history_after}
use Rattle.atomic_table.specs.Seated.{TableId}
use Rattle.turn_lock.specs.Counts.{times}
use Rattle.turn_lock.specs.Seats.{Known, Turned, IsSound, first_seat}
use Rattle.turn_lock.proofs.Counting.{begins_after}
use Rattle.turn_lock.specs.Own.{IsWithin, turns_of, past_of, Grows}
use Rattle.turn_lock.specs.Turns.{Plays, turns_added}
use Rattle.turn_lock.proofs.Owning.{own_begins, own_turn, pasts_begins, pasts_length}
use Rattle.turn_lock.proofs.Owning.{within_owns, pasts_within}

module _ {E : Type 0} where
  -- what is seen begins with what was seen before
  entries_more : (more h : List (ℕ × E)) → IsPrefix (entries h) (entries (more ++ h))
  entries_more [] h = ([], refl)
  entries_more (e ∷ more) h =
      let r = entries_more more h in (e.1 ∷ r.0, ap (λ z. e.1 ∷ z) r.1)

  pub entries_begin : (a b : List (ℕ × E)) → IsPrefix a b → IsPrefix (entries a) (entries b)
  entries_begin a b more = subst (λ z. IsPrefix (entries a) (entries z)) more.1
      (entries_more more.0 a)

  entries_after : (n : ℕ) (h : List (ℕ × E)) (e : Option E)
      → entries (history_after n h e) ≡ past_after (entries h) e
  entries_after n h e = grind arith

  -- the entry that was added is known by the entries with it
  added_is : (past : List E) (a b : Option E) → past_after past a ≡ past_after past b → a ≡ b
  added_is past None None h = refl
  added_is past None (Some y) h = absurd (omega (arith, ap length h))
  added_is past (Some x) None h = absurd (omega (arith, ap length h))
  added_is past (Some x) (Some y) h = cc

append_more : {A : Type 0} (b c more : List A) → IsPrefix b (more ++ c)
    → (first : List A) → IsPrefix b (first ++ (more ++ c))
append_more b c more p [] = p
append_more b c more p (x ∷ first) =
    let r = append_more b c more p first in (x ∷ r.0, ap (λ z. x ∷ z) r.1)

pub begins_trans : {A : Type 0} (a b c : List A) → IsPrefix a b → IsPrefix b c → IsPrefix a c
begins_trans a b c p q =
    subst (λ z. IsPrefix a z) q.1
    (subst (λ z. IsPrefix a (q.0 ++ z)) p.1 (append_more a a p.0 (p.0, refl) q.0))

module _ {U E : Type 0} where
  -- a turn that no ticket was left for
  pub grows_worn : (before after : Known U E) (t : ℕ) → IsWithin before → before.tickets ≤ t
      → after ≡ record before { tickets = t } → Grows before after []
  unfolding turns_of IsWithin
  grows_worn before after t is le same = grind arith

  -- a seat that has taken no turn
  within_none : (k : Known U E) → k.own ≡ [] → IsWithin k
  unfolding IsWithin
  within_none k is p le = ap (times p) is

  pub within_first : (k : Known U E) (lock : TableId) (u : U) → k ≡ first_seat lock u → IsWithin k
  within_first k lock u is = within_none k (ap (λ (x : Known U E). x.own) is)

module _ {U E C R : Type 0} (step : U → List E → C → R → Option E → Type 0) where
  pub sound_within : (k : Known U E) → IsSound step k → IsWithin k
  unfolding IsWithin
  sound_within k is = within_owns k.numbers k.seen k.own is.1

  pub plays : (call : C) (reply : R) (before after : Known U E) → IsWithin before
      → IsWithin after → after.lock ≡ before.lock → after.setup ≡ before.setup
      → after.parts ≡ before.parts → before.tickets ≤ after.tickets
      → Turned step call reply before after → Plays step call reply before after
  unfolding turns_of IsWithin
  plays call reply before after is within lock setup parts tickets
      (u, h, e, known, more, did, seen, own) =
      record {
        setup = u;
        setup_is = known;
        past = entries h;
        added = e;
        begins = entries_begin before.seen h more;
        did = did;
        ends = ap entries seen ∙ entries_after before.number h e;
        grows = record {
          lock = lock;
          setup = setup;
          parts = parts;
          tickets = tickets;
          seen = begins_trans before.seen h after.seen more
              (subst (λ z. IsPrefix h z) (sym seen) (begins_after before.number h e));
          within = within;
          own = grind (arith, own_begins, pasts_begins, pasts_within, pasts_length, own_turn);
        };
      }

-- a turn by which the entries grew so
module _ {U E C R : Type 0} {step : U → List E → C → R → Option E → Type 0} {call : C} {reply : R}
    {before after : Known U E} (p : Plays step call reply before after) (e : Option E)
    (is : past_after p.past p.added ≡ past_after p.past e) where
  pub grows_by : Grows before after (turns_added p.past e)
  grows_by = grind (arith, added_is)

  pub ends_by : past_of after ≡ past_after p.past e
  ends_by = p.ends ∙ is
