-- What is queued is taken out and written, TakeOut after TakeOut.
use Rattle.std.proofs.Common.{◌≡◌, ℕ, List, [], ◌∷◌, ◌++◌, take, true, refl, sym, ap}
use Rattle.std.proofs.Common.{subst, ◌∙◌, append-nil, append_assoc, inl, inr, Some, None, arith}
use Rattle.std.specs.Prelude.{Option}
use Rattle.std.specs.List.{All}
use Rattle.std.specs.Io.KnownBytes.{Appends}
use Rattle.std.proofs.lemmas.List.Elements.{All-cons}
use Rattle.resp_value.specs.Lists.{IsPrefix}
use Rattle.resp_value.specs.declared.octets.Octets.{Octets}
use Rattle.edge_links.proofs.Bytes.{appends_none, appends_more, appends_as}
use Rattle.turn_lock.specs.Own.{past_of, IsWithin, Grows}
use Rattle.turn_lock.proofs.Growing.{grows_none, grows_then}
use Rattle.shared_cache.specs.declared.log.Wire.{Wire}
use Rattle.shared_cache.specs.declared.log.LogEntry.TheVariants.{TakeOut}
use Rattle.shared_cache.specs.declared.log.ClientCall.TheVariants as call
use Rattle.shared_cache.specs.declared.log.ClientRefusal.{ClientRefusal}
use Rattle.shared_cache.specs.declared.log.ClientRefusal.TheVariants as refusal
use Rattle.shared_cache.specs.Log.{is_ended}
use Rattle.shared_cache.specs.Out.{untaken}
use Rattle.shared_cache.specs.Steps.{is_log_full}
use Rattle.shared_client.specs.Turns.{Place, Turn, setup_in, setup_at, most, TakesOut, Refuses}
use Rattle.client_link.specs.declared.pump_end.PumpEnd.TheVariants as ended
use Rattle.client_link.specs.Pumps.{IsWork, IsStop, end_by, gots_in, gave, Delivers, DeliversPart}
use Rattle.client_link.proofs.Steps.{quiet_none, bytes_given, all_taken, take_down, take_full}

-- what was taken out and written so far
pub record Delivering (w : Wire) (link0 link1 : Option (List ℕ)) (old new : Place) : Type 0 where
  pub turns : List Turn
  pub grows : Grows old new turns
  pub work : All (IsWork w) turns
  pub got_none : gots_in turns ≡ []
  pub wrote : Appends link0 link1 (gave (setup_at old) turns)

pub delivering_none : (w : Wire) (link : Option (List ℕ)) (k : Place) → IsWithin k
    → Delivering w link link k k
delivering_none w link k is = grind (arith, grows_none, appends_none)

module _ (w : Wire) (link0 link1 : Option (List ℕ)) (old new : Place)
    (d : Delivering w link0 link1 old new) where
  setup_same : setup_at new ≡ setup_at old
  setup_same = ap setup_in d.grows.setup

  module _ (bytes : List ℕ) (last : Place) (g : TakesOut w (Some bytes) new last) where
    turn : Turn
    turn = (TakeOut w most, g.past)

    took : List Turn
    took = turn ∷ d.turns

    took_work : All (IsWork w) took
    unfolding took turn
    took_work = All-cons (IsWork w) turn d.turns refl d.work

    took_grows : Grows old last took
    unfolding took turn
    took_grows = grows_then old new last d.turns (turn ∷ []) d.grows g.grows

    gave_is : gave (setup_at old) took ≡ gave (setup_at old) d.turns ++ bytes
    unfolding took turn
    gave_is = ap (λ z. gave (setup_at old) d.turns ++ z)
        (ap (λ s. take most (untaken s w g.past)) (sym setup_same)
        ∙ sym (bytes_given (setup_at new) g.past w most bytes _ g.step))

    -- the bytes were written, and more may be queued
    pub delivering_more : (link2 : Option (List ℕ)) → Appends link1 link2 bytes
        → Delivering w link0 link2 old last
    unfolding took turn
    delivering_more link2 wrote = record {
      turns = took;
      grows = took_grows;
      work = took_work;
      got_none = append-nil (gots_in d.turns) ∙ d.got_none;
      wrote = appends_as link0 link2 _ _ (sym gave_is)
          (appends_more link0 link1 link2 (gave (setup_at old) d.turns) bytes d.wrote wrote);
    }

    -- a front of them was written, and the link failed
    pub delivers_failed : (link2 : Option (List ℕ)) (front : List ℕ) → Appends link1 link2 front
        → IsPrefix front bytes → DeliversPart w ended.LinkFault link0 link2 old last
    unfolding took turn
    delivers_failed link2 front wrote part = record {
      turns = took;
      grows = took_grows;
      work = took_work;
      got_none = append-nil (gots_in d.turns) ∙ d.got_none;
      bytes = gave (setup_at old) d.turns ++ front;
      wrote = appends_more link0 link1 link2 (gave (setup_at old) d.turns) front d.wrote wrote;
      front = (
        part.0,
        append_assoc (gave (setup_at old) d.turns) front part.0
            ∙ ap (λ z. gave (setup_at old) d.turns ++ z) part.1 ∙ sym gave_is,
      );
      cause_is = inl refl;
    }

  -- nothing is queued
  pub delivers_rests : (last : Place) → TakesOut w None new last → Delivers w link0 link1 old last
  delivers_rests last r =
      let there = all_taken (setup_at new) (past_of last) w
      (quiet_none (setup_at new) (past_of last) w most (past_of last) r.step) in
      record {
        turns = d.turns;
        grows = grows_then old new last d.turns [] d.grows r.grows;
        work = d.work;
        got_none = d.got_none;
        wrote = d.wrote;
        all_taken = grind (arith, setup_same);
      }

  stop_is : (r : ClientRefusal) (last : Place) → Refuses (call.TakeOut w most) r new last
      → IsStop w (end_by r) last
  stop_is (refusal.Down u) last h =
      subst (λ s. is_ended s.mode w (past_of last) ≡ true)
      (sym (ap setup_in h.1.grows.setup))
      (take_down (setup_at new) (past_of last) w most u (past_of last) h.1.step)
  stop_is (refusal.LogFull n) last h =
      subst (λ s. is_log_full s (past_of last) ≡ true)
      (sym (ap setup_in h.1.grows.setup))
      (take_full (setup_at new) (past_of last) w most n (past_of last) h.1.step)
  stop_is refusal.NoMemory last h = tt
  stop_is refusal.Worn last h = h.1.tickets
  stop_is r last h = absurd h.0

  left_grows : (r : ClientRefusal) (last : Place) → Refuses (call.TakeOut w most) r new last
      → Grows new last []
  left_grows r last h = grind arith

  pub delivers_refused : (r : ClientRefusal) (last : Place)
      → Refuses (call.TakeOut w most) r new last
      → DeliversPart w (end_by r) link0 link1 old last
  delivers_refused r last h = record {
    turns = d.turns;
    grows = grows_then old new last d.turns [] d.grows (left_grows r last h);
    work = d.work;
    got_none = d.got_none;
    bytes = gave (setup_at old) d.turns;
    wrote = d.wrote;
    front = ([], append-nil (gave (setup_at old) d.turns));
    cause_is = inr (stop_is r last h);
  }

pub takes_at : (w : Wire) (r s : Option Octets) (old new : Place) → TakesOut w r old new
    → r ≡ s → TakesOut w s old new
takes_at w r s old new t e = subst (λ x. TakesOut w x old new) e t
