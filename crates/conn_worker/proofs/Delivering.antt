-- What waits for a connection is taken and written, Take after Take.
use Rattle.std.proofs.Common.{◌≡◌, ◌≤◌, ◌<◌, ◌+◌, ℕ, List, [], ◌∷◌, ◌++◌, length, take, drop}
use Rattle.std.proofs.Common.{append_assoc, true, cond, refl, sym, ap, subst, ◌∙◌, arith}
use Rattle.std.proofs.Common.{append-nil, inr, eq-eqb}
use Rattle.std.specs.Prelude.{Option, Some, None, ◌==◌}
use Rattle.std.specs.List.{All}
use Rattle.std.specs.Io.KnownBytes.{Appends}
use Rattle.std.proofs.lemmas.List.Elements.{All-cons, All-append}
use Rattle.std.proofs.lemmas.List.{length-drop, length-take}
use Rattle.resp_value.specs.Lists.{IsPrefix}
use Rattle.serial_model.specs.declared.history.Limits.{Limits}
use Rattle.serial_model.specs.declared.history.Entry.{Entry}
use Rattle.serial_model.specs.declared.history.Entry.TheVariants.{Take}
use Rattle.serial_model.specs.History.{gives_on, is_admitted, reads_on, stream, taken, unsent}
use Rattle.serial_model.proofs.Streams.{stream_take}
use Rattle.turn_lock.specs.Own.{past_of, IsWithin, Grows}
use Rattle.resp_value.specs.declared.octets.Octets.{Octets}
use Rattle.shared_book.specs.Turns.{Place, Turn, Gives, Rests, Refuses, Takes, limits_in, limits_of}
use Rattle.shared_book.specs.Turns.{IsCause, most}
use Rattle.shared_book.specs.declared.turns.Refusal.{Refusal}
use Rattle.turn_lock.proofs.Growing.{grows_none, grows_then, grows_past, order_append}
use Rattle.shared_book.proofs.Histories.{begins_lift, admitted_more, stream_begins, unsent_kept}
use Rattle.conn_worker.specs.declared.report.Ended.TheVariants as ended
use Rattle.conn_worker.specs.declared.report.Ended.{Ended}
use Rattle.conn_worker.specs.Visits.{IsWork, ended_by, runs_in, gave, Delivers, DeliversPart}
use Rattle.conn_worker.specs.Visits.{Begins}
use Rattle.edge_links.proofs.Bytes.{appends_none, appends_more, appends_as}

-- what was taken and written so far
pub record Delivering (id : ℕ) (link0 link1 : Option (List ℕ)) (old new : Place) : Type 0 where
  pub turns : List Turn
  pub grows : Grows old new turns
  pub work : (clock : Option ℕ) → All (IsWork id clock) turns
  pub runs_none : runs_in turns ≡ []
  pub wrote : Appends link0 link1 (gave (limits_of old) turns)
  pub admitted : is_admitted (past_of new) id ≡ true

pub delivering_none : (id : ℕ) (link : Option (List ℕ)) (k : Place) → IsWithin k
    → is_admitted (past_of k) id ≡ true → Delivering id link link k k
delivering_none id link k is on = grind (arith, grows_none, appends_none)

module _ (l : Limits) (id : ℕ) where
  own_take : (n m : ℕ) → cond (id == id) (n + m) n ≡ n + m
  own_take n m = ap (λ b. cond b (n + m) n) (eq-eqb id id refl)

  nothing_left : (n : ℕ) (xs : List ℕ) → drop n xs ≡ [] → length xs ≤ n
  nothing_left n xs h = omega (arith, ap length h, length-drop n xs)

  -- a Take that gave less than the most took all
  pub short_taken : (past : List Entry) (most : ℕ) (bytes : List ℕ) → reads_on l past id ≡ true
      → bytes ≡ take most (unsent l id past) → length bytes < most
      → length (stream l id (Take id most ∷ past)) ≤ taken l id (Take id most ∷ past)
  short_taken past most bytes keeps is short =
      grind (arith, unsent_kept, length-drop, stream_take, own_take, length-take)

module _ (id : ℕ) (link0 link1 : Option (List ℕ)) (old new : Place)
    (d : Delivering id link0 link1 old new) where
  limits_same : limits_of new ≡ limits_of old
  limits_same = ap limits_in d.grows.setup

  still_admitted : (last : Place) (ts : List Turn) → Grows new last ts
      → is_admitted (past_of last) id ≡ true
  still_admitted last ts g = begins_lift (λ past. is_admitted past id ≡ true) (admitted_more id)
      (past_of new) (past_of last) (grows_past new last ts g) d.admitted

  module _ (most : ℕ) (bytes : List ℕ) (last : Place) (g : Gives id most bytes new last) where
    turn : Turn
    turn = (Take id most, g.past)

    took : List Turn
    took = turn ∷ d.turns

    took_work : (clock : Option ℕ) → All (IsWork id clock) took
    unfolding took turn
    took_work clock = All-cons (IsWork id clock) turn d.turns refl (d.work clock)

    took_grows : Grows old last took
    unfolding took turn
    took_grows = grows_then old new last d.turns (turn ∷ []) d.grows g.grows

    gave_is : gave (limits_of old) took ≡ gave (limits_of old) d.turns ++ bytes
    unfolding took turn
    gave_is = grind (arith, limits_same)

    -- the bytes were written, and more may wait
    pub delivering_more : (link2 : Option (List ℕ)) → Appends link1 link2 bytes
        → Delivering id link0 link2 old last
    unfolding took turn
    delivering_more link2 w = record {
      turns = took;
      grows = took_grows;
      work = took_work;
      runs_none = append-nil (runs_in d.turns) ∙ d.runs_none;
      wrote = appends_as link0 link2 _ _ (sym gave_is)
          (appends_more link0 link1 link2 (gave (limits_of old) d.turns) bytes d.wrote w);
      admitted = still_admitted last (turn ∷ []) g.grows;
    }

    -- they were all that waited
    pub delivers_short : (link2 : Option (List ℕ)) → Appends link1 link2 bytes
        → length bytes < most → Delivers id link0 link2 old last
    unfolding took turn
    delivers_short link2 w short =
        let l = limits_of old in
        let ends = g.ends in
        let keeps = ap (λ l. reads_on l g.past id) (sym limits_same) ∙ g.keeps in
        let given = g.given ∙ ap (λ l. take most (unsent l id g.past)) limits_same in
        let now = short_taken l id g.past most bytes keeps given short in
        let before = stream_begins l id (past_of old) (past_of last)
        (grows_past old last took took_grows) in
        grind (arith, took, took_grows, took_work, append-nil, appends_as, gave_is, appends_more)

    -- a front of them was written, and the link failed
    pub delivers_failed : (link2 : Option (List ℕ)) (front : List ℕ) → Appends link1 link2 front
        → IsPrefix front bytes → DeliversPart ended.LinkFault id link0 link2 old last
    unfolding took turn
    delivers_failed link2 front w part =
        grind (arith, took, took_grows, took_work, append-nil, appends_more, append_assoc, gave_is)

  -- nothing waits
  pub delivers_rests : (last : Place) → Rests id new last → Delivers id link0 link1 old last
  delivers_rests last r =
      let l = limits_of old in
      let grows = grows_then old new last d.turns [] d.grows r.grows in
      let none = ap (λ l. unsent l id (past_of last)) (sym limits_same) ∙ r.none in
      let before = stream_begins l id (past_of old) (past_of last)
      (grows_past old last d.turns grows) in
      record {
        turns = d.turns;
        grows = grows;
        work = d.work;
        runs_none = d.runs_none;
        wrote = d.wrote;
        taken_all = λ keeps.
            let all = nothing_left l id (taken l id (past_of last)) (stream l id (past_of last))
            (sym (unsent_kept l id (past_of last) keeps) ∙ none) in
            omega (arith, before, all);
      }

  pub delivers_refused : (r : Refusal) (last : Place) → Refuses (IsCause gives_on id) r new last
      → DeliversPart (ended_by r) id link0 link1 old last
  delivers_refused r last g = record {
    turns = d.turns;
    grows = grows_then old new last d.turns [] d.grows g.grows;
    work = d.work;
    runs_none = d.runs_none;
    bytes = gave (limits_of old) d.turns;
    wrote = d.wrote;
    front = ([], append-nil (gave (limits_of old) d.turns));
    all_wrote = λ link. refl;
    cause_is = inr (record { refusal = r; is = refl; cause_is = g.cause_is });
  }

pub takes_at : (id : ℕ) (r s : Option Octets) (old new : Place) → Takes id r old new → r ≡ s
    → Takes id s old new
takes_at id r s old new t e = subst (λ x. Takes id x old new) e t

-- what was taken and written, and then the rest of it
module _ (id : ℕ) (link0 link1 link2 : Option (List ℕ)) (old mid new : Place)
    (d : Delivering id link0 link1 old mid) where
  mid_limits : limits_of mid ≡ limits_of old
  mid_limits = ap limits_in d.grows.setup

  pub delivers_then : Delivers id link1 link2 mid new → Delivers id link0 link2 old new
  delivers_then e =
      let l = limits_of old in
      let first = stream_begins l id (past_of old) (past_of mid)
      (grows_past old mid d.turns d.grows) in
      let all : reads_on l (past_of new) id ≡ true
      → length (stream l id (past_of mid)) ≤ taken l id (past_of new)
      = subst (λ z. reads_on z (past_of new) id ≡ true
      → length (stream z id (past_of mid)) ≤ taken z id (past_of new)) mid_limits e.taken_all in
      record {
        turns = e.turns ++ d.turns;
        grows = grows_then old mid new d.turns e.turns d.grows e.grows;
        work = λ clock. All-append (IsWork id clock) e.turns d.turns (e.work clock) (d.work clock);
        runs_none = grind (arith, order_append, append-nil);
        wrote = grind (arith, appends_as, appends_more, order_append, mid_limits);
        taken_all = λ keeps. omega (arith, first, all keeps);
      }

  pub delivers_part_then : (cause : Ended) → DeliversPart cause id link1 link2 mid new
      → DeliversPart cause id link0 link2 old new
  delivers_part_then cause e =
      let l = limits_of old in
      record {
        turns = e.turns ++ d.turns;
        grows = grows_then old mid new d.turns e.turns d.grows e.grows;
        work = λ clock. All-append (IsWork id clock) e.turns d.turns (e.work clock) (d.work clock);
        runs_none = grind (arith, order_append, append-nil);
        bytes = gave l d.turns ++ e.bytes;
        wrote = appends_more link0 link1 link2 (gave l d.turns) e.bytes d.wrote e.wrote;
        front = grind (arith, append_assoc, order_append, mid_limits);
        all_wrote = λ link.
            let rest = e.all_wrote link in grind (arith, order_append, mid_limits);
        cause_is = e.cause_is;
      }

-- the first bytes were taken
module _ (id : ℕ) (link : Option (List ℕ)) (before now : Place) where
  none_written : (front : Option Octets) → Begins id front before now
      → Delivering id link link before before
  none_written front b = delivering_none id link before b.0 b.1

  pub begun_none : Begins id None before now → Delivers id link link before now
  begun_none b = delivers_rests id link link before before (none_written None b) now b.2

  module _ (bytes : Octets) (b : Begins id (Some bytes) before now) where
    pub begun_more : (link1 : Option (List ℕ)) → Appends link link1 bytes
        → Delivering id link link1 before now
    begun_more link1 w =
        delivering_more id link link before before (none_written (Some bytes) b) most bytes now
        b.2.0 link1 w

    pub begun_short : (link1 : Option (List ℕ)) → Appends link link1 bytes
        → length bytes < most → Delivers id link link1 before now
    begun_short link1 w short =
        delivers_short id link link before before (none_written (Some bytes) b) most bytes now
        b.2.0 link1 w short
