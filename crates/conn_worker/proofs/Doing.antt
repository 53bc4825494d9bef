-- What the parts of a read's requests come to: the turns, and the bytes that were written.
use Rattle.std.proofs.Common.{◌≡◌, ◌≤◌, ◌<◌, ◌+◌, ℕ, List, [], ◌∷◌, ◌++◌, length, true, false, Some}
use Rattle.std.proofs.Common.{None, refl, sym, ap, subst, ◌∙◌, arith, append_assoc, append-nil}
use Rattle.std.proofs.Common.{length-append, inl, inr, Bool}
use Rattle.std.specs.Prelude.{Option, ◌⊎◌, IfSome}
use Rattle.std.specs.List.{All}
use Rattle.std.specs.Io.KnownBytes.{Appends}
use Rattle.std.proofs.lemmas.List.Elements.{All-nil, All-cons, All-head, All-tail, All-append}
use Rattle.resp_value.specs.Lists.{IsPrefix}
use Rattle.serial_model.specs.declared.history.Limits.{Limits}
use Rattle.serial_model.specs.declared.history.Entry.TheVariants.{Admit, Run, Tick, Take, Close}
use Rattle.serial_model.specs.History.{gives_on, is_admitted, reads_on, stream, taken}
use Rattle.turn_lock.specs.Own.{past_of, Grows}
use Rattle.turn_lock.proofs.Growing.{grows_then, grows_past, grows_stands}
use Rattle.turn_lock.proofs.Growing.{order_append}
use Rattle.shared_book.specs.Turns.{IsCause, Place, Turn, limits_in, limits_of}
use Rattle.shared_book.specs.declared.turns.Refusal.{Refusal}
use Rattle.shared_book.specs.declared.turns.Refusal.TheVariants as refusal
use Rattle.shared_book.proofs.Histories.{begins_lift, admitted_more, stream_begins}
use Rattle.edge_links.proofs.Bytes.{appends_none, appends_more, appends_as}
use Rattle.conn_worker.specs.declared.report.Ended.{Ended}
use Rattle.conn_worker.specs.declared.report.Ended.TheVariants as ended
use Rattle.conn_worker.specs.Elsewhere.{HasQuit}
use Rattle.conn_worker.specs.Quits.{up_to_quit}
use Rattle.conn_worker.specs.Visits.{IsWork, IsEnd, IsTaken, runs_in, run_in, gave, gave_in}
use Rattle.conn_worker.specs.Visits.{Delivers, DeliversPart, Standing, ended_by}
use Rattle.conn_worker.specs.Parts.{Breaks, InParts, Part, Requests, RunsParts, RunsSome}
use Rattle.conn_worker.specs.Parts.{Refused, Unwritten, joined}
use Rattle.conn_worker.proofs.Turning.{all_taken, no_runs}
use Rattle.conn_worker.proofs.Leaving.{had_ended_behind, had_ended_ungiven, has_quit_on}
use Rattle.conn_worker.proofs.Stopping.{NoQuits, any_append, any_quit, none_in, none_quit}
use Rattle.conn_worker.proofs.Stopping.{quits_last, unclosed_in}
use Rattle.conn_worker.proofs.Running.{Ran, each_ran}

-- these requests ran, and all that waited then was taken and written
pub record Done (clock : Option ℕ) (id : ℕ) (l : Limits) (ws : Requests)
    (link0 link1 : Option (List ℕ)) (old new : Place) : Type 0 where
  pub turns : List Turn
  pub grows : Grows old new turns
  pub work : All (IsWork id clock) turns
  pub runs : runs_in turns ≡ ws
  pub wrote : Appends link0 link1 (gave l turns)
  pub was_taken : reads_on l (past_of new) id ≡ true
      → All (IsTaken l id (taken l id (past_of new))) turns
  pub caught_up : reads_on l (past_of new) id ≡ true
      → length (stream l id (past_of old)) ≤ taken l id (past_of new)
  pub quits : any_quit ws ≡ true → HasQuit id new

-- some of these requests ran, and the service ended
pub record Cut (clock : Option ℕ) (cause : Ended) (id : ℕ) (l : Limits) (ws : Requests) (ran : ℕ)
    (link0 link1 : Option (List ℕ)) (old new : Place) : Type 0 where
  pub turns : List Turn
  pub grows : Grows old new turns
  pub work : All (IsWork id clock) turns
  pub runs : IsPrefix (runs_in turns) ws
  pub count : ran ≡ length (runs_in turns)
  pub bytes : List ℕ
  pub wrote : Appends link0 link1 bytes
  pub front : IsPrefix bytes (gave l turns)
  pub all_wrote : (cause ≡ ended.LinkFault → ⊥) → bytes ≡ gave l turns
  pub cause_is : (cause ≡ ended.LinkFault) ⊎ IsEnd cause id turns new

-- ---- at the moment of the clock

work_one : (clock : Option ℕ) (now id : ℕ) → IfSome clock (λ m. now ≡ m) → (t : Turn)
    → IsWork id (Some now) t → IsWork id clock t
work_one None now id at (Admit n, past) h = absurd h
work_one None now id at (Run n words moment, past) h = (h.0, tt)
work_one None now id at (Tick moment, past) h = tt
work_one None now id at (Take n most, past) h = h
work_one None now id at (Close n, past) h = absurd h
work_one (Some m) now id at t h = subst (λ z. IsWork id (Some z) t) at h

pub work_at : (clock : Option ℕ) (now id : ℕ) → IfSome clock (λ m. now ≡ m) → (ts : List Turn)
    → All (IsWork id (Some now)) ts → All (IsWork id clock) ts
work_at clock now id at [] all = All-nil (IsWork id clock)
work_at clock now id at (t ∷ ts) all =
    All-cons (IsWork id clock) t ts
    (work_one clock now id at t (All-head (IsWork id (Some now)) t ts all))
    (work_at clock now id at ts (All-tail (IsWork id (Some now)) t ts all))

pub there_still : (id : ℕ) (k m : Place) (ts : List Turn) → Grows k m ts
    → is_admitted (past_of k) id ≡ true → is_admitted (past_of m) id ≡ true
there_still id k m ts g on =
    begins_lift (λ past. is_admitted past id ≡ true) (admitted_more id) (past_of k) (past_of m)
    (grows_past k m ts g) on

pub gave_joined : (l : Limits) (xs ys : List Turn) → gave l (xs ++ ys) ≡ gave l ys ++ gave l xs
gave_joined l xs ys = order_append (gave_in l) xs ys

pub runs_joined : (xs ys : List Turn) → runs_in (xs ++ ys) ≡ runs_in ys ++ runs_in xs
runs_joined xs ys = order_append run_in xs ys

-- ---- turns, and then a delivery

module _ (clock : Option ℕ) (id : ℕ) (l : Limits) (ws : Requests)
    (link0 link1 : Option (List ℕ)) (old middle new : Place) (ts : List Turn)
    (same : limits_of old ≡ l) (grows : Grows old middle ts) (work : All (IsWork id clock) ts)
    (none : gave l ts ≡ []) (runs : runs_in ts ≡ ws)
    (quits : any_quit ws ≡ true → HasQuit id middle) where
  limits_here : limits_of middle ≡ l
  limits_here = ap limits_in grows.setup ∙ same

  gave_behind : (ds : List Turn) → gave l (ds ++ ts) ≡ gave l ds
  gave_behind ds = gave_joined l ds ts ∙ ap (λ z. z ++ gave l ds) none

  runs_behind : (ds : List Turn) → runs_in ds ≡ [] → runs_in (ds ++ ts) ≡ ws
  runs_behind ds empty =
      runs_joined ds ts ∙ ap (λ z. runs_in ts ++ z) empty ∙ append-nil (runs_in ts) ∙ runs

  pub done_by : Delivers id link0 link1 middle new → Done clock id l ws link0 link1 old new
  done_by d =
      let n = taken l id (past_of new) in
      let there : reads_on l (past_of new) id ≡ true → length (stream l id (past_of middle)) ≤ n
      = subst (λ z. reads_on z (past_of new) id ≡ true
      → length (stream z id (past_of middle)) ≤ taken z id (past_of new)) limits_here
      d.taken_all in
      record {
        turns = d.turns ++ ts;
        grows = grows_then old middle new ts d.turns grows d.grows;
        work = All-append (IsWork id clock) d.turns ts (d.work clock) work;
        runs = runs_behind d.turns d.runs_none;
        wrote = appends_as link0 link1 _ _
            (ap (λ z. gave z d.turns) limits_here ∙ sym (gave_behind d.turns)) d.wrote;
        was_taken = λ keeps.
            All-append (IsTaken l id n) d.turns ts (no_runs l id n d.turns d.work d.runs_none)
            (all_taken l id (past_of middle) n ts (there keeps)
            (grows_stands old middle ts grows));
        caught_up = λ keeps.
            let begins = stream_begins l id (past_of old) (past_of middle)
            (grows_past old middle ts grows) in
            let all = there keeps in omega (arith, begins, all);
        quits = λ any.
            has_quit_on id middle new d.grows.setup (grows_past middle new d.turns d.grows)
            (quits any);
      }

  -- a Take was refused where no QUIT ran
  no_quit : (ds : List Turn) → Grows middle new ds
      → gives_on (limits_of new) (past_of new) id ≡ false → NoQuits ws
  no_quit ds g off = none_quit ws (by_case (any_quit ws) refl)
    where
      by_case : (b : Bool) → any_quit ws ≡ b → any_quit ws ≡ false
      by_case false e = e
      by_case true e =
          let on = (has_quit_on id middle new g.setup (grows_past middle new ds g)
          (quits e)).gives in
          absurd (let no : true ≡ false = sym on ∙ off in cc)

  cut_end : (ds : List Turn) → Grows middle new ds
      → ((clock : Option ℕ) → All (IsWork id clock) ds) → runs_in ds ≡ []
      → is_admitted (past_of middle) id ≡ true → (e : Refusal) → IsCause gives_on id e new
      → IsEnd (ended_by e) id (ds ++ ts) new
  cut_end ds g works empty on refusal.Dropped off =
      had_ended_ungiven id (ds ++ ts) new (there_still id middle new ds g on) off
      (unclosed_in id id clock (ds ++ ts) (All-append (IsWork id clock) ds ts (works clock) work))
      (none_in id (ds ++ ts) (subst NoQuits (sym (runs_behind ds empty)) (no_quit ds g off)))
  cut_end ds g works empty on refusal.NoMemory off = tt
  cut_end ds g works empty on refusal.Worn off = off
  cut_end ds g works empty on refusal.Stopped off = absurd off

  pub cut_by : (cause : Ended) (rest : Requests) → is_admitted (past_of old) id ≡ true
      → DeliversPart cause id link0 link1 middle new
      → Cut clock cause id l (ws ++ rest) (length ws) link0 link1 old new
  cut_by cause rest on d =
      let here = runs_behind d.turns d.runs_none in
      let all = ap (λ z. gave z d.turns) limits_here ∙ sym (gave_behind d.turns) in
      record {
        turns = d.turns ++ ts;
        grows = grows_then old middle new ts d.turns grows d.grows;
        work = All-append (IsWork id clock) d.turns ts (d.work clock) work;
        runs = (rest, ap (λ z. z ++ rest) here);
        count = ap length (sym here);
        bytes = d.bytes;
        wrote = d.wrote;
        front = subst (IsPrefix d.bytes) all d.front;
        all_wrote = λ link. d.all_wrote link ∙ all;
        cause_is = elim d.cause_is [
          | inl failed ↦ inl failed
          | inr t ↦ inr (subst (λ z. IsEnd z id (d.turns ++ ts) new) (sym t.is)
              (cut_end d.turns d.grows d.work d.runs_none
              (there_still id old middle ts grows on) t.refusal t.cause_is))
        ];
      }

-- ---- behind what was done

module _ (clock : Option ℕ) (id : ℕ) (l : Limits) (ws : Requests)
    (link0 link1 link2 : Option (List ℕ)) (old mid new : Place)
    (a : Done clock id l ws link0 link1 old mid) where
  pub done_then : (more : Requests) → Done clock id l more link1 link2 mid new
      → Done clock id l (ws ++ more) link0 link2 old new
  done_then more b =
      let n = taken l id (past_of new) in
      record {
        turns = b.turns ++ a.turns;
        grows = grows_then old mid new a.turns b.turns a.grows b.grows;
        work = All-append (IsWork id clock) b.turns a.turns b.work a.work;
        runs = runs_joined b.turns a.turns ∙ ap (λ z. z ++ runs_in b.turns) a.runs
            ∙ ap (λ z. ws ++ z) b.runs;
        wrote = appends_as link0 link2 _ _ (sym (gave_joined l b.turns a.turns))
            (appends_more link0 link1 link2 (gave l a.turns) (gave l b.turns) a.wrote b.wrote);
        was_taken = λ keeps.
            All-append (IsTaken l id n) b.turns a.turns (b.was_taken keeps)
            (all_taken l id (past_of mid) n a.turns (b.caught_up keeps)
            (grows_stands old mid a.turns a.grows));
        caught_up = λ keeps.
            let begins = stream_begins l id (past_of old) (past_of mid)
            (grows_past old mid a.turns a.grows) in
            let all = b.caught_up keeps in omega (arith, begins, all);
        quits = λ any.
            elim (any_append ws more any) [
              | inl h ↦ has_quit_on id mid new b.grows.setup
                  (grows_past mid new b.turns b.grows) (a.quits h)
              | inr h ↦ b.quits h
            ];
      }

  end_behind : (cause : Ended) (ts : List Turn) → NoQuits ws → IsEnd cause id ts new
      → IsEnd cause id (ts ++ a.turns) new
  end_behind ended.PeerEnd ts free e = absurd e
  end_behind ended.Quit ts free e = absurd e
  end_behind ended.Dropped ts free e =
      had_ended_behind id ts a.turns new (unclosed_in id id clock a.turns a.work)
      (none_in id a.turns (subst NoQuits (sym a.runs) free)) e
  end_behind (ended.BadRequest f) ts free e = absurd e
  end_behind ended.LinkFault ts free e = absurd e
  end_behind ended.NoMemory ts free e = tt
  end_behind ended.Worn ts free e = e
  end_behind ended.Stopped ts free e = absurd e

  pub cut_then : (more : Requests) (cause : Ended) (ran : ℕ) → NoQuits ws
      → Cut clock cause id l more ran link1 link2 mid new
      → Cut clock cause id l (ws ++ more) (length ws + ran) link0 link2 old new
  cut_then more cause ran free b =
      let all = gave_joined l b.turns a.turns in
      let runs = runs_joined b.turns a.turns ∙ ap (λ z. z ++ runs_in b.turns) a.runs in
      record {
        turns = b.turns ++ a.turns;
        grows = grows_then old mid new a.turns b.turns a.grows b.grows;
        work = All-append (IsWork id clock) b.turns a.turns b.work a.work;
        runs = (
          b.runs.0,
          ap (λ z. z ++ b.runs.0) runs ∙ append_assoc ws (runs_in b.turns) b.runs.0
              ∙ ap (λ z. ws ++ z) b.runs.1,
        );
        count = omega (arith, b.count, ap length runs, length-append ws (runs_in b.turns));
        bytes = gave l a.turns ++ b.bytes;
        wrote = appends_more link0 link1 link2 (gave l a.turns) b.bytes a.wrote b.wrote;
        front = (
          b.front.0,
          append_assoc (gave l a.turns) b.bytes b.front.0
              ∙ ap (λ z. gave l a.turns ++ z) b.front.1 ∙ sym all,
        );
        all_wrote = λ link. ap (λ z. gave l a.turns ++ z) (b.all_wrote link) ∙ sym all;
        cause_is = elim b.cause_is [
          | inl failed ↦ inl failed
          | inr e ↦ inr (end_behind cause b.turns free e)
        ];
      }

-- ---- of parts

module _ (clock : Option ℕ) (now id : ℕ) (l : Limits) (at : IfSome clock (λ m. now ≡ m)) where
  pub part_done : (ws : Requests) (old new : Standing) → limits_of old.place ≡ l
      → Part now id ws old new
      → Done clock id l ws old.contents new.contents old.place new.place
  part_done ws old new same p =
      let r = each_ran clock id now at ws old.place p.middle p.runs in
      done_by clock id l ws old.contents new.contents old.place p.middle new.place r.turns same
      r.grows r.work (ap (λ z. gave z r.turns) (sym same) ∙ r.gave_none) r.runs r.quits
      p.writes.delivers

  pub parts_done : (parts : List Requests) (old new : Standing) → 0 < length parts
      → limits_of old.place ≡ l → RunsParts now id parts old new
      → Done clock id l (joined parts) old.contents new.contents old.place new.place
  parts_done [] old new some same runs = absurd (omega (arith, some))
  parts_done (part ∷ []) old new some same (mid, one, is) =
      subst (λ z. Done clock id l z old.contents new.contents old.place new.place)
      (sym (append-nil part))
      (subst (λ (z : Standing). Done clock id l part old.contents z.contents old.place z.place)
      (sym is) (part_done part old mid same one))
  parts_done (part ∷ next ∷ parts) old new some same (mid, one, rest) =
      let d = part_done part old mid same one in
      done_then clock id l part old.contents mid.contents new.contents old.place mid.place
      new.place d (joined (next ∷ parts))
      (parts_done (next ∷ parts) mid new (omega arith) (ap limits_in d.grows.setup ∙ same) rest)

  pub in_parts_done : (ws : Requests) (old new : Standing) → limits_of old.place ≡ l
      → InParts now id ws old new
      → Done clock id l ws old.contents new.contents old.place new.place
  in_parts_done ws old new same p =
      subst (λ z. Done clock id l z old.contents new.contents old.place new.place) p.whole
      (parts_done p.parts old new p.some same p.runs)

  -- a turn was refused
  cut_some : (cause : Ended) (ws : Requests) (link : Option (List ℕ)) (old new : Place)
      → limits_of old ≡ l → (some : RunsSome now cause id ws old new)
      → Cut clock cause id l ws (length (runs_in some.turns)) link link old new
  cut_some cause ws link old new same some =
      let none = ap (λ z. gave z some.turns) (sym same) ∙ some.gave_none in
      record {
        turns = some.turns;
        grows = some.grows;
        work = work_at clock now id at some.turns some.work;
        runs = some.runs;
        count = refl;
        bytes = [];
        wrote = appends_none link;
        front = (gave l some.turns, refl);
        all_wrote = λ fine. sym none;
        cause_is = inr some.cause_is;
      }

  part_grows : (ws : Requests) (old new : Standing) → Part now id ws old new
      → (ts : List Turn) × Grows old.place new.place ts
  part_grows ws old new p =
      let r = each_ran clock id now at ws old.place p.middle p.runs in
      let d = p.writes.delivers in
      (d.turns ++ r.turns, grows_then old.place p.middle new.place r.turns d.turns r.grows d.grows)

  parts_there : (parts : List Requests) (old middle : Standing) → RunsParts now id parts old middle
      → is_admitted (past_of old.place) id ≡ true → is_admitted (past_of middle.place) id ≡ true
  parts_there [] old middle is on =
      subst (λ (z : Standing). is_admitted (past_of z.place) id ≡ true) (sym is) on
  parts_there (part ∷ parts) old middle (next, one, rest) on =
      let d = part_grows part old next one in
      parts_there parts next middle rest (there_still id old.place next.place d.0 d.1 on)

  -- behind parts that ran, if any did
  cut_behind : (parts : List Requests) (old middle : Standing) → limits_of old.place ≡ l
      → RunsParts now id parts old middle → (cause : Ended) (rest : Requests) (ran : ℕ)
      (link : Option (List ℕ)) (new : Place)
      → (0 < length parts → 0 < length rest)
      → up_to_quit (joined parts ++ rest) ≡ joined parts ++ rest
      → (limits_of middle.place ≡ l
      → Cut clock cause id l rest ran middle.contents link middle.place new)
      → Cut clock cause id l (joined parts ++ rest) (length (joined parts) + ran) old.contents link
      old.place new
  cut_behind [] old middle same is cause rest ran link new more last cut =
      let zero : ran ≡ length (joined []) + ran = omega arith in
      subst (λ n. Cut clock cause id l rest n old.contents link old.place new) zero
      (subst (λ (z : Standing). Cut clock cause id l rest ran z.contents link z.place new) is
      (cut (ap (λ (z : Standing). limits_of z.place) is ∙ same)))
  cut_behind (part ∷ parts) old middle same runs cause rest ran link new more last cut =
      let d = parts_done (part ∷ parts) old middle (omega arith) same runs in
      cut_then clock id l (joined (part ∷ parts)) old.contents middle.contents link old.place
      middle.place new d rest cause ran
      (quits_last (joined (part ∷ parts)) rest last (more (omega arith))).0
      (cut (ap limits_in d.grows.setup ∙ same))

  pub breaks_cut : (cause : Ended) (ws : Requests) (ran : ℕ) (old new : Standing)
      → limits_of old.place ≡ l → is_admitted (past_of old.place) id ≡ true
      → up_to_quit ws ≡ ws → Breaks now cause id ws ran old new
      → Cut clock cause id l ws ran old.contents new.contents old.place new.place
  breaks_cut cause ws ran old new same on last
      (Refused parts rest middle k is more runs some count here) =
      let whole = subst (λ z. up_to_quit z ≡ z) is last in
      subst (λ (z : Standing). Cut clock cause id l ws ran old.contents z.contents old.place
      z.place) (sym here)
      (subst (λ n. Cut clock cause id l ws n old.contents middle.contents old.place k) (sym count)
      (subst (λ z. Cut clock cause id l z (length (joined parts) + length (runs_in some.turns))
      old.contents middle.contents old.place k) (sym is)
      (cut_behind parts old middle same runs cause rest (length (runs_in some.turns))
      middle.contents k more whole
      (λ here. cut_some cause rest middle.contents middle.place k here some))))
  breaks_cut cause ws ran old new same on last
      (Unwritten parts part rest middle k is more runs each count d counts kept) =
      let whole = subst (λ z. up_to_quit z ≡ z) is last in
      subst (λ n. Cut clock cause id l ws n old.contents new.contents old.place new.place)
      (sym count)
      (subst (λ z. Cut clock cause id l z (length (joined parts) + length part) old.contents
      new.contents old.place new.place) (sym is)
      (cut_behind parts old middle same runs cause (part ++ rest) (length part) new.contents
      new.place more whole
      (λ here. by_part here (each_ran clock id now at part middle.place k each))))
    where
      by_part : limits_of middle.place ≡ l → Ran clock id part middle.place k
          → Cut clock cause id l (part ++ rest) (length part) middle.contents new.contents
          middle.place new.place
      by_part here r =
          cut_by clock id l part middle.contents new.contents middle.place k new.place r.turns here
          r.grows r.work (ap (λ z. gave z r.turns) (sym here) ∙ r.gave_none) r.runs r.quits cause
          rest (parts_there parts old middle runs on) d
