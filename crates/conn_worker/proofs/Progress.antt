-- The requests of a read run part by part: how each part goes on from those before it.
use Rattle.std.proofs.Common.{◌≡◌, ◌≤◌, ◌<◌, ◌+◌, ℕ, List, [], ◌∷◌, ◌++◌, length, true, Some}
use Rattle.std.proofs.Common.{None}
use Rattle.std.proofs.Common.{refl, sym, ap, subst, ◌∙◌, arith, append_assoc, append-nil}
use Rattle.std.proofs.Common.{length-append}
use Rattle.std.specs.Prelude.{Option, Err}
use Rattle.std.specs.List.{All}
use Rattle.std.specs.Io.KnownBytes.{Keeps}
use Rattle.serial_model.specs.declared.history.BookCall.{BookCall}
use Rattle.serial_model.specs.History.{is_admitted}
use Rattle.resp_value.specs.declared.octets.Octets.{Octets}
use Rattle.turn_lock.specs.Own.{past_of, IsWithin, Grows}
use Rattle.shared_book.specs.Batches.{HoldsBack, IsRunAt, RunsAndTakes, RunsEach, RunsFirst}
use Rattle.shared_book.specs.Batches.{requests_in}
use Rattle.shared_book.specs.Turns.{Place, Takes, Turn}
use Rattle.shared_book.specs.declared.turns.Refusal.{Refusal}
use Rattle.conn_worker.specs.declared.report.Ended.{Ended}
use Rattle.conn_worker.specs.Quits.{up_to_quit}
use Rattle.conn_worker.specs.Visits.{Begins, Delivers, DeliversPart, DeliveryCounts, Standing}
use Rattle.conn_worker.specs.Visits.{ended_by, runs_in}
use Rattle.conn_worker.specs.Parts.{BreaksAt, InParts, Part, Refused, Requests, RunsParts}
use Rattle.conn_worker.specs.Parts.{Unwritten, joined}
use Rattle.conn_worker.proofs.Doing.{there_still}
use Rattle.conn_worker.proofs.Running.{each_ran, some_ran}
use Rattle.conn_worker.proofs.Stopping.{quits_last}

-- ---- one part more

joined_more : (parts : List Requests) (part : Requests)
    → joined (parts ++ part ∷ []) ≡ joined parts ++ part
joined_more [] part = append-nil part
joined_more (p ∷ parts) part =
    ap (λ z. p ++ z) (joined_more parts part) ∙ sym (append_assoc p (joined parts) part)

parts_more : (now id : ℕ) (parts : List Requests) (part : Requests) (old mid new : Standing)
    → RunsParts now id parts old mid → Part now id part mid new
    → RunsParts now id (parts ++ part ∷ []) old new
parts_more now id [] part old mid new is one =
    (new, subst (λ z. Part now id part z new) is one, refl)
parts_more now id (p ∷ parts) part old mid new (next, first, rest) one =
    (next, first, parts_more now id parts part next mid new rest one)

some_more : (parts : List Requests) (part : Requests) → 0 < length (parts ++ part ∷ [])
some_more parts part = omega (arith, length-append parts (part ∷ []))

-- some parts of these requests ran, and these calls are to run the others
pub record InProgress (now id : ℕ) (all : Requests) (before : ℕ) (calls : List BookCall)
    (count : ℕ) (old new : Standing) : Type 0 where
  pub parts : List Requests
  pub runs : RunsParts now id parts old new
  pub whole : all ≡ joined parts ++ requests_in calls
  pub more : 0 < length parts → 0 < length (requests_in calls)
  pub counted : count ≡ before + length (joined parts)
  pub fits : count ≤ length new.place.seen
  pub are_runs : All (IsRunAt id now) calls
  pub within : IsWithin new.place
  pub lock : new.place.lock ≡ old.place.lock
  pub admitted : is_admitted (past_of new.place) id ≡ true
  pub last : up_to_quit (requests_in calls) ≡ requests_in calls

pub progress_begins : (now id before : ℕ) (calls : List BookCall) (k : Standing)
    → All (IsRunAt id now) calls → before ≤ length k.place.seen → IsWithin k.place
    → is_admitted (past_of k.place) id ≡ true
    → up_to_quit (requests_in calls) ≡ requests_in calls
    → InProgress now id (requests_in calls) before calls before k k
progress_begins now id before calls k runs fits is on last = record {
  parts = [];
  runs = refl;
  whole = refl;
  more = λ some. absurd (omega (arith, some));
  counted = omega arith;
  fits = fits;
  are_runs = runs;
  within = is;
  lock = refl;
  admitted = on;
  last = last;
}

module _ (now id : ℕ) (all : Requests) (before : ℕ) (calls : List BookCall) (count : ℕ)
    (old k : Standing) (s : InProgress now id all before calls count old k) where
  -- these ran, and all that waited then was written
  one_part : (part : Requests) (middle : Place) (next : Standing)
      → RunsEach id now part k.place middle
      → Delivers id k.contents next.contents middle next.place → Keeps k.left next.left
      → next.counts ≡ k.counts → Part now id part k next
  one_part part middle next each d kept counts = record {
    middle = middle;
    runs = each;
    writes = record { delivers = d; unread = kept; counts = counts };
  }

  each_grows : (ws : Requests) (middle : Place) → RunsEach id now ws k.place middle
      → (ts : List Turn) × Grows k.place middle ts
  each_grows ws middle each =
      let r = each_ran (Some now) id now refl ws k.place middle each in (r.turns, r.grows)

  -- the seat is still at the lock, and the connection was admitted
  abbrev pub IsHere : Place → Type 0
  IsHere last =
      (last.lock ≡ old.place.lock) × IsWithin last × (is_admitted (past_of last) id ≡ true)

  pub held_here : (ran : ℕ) (back : List BookCall) (last : Place)
      → HoldsBack id now count (requests_in calls) ran back k.place last → IsHere last
  held_here ran back last h =
      let (ts, g) = each_grows h.first last h.each in
      (g.lock ∙ s.lock, g.within, there_still id k.place last ts g s.admitted)

  takes_grows : (front : Option Octets) (a b : Place) → Takes id front a b
      → (ts : List Turn) × Grows a b ts
  takes_grows None a b t = ([], t.grows)
  takes_grows (Some bytes) a b t = (_, t.0.grows)

  pub taken_here : (ran : ℕ) (front : Option Octets) (last : Place)
      → RunsAndTakes id now count (requests_in calls) ran front k.place last → IsHere last
  taken_here ran front last t =
      let (ts, g) = each_grows (requests_in calls) t.middle t.each in
      let (us, h) = takes_grows front t.middle last t.takes in (
        h.lock ∙ g.lock ∙ s.lock,
        h.within,
        there_still id t.middle last us h (there_still id k.place t.middle ts g s.admitted),
      )

  pub taken_begins : (ran : ℕ) (front : Option Octets) (last : Place)
      → (t : RunsAndTakes id now count (requests_in calls) ran front k.place last)
      → Begins id front t.middle last
  taken_begins ran front last t =
      let (ts, g) = each_grows (requests_in calls) t.middle t.each in
      (g.within, there_still id k.place t.middle ts g s.admitted, t.takes)

  -- all ran
  pub progress_ends : (ran : ℕ) (front : Option Octets) (last : Place) (next : Standing)
      → (t : RunsAndTakes id now count (requests_in calls) ran front k.place last)
      → Delivers id k.contents next.contents t.middle next.place → Keeps k.left next.left
      → next.counts ≡ k.counts → InParts now id all old next
  progress_ends ran front last next t d kept counts =
      let part = requests_in calls in
      record {
        parts = s.parts ++ part ∷ [];
        some = some_more s.parts part;
        whole = joined_more s.parts part ∙ sym s.whole;
        runs = parts_more now id s.parts part old k next s.runs
            (one_part part t.middle next t.each d kept counts);
      }

  pub progress_counts : (ran : ℕ) (front : Option Octets) (last : Place) (next : Standing)
      → (t : RunsAndTakes id now count (requests_in calls) ran front k.place last)
      → Delivers id k.contents next.contents t.middle next.place
      → (ran ≡ before + length all) × (ran ≤ length next.place.seen)
  progress_counts ran front last next t d =
      let long = ap length s.whole in
      let both = length-append (joined s.parts) (requests_in calls) in
      let more = ap length d.grows.seen.1 in
      let seen = length-append d.grows.seen.0 t.middle.seen in (
        omega (arith, t.counted, s.counted, long, both),
        omega (arith, t.fits, more, seen),
      )

  -- the first of them ran, and the others are held back
  pub progress_more : (ran : ℕ) (back : List BookCall) (middle : Place) (next : Standing)
      → HoldsBack id now count (requests_in calls) ran back k.place middle
      → Delivers id k.contents next.contents middle next.place → Keeps k.left next.left
      → next.counts ≡ k.counts → InProgress now id all before back ran old next
  progress_more ran back middle next h d kept counts =
      let (ts, g) = each_grows h.first middle h.each in
      let more = ap length d.grows.seen.1 in
      let seen = length-append d.grows.seen.0 middle.seen in
      let joins = ap length (joined_more s.parts h.first) in
      let both = length-append (joined s.parts) h.first in
      record {
        parts = s.parts ++ h.first ∷ [];
        runs = parts_more now id s.parts h.first old k next s.runs
            (one_part h.first middle next h.each d kept counts);
        whole = s.whole ∙ ap (λ z. joined s.parts ++ z) h.parts
            ∙ sym (append_assoc (joined s.parts) h.first (requests_in back))
            ∙ ap (λ z. z ++ requests_in back) (sym (joined_more s.parts h.first));
        more = λ some. h.some;
        counted = omega (arith, h.counted, s.counted, joins, both);
        fits = omega (arith, h.fits, more, seen);
        are_runs = h.runs;
        within = d.grows.within;
        lock = d.grows.lock ∙ g.lock ∙ s.lock;
        admitted = there_still id middle next.place d.turns d.grows
            (there_still id k.place middle ts g s.admitted);
        last = (quits_last h.first (requests_in back)
            (subst (λ z. up_to_quit z ≡ z) h.parts s.last) h.some).1;
      }

  -- a turn was refused
  pub progress_refused : (ran : ℕ) (e : Refusal) (last : Place) (next : Standing)
      → RunsFirst id now count (requests_in calls) ran e k.place last
      → next ≡ record k { place = last } → BreaksAt now (ended_by e) id all before ran old next
  progress_refused ran e last next t is =
      let (some, counts) = some_ran id now count ran (requests_in calls) e k.place last s.last
      s.admitted t in (
        length (joined s.parts) + length (runs_in some.turns),
        omega (arith, s.counted, counts),
        Refused s.parts (requests_in calls) k last s.whole s.more s.runs some refl is,
      )

  -- these ran, and what waited then was not all written
  pub progress_breaks : (ran : ℕ) (part rest : Requests) (cause : Ended) (middle : Place)
      (next : Standing) → requests_in calls ≡ part ++ rest → ran ≡ count + length part
      → RunsEach id now part k.place middle
      → DeliversPart cause id k.contents next.contents middle next.place
      → DeliveryCounts (Err cause) k.counts next.counts → Keeps k.left next.left
      → BreaksAt now cause id all before ran old next
  progress_breaks ran part rest cause middle next is counts each d told kept = (
    length (joined s.parts) + length part,
    omega (arith, s.counted, counts),
    Unwritten s.parts part rest k middle
        (s.whole ∙ ap (λ z. joined s.parts ++ z) is)
        (λ some. subst (λ z. 0 < length z) is (s.more some)) s.runs each refl d told kept,
  )
