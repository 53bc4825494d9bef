-- Several requests of a connection and the Take behind them, a turn each.
use Rattle.std.proofs.Common.{◌≡◌, ◌≤◌, ◌+◌, ℕ, List, [], ◌∷◌, ◌++◌, length, take, true}
use Rattle.std.proofs.Common.{refl, sym, ap, subst, ◌∙◌, arith, length-append}
use Rattle.std.proofs.Common.{append-nil, append_assoc}
use Rattle.std.specs.Prelude.{Option}
use Rattle.std.specs.List.{All}
use Rattle.std.proofs.lemmas.List.{take-append-le, take_all}
use Rattle.std.proofs.lemmas.List.Elements.{All-cons, All-tail}
use Rattle.turn_lock.specs.Batches.{IsUnplayed}
use Rattle.turn_lock.specs.declared.lock.Unplayed.{Unplayed}
use Rattle.turn_lock.specs.declared.lock.Unplayed.TheVariants as unplayed
use Rattle.serial_model.specs.declared.history.BookCall.{BookCall}
use Rattle.serial_model.specs.declared.history.BookCall.TheVariants.{Run}
use Rattle.serial_model.specs.History.{gives_on, is_admitted, runs_on}
use Rattle.turn_lock.specs.Own.{past_of, IsWithin, Grows}
use Rattle.resp_value.specs.declared.octets.Octets.{Octets}
use Rattle.shared_book.specs.Turns.{Place, Runs, Takes, IsCause, Refuses}
use Rattle.shared_book.specs.Turns.{limits_in}
use Rattle.shared_book.specs.declared.turns.Refusal.{Refusal}
use Rattle.shared_book.specs.declared.turns.Refusal.TheVariants as refusal
use Rattle.shared_book.specs.declared.batch.BatchEnd.{BatchEnd}
use Rattle.shared_book.specs.declared.batch.BatchEnd.TheVariants as ends
use Rattle.shared_book.specs.Batches.{IsRunAt, requests_in, RunsEach, RunsAndTakes, RunsFirst}
use Rattle.shared_book.specs.Batches.{EndsSo}
use Rattle.shared_book.specs.Batches.{ComesBack}
use Rattle.turn_lock.proofs.Turning.{begins_trans, grows_worn}
use Rattle.turn_lock.proofs.Growing.{grows_none, grows_then, grows_past}
use Rattle.shared_book.proofs.Histories.{begins_lift, admitted_more}
use Rattle.shared_book.proofs.Outcomes.{runs}
use Rattle.shared_book.proofs.Batches.{by_run, each_then, grows_into, seen_longer, ungiven_unrun}

take_front : {A : Type 0} (xs ys : List A) → take (length xs) (xs ++ ys) ≡ xs
take_front xs ys = grind (arith, take-append-le, take_all)

pub last_off : {A : Type 0} (xs ys : List A) (x : A) (last : List A)
    → xs ++ x ∷ [] ≡ ys ++ last → length ys ≡ length xs → ys ≡ xs
last_off xs ys x last is long =
    sym (take_front ys last) ∙ ap (λ n. take n (ys ++ last)) long
    ∙ ap (take (length xs)) (sym is) ∙ take_front xs (x ∷ [])

module _ (id now : ℕ) where
  runs_from : (words : List (List ℕ)) (a b c : Place) → Grows a b [] → Runs id words now b c
      → Runs id words now a c
  runs_from words a b c g r = record {
    past = r.past;
    begins = begins_trans (past_of a) (past_of b) r.past (grows_past a b [] g) r.begins;
    grows = grows_then a b c [] _ g r.grows;
    on = subst (λ z. runs_on z r.past id ≡ true) (ap limits_in g.setup) r.on;
    ends = r.ends;
  }

  each_from : (ws : List (List (List ℕ))) (a b c : Place) → Grows a b [] → RunsEach id now ws b c
      → RunsEach id now ws a c
  each_from [] a b c g h = grows_into a b c g h
  each_from (w ∷ ws) a b c g (mid, run, rest) = (mid, runs_from w a b mid g run, rest)

  -- nothing was played before the first turn
  pub ends_from : (count : ℕ) (requests : List (List (List ℕ))) (ran : ℕ) (end : BatchEnd)
      (a b c : Place) → Grows a b [] → EndsSo id now count requests ran end b c
      → EndsSo id now count requests ran end a c
  ends_from count requests ran (ends.Taken front) a b c g h = record {
    middle = h.middle;
    each = each_from requests a b h.middle g h.each;
    counted = h.counted;
    fits = h.fits;
    takes = h.takes;
  }
  ends_from count requests ran (ends.Held calls) a b c g h = record {
    first = h.first;
    parts = h.parts;
    each = each_from h.first a b c g h.each;
    counted = h.counted;
    fits = h.fits;
    runs = h.runs;
    some = h.some;
  }
  ends_from count requests ran (ends.Refused e) a b c g h = record {
    number = h.number;
    counted = h.counted;
    within = h.within;
    each = each_from (take h.number requests) a b c g h.each;
    cause_is = h.cause_is;
    take_is = h.take_is;
  }

  each_more : (ws : List (List (List ℕ))) (words : List (List ℕ)) (a b c : Place)
      → RunsEach id now ws a b → Runs id words now b c → RunsEach id now (ws ++ words ∷ []) a c
  each_more [] words a b c h run = grind (arith, runs_from, grows_none)
  each_more (w ∷ ws) words a b c (mid, one, rest) run =
      (mid, one, each_more ws words mid b c rest run)

  -- some of the calls ran, and the rest are to come
  pub record Running (count : ℕ) (requests : List (List (List ℕ))) (ran : ℕ)
      (rest : List BookCall) (old k : Place) : Type 0 where
    pub done : List (List (List ℕ))
    pub parts : requests ≡ done ++ requests_in rest
    pub counted : ran ≡ count + length done
    pub fits : ran ≤ length k.seen
    pub each : RunsEach id now done old k
    pub runs : All (IsRunAt id now) rest
    pub within : IsWithin k
    pub admitted : is_admitted (past_of k) id ≡ true

  pub running_begins : (count : ℕ) (calls rest : List BookCall) (k : Place) → rest ≡ calls
      → All (IsRunAt id now) calls → IsWithin k → is_admitted (past_of k) id ≡ true
      → count ≤ length k.seen → Running count (requests_in calls) count rest k k
  running_begins count calls rest k same runs is on le = grind (arith, grows_none, runs)

  module _ (count : ℕ) (requests : List (List (List ℕ))) (ran : ℕ) (rest : List BookCall)
      (old k : Place) (r : Running count requests ran rest old k) where
    all_done : take (length r.done) requests ≡ r.done
    all_done = ap (take (length r.done)) r.parts ∙ take_front r.done (requests_in rest)

    -- the next one was refused
    pub running_refused : (n moment : ℕ) (words : List (List ℕ)) (left : List BookCall)
        → rest ≡ Run n words moment ∷ left → (e : Refusal) (l : Place)
        → Refuses (IsCause runs_on id) e k l → RunsFirst id now count requests ran e old l
    running_refused n moment words left next e l stops =
        let parts : requests ≡ r.done ++ (words ∷ requests_in left)
        = r.parts ∙ ap (λ z. r.done ++ requests_in z) next in
        let long = ap length parts ∙ length-append r.done (words ∷ requests_in left) in
        record {
          number = length r.done;
          counted = r.counted;
          within = omega (arith, long);
          each = subst (λ z. RunsEach id now z old l) (sym all_done)
              (each_then id now r.done old k l r.each stops.grows);
          cause_is = stops.cause_is;
          take_is = λ all. absurd (omega (arith, all, long));
        }

    -- the next one comes back
    pub running_held : (n moment : ℕ) (words : List (List ℕ)) (left : List BookCall)
        → rest ≡ Run n words moment ∷ left → (back : BookCall) → back ≡ Run id words now
        → (end : BatchEnd) → ComesBack (back ∷ left) end → (l : Place) → Grows k l []
        → EndsSo id now count requests ran end old l
    running_held n moment words left next back is (ends.Taken front) h l g = absurd h
    running_held n moment words left next back is (ends.Held calls) h l g =
        let are : requests_in calls.items ≡ requests_in rest
        = ap requests_in (h ∙ ap (λ z. z ∷ left) is) ∙ sym (ap requests_in next) in
        let long = ap length (ap requests_in (h ∙ ap (λ z. z ∷ left) is)) in
        let runs = subst (All (IsRunAt id now)) next r.runs in
        record {
          first = r.done;
          parts = r.parts ∙ ap (λ z. r.done ++ z) (sym are);
          each = each_then id now r.done old k l r.each g;
          counted = r.counted;
          fits = omega (arith, r.fits, ap length g.seen.1, length-append g.seen.0 k.seen);
          runs = subst (All (IsRunAt id now)) (sym (h ∙ ap (λ z. z ∷ left) is))
              (All-cons (IsRunAt id now) (Run id words now) left (refl, refl)
              (All-tail (IsRunAt id now) (Run n words moment) left runs));
          some = omega (arith, long);
        }
    running_held n moment words left next back is (ends.Refused e) h l g =
        subst (λ z. RunsFirst id now count requests ran z old l) (sym h)
        (running_refused n moment words left next refusal.NoMemory l
        (record { grows = g; cause_is = tt }))

    none_left : rest ≡ [] → requests ≡ r.done
    none_left none = r.parts ∙ (ap (λ z. r.done ++ requests_in z) none ∙ append-nil r.done)

    -- all ran, and what waits behind them was taken
    pub running_takes : rest ≡ [] → (front : Option Octets) (l : Place) → Takes id front k l
        → RunsAndTakes id now count requests ran front old l
    running_takes none front l takes = grind (arith, none_left)

    pub running_ends : rest ≡ [] → (e : Refusal) (l : Place)
        → Refuses (IsCause gives_on id) e k l → RunsFirst id now count requests ran e old l
    running_ends none e l stops =
        let long = ap length (none_left none) in
        record {
          number = length r.done;
          counted = r.counted;
          within = omega (arith, long);
          each = subst (λ z. RunsEach id now z old l) (sym all_done)
              (each_then id now r.done old k l r.each stops.grows);
          cause_is = ungiven_unrun id e l stops.cause_is;
          take_is = λ all. stops.cause_is;
        }

    pub running_more : (n moment : ℕ) (words : List (List ℕ)) (left : List BookCall)
        → rest ≡ Run n words moment ∷ left → (l : Place) → Runs id words now k l
        → Running count requests (ran + 1) left old l
    running_more n moment words left is l run =
        let longer = seen_longer id now words k l run in
        let runs = subst (All (IsRunAt id now)) is r.runs in
        let long = length-append r.done (words ∷ []) in
        record {
          done = r.done ++ words ∷ [];
          parts = grind (arith, append_assoc);
          counted = omega (arith, r.counted, long);
          fits = omega (arith, r.fits, longer);
          each = each_more r.done words old k l r.each run;
          runs = All-tail (IsRunAt id now) (Run n words moment) left runs;
          within = run.grows.within;
          admitted = begins_lift (λ past. is_admitted past id ≡ true) (admitted_more id)
              (past_of k) (past_of l) (grows_past k l _ run.grows) r.admitted;
        }

-- each of the calls is a Run
pub runs_alone : (id now : ℕ) (rest left : List BookCall) (call : BookCall)
    → All (IsRunAt id now) rest → rest ≡ call ∷ left
    → ((n : ℕ) (words : List (List ℕ)) (moment : ℕ) → call ≡ Run n words moment → ⊥) → ⊥
runs_alone id now rest left call runs is other = grind (arith, by_run, runs)

-- the lock played none of them
pub unplayed_grows : (e : Unplayed) (n : ℕ) (k l : Place) → IsWithin k → k.tickets ≤ l.tickets
    → IsUnplayed e n k l → Grows k l []
unplayed_grows unplayed.NoMemory n k l is le same =
    subst (λ z. Grows k z []) (sym same) (grows_none k is)
unplayed_grows (unplayed.Worn w) n k l is le (few, want, same) =
    let at = ap (λ (z : Place). z.tickets) same in
    grows_worn k l w.tickets is (omega (arith, at, le)) same
