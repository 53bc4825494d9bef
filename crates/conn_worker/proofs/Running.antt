-- The requests that a connection has read are read as calls, and run.
use Rattle.std.proofs.Common.{◌≡◌, ◌<◌, ℕ, List, [], ◌∷◌, ◌++◌, length, max, Some, refl, sym}
use Rattle.std.proofs.Common.{ap, subst, ◌∙◌, arith, append_assoc, take, append-nil, drop, Ok}
use Rattle.std.proofs.Common.{None, true, false, Bool, zero, suc, ◌≤◌, ◌+◌, inl, inr}
use Rattle.std.specs.Prelude.{Option, IfSome, ◌⊎◌}
use Rattle.std.specs.List.{All}
use Rattle.std.proofs.lemmas.List.{take-append-drop, length-take-le}
use Rattle.std.proofs.lemmas.List.Elements.{All-nil, All-cons, All-append}
use Rattle.resp_stream.specs.declared.fault.StreamFault.{StreamFault}
use Rattle.resp_stream.specs.declared.fault.StreamFault.TheVariants as fault
use Rattle.resp_stream.specs.Parsed.{More, Whole}
use Rattle.resp_stream.specs.Parse.{Batch, parse}
use Rattle.resp_value.specs.declared.octets.Words.{Words}
use Rattle.resp_stream.specs.Readers.{skipped, IsFaultOf, FaultGives, RequestGives}
use Rattle.resp_stream.specs.Request.{request_at, skip_empty}
use Rattle.resp_stream.specs.Stream.{Stream, moved_on, fault_place}
use Rattle.resp_stream.specs.declared.fault.FaultPlace.{FaultPlace}
use Rattle.resp_stream.proofs.Parse.{parse_whole, parse_bad, parse_more, shorter}
use Rattle.serial_model.specs.declared.history.Entry.TheVariants as entry
use Rattle.serial_model.specs.declared.history.BookCall.{BookCall}
use Rattle.serial_model.specs.declared.history.BookCall.TheVariants.{Admit, Run, Tick, Take, Close}
use Rattle.serial_model.specs.History.{gives_on, is_admitted, is_quit, latest, runs_on}
use Rattle.turn_lock.specs.Own.{IsWithin, Grows, past_of}
use Rattle.shared_book.specs.Turns.{Place, Turn, IsCause, limits_of}
use Rattle.shared_book.specs.Batches.{IsRunAt, requests_in, RunsEach, RunsFirst}
use Rattle.shared_book.specs.declared.turns.Refusal.{Refusal}
use Rattle.shared_book.specs.declared.turns.Refusal.TheVariants as refusal
use Rattle.shared_book.proofs.Histories.{admitted_more, begins_lift}
use Rattle.turn_lock.proofs.Growing.{grows_none, grows_past, grows_then, order_append}
use Rattle.conn_worker.specs.declared.report.Ended.TheVariants.{NoMemory}
use Rattle.conn_worker.specs.declared.connection.Connection.{Connection}
use Rattle.conn_worker.specs.declared.connection.Stop.{Stop}
use Rattle.conn_worker.specs.declared.connection.Stop.TheVariants as stop
use Rattle.conn_worker.specs.Elsewhere.{HasQuit}
use Rattle.conn_worker.specs.Quits.{stop_behind, up_to_quit}
use Rattle.conn_worker.specs.Visits.{IsWork, IsEnd, runs_in, gave, ended_by, ReadsAll}
use Rattle.conn_worker.specs.Visits.{run_in, stop_of_reader}
use Rattle.conn_worker.specs.Parts.{Requests, RunsSome}
use Rattle.conn_worker.proofs.Leaving.{had_ended_off, had_ended_ungiven, has_quit_now, has_quit_on}
use Rattle.conn_worker.proofs.Stopping.{NoQuits, any_left, any_quit, front_none, none_in}
use Rattle.conn_worker.proofs.Stopping.{no_quits_more, none_quit, stop_joined, stop_quit}
use Rattle.conn_worker.proofs.Stopping.{unclosed_in, until_joined, until_quit}

-- what was read so far, and what is left of it
pub record Reading (before now : Connection) (calls : List BookCall) : Type 0 where
  pub id : now.id ≡ before.id
  pub requests : now.requests ≡ before.requests
  pub items : (parse before.reader).items ≡ requests_in calls ++ (parse now.reader).items
  pub no_quits : NoQuits (requests_in calls)
  pub stream : (parse now.reader).stream ≡ (parse before.reader).stream
  pub fault : (parse now.reader).fault ≡ (parse before.reader).fault

requests_append : (calls : List BookCall) (id now : ℕ) (words : List (List ℕ))
    → requests_in (calls ++ Run id words now ∷ []) ≡ requests_in calls ++ words ∷ []
requests_append [] id now words = refl
requests_append (Admit ∷ calls) id now words = requests_append calls id now words
requests_append (Run n w m ∷ calls) id now words = grind (arith, requests_append calls id now words)
requests_append (Tick m ∷ calls) id now words = requests_append calls id now words
requests_append (Take n m ∷ calls) id now words = requests_append calls id now words
requests_append (Close n ∷ calls) id now words = requests_append calls id now words

abbrev Read : Type 0
Read = Batch (List (List ℕ))

-- why nothing is read behind these, and what was read behind them
abbrev stop_at : Requests → Read → Option Stop
stop_at ws b = stop_behind (ws ++ b.items) b.fault

abbrev with_first : List (List ℕ) → Read → Read
with_first words b = record { items = words ∷ b.items; stream = b.stream; fault = b.fault }

module _ (before now : Connection) (calls : List BookCall) (r : Reading before now calls) where
  -- what all of it runs, and why nothing is read behind it, by what is left of it
  until_left : (b : Read) → parse now.reader ≡ b
      → up_to_quit (parse before.reader).items ≡ requests_in calls ++ up_to_quit b.items
  until_left b is =
      ap up_to_quit (r.items ∙ ap (λ (z : Read). requests_in calls ++ z.items) is)
      ∙ until_joined (requests_in calls) b.items r.no_quits

  stop_left : (b : Read) → parse now.reader ≡ b
      → stop_of_reader before ≡ stop_behind b.items b.fault
  stop_left b is =
      ap (λ z. stop_behind z (parse before.reader).fault) r.items
      ∙ ap (λ z. stop_behind (requests_in calls ++ (parse now.reader).items) z) (sym r.fault)
      ∙ ap (stop_at (requests_in calls)) is
      ∙ stop_joined (requests_in calls) b.items b.fault r.no_quits

  -- one more was read
  module _ (words : List (List ℕ)) (s : Stream) (moment : ℕ)
      (is : request_at (skip_empty now.reader.rest) ≡ Whole words s.rest)
      (moved : s ≡ moved_on now.reader s.rest) (more : List BookCall)
      (same : more ≡ calls ++ Run now.id words moment ∷ []) where
    requests_more : requests_in more ≡ requests_in calls ++ words ∷ []
    requests_more = ap requests_in same ∙ requests_append calls now.id moment words

    whole : parse now.reader ≡ with_first words (parse s)
    whole = parse_whole now.reader words s.rest is
        ∙ ap (λ (z : Stream). with_first words (parse z)) (sym moved)

    pub reading_more : is_quit words ≡ false → Reading before (record now { reader = s }) more
    reading_more on = record {
      id = r.id;
      requests = r.requests;
      items = r.items
          ∙ ap (λ (z : Read). requests_in calls ++ z.items) whole
          ∙ sym (append_assoc (requests_in calls) (words ∷ []) (parse s).items)
          ∙ ap (λ z. z ++ (parse s).items) (sym requests_more);
      no_quits = subst NoQuits (sym requests_more)
          (no_quits_more (requests_in calls) words r.no_quits on);
      stream = ap (λ (z : Read). z.stream) (sym whole) ∙ r.stream;
      fault = ap (λ (z : Read). z.fault) (sym whole) ∙ r.fault;
    }

    -- and it is a QUIT
    pub reading_quit : is_quit words ≡ true
        → ReadsAll (Some stop.Quit) before (record now { reader = s }) more
    reading_quit on = record {
      items = requests_more
          ∙ ap (λ z. requests_in calls ++ z) (sym (until_quit words (parse s).items on))
          ∙ sym (until_left _ whole);
      stop_is = sym (stop_left _ whole ∙ stop_quit words (parse s).items (parse s).fault on);
      reader = λ none. absurd (let no : ⊥ = cc in no);
    }

  -- nothing more is whole
  pub reading_over : (s : Stream) → request_at (skip_empty now.reader.rest) ≡ More
      → s ≡ skipped now.reader → ReadsAll None before (record now { reader = s }) calls
  reading_over s is past =
      let b = parse_more now.reader is in
      record {
        items = sym (until_left _ b ∙ append-nil (requests_in calls));
        stop_is = sym (stop_left _ b);
        reader = λ none. past ∙ sym (ap (λ (z : Read). z.stream) b) ∙ r.stream;
      }

  faulty : (s : Stream) (f : StreamFault) → IsFaultOf request_at (skipped now.reader) f
      → ReadsAll (Some (stop.Fault f)) before (record now { reader = s }) calls
  faulty s f bad =
      let b = parse_bad now.reader bad.fault bad.left bad.is in
      record {
        items = sym (until_left _ b ∙ append-nil (requests_in calls));
        stop_is = ap (λ z. Some (stop.Fault z)) bad.place ∙ sym (stop_left _ b);
        reader = λ none. absurd (let no : ⊥ = cc in no);
      }

  -- the bytes are at fault
  pub reading_bad : (s : Stream) (f : StreamFault) (place : FaultPlace)
      → FaultGives request_at (skipped now.reader) now.reader s f → Some place ≡ fault_place f
      → ReadsAll (Some (stop.Fault f)) before (record now { reader = s }) calls
  reading_bad s fault.NoMemory place g at = absurd (let none : ⊥ = cc in none)
  reading_bad s (fault.BadByte o) place g at = faulty s (fault.BadByte o) g.0
  reading_bad s (fault.TooLong o n) place g at = faulty s (fault.TooLong o n) g.0
  reading_bad s (fault.TooDeep o) place g at = faulty s (fault.TooDeep o) g.0
  reading_bad s (fault.NotServed o b) place g at = faulty s (fault.NotServed o b) g.0

pub runs_more : (id now : ℕ) (calls more : List BookCall) (n : ℕ) (words : List (List ℕ))
    → All (IsRunAt id now) calls → n ≡ id → more ≡ calls ++ Run n words now ∷ []
    → All (IsRunAt id now) more
runs_more id now calls more n words runs same is =
    subst (All (IsRunAt id now)) (sym is)
    (All-append (IsRunAt id now) calls (Run n words now ∷ []) runs
    (All-cons (IsRunAt id now) (Run n words now) [] (same, refl) (All-nil (IsRunAt id now))))

pub reading_less : (now new : Stream) (words : List (List ℕ))
    → request_at (skip_empty now.rest) ≡ Whole words new.rest → length new.rest < length now.rest
reading_less now new words is = shorter now.rest new.rest words is

pub gives_at : (old new : Stream) (r s : Option Words) → RequestGives old new (Ok r) → r ≡ s
    → RequestGives old new (Ok s)
gives_at old new r s g e = subst (λ x. RequestGives old new (Ok x)) e g

-- ---- what was read ran

-- the turns that ran these requests
pub record Ran (clock : Option ℕ) (id : ℕ) (ws : List (List (List ℕ))) (old new : Place) : Type 0
  where
    pub turns : List Turn
    pub grows : Grows old new turns
    pub work : All (IsWork id clock) turns
    pub gave_none : gave (limits_of old) turns ≡ []
    pub runs : runs_in turns ≡ ws
    pub quits : any_quit ws ≡ true → HasQuit id new

pub each_ran : (clock : Option ℕ) (id now : ℕ) → IfSome clock (λ m. now ≡ m)
    → (ws : List (List (List ℕ))) (old new : Place) → RunsEach id now ws old new
    → Ran clock id ws old new
each_ran clock id now is [] old new h = record {
  turns = [];
  grows = h;
  work = All-nil (IsWork id clock);
  gave_none = refl;
  runs = refl;
  quits = λ any. absurd (let no : ⊥ = cc in no);
}
each_ran clock id now is (w ∷ ws) old new (mid, run, rest) =
    let r = each_ran clock id now is ws mid new rest in
    let t : Turn = (entry.Run id w (max now (latest run.past)), run.past) in
    record {
      turns = r.turns ++ t ∷ [];
      grows = grows_then old mid new (t ∷ []) r.turns run.grows r.grows;
      work = All-append (IsWork id clock) r.turns (t ∷ []) r.work
          (grind arith);
      gave_none = grind (arith, order_append);
      runs = order_append run_in r.turns (t ∷ []) ∙ ap (λ z. w ∷ z) r.runs;
      quits = λ any. elim (any_left (is_quit w) (any_quit ws) any) [
        | inl quit ↦ has_quit_on id mid new r.grows.setup (grows_past mid new r.turns r.grows)
            (has_quit_now id w now old mid run quit)
        | inr more ↦ r.quits more
      ];
    }

-- what a refusal shows behind the first so many of these requests, of which all but the last are no
-- QUIT
part_ends : (id : ℕ) (clock : Option ℕ) (e : Refusal) (ws : Requests) (ts : List Turn)
    (number : ℕ) (k : Place) → is_admitted (past_of k) id ≡ true → All (IsWork id clock) ts
    → number ≤ length ws → runs_in ts ≡ take number ws
    → (number < length ws → NoQuits (take number ws))
    → (any_quit (take number ws) ≡ true → HasQuit id k) → IsCause runs_on id e k
    → (number ≡ length ws → IsCause gives_on id e k) → IsEnd (ended_by e) id ts k
part_ends id clock refusal.Dropped ws ts number k there work le is front quits run give =
    let closed = unclosed_in id id clock ts work in
    elim (cases_le number (length ws) le) [
      | inl less ↦ had_ended_off id ts k there run closed
          (none_in id ts (subst NoQuits (sym is) (front less)))
      | inr all ↦ by_quit (any_quit (take number ws))
          (λ any. absurd (not_both _ (quits any).gives (give all)))
          (λ none. had_ended_ungiven id ts k there (give all) closed
          (none_in id ts (subst NoQuits (sym is) (none_quit (take number ws) none))))
    ]
  where
    cases_le : (a b : ℕ) → a ≤ b → (a < b) ⊎ (a ≡ b)
    cases_le zero zero le = inr refl
    cases_le zero (suc b) le = inl (omega arith)
    cases_le (suc a) zero le = absurd (omega (arith, le))
    cases_le (suc a) (suc b) le = elim (cases_le a b (omega (arith, le))) [
      | inl lt ↦ inl (omega (arith, lt))
      | inr is ↦ inr (ap suc is)
    ]

    not_both : (b : Bool) → b ≡ true → b ≡ false → ⊥
    not_both b e f = let no : true ≡ false = sym e ∙ f in cc

    by_quit : {X : Type 0} (b : Bool) → (b ≡ true → X) → (b ≡ false → X) → X
    by_quit true f g = f refl
    by_quit false f g = g refl
part_ends id clock refusal.NoMemory ws ts number k there work le is front quits run give = tt
part_ends id clock refusal.Worn ws ts number k there work le is front quits run give = run
part_ends id clock refusal.Stopped ws ts number k there work le is front quits run give = absurd run

-- the first of these requests ran, and a turn was refused
pub some_ran : (id now count ran : ℕ) (ws : Requests) (e : Refusal) (old new : Place)
    → up_to_quit ws ≡ ws → is_admitted (past_of old) id ≡ true
    → RunsFirst id now count ws ran e old new
    → (some : RunsSome now (ended_by e) id ws old new)
    × (ran ≡ count + length (runs_in some.turns))
some_ran id now count ran ws e old new last on t =
    let first = each_ran (Some now) id now refl (take t.number ws) old new t.each in
    let long = ap length first.runs in
    let front = length-take-le t.number ws t.within in
    let there = begins_lift (λ past. is_admitted past id ≡ true) (admitted_more id) (past_of old)
    (past_of new) (grows_past old new first.turns first.grows) on in (
      record {
        turns = first.turns;
        grows = first.grows;
        work = first.work;
        gave_none = first.gave_none;
        runs = (
          drop t.number ws,
          ap (λ z. z ++ drop t.number ws) first.runs ∙ take-append-drop t.number ws,
        );
        cause_is = part_ends id (Some now) e ws first.turns t.number new there first.work t.within
            first.runs
            (λ less. subst (λ z. NoQuits (take t.number z)) last
            (front_none ws t.number (subst (λ z. t.number < length z) (sym last) less)))
            first.quits t.cause_is t.take_is;
      },
      omega (arith, t.counted, long, front),
    )

-- memory ran out before any of them ran
pub none_ran : (now id : ℕ) (ws : Requests) (k : Place) → IsWithin k
    → (some : RunsSome now NoMemory id ws k k) × (length (runs_in some.turns) ≡ 0)
none_ran now id ws k is = (
  record {
    turns = [];
    grows = grows_none k is;
    work = All-nil (IsWork id (Some now));
    gave_none = refl;
    runs = (ws, refl);
    cause_is = tt;
  },
  refl,
)
