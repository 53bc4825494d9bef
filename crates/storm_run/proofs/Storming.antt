-- A storm played so far, and how an event takes it on or brings it to an end.
use Rattle.std.proofs.Common.{◌≡◌, ◌≤◌, ◌+◌, ℕ, Bool, true, false, List, [], ◌∷◌, ◌++◌, Some}
use Rattle.std.proofs.Common.{Ok, Err, length, refl, sym, ap, subst, ◌∙◌, append_assoc, append-nil}
use Rattle.std.proofs.Common.{arith, length-append}
use Rattle.std.specs.List.{count_by}
use Rattle.std.proofs.lemmas.List.Sums.{sum_by-append}
use Rattle.shared_cache.proofs.Every.{every_append}
use Rattle.script_text.specs.declared.event.Event.{Event}
use Rattle.script_text.specs.declared.line.Line.{Line}
use Rattle.script_text.specs.Storm.{storm}
use Rattle.script_text.specs.Valid.{IsValid}
use Rattle.server_links.specs.declared.fault.WorldFault.{WorldFault}
use Rattle.server_links.specs.declared.fault.WorldFault.TheVariants as fault
use Rattle.server_links.specs.Outcome.{Stops}
use Rattle.world_run.specs.Counts.{all_held}
use Rattle.world_run.specs.WorldState.{WorldState}
use Rattle.world_run.specs.World.{step}
use Rattle.world_run.specs.WorldTranscript.{after, transcript}
use Rattle.world_run.proofs.Played.{event_more}
use Rattle.storm_laws.specs.Storms.{IsPlayed, StormsArePlayed}
use Rattle.storm_run.specs.declared.play.Unplayed.{Unplayed}
use Rattle.storm_run.specs.declared.play.Unplayed.TheVariants.{HistoryFull, NoMemory}
use Rattle.storm_run.specs.declared.tally.Tally.{Tally}
use Rattle.storm_run.specs.Storming.{EndsStorm, FindsFull, IsFresh, IsPlayedNext, MeetsFullLog}
use Rattle.storm_run.specs.Storming.{NextComes, Played, SumsUp, Tallied, five_lines, is_hit}
use Rattle.storm_run.specs.Storming.{is_miss}
use Rattle.storm_run.proofs.Counting.{few_events}

-- ---- an event

-- one that only a full log stops meets no other fault
pub no_other : (w : WorldState) (event : Event) → IsPlayed w event → (f : WorldFault)
    (lines lines' : List Line) (new : WorldState) → Stops (step w event) lines f new lines'
    → (f ≡ fault.NoMemory → ⊥) → ((entries : ℕ) → f ≡ fault.HistoryFull entries → ⊥) → ⊥
no_other w event played fault.NoName lines lines' new s poor full = played fault.NoName s.0
no_other w event played fault.NameTaken lines lines' new s poor full = played fault.NameTaken s.0
no_other w event played fault.NothingThere lines lines' new s poor full =
    played fault.NothingThere s.0
no_other w event played fault.NoMemory lines lines' new s poor full = poor refl
no_other w event played (fault.Refused k) lines lines' new s poor full =
    played (fault.Refused k) s.0
no_other w event played (fault.HistoryFull k) lines lines' new s poor full = full k refl

-- ---- a storm on its way

-- events of it were played, and these are left; the next has this place
pub record Storming (first : WorldState) (number steps place : ℕ) (w : WorldState)
    (left : List Event) (tally : Tally) : Type 0 where
  pub fresh : IsFresh first
  pub events : List Event
  pub split : events ++ left ≡ storm number steps
  pub placed : place ≡ length events + 1
  pub tallied : Tallied first events w tally

pub storm_begun : (number steps : ℕ) (first : WorldState) (left : List Event) (tally : Tally)
    → IsFresh first → left ≡ storm number steps → tally.hits ≡ 0 → tally.misses ≡ 0
    → Storming first number steps 1 first left tally
storm_begun number steps first left tally fresh whole hits misses = record {
  fresh = fresh;
  events = [];
  split = whole;
  placed = refl;
  tallied = record { valid = tt; played = refl; hits = hits; misses = misses };
}

count_more : (test : Line → Bool) (xs ys : List Line)
    → count_by test (xs ++ ys) ≡ count_by test xs + count_by test ys
count_more test xs ys = sum_by-append _ xs ys

module _ (first : WorldState) (number steps place : ℕ) (w : WorldState) (left rest : List Event)
    (event : Event) (tally : Tally) (s : Storming first number steps place w left tally)
    (taken : left ≡ event ∷ rest) where
  split : s.events ++ event ∷ rest ≡ storm number steps
  split = ap (λ l. s.events ++ l) (sym taken) ∙ s.split

  -- but for a full log it is played
  played_next : StormsArePlayed → IsPlayed w event
  played_next law =
      let f = s.fresh in
      law f.0 f.1 number steps s.events rest event w split
      (subst (λ x. after x s.events ≡ Some w) f.2 s.tallied.played)

  -- it was played
  more_played : (new : WorldState) (more : Tally) → IsValid event → Played w event tally new more
      → Storming first number steps (place + 1) new rest more
  more_played new more good comes =
      let t = s.tallied in
      let events = s.events ++ event ∷ [] in
      let on = event_more first w s.events event t.played comes.fault in
      record {
        fresh = s.fresh;
        events = events;
        split = append_assoc s.events (event ∷ []) rest ∙ split;
        placed =
            let p = s.placed in
            omega (arith, p, length-append s.events (event ∷ []));
        tallied = record {
          valid = every_append IsValid s.events (event ∷ []) t.valid (good, tt);
          played = on.0 ∙ ap Some (sym comes.state);
          hits = comes.hits
              ∙ ap (λ n. n + count_by is_hit (step w event).lines) t.hits
              ∙ sym (count_more is_hit (transcript first s.events) (step w event).lines)
              ∙ ap (count_by is_hit) (sym on.1);
          misses = comes.misses
              ∙ ap (λ n. n + count_by is_miss (step w event).lines) t.misses
              ∙ sym (count_more is_miss (transcript first s.events) (step w event).lines)
              ∙ ap (count_by is_miss) (sym on.1);
        };
      }

  -- it found a full log
  full : FindsFull w event → MeetsFullLog first number steps
  full f = record {
    played = s.events;
    event = event;
    left = rest;
    w = w;
    entries = f.0;
    split = split;
    leads = s.tallied.played;
    is_full = f.1;
  }

module _ (first : WorldState) (number steps place : ℕ) (w : WorldState) (left : List Event)
    (tally : Tally) (s : Storming first number steps place w left tally) where
  pub next_is_played : StormsArePlayed → IsPlayedNext w left
  next_is_played law event rest taken =
      played_next first number steps place w left rest event tally s taken law

  -- an event was played
  pub storm_more : (new : WorldState) (rest : List Event) (more : Tally) (one : Bool)
      → one ≡ true → NextComes w left tally (Ok one) new rest more
      → Storming first number steps (place + 1) new rest more
  storm_more new rest more true is comes =
      more_played first number steps place w left rest comes.0 tally s comes.1 new more comes.2
      comes.3
  storm_more new rest more false is comes = absurd (let no : ⊥ = cc in no)

  -- none was left
  pub storm_over : (new : WorldState) (rest : List Event) (more : Tally)
      → NextComes w left tally (Ok false) new rest more
      → Tallied first (storm number steps) new more
  storm_over new rest more comes =
      subst (λ t. Tallied first (storm number steps) new t) (sym comes.2)
      (subst (λ x. Tallied first (storm number steps) x tally) (sym comes.1)
      (subst (λ es. Tallied first es w tally)
      (sym (append-nil s.events) ∙ ap (λ l. s.events ++ l) (sym comes.0) ∙ s.split) s.tallied))

  -- one was not played
  pub storm_ends : (e : Unplayed) (new : WorldState) (rest : List Event) (more : Tally)
      → NextComes w left tally (Err e) new rest more → EndsStorm first number steps e
  storm_ends NoMemory new rest more comes = tt
  storm_ends HistoryFull new rest more comes =
      full first number steps place w left comes.1 comes.0 tally s comes.2 comes.3

  -- a storm of so few steps is over by then
  pub storm_within : steps ≤ 200000 → place ≤ 400008
  storm_within few =
      let n = few_events number steps in
      let p = s.placed in
      let whole = ap length s.split in
      omega (arith, n, p, few, whole, length-append s.events left)

-- ---- what is written

-- the summary is that of the world after the storm
pub summed_up : (first : WorldState) (number steps : ℕ) (w : WorldState) (tally : Tally)
    (text : List ℕ) → Tallied first (storm number steps) w tally
    → text ≡ five_lines steps (length w.links.past) tally.hits tally.misses (all_held w)
    → SumsUp first number steps w text
summed_up first number steps w tally text t is =
    let lines = transcript first (storm number steps) in
    let entries = length w.links.past in
    record {
      valid = t.valid;
      played = t.played;
      text_is = is
          ∙ ap (λ n. five_lines steps entries n tally.misses (all_held w)) t.hits
          ∙ ap (λ n. five_lines steps entries (count_by is_hit lines) n (all_held w)) t.misses;
    }
