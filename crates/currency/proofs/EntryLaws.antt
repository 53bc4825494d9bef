-- The laws of a history for a client of any shape, and a fetch on any of its links: what is needed
-- beside the history's laws is what the client asks of its connections' modes, and that what is due
-- to the fetch's connection lands on a watched link.
use Rattle.std.proofs.Common.{◌≡◌, ◌+◌, ◌-◌, ◌<◌, ◌≤◌, ◌⊎◌, ℕ, suc, List, ◌∷◌, length}
use Rattle.std.proofs.Common.{Bool, true, false, not, Result, Ok, Err, Option, Some, None, refl, ap}
use Rattle.std.proofs.Common.{sym, ◌∙◌, arith, subst, inl, inr}
use Rattle.std.specs.Prelude.{slice_get, ◌&&◌, ◌==◌, ◌||◌, nat_eq}
use Rattle.std.specs.FinMap.{empty}
use Rattle.std.specs.List.{filter, list_any, starts_with}
use Rattle.std.proofs.lemmas.Bool.{and_from, and_parts, both_ways, cases_Bool, eqb-true}
use Rattle.std.proofs.lemmas.Bool.{or_cases, or_from, or_parts, or_right}
use Rattle.std.proofs.lemmas.Bool.Decides.{nat_tests}
use Rattle.std.proofs.lemmas.Option.{same_Some}
use Rattle.resp_value.specs.declared.value.Value.{Value}
use Rattle.resp_value.specs.Carried.{carried}
use Rattle.resp_value.specs.Tree.{Tree}
use Rattle.resp_value.specs.ValueTree.{tree_of}
use Rattle.command_words.specs.Effects.{answer}
use Rattle.command_words.specs.Expiry.{without_due}
use Rattle.command_words.specs.Queries.{key_of, reads_as_cacheable, writes, written_by}
use Rattle.command_words.specs.Space.{Space}
use Rattle.command_words.specs.Words.{reading}
use Rattle.command_words.specs.Laws.{SignalsAreWritten, signals}
use Rattle.command_words.specs.declared.command.Command.{Command}
use Rattle.command_words.specs.declared.command.Signalled.{Signalled}
use Rattle.command_words.specs.declared.command.Signalled.TheVariants as signalled
use Rattle.command_words.specs.declared.command.WordFault.{WordFault}
use Rattle.track_modes.specs.declared.fault.ModeFault.{ModeFault}
use Rattle.track_modes.specs.Commands.{changed, ended, fault_at}
use Rattle.track_modes.specs.ModeState as track
use Rattle.track_modes.specs.ModeState.{ModeState, prefixes_of}
use Rattle.track_modes.specs.declared.tracking.Tracking.{Tracking}
use Rattle.serial_model.specs.declared.history.Limits.{Limits}
use Rattle.serial_model.specs.declared.history.Entry.{Entry}
use Rattle.serial_model.specs.declared.history.Entry.TheVariants.{Admit, Run, Tick}
use Rattle.serial_model.specs.History.{IsLegal, Sending, effect_of, expired, has_ended, is_admitted}
use Rattle.serial_model.specs.History.{keyspace, made, made_of, mode, ran as ran_of}
use Rattle.serial_model.specs.History.{run_entries, runner, runs_of, runs_on, sent, served_reading}
use Rattle.serial_model.specs.History.{state, table}
use Rattle.serial_model.specs.Laws.{ChangeIsSignalled, RegisteredIsMode, covers_key, drops_key}
use Rattle.serial_model.specs.Laws.{has_prefix_of, is_among, is_due}
use Rattle.serial_model.specs.Laws.{is_forgets, is_told, remembers, signals_key, signals_key_to}
use Rattle.serial_model.specs.Laws.{signals_to, stops_tracking}
use Rattle.serial_model.specs.Modes.{Runner, is_confined, memory_of, own_effect}
use Rattle.serial_model.specs.Modes.{unless_refused}
use Rattle.serial_model.specs.State.{State, is_on}
use Rattle.serial_model.proofs.Counts.{on_is}
use Rattle.serial_model.proofs.ModeSteps.{mode_own}
use Rattle.serial_model.proofs.OwedLaws.{read_is_owed_or_told, told_ends_for_cause}
use Rattle.serial_model.proofs.ReadLaws.{read_replies}
use Rattle.serial_model.proofs.ServedRows.{ran_cases}
use Rattle.serial_model.proofs.ToldLaws.{told_is_due}
use Rattle.shared_cache.specs.declared.entry.CacheEntry.{CacheEntry}
use Rattle.shared_cache.specs.declared.log.LogEntry.{LogEntry}
use Rattle.shared_cache.specs.declared.log.Wire.{Wire}
use Rattle.wire_currency.specs.Traffic.{In, Traffic}
use Rattle.wire_currency.specs.Fetch.{EntryLaws, Excused, Fetch, Lands, ToldOn}
use Rattle.currency.specs.Links.{Client, IsGot, is_reply_sent, is_single, traffic_of, up_to}
use Rattle.currency.specs.Current.{fetch_on}
use Rattle.currency.proofs.Covers.{IsToldOf}
use Rattle.currency.proofs.Numbered.{next}
use Rattle.currency.proofs.Placed.{reply_at}
use Rattle.currency.proofs.Replies.{RepliesPass, replies_are_of_runs, reply_some}
use Rattle.currency.proofs.Runs.{Older, RanAt, older_legal, older_tail, older_up_to, runs_there}

-- ---- modes

-- what stops tracking leaves a mode that does not track
leaves_off : (fault : Option ModeFault) (c : Command) (m : ModeState)
    → is_forgets (unless_refused fault c m).memory ≡ true
    → track.is_on (unless_refused fault c m).mode.tracking ≡ false
leaves_off None c m h = command_off c m h
  where
    command_off : (c : Command) (m : ModeState) → is_forgets (memory_of c m) ≡ true
        → track.is_on (ended c (changed c m)).tracking ≡ false
    command_off c m h = grind arith
leaves_off (Some fault) c m h = absurd (let no : ⊥ = cc in no)

stops_leaves : (by : Runner) (r : Result Command WordFault)
    → is_forgets (own_effect r by).memory ≡ true
    → track.is_on (own_effect r by).mode.tracking ≡ false
stops_leaves by (Ok c) h = leaves_off (fault_at c by.target_exists by.mode) c by.mode h
stops_leaves by (Err fault) h = absurd (let no : ⊥ = cc in no)

made_leaves : (words : List (List ℕ)) (by : Runner) → is_forgets (made_of words by).memory ≡ true
    → track.is_on (made_of words by).mode.tracking ≡ false
made_leaves words by =
    ran_cases by words
    (λ e o. is_forgets o.memory ≡ true → track.is_on o.mode.tracking ≡ false) empty 0
    (stops_leaves by (served_reading words)) (λ h. absurd (let no : ⊥ = cc in no))

keeps_tracking : (l : Limits) (e : Entry) (up : List Entry) (c : ℕ)
    → track.is_on (mode l c (e ∷ up)).tracking ≡ true → stops_tracking l e up c ≡ false
keeps_tracking l (Run id words moment) up c tracks =
    elim (id == c) as (λ b. (id == c) ≡ b
    → (b && is_forgets (made l up id words moment).memory) ≡ false) [
      | true ↦ λ own.
          elim (is_forgets (made l up id words moment).memory) as (λ b.
          is_forgets (made l up id words moment).memory ≡ b → b ≡ false) [
            | true ↦ λ forgets.
                let gone = ap (λ (m : ModeState). track.is_on m.tracking)
                (mode_own l c id moment words up own)
                ∙ made_leaves words (runner l up id words moment) forgets in
                absurd (both_ways (track.is_on (mode l c (Run id words moment ∷ up)).tracking) gone
                tracks)
            | false ↦ λ keeps. refl
          ] refl
      | false ↦ λ own. refl
    ] refl
keeps_tracking l e up c tracks = refl

-- ---- an entry that signals a key to others alone

-- the connection itself runs a command that writes the key
pub record OwnWrite (e : Entry) (c : ℕ) (key : List ℕ) : Type 0 where
  pub id : ℕ
  pub words : List (List ℕ)
  pub moment : ℕ
  pub is : e ≡ Run id words moment
  pub own : (id == c) ≡ true
  pub wrote : writes words key ≡ true

-- what is signalled, and not to it, is passed over: it is the command's, and its own
passed_over : (sig : Signalled) (left own noloop : Bool) (key : List ℕ)
    → (left || signals sig key) ≡ true
    → (left || signals_to sig (own && noloop) key) ≡ false
    → (own ≡ true) × (signals sig key ≡ true)
passed_over (signalled.Keys keys) left own noloop key h none =
    by left own noloop (is_among keys key) h none
  where
    by : (left own noloop among : Bool) → (left || among) ≡ true
        → (left || (among && not (own && noloop))) ≡ false → (own ≡ true) × (among ≡ true)
    by left own noloop among h none = (grind arith, grind arith)
passed_over signalled.All left own noloop key h none =
    absurd (both_ways (left || true) none h)

module _ (written : SignalsAreWritten) (l : Limits) (up : List Entry) where
  allowed_written : (by : Runner) (words : List (List ℕ)) (space : Space) (m : ℕ) (key : List ℕ)
      → signals (effect_of by words (served_reading words) space m).signalled key ≡ true
      → writes words key ≡ true
  unfolding written_by
  allowed_written by words space m key h = grind arith

  ran_written : (id : ℕ) (words : List (List ℕ)) (m : ℕ) (key : List ℕ)
      → signals (ran_of l up id words m).signalled key ≡ true → writes words key ≡ true
  ran_written id words m key =
      let by = runner l up id words m in
      let space = without_due m (keyspace l up) in
      ran_cases by words (λ e o. signals e.signalled key ≡ true → writes words key ≡ true) space m
      (allowed_written by words space m key) (λ h. absurd (let no : ⊥ = cc in no))

  own_write : (c : ℕ) (key : List ℕ) (e : Entry) → signals_key l e up key ≡ true
      → signals_key_to l e up c key ≡ false → OwnWrite e c key
  own_write c key (Run id words moment) h none =
      let p = passed_over (ran_of l up id words moment).signalled
      (is_among (expired l up moment) key) (id == c)
      (track.is_noloop ((state l up).modes c).tracking) key h none in
      record {
        id = id;
        words = words;
        moment = moment;
        is = refl;
        own = p.0;
        wrote = ran_written id words moment key p.1;
      }
  own_write c key (Tick moment) h none =
      absurd (both_ways (is_among (expired l up moment) key) none h)
  own_write c key e h none = absurd (let no : ⊥ = cc in no)

left_of : (a b : Bool) → b ≡ false → (a || b) ≡ true → a ≡ true
left_of a b e h = grind arith

none_dropped : (held dropped : Bool) → held ≡ true → (held && dropped) ≡ false → dropped ≡ false
none_dropped held dropped is h = grind arith

-- an entry leaves those that were admitted
still_admitted : (e : Entry) (up : List Entry) (c : ℕ) → is_admitted up c ≡ true
    → is_admitted (e ∷ up) c ≡ true
still_admitted (Admit id) up c h = grind (arith, nat_tests)
still_admitted e up c h = h

still_runs : (l : Limits) (e : Entry) (up : List Entry) (c : ℕ) → runs_on l up c ≡ true
    → has_ended l c (e ∷ up) ≡ false → runs_on l (e ∷ up) c ≡ true
still_runs l e up c on live =
    and_from _ _
    (still_admitted e up c (and_parts (is_admitted up c) (not (has_ended l c up)) on).0)
    (ap not live)

module _ (l : Limits) (up : List Entry) (c : ℕ) (key : List ℕ) where
  abbrev s : State
  s = state l up

  -- one that is told has not ended
  told_runs : is_told l up c key ≡ true → runs_on l up c ≡ true
  told_runs told =
      sym (on_is l up c)
      ∙ (and_parts (is_on s c) (remembers s.table c key || has_prefix_of s.prefixes c key) told).0

  module _ (registered : RegisteredIsMode) (legal : IsLegal l up) where
    -- one that has a prefix of the key is told
    told_by_prefix : runs_on l up c ≡ true → covers_key (mode l c up) key ≡ true
        → is_told l up c key ≡ true
    told_by_prefix on starts =
        let live = on_is l up c ∙ on in
        and_from _ _ live
        (or_right _ _ (registered l c up key legal ∙ and_from _ _ live starts))

    -- one that has none remembers the key
    told_remembers : is_told l up c key ≡ true → covers_key (mode l c up) key ≡ false
        → remembers s.table c key ≡ true
    told_remembers told none =
        left_of (remembers s.table c key) (has_prefix_of s.prefixes c key)
        (registered l c up key legal ∙ ends_so (is_on s c) none)
        (and_parts (is_on s c) (remembers s.table c key || has_prefix_of s.prefixes c key) told).1
      where
        ends_so : (on : Bool) → covers_key (mode l c up) key ≡ false
            → (on && covers_key (mode l c up) key) ≡ false
        ends_so on e = grind arith

-- ---- a fetch's Run, with the modes that it met

pub record Read (l : Limits) (x : Client) (past : List Entry) (home : Wire) (h : CacheEntry)
    (AsAsked : List Entry → Type 0) (at : ℕ) : Type 0 where
  pub run : RanAt (x.id home) past (h.number - 1) at
  pub before : AsAsked run.up
  pub told_of : IsToldOf (mode l (x.id home) run.up) (key_of h.query)

module _ (l : Limits) (x : Client) (past : List Entry) (home : Wire) (watched : List Wire)
    (home_watched : In home watched) (legal : IsLegal l past)
    (pass : RepliesPass (is_reply_sent x.setup.mode home) l (x.id home) past) (h : CacheEntry)
    (serves : reads_as_cacheable (served_reading h.query) ≡ true)
    (cacheable : reads_as_cacheable (reading h.query) ≡ true) where
  abbrev T : Traffic Wire LogEntry (List (List ℕ)) Value Sending
  T = traffic_of l x past

  abbrev F : Fetch Wire (List (List ℕ)) Value Tree
  F = fetch_on l x past home watched h

  legal_older : (up : List Entry) → Older up past → IsLegal l up
  legal_older up o = older_legal l o.newer up (subst (IsLegal l) (sym o.is) legal)

  module _ (AsAsked : List Entry → Type 0) (asked : Tracking)
      (tracks : track.is_on asked ≡ true)
      (settings : (up : List Entry) → AsAsked up → (mode l (x.id home) up).tracking ≡ asked)
      (protocols : (up : List Entry) → AsAsked up
      → (mode l (x.id home) up).proto ≡ x.setup.mode.proto)
      (free : (up : List Entry) → Older up past → is_confined (mode l (x.id home) up) ≡ false)
      (landed : (e : Entry) (up : List Entry) → Older (e ∷ up) past
      → runs_on l up (x.id home) ≡ true
      → is_due l e up (x.id home) (key_of h.query) ≡ true → AsAsked up → AsAsked (e ∷ up)
      → ((w : Wire) → In w watched → has_ended l (x.id w) (e ∷ up) ≡ false)
      → Lands IsGot T F (length up + 1))
      (law : ChangeIsSignalled) (written : SignalsAreWritten) (registered : RegisteredIsMode) where
    run_is : (at : ℕ) (t : Read l x past home h AsAsked at)
        → up_to at past ≡ Run t.run.id t.run.words t.run.moment ∷ t.run.up
    run_is at t =
        let e = Run t.run.id t.run.words t.run.moment in
        let n = t.run.at in
        ap (λ k. up_to k past) (let is : at ≡ length (e ∷ t.run.up) = omega (arith, n) in is)
        ∙ older_up_to (e ∷ t.run.up) past t.run.older

    words_are : (at : ℕ) (t : Read l x past home h AsAsked at)
        → slice_get (runs_of (x.id home) past) (h.number - 1) ≡ Some h.query
        → t.run.words ≡ h.query
    words_are at t there = same_Some t.run.words h.query (sym t.run.words_are ∙ there)

    reply_read : (at : ℕ) → slice_get (run_entries (x.id home) past) (h.number - 1) ≡ Some at
        → slice_get (runs_of (x.id home) past) (h.number - 1) ≡ Some h.query
        → (t : Read l x past home h AsAsked at)
        → AsAsked (up_to at past) → (s : ℕ × Sending) (v : Value)
        → slice_get (filter (λ (s : ℕ × Sending). is_reply_sent x.setup.mode home s.1)
        (sent l (x.id home) past)) (h.number - 1) ≡ Some s
        → IsGot v s.1
        → tree_of v ≡ carried x.setup.mode.proto (tree_of (answer h.query (keyspace l
        (up_to at past))))
    reply_read at ran there t good s v e got =
        let c = x.id home in
        let p = reply_at l c past (h.number - 1) s
        (ap (λ ss. slice_get ss (h.number - 1))
        (sym (replies_are_of_runs (is_reply_sent x.setup.mode home) l c past legal pass)) ∙ e) in
        let run = Run p.id p.words p.moment in
        let number : length p.up + 1 ≡ at =
        same_Some (length p.up + 1) at (sym p.entry ∙ ran) in
        let all : up_to at past ≡ run ∷ p.up =
        ap (λ n. up_to n past) (let m : at ≡ length (run ∷ p.up) = omega (arith, number) in m)
        ∙ older_up_to (run ∷ p.up) past p.older in
        let both : run ∷ p.up ≡ Run t.run.id t.run.words t.run.moment ∷ t.run.up =
        sym all ∙ run_is at t in
        let words : p.words ≡ h.query =
        (let same : p.words ≡ t.run.words = cc in same) ∙ words_are at t there in
        let fits : (made l p.up p.id p.words p.moment).mode.proto ≡ x.setup.mode.proto =
        ap (λ (m : ModeState). m.proto) (sym (mode_own l c p.id p.moment p.words p.up p.own))
        ∙ ap (λ u. (mode l c u).proto) (sym all) ∙ protocols (up_to at past) good in
        let reads = sym (reply_some l p.up p.id p.words p.moment
        (pass.own p.id p.moment p.words p.up p.older p.own).goes_on)
        ∙ read_replies l p.id p.moment p.words p.up
        (ap (λ ws. reads_as_cacheable (served_reading ws)) words ∙ serves)
        (ap (λ d. is_confined (mode l d p.up)) (eqb-true p.id c p.own)
        ∙ free p.up (older_tail run p.up past p.older)) in
        subst (IsGot v) p.reply got
        ∙ ap (λ o. carried o (tree_of (ran_of l p.up p.id p.words p.moment).reply)) fits
        ∙ ap (λ a. carried x.setup.mode.proto (tree_of a))
        (same_Some (ran_of l p.up p.id p.words p.moment).reply
        (answer p.words (keyspace l (run ∷ p.up))) reads
        ∙ ap (λ ws. answer ws (keyspace l (run ∷ p.up))) words
        ∙ ap (λ u. answer h.query (keyspace l u)) (sym all))

    -- what its mode covers before an entry, it covers behind it
    covers_on : (up all : List Entry) → AsAsked up → AsAsked all
        → covers_key (mode l (x.id home) up) (key_of h.query) ≡ true
        → covers_key (mode l (x.id home) all) (key_of h.query) ≡ true
    covers_on up all before after starts =
        ap (λ t. list_any (λ p. starts_with nat_eq (key_of h.query) p) (prefixes_of t))
        (settings all after ∙ sym (settings up before))
        ∙ starts

    told_at_run : (at : ℕ)
        → slice_get (runs_of (x.id home) past) (h.number - 1) ≡ Some h.query
        → (t : Read l x past home h AsAsked at)
        → AsAsked (up_to at past)
        → ((w : Wire) → In w watched → has_ended l (x.id w) (up_to at past) ≡ false)
        → (is_told l (up_to at past) (x.id home) (key_of h.query) ≡ true) ⊎ Lands IsGot T F at
    told_at_run at there t good lives =
        let c = x.id home in
        let k = key_of h.query in
        let is : t.run.id ≡ c = eqb-true t.run.id c t.run.own in
        let e = Run c t.run.words t.run.moment in
        let up = t.run.up in
        let older = subst (λ d. Older (Run d t.run.words t.run.moment ∷ up) past) is t.run.older in
        let all : up_to at past ≡ e ∷ up =
        run_is at t ∙ ap (λ d. Run d t.run.words t.run.moment ∷ up) is in
        let after = subst AsAsked all good in
        let legal_all = legal_older (e ∷ up) older in
        let live = λ (w : Wire) (i : In w watched). ap (has_ended l (x.id w)) (sym all) ∙ lives w i
        in
        elim t.told_of [
          | inl remembered ↦
              let read = read_is_owed_or_told l c t.run.moment t.run.words up k legal_all
              (ap (λ ws. reads_as_cacheable (served_reading ws)) (words_are at t there) ∙ serves)
              (free up (older_tail e up past older)) remembered
              (ap key_of (words_are at t there)) in
              elim (or_cases (is_told l (e ∷ up) c k || is_due l e up c k) (has_ended l c (e ∷ up))
              read) [
                | inl rest ↦
                    elim (or_cases (is_told l (e ∷ up) c k) (is_due l e up c k) rest) [
                      | inl here ↦ inl (ap (λ u. is_told l u c k) all ∙ here)
                      | inr due ↦
                          inr (subst (Lands IsGot T F) t.run.at
                          (landed e up older legal_all.0 due t.before after live))
                    ]
                | inr ended ↦
                    absurd (both_ways (has_ended l c (e ∷ up)) (live home home_watched) ended)
              ]
          | inr starts ↦
              inl (ap (λ u. is_told l u c k) all
              ∙ told_by_prefix l (e ∷ up) c k registered legal_all
              (still_runs l e up c legal_all.0 (live home home_watched))
              (covers_on up (e ∷ up) t.before after starts))
        ]

    -- an own write that is passed over
    excused : (e : Entry) (up : List Entry) → Older (e ∷ up) past
        → OwnWrite e (x.id home) (key_of h.query) → Excused IsGot T F (length up + 1)
    excused e up older w =
        let c = x.id home in
        let t = runs_there c w.id w.words w.moment up past w.own
        (subst (λ y. Older (y ∷ up) past) w.is older) in
        record {
          place = t.place;
          words = w.words;
          entry = t.entry;
          there = t.words_are;
          wrote = w.wrote;
        }

    -- where its key is not signalled, nor dropped while it remembers it, it is told from then on
    still_told : (e : Entry) (up : List Entry) → Older (e ∷ up) past
        → AsAsked up → AsAsked (e ∷ up) → has_ended l (x.id home) (e ∷ up) ≡ false
        → signals_key l e up (key_of h.query) ≡ false
        → (remembers (table l up) (x.id home) (key_of h.query)
        && drops_key l e up (key_of h.query)) ≡ false
        → is_told l up (x.id home) (key_of h.query) ≡ true
        → is_told l (e ∷ up) (x.id home) (key_of h.query) ≡ true
    still_told e up older before after live unsignalled undropped told =
        let c = x.id home in
        let k = key_of h.query in
        elim (cases_Bool (covers_key (mode l c (e ∷ up)) k)) [
          | inl starts ↦
              told_by_prefix l (e ∷ up) c k registered (legal_older (e ∷ up) older)
              (still_runs l e up c (told_runs l up c k told) live) starts
          | inr none ↦
              let uncovered = ap (λ t. list_any (λ p. starts_with nat_eq k p) (prefixes_of t))
              (settings up before ∙ sym (settings (e ∷ up) after)) ∙ none in
              let held = told_remembers l up c k registered
              (legal_older up (older_tail e up past older)) told uncovered in
              let quiet = none_dropped (remembers (table l up) c k) (drops_key l e up k) held
              undropped in
              elim (cases_Bool (is_told l (e ∷ up) c k)) [
                | inl still ↦ still
                | inr gone ↦
                    let cause = told_ends_for_cause l e up c k told gone in
                    let stays = keeps_tracking l e up c
                    (ap track.is_on (settings (e ∷ up) after) ∙ tracks) in
                    absurd (let no : ⊥ = grind (arith, both_ways, or_from) in no)
              ]
        ]

    stays_or_told : (r : ℕ) → r < length past → AsAsked (up_to r past)
        → AsAsked (up_to (suc r) past)
        → ((w : Wire) → In w watched → has_ended l (x.id w) (up_to (suc r) past) ≡ false)
        → is_told l (up_to r past) (x.id home) (key_of h.query) ≡ true
        → ((is_told l (up_to (suc r) past) (x.id home) (key_of h.query) ≡ true)
        × (F.answer (suc r) ≡ F.answer r))
        ⊎ (Lands IsGot T F (suc r) ⊎ Excused IsGot T F (suc r))
    stays_or_told r lt good goods lives told =
        let c = x.id home in
        let k = key_of h.query in
        let n = next past r lt in
        let e = n.entry in
        let up = n.up in
        let number = n.number in
        let is : length up + 1 ≡ suc r = omega (arith, number) in
        let before : AsAsked up = subst AsAsked n.before good in
        let after : AsAsked (e ∷ up) = subst AsAsked n.after goods in
        let told_up : is_told l up c k ≡ true = ap (λ u. is_told l u c k) (sym n.before) ∙ told in
        let live = λ (w : Wire) (i : In w watched).
        ap (has_ended l (x.id w)) (sym n.after) ∙ lives w i in
        let to = signals_key_to l e up c k in
        let lost = remembers (table l up) c k && drops_key l e up k in
        elim (cases_Bool (to || lost)) [
          | inl due ↦
              inr (inl (subst (Lands IsGot T F) is
              (landed e up n.older (told_runs l up c k told_up)
              (told_is_due l e up c k told_up due) before after live)))
          | inr quiet ↦
              let none = or_parts to lost quiet in
              elim (cases_Bool (signals_key l e up k)) [
                | inl signalled ↦
                    inr (inr (subst (Excused IsGot T F) is
                    (excused e up n.older (own_write written l up c k e signalled none.0))))
                | inr unsignalled ↦
                    let same = (law l e up k unsignalled).1 h.query cacheable refl in
                    inl (
                      ap (λ u. is_told l u c k) n.after
                          ∙ still_told e up n.older before after (live home home_watched)
                          unsignalled none.1 told_up,
                      ap (λ a. carried x.setup.mode.proto (tree_of a))
                          (ap (λ u. answer h.query (keyspace l u)) n.after ∙ same
                          ∙ ap (λ u. answer h.query (keyspace l u)) (sym n.before)),
                    )
              ]
        ]

    pub entry_laws_of : (at : ℕ)
        → (is_single x.setup.mode.shape ≡ true → (r j i : ℕ) (ws : List (List ℕ))
        (s : ℕ × Sending) → at ≤ r → r < length past → AsAsked (up_to r past)
        → is_told l (up_to r past) (x.id home) (key_of h.query) ≡ true
        → slice_get (run_entries (x.id home) past) j ≡ Some (suc r)
        → slice_get (runs_of (x.id home) past) j ≡ Some ws → writes ws (key_of h.query) ≡ false
        → slice_get (sent l (x.id home) past) i ≡ Some s → s.0 ≡ suc r
        → is_reply_sent x.setup.mode home s.1 ≡ true
        → (F.answer (suc r) ≡ F.answer r) ⊎ ((t : ToldOn IsGot T F home (suc r)) × (t.place < i)))
        → EntryLaws IsGot T F (λ r. AsAsked (up_to r past)) (Read l x past home h AsAsked) at
    entry_laws_of at before = record {
      read_replies = λ ran there t good s v e got. reply_read at ran there t good s v e got;
      read_is_owed_or_told = λ ran there t good lives. told_at_run at there t good lives;
      tells_or_stays =
          λ r le lt good goods lives told. stays_or_told r lt good goods lives told;
      before_the_reply = before;
    }
