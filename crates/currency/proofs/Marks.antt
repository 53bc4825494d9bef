-- Where a client's fetch runs, what CLIENT CACHING said before it lets its read be remembered, or
-- the client has registered a prefix of its key.
use Rattle.std.proofs.Common.{◌≡◌, ◌+◌, ◌-◌, ◌<◌, ◌≤◌, ℕ, zero, suc, List, [], ◌∷◌, ◌++◌, length}
use Rattle.std.proofs.Common.{true, false, refl, ap, sym, subst, ◌∙◌, arith, Some, None, cond, map}
use Rattle.std.proofs.Common.{not, append-nil, length-append, codes, Bool, Option, Result, Ok, Err}
use Rattle.std.proofs.Common.{◌⊎◌, inl, inr}
use Rattle.std.proofs.lemmas.Bool.{and_parts}
use Rattle.std.proofs.lemmas.List.{length-map}
use Rattle.std.proofs.lemmas.Option.{same_Some, slice_get_within}
use Rattle.std.specs.List.{list_any, starts_with}
use Rattle.std.specs.Prelude.{slice_get, ◌==◌, ◌&&◌, ◌||◌, is_some, nat_eq}
use Rattle.resp_value.specs.Lists.{IsPrefix}
use Rattle.command_words.specs.declared.command.Command.{Command}
use Rattle.command_words.specs.declared.command.Command.TheVariants.{ClientTracking}
use Rattle.command_words.specs.declared.command.TrackOptions.{TrackOptions}
use Rattle.command_words.specs.declared.command.WordFault.{WordFault}
use Rattle.command_words.specs.Reading.{Read, read_as}
use Rattle.command_words.specs.Words.{reading}
use Rattle.command_words.specs.StringWords.{string_reading}
use Rattle.command_words.specs.HashWords.{hash_reading}
use Rattle.command_words.specs.KeyWords.{key_reading}
use Rattle.command_words.specs.ConnectionWords.{connection_reading}
use Rattle.command_words.specs.ClientWords.{client_reading}
use Rattle.command_words.specs.TrackingWords.{tracking}
use Rattle.command_words.specs.Control.{is_control, reads_as_control}
use Rattle.command_words.specs.Queries.{key_of}
use Rattle.track_modes.specs.Commands.{is_two}
use Rattle.track_modes.specs.ModeState.{ModeState, prefixes_in, prefixes_of, remembers_by}
use Rattle.track_modes.specs.ModeState.{remembers_in}
use Rattle.track_modes.specs.Tracked.{caching_fault}
use Rattle.serial_model.specs.declared.history.Limits.{Limits}
use Rattle.serial_model.specs.declared.history.Entry.{Entry}
use Rattle.serial_model.specs.declared.history.Entry.TheVariants.{Run}
use Rattle.serial_model.specs.History.{mode, runs_of}
use Rattle.serial_model.specs.Laws.{is_marked, sets_caching}
use Rattle.serial_model.proofs.Marks.{next_after_mark}
use Rattle.shared_cache.specs.declared.entry.CacheEntry.{CacheEntry}
use Rattle.shared_cache.specs.declared.lead.CachingWord.{CachingWord}
use Rattle.shared_cache.specs.declared.lead.CachingWord.TheVariants.{Yes}
use Rattle.shared_cache.specs.declared.log.Caching.{Caching}
use Rattle.shared_cache.specs.declared.log.Caching.TheVariants.{Default, OptIn, OptOut, Bcast}
use Rattle.shared_cache.specs.declared.log.ClientMode.{ClientMode}
use Rattle.shared_cache.specs.declared.log.LogEntry.{LogEntry}
use Rattle.shared_cache.specs.declared.log.LogEntry.TheVariants as entry
use Rattle.shared_cache.specs.declared.log.Wire.TheVariants.{Main, Side}
use Rattle.shared_cache.specs.Held.{Caller, SentCommand, Setup, caching_command, commands, held}
use Rattle.shared_cache.specs.Held.{held_for, led_by, open_fetch, put_ask, read_lead, sent}
use Rattle.shared_cache.specs.Laws.{LegalLog}
use Rattle.shared_cache.specs.Log.{caching_on, caching_on_for, covers, handshake, handshake_length}
use Rattle.shared_cache.specs.Log.{is_broken, is_ended, is_ready}
use Rattle.shared_cache.proofs.CommandLaws.{no_control}
use Rattle.shared_cache.proofs.CommandLists.{commands_grow}
use Rattle.shared_cache.proofs.FetchLaws.{mark_before_read, open_was_sent}
use Rattle.shared_cache.proofs.Handshakes.{handshake_some, handshake_within, put_count, whole}
use Rattle.shared_cache.proofs.Led.{at_length, own}
use Rattle.shared_cache.proofs.LegalLogs.{told_when_ready}
use Rattle.currency.proofs.AsAsked.{asked_for}
use Rattle.currency.proofs.Asked.{older_legal}
use Rattle.currency.proofs.Covers.{IsToldOf, registered_covers}
use Rattle.currency.proofs.Handshake.{handshake_each}
use Rattle.currency.proofs.Lists.{every_at, get_front, get_last, get_map, get_parts, prefix_more}
use Rattle.currency.proofs.Runs.{Older, older_all}
use Rattle.currency.proofs.TrackingCommand.{asked_mode}

-- ---- the Run before

-- the last Run of a connection, and what was before it
pub record LastRun (l : Limits) (c : ℕ) (up : List Entry) : Type 0 where
  pub words : List (List ℕ)
  pub sooner : List Entry
  pub older : Older sooner up
  pub marked : is_marked l c up ≡ sets_caching (reading words) (mode l c sooner)
  pub runs : runs_of c up ≡ runs_of c sooner ++ words ∷ []

newer : (e : Entry) (sooner up : List Entry) → Older sooner up → Older sooner (e ∷ up)
newer e sooner up o = record { newer = e ∷ o.newer; is = ap (λ l. e ∷ l) o.is }

last_run : (l : Limits) (c : ℕ) (up : List Entry) (n : ℕ) → length (runs_of c up) ≡ suc n
    → LastRun l c up
last_run l c [] n e = absurd (let no : ⊥ = omega (arith, e) in no)
last_run l c (Run id words m ∷ up) n e =
    elim (id == c) as (λ b. (id == c) ≡ b
    → length (cond b (runs_of c up ++ words ∷ []) (runs_of c up)) ≡ suc n
    → LastRun l c (Run id words m ∷ up)) [
      | true ↦ λ same e. record {
        words = words;
        sooner = up;
        older = newer (Run id words m) up up (older_all up);
        marked =
            ap (λ b. cond b (sets_caching (reading words) (mode l c up)) (is_marked l c up)) same;
        runs = ap (λ b. cond b (runs_of c up ++ words ∷ []) (runs_of c up)) same;
      }
      | false ↦ λ other e.
          let r = last_run l c up n e in record {
            words = r.words;
            sooner = r.sooner;
            older = newer (Run id words m) r.sooner up r.older;
            marked =
                ap (λ b. cond b (sets_caching (reading words) (mode l c up)) (is_marked l c up))
                other ∙ r.marked;
            runs = ap (λ b. cond b (runs_of c up ++ words ∷ []) (runs_of c up)) other ∙ r.runs;
          }
    ] refl e
last_run l c (x ∷ up) n e =
    let r = last_run l c up n e in
    record {
      words = r.words;
      sooner = r.sooner;
      older = newer x r.sooner up r.older;
      marked = r.marked;
      runs = r.runs;
    }

-- ---- which commands mark

not_caching : (read : Result Command WordFault) (m : ModeState) → reads_as_control read ≡ false
    → sets_caching read m ≡ false
not_caching read m h = grind arith

plain_marks_none : (words : List (List ℕ)) (m : ModeState) → is_control words ≡ false
    → sets_caching (reading words) m ≡ false
unfolding is_control
plain_marks_none words m h = not_caching (reading words) m h

-- nor do those of the handshake
abbrev MarksNone : List (List ℕ) → Type 0
MarksNone words = (m : ModeState) → sets_caching (reading words) m ≡ false

hello_marks_none : MarksNone (codes "HELLO" ∷ codes "3" ∷ [])
unfolding reading string_reading hash_reading key_reading connection_reading
hello_marks_none m = refl

options_mark_none : (r : Read TrackOptions) (m : ModeState)
    → sets_caching (read_as ClientTracking r) m ≡ false
options_mark_none (Ok o) m = refl
options_mark_none (Err fault) m = refl

tracking_marks_none : (words : List (List ℕ))
    → MarksNone (codes "CLIENT" ∷ codes "TRACKING" ∷ words)
unfolding reading string_reading hash_reading key_reading connection_reading client_reading
tracking_marks_none words m = options_mark_none (tracking words) m

yes_marks : (m : ModeState) → m.subscribed ≡ false → caching_fault true m.tracking ≡ None
    → sets_caching (reading (caching_command Yes).words) m ≡ true
unfolding reading string_reading hash_reading key_reading connection_reading client_reading
yes_marks m off h =
    ap (λ b. not (is_two m.proto && b) && not (is_some (caching_fault true m.tracking))) off
    ∙ ap (λ f. not (is_two m.proto && false) && not (is_some f)) h
    ∙ free (is_two m.proto)
  where
    free : (b : Bool) → (not (b && false) && true) ≡ true
    free true = refl
    free false = refl

-- ---- the last command that was sent is a caller's

record LastIsCallers (cs : List SentCommand) (k : ℕ) : Type 0 where
  command : SentCommand
  there : slice_get cs k ≡ Some command
  caller : command.origin ≡ Caller

last_led : (xs : List SentCommand) (l : Option CachingWord) (ws : List (List ℕ)) (k : ℕ)
    → length (xs ++ led_by l ws) ≡ suc k → LastIsCallers (xs ++ led_by l ws) k
last_led xs None ws k e = record {
  command = own ws;
  there =
      ap (slice_get (xs ++ own ws ∷ []))
      (let n : k ≡ length xs + 0 = omega (arith, e, length-append xs (own ws ∷ [])) in n)
      ∙ at_length xs [] [] (own ws);
  caller = refl;
}
last_led xs (Some w) ws k e = record {
  command = own ws;
  there =
      ap (slice_get (xs ++ caching_command w ∷ own ws ∷ []))
      (let n : k ≡ length xs + 1 =
      omega (arith, e, length-append xs (caching_command w ∷ own ws ∷ [])) in n)
      ∙ at_length xs (caching_command w ∷ []) [] (own ws);
  caller = refl;
}

last_ask : (xs : List SentCommand) (o : Option CacheEntry) (m : ClientMode) (on : Bool)
    (q : List (List ℕ)) (k : ℕ) → (length xs ≡ suc k → LastIsCallers xs k)
    → length (xs ++ put_ask o m on q) ≡ suc k → LastIsCallers (xs ++ put_ask o m on q) k
last_ask xs (Some h) m on q k before e =
    subst (λ l. LastIsCallers l k) (sym (append-nil xs))
    (before (ap length (sym (append-nil xs)) ∙ e))
last_ask xs None m on q k before e = last_led xs (read_lead m.caching on) q k e

last_sent : (s : Setup) (log : List LogEntry) (k : ℕ) → length (sent s log) ≡ suc k
    → LastIsCallers (sent s log) k
last_sent s [] k e = absurd (let no : ⊥ = omega (arith, e) in no)
last_sent s (entry.Ask q ∷ log) k e =
    last_ask (sent s log) (held_for q (held s log)) s.mode (caching_on_for s.mode log (key_of q)) q
    k (last_sent s log k) e
last_sent s (entry.Send ws ∷ log) k e = last_led (sent s log) _ ws k e
last_sent s (entry.Poll n ∷ log) k e = last_sent s log k e
last_sent s (entry.TakeOut w n ∷ log) k e = last_sent s log k e
last_sent s (entry.Got w v ∷ log) k e = last_sent s log k e
last_sent s (entry.End w ∷ log) k e = last_sent s log k e
last_sent s (entry.Bad w v ∷ log) k e = last_sent s log k e

-- ---- what goes before an open fetch

commands_later : (s : Setup) (later log : List LogEntry) → LegalLog s (later ++ log)
    → IsPrefix (commands s Main log) (commands s Main (later ++ log))
commands_later s [] log legal = ([], append-nil (commands s Main log))
commands_later s (e ∷ later) log legal =
    prefix_more (commands s Main log) (commands s Main (later ++ log))
    (commands s Main (e ∷ (later ++ log))) (commands_later s later log legal.0)
    (commands_grow s Main e (later ++ log) (inr legal))

-- the last command of a log with so many behind the handshake
last_marks_none : (s : Setup) (log : List LogEntry) → LegalLog s log → (place : ℕ)
    → length (sent s log) + handshake_length s.mode ≡ suc place → (words : List (List ℕ))
    → slice_get (commands s Main log) place ≡ Some words → MarksNone words
last_marks_none s log legal place count words there m =
    elim (get_parts (handshake s.mode Main log) (map (λ (c : SentCommand). c.words) (sent s log))
    place words there) [
      | inl early ↦
          every_at MarksNone (handshake s.mode Main log) place words
          (handshake_each MarksNone hello_marks_none tracking_marks_none s.mode log) early m
      | inr b ↦
          let before = b.is in
          let within = slice_get_within (map (λ (c : SentCommand). c.words) (sent s log)) b.at words
          b.there in
          let last = last_sent s log b.at
          (omega (
            arith,
            count,
            before,
            within,
            length-map (sent s log) (λ (c : SentCommand). c.words),
            handshake_within s.mode log,
          )) in
          let is : Some last.command.words ≡ Some words =
          sym (get_map (λ (c : SentCommand). c.words) (sent s log) b.at last.command last.there)
          ∙ b.there in
          let plain = every_at
          (λ (c : SentCommand). c.origin ≡ Caller → is_control c.words ≡ false)
          (sent s log) b.at last.command (no_control s log legal) last.there last.caller in
          ap (λ ws. sets_caching (reading ws) m) (sym (same_Some last.command.words words is))
          ∙ plain_marks_none last.command.words m plain
    ]

module _ (s : Setup) (log : List LogEntry) (legal : LegalLog s log) (n : ℕ) (q : List (List ℕ))
    (fetch : open_fetch s log n ≡ Some q) where
  -- by opting out, no CLIENT CACHING
  unmarked : s.mode.caching ≡ OptOut → (words : List (List ℕ))
      → slice_get (commands s Main log) (n - 2) ≡ Some words → MarksNone words
  unmarked out words there m =
      let w = open_was_sent s log n q fetch in
      let all = subst (LegalLog s) w.log_is legal in
      let before = (older_legal s w.later (entry.Ask q ∷ w.sooner) all).0 in
      let one : length (led_by (read_lead s.mode.caching (caching_on_for s.mode w.sooner
      (key_of q))) q) ≡ 1 = ap (λ c. length (led_by (read_lead c (caching_on_for s.mode w.sooner
      (key_of q))) q)) out in
      let some = handshake_some s.mode in
      let place : length (sent s w.sooner) + handshake_length s.mode ≡ suc (n - 2) =
      omega (arith, w.number_is, one, some) in
      let more = prefix_more (commands s Main w.sooner) (commands s Main (entry.Ask q ∷ w.sooner))
      (commands s Main (w.later ++ entry.Ask q ∷ w.sooner))
      (commands_grow s Main (entry.Ask q) w.sooner
      (inr (older_legal s w.later (entry.Ask q ∷ w.sooner) all)))
      (commands_later s w.later (entry.Ask q ∷ w.sooner) all) in
      let all_there : slice_get (commands s Main w.sooner ++ more.0) (n - 2) ≡ Some words =
      ap (λ cs. slice_get cs (n - 2)) more.1
      ∙ ap (λ g. slice_get (commands s Main g) (n - 2)) (sym w.log_is) ∙ there in
      last_marks_none s w.sooner before (n - 2) place words
      (within (commands s Main w.sooner) more.0 (n - 2) words
      (let count = put_count s w.sooner in
      let handshake_put = whole s.mode w.sooner
      (told_when_ready s w.sooner before (was_ready w.sooner w.on)) in
      omega (arith, count, handshake_put, place)) all_there) m
    where
      within : (xs ys : List (List (List ℕ))) (i : ℕ) (x : List (List ℕ)) → suc i ≤ length xs
          → slice_get (xs ++ ys) i ≡ Some x → slice_get xs i ≡ Some x
      within [] ys i x le e = absurd (let no : ⊥ = omega (arith, le) in no)
      within (y ∷ xs) ys zero x le e = e
      within (y ∷ xs) ys (suc i) x le e = within xs ys i x (omega (arith, le)) e

      was_ready : (sooner : List LogEntry) → caching_on_for s.mode sooner (key_of q) ≡ true
          → is_ready s.mode sooner ≡ true
      was_ready sooner on =
          (and_parts (is_ready s.mode sooner)
          (not (is_ended s.mode Main sooner || is_ended s.mode Side sooner)
          && not (is_broken s.mode sooner))
          (and_parts (caching_on s.mode sooner) (covers s.mode.caching (key_of q)) on).0).0

  -- by opting in, CLIENT CACHING YES, behind the handshake
  behind_handshake : s.mode.caching ≡ OptIn → handshake_length s.mode + 2 ≤ n
  behind_handshake opt =
      let w = open_was_sent s log n q fetch in
      let two : length (led_by (read_lead s.mode.caching (caching_on_for s.mode w.sooner
      (key_of q))) q) ≡ 2 = λ i. length (led_by (read_lead (opt i) (w.on i)) q) in
      omega (arith, w.number_is, two)

  -- where the fetch runs, of a connection that is never subscribed and is tracked as asked once it
  -- has run the handshake
  module _ (l : Limits) (c : ℕ) (target : Option ℕ) (up : List Entry)
      (ran : IsPrefix (runs_of c up) (commands s Main log))
      (place : length (runs_of c up) ≡ n - 1) (least : handshake_length s.mode < n)
      (off : (sooner : List Entry) → Older sooner up → (mode l c sooner).subscribed ≡ false)
      (tracks : (sooner : List Entry) → Older sooner up
      → handshake_length s.mode ≤ length (runs_of c sooner)
      → (mode l c sooner).tracking ≡ asked_for s.mode target) where
    abbrev before : LastRun l c up
    before = last_run l c up (n - 2) (omega (arith, place, least, handshake_some s.mode))

    place_before : length (runs_of c before.sooner) ≡ n - 2
    place_before =
        omega (
          arith,
          place,
          ap (λ ws. length ws) before.runs,
          length-append (runs_of c before.sooner) (before.words ∷ []),
        )

    there : slice_get (commands s Main log) (n - 2) ≡ Some before.words
    there =
        ap (slice_get (commands s Main log)) (sym place_before)
        ∙ ap (λ cs. slice_get cs (length (runs_of c before.sooner))) (sym ran.1)
        ∙ get_front (runs_of c up) ran.0 (length (runs_of c before.sooner)) before.words
        (ap (λ ws. slice_get ws (length (runs_of c before.sooner))) before.runs
        ∙ get_last (runs_of c before.sooner) before.words)

    mark_is : (mode l c up).caching
        ≡ sets_caching (reading before.words) (mode l c before.sooner)
    mark_is = next_after_mark l c up ∙ before.marked

    marked : s.mode.caching ≡ OptIn → (mode l c up).caching ≡ true
    marked opt =
        let m = mark_before_read s log n q opt (inr legal) fetch in
        let words : before.words ≡ (caching_command Yes).words =
        same_Some before.words (caching_command Yes).words (sym there ∙ m.1) in
        let behind = behind_handshake opt in
        let tracking = tracks before.sooner before.older (omega (arith, place_before, behind)) in
        mark_is
        ∙ ap (λ ws. sets_caching (reading ws) (mode l c before.sooner)) words
        ∙ yes_marks (mode l c before.sooner) (off before.sooner before.older)
        (ap (caching_fault true)
        (tracking ∙ ap (λ k. asked_for (record s.mode { caching = k }) target) opt))

    covered : covers s.mode.caching (key_of q) ≡ true
    covered =
        let w = open_was_sent s log n q fetch in
        (and_parts (caching_on s.mode w.sooner) (covers s.mode.caching (key_of q)) w.on).1

    by_mode : (k : Caching) → s.mode.caching ≡ k
        → (remembers_in (mode l c up).caching (asked_mode k) ≡ true)
        ⊎ (list_any (starts_with nat_eq (key_of q)) (prefixes_in (asked_mode k)) ≡ true)
    by_mode Default is = inl refl
    by_mode OptIn is = inl (marked is)
    by_mode OptOut is =
        inl (ap not (mark_is ∙ unmarked is before.words there (mode l c before.sooner)))
    by_mode (Bcast prefixes) is =
        inr (registered_covers prefixes (key_of q) ∙ ap (λ k. covers k (key_of q)) (sym is)
        ∙ covered)

    -- so its read is remembered, or a prefix of its key is registered
    pub fetch_told_of : IsToldOf (mode l c up) (key_of q)
    fetch_told_of =
        let tracking = tracks up (older_all up) (omega (arith, place, least)) in
        elim (by_mode s.mode.caching refl) [
          | inl reads ↦ inl (ap (remembers_by (mode l c up).caching) tracking ∙ reads)
          | inr starts ↦
              inr (ap (λ t. list_any (starts_with nat_eq (key_of q)) (prefixes_of t)) tracking
              ∙ starts)
        ]
