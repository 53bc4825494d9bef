-- What the commands of a client make of Main's connection: its protocol, and how it is tracked.
-- What CLIENT CACHING says is spent by each command, and is no part of this.
use Rattle.std.proofs.Common.{◌≡◌, ◌+◌, ◌≤◌, ℕ, zero, suc, List, [], ◌∷◌, ◌++◌, length, true, false}
use Rattle.std.proofs.Common.{cond, refl, ap, sym, subst, ◌∙◌, arith, Some, None, codes, Result}
use Rattle.std.proofs.Common.{inl, inr, Bool, Option}
use Rattle.std.proofs.lemmas.Bool.{cases_lt, eqb-true}
use Rattle.std.proofs.lemmas.Option.{same_Some}
use Rattle.std.specs.Prelude.{slice_get, ◌==◌}
use Rattle.std.specs.List.{flat_map}
use Rattle.resp_value.specs.Lists.{IsPrefix}
use Rattle.resp_value.specs.declared.value.Proto.{Proto}
use Rattle.resp_value.specs.declared.value.Proto.TheVariants.{Two, Three}
use Rattle.command_words.specs.declared.command.Command.{Command}
use Rattle.command_words.specs.declared.command.Command.TheVariants.{ClientCaching}
use Rattle.command_words.specs.declared.command.WordFault.{WordFault}
use Rattle.command_words.specs.Words.{reading}
use Rattle.command_words.specs.StringWords.{string_reading}
use Rattle.command_words.specs.HashWords.{hash_reading}
use Rattle.command_words.specs.KeyWords.{key_reading}
use Rattle.command_words.specs.ConnectionWords.{connection_reading}
use Rattle.command_words.specs.ClientWords.{client_reading}
use Rattle.command_words.specs.Control.{is_control, reads_as_control}
use Rattle.track_modes.specs.declared.fault.ModeFault.{ModeFault}
use Rattle.track_modes.specs.declared.tracking.Tracking.{Tracking}
use Rattle.track_modes.specs.declared.tracking.Tracking.TheVariants.{Off}
use Rattle.track_modes.specs.Commands.{fault_at, is_no_memory, spent_mode}
use Rattle.track_modes.specs.ModeState.{ModeState}
use Rattle.track_modes.specs.Tracked.{caching_fault}
use Rattle.serial_model.specs.declared.history.Limits.{Limits}
use Rattle.serial_model.specs.declared.history.Entry.{Entry}
use Rattle.serial_model.specs.declared.history.Entry.TheVariants.{Run}
use Rattle.serial_model.specs.Modes.{OwnEffect, Runner, own_effect, unless_refused}
use Rattle.serial_model.specs.History.{made, mode, runner, runs_of, served, served_reading}
use Rattle.serial_model.proofs.ModeSteps.{mode_own}
use Rattle.shared_cache.specs.declared.log.ClientMode.{ClientMode}
use Rattle.shared_cache.specs.declared.log.Shape.{Shape}
use Rattle.shared_cache.specs.declared.log.Wire.TheVariants.{Main}
use Rattle.shared_cache.specs.declared.log.LogEntry.{LogEntry}
use Rattle.shared_cache.specs.declared.lead.CachingWord.{CachingWord}
use Rattle.shared_cache.specs.declared.lead.CachingWord.TheVariants.{Yes, No}
use Rattle.shared_cache.specs.Held.{Setup, caching_command, commands}
use Rattle.shared_cache.specs.Laws.{LegalLog}
use Rattle.shared_cache.specs.Log.{handshake_length, is_told, put_step, steps_of, told_id}
use Rattle.shared_cache.proofs.Handshakes.{handshake_some}
use Rattle.currency.proofs.Handshake.{IsBehind, is_behind, keeps_off}
use Rattle.currency.proofs.Lists.{get_front}
use Rattle.currency.proofs.OffChannel.{made_own, off_mode, off_older}
use Rattle.currency.proofs.RunPlaces.{by_runs, own_words}
use Rattle.currency.proofs.Runs.{Older, older_tail}

-- a mode of this protocol and this tracking
pub record Has (proto : Proto) (tracking : Tracking) (m : ModeState) : Type 0 where
  pub proto_is : m.proto ≡ proto
  pub tracking_is : m.tracking ≡ tracking

-- ---- HELLO

abbrev pub hello_words : List (List ℕ)
hello_words = codes "HELLO" ∷ codes "3" ∷ []

pub hello_made : (by : Runner)
    → (own_effect (served_reading hello_words) by).mode
    ≡ record by.mode { proto = Three; caching = false }
unfolding reading string_reading hash_reading key_reading connection_reading fault_at
hello_made by = refl

-- ---- commands behind the handshake

-- words that read as no control command are served as none
served_no_control : (read : Result Command WordFault) → reads_as_control read ≡ false
    → reads_as_control (served read) ≡ false
served_no_control read h = grind arith

own_spent : (by : Runner) (read : Result Command WordFault) → reads_as_control read ≡ false
    → (own_effect read by).mode ≡ spent_mode by.mode
unfolding fault_at
own_spent by read h = grind arith

plain_made : (words : List (List ℕ)) (by : Runner) → is_control words ≡ false
    → (own_effect (served_reading words) by).mode ≡ spent_mode by.mode
unfolding is_control
plain_made words by h = own_spent by (served (reading words)) (served_no_control (reading words) h)

-- CLIENT CACHING, refused or not, leaves the settings
module _ (proto : Proto) (t : Tracking) where
  after_caching : (m : ModeState) (is_yes : Bool) (fault : Option ModeFault) → Has proto t m
      → Has proto t (unless_refused fault (ClientCaching is_yes) m).mode
  after_caching m is_yes None h = record { proto_is = h.proto_is; tracking_is = h.tracking_is }
  after_caching m is_yes (Some fault) h =
      elim (is_no_memory fault) as (λ b. Has proto t (cond b m (spent_mode m))) [
        | true ↦ h
        | false ↦ record { proto_is = h.proto_is; tracking_is = h.tracking_is }
      ]

  caching_made : (by : Runner) (w : CachingWord) → Has proto t by.mode
      → Has proto t (own_effect (served_reading (caching_command w).words) by).mode
  unfolding reading string_reading hash_reading key_reading connection_reading client_reading
      fault_at
  caching_made by Yes h =
      after_caching by.mode true (caching_fault true by.mode.tracking) h
  caching_made by No h =
      after_caching by.mode false (caching_fault false by.mode.tracking) h

  behind_made : (by : Runner) (words : List (List ℕ)) → IsBehind words → Has proto t by.mode
      → Has proto t (own_effect (served_reading words) by).mode
  behind_made by words (inl plain) h = record {
    proto_is = ap (λ (m : ModeState). m.proto) (plain_made words by plain) ∙ h.proto_is;
    tracking_is = ap (λ (m : ModeState). m.tracking) (plain_made words by plain) ∙ h.tracking_is;
  }
  behind_made by words (inr c) h =
      subst (λ ws. Has proto t (own_effect (served_reading ws) by).mode) (sym c.1)
      (caching_made by c.0 h)

-- ---- the steps on Main, by protocol

-- the protocol after so many commands of a client
abbrev pub proto_by : Proto → ℕ → Proto
proto_by Two n = Two
proto_by Three zero = Two
proto_by Three (suc n) = Three

proto_first : (p : Proto) → proto_by p 0 ≡ Two
proto_first Two = refl
proto_first Three = refl

proto_last : (p : Proto) (shape : Shape) (n : ℕ) → n + 1 ≡ length (steps_of Main shape p)
    → proto_by p n ≡ p
proto_last Two shape n e = refl
proto_last Three shape zero e = absurd (let no : ⊥ = omega (arith, e) in no)
proto_last Three shape (suc n) e = refl

-- before the tracking command goes HELLO, if any
module _ (p : Proto) (m : ClientMode) (told : Bool) (id : List ℕ) (more : List (List (List ℕ)))
  where
    hello_first : (n : ℕ) (words : List (List ℕ)) → n + 2 ≤ length (steps_of Main m.shape p)
        → slice_get (flat_map (put_step m told id) (steps_of Main m.shape p) ++ more) n ≡ Some words
        → (words ≡ hello_words) × (proto_by p (suc n) ≡ Three)
    hello_first n words le e = by p n le e
      where
        by : (p : Proto) (n : ℕ) → n + 2 ≤ length (steps_of Main m.shape p)
            → slice_get (flat_map (put_step m told id) (steps_of Main m.shape p) ++ more) n
            ≡ Some words
            → (words ≡ hello_words) × (proto_by p (suc n) ≡ Three)
        by Two n le e = absurd (let no : ⊥ = omega (arith, le) in no)
        by Three zero le e = (sym (same_Some hello_words words e), refl)
        by Three (suc n) le e = absurd (let no : ⊥ = omega (arith, le) in no)

-- ---- the mode of Main's connection

module _ (s : Setup) (l : Limits) (log : List LogEntry) (legal : LegalLog s log) (c : ℕ)
    (past : List Entry) (ran : IsPrefix (runs_of c past) (commands s Main log)) where
  pub run_command : (id m : ℕ) (words : List (List ℕ)) (up : List Entry) → (id == c) ≡ true
      → Older (Run id words m ∷ up) past
      → slice_get (commands s Main log) (length (runs_of c up)) ≡ Some words
  run_command id m words up own o =
      ap (λ cs. slice_get cs (length (runs_of c up))) (sym ran.1)
      ∙ get_front (runs_of c past) ran.0 (length (runs_of c up)) words
      (own_words c id m words up past own o)

  -- it is never subscribed
  pub unsubscribed : (up : List Entry) → Older up past → (mode l c up).subscribed ≡ false
  unsubscribed up o = off_mode l c up (off_older c up past o (keeps_off s log legal c past ran))

  -- so it may run each of its commands
  pub made_is : (id m : ℕ) (words : List (List ℕ)) (up : List Entry) → (id == c) ≡ true
      → Older (Run id words m ∷ up) past
      → made l up id words m ≡ own_effect (served_reading words) (runner l up id words m)
  made_is id m words up own o =
      made_own (runner l up id words m) words
      (ap (λ d. (mode l d up).subscribed) (eqb-true id c own)
      ∙ unsubscribed up (older_tail (Run id words m) up past o))

  -- before the tracking command
  abbrev Before : ℕ → ModeState → Type 0
  Before n m = n + 1 ≤ handshake_length s.mode → Has (proto_by s.mode.proto n) Off m

  before_step : (id m : ℕ) (words : List (List ℕ)) (up : List Entry) → (id == c) ≡ true
      → Older (Run id words m ∷ up) past → Before (length (runs_of c up)) (mode l id up)
      → Before (suc (length (runs_of c up))) (made l up id words m).mode
  before_step id m words up own o before le =
      let by = runner l up id words m in
      let has = before (omega (arith, le)) in
      let h = hello_first s.mode.proto s.mode (is_told s.mode log) (told_id s.mode log) _
      (length (runs_of c up)) words (omega (arith, le)) (run_command id m words up own o) in
      let is : (made l up id words m).mode ≡ record by.mode { proto = Three; caching = false } =
      ap (λ (e : OwnEffect). e.mode) (made_is id m words up own o)
      ∙ ap (λ ws. (own_effect (served_reading ws) by).mode) h.0 ∙ hello_made by in record {
        proto_is = ap (λ (x : ModeState). x.proto) is ∙ sym h.1;
        tracking_is = ap (λ (x : ModeState). x.tracking) is ∙ has.tracking_is;
      }

  pub before_tracking : (up : List Entry) → Older up past
      → length (runs_of c up) + 1 ≡ handshake_length s.mode
      → Has s.mode.proto Off (mode l c up)
  before_tracking up o count =
      subst (λ p. Has p Off (mode l c up))
      (proto_last s.mode.proto s.mode.shape (length (runs_of c up)) count)
      (by_runs l c past Before
      (λ le. record { proto_is = sym (proto_first s.mode.proto); tracking_is = refl })
      before_step up o (omega (arith, count)))

  -- and from it on, by what it left
  module _ (t : Tracking)
      (left : (id m : ℕ) (words : List (List ℕ)) (up : List Entry) → (id == c) ≡ true
      → Older (Run id words m ∷ up) past → length (runs_of c up) + 1 ≡ handshake_length s.mode
      → Has s.mode.proto t (mode l c (Run id words m ∷ up))) where
    abbrev Behind : ℕ → ModeState → Type 0
    Behind n m = handshake_length s.mode ≤ n → Has s.mode.proto t m

    behind_step : (id m : ℕ) (words : List (List ℕ)) (up : List Entry) → (id == c) ≡ true
        → Older (Run id words m ∷ up) past → Behind (length (runs_of c up)) (mode l id up)
        → Behind (suc (length (runs_of c up))) (made l up id words m).mode
    behind_step id m words up own o before le =
        elim (cases_lt (length (runs_of c up)) (handshake_length s.mode)) [
          | inl now ↦
              subst (Has s.mode.proto t) (mode_own l c id m words up own)
              (left id m words up own o (omega (arith, now, le)))
          | inr later ↦
              subst (λ (e : OwnEffect). Has s.mode.proto t e.mode)
              (sym (made_is id m words up own o))
              (behind_made s.mode.proto t (runner l up id words m) words
              (is_behind s log legal (length (runs_of c up)) words later
              (run_command id m words up own o))
              (before later))
        ]

    pub settled : (up : List Entry) → Older up past
        → handshake_length s.mode ≤ length (runs_of c up) → Has s.mode.proto t (mode l c up)
    settled up o count =
        by_runs l c past Behind
        (λ le. absurd (let no : ⊥ = omega (arith, le, handshake_some s.mode) in no))
        behind_step up o count
