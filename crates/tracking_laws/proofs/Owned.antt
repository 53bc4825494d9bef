-- What an entry leaves and brings of who remembers a key.
use Rattle.std.proofs.Common.{◌≡◌, ◌∙◌, ◌-◌, ℕ, List, [], ◌∷◌, Bool, true, false, cond, length}
use Rattle.std.proofs.Common.{ap, sym, arith, refl}
use Rattle.std.specs.Prelude.{◌==◌, ◌&&◌, ◌||◌, not}
use Rattle.command_words.specs.declared.command.Signalled.{Signalled}
use Rattle.command_words.specs.declared.command.Signalled.TheVariants.{Keys, All}
use Rattle.track_table.specs.declared.table.Held.{Held}
use Rattle.track_table.specs.Table.{holders_of}
use Rattle.track_table.specs.Order.{AreOrdered}
use Rattle.serial_model.specs.declared.history.Limits.{Limits}
use Rattle.serial_model.specs.declared.history.Entry.{Entry}
use Rattle.serial_model.specs.declared.history.Entry.TheVariants.{Admit, Run, Tick, Take, Close}
use Rattle.serial_model.specs.Modes.{Memory, Remembers, Registers, Forgets}
use Rattle.serial_model.specs.Tracking.{remembering, without_signalled}
use Rattle.serial_model.specs.History.{table, table_then, table_grown, expired, signals, mode}
use Rattle.serial_model.specs.History.{state, served_reading, made, runner}
use Rattle.serial_model.specs.EntryEffects.{drops_one}
use Rattle.command_words.specs.Laws as cause
use Rattle.serial_model.specs.Laws.{is_among, remembers, drops_key}
use Rattle.serial_model.specs.Tracking.{has_id}
use Rattle.tracking_laws.specs.Told.{is_signalled, is_flush, keeps_reads, keys_read, reads_key}
use Rattle.tracking_laws.specs.Causes.{RememberedIsRead, GoneIsForgotten}
use Rattle.serial_model.proofs.KeptTables.{is_table, is_table_then, is_table_grown}
use Rattle.serial_model.proofs.KeptTables.{table_without_signalled}
use Rattle.tracking_laws.proofs.Holders.{holds_with_keys, holds_without_keys, holds_freed}
use Rattle.tracking_laws.proofs.Holders.{held_drop, none_behind}
use Rattle.tracking_laws.proofs.Ends.{run_kept, tick_holds}
use Rattle.tracking_laws.proofs.Remembering.{made_memory, Brings}
use Rattle.std.proofs.lemmas.Bool.{or_left, and_parts, both_ways, false_from_ne_true}

module _ (c : ℕ) (key : List ℕ) where
  -- a command takes what it signals, and a flush all
  pub holds_signalled : (sig : Signalled) (rows : List Held)
      → has_id c (holders_of key (without_signalled sig rows))
      ≡ (not (is_flush sig || is_signalled sig key) && has_id c (holders_of key rows))
  holds_signalled (Keys keys) rows = holds_without_keys c key keys rows
  holds_signalled All rows = refl

  -- what is remembered is of these keys or was remembered
  held_remembering : (id : ℕ) (memory : Memory) (keys : List (List ℕ)) (rows : List Held)
      → AreOrdered rows → Brings keys memory
      → has_id c (holders_of key (remembering id memory rows)) ≡ true
      → (has_id c (holders_of key rows) || ((id == c) && is_among keys key)) ≡ true
  held_remembering id (Remembers ks) keys rows h by e =
      brought (id == c) (is_among ks key) (is_among keys key) (has_id c (holders_of key rows))
      (by key) (sym (holds_with_keys c key id ks rows) ∙ e)
    where
      brought : (a b d x : Bool) → (b ≡ true → d ≡ true) → ((a && b) || x) ≡ true
          → (x || (a && d)) ≡ true
      brought a b d x f g = grind arith
  held_remembering id (Registers ps) keys rows h by e = or_left _ _ e
  held_remembering id Forgets keys rows h by e =
      or_left _ _ (and_parts (not (id == c)) (has_id c (holders_of key rows))
      (sym (holds_freed c key id rows h) ∙ e)).1

module _ (l : Limits) (past : List Entry) (c : ℕ) (key : List ℕ) where
  among : (b : Bool) (keys : List (List ℕ)) → is_among (cond b keys []) key
      ≡ (b && is_among keys key)
  among b keys = grind arith

  pub grown_is : (id : ℕ) (words : List (List ℕ)) (moment : ℕ)
      → remembers (table_grown l past id words moment) c key ≡ true
      → (remembers (without_signalled (signals l past id words moment) (table_then l past moment))
      c key || reads_key l (Run id words moment) past c key) ≡ true
  grown_is id words moment e =
      let then = table_then l past moment in
      let sig = signals l past id words moment in
      let m = mode l id past in
      let own = held_remembering c key id (made l past id words moment).memory
      (cond (keeps_reads m) (keys_read (served_reading words)) []) (without_signalled sig then)
      (table_without_signalled sig then (is_table_then l past moment)).ordered
      (made_memory words (runner l past id words moment)) e in
      ap (λ b. has_id c (holders_of key (without_signalled sig then)) || ((id == c) && b))
      (sym (among (keeps_reads m) (keys_read (served_reading words)))) ∙ own

  -- what stands in the table of a Run where its command signals stood there before
  pub then_is : (moment : ℕ) → remembers (table_then l past moment) c key
      ≡ (not (is_among (expired l past moment) key) && remembers (table l past) c key)
  then_is moment = holds_without_keys c key (expired l past moment) (table l past)

  -- and what it holds behind a Tick stood there
  then_held : (moment : ℕ) → remembers (table l (Tick moment ∷ past)) c key ≡ true
      → remembers (table_then l past moment) c key ≡ true
  then_held moment h =
      (and_parts (not (drops_one l (Tick moment) past c)) _
      (sym (tick_holds l past c key moment) ∙ h)).1

  pub before_read : (id : ℕ) (words : List (List ℕ)) (moment : ℕ)
      → remembers (without_signalled (signals l past id words moment) (table_then l past moment))
      c key
      ≡ (not (is_flush (signals l past id words moment)
      || is_signalled (signals l past id words moment) key)
      && (not (is_among (expired l past moment) key) && remembers (table l past) c key))
  before_read id words moment =
      let sig = signals l past id words moment in
      holds_signalled c key sig (table_then l past moment)
      ∙ ap (λ b. not (is_flush sig || is_signalled sig key) && b) (then_is moment)

known : (x own a b r : Bool) → x ≡ (a && (b && r)) → (x || own) ≡ true → (r || own) ≡ true
known x own a b r e h = grind arith

-- what a connection comes to remember, it reads
pub remembered_is_read : (l : Limits) (entry : Entry) (past : List Entry)
    → RememberedIsRead l entry past
unfolding state
remembered_is_read l (Admit id) past c key h = or_left _ _ h
remembered_is_read l (Run id words moment) past c key h =
    let grown = table_grown l past id words moment in
    let here = held_drop c key (length grown - l.table_max) grown
    (is_table_grown l past id words moment).ordered (run_kept l past c key id words moment h) in
    known _ _ _ _ _ (before_read l past c key id words moment)
    (grown_is l past c key id words moment here)
remembered_is_read l (Tick moment) past c key h =
    or_left _ _ (and_parts (not (is_among (expired l past moment) key))
    (remembers (table l past) c key)
    (sym (then_is l past c key moment) ∙ then_held l past c key moment h)).1
remembered_is_read l (Take id max) past c key h = or_left _ _ h
remembered_is_read l (Close id) past c key h =
    or_left _ _ (and_parts (not (id == c)) (remembers (table l past) c key)
    (sym (holds_freed c key id (table l past) (is_table l past).ordered) ∙ h)).1

-- ---- what is signalled or dropped is forgotten

signals_as : (sig : Signalled) (key : List ℕ)
    → cause.signals sig key ≡ (is_flush sig || is_signalled sig key)
signals_as sig key = grind arith

forgotten : (dropped x own left signalled held : Bool) → dropped ≡ false
    → ((left || signalled) || dropped) ≡ true → x ≡ (not signalled && (not left && held))
    → (x || own) ≡ true → (own && not dropped) ≡ true
forgotten dropped x own left signalled held none gone e h = grind arith

pub gone_is_forgotten : (l : Limits) (entry : Entry) (past : List Entry)
    → GoneIsForgotten l entry past
gone_is_forgotten l (Admit id) past c key gone h = absurd (let no : ⊥ = cc in no)
gone_is_forgotten l (Run id words moment) past c key gone h =
    let grown = table_grown l past id words moment in
    let n = length grown - l.table_max in
    let ordered = (is_table_grown l past id words moment).ordered in
    let stays = run_kept l past c key id words moment h in
    let here = held_drop c key n grown ordered stays in
    let sig = signals l past id words moment in
    forgotten (drops_key l (Run id words moment) past key) _
    (reads_key l (Run id words moment) past c key) (is_among (expired l past moment) key)
    (is_flush sig || is_signalled sig key) (remembers (table l past) c key)
    (false_from_ne_true _ (λ e. both_ways _ (none_behind c key n grown ordered e) stays))
    (sym (ap (λ b. (is_among (expired l past moment) key || b)
    || drops_key l (Run id words moment) past key) (signals_as sig key)) ∙ gone)
    (before_read l past c key id words moment) (grown_is l past c key id words moment here)
gone_is_forgotten l (Tick moment) past c key gone h =
    let stays = then_held l past c key moment h in
    grind (arith, then_is l past c key moment, stays)
gone_is_forgotten l (Take id max) past c key gone h = absurd (let no : ⊥ = cc in no)
gone_is_forgotten l (Close id) past c key gone h = absurd (let no : ⊥ = cc in no)
