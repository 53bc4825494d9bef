-- How often an entry tells a connection of a key.
use Rattle.std.proofs.Common.{◌≡◌, ◌∙◌, ◌⊎◌, ◌+◌, ◌-◌, ◌<◌, ◌≤◌, ℕ, List, Bool, true}
use Rattle.std.proofs.Common.{false, cond, length, ap, sym, subst, arith, refl, ◌++◌}
use Rattle.std.specs.Prelude.{◌&&◌, ◌||◌, not}
use Rattle.command_words.specs.Expiry.{without_due}
use Rattle.command_words.specs.declared.command.Signalled.{Signalled}
use Rattle.command_words.specs.declared.command.Signalled.TheVariants.{Keys, All}
use Rattle.track_table.specs.declared.table.Held.{Held}
use Rattle.prefix_table.specs.declared.table.Registration.{Registration}
use Rattle.track_table.specs.Table.{holders_of}
use Rattle.track_table.specs.Order.{IsTable}
use Rattle.serial_model.specs.declared.history.Limits.{Limits}
use Rattle.serial_model.specs.declared.history.Entry.{Entry}
use Rattle.serial_model.specs.declared.history.Entry.TheVariants.{Admit, Run, Tick, Take, Close}
use Rattle.serial_model.specs.Tracking.{Invalidation, drop_group, has_id, ids_where}
use Rattle.serial_model.specs.Tracking.{signal_group, whole_group}
use Rattle.serial_model.specs.Actions.{is_passed, tracks}
use Rattle.tracking_laws.proofs.Invalidations.{tick_told}
use Rattle.tracking_laws.proofs.Prefixes.{times_has, whole_times}
use Rattle.serial_model.specs.History.{state, table, table_then, table_grown, expired, signals}
use Rattle.serial_model.specs.History.{drops, expiry_group, run_action}
use Rattle.serial_model.specs.History.{invalidations, keyspace, runner}
use Rattle.serial_model.specs.Laws.{is_among, remembers, drops_key, has_prefix_of}
use Rattle.tracking_laws.specs.Told.{once, times_told, is_signalled, ToldByName, ToldIsAsked}
use Rattle.tracking_laws.specs.Told.{ToldOnce, is_flush, passes_over, reads_key, times_in}
use Rattle.tracking_laws.specs.Told.{times_registered, where_so}
use Rattle.tracking_laws.proofs.Remembering.{ran_signals_or_reads}
use Rattle.tracking_laws.proofs.Owned.{grown_is, before_read, then_is}
use Rattle.serial_model.proofs.KeptTables.{is_table, is_table_then, is_table_grown}
use Rattle.serial_model.proofs.KeptPrefixes.{AllAscend, prefixes_ascend}
use Rattle.tracking_laws.proofs.Counts.{told_append, drop_once, flush_names_none}
use Rattle.tracking_laws.proofs.Counts.{told_unless}

module _ (c : ℕ) (key : List ℕ) where
  unless_passed : (b named : Bool) (n : ℕ)
      → cond b 0 (where_so named n) ≡ where_so (named && not b) n
  unless_passed b named n = grind arith

  -- a command tells of what it signals by name those that are not passed over
  signal_times : (sig : Signalled) (passed : ℕ → Bool) (ids : List ℕ) (rows : List Held)
      (prefixes : List Registration) → IsTable rows → AllAscend prefixes
      → times_told c key (signal_group sig passed ids rows prefixes)
      ≡ where_so (is_signalled sig key && not (passed c))
      (once (has_id c (holders_of key rows)) + times_in prefixes c key)
  signal_times (Keys keys) passed ids rows prefixes h up =
      told_unless c key passed (whole_group keys rows prefixes)
      ∙ ap (cond (passed c) 0) (whole_times c key keys rows prefixes h up)
      ∙ unless_passed (passed c) (is_among keys key)
      (once (has_id c (holders_of key rows)) + times_in prefixes c key)
  signal_times All passed ids rows prefixes h up = flush_names_none c key ids

  three : (a b d : List Invalidation)
      → times_told c key (a ++ (b ++ d))
      ≡ times_told c key a + times_told c key b + times_told c key d
  three a b d = grind (arith, told_append)

same_sum : (a b d x y z : ℕ) → a ≡ x → b ≡ y → d ≡ z → a + b + d ≡ x + y + z
same_sum a b d x y z e f g = omega (arith, e, f, g)

pub told_by_name : (l : Limits) (entry : Entry) (past : List Entry) → ToldByName l entry past
told_by_name l (Admit id) past c key = refl
told_by_name l (Run id words moment) past c key =
    let s = state l past in
    let sig = signals l past id words moment in
    let passed = is_passed (run_action id words moment s) s in
    let grown = table_grown l past id words moment in
    let then = table_then l past moment in
    three c key (expiry_group l past moment)
    (signal_group sig passed (ids_where (tracks s) s.admitted) then s.prefixes)
    (drop_group (drops l past id words moment))
    ∙ same_sum _ _ _ _ _ _
    (whole_times c key (expired l past moment) (table l past) s.prefixes (is_table l past)
    (prefixes_ascend l past))
    (signal_times c key sig passed _ then s.prefixes (is_table_then l past moment)
    (prefixes_ascend l past))
    (drop_once c key (length grown - l.table_max) grown
    (is_table_grown l past id words moment).ordered)
told_by_name l (Tick moment) past c key =
    ap (times_told c key) (tick_told l past moment)
    ∙ whole_times c key (expired l past moment) (table l past) (state l past).prefixes
    (is_table l past) (prefixes_ascend l past)
    ∙ none_more _
  where
    none_more : (n : ℕ) → n ≡ n + 0 + 0
    none_more n = omega arith
told_by_name l (Take id max) past c key = refl
told_by_name l (Close id) past c key = refl

-- ---- what that says of whether the key was remembered

-- of a key: it expires, was remembered, is signalled, but the connection is passed over, and is
-- dropped; all are; it is remembered where it is dropped; and the entry's own read names it
module _ (left held signalled passed all gone last own : Bool) where
  abbrev Times : ℕ → ℕ
  Times n =
      where_so left (once held + n)
      + where_so (signalled && not passed) (once (not left && held) + n)
      + once (gone && last)

  -- what is remembered last is read or was remembered
  abbrev IsKnown : Type 0
  IsKnown = last ≡ true → ((not (all || signalled) && (not left && held)) || own) ≡ true

  told_known : (n : ℕ) (has : Bool) → IsKnown → (0 < n → has ≡ true) → 0 < Times n
      → ((held || own) || has) ≡ true
  told_known n has known asked some = grind arith

  told_at_most : (n : ℕ) → IsKnown → (signalled ≡ false) ⊎ (own ≡ false)
      → Times n ≤ 1 + once (left && (own && gone)) + where_so left n + where_so signalled n
  told_at_most n known apart = grind arith

module _ (l : Limits) (past : List Entry) (c : ℕ) (key : List ℕ) (id : ℕ)
    (words : List (List ℕ)) (moment : ℕ) where
  abbrev left : Bool
  left = is_among (expired l past moment) key

  abbrev held : Bool
  held = remembers (table l past) c key

  abbrev named : Bool
  named = is_signalled (signals l past id words moment) key

  abbrev passed : Bool
  passed = passes_over l (Run id words moment) past c

  abbrev all : Bool
  all = is_flush (signals l past id words moment)

  abbrev gone : Bool
  gone = drops_key l (Run id words moment) past key

  abbrev last : Bool
  last = remembers (table_grown l past id words moment) c key

  abbrev own : Bool
  own = reads_key l (Run id words moment) past c key

  abbrev by_prefix : ℕ
  by_prefix = times_registered l past c key

  run_times : times_told c key (invalidations l (Run id words moment) past)
      ≡ Times left held named passed all gone last own by_prefix
  run_times =
      told_by_name l (Run id words moment) past c key
      ∙ ap (λ b. where_so left (once held + by_prefix)
      + where_so (named && not passed) (once b + by_prefix) + once (gone && last))
      (then_is l past c key moment)

  run_known : IsKnown left held named passed all gone last own
  run_known e =
      ap (λ b. b || own) (sym (before_read l past c key id words moment))
      ∙ grown_is l past c key id words moment e

  run_apart : (named ≡ false) ⊎ (own ≡ false)
  run_apart =
      grind (
        arith,
        ran_signals_or_reads (runner l past id words moment) words
            (without_due moment (keyspace l past)) moment,
      )

  run_asked : 0 < times_told c key (invalidations l (Run id words moment) past)
      → ((held || own) || has_prefix_of (state l past).prefixes c key) ≡ true
  run_asked h =
      told_known left held named passed all gone last own by_prefix _ run_known
      (times_has c key (state l past).prefixes) (subst (λ n. 0 < n) run_times h)

  run_once : times_told c key (invalidations l (Run id words moment) past)
      ≤ 1 + once (left && (own && gone)) + where_so left by_prefix + where_so named by_prefix
  run_once =
      rw run_times
      (told_at_most left held named passed all gone last own by_prefix run_known run_apart)

tick_asked : (left held has : Bool) (n k : ℕ) → (0 < n → has ≡ true)
    → k ≡ where_so left (once held + n) + 0 + 0 → 0 < k → ((held || false) || has) ≡ true
tick_asked left held has n k asked e lt = grind arith

tick_once : (left held : Bool) (n k : ℕ) → k ≡ where_so left (once held + n) + 0 + 0
    → k ≤ 1 + once (left && (false && false)) + where_so left n + where_so false n
tick_once left held n k e = grind arith

pub told_is_asked : (l : Limits) (entry : Entry) (past : List Entry) → ToldIsAsked l entry past
told_is_asked l (Admit id) past c key h = absurd (let no : ⊥ = omega (arith, h) in no)
told_is_asked l (Run id words moment) past c key h = run_asked l past c key id words moment h
told_is_asked l (Tick moment) past c key h =
    tick_asked (is_among (expired l past moment) key) (remembers (table l past) c key) _
    (times_registered l past c key) _ (times_has c key (state l past).prefixes)
    (told_by_name l (Tick moment) past c key) h
told_is_asked l (Take id max) past c key h = absurd (let no : ⊥ = omega (arith, h) in no)
told_is_asked l (Close id) past c key h = absurd (let no : ⊥ = omega (arith, h) in no)

pub told_once : (l : Limits) (entry : Entry) (past : List Entry) → ToldOnce l entry past
told_once l (Admit id) past c key = omega arith
told_once l (Run id words moment) past c key = run_once l past c key id words moment
told_once l (Tick moment) past c key =
    tick_once (is_among (expired l past moment) key) (remembers (table l past) c key)
    (times_registered l past c key) _ (told_by_name l (Tick moment) past c key)
told_once l (Take id max) past c key = omega arith
told_once l (Close id) past c key = omega arith
