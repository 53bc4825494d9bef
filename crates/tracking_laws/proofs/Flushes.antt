-- How often an entry tells a connection of all keys.
use Rattle.std.proofs.Common.{◌≡◌, ◌∙◌, ◌++◌, ℕ, List, Bool, ap, refl, arith}
use Rattle.std.specs.Prelude.{◌&&◌, nat_lt, nat_le, not}
use Rattle.command_words.specs.declared.command.Signalled.{Signalled}
use Rattle.command_words.specs.declared.command.Signalled.TheVariants.{Keys, All}
use Rattle.track_table.specs.declared.table.Held.{Held}
use Rattle.prefix_table.specs.declared.table.Registration.{Registration}
use Rattle.serial_model.specs.declared.history.Limits.{Limits}
use Rattle.serial_model.specs.declared.history.Entry.{Entry}
use Rattle.serial_model.specs.declared.history.Entry.TheVariants.{Admit, Run, Tick, Take, Close}
use Rattle.serial_model.specs.Tracking.{Invalidation, drop_group, ids_where, signal_group}
use Rattle.serial_model.specs.Tracking.{whole_group}
use Rattle.serial_model.specs.Actions.{is_passed, tracks}
use Rattle.serial_model.specs.History.{state, table, table_then, expired, signals, drops}
use Rattle.serial_model.specs.History.{expiry_group, run_action}
use Rattle.serial_model.proofs.Counts.{admitted_is}
use Rattle.tracking_laws.specs.Told.{once, times_flushed, is_flush, ToldOfAll}
use Rattle.tracking_laws.proofs.Counts.{flushed_append, drops_flush_none}
use Rattle.tracking_laws.proofs.Counts.{flush_once, filter_flushes_none}
use Rattle.tracking_laws.proofs.Invalidations.{tick_told}
use Rattle.tracking_laws.proofs.Prefixes.{whole_flushes_none}

-- a command tells of all keys where it is a flush
signal_flushes : (c : ℕ) (sig : Signalled) (passed test : ℕ → Bool) (n : ℕ) (rows : List Held)
    (prefixes : List Registration)
    → times_flushed c (signal_group sig passed (ids_where test n) rows prefixes)
    ≡ once (is_flush sig && ((nat_lt 0 c && nat_le c n) && test c))
signal_flushes c (Keys keys) passed test n rows prefixes =
    filter_flushes_none c (λ i. not (passed i.to)) (whole_group keys rows prefixes)
    (whole_flushes_none c keys rows prefixes)
signal_flushes c All passed test n rows prefixes = flush_once c test n

middle : (c : ℕ) (a b d : List Invalidation) → times_flushed c a ≡ 0 → times_flushed c d ≡ 0
    → times_flushed c (a ++ (b ++ d)) ≡ times_flushed c b
middle c a b d e f = grind (arith, flushed_append)

pub told_of_all : (l : Limits) (entry : Entry) (past : List Entry) → ToldOfAll l entry past
told_of_all l (Admit id) past c = refl
told_of_all l (Run id words moment) past c =
    let s = state l past in
    let sig = signals l past id words moment in
    let test = tracks s in
    let passed = is_passed (run_action id words moment s) s in
    let then = table_then l past moment in
    middle c (expiry_group l past moment)
    (signal_group sig passed (ids_where test s.admitted) then s.prefixes)
    (drop_group (drops l past id words moment))
    (whole_flushes_none c (expired l past moment) (table l past) s.prefixes)
    (drops_flush_none c (drops l past id words moment))
    ∙ signal_flushes c sig passed test s.admitted then s.prefixes
    ∙ ap (λ n. once (is_flush sig && ((nat_lt 0 c && nat_le c n) && test c))) (admitted_is l past)
told_of_all l (Tick moment) past c =
    ap (times_flushed c) (tick_told l past moment)
    ∙ whole_flushes_none c (expired l past moment) (table l past) (state l past).prefixes
told_of_all l (Take id max) past c = refl
told_of_all l (Close id) past c = refl
