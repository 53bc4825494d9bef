-- Which keys are dropped from the table, and when (tracking-table-max-keys of the client-side
-- caching reference: past that number the server evicts the oldest keys and tells their holders).
use Rattle.std.specs.Prelude.{◌≡◌, ◌+◌, ◌<◌, ◌≤◌, ℕ, List, [], ◌∷◌, ◌++◌, Bool, length}
use Rattle.std.specs.Prelude.{if◌then◌else◌}
use Rattle.std.specs.List.{list_any}
use Rattle.std.specs.Str.{bytes_eq}
use Rattle.track_table.specs.declared.table.Held.{Held}
use Rattle.track_table.specs.Order.{IsTable}
use Rattle.track_table.specs.Table.{kept, without_connection}
use Rattle.serial_model.specs.declared.history.Limits.{Limits}
use Rattle.serial_model.specs.declared.history.Entry.{Entry}
use Rattle.serial_model.specs.declared.history.Entry.TheVariants.{Run}
use Rattle.serial_model.specs.State.{for_each}
use Rattle.serial_model.specs.Actions as action
use Rattle.serial_model.specs.Tracking.{without_signalled}
use Rattle.serial_model.specs.History.{drops, run_action, signals, state, table, table_grown}
use Rattle.serial_model.specs.History.{table_then}
use Rattle.serial_model.specs.Each.{AllIn}
use Rattle.tracking_laws.specs.Told.{rows_at_drop}

-- the rows that an entry drops
abbrev pub dropped_at : Limits → Entry → List Entry → List Held
dropped_at l (Run id words moment) past = drops l past id words moment
dropped_at l _ past = []

-- the rows that it leaves then
abbrev pub kept_at : Limits → Entry → List Entry → List Held
kept_at l (Run id words moment) past = kept l.table_max (table_grown l past id words moment)
kept_at l entry past = table l (entry ∷ past)

-- the connections that end by a Run, and leave the table last
abbrev pub ended_at : Limits → Entry → List Entry → List ℕ
ended_at l (Run id words moment) past =
    let s = state l past in action.ends l (run_action id words moment s) s
ended_at l _ past = []

-- some connection remembers the key
abbrev pub is_remembered : List Held → List ℕ → Bool
is_remembered rows key = list_any (λ r. bytes_eq key r.key) rows

-- the table before an entry's own read is remembered
abbrev pub rows_at_read : Limits → Entry → List Entry → List Held
rows_at_read l (Run id words moment) past =
    without_signalled (signals l past id words moment) (table_then l past moment)
rows_at_read l entry past = table l (entry ∷ past)

-- the number of the entry since which a remembered key has been remembered without a break
abbrev pub since : Limits → List Entry → List ℕ → ℕ
since l [] key = 0
since l (entry ∷ past) key =
    if is_remembered (rows_at_read l entry past) key then since l past key else length past + 1

-- Keys are dropped only while more than table_max are remembered, and then down to that number. No
-- key that stays has been remembered for longer than one that was dropped. Each key counts once,
-- and only while a connection remembers it. All else stays, but for what the connections remember
-- that end by the entry.
pub record DropsOldest (l : Limits) (entry : Entry) (past : List Entry) : Type 0 where
  pub counted : IsTable (rows_at_drop l entry past)
  pub parted : rows_at_drop l entry past ≡ dropped_at l entry past ++ kept_at l entry past
  pub within : length (kept_at l entry past) ≤ l.table_max
  pub full : 0 < length (dropped_at l entry past)
      → length (kept_at l entry past) ≡ l.table_max
  pub oldest : AllIn (λ (gone : Held). AllIn (λ (stays : Held).
      since l (entry ∷ past) gone.key ≤ since l (entry ∷ past) stays.key)
      (kept_at l entry past)) (dropped_at l entry past)
  pub left : table l (entry ∷ past)
      ≡ for_each without_connection (ended_at l entry past) (kept_at l entry past)
