-- In the table of every history each key is there once and is held, and holders ascend.
use Rattle.std.proofs.Common.{◌-◌, ℕ, List, [], ◌∷◌, length, subst, sym}
use Rattle.command_words.specs.declared.command.Signalled.{Signalled}
use Rattle.command_words.specs.declared.command.Signalled.TheVariants.{Keys, All}
use Rattle.track_table.specs.declared.table.Held.{Held}
use Rattle.track_table.specs.Table.{kept, remembered, with_keys, without_connection, without_key}
use Rattle.track_table.specs.Table.{without_keys}
use Rattle.track_table.specs.Order.{IsTable}
use Rattle.track_table.proofs.Orders.{table_remembered, table_without_key, table_drop}
use Rattle.track_table.proofs.Orders.{table_without_connection}
use Rattle.serial_model.specs.declared.history.Limits.{Limits}
use Rattle.serial_model.specs.declared.history.Entry.{Entry}
use Rattle.serial_model.specs.declared.history.Entry.TheVariants.{Admit, Run, Tick, Take, Close}
use Rattle.serial_model.specs.Modes.{Memory, Remembers, Registers, Forgets}
use Rattle.serial_model.specs.State.{for_each}
use Rattle.serial_model.specs.Tracking.{without_signalled, remembering}
use Rattle.serial_model.specs.History.{state, table, table_then, table_grown, expired, signals}
use Rattle.serial_model.specs.History.{made}
use Rattle.serial_model.proofs.StateSteps.{run_ends, tick_ends, tick_table}

none : IsTable []
none = record { ordered = tt; held = tt }

pub table_without_keys : (keys : List (List ℕ)) (rows : List Held) → IsTable rows
    → IsTable (without_keys keys rows)
table_without_keys [] rows h = h
table_without_keys (key ∷ keys) rows h =
    table_without_keys keys (without_key key rows) (table_without_key key rows h)

pub table_without_signalled : (sig : Signalled) (rows : List Held) → IsTable rows
    → IsTable (without_signalled sig rows)
table_without_signalled (Keys keys) rows h = table_without_keys keys rows h
table_without_signalled All rows h = none

table_with_keys : (id : ℕ) (keys : List (List ℕ)) (rows : List Held) → IsTable rows
    → IsTable (with_keys id keys rows)
table_with_keys id [] rows h = h
table_with_keys id (key ∷ keys) rows h =
    table_with_keys id keys (remembered id key rows) (table_remembered id key rows h)

table_remembering : (id : ℕ) (memory : Memory) (rows : List Held) → IsTable rows
    → IsTable (remembering id memory rows)
table_remembering id (Remembers keys) rows h = table_with_keys id keys rows h
table_remembering id (Registers ps) rows h = h
table_remembering id Forgets rows h = table_without_connection id rows h

table_left : (ids : List ℕ) (rows : List Held) → IsTable rows
    → IsTable (for_each without_connection ids rows)
table_left [] rows h = h
table_left (id ∷ ids) rows h =
    table_left ids (without_connection id rows) (table_without_connection id rows h)

module _ (l : Limits) where
  pub grown_from : (past : List Entry) (id : ℕ) (words : List (List ℕ)) (moment : ℕ)
      → IsTable (table l past) → IsTable (table_grown l past id words moment)
  grown_from past id words moment h =
      let then = table_then l past moment in
      let sig = signals l past id words moment in
      table_remembering id (made l past id words moment).memory (without_signalled sig then)
      (table_without_signalled sig then
      (table_without_keys (expired l past moment) (table l past) h))

  pub is_table : (past : List Entry) → IsTable (table l past)
  unfolding state
  is_table [] = none
  is_table (Admit id ∷ past) = is_table past
  is_table (Run id words moment ∷ past) =
      let grown = table_grown l past id words moment in
      table_left (run_ends l id words moment (state l past)) (kept l.table_max grown)
      (table_drop (length grown - l.table_max) grown
      (grown_from past id words moment (is_table past)))
  is_table (Tick moment ∷ past) =
      subst IsTable (sym (tick_table l past moment))
      (table_left (tick_ends l moment (state l past)) (table_then l past moment)
      (table_without_keys (expired l past moment) (table l past) (is_table past)))
  is_table (Take id max ∷ past) = is_table past
  is_table (Close id ∷ past) = table_without_connection id (table l past) (is_table past)

  pub is_table_grown : (past : List Entry) (id : ℕ) (words : List (List ℕ)) (moment : ℕ)
      → IsTable (table_grown l past id words moment)
  is_table_grown past id words moment = grown_from past id words moment (is_table past)

  pub is_table_then : (past : List Entry) (moment : ℕ) → IsTable (table_then l past moment)
  is_table_then past moment =
      table_without_keys (expired l past moment) (table l past) (is_table past)
