-- What a Run does to the connections.
use Rattle.std.specs.Prelude.{◌&&◌, ℕ, List, not}
use Rattle.track_table.specs.Table.{TableState, without_keys}
use Rattle.prefix_table.specs.declared.table.Registration.{Registration}
use Rattle.serial_model.specs.Modes.{mends}
use Rattle.serial_model.specs.Tracking.{whole_group}
use Rattle.serial_model.specs.Actions.{to_one}
use Rattle.server_book.specs.Places.{Connection}
use Rattle.server_book.specs.declared.deed.Deed.{Deed}
use Rattle.server_book.specs.declared.plan.Plan.{Plan}
use Rattle.server_book.specs.Connections.{ConnectionsState, connection_at, with_connection}
use Rattle.server_book.specs.Plans.{memory_of, mode_by, told_by}
use Rattle.server_book.specs.Sendings.{lost_marked, passed_over, passes, tracking_ids}
use Rattle.server_book.specs.Sendings.{with_sendings, with_told}

-- a Run that is carried out: its entry and its connection, the keys that left before it, its plan,
-- and what was remembered and registered before it
pub record Running : Type 0 where
  pub entry : ℕ
  pub id : ℕ
  pub expired : List (List ℕ)
  pub plan : Plan
  pub table : TableState
  pub prefixes : List Registration

-- the connections once those are told who held the keys that left, or registered a prefix of them
abbrev pub expiry_told : Running → ConnectionsState → ConnectionsState
expiry_told run state =
    with_told run.entry (whole_group run.expired run.table.rows run.prefixes) state

-- once the reply is sent, if there is one
abbrev pub reply_sent : ℕ → ℕ → Plan → ConnectionsState → ConnectionsState
reply_sent entry id plan state = with_sendings entry (to_one id plan.proto plan.reply) state

-- once those are told whom a deed tells
abbrev pub deed_done : ℕ → ℕ → Deed → TableState → List Registration → ConnectionsState
    → ConnectionsState
deed_done entry id deed table prefixes state =
    let cs = state.items in
    let told = told_by id deed (passes (passed_over cs id)) (tracking_ids cs) table prefixes in
    with_told entry told state

-- over the remembered keys that are left
abbrev pub run_sendings : Running → ConnectionsState → ConnectionsState
run_sendings run state =
    deed_done run.entry run.id run.plan.deed
    (record run.table { rows = without_keys run.expired run.table.rows }) run.prefixes
    (reply_sent run.entry run.id run.plan (expiry_told run state))

-- what a connection is after its deed
abbrev pub settled_one : Deed → Connection → Connection
settled_one deed c =
    record c {
      mode = mode_by deed c.mode;
      is_broken = not (mends (memory_of deed)) && c.is_broken;
    }

-- the redirections that were found broken are, and the connection has what the command leaves of it
abbrev pub settled : ℕ → Deed → ConnectionsState → ConnectionsState
settled id deed state =
    let s = lost_marked state in
    let c = settled_one deed (connection_at s.items id) in
    record s { items = with_connection s.items id c }
