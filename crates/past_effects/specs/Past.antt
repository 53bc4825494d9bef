-- The effects of a past, oldest first, and what of its state they tell.
use Rattle.std.specs.Prelude.{◌≡◌, ◌+◌, ◌-◌, ℕ, List, [], ◌∷◌, ◌++◌, true, length, if◌then◌else◌}
use Rattle.std.specs.FinMap.{empty}
use Rattle.serial_model.specs.declared.effect.Effect.{Effect}
use Rattle.serial_model.specs.declared.effect.EntryKind.{EntryKind}
use Rattle.serial_model.specs.declared.effect.EntryKind.TheVariants as kind
use Rattle.serial_model.specs.declared.history.Entry.{Entry}
use Rattle.serial_model.specs.declared.history.Limits.{Limits}
use Rattle.serial_model.specs.Actions.{Action, Sending, End, action_sends, action_leaves, to_one}
use Rattle.serial_model.specs.EntryEffects.{effect_at}
use Rattle.serial_model.specs.declared.standing.Standing.TheVariants.{Live}
use Rattle.serial_model.specs.State.{State, is_on, at, closed}
use Rattle.track_modes.specs.ModeState.{new_mode}
use Rattle.serial_model.specs.Tracking.{drop_group, ids_where, remembering, signal_group}
use Rattle.serial_model.specs.Tracking.{whole_group, without_signalled}
use Rattle.track_table.specs.Table.{TableState, dropped, without_connection, without_keys}
use Rattle.prefix_table.specs.Table as registrations
use Rattle.prefix_table.specs.declared.table.Registration.{Registration}
use Rattle.past_effects.specs.declared.own.Own.{Own}
use Rattle.past_effects.specs.declared.sendings.Sent.{Sent}
use Rattle.past_effects.specs.declared.scan.Scan.{Scan}
use Rattle.past_effects.specs.Made.{command_on, ending_by, memory_as, own_by, runner_by}
use Rattle.past_effects.specs.Seen.{Seen, changed, having, mode_at, on_at, passed_over, passes}
use Rattle.past_effects.specs.Seen.{seen_at, tracks_at}
use Rattle.past_effects.specs.Sendings.{outlines, told_sent}

-- the effect of each entry on those before it
abbrev pub effects_of : Limits → List Entry → List Effect
effects_of l [] = []
effects_of l (entry ∷ past) = effects_of l past ++ effect_at l entry past ∷ []

-- the action of a Run or a Tick; neither what it leaves of keys nor its moment is told
abbrev pub action_of : Effect → State → Action
action_of e s =
    let command = command_on (is_on s e.id) e.command in
    let own = own_by command (runner_by e.id (s.modes e.id) (is_on s) command) in
    record {
      by = e.id;
      moment = 0;
      expired = e.expired;
      effect = record {
        reply = e.reply;
        signalled = e.signalled;
        mode = own.mode;
        memory = own.memory;
        ending = ending_by command (s.modes e.id);
        space = empty;
      };
    }

-- the messages of an action, group by group
abbrev pub told_by : Effect → Own → List Seen → TableState → List Registration → List Sent
told_by e own cs table prefixes =
    let after = changed e.id (having own.mode) cs in
    let rows = without_keys e.expired table.rows in
    let memory = memory_as own.mode own.kept in
    let grown = remembering e.id memory (without_signalled e.signalled rows) in
    let tracking = ids_where (tracks_at cs) (length cs) in
    told_sent cs (whole_group e.expired table.rows prefixes)
    ++ outlines after (to_one e.id own.mode.proto e.reply)
    ++ told_sent after
    (signal_group e.signalled (passes (passed_over cs e.id)) tracking rows prefixes)
    ++ told_sent after (drop_group (dropped table.limit grown))

abbrev pub sends_by : Limits → Effect → EntryKind → State → List (ℕ × Sending)
sends_by l e kind.Admit s = []
sends_by l e kind.Run s = action_sends l (action_of e s) s
sends_by l e kind.Tick s = action_sends l (action_of e s) s
sends_by l e (kind.Take count) s = []
sends_by l e kind.Close s = if is_on s e.id then (e.id, End) ∷ [] else []

-- one connection more, as it is admitted
abbrev pub with_one : State → State
with_one s =
    let id = s.admitted + 1 in
    record s {
      admitted = id;
      modes = at id new_mode s.modes;
      standing = at id Live s.standing;
      waiting = at id 0 s.waiting;
    }

-- a connection took so many bytes
abbrev pub taken_at : ℕ → ℕ → State → State
taken_at id count s = record s { waiting = at id (s.waiting id - count) s.waiting }

-- a connection was closed
abbrev pub closed_at : ℕ → State → State
closed_at id s =
    record s {
      standing = at id (closed (s.standing id)) s.standing;
      waiting = at id 0 s.waiting;
      table = without_connection id s.table;
      prefixes = registrations.without_connection id s.prefixes;
    }

abbrev pub next_by : Limits → Effect → EntryKind → State → State
next_by l e kind.Admit s = with_one s
next_by l e kind.Run s = action_leaves l (action_of e s) s
next_by l e kind.Tick s = action_leaves l (action_of e s) s
next_by l e (kind.Take count) s = taken_at e.id count s
next_by l e kind.Close s = closed_at e.id s

-- what is kept in a scan is that of a state; how much waits matters until a connection ends
pub record Follows (l : Limits) (scan : Scan) (s : State) : Type 0 where
  pub most : scan.out_max ≡ l.out_max
  pub limit : scan.table.limit ≡ l.table_max
  pub count : length scan.connections ≡ s.admitted
  pub modes : (c : ℕ) → mode_at scan.connections c ≡ s.modes c
  pub on : (c : ℕ) → on_at scan.connections c ≡ is_on s c
  pub waiting : (c : ℕ) → is_on s c ≡ true → (seen_at scan.connections c).waiting ≡ s.waiting c
  pub rows : scan.table.rows ≡ s.table
  pub prefixes : scan.prefixes ≡ s.prefixes
