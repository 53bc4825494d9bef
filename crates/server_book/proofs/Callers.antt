-- Who runs a request, by the connections, is who runs it by the history.
use Rattle.std.proofs.Common.{◌≡◌, ◌∙◌, ◌<◌, ◌^◌, ℕ, List, Bool, true, Option, Some, None}
use Rattle.std.proofs.Common.{Result, refl, sym, ap, arith, length}
use Rattle.std.specs.Prelude.{◌&&◌, ◌||◌, IfSome}
use Rattle.command_words.specs.declared.command.Command.{Command}
use Rattle.command_words.specs.declared.command.WordFault.{WordFault}
use Rattle.command_words.specs.Space.{Space}
use Rattle.command_words.specs.Words.{reading}
use Rattle.prefix_table.specs.declared.table.Registration.{Registration}
use Rattle.track_table.specs.Table.{TableState}
use Rattle.track_modes.specs.ModeState.{ModeState}
use Rattle.serial_model.specs.declared.history.Entry.{Entry}
use Rattle.serial_model.specs.declared.history.Limits.{Limits}
use Rattle.serial_model.specs.Actions.{are_lost}
use Rattle.serial_model.specs.Deadlines.{due_keys}
use Rattle.serial_model.specs.History.{expired, is_broken_then, is_target, run_action, runner_in}
use Rattle.serial_model.specs.History.{runs_on, served, served_reading, state}
use Rattle.serial_model.specs.Modes.{target_of}
use Rattle.serial_model.specs.State.{State, keeps_bytes}
use Rattle.serial_model.specs.Tracking.{whole_group}
use Rattle.serial_model.proofs.Counts.{admitted_is}
use Rattle.serial_model.proofs.Lives.{is_from}
use Rattle.serial_model.proofs.Streams.{runs_read}
use Rattle.server_book.specs.declared.plan.Caller.{Caller}
use Rattle.server_book.specs.BookState.{Agrees}
use Rattle.server_book.specs.Connections.{connection_at, is_live as is_live_in}
use Rattle.server_book.specs.Places.{Connection, HasNumber}
use Rattle.server_book.specs.Plans.{asks_broken}
use Rattle.server_book.specs.Sendings.{is_broken_by, is_target as is_target_in, modes_in}
use Rattle.server_book.proofs.BookTurns.{mode_of, open_at, runs_there, kept_of}
use Rattle.server_book.proofs.Plans.{Calls, number_made}
use Rattle.server_book.proofs.Routing.{lost_among}
use Rattle.server_book.proofs.Runs.{early_lost, first_told, on_cs}

target_served : (r : Result Command WordFault) → target_of (served r) ≡ target_of r
target_served r = grind arith

asks_served : (r : Result Command WordFault) → asks_broken (served r) ≡ true
    → asks_broken r ≡ true
asks_served r h = grind arith

kept_true : (k b : Bool) → k ≡ true → (k && b) ≡ b
kept_true k b h = grind arith

module _ (l : Limits) (past : List Entry) (space : Space) (keys : TableState)
    (rs : List Registration) (cs : List Connection) (k : Agrees l past space keys rs cs) (m : ℕ)
    (words : List (List ℕ)) (id : ℕ) (on : runs_on l past id ≡ true) where
  abbrev now : State
  now = state l past

  abbrev due : List (List ℕ)
  due = due_keys m space

  due_is : due ≡ expired l past m
  due_is = ap (due_keys m) k.space_is

  target_is : (x : Option ℕ) → is_target_in (is_live_in cs) x ≡ is_target now x
  target_is None = refl
  target_is (Some r) = on_cs l past space keys rs cs k m due due_is r

  own_broken : (connection_at cs id).is_broken ≡ now.broken id
  own_broken =
      let c = kept_of l past space keys rs cs k id (runs_there l past space keys rs cs k id on) in
      ap (λ (c : Connection). c.is_broken) c
      ∙ kept_true (keeps_bytes (now.standing id)) (now.broken id)
      (sym (ap (λ (c : Connection). keeps_bytes c.standing) c)
      ∙ open_at l past space keys rs cs k id (runs_read l past id on))

  broken_is : is_broken_by due keys.rows rs cs id ≡ is_broken_then now id m
  broken_is =
      ap (λ b. b || are_lost (modes_in cs) (is_live_in cs) (whole_group due keys.rows rs) id)
      own_broken
      ∙ ap (λ b. now.broken id || b)
      (sym (lost_among cs (first_told l past space keys rs cs k m due due_is) id)
      ∙ early_lost l past space keys rs cs k m due due_is id)

  pub calls : (by : Caller) (mode : ModeState) → by.id ≡ id
      → mode ≡ (connection_at cs id).mode
      → by.target_exists ≡ is_target_in (is_live_in cs) (target_of (reading words))
      → (asks_broken (reading words) ≡ true → by.is_broken ≡ is_broken_by due keys.rows rs cs id)
      → Calls l past words m id by mode
  calls by mode own has target broken = record {
    id_is = own;
    mode_is = has ∙ mode_of l past space keys rs cs k id on;
    target =
        target ∙ target_is (target_of (reading words))
        ∙ ap (is_target now) (sym (target_served (reading words)));
    broken = λ asks. broken (asks_served (reading words) asks) ∙ broken_is;
  }

  small_target : length cs < 2 ^ 63 → (x : Option ℕ) → is_target now x ≡ true
      → IfSome x (λ r. r < 2 ^ 63)
  small_target few None is = tt
  small_target few (Some r) is =
      let there = (is_from now r is).1 in
      let count = k.count in
      omega (arith, there, count, few, admitted_is l past)

  -- the mode that its command leaves names a connection as its target, too
  pub number_then : length cs < 2 ^ 63 → HasNumber (now.modes id)
      → HasNumber (run_action id words m now).effect.mode
  number_then few h =
      number_made words (runner_in now id words m) h
      (small_target few (target_of (served_reading words)))
