-- What the plan of a request says of what its words do.
use Rattle.std.specs.Prelude.{◌≡◌, ◌&&◌, ℕ, List, [], ◌∷◌, ◌++◌, Result, Ok, Err, Bool, true}
use Rattle.std.specs.Prelude.{false}
use Rattle.std.specs.Prelude.{Option, Some, None, if◌then◌else◌}
use Rattle.std.specs.Option.{option_map_or}
use Rattle.command_words.specs.declared.command.Command.{Command}
use Rattle.command_words.specs.declared.command.Command.TheVariants.{ClientTrackingInfo}
use Rattle.command_words.specs.declared.command.Signalled.{Signalled}
use Rattle.command_words.specs.declared.command.Signalled.TheVariants.{Keys, All}
use Rattle.command_words.specs.declared.command.WordFault.{WordFault}
use Rattle.command_words.specs.Effect as words
use Rattle.command_words.specs.Effects.{has_row}
use Rattle.command_words.specs.Space.{Space}
use Rattle.track_table.specs.declared.table.Held.{Held}
use Rattle.resp_value.specs.declared.value.Value.{Value}
use Rattle.track_table.specs.Table.{TableState, dropped, kept}
use Rattle.prefix_table.specs.declared.table.Registration.{Registration}
use Rattle.track_modes.specs.Commands.{allows, spent_mode}
use Rattle.track_modes.specs.ModeState.{ModeState, prefixes_of}
use Rattle.serial_model.specs.Modes.{Runner, Memory, Remembers, Registers, Forgets, own_effect}
use Rattle.serial_model.specs.Modes.{Ending, OwnEffect, Quits, Stays, Stops, ending_of}
use Rattle.serial_model.specs.Modes.{is_stopping}
use Rattle.serial_model.specs.Tracking.{AreApart, Invalidation, drop_group, registering}
use Rattle.serial_model.specs.Tracking.{remembering, signal_group, without_signalled}
use Rattle.serial_model.specs.History.{effect_of, ending_in, made_of, ran_over, served_reading}
use Rattle.server_book.specs.declared.deed.Deed.{Deed}
use Rattle.server_book.specs.declared.deed.Deed.TheVariants.{Nothing, Tell, TellAll, Remember}
use Rattle.server_book.specs.declared.deed.Deed.TheVariants.{Become, Track, Forget, Quit, Shutdown}
use Rattle.server_book.specs.declared.plan.Caller.{Caller}
use Rattle.server_book.specs.declared.plan.Plan.{Plan}

-- what a deed signals, and what its connection remembers by it
abbrev pub signals_of : Deed → Signalled
signals_of Nothing = Keys []
signals_of (Tell keys) = Keys keys
signals_of TellAll = All
signals_of (Remember keys) = Keys []
signals_of (Become mode) = Keys []
signals_of (Track mode) = Keys []
signals_of (Forget mode) = Keys []
signals_of Quit = Keys []
signals_of Shutdown = Keys []

abbrev pub memory_of : Deed → Memory
memory_of Nothing = Remembers []
memory_of (Tell keys) = Remembers []
memory_of TellAll = Remembers []
memory_of (Remember keys) = Remembers keys
memory_of (Become mode) = Remembers []
memory_of (Track mode) = Registers (prefixes_of mode.tracking)
memory_of (Forget mode) = Forgets
memory_of Quit = Remembers []
memory_of Shutdown = Remembers []

-- the mode that it leaves, where it is another
abbrev pub becomes : Deed → Option ModeState
becomes (Become mode) = Some mode
becomes (Track mode) = Some mode
becomes (Forget mode) = Some mode
becomes deed = None

-- a deed that leaves no other mode ends what CLIENT CACHING said
abbrev pub mode_by : Deed → ModeState → ModeState
mode_by deed mode = option_map_or (λ m. m) (becomes deed) (spent_mode mode)

-- whom it ends
abbrev pub ending_by : Deed → Ending
ending_by Quit = Quits
ending_by Shutdown = Stops
ending_by deed = Stays

-- each key that is told of is named once
abbrev pub IsSound : Deed → Type 0
IsSound (Tell keys) = AreApart keys
IsSound deed = Unit {0}

-- the deed of a command that signals this, and reads these keys, which are remembered or not
abbrev pub deed_for : Bool → List (List ℕ) → Signalled → Deed
deed_for remembers reads (Keys []) = if remembers then Remember reads else Nothing
deed_for remembers reads (Keys (key ∷ keys)) = Tell (key ∷ keys)
deed_for remembers reads All = TellAll

-- the remembered keys after a deed of a connection, those past the limit with them
abbrev pub remembered_by : ℕ → Deed → List Held → List Held
remembered_by id deed rows =
    remembering id (memory_of deed) (without_signalled (signals_of deed) rows)

-- whom a deed tells, where some are passed over and these track, then the holders of the keys that
-- it pushes out
abbrev pub told_by : ℕ → Deed → (ℕ → Bool) → List ℕ → TableState → List Registration
    → List Invalidation
told_by id deed is_passed tracking table prefixes =
    signal_group (signals_of deed) is_passed tracking table.rows prefixes
    ++ drop_group (dropped table.limit (remembered_by id deed table.rows))

abbrev pub kept_by : ℕ → ℕ → Deed → List Held → List Held
kept_by limit id deed rows = kept limit (remembered_by id deed rows)

-- the registered prefixes after a deed of a connection
abbrev pub registered_by : ℕ → Deed → List Registration → List Registration
registered_by id deed prefixes = registering id (memory_of deed) prefixes

-- who runs words, in a mode
abbrev pub runner : Caller → ModeState → Runner
runner by mode =
    record {
      id = by.id;
      mode = mode;
      is_broken = by.is_broken;
      target_exists = by.target_exists;
    }

-- a command is answered, and does no more
abbrev pub answered : ModeState → Value → Plan
answered mode reply = record { reply = Some reply; proto = mode.proto; deed = Nothing }

-- the plan of what is done to keys and answered, and made of a connection in a mode, and of whom
-- that ends; where all end nothing is answered
pub record IsPlan (plan : Plan) (before : ModeState) (does : words.Effect) (makes : OwnEffect)
    (ends : Ending) : Type 0 where
  pub reply : plan.reply ≡ (if is_stopping ends then None else Some does.reply)
  pub signals : signals_of plan.deed ≡ does.signalled
  pub memory : memory_of plan.deed ≡ makes.memory
  pub mode : mode_by plan.deed before ≡ makes.mode
  pub ending : ending_by plan.deed ≡ ends
  pub proto : plan.proto ≡ makes.mode.proto
  pub sound : IsSound plan.deed

-- of words, by the command that they are served as, which the mode allows; and of any words
abbrev pub PlansRead : Plan → Runner → List (List ℕ) → Result Command WordFault → Space → ℕ
    → Type 0
PlansRead plan by words read space moment =
    IsPlan plan by.mode (effect_of by words read space moment) (own_effect read by)
    (ending_of read)

abbrev pub PlansWords : Plan → Runner → List (List ℕ) → Space → ℕ → Type 0
PlansWords plan by words space moment =
    IsPlan plan by.mode (ran_over space by words moment) (made_of words by)
    (ending_in by.mode (served_reading words))

-- and they leave the keyspace
pub record IsQuiet (plan : Plan) (by : Runner) (words : List (List ℕ))
    (read : Result Command WordFault) (space : Space) (moment : ℕ) : Type 0 where
  pub planned : PlansRead plan by words read space moment
  pub stays : (effect_of by words read space moment).space ≡ space

pub record LeavesKeys (plan : Plan) (by : Runner) (words : List (List ℕ)) (space : Space)
    (moment : ℕ) : Type 0 where
  pub planned : PlansWords plan by words space moment
  pub stays : (ran_over space by words moment).space ≡ space

-- a plan of a command that leaves the keyspace, whatever words it was read from
abbrev pub IsPlanOf : Plan → Runner → Command → Type 0
IsPlanOf plan by command =
    (words : List (List ℕ)) (space : Space) (moment : ℕ)
    → IsQuiet plan by words (Ok command) space moment

-- words that run on data, which their mode allows
abbrev pub runs_row : ModeState → Result Command WordFault → Bool
runs_row mode (Ok command) = has_row command && allows mode command
runs_row mode (Err fault) = false

-- words that ask whether the redirection of their connection is broken
abbrev pub asks_broken : Result Command WordFault → Bool
asks_broken (Ok ClientTrackingInfo) = true
asks_broken _ = false
