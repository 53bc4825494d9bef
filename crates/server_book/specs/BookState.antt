-- What contracts see of a book, and how its parts follow from its history.
use Rattle.std.specs.Prelude.{◌≡◌, ◌<◌, ◌≤◌, ◌+◌, ℕ, List, [], ◌∷◌, true, false, length, max}
use Rattle.std.specs.Prelude.{Bool, Option, Some, None}
use Rattle.std.specs.List.{count_by}
use Rattle.command_words.specs.Space.{Space}
use Rattle.serial_model.specs.declared.history.Limits.{Limits}
use Rattle.serial_model.specs.declared.history.Post.{Post}
use Rattle.serial_model.specs.declared.history.Entry.{Entry}
use Rattle.serial_model.specs.declared.history.BookCall.{BookCall}
use Rattle.serial_model.specs.declared.history.BookCall.TheVariants.{Admit, Run, Tick, Take}
use Rattle.serial_model.specs.declared.history.BookCall.TheVariants.{Close}
use Rattle.serial_model.specs.declared.history.BookReply.{BookReply}
use Rattle.serial_model.specs.declared.history.BookReply.TheVariants.{Admitted, Ran, Ticked, Quiet}
use Rattle.serial_model.specs.declared.history.BookReply.TheVariants.{Bytes, Closed, Refused}
use Rattle.serial_model.specs.declared.effect.Effect.{Effect}
use Rattle.serial_model.specs.declared.history.Entry.TheVariants as entry
use Rattle.serial_model.specs.EntryEffects.{last_effect, dropped_by}
use Rattle.serial_model.specs.Actions.{Action}
use Rattle.serial_model.specs.History.{admitted, keyspace, unsent, posted, IsLegal, state, latest}
use Rattle.serial_model.specs.History.{runs_on, gives_on, reads_on, is_stopped, run_action}
use Rattle.server_book.specs.declared.book.RunDone.{RunDone}
use Rattle.serial_model.specs.History.{table as table_of}
use Rattle.track_table.specs.Table.{TableState}
use Rattle.prefix_table.specs.declared.table.Registration.{Registration}
use Rattle.server_book.specs.declared.stores.Stores.{Stores}
use Rattle.serial_model.specs.Steps.{BookStep}
use Rattle.server_book.specs.Places.{Connection, kept_broken, kept_mode}
use Rattle.server_book.specs.Connections.{IsId, connection_at, is_open}
use Rattle.server_book.specs.Log.{LogState}

-- the limits, the history with its newest entry first, what the last turn sent, whom it dropped,
-- and the effect of the entry that it added
pub record BookState : Type 0 where
  pub limits : Limits
  pub past : List Entry
  pub posts : List Post
  pub drops : List ℕ
  pub effect : Option Effect

-- before the first turn
abbrev pub empty_book : Limits → BookState
empty_book limits = record { limits = limits; past = []; posts = []; drops = []; effect = None }

-- a turn has begun, and added no entry yet
pub record IsClear (b : BookState) : Type 0 where
  pub posts : b.posts ≡ []
  pub drops : b.drops ≡ []
  pub effect : b.effect ≡ None

-- what a turn sent: the posts of the entry that it added, none where it added none
abbrev pub posts_after : Limits → BookReply → List Entry → List Post
posts_after l (Admitted e id) past = posted l past
posts_after l (Ran e) past = posted l past
posts_after l (Ticked e) past = posted l past
posts_after l Quiet past = []
posts_after l (Bytes e bytes) past = posted l past
posts_after l (Closed e) past = posted l past
posts_after l (Refused r) past = []

-- whom a turn dropped, and the effect of the entry that it added
abbrev pub drops_after : Limits → BookReply → List Entry → List ℕ
drops_after l (Admitted e id) past = dropped_by l past
drops_after l (Ran e) past = dropped_by l past
drops_after l (Ticked e) past = dropped_by l past
drops_after l Quiet past = []
drops_after l (Bytes e bytes) past = dropped_by l past
drops_after l (Closed e) past = dropped_by l past
drops_after l (Refused r) past = []

abbrev pub effect_after : Limits → BookReply → List Entry → Option Effect
effect_after l (Admitted e id) past = last_effect l past
effect_after l (Ran e) past = last_effect l past
effect_after l (Ticked e) past = last_effect l past
effect_after l Quiet past = None
effect_after l (Bytes e bytes) past = last_effect l past
effect_after l (Closed e) past = last_effect l past
effect_after l (Refused r) past = None

-- what is kept of a connection
abbrev pub connection_of : Limits → List Entry → ℕ → Connection
connection_of l past id =
    let s = state l past in
    record {
      queue = unsent l id past;
      standing = s.standing id;
      mode = kept_mode (s.standing id) (s.modes id);
      is_broken = kept_broken (s.standing id) (s.broken id);
    }

-- the history is legal, and the keyspace, the remembered keys, the registered prefixes and the
-- connections are those of it
pub record Agrees (l : Limits) (past : List Entry) (space : Space) (table : TableState)
    (prefixes : List Registration) (connections : List Connection) : Type 0 where
  pub legal : IsLegal l past
  pub space_is : space ≡ keyspace l past
  pub table_is : table ≡ record { limit = l.table_max; rows = table_of l past }
  pub prefixes_are : prefixes ≡ (state l past).prefixes
  pub count : length connections ≡ admitted past
  pub each : (id : ℕ) → IsId connections id → connection_at connections id ≡ connection_of l past id

-- there is room for the Close of each connection that has not ended
abbrev pub HasRoom : ℕ → List Connection → Type 0
HasRoom room connections = count_by is_open connections ≤ room

pub record IsBook (l : Limits) (stopped : Bool) (log : LogState) (stores : Stores) : Type 0 where
  pub agrees : Agrees l log.past stores.space stores.table stores.prefixes
      stores.connections.items
  pub most_is : log.most ≡ l.history_max
  pub room : HasRoom log.closable stores.connections.items
  pub none_lost : stores.connections.lost ≡ []
  pub stopped_is : stopped ≡ is_stopped l log.past

-- the call is one that adds an entry; of a Tick it is not known yet whether a key is due
abbrev pub IsAccepted : Limits → List Entry → BookCall → Type 0
IsAccepted l past Admit = is_stopped l past ≡ false
IsAccepted l past (Run id words now) = runs_on l past id ≡ true
IsAccepted l past (Tick now) = is_stopped l past ≡ false
IsAccepted l past (Take id most) =
    (gives_on l past id ≡ true) × (0 < length (unsent l id past))
IsAccepted l past (Close id) = reads_on l past id ≡ true

-- the call adds no entry, and the answer is the step's; or there is none, and the call is accepted
abbrev pub IsRefusal : BookState → BookCall → Option BookReply → Type 0
IsRefusal b call None = IsAccepted b.limits b.past call
IsRefusal b call (Some reply) =
    BookStep b.limits b.past call reply b.past × (posts_after b.limits reply b.past ≡ [])
    × (drops_after b.limits reply b.past ≡ []) × (effect_after b.limits reply b.past ≡ None)

-- the turn is the step, sends its posts, and says whom it dropped and what its effect is
pub record IsTurn (old : BookState) (call : BookCall) (reply : BookReply) (new : BookState) : Type 0
  where
    pub limits : new.limits ≡ old.limits
    pub step : BookStep old.limits old.past call reply new.past
    pub posts : new.posts ≡ posts_after old.limits reply new.past
    pub drops : new.drops ≡ drops_after old.limits reply new.past
    pub effect : new.effect ≡ effect_after old.limits reply new.past

abbrev pub action_of : BookState → ℕ → List (List ℕ) → ℕ → Action
action_of b id words now =
    run_action id words (max now (latest b.past)) (state b.limits b.past)

-- the Run was played, and this is what it did beside its command; its effect is not told yet
pub record HasRun (old : BookState) (id : ℕ) (words : List (List ℕ)) (now : ℕ) (done : RunDone)
    (new : BookState) : Type 0 where
  pub turn : IsTurn old (Run id words now) (Ran (length old.past + 1)) (record new {
    effect = last_effect old.limits new.past;
  })
  pub past : new.past ≡ entry.Run id words (max now (latest old.past)) ∷ old.past
  pub entry : done.entry ≡ length old.past + 1
  pub expired : done.expired ≡ (action_of old id words now).expired
  pub reply : done.reply ≡ (action_of old id words now).effect.reply
  pub signalled : done.signalled ≡ (action_of old id words now).effect.signalled
