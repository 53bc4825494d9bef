-- The commands, their options, and what their words ask for.
use Rattle.std.specs.Prelude.{ℕ, List, [], ◌∷◌, codes, true, false, Bool, ◌&&◌, if◌then◌else◌}
use Rattle.std.specs.Prelude.{option_and_then, option_map, length, ◌==◌}
use Rattle.std.specs.declared.option.Option.{Option}
use Rattle.std.specs.declared.option.Option.TheVariants.{None, Some}
use Rattle.std.specs.Str.{bytes_eq}
use Rattle.std.specs.Path.{rsplit_once}
use Rattle.resp_value.specs.declared.value.Proto.{Proto}
use Rattle.resp_value.specs.declared.value.Proto.TheVariants.{Two, Three}
use Rattle.command_line.specs.declared.settings.Asked.{Asked}
use Rattle.command_line.specs.declared.settings.Asked.TheVariants as asked
use Rattle.command_line.specs.declared.settings.Caching.{Caching}
use Rattle.command_line.specs.declared.settings.Caching.TheVariants.{Default, OptIn, OptOut, Bcast}
use Rattle.command_line.specs.declared.settings.Connection.{Connection}
use Rattle.command_line.specs.declared.settings.LimitSettings.{LimitSettings}
use Rattle.command_line.specs.declared.settings.StormSettings.{StormSettings}
use Rattle.command_line.specs.declared.settings.ServeSettings.{ServeSettings}
use Rattle.command_line.specs.declared.settings.ScriptSettings.{ScriptSettings}
use Rattle.command_line.specs.Options.{Word, Known, flag, valued, number_in, settings_by}

abbrev pub optional : Word → Known
optional name = valued name false

abbrev pub needed : Word → Known
needed name = valued name true

-- ---- world

abbrev pub limit_options : List Known
limit_options =
    optional (codes "table-max") ∷ optional (codes "out-max") ∷ optional (codes "history-max") ∷ []

abbrev pub world_options : List Known
world_options = limit_options

abbrev pub limits : Option ℕ → Option ℕ → Option ℕ → Option LimitSettings
limits (Some table) (Some out) (Some history) =
    Some (record { table_max = table; out_max = out; history_max = history })
limits _ _ _ = None

-- with this many entries of the history kept, unless it is said
abbrev pub limits_from : ℕ → (Word → Option Word) → Option LimitSettings
limits_from most value =
    limits
    (number_in 1 4000000000 (Some 1000000) (value (codes "table-max")))
    (number_in 1 4000000000 (Some 8388608) (value (codes "out-max")))
    (number_in 1 4000000000 (Some most) (value (codes "history-max")))

unfoldable pub world_of : List Word → Option LimitSettings
world_of words = settings_by world_options (λ value is_set. limits_from 4000000 value) words

-- ---- storm

abbrev pub storm_options : List Known
storm_options = needed (codes "number") ∷ needed (codes "steps") ∷ []

abbrev pub storm : Option ℕ → Option ℕ → Option StormSettings
storm (Some number) (Some steps) = Some (record { number = number; steps = steps })
storm _ _ = None

abbrev pub storm_from : (Word → Option Word) → Option StormSettings
storm_from value =
    storm
    (number_in 0 18446744073709551615 None (value (codes "number")))
    (number_in 0 200000 None (value (codes "steps")))

unfoldable pub storm_of : List Word → Option StormSettings
storm_of words = settings_by storm_options (λ value is_set. storm_from value) words

-- ---- serve

abbrev pub serve_options : List Known
serve_options =
    needed (codes "port") ∷ optional (codes "workers") ∷ optional (codes "connections")
    ∷ limit_options

abbrev pub serve : Option ℕ → Option ℕ → Option ℕ → Option LimitSettings → Option ServeSettings
serve (Some port) (Some workers) (Some connections) (Some limits) =
    Some (record { port = port; workers = workers; connections = connections; limits = limits })
serve _ _ _ _ = None

abbrev pub port_of : Option Word → Option ℕ
port_of text = number_in 1 65535 None text

abbrev pub serve_from : (Word → Option Word) → Option ServeSettings
serve_from value =
    serve
    (port_of (value (codes "port")))
    (number_in 1 64 (Some 4) (value (codes "workers")))
    (number_in 0 1000000 (Some 0) (value (codes "connections")))
    (limits_from 1 value)

unfoldable pub serve_of : List Word → Option ServeSettings
serve_of words = settings_by serve_options (λ value is_set. serve_from value) words

-- ---- script

abbrev pub script_options : List Known
script_options =
    needed (codes "connect") ∷ optional (codes "resp") ∷ optional (codes "mode")
    ∷ optional (codes "prefix") ∷ optional (codes "capacity") ∷ flag (codes "noloop")
    ∷ flag (codes "redirect") ∷ []

abbrev pub connection_at : Word → Option ℕ → Option Connection
connection_at host port =
    if length host == 0 then None else option_map (λ n. record { host = host; port = n }) port

-- HOST:PORT, where HOST comes before the last colon and is not empty
abbrev pub connection_in : Word → Option Connection
connection_in text =
    option_and_then
    (λ sides. connection_at sides.0 (port_of (Some sides.1)))
    (rsplit_once 58 text)

abbrev pub connection_of : Option Word → Option Connection
connection_of text = option_and_then connection_in text

abbrev pub proto_of : Option Word → Option Proto
proto_of None = Some Three
proto_of (Some text) =
    if bytes_eq text (codes "2") then Some Two else
    if bytes_eq text (codes "3") then Some Three else None

abbrev pub caching_of : Option Word → Option Caching
caching_of None = Some Default
caching_of (Some text) =
    if bytes_eq text (codes "default") then Some Default else
    if bytes_eq text (codes "optin") then Some OptIn else
    if bytes_eq text (codes "optout") then Some OptOut else
    if bytes_eq text (codes "bcast") then Some Bcast else None

-- what was written as a prefix, if anything was, must not be empty
abbrev pub prefix_of : Option Word → Option (Option Word)
prefix_of None = Some None
prefix_of (Some []) = None
prefix_of (Some (b ∷ text)) = Some (Some (b ∷ text))

-- RESP2 has no push messages, so it needs a link for them
abbrev pub has_pushes : Proto → Bool → Bool
has_pushes Two redirect = redirect
has_pushes Three redirect = true

-- a prefix is of broadcasting alone
abbrev pub takes_prefix : Caching → Option Word → Bool
takes_prefix Bcast prefix = true
takes_prefix caching None = true
takes_prefix caching (Some prefix) = false

abbrev pub if_allowed : ScriptSettings → Option ScriptSettings
if_allowed s =
    if has_pushes s.resp s.redirect && takes_prefix s.caching s.prefix then Some s else None

abbrev pub script : Option Connection → Option Proto → Option Caching → Option (Option Word)
    → Option ℕ → Bool → Bool → Option ScriptSettings
script (Some connect) (Some resp) (Some caching) (Some prefix) (Some capacity) noloop redirect =
    if_allowed (record {
      connect = connect;
      resp = resp;
      caching = caching;
      prefix = prefix;
      capacity = capacity;
      noloop = noloop;
      redirect = redirect;
    })
script _ _ _ _ _ _ _ = None

abbrev pub script_from : (Word → Option Word) → (Word → Bool) → Option ScriptSettings
script_from value is_set =
    script
    (connection_of (value (codes "connect")))
    (proto_of (value (codes "resp")))
    (caching_of (value (codes "mode")))
    (prefix_of (value (codes "prefix")))
    (number_in 1 1000000 (Some 1024) (value (codes "capacity")))
    (is_set (codes "noloop"))
    (is_set (codes "redirect"))

unfoldable pub script_of : List Word → Option ScriptSettings
script_of words = settings_by script_options script_from words

-- ---- the program

-- what the words behind a command's name ask for
abbrev pub asked_of : Word → List Word → Option Asked
asked_of command words =
    if bytes_eq command (codes "world") then option_map asked.World (world_of words) else
    if bytes_eq command (codes "storm") then option_map asked.Storm (storm_of words) else
    if bytes_eq command (codes "serve") then option_map asked.Serve (serve_of words) else
    if bytes_eq command (codes "script") then option_map asked.Script (script_of words) else
    None

-- what the words behind the program's name ask for
abbrev pub command_of : List Word → Option Asked
command_of [] = None
command_of (command ∷ words) = asked_of command words
