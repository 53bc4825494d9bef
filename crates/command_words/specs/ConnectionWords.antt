-- The names of the commands on a connection, and the words of each (the pages of these commands).
use Rattle.std.specs.Prelude.{ℕ, if◌then◌else◌}
use Rattle.std.specs.Prelude.{List, [], ◌∷◌, Option, Some, None, Ok, Err, codes}
use Rattle.std.specs.Str.{bytes_eq}
use Rattle.command_words.specs.declared.command.Command.{Command}
use Rattle.command_words.specs.declared.command.Command.TheVariants.{Ping, Echo, Hello, Reset, Quit}
use Rattle.command_words.specs.declared.command.Command.TheVariants.{Shutdown}
use Rattle.command_words.specs.declared.command.Command.TheVariants.{Subscribe, Unsubscribe}
use Rattle.command_words.specs.declared.command.SaveMode.{SaveMode}
use Rattle.command_words.specs.declared.command.SaveMode.TheVariants.{Plain, Save, NoSave}
use Rattle.command_words.specs.declared.connection_words.ConnectionName.{ConnectionName}
use Rattle.command_words.specs.declared.connection_words.ConnectionName.TheVariants as name
use Rattle.command_words.specs.declared.command.WordFault.TheVariants.{Unknown, Syntax}
use Rattle.command_words.specs.Names.{is_name}
use Rattle.command_words.specs.ClientWords.{client_words}
use Rattle.command_words.specs.Reading.{Read, read_as}
use Rattle.command_words.specs.WordCounts.{no_word, one, at_most_one}

-- HELLO: a version of the protocol, or none; further words are its options, and none is served
abbrev pub hello_version : List (List ℕ) → Read (Option (List ℕ))
hello_version [] = Ok None
hello_version (p ∷ []) = Ok (Some p)
hello_version _ = Err Syntax

-- SHUTDOWN: one of SAVE and NOSAVE, or none
abbrev pub save_mode : List (List ℕ) → Read SaveMode
save_mode [] = Ok Plain
save_mode (w ∷ []) =
    if is_name (codes "save") w then Ok Save else
    if is_name (codes "nosave") w then Ok NoSave else
    Err Syntax
save_mode _ = Err Syntax

unfoldable pub connection_reading : List ℕ → List (List ℕ) → Read Command
connection_reading name words =
    if bytes_eq name (codes "ping") then read_as Ping (at_most_one words) else
    if bytes_eq name (codes "echo") then read_as Echo (one words) else
    if bytes_eq name (codes "hello") then read_as Hello (hello_version words) else
    if bytes_eq name (codes "reset") then read_as (λ _. Reset) (no_word words) else
    if bytes_eq name (codes "quit") then read_as (λ _. Quit) (no_word words) else
    if bytes_eq name (codes "shutdown") then read_as Shutdown (save_mode words) else
    if bytes_eq name (codes "client") then client_words words else
    if bytes_eq name (codes "subscribe") then read_as Subscribe (one words) else
    if bytes_eq name (codes "unsubscribe") then read_as Unsubscribe (at_most_one words) else
    Err Unknown

-- the names
abbrev pub connection_name_text : ConnectionName → List ℕ
connection_name_text name.Ping = codes "ping"
connection_name_text name.Echo = codes "echo"
connection_name_text name.Hello = codes "hello"
connection_name_text name.Reset = codes "reset"
connection_name_text name.Quit = codes "quit"
connection_name_text name.Shutdown = codes "shutdown"
connection_name_text name.Client = codes "client"
connection_name_text name.Subscribe = codes "subscribe"
connection_name_text name.Unsubscribe = codes "unsubscribe"
