-- CLIENT and its subcommands, and the words of each (the pages of these commands).
use Rattle.std.specs.Prelude.{ℕ, if◌then◌else◌, Bool, true, false, List, [], ◌∷◌, Ok, Err, codes}
use Rattle.std.specs.Str.{bytes_eq, str_to_ascii_lowercase}
use Rattle.command_words.specs.declared.command.Command.{Command}
use Rattle.command_words.specs.declared.command.Command.TheVariants.{ClientId, ClientTracking}
use Rattle.command_words.specs.declared.command.Command.TheVariants.{ClientCaching}
use Rattle.command_words.specs.declared.command.Command.TheVariants.{ClientGetRedir}
use Rattle.command_words.specs.declared.command.Command.TheVariants.{ClientTrackingInfo}
use Rattle.command_words.specs.declared.client_words.ClientName.{ClientName}
use Rattle.command_words.specs.declared.client_words.ClientName.TheVariants as name
use Rattle.command_words.specs.declared.command.WordFault.TheVariants.{Unknown, Arity, Syntax}
use Rattle.command_words.specs.Names.{is_name}
use Rattle.command_words.specs.Reading.{Read, read_as}
use Rattle.command_words.specs.TrackingWords.{tracking}
use Rattle.command_words.specs.WordCounts.{no_word}

-- CLIENT CACHING: YES or NO
abbrev pub yes_or_no : List (List ℕ) → Read Bool
yes_or_no (w ∷ []) =
    if is_name (codes "yes") w then Ok true else
    if is_name (codes "no") w then Ok false else
    Err Syntax
yes_or_no _ = Err Arity

-- a subcommand in lower case, and the words after it
unfoldable pub client_reading : List ℕ → List (List ℕ) → Read Command
client_reading name words =
    if bytes_eq name (codes "id") then read_as (λ _. ClientId) (no_word words) else
    if bytes_eq name (codes "tracking") then read_as ClientTracking (tracking words) else
    if bytes_eq name (codes "caching") then read_as ClientCaching (yes_or_no words) else
    if bytes_eq name (codes "getredir") then read_as (λ _. ClientGetRedir) (no_word words) else
    if bytes_eq name (codes "trackinginfo")
    then read_as (λ _. ClientTrackingInfo) (no_word words) else
    Err Unknown

-- the words after CLIENT
abbrev pub client_words : List (List ℕ) → Read Command
client_words [] = Err Arity
client_words (name ∷ words) = client_reading (str_to_ascii_lowercase name) words

-- the names
abbrev pub client_name_text : ClientName → List ℕ
client_name_text name.Id = codes "id"
client_name_text name.Tracking = codes "tracking"
client_name_text name.Caching = codes "caching"
client_name_text name.GetRedir = codes "getredir"
client_name_text name.TrackingInfo = codes "trackinginfo"
