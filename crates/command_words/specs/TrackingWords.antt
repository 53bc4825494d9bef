-- The words of CLIENT TRACKING (the page of CLIENT TRACKING): ON or OFF, and options in any order.
use Rattle.std.specs.Prelude.{ℕ, Bool, true, false, ◌||◌, if◌then◌else◌, is_some, ◌++◌}
use Rattle.std.specs.Prelude.{List, [], ◌∷◌, Some, None, Ok, Err, ℤ, pos, negsuc, codes}
use Rattle.command_words.specs.declared.command.TrackOptions.{TrackOptions}
use Rattle.command_words.specs.declared.command.WordFault.TheVariants.{Arity, Syntax}
use Rattle.command_words.specs.Names.{is_name}
use Rattle.command_words.specs.Reading.{Read, read_then}
use Rattle.command_words.specs.WordCounts.{number}

abbrev pub no_options : Bool → TrackOptions
no_options on =
    record {
      on = on;
      redirect = None;
      prefixes = [];
      bcast = false;
      optin = false;
      optout = false;
      noloop = false;
    }

-- a negative id names no connection, as 0 does
abbrev pub connection_of : ℤ → ℕ
connection_of (pos n) = n
connection_of (negsuc n) = 0

-- the options of one word, which may stand any number of times
abbrev pub is_flag : List ℕ → Bool
is_flag w =
    is_name (codes "bcast") w || (is_name (codes "optin") w
    || (is_name (codes "optout") w || is_name (codes "noloop") w))

abbrev pub with_flag : List ℕ → TrackOptions → TrackOptions
with_flag w o =
    if is_name (codes "bcast") w then record o { bcast = true } else
    if is_name (codes "optin") w then record o { optin = true } else
    if is_name (codes "optout") w then record o { optout = true } else
    record o { noloop = true }

abbrev mutual
  -- options after those read so far; at most one REDIRECT, the others any number of times
  pub track_options : TrackOptions → List (List ℕ) → Read TrackOptions
  track_options o [] = Ok o
  track_options o (w ∷ ws) =
      if is_flag w then track_options (with_flag w o) ws else
      if is_name (codes "prefix") w then prefix_option o ws else
      if is_name (codes "redirect") w
      then (if is_some o.redirect then Err Syntax else redirect_option o ws) else
      Err Syntax

  pub prefix_option : TrackOptions → List (List ℕ) → Read TrackOptions
  prefix_option o [] = Err Syntax
  prefix_option o (prefix ∷ ws) =
      track_options (record o { prefixes = o.prefixes ++ prefix ∷ [] }) ws

  pub redirect_option : TrackOptions → List (List ℕ) → Read TrackOptions
  redirect_option o [] = Err Syntax
  redirect_option o (id ∷ ws) =
      read_then (number id) (λ n. track_options (record o { redirect = Some (connection_of n) }) ws)

-- the words after CLIENT TRACKING
unfoldable pub tracking : List (List ℕ) → Read TrackOptions
tracking [] = Err Arity
tracking (w ∷ ws) =
    if is_name (codes "on") w then track_options (no_options true) ws else
    if is_name (codes "off") w then track_options (no_options false) ws else
    Err Syntax
