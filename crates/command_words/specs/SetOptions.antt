-- The options of SET (the page of SET): one of NX and XX, one of EX, PX and KEEPTTL, in any order.
use Rattle.std.specs.Prelude.{ℕ, ◌*◌, ◌^◌, ◌&&◌, nat_lt, Bool, true, false, if◌then◌else◌}
use Rattle.std.specs.Prelude.{List, [], ◌∷◌, Ok, Err, ℤ, pos, negsuc, codes}
use Rattle.command_words.specs.declared.command.SetWhen.{SetWhen}
use Rattle.command_words.specs.declared.command.SetWhen.TheVariants.{Always, Nx, Xx}
use Rattle.command_words.specs.declared.command.SetLife.{SetLife}
use Rattle.command_words.specs.declared.command.SetLife.TheVariants.{Cleared, Seconds, Millis, Kept}
use Rattle.command_words.specs.declared.command.Command.{Command}
use Rattle.command_words.specs.declared.command.Command.TheVariants.{Set}
use Rattle.command_words.specs.declared.command.WordFault.TheVariants.{Arity, Syntax, BadExpire}
use Rattle.command_words.specs.Names.{is_name}
use Rattle.command_words.specs.Reading.{Read, read_as, read_then}
use Rattle.command_words.specs.WordCounts.{number}

abbrev pub is_always : SetWhen → Bool
is_always Always = true
is_always Nx = false
is_always Xx = false

abbrev pub is_cleared : SetLife → Bool
is_cleared Cleared = true
is_cleared (Seconds n) = false
is_cleared (Millis n) = false
is_cleared Kept = false

-- positive, and in milliseconds within 64 bits with a sign
abbrev pub is_life : ℕ → ℤ → Bool
is_life unit (pos n) = nat_lt 0 n && nat_lt (n * unit) (2 ^ 63)
is_life unit (negsuc n) = false

abbrev pub life : ℕ → List ℕ → Read ℤ
life unit word = read_then (number word) (λ n. if is_life unit n then Ok n else Err BadExpire)

abbrev mutual
  -- options after those read so far; `Always` and `Cleared` where there was none of their group
  pub set_options : SetWhen → SetLife → List (List ℕ) → Read (SetWhen × SetLife)
  set_options when had [] = Ok (when, had)
  set_options when had (w ∷ ws) =
      if is_name (codes "nx") w
      then (if is_always when then set_options Nx had ws else Err Syntax) else
      if is_name (codes "xx") w
      then (if is_always when then set_options Xx had ws else Err Syntax) else
      if is_name (codes "keepttl") w
      then (if is_cleared had then set_options when Kept ws else Err Syntax) else
      if is_name (codes "ex") w
      then (if is_cleared had then life_option 1000 Seconds when ws else Err Syntax) else
      if is_name (codes "px") w
      then (if is_cleared had then life_option 1 Millis when ws else Err Syntax) else
      Err Syntax

  pub life_option : ℕ → (ℤ → SetLife) → SetWhen → List (List ℕ) → Read (SetWhen × SetLife)
  life_option unit made when [] = Err Syntax
  life_option unit made when (n ∷ ws) =
      read_then (life unit n) (λ i. set_options when (made i) ws)

-- the words of SET
unfoldable pub set_reading : List (List ℕ) → Read Command
set_reading (key ∷ value ∷ options) =
    read_as (λ o. Set key value o.0 o.1) (set_options Always Cleared options)
set_reading _ = Err Arity
