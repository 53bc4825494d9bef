-- The deadline that a command gives a key, if it gives one.
use Rattle.std.specs.Prelude.{ℕ, List, Option, Some, None}
use Rattle.std.specs.Option.{option_map}
use Rattle.command_words.specs.declared.command.Command.{Command}
use Rattle.command_words.specs.declared.command.Command.TheVariants.{Set, Rename, Expire, PExpire}
use Rattle.command_words.specs.declared.command.Command.TheVariants.{ExpireAt, PExpireAt}
use Rattle.command_words.specs.declared.command.SetLife.{SetLife}
use Rattle.command_words.specs.declared.command.SetLife.TheVariants.{Cleared, Seconds, Millis, Kept}
use Rattle.command_words.specs.Space.{Space, deadline_at}
use Rattle.command_words.specs.Strings.{moment_after}
use Rattle.command_words.specs.Keys.{expiry_after, expiry_at}
use Rattle.expiry.specs.declared.index.Deadline.{Deadline}

abbrev pub deadline : List ℕ → Option ℕ → Option Deadline
deadline key moment = option_map (λ at. record { at = at; key = key }) moment

-- the deadline that SET gives
abbrev pub life_deadline : List ℕ → SetLife → ℕ → Option Deadline
life_deadline key Cleared moment = None
life_deadline key (Seconds n) moment = deadline key (Some (moment_after moment 1000 n))
life_deadline key (Millis n) moment = deadline key (Some (moment_after moment 1 n))
life_deadline key Kept moment = None

unfoldable pub new_deadline : Command → Space → ℕ → Option Deadline
new_deadline (Set key value when life) space moment = life_deadline key life moment
new_deadline (Rename a b) space moment = deadline b (deadline_at a space)
new_deadline (Expire key n) space moment = deadline key (expiry_after moment 1000 n)
new_deadline (PExpire key n) space moment = deadline key (expiry_after moment 1 n)
new_deadline (ExpireAt key n) space moment = deadline key (expiry_at moment 1000 n)
new_deadline (PExpireAt key n) space moment = deadline key (expiry_at moment 1 n)
new_deadline _ space moment = None
