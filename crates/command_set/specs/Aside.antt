-- What keys hold is moved aside before a command writes over it, and an empty string stands in its
-- place until then.
use Rattle.std.specs.Prelude.{ℕ, List, [], ◌∷◌, Bool, true, false, not, is_some, ◌&&◌}
use Rattle.std.specs.Prelude.{Some, None}
use Rattle.std.specs.FinMap.{contains_key}
use Rattle.std.specs.Str.{bytes_eq}
use Rattle.command_words.specs.declared.command.Command.{Command}
use Rattle.command_words.specs.declared.command.Command.TheVariants.{Set, MSet, Del, Expire}
use Rattle.command_words.specs.declared.command.Command.TheVariants.{PExpire, ExpireAt, PExpireAt}
use Rattle.command_words.specs.declared.command.Command.TheVariants.{Rename}
use Rattle.command_words.specs.declared.command.SetWhen.{SetWhen}
use Rattle.command_words.specs.declared.command.SetWhen.TheVariants.{Always, Nx, Xx}
use Rattle.command_words.specs.Keys.{expiry_after, expiry_at}
use Rattle.command_words.specs.Space.{Text, Space, held_at}
use Rattle.keyspace.specs.Lending.{with_content}
use Rattle.command_set.specs.Priors.{Kept, Whole, Moved, Life, Size, Field, Taken, Priors}

-- SET with NX writes only where there is nothing to write over
abbrev pub is_over : SetWhen → Bool
is_over Always = true
is_over Nx = false
is_over Xx = true

-- the command writes over what its keys hold, or takes it out, without a look at it; RENAME what
-- the second one holds, where it moves the first
unfoldable pub writes_over : Command → Space → ℕ → Bool
writes_over (Set key value when life) space moment = is_over when
writes_over (MSet words) space moment = true
writes_over (Del keys) space moment = true
writes_over (Rename a b) space moment = not (bytes_eq a b) && contains_key space a
writes_over (Expire key n) space moment = not (is_some (expiry_after moment 1000 n))
writes_over (PExpire key n) space moment = not (is_some (expiry_after moment 1 n))
writes_over (ExpireAt key n) space moment = not (is_some (expiry_at moment 1000 n))
writes_over (PExpireAt key n) space moment = not (is_some (expiry_at moment 1 n))
writes_over _ space moment = false

-- an empty string in the place of what the key held, with its deadline
abbrev pub hollow : List ℕ → Space → Space
hollow key = with_content key (Text [])

abbrev pub hollowed : List (List ℕ) → Space → Space
hollowed [] space = space
hollowed (key ∷ keys) space = hollowed keys (hollow key space)

-- what is moved aside of these keys, one after the other
abbrev pub moved : List (List ℕ) → Space → Priors
moved [] space = []
moved (key ∷ keys) space = (key, Whole (held_at key space)) ∷ moved keys (hollow key space)

-- what a command that writes over these keys sets aside: of RENAME what the second one held, and
-- that it holds now what the first one did
unfoldable pub set_aside : Command → List (List ℕ) → Space → Priors
set_aside (Rename a b) keys space = (b, Whole (held_at b space)) ∷ (a, Moved b) ∷ []
set_aside _ keys space = moved keys space

-- the keyspace then
unfoldable pub left_beside : Command → List (List ℕ) → Space → Space
left_beside (Rename a b) keys space = hollow b space
left_beside _ keys space = hollowed keys space

-- what was moved aside is in its place again
abbrev pub filled_one : List ℕ → Kept → Space → Space
filled_one key (Whole None) space = space
filled_one key (Whole (Some held)) space = with_content key held.content space
filled_one key (Moved other) space = space
filled_one key (Life at) space = space
filled_one key (Size len) space = space
filled_one key (Field field value) space = space
filled_one key (Taken fields) space = space

-- from right to left: what was moved last first
abbrev pub filled : Priors → Space → Space
filled [] space = space
filled (p ∷ ps) space = filled_one p.0 p.1 (filled ps space)
