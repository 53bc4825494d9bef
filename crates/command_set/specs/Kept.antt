-- What a command keeps of the keys that it writes.
use Rattle.std.specs.Prelude.{ℕ, List, [], ◌∷◌, length, map}
use Rattle.std.specs.Prelude.{Option, Some, None}
use Rattle.command_words.specs.declared.command.Command.{Command}
use Rattle.command_words.specs.declared.command.Command.TheVariants.{Set, SetNx, HSet}
use Rattle.command_words.specs.declared.command.Command.TheVariants.{Append, Persist, Rename}
use Rattle.command_words.specs.declared.command.Command.TheVariants.{Expire, PExpire, ExpireAt}
use Rattle.command_words.specs.declared.command.Command.TheVariants.{PExpireAt}
use Rattle.command_words.specs.Hashes.{Pairs, field_get}
use Rattle.command_words.specs.Keys.{expiry_after, expiry_at}
use Rattle.command_words.specs.Queries.{keys_in_turn}
use Rattle.command_words.specs.Space.{Content, Text, Fields, Held, Space}
use Rattle.command_words.specs.Space.{content_at, deadline_at, held_at}
use Rattle.command_set.specs.Priors.{Priors, Life, Size, Field, what_held}

-- the fields of these names
abbrev pub named_kept : List ℕ → List (List ℕ) → Pairs → Priors
named_kept key names fields = map (λ name. (key, Field name (field_get name fields))) names

-- of a hash that has fields those of these names; nothing of a string, which stays
abbrev pub hash_kept : List ℕ → List (List ℕ) → Option Content → Space → Priors
hash_kept key names None space = what_held (key ∷ []) space
hash_kept key names (Some (Text value)) space = []
hash_kept key names (Some (Fields [])) space = what_held (key ∷ []) space
hash_kept key names (Some (Fields (f ∷ fs))) space = named_kept key names (f ∷ fs)

-- of a string its length; nothing of a hash, which stays
abbrev pub text_kept : List ℕ → Option Content → Space → Priors
text_kept key None space = what_held (key ∷ []) space
text_kept key (Some (Text value)) space = (key, Size (length value)) ∷ []
text_kept key (Some (Fields fields)) space = []

abbrev pub life_kept : List ℕ → Space → Priors
life_kept key space = (key, Life (deadline_at key space)) ∷ []

-- the deadline, where the key stays
abbrev pub expiry_kept : List ℕ → Option ℕ → Space → Priors
expiry_kept key None space = what_held (key ∷ []) space
expiry_kept key (Some until) space = life_kept key space

-- of a key that is missing that it is; nothing of one that is there, which stays
abbrev pub new_kept : List ℕ → Option Held → Space → Priors
new_kept key None space = what_held (key ∷ []) space
new_kept key (Some held) space = []

-- what a command that writes these keys keeps of them, where it doesn't write over all that they
-- hold; of SET only that with NX doesn't, and RENAME changes nothing then
unfoldable pub kept : Command → List (List ℕ) → Space → ℕ → Priors
kept (Set key value when life) keys space moment = new_kept key (held_at key space) space
kept (SetNx key value) keys space moment = new_kept key (held_at key space) space
kept (Rename a b) keys space moment = []
kept (HSet key words) keys space moment =
    hash_kept key (keys_in_turn words) (content_at key space) space
kept (Append key value) keys space moment = text_kept key (content_at key space) space
kept (Persist key) keys space moment = life_kept key space
kept (Expire key n) keys space moment = expiry_kept key (expiry_after moment 1000 n) space
kept (PExpire key n) keys space moment = expiry_kept key (expiry_after moment 1 n) space
kept (ExpireAt key n) keys space moment = expiry_kept key (expiry_at moment 1000 n) space
kept (PExpireAt key n) keys space moment = expiry_kept key (expiry_at moment 1 n) space
kept _ keys space moment = what_held keys space
