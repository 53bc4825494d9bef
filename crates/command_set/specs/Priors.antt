-- What a run keeps of what it changes, and the keyspace in which all is as it was.
use Rattle.std.specs.Prelude.{ℕ, List, [], ◌∷◌, map, take}
use Rattle.std.specs.Prelude.{Option, Some, None}
use Rattle.std.specs.FinMap.{insert, remove}
use Rattle.std.specs.Option.{option_map, option_and_then}
use Rattle.command_words.specs.Hashes.{Pairs, field_set, field_remove}
use Rattle.command_words.specs.Space.{Content, Text, Fields, Held, Space, held_at}
use Rattle.command_words.specs.Space.{changed_at, deadline_at, with_deadline}
use Rattle.command_words.specs.Keys.{renamed}
use Rattle.keyspace.specs.Places.{Placed, all_placed, with_placed_of}
use Rattle.keyspace.specs.Plain.{held_of}
use Rattle.command_set.specs.declared.prior.Prior.{Prior}
use Rattle.command_set.specs.declared.prior.Kept as code
use Rattle.command_set.specs.declared.prior.Kept.TheVariants as variants
use Rattle.command_set.specs.declared.waiting.Parts.{Parts}
use Rattle.command_set.specs.declared.waiting.Waiting.{Waiting}
use Rattle.command_set.specs.declared.waiting.Waiting.TheVariants.{Nothing, Run'}

-- What is kept of a key: all that it held, if it was there; that another key holds it now; its
-- deadline; the length of its string; a field of its hash with the value, if the field was there;
-- fields that were taken out of its hash.
pub data Kept : Type 0 where
  Whole : Option Held → Kept
  Moved : List ℕ → Kept
  Life : Option ℕ → Kept
  Size : ℕ → Kept
  Field : List ℕ → Option (List ℕ) → Kept
  Taken : List Placed → Kept

-- keys, with what is kept of them
abbrev pub Priors : Type 0
Priors = List (List ℕ × Kept)

abbrev pub kept_of : code.Kept → Kept
kept_of (variants.Whole held) = Whole (option_map held_of held)
kept_of (variants.Moved other) = Moved other
kept_of (variants.Life at) = Life at
kept_of (variants.Size len) = Size len
kept_of (variants.Field field value) = Field field value
kept_of (variants.Taken fields) = Taken (all_placed fields.items)

abbrev pub prior_of : Prior → List ℕ × Kept
prior_of prior = (prior.key, kept_of prior.kept)

abbrev pub priors_of : List Prior → Priors
priors_of priors = map prior_of priors

-- the first bytes of a string
abbrev pub shortened : ℕ → Content → Content
shortened len (Text value) = Text (take len value)
shortened len (Fields fields) = Fields fields

-- a field with this value, or without it
abbrev pub field_back : List ℕ → Option (List ℕ) → Pairs → Pairs
field_back field None fields = field_remove field fields
field_back field (Some value) fields = field_set field value fields

abbrev pub with_field : List ℕ → Option (List ℕ) → Content → Content
with_field field value (Text text) = Text text
with_field field value (Fields fields) = Fields (field_back field value fields)

abbrev pub with_text_of : List ℕ → ℕ → Space → Space
with_text_of key len = changed_at key (λ held. record held { content = shortened len held.content })

abbrev pub with_field_of : List ℕ → List ℕ → Option (List ℕ) → Space → Space
with_field_of key field value =
    changed_at key (λ held. record held { content = with_field field value held.content })

-- what was kept of the key is so again
abbrev pub again : List ℕ → Kept → Space → Space
again key (Whole None) space = remove space key
again key (Whole (Some held)) space = insert space key held
again key (Moved other) space = renamed other key space
again key (Life at) space = with_deadline key at space
again key (Size len) space = with_text_of key len space
again key (Field field value) space = with_field_of key field value space
again key (Taken fields) space = with_placed_of key fields space

-- from right to left: what was kept last is so again first
abbrev pub put_back : Priors → Space → Space
put_back [] space = space
put_back (p ∷ ps) space = again p.0 p.1 (put_back ps space)

-- the deadline of what a key held
abbrev pub life_of : Option Held → Option ℕ
life_of held = option_and_then (λ h. h.deadline) held

-- a deadline, where the key is there
abbrev pub if_held : Option ℕ → Option Held → Option ℕ
if_held at None = None
if_held at (Some held) = at

-- the deadline that a key has once this is so again
abbrev pub life_again : List ℕ → Kept → Space → Option ℕ
life_again key (Whole held) space = life_of held
life_again key (Moved other) space = deadline_at other space
life_again key (Life at) space = if_held at (held_at key space)
life_again key (Size len) space = deadline_at key space
life_again key (Field field value) space = deadline_at key space
life_again key (Taken fields) space = deadline_at key space

-- the keys that change once this is so again
abbrev pub touched : List ℕ → Kept → List (List ℕ)
touched key (Whole held) = key ∷ []
touched key (Moved other) = other ∷ key ∷ []
touched key (Life at) = key ∷ []
touched key (Size len) = key ∷ []
touched key (Field field value) = key ∷ []
touched key (Taken fields) = key ∷ []

-- all that these keys hold
abbrev pub what_held : List (List ℕ) → Space → Priors
what_held keys space = map (λ key. (key, Whole (held_at key space))) keys

-- the keyspace once all that waits is put back, the runs that were taken back first in front
abbrev pub waiting_back : Waiting → Space → Space
waiting_back Nothing space = space
waiting_back (Run' kept due p earlier) space =
    put_back (priors_of due.items) (put_back (priors_of kept.items) (waiting_back earlier space))

-- the keyspace once all that waits is put back
abbrev pub shown : Parts → Space
shown parts = waiting_back parts.waiting parts.space
