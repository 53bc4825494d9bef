-- What a change of the fields under a key gives: a missing key reads as a hash without fields.
use Rattle.std.specs.Prelude.{◌≡◌, ◌-◌, ℕ, List, [], ◌∷◌, Bool, true, false, Option, Some, None}
use Rattle.std.specs.Prelude.{length}
use Rattle.std.specs.FinMap.{insert}
use Rattle.command_words.specs.Space.{Content, Text, Fields, Held, Space}
use Rattle.command_words.specs.Space.{content_at, deadline_at}
use Rattle.command_words.specs.Hashes.{Pairs, put_fields}

abbrev pub is_text : Option Content → Bool
is_text None = false
is_text (Some (Text value)) = true
is_text (Some (Fields fields)) = false

abbrev pub is_empty_hash : Option Content → Bool
is_empty_hash None = false
is_empty_hash (Some (Text value)) = false
is_empty_hash (Some (Fields [])) = true
is_empty_hash (Some (Fields (f ∷ fs))) = false

-- the fields that a content has
abbrev pub HasFields : Option Content → Pairs → Type 0
HasFields None fs = fs ≡ []
HasFields (Some (Text value)) fs = ⊥
HasFields (Some (Fields gs)) fs = fs ≡ gs

-- the key holds this hash, and has the deadline that it had
abbrev pub with_hash : List ℕ → Pairs → Space → Space
with_hash key fs space =
    insert space key (record { content = Fields fs; deadline = deadline_at key space })

-- the fields of a content, after a change of fields
abbrev pub Becomes : (Pairs → Pairs) → Content → Content → Type 0
Becomes change old new = (fs : Pairs) → old ≡ Fields fs → new ≡ Fields (change fs)

-- how many fields a change adds
abbrev pub Adds : (Pairs → Pairs) → Option Content → ℕ → Type 0
Adds change old n = (fs : Pairs) → HasFields old fs → n ≡ length (change fs) - length fs

-- how many fields a change takes out; where it takes none, it changes nothing
abbrev pub Loses : (Pairs → Pairs) → Option Content → ℕ → Type 0
Loses change old n =
    (fs : Pairs) → HasFields old fs
    → (n ≡ length fs - length (change fs)) × (n ≡ 0 → change fs ≡ fs)

-- the hash of a key, after a change of its fields
abbrev pub HashBecomes : List ℕ → (Pairs → Pairs) → Space → Space → Type 0
HashBecomes key change old new =
    (fs : Pairs) → HasFields (content_at key old) fs → new ≡ with_hash key (change fs) old

-- the same of a key that is there
abbrev pub FieldsBecome : List ℕ → (Pairs → Pairs) → Space → Space → Type 0
FieldsBecome key change old new =
    (fs : Pairs) → content_at key old ≡ Some (Fields fs) → new ≡ with_hash key (change fs) old

-- a hash without fields goes
abbrev pub IsDropped : List ℕ → Space → Space → Type 0
IsDropped key old new =
    (space : Space) (fs : Pairs) → old ≡ with_hash key fs space → new ≡ put_fields key fs space

-- a key holds again what was taken out
abbrev pub held_back : List ℕ → Option Held → Space → Space
held_back key None space = space
held_back key (Some held) space = insert space key held
