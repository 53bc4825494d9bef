-- A string that is made longer in place.
use Rattle.std.specs.Prelude.{◌≡◌, ◌++◌, ℕ, List, Option, Some, length}
use Rattle.command_words.specs.Space.{Content, Text, Space, content_at, deadline_at}
use Rattle.command_words.specs.Strings.{put_text}

-- a string of this length
abbrev pub HasText : ℕ → Option Content → Type 0
HasText len content = (v : List ℕ) × (content ≡ Some (Text v)) × (length v ≡ len)

-- a string, and then these bytes
abbrev pub IsLonger : List ℕ → Content → Content → Type 0
IsLonger bytes old new = (v : List ℕ) → old ≡ Text v → new ≡ Text (v ++ bytes)

-- what the key held, if it was a string, and then these bytes; its deadline stays
abbrev pub IsExtended : List ℕ → List ℕ → Space → Space → Type 0
IsExtended key bytes old new =
    (v : List ℕ) → content_at key old ≡ Some (Text v)
    → new ≡ put_text key (v ++ bytes) (deadline_at key old) old
