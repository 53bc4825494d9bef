-- A text as its lines, and how far a source was read of them.
use Rattle.std.specs.Prelude.{◌≡◌, ◌<◌, ◌==◌, ◌⊎◌, ℕ, List, [], ◌∷◌, ◌++◌, length}
use Rattle.std.specs.Prelude.{if◌then◌else◌}
use Rattle.std.specs.declared.option.Option.{Option}
use Rattle.std.specs.Io.KnownBytes.{Consumes, IsAtEnd}
use Rattle.edge_lines.specs.Streams.{IsPlain}

-- a byte goes before the first line, or is a line of its own
abbrev pub with_byte : ℕ → List (List ℕ) → List (List ℕ)
with_byte b [] = (b ∷ []) ∷ []
with_byte b (line ∷ lines) = (b ∷ line) ∷ lines

-- the lines of a text: each ends in LF, but the last one may end with the text
abbrev pub text_lines : List ℕ → List (List ℕ)
text_lines [] = []
text_lines (b ∷ bytes) =
    if b == 10 then [] ∷ text_lines bytes else with_byte b (text_lines bytes)

abbrev pub ArePlain : List (List ℕ) → Type 0
ArePlain [] = Unit {0}
ArePlain (line ∷ lines) = IsPlain line × ArePlain lines

-- lines one after the other, each with its LF
abbrev pub ended : List (List ℕ) → List ℕ
ended [] = []
ended (line ∷ lines) = line ++ 10 ∷ ended lines

-- lines were read, each with its LF, and then more
pub record Reads (in0 in1 : Option (List ℕ)) (lines : List (List ℕ)) (more : List ℕ) : Type 0 where
  pub consumed : Consumes in0 in1 (ended lines ++ more)
  pub plain : ArePlain lines

-- the line was read to its LF, or to the end of the source
abbrev pub ReadsWhole : List ℕ → List ℕ → Option (List ℕ) → Type 0
ReadsWhole line more in1 =
    IsPlain line
    × ((more ≡ line ++ 10 ∷ []) ⊎ ((line ≡ [] → ⊥) × (more ≡ line) × IsAtEnd in1))

-- the line was read whole, or so far that it is too long whatever follows
abbrev pub ReadsBad : ℕ → List ℕ → List ℕ → Option (List ℕ) → Type 0
ReadsBad longest line more in1 =
    ReadsWhole line more in1 ⊎ (IsPlain line × (more ≡ line) × (longest < length line))
