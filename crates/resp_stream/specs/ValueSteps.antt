-- How far a value was read, with a stack of open aggregates.
use Rattle.std.specs.Prelude.{◌≡◌, ◌≤◌, ◌<◌, ◌+◌, ℕ, suc, List, [], ◌∷◌, ◌++◌, length, take, drop}
use Rattle.std.specs.Prelude.{reverse, false, Option, Some, None, Result, Ok, Err}
use Rattle.resp_value.specs.Tree.{Tree, blob}
use Rattle.resp_value.specs.ValueTree.{tree_of}
use Rattle.resp_value.specs.declared.value.Value.{Value}
use Rattle.resp_value.specs.declared.octets.NoMemory.{NoMemory}
use Rattle.resp_stream.specs.declared.stack.Frame.{Frame}
use Rattle.resp_stream.specs.declared.stack.Step.{Step}
use Rattle.resp_stream.specs.declared.stack.Step.TheVariants.{Leaf, Open}
use Rattle.resp_stream.specs.declared.value.Kind.{Kind}
use Rattle.resp_stream.specs.declared.fault.ReadStop.{ReadStop}
use Rattle.resp_stream.specs.Parsed.{Parsed, Whole, More, Bad, ◌>>=◌}
use Rattle.resp_stream.specs.Tokens.{many, Passed}
use Rattle.resp_stream.specs.Request.{line_limit}
use Rattle.resp_stream.specs.Results.{StopGives}
use Rattle.resp_stream.specs.Value.{build, value_in, value_at}
use Rattle.resp_stream.specs.declared.stack.ValueReading.{ValueReading}
use Rattle.resp_stream.specs.declared.stack.ValueReading.TheVariants as reading

-- The rest of an aggregate after its element t; d is the room of its elements.
unfoldable pub rest_of : ℕ → Frame → Tree → List ℕ → Parsed Tree
rest_of d f t r = many (value_in d) f.left r >>= λ ts s. Whole (build f.kind (f.done ++ t ∷ ts)) s

-- What a stack of open aggregates, the newest first, makes of the answer for the value that stands
-- next.
unfoldable pub resume : ℕ → List Frame → Parsed Tree → Parsed Tree
resume d [] a = a
resume d (f ∷ fs) a = resume (suc d) fs (a >>= rest_of d f)

-- The bytes before `at` are in the stack: whatever follows, the text reads as the stack makes of
-- the rest.
pub record IsStack (whole : ℕ) (text : List ℕ) (at room : ℕ) (fs : List Frame) : Type 0 where
  pub within : at ≤ length text
  pub same : (m : List ℕ) → value_in whole (text ++ m) ≡ resume room fs
      (value_in room (drop at text ++ m))

-- The same, with a value just read.
pub record HasRead (whole : ℕ) (text : List ℕ) (at room : ℕ) (fs : List Frame) (t : Tree) : Type 0
  where
    pub within : at ≤ length text
    pub same : (m : List ℕ) → value_in whole (text ++ m) ≡ resume room fs
        (Whole t (drop at text ++ m))

-- after a type byte, so many bytes of a line were passed
abbrev pub LineSeen : List ℕ → ℕ → Type 0
LineSeen [] seen = seen ≡ 0
LineSeen (c ∷ b) seen = (seen ≤ length b) × Passed false line_limit (take seen b)

-- b begins with the head of an aggregate of n values, and r follows
pub record Opened (room : ℕ) (b : List ℕ) (kind : Kind) (n : ℕ) (r : List ℕ) : Type 0 where
  pub some : 0 < n
  pub inner : ℕ
  pub room_is : room ≡ suc inner
  pub front : List ℕ
  pub parts : b ≡ front ++ r
  pub long : 0 < length front
  pub same : (m : List ℕ)
      → value_in room (b ++ m)
      ≡ (many (value_in inner) n (r ++ m) >>= λ ts s. Whole (build kind ts) s)

abbrev pub IsStep : ℕ → List ℕ → Step → List ℕ → Type 0
IsStep room b (Leaf v) r = value_in room b ≡ Whole (tree_of v) r
IsStep room b (Open kind n) r = Opened room b kind n r

abbrev pub ValueStepGives : {X : Type 0} → ℕ → List ℕ → (X → Step × List ℕ)
    → Result (Option X) ReadStop → Type 0
ValueStepGives room b view (Ok None) = value_in room b ≡ More
ValueStepGives room b view (Ok (Some x)) = IsStep room b (view x).0 (view x).1
ValueStepGives room b view (Err e) = StopGives e (value_in room b)

-- What is known after a value was put into the newest open aggregate.
abbrev pub Closes : ℕ → List ℕ → ℕ → ℕ → List Frame → Result (Option Value) NoMemory → Type 0
Closes whole text at room frames (Ok None) = IsStack whole text at room (reverse frames)
Closes whole text at room frames (Ok (Some v)) =
    HasRead whole text at room [] (tree_of v) × (frames ≡ [])
Closes whole text at room frames (Err e) = Unit {0}

abbrev pub RunGives : List ℕ → ℕ → Result (Option Value) ReadStop → Type 0
RunGives text at (Ok None) = value_in 8 text ≡ More
RunGives text at (Ok (Some v)) =
    (at ≤ length text) × (value_in 8 text ≡ Whole (tree_of v) (drop at text))
RunGives text at (Err e) = StopGives e (value_in 8 text)

abbrev pub OnNone : Result (Option Value) ReadStop → Type 0 → Type 0
OnNone (Ok None) p = p
OnNone (Ok (Some v)) p = Unit {0}
OnNone (Err e) p = Unit {0}

-- under the limit of the whole
abbrev pub ValueReadingGives : List ℕ → Result ValueReading NoMemory → Type 0
ValueReadingGives text (Ok (reading.Whole v taken)) =
    (taken ≤ length text) × (value_at text ≡ Whole (tree_of v) (drop taken text))
ValueReadingGives text (Ok reading.More) = value_at text ≡ More
ValueReadingGives text (Ok (reading.Faulty g at)) =
    (at ≤ length text) × (value_at text ≡ Bad g (drop at text))
ValueReadingGives text (Err e) = Unit {0}

abbrev pub OnMore : Result ValueReading NoMemory → Type 0 → Type 0
OnMore (Ok reading.More) p = p
OnMore (Ok (reading.Whole v taken)) p = Unit {0}
OnMore (Ok (reading.Faulty g at)) p = Unit {0}
OnMore (Err e) p = Unit {0}

-- The text begins with a blob of `count` bytes, the first of which is at this place.
pub record IsBlobAt (text : List ℕ) (first count : ℕ) : Type 0 where
  pub within : first + count + 2 ≤ length text
  pub is : value_at text ≡ Whole (blob (take count (drop first text)))
      (drop (first + count + 2) text)
