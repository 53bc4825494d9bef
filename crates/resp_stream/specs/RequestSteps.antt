-- How far a request was read: the text reads as its rest does after what is kept.
use Rattle.std.specs.Prelude.{◌≡◌, ◌≤◌, ◌<◌, ◌+◌, ℕ, List, [], ◌∷◌, ◌++◌, length, take, drop}
use Rattle.std.specs.Prelude.{true, Result, Ok, Err}
use Rattle.resp_stream.specs.Parsed.{Parsed, Whole, More, Bad, ◌>>=◌}
use Rattle.resp_stream.specs.Tokens.{many, Passed}
use Rattle.resp_stream.specs.Request.{word_at, request_begun, request_at, skip_empty, line_limit}
use Rattle.resp_stream.specs.declared.request.Progress.{Progress}
use Rattle.resp_stream.specs.declared.request.Progress.TheVariants.{Line, Words}
use Rattle.resp_stream.specs.declared.request.RequestStep.{RequestStep}
use Rattle.resp_stream.specs.declared.request.RequestStep.TheVariants as step
use Rattle.resp_stream.specs.declared.fault.ReadStop.{ReadStop}
use Rattle.resp_stream.specs.declared.fault.ReadStop.TheVariants as stop
use Rattle.resp_stream.specs.declared.request.Reading.{Reading}
use Rattle.resp_stream.specs.declared.request.Reading.TheVariants as reading
use Rattle.resp_stream.specs.declared.request.Next.{Next}
use Rattle.resp_stream.specs.declared.request.Next.TheVariants as next
use Rattle.resp_value.specs.declared.octets.NoMemory.{NoMemory}

-- the words before, and so many more
unfoldable pub with_more : List (List ℕ) → ℕ → List ℕ → Parsed (List (List ℕ))
with_more words left b = many word_at left b >>= λ ws s. Whole (words ++ ws) s

pub record HasWords (text : List ℕ) (at left : ℕ) (words : List (List ℕ)) : Type 0 where
  pub within : at ≤ length text
  pub same : (m : List ℕ) → request_begun (text ++ m) ≡ with_more words left (drop at text ++ m)

abbrev pub IsProgress : List ℕ → Progress → Type 0
IsProgress text (Line seen) = (seen ≤ length text) × Passed true line_limit (take seen text)
IsProgress text (Words at left words) = HasWords text at left words

-- the words that are kept
abbrev pub words_so_far : Progress → List (List ℕ)
words_so_far (Line seen) = []
words_so_far (Words at left words) = words

-- The text begins with a request of these words and one more, whose `count` bytes stand from
-- `first` on.
pub record IsLastAt (text : List ℕ) (words : List (List ℕ)) (first count : ℕ) : Type 0 where
  pub within : first + count + 2 ≤ length text
  pub is : request_at text ≡ Whole (words ++ take count (drop first text) ∷ [])
      (drop (first + count + 2) text)

abbrev pub RequestStepGives : List ℕ → Result RequestStep ReadStop → Type 0
RequestStepGives text (Ok (step.Whole words taken)) =
    (taken ≤ length text) × (request_begun text ≡ Whole words (drop taken text))
RequestStepGives text (Ok (step.More p)) = (request_begun text ≡ More) × IsProgress text p
RequestStepGives text (Err stop.NoMemory) = Unit {0}
RequestStepGives text (Err (stop.Faulty e)) =
    (r : List ℕ) × (request_begun text ≡ Bad e.fault r) × (length r ≡ e.left)

-- under the limit of the whole
abbrev pub RequestReadingGives : List ℕ → Result Reading NoMemory → Type 0
RequestReadingGives text (Ok (reading.Whole words taken)) =
    (taken ≤ length text) × (request_at text ≡ Whole words (drop taken text))
RequestReadingGives text (Ok (reading.More p)) = (request_at text ≡ More) × IsProgress text p
RequestReadingGives text (Ok (reading.Faulty g at)) =
    (at ≤ length text) × (request_at text ≡ Bad g (drop at text))
RequestReadingGives text (Err e) = Unit {0}

-- the first `passed` bytes are the empty requests at the front
pub record IsPast (text : List ℕ) (passed : ℕ) : Type 0 where
  pub within : passed ≤ length text
  pub is : skip_empty text ≡ drop passed text

abbrev pub NextGives : List ℕ → Result Next NoMemory → Type 0
NextGives text (Ok (next.Whole words taken)) =
    (taken ≤ length text) × (0 < length words)
    × (request_at (skip_empty text) ≡ Whole words (drop taken text))
NextGives text (Ok (next.More passed p)) =
    IsPast text passed × (request_at (skip_empty text) ≡ More) × IsProgress (drop passed text) p
NextGives text (Ok (next.Faulty passed g at)) =
    IsPast text passed × (at ≤ length (skip_empty text))
    × (request_at (skip_empty text) ≡ Bad g (drop at (skip_empty text)))
NextGives text (Err e) = Unit {0}
