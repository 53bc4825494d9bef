-- What holds of each reader.
use Rattle.std.specs.Prelude.{◌≡◌, ℕ, List, [], ◌∷◌, ◌++◌}
use Rattle.resp_stream.specs.declared.fault.Fault.{Fault}
use Rattle.resp_stream.specs.Parsed.{Parsed, Whole, More, Bad}

-- What was read is a front of the text, and is read the same, whatever follows it.
pub record Took {A : Type 0} (f : List ℕ → Parsed A) (b : List ℕ) (x : A) (r : List ℕ) : Type 0
  where
    pub front : List ℕ
    pub parts : b ≡ front ++ r
    pub again : (s : List ℕ) → f (front ++ s) ≡ Whole x s

-- Up to the byte at fault more was needed, and whatever follows that byte the fault is the same.
pub record Met {A : Type 0} (f : List ℕ → Parsed A) (b : List ℕ) (e : Fault) (r : List ℕ) : Type 0
  where
    pub front : List ℕ
    pub byte : ℕ
    pub after : List ℕ
    pub parts : b ≡ front ++ byte ∷ after
    pub rest : r ≡ byte ∷ after
    pub before : f front ≡ More
    pub again : (s : List ℕ) → f (front ++ byte ∷ s) ≡ Bad e (byte ∷ s)

-- Where more is needed, some continuation is whole.
abbrev pub Completes : {A : Type 0} → (List ℕ → Parsed A) → List ℕ → Type 0
Completes {A} f b = (m : List ℕ) × (x : A) × (f (b ++ m) ≡ Whole x [])

pub record IsReader {A : Type 0} (f : List ℕ → Parsed A) : Type 0 where
  pub whole : (b r : List ℕ) (x : A) → f b ≡ Whole x r → Took f b x r
  pub bad : (b r : List ℕ) (e : Fault) → f b ≡ Bad e r → Met f b e r
  pub more : (b : List ℕ) → f b ≡ More → Completes f b
