-- What holds of the readings of all texts.
use Rattle.std.specs.Prelude.{◌≡◌, ◌≤◌, ℕ, List, [], ◌∷◌, ◌++◌, length}
use Rattle.resp_value.specs.Tree.{Tree}
use Rattle.resp_value.specs.Spelling.{request_spelling}
use Rattle.resp_stream.specs.declared.fault.Fault.{Fault}
use Rattle.resp_stream.specs.Parsed.{Parsed, Whole, More, Bad}
use Rattle.resp_stream.specs.Request.{request_at, whole_limit}
use Rattle.resp_stream.specs.Value.{value_at}

-- what is whole and what is at fault stays so, whatever follows
pub record Steady {A : Type 0} (read : List ℕ → Parsed A) : Type 0 where
  pub whole : (b r : List ℕ) (x : A) → read b ≡ Whole x r → (m : List ℕ)
      → read (b ++ m) ≡ Whole x (r ++ m)
  pub bad : (b r : List ℕ) (g : Fault) → read b ≡ Bad g r → (m : List ℕ)
      → read (b ++ m) ≡ Bad g (r ++ m)

abbrev pub NoneBeginsAnother : Type 0
NoneBeginsAnother = (x y : List ℕ) (t u : Tree) → value_at x ≡ Whole t []
    → value_at (x ++ y) ≡ Whole u [] → (t ≡ u) × (y ≡ [])

-- some continuation of b begins with something whole
abbrev pub CanBegin : {A : Type 0} → (List ℕ → Parsed A) → List ℕ → Type 0
CanBegin {A} read b = (m : List ℕ) × (x : A) × (r : List ℕ) × (read (b ++ m) ≡ Whole x r)

-- the limit on the whole left aside
abbrev pub Unfinished : {A : Type 0} → (List ℕ → Parsed A) → Type 0
Unfinished read = (b : List ℕ) → read b ≡ More → CanBegin read b

-- the bytes before a fault can be completed, and those with it can not
abbrev pub FirstFault : {A : Type 0} → (List ℕ → Parsed A) → Type 0
FirstFault read = (b r : List ℕ) (g : Fault) → read b ≡ Bad g r →
    (p : List ℕ) × (c : ℕ) × (s : List ℕ) × (b ≡ p ++ c ∷ s) × (r ≡ c ∷ s) × CanBegin read p
    × (CanBegin read (p ++ c ∷ []) → ⊥)

-- each word within its limit
abbrev pub EachFits : List (List ℕ) → Type 0
EachFits [] = Unit {0}
EachFits (w ∷ ws) = (length w ≤ 16777216) × EachFits ws

-- a request that passes no limit
pub record RequestFits (ws : List (List ℕ)) : Type 0 where
  pub number : length ws ≤ 65536
  pub each : EachFits ws
  pub whole : length (request_spelling ws) ≤ whole_limit

abbrev pub WrittenRequests : Type 0
WrittenRequests = (ws : List (List ℕ)) (r : List ℕ) → RequestFits ws
    → request_at (request_spelling ws ++ r) ≡ Whole ws r
