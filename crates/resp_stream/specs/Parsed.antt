-- What reading a front of a text gives, and how readers are put together.
use Rattle.std.specs.Prelude.{ℕ, List, [], ◌∷◌}
use Rattle.resp_stream.specs.declared.fault.Fault.{Fault}

-- A whole value and the text after it; more is needed; the first byte of this rest is at fault.
pub data Parsed (A : Type 0) : Type 0 where
  Whole : A → List ℕ → Parsed A
  More : Parsed A
  Bad : Fault → List ℕ → Parsed A

infixl 10 ◌>>=◌
abbrev pub ◌>>=◌ : {A B : Type 0} → Parsed A → (A → List ℕ → Parsed B) → Parsed B
(Whole x r) >>= f = f x r
More >>= f = More
(Bad e r) >>= f = Bad e r

-- What a byte leads to: on after it, or to a fault at it.
pub data Choice (A : Type 0) : Type 0 where
  Go : (List ℕ → Parsed A) → Choice A
  Stop : Fault → Choice A

abbrev pub taken : {A : Type 0} → Choice A → ℕ → List ℕ → Parsed A
taken (Go g) c bs = g bs
taken (Stop e) c bs = Bad e (c ∷ bs)

-- What a byte leads to in a loop over bytes: on in another state, or out of the loop.
pub data Move (S A : Type 0) : Type 0 where
  On : S → Move S A
  Out : Choice A → Move S A

abbrev pub moved : {S A : Type 0} → Move S A → (S → Parsed A) → ℕ → List ℕ → Parsed A
moved (On s) go c bs = go s
moved (Out h) go c bs = taken h c bs

-- Byte by byte, as move says.
abbrev pub scan : {S A : Type 0} → (S → ℕ → Move S A) → S → List ℕ → Parsed A
scan move s [] = More
scan move s (c ∷ bs) = moved (move s c) (λ t. scan move t bs) c bs

abbrev pub first : {A : Type 0} → (ℕ → Choice A) → List ℕ → Parsed A
first {A} choice = scan {S = Unit {0}} (λ s c. Out (choice c)) tt
