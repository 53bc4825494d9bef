-- Reading under the limit of the whole.
use Rattle.std.proofs.Common.{◌≡◌, ℕ, ◌+◌, ◌-◌, ◌<◌, ◌≤◌, List, ◌++◌, ap, length, drop, arith}
use Rattle.resp_stream.specs.declared.fault.Fault.{Fault}
use Rattle.resp_stream.specs.declared.fault.Fault.TheVariants.{TooLong}
use Rattle.resp_stream.specs.Parsed.{Parsed, Whole, More, Bad}
use Rattle.resp_stream.specs.ReaderLaws.{IsReader}
use Rattle.resp_stream.specs.Tokens.{capped, limited}
use Rattle.std.proofs.lemmas.List.{length-append}
use Rattle.resp_stream.proofs.Places.{steady}

module _ {A : Type 0} (most : ℕ) (b : List ℕ) (a : Parsed A) where
  pub whole_within : (x : A) (r : List ℕ) → a ≡ Whole x r → length b - length r ≤ most
      → capped most b a ≡ Whole x r
  whole_within h r e le = grind arith

  pub whole_over : (x : A) (r : List ℕ) → a ≡ Whole x r → most < length b - length r
      → capped most b a ≡ Bad (TooLong (most + 1)) (drop most b)
  whole_over h r e lt = grind arith

  pub more_within : a ≡ More → length b ≤ most → capped most b a ≡ More
  more_within e le = grind arith

  pub more_over : a ≡ More → most < length b
      → capped most b a ≡ Bad (TooLong (most + 1)) (drop most b)
  more_over e lt = grind arith

  pub bad_limited : (g : Fault) (r : List ℕ) → a ≡ Bad g r
      → capped most b a ≡ Bad (limited most (length b - length r) g).0
      (drop (limited most (length b - length r) g).1 b)
  bad_limited g r e = ap (λ q. capped most b q) e

-- ---- and back: what the limit lets through was read

pub capped_whole : {A : Type 0} (most : ℕ) (b : List ℕ) (a : Parsed A) (y : A) (s : List ℕ)
    → capped most b a ≡ Whole y s → (a ≡ Whole y s) × (length b - length s ≤ most)
capped_whole most b a y s e = grind arith

-- what was read under the limit is read the same with more after it
pub still_whole : {A : Type 0} (most : ℕ) (f : List ℕ → Parsed A) → IsReader f
    → (b r m : List ℕ) (x : A) → capped most b (f b) ≡ Whole x r
    → capped most (b ++ m) (f (b ++ m)) ≡ Whole x (r ++ m)
still_whole most f l b r m x e = grind (arith, capped_whole, whole_within, steady, length-append)
