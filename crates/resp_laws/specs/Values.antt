-- Values that pass no limit of a reader.
use Rattle.std.specs.Prelude.{◌≡◌, ◌≢◌, ◌≤◌, ◌+◌, ℕ, zero, suc, ℤ, pos, negsuc, List, [], ◌∷◌, ◌++◌}
use Rattle.std.specs.Prelude.{length}
use Rattle.resp_value.specs.declared.value.Proto.{Proto}
use Rattle.resp_value.specs.declared.value.Proto.TheVariants.{Two, Three}
use Rattle.resp_value.specs.Tree.{Tree, Trees, Rows, simple, error, number, blob, verbatim}
use Rattle.resp_value.specs.Tree.{blob_error, boolean, null, null_array, array, mapping, set, push}
use Rattle.resp_value.specs.Tree.{end, more, last, row, count, row_count}
use Rattle.resp_value.specs.Spelling.{spelling}
use Rattle.resp_value.specs.Carried.{carried}
use Rattle.resp_stream.specs.Parsed.{Whole}
use Rattle.resp_stream.specs.Request.{whole_limit}
use Rattle.resp_stream.specs.Value.{value_at}

-- no CR, no LF
abbrev pub IsPlain : List ℕ → Type 0
IsPlain [] = Unit {0}
IsPlain (c ∷ t) = (c ≢ 13) × (c ≢ 10) × IsPlain t

-- within 64 bits
abbrev pub IsShort : ℤ → Type 0
IsShort (pos n) = n ≤ 9223372036854775807
IsShort (negsuc n) = n ≤ 9223372036854775807

abbrev mutual
  -- the value passes no limit where aggregates may stand d deep in it; eight is the top
  pub FitsIn : Proto → ℕ → Tree → Type 0
  FitsIn p d (simple t) = (length t ≤ 65536) × IsPlain t
  FitsIn p d (error t) = (length t ≤ 65536) × IsPlain t
  FitsIn p d (number i) = IsShort i
  FitsIn p d (blob b) = length b ≤ 16777216
  FitsIn Two d (verbatim f b) = length b ≤ 16777216
  FitsIn Three d (verbatim f b) = (length f ≡ 3) × (length b + 4 ≤ 16777216)
  FitsIn Two d (blob_error b) = length b ≤ 65536
  FitsIn Three d (blob_error b) = length b ≤ 16777216
  FitsIn p d (boolean b) = Unit {0}
  FitsIn p d null = Unit {0}
  FitsIn Three d null_array = Unit {0}
  FitsIn Two zero null_array = ⊥
  FitsIn Two (suc d) null_array = Unit {0}
  FitsIn p zero (array ts) = ⊥
  FitsIn p (suc d) (array ts) = (count ts ≤ 65536) × AllFit p d ts
  FitsIn p zero (mapping rs) = ⊥
  FitsIn p (suc d) (mapping rs) = (row_count rs ≤ 32768) × RowsFit p d rs
  FitsIn p zero (set ts) = ⊥
  FitsIn p (suc d) (set ts) = (count ts ≤ 65536) × AllFit p d ts
  FitsIn p zero (push ts) = ⊥
  FitsIn p (suc d) (push ts) = (d ≡ 7) × (count ts ≤ 65536) × AllFit p d ts

  pub AllFit : Proto → ℕ → Trees → Type 0
  AllFit p d end = Unit {0}
  AllFit p d (more t ts) = FitsIn p d t × AllFit p d ts

  pub RowsFit : Proto → ℕ → Rows → Type 0
  RowsFit p d last = Unit {0}
  RowsFit p d (row k v rs) = FitsIn p d k × FitsIn p d v × RowsFit p d rs

pub record Fits (p : Proto) (t : Tree) : Type 0 where
  pub parts : FitsIn p 8 t
  pub whole : length (spelling p t) ≤ whole_limit

abbrev pub WrittenValues : Type 0
WrittenValues = (p : Proto) (t : Tree) (r : List ℕ) → Fits p t
    → value_at (spelling p t ++ r) ≡ Whole (carried p t) r
