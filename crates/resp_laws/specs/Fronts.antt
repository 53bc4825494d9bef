-- What the first bytes of a written stream hold.
use Rattle.std.specs.Prelude.{◌≡◌, ℕ, List, [], ◌∷◌, length, map}
use Rattle.std.specs.List.{flat_map}
use Rattle.resp_value.specs.declared.value.Proto.{Proto}
use Rattle.resp_value.specs.declared.value.Proto.TheVariants.{Two, Three}
use Rattle.resp_value.specs.Lists.{IsPrefix}
use Rattle.resp_value.specs.Tree.{Tree, Trees, Rows, simple, error, number, blob, verbatim}
use Rattle.resp_value.specs.Tree.{blob_error, boolean, null, null_array, array, mapping, set, push}
use Rattle.resp_value.specs.Tree.{end, more, last, row}
use Rattle.resp_value.specs.Spelling.{spelling, request_spelling}
use Rattle.resp_value.specs.Carried.{carried}
use Rattle.resp_stream.specs.Parse.{requests_of, values_of}
use Rattle.resp_laws.specs.Values.{IsPlain}

-- P holds of each element
abbrev pub Every : {A : Type 0} → (A → Type 0) → List A → Type 0
Every P [] = Unit {0}
Every P (x ∷ xs) = P x × Every P xs

-- The first bytes of such requests, written one after the other, hold the first of them, and
-- nothing else. Where one passes a limit, it and what follows it are not read.
abbrev pub RequestsInOrder : (List (List ℕ) → Type 0) → Type 0
RequestsInOrder IsRequest =
    (requests : List (List (List ℕ))) (b : List ℕ) → Every IsRequest requests
    → IsPrefix b (flat_map request_spelling requests)
    → IsPrefix (requests_of b) requests

abbrev mutual
  -- simple strings and errors are of one line, and a format has three bytes
  pub IsWellFormed : Proto → Tree → Type 0
  IsWellFormed p (simple t) = IsPlain t
  IsWellFormed p (error t) = IsPlain t
  IsWellFormed p (number i) = Unit {0}
  IsWellFormed p (blob b) = Unit {0}
  IsWellFormed Two (verbatim f b) = Unit {0}
  IsWellFormed Three (verbatim f b) = length f ≡ 3
  IsWellFormed p (blob_error b) = Unit {0}
  IsWellFormed p (boolean b) = Unit {0}
  IsWellFormed p null = Unit {0}
  IsWellFormed p null_array = Unit {0}
  IsWellFormed p (array ts) = AreWellFormed p ts
  IsWellFormed p (mapping rs) = RowsWellFormed p rs
  IsWellFormed p (set ts) = AreWellFormed p ts
  IsWellFormed p (push ts) = AreWellFormed p ts

  pub AreWellFormed : Proto → Trees → Type 0
  AreWellFormed p end = Unit {0}
  AreWellFormed p (more t ts) = IsWellFormed p t × AreWellFormed p ts

  pub RowsWellFormed : Proto → Rows → Type 0
  RowsWellFormed p last = Unit {0}
  RowsWellFormed p (row k v rs) = IsWellFormed p k × IsWellFormed p v × RowsWellFormed p rs

-- The same of values, each with the protocol of its spelling: they are read as what it carries.
abbrev pub ValuesInOrder : (Proto → Tree → Type 0) → Type 0
ValuesInOrder IsValue =
    (messages : List (Proto × Tree)) (b : List ℕ) → Every (λ m. IsValue m.0 m.1) messages
    → IsPrefix b (flat_map (λ m. spelling m.0 m.1) messages)
    → IsPrefix (values_of b) (map (λ m. carried m.0 m.1) messages)
