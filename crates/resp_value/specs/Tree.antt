-- A RESP value as a plain tree: the cases of `Value`, with lists of their own inside.
use Rattle.std.specs.Prelude.{ℕ, ◌+◌, ℤ, Bool, List, [], ◌∷◌}

mutual
  pub data Tree : Type 0 where
    simple : List ℕ → Tree
    error : List ℕ → Tree
    number : ℤ → Tree
    blob : List ℕ → Tree
    -- the three bytes of the format, and the text
    verbatim : List ℕ → List ℕ → Tree
    blob_error : List ℕ → Tree
    boolean : Bool → Tree
    null : Tree
    null_array : Tree
    array : Trees → Tree
    mapping : Rows → Tree
    set : Trees → Tree
    push : Trees → Tree

  pub data Trees : Type 0 where
    end : Trees
    more : Tree → Trees → Trees

  pub data Rows : Type 0 where
    last : Rows
    row : Tree → Tree → Rows → Rows

abbrev pub trees_of : List Tree → Trees
trees_of [] = end
trees_of (t ∷ ts) = more t (trees_of ts)

abbrev pub rows_of : List (Tree × Tree) → Rows
rows_of [] = last
rows_of (p ∷ ps) = row p.0 p.1 (rows_of ps)

abbrev pub list_of : Trees → List Tree
list_of end = []
list_of (more t ts) = t ∷ list_of ts

abbrev pub pairs_of : Rows → List (Tree × Tree)
pairs_of last = []
pairs_of (row k v rs) = (k, v) ∷ pairs_of rs

-- values in turn, as keys with their values; a last key without a value is left out
abbrev pub in_turn : {A : Type 0} → List A → List (A × A)
in_turn [] = []
in_turn (k ∷ []) = []
in_turn (k ∷ v ∷ ts) = (k, v) ∷ in_turn ts

-- how many values there are
abbrev pub count : Trees → ℕ
count end = 0
count (more t ts) = count ts + 1

-- how many pairs there are
abbrev pub row_count : Rows → ℕ
row_count last = 0
row_count (row k v rs) = row_count rs + 1

abbrev mutual
  -- how many nodes a tree has
  pub nodes : Tree → ℕ
  nodes (array ts) = 1 + all_nodes ts
  nodes (mapping rs) = 1 + row_nodes rs
  nodes (set ts) = 1 + all_nodes ts
  nodes (push ts) = 1 + all_nodes ts
  nodes (simple t) = 1
  nodes (error t) = 1
  nodes (number i) = 1
  nodes (blob b) = 1
  nodes (verbatim f b) = 1
  nodes (blob_error b) = 1
  nodes (boolean b) = 1
  nodes null = 1
  nodes null_array = 1

  pub all_nodes : Trees → ℕ
  all_nodes end = 0
  all_nodes (more t ts) = nodes t + all_nodes ts

  pub row_nodes : Rows → ℕ
  row_nodes last = 0
  row_nodes (row k v rs) = nodes k + nodes v + row_nodes rs
