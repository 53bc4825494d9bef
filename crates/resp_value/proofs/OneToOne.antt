-- A value and its tree are one for one.
use Rattle.std.proofs.Common.{◌≡◌, List, [], ◌∷◌, refl, sym, ap, ◌∙◌}
use Rattle.resp_value.specs.Tree as tree
use Rattle.resp_value.specs.Tree.{Tree, Trees, Rows, trees_of, rows_of, list_of, pairs_of}
use Rattle.resp_value.specs.ValueTree.{tree_of, value_of}
use Rattle.resp_value.specs.declared.value.Value.{Value}
use Rattle.resp_value.specs.declared.value.Value.TheVariants.{Simple, Error, Number, Blob, Verbatim}
use Rattle.resp_value.specs.declared.value.Value.TheVariants.{BlobError, Bool, Null, NullArray}
use Rattle.resp_value.specs.declared.value.Value.TheVariants.{Array, Map, Set, Push}

pub list_back : (ts : List Tree) → list_of (trees_of ts) ≡ ts
list_back [] = refl
list_back (t ∷ ts) = ap (λ r. t ∷ r) (list_back ts)

pub pairs_back : (ps : List (Tree × Tree)) → pairs_of (rows_of ps) ≡ ps
pairs_back [] = refl
pairs_back (p ∷ ps) = ap (λ r. p ∷ r) (pairs_back ps)

pub trees_back : (ts : Trees) → trees_of (list_of ts) ≡ ts
trees_back tree.end = refl
trees_back (tree.more t ts) = ap (tree.more t) (trees_back ts)

pub rows_back : (rs : Rows) → rows_of (pairs_of rs) ≡ rs
rows_back tree.last = refl
rows_back (tree.row k v rs) = ap (tree.row k v) (rows_back rs)

pub value_back : (v : Value) → value_of (tree_of v) ≡ v
value_back (Simple t) = refl
value_back (Error t) = refl
value_back (Number i) = refl
value_back (Blob b) = refl
value_back (Verbatim f b) = refl
value_back (BlobError b) = refl
value_back (Bool b) = refl
value_back Null = refl
value_back NullArray = refl
value_back (Array ts) = ap Array (list_back ts)
value_back (Map ps) = ap Map (pairs_back ps)
value_back (Set ts) = ap Set (list_back ts)
value_back (Push ts) = ap Push (list_back ts)

pub tree_back : (t : Tree) → tree_of (value_of t) ≡ t
tree_back (tree.simple t) = refl
tree_back (tree.error t) = refl
tree_back (tree.number i) = refl
tree_back (tree.blob b) = refl
tree_back (tree.verbatim f b) = refl
tree_back (tree.blob_error b) = refl
tree_back (tree.boolean b) = refl
tree_back tree.null = refl
tree_back tree.null_array = refl
tree_back (tree.array ts) = ap tree.array (trees_back ts)
tree_back (tree.mapping rs) = ap tree.mapping (rows_back rs)
tree_back (tree.set ts) = ap tree.set (trees_back ts)
tree_back (tree.push ts) = ap tree.push (trees_back ts)

-- values with one tree are one value
pub same_value : (v w : Value) → tree_of v ≡ tree_of w → v ≡ w
same_value v w e = sym (value_back v) ∙ ap value_of e ∙ value_back w
