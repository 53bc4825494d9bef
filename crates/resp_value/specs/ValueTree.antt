-- The tree that a value stands for, and the value of a tree.
use Rattle.resp_value.specs.Tree as tree
use Rattle.resp_value.specs.Tree.{Tree, trees_of, rows_of, list_of, pairs_of}
use Rattle.resp_value.specs.declared.value.Value.{Value}
use Rattle.resp_value.specs.declared.value.Value.TheVariants.{Simple, Error, Number, Blob, Verbatim}
use Rattle.resp_value.specs.declared.value.Value.TheVariants.{BlobError, Bool, Null, NullArray}
use Rattle.resp_value.specs.declared.value.Value.TheVariants.{Array, Map, Set, Push}

abbrev pub tree_of : Value → Tree
tree_of (Simple t) = tree.simple t
tree_of (Error t) = tree.error t
tree_of (Number i) = tree.number i
tree_of (Blob b) = tree.blob b
tree_of (Verbatim f b) = tree.verbatim f b
tree_of (BlobError b) = tree.blob_error b
tree_of (Bool b) = tree.boolean b
tree_of Null = tree.null
tree_of NullArray = tree.null_array
tree_of (Array ts) = tree.array (trees_of ts)
tree_of (Map rs) = tree.mapping (rows_of rs)
tree_of (Set ts) = tree.set (trees_of ts)
tree_of (Push ts) = tree.push (trees_of ts)

abbrev pub value_of : Tree → Value
value_of (tree.simple t) = Simple t
value_of (tree.error t) = Error t
value_of (tree.number i) = Number i
value_of (tree.blob b) = Blob b
value_of (tree.verbatim f b) = Verbatim f b
value_of (tree.blob_error b) = BlobError b
value_of (tree.boolean b) = Bool b
value_of tree.null = Null
value_of tree.null_array = NullArray
value_of (tree.array ts) = Array (list_of ts)
value_of (tree.mapping rs) = Map (pairs_of rs)
value_of (tree.set ts) = Set (list_of ts)
value_of (tree.push ts) = Push (list_of ts)
