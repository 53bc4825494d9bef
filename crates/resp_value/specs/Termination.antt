-- What is inside a list of values is smaller than the list.
use Rattle.std.specs.Prelude.{◌+◌, ◌≤◌, List, [], ◌∷◌, map, max}
use Rattle.std.proofs.Common.{arith}
use denote.Param.Weighed.{most, w_this}
use Rattle.resp_value.specs.Tree.{nodes, all_nodes, row_nodes, trees_of, rows_of}
use Rattle.resp_value.specs.ValueTree.{tree_of}
use Rattle.resp_value.specs.declared.value.Value.{Value}
use Rattle.resp_value.specs.declared.value.Value.TheVariants.{Simple, Error, Number, Blob, Verbatim}
use Rattle.resp_value.specs.declared.value.Value.TheVariants.{BlobError, Bool, Null, NullArray}
use Rattle.resp_value.specs.declared.value.Value.TheVariants.{Array, Map, Set, Push}
use Rattle.resp_value.specs.declared.value.Pairs.TheDeep.{deep-Value}
use Rattle.resp_value.specs.declared.value.Pairs.TheShapes.{weighed-Pairs-items-at-2}

one : (v : Value) → w_this.weight Value deep-Value v ≤ nodes (tree_of v)
one (Simple t) = omega arith
one (Error t) = omega arith
one (Number i) = omega arith
one (Blob b) = omega arith
one (Verbatim f b) = omega arith
one (BlobError b) = omega arith
one (Bool b) = omega arith
one Null = omega arith
one NullArray = omega arith
one (Array ts) = omega arith
one (Map rs) = omega arith
one (Set ts) = omega arith
one (Push ts) = omega arith

pub most_le : (vs : List Value)
    → max (most (λ x. w_this.weight Value deep-Value x) vs) 0
    ≤ all_nodes (trees_of (map tree_of vs))
most_le [] = omega arith
most_le (v ∷ vs) = omega (arith, most_le vs, one v)

two : (p : Value × Value) → weighed-Pairs-items-at-2.weight Value deep-Value p
    ≤ nodes (tree_of p.0) + nodes (tree_of p.1)
two (k, v) = omega (arith, one k, one v)

pub most_rows_le : (ps : List (Value × Value))
    → max (most (λ x. weighed-Pairs-items-at-2.weight Value deep-Value x) ps) 0
    ≤ row_nodes (rows_of (map (λ p. (tree_of p.0, tree_of p.1)) ps))
most_rows_le [] = omega arith
most_rows_le (p ∷ ps) = omega (arith, most_rows_le ps, two p)
