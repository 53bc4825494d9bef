-- The value that a reader gives for the spelling of a value.
use Rattle.std.specs.Prelude.{map, pos, true, false}
use Rattle.resp_value.specs.declared.value.Proto.{Proto}
use Rattle.resp_value.specs.declared.value.Proto.TheVariants.{Two, Three}
use Rattle.resp_value.specs.Tree.{Tree, Trees, Rows, simple, error, number, blob, verbatim}
use Rattle.resp_value.specs.Tree.{blob_error, boolean, null, null_array, array, mapping, set, push}
use Rattle.resp_value.specs.Tree.{end, more, last, row}
use Rattle.resp_value.specs.Spelling.{plain_byte}

abbrev mutual
  -- The third protocol has one null; the second has no texts with a format, no long errors, no
  -- truth values, and one kind of list.
  pub carried : Proto → Tree → Tree
  carried p (simple t) = simple t
  carried p (error t) = error t
  carried p (number i) = number i
  carried p (blob b) = blob b
  carried Two (verbatim f b) = blob b
  carried Three (verbatim f b) = verbatim f b
  carried Two (blob_error b) = error (map plain_byte b)
  carried Three (blob_error b) = blob_error b
  carried Two (boolean true) = number (pos 1)
  carried Two (boolean false) = number (pos 0)
  carried Three (boolean b) = boolean b
  carried p null = null
  carried Two null_array = null_array
  carried Three null_array = null
  carried p (array ts) = array (all_carried p ts)
  carried Two (mapping rs) = array (rows_in_turn rs)
  carried Three (mapping rs) = mapping (rows_carried rs)
  carried Two (set ts) = array (all_carried Two ts)
  carried Three (set ts) = set (all_carried Three ts)
  carried Two (push ts) = array (all_carried Two ts)
  carried Three (push ts) = push (all_carried Three ts)

  pub all_carried : Proto → Trees → Trees
  all_carried p end = end
  all_carried p (more t ts) = more (carried p t) (all_carried p ts)

  -- keys and values in turn, as the second protocol has a map
  pub rows_in_turn : Rows → Trees
  rows_in_turn last = end
  rows_in_turn (row k v rs) = more (carried Two k) (more (carried Two v) (rows_in_turn rs))

  pub rows_carried : Rows → Rows
  rows_carried last = last
  rows_carried (row k v rs) = row (carried Three k) (carried Three v) (rows_carried rs)
