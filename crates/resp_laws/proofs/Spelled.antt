-- The first bytes of written values hold the first of them.
use Rattle.std.proofs.Common.{◌≡◌, ℕ, zero, suc, ◌+◌, ◌*◌, pos, List, [], ◌∷◌, ◌++◌, refl}
use Rattle.std.proofs.Common.{ap, subst, ◌∙◌, append_assoc, add-one, true, false}
use Rattle.std.proofs.Common.{length, map, arith, Some}
use Rattle.std.specs.Fmt.{decimal}
use Rattle.resp_value.specs.declared.value.Proto.{Proto}
use Rattle.resp_value.specs.declared.value.Proto.TheVariants.{Two, Three}
use Rattle.resp_value.specs.Tree.{Tree, Trees, Rows, simple, error, number, blob, verbatim}
use Rattle.resp_value.specs.Tree.{blob_error, boolean, null, null_array, array, mapping, set, push}
use Rattle.resp_value.specs.Tree.{end, more, last, row, count, row_count, trees_of, list_of}
use Rattle.resp_value.specs.Spelling.{line, head, counted, plain_byte, spelling, spellings}
use Rattle.resp_value.specs.Spelling.{row_spellings}
use Rattle.resp_value.specs.Carried.{carried, all_carried, rows_in_turn, rows_carried}
use Rattle.resp_value.proofs.OneToOne.{trees_back}
use Rattle.resp_stream.specs.declared.value.Kind.{Kind}
use Rattle.resp_stream.specs.declared.value.Kind.TheVariants.{Array, Map, Set, Push}
use Rattle.resp_stream.specs.declared.value.TypeByte.TheVariants as mark
use Rattle.resp_stream.specs.Parse.{parse_values}
use Rattle.resp_stream.specs.Tokens.{length_at, many}
use Rattle.resp_stream.specs.Stream.{begun, fed}
use Rattle.resp_stream.specs.Value.{rule_of, blob_at, blob_rule, blob_error_rule, blob_tree}
use Rattle.resp_stream.specs.Value.{text_at, elements, build, elements_at, aggregate_at}
use Rattle.resp_stream.specs.Value.{type_byte_of, value_in, value_at}
use Rattle.resp_stream.proofs.Parse.{takes_values}
use Rattle.resp_laws.specs.Fronts.{IsWellFormed, AreWellFormed, RowsWellFormed, ValuesInOrder}
use Rattle.resp_laws.proofs.Decimals.{length_written}
use Rattle.resp_laws.proofs.Numbers.{text_written, number_written, blob_written, verbatim_written}
use Rattle.resp_laws.proofs.Only.{Only, only_is, only_same, only_then, only_capped, only_none}
use Rattle.resp_laws.proofs.Only.{only_next}
use Rattle.resp_laws.proofs.Requests.{NeedsBytes, in_order}
use Rattle.resp_laws.proofs.Scalars.{all_plain}
use Rattle.resp_laws.proofs.Steadiness.{steady_values}
use Rattle.resp_laws.proofs.Trees.{at_simple, at_error, at_number, at_blob, at_verbatim}
use Rattle.resp_laws.proofs.Trees.{at_blob_error, at_truth, at_null, at_array, at_map, at_set}
use Rattle.resp_laws.proofs.Trees.{line_parts, list_parts, true_only, false_only, one_only}
use Rattle.resp_laws.proofs.Trees.{nought_only, null_only, minus_only, minus_array, turns}
use Rattle.resp_laws.proofs.Trees.{turns_two, turns_three}
use Rattle.resp_laws.proofs.Written.{counted_parts}

-- ---- where an aggregate may not stand

no_room : (c : ℕ) (kind : Kind) (b : List ℕ) (x : Tree) (s : List ℕ)
    → type_byte_of c ≡ mark.Aggregate kind → Only (value_in zero (c ∷ b)) x s
unfolding value_in
no_room c kind b h s e = grind arith

-- a push is read at the top alone
push_only : (d : ℕ) (b : List ℕ) (x : Tree) (s : List ℕ)
    → Only (aggregate_at Push (value_in d) b) x s → Only (value_in (suc d) (62 ∷ b)) x s
unfolding value_in
push_only d b e s h = grind arith

-- ---- aggregates

aggregate_written : (kind : Kind) (d n : ℕ) (ts : List Tree) (b r : List ℕ)
    → Only (many (value_in d) (elements kind n) b) ts r
    → Only (aggregate_at kind (value_in d) (decimal n ++ 13 ∷ 10 ∷ b)) (build kind ts) r
unfolding aggregate_at
aggregate_written kind d n ts b r h =
    only_then (length_at (rule_of kind) (decimal n ++ 13 ∷ 10 ∷ b))
    (elements_at kind (value_in d)) (Some n) (build kind ts) b r
    (length_written (rule_of kind) n b (grind arith))
    (grind (arith, only_then))

array_written : (d n : ℕ) (ts : List Tree) (us : Trees) (b r : List ℕ)
    → trees_of ts ≡ us → Only (many (value_in d) n b) ts r
    → Only (value_in (suc d) (42 ∷ (decimal n ++ 13 ∷ 10 ∷ b))) (array us) r
array_written d n ts us b r e h =
    subst (λ q. Only (value_in (suc d) (42 ∷ (decimal n ++ 13 ∷ 10 ∷ b))) (array q) r) e
    (only_same (value_in (suc d) (42 ∷ (decimal n ++ 13 ∷ 10 ∷ b)))
    (aggregate_at Array (value_in d) (decimal n ++ 13 ∷ 10 ∷ b)) (array (trees_of ts)) r
    (at_array d (decimal n ++ 13 ∷ 10 ∷ b)) (aggregate_written Array d n ts b r h))

no_aggregate : (n : ℕ) (body r : List ℕ) (x : Tree) (c : ℕ) (kind : Kind)
    → type_byte_of c ≡ mark.Aggregate kind → Only (value_in zero ((head c n ++ body) ++ r)) x r
no_aggregate n body r x c kind e =
    only_same (value_in zero ((head c n ++ body) ++ r))
    (value_in zero (c ∷ (decimal n ++ 13 ∷ 10 ∷ (body ++ r)))) x r
    (ap (λ q. value_in zero q) (list_parts c n body r))
    (no_room c kind (decimal n ++ 13 ∷ 10 ∷ (body ++ r)) x r e)

-- a list of the second protocol, or of values
list_written : (p : Proto) (d : ℕ) (ts : Trees) (r : List ℕ)
    → ((e : ℕ)
    → Only (many (value_in e) (count ts) (spellings p ts ++ r)) (list_of (all_carried p ts)) r)
    → Only (value_in d ((head 42 (count ts) ++ spellings p ts) ++ r)) (array (all_carried p ts)) r
list_written p zero ts r h =
    no_aggregate (count ts) (spellings p ts) r (array (all_carried p ts)) 42 Array refl
list_written p (suc d) ts r h =
    only_same (value_in (suc d) ((head 42 (count ts) ++ spellings p ts) ++ r))
    (value_in (suc d) (42 ∷ (decimal (count ts) ++ 13 ∷ 10 ∷ (spellings p ts ++ r))))
    (array (all_carried p ts)) r
    (ap (λ q. value_in (suc d) q) (list_parts 42 (count ts) (spellings p ts) r))
    (array_written d (count ts) (list_of (all_carried p ts)) (all_carried p ts)
    (spellings p ts ++ r) r (trees_back (all_carried p ts)) (h d))

-- a map of the second protocol
pairs_written : (d : ℕ) (rs : Rows) (r : List ℕ)
    → ((e n : ℕ) → n ≡ row_count rs + row_count rs
    → Only (many (value_in e) n (row_spellings Two rs ++ r)) (turns Two rs) r)
    → Only (value_in d ((head 42 (2 * row_count rs) ++ row_spellings Two rs) ++ r))
    (array (rows_in_turn rs)) r
pairs_written zero rs r h =
    no_aggregate (2 * row_count rs) (row_spellings Two rs) r (array (rows_in_turn rs)) 42 Array refl
pairs_written (suc d) rs r h =
    let n = 2 * row_count rs in
    only_same (value_in (suc d) ((head 42 n ++ row_spellings Two rs) ++ r))
    (value_in (suc d) (42 ∷ (decimal n ++ 13 ∷ 10 ∷ (row_spellings Two rs ++ r))))
    (array (rows_in_turn rs)) r
    (ap (λ q. value_in (suc d) q) (list_parts 42 n (row_spellings Two rs) r))
    (array_written d n (turns Two rs) (rows_in_turn rs) (row_spellings Two rs ++ r) r
    (ap trees_of (turns_two rs) ∙ trees_back (rows_in_turn rs)) (h d n (omega arith)))

-- ---- values without elements

blob_text : (d : ℕ) (b r : List ℕ) → Only (value_in d (counted 36 b ++ r)) (blob b) r
blob_text d b r =
    let text = decimal (length b) ++ 13 ∷ 10 ∷ (b ++ 13 ∷ 10 ∷ r) in
    only_same (value_in d (counted 36 b ++ r)) (blob_at (blob_tree false) blob_rule text) (blob b) r
    (ap (λ q. value_in d q) (counted_parts 36 b r) ∙ at_blob d text)
    (blob_written (blob_tree false) blob_rule b r (omega arith))

null_written : (d : ℕ) (r : List ℕ) → Only (value_in d (line 95 [] ++ r)) null r
null_written d r = grind (arith, only_is, line_parts, at_null, null_only)

-- ---- values

mutual
  pub value_written : (p : Proto) (d : ℕ) (t : Tree) (r : List ℕ) → IsWellFormed p t
      → Only (value_in d (spelling p t ++ r)) (carried p t) r
  value_written p d (simple t) r h =
      only_same (value_in d (spelling p (simple t) ++ r)) (text_at simple (t ++ 13 ∷ 10 ∷ r))
      (simple t) r (ap (λ q. value_in d q) (line_parts 43 t r) ∙ at_simple d (t ++ 13 ∷ 10 ∷ r))
      (text_written simple t r h)
  value_written p d (error t) r h =
      only_same (value_in d (spelling p (error t) ++ r)) (text_at error (t ++ 13 ∷ 10 ∷ r))
      (error t) r (ap (λ q. value_in d q) (line_parts 45 t r) ∙ at_error d (t ++ 13 ∷ 10 ∷ r))
      (text_written error t r h)
  value_written p d (number i) r h = grind (arith, only_same, line_parts, at_number, number_written)
  value_written p d (blob b) r h = blob_text d b r
  value_written Two d (verbatim f b) r h = blob_text d b r
  value_written Three d (verbatim f b) r h =
      grind (arith, only_same, counted_parts, at_verbatim, append_assoc, verbatim_written)
  value_written Two d (blob_error b) r h =
      let t = map plain_byte b in
      only_same (value_in d (spelling Two (blob_error b) ++ r)) (text_at error (t ++ 13 ∷ 10 ∷ r))
      (error t) r (ap (λ q. value_in d q) (line_parts 45 t r) ∙ at_error d (t ++ 13 ∷ 10 ∷ r))
      (text_written error t r (all_plain b))
  value_written Three d (blob_error b) r h =
      let text = decimal (length b) ++ 13 ∷ 10 ∷ (b ++ 13 ∷ 10 ∷ r) in
      only_same (value_in d (spelling Three (blob_error b) ++ r))
      (blob_at (blob_tree true) blob_error_rule text) (blob_error b) r
      (ap (λ q. value_in d q) (counted_parts 33 b r) ∙ at_blob_error d text)
      (blob_written (blob_tree true) blob_error_rule b r (omega arith))
  value_written Two d (boolean true) r h =
      grind (arith, only_is, pos, line_parts, at_number, one_only)
  value_written Two d (boolean false) r h =
      grind (arith, only_is, pos, line_parts, at_number, nought_only)
  value_written Three d (boolean true) r h = grind (arith, only_is, line_parts, at_truth, true_only)
  value_written Three d (boolean false) r h =
      grind (arith, only_is, line_parts, at_truth, false_only)
  value_written Two d null r h = grind (arith, only_is, line_parts, at_blob, minus_only)
  value_written Three d null r h = null_written d r
  value_written Two zero null_array r h =
      only_same (value_in zero (spelling Two null_array ++ r))
      (value_in zero (42 ∷ 45 ∷ 49 ∷ 13 ∷ 10 ∷ r)) null_array r
      (ap (λ q. value_in zero q) (line_parts 42 (45 ∷ 49 ∷ []) r))
      (no_room 42 Array (45 ∷ 49 ∷ 13 ∷ 10 ∷ r) null_array r refl)
  value_written Two (suc d) null_array r h =
      grind (arith, only_is, line_parts, at_array, minus_array)
  value_written Three d null_array r h = null_written d r
  value_written p d (array ts) r h =
      list_written p d ts r (λ e. all_written p e ts r h)
  value_written Two d (mapping rs) r h =
      pairs_written d rs r (λ e n k. rows_written Two e rs n r k h)
  value_written Three zero (mapping rs) r h =
      no_aggregate (row_count rs) (row_spellings Three rs) r (mapping (rows_carried rs)) 37 Map refl
  value_written Three (suc d) (mapping rs) r h =
      let body = decimal (row_count rs) ++ 13 ∷ 10 ∷ (row_spellings Three rs ++ r) in
      only_same (value_in (suc d) (spelling Three (mapping rs) ++ r))
      (aggregate_at Map (value_in d) body) (mapping (rows_carried rs)) r
      (ap (λ q. value_in (suc d) q) (list_parts 37 (row_count rs) (row_spellings Three rs) r)
      ∙ at_map d body)
      (subst (λ q. Only (aggregate_at Map (value_in d) body) (mapping q) r) (turns_three rs)
      (aggregate_written Map d (row_count rs) (turns Three rs) (row_spellings Three rs ++ r) r
      (rows_written Three d rs (row_count rs + row_count rs) r refl h)))
  value_written Two d (set ts) r h = list_written Two d ts r (λ e. all_written Two e ts r h)
  value_written Three zero (set ts) r h =
      no_aggregate (count ts) (spellings Three ts) r (set (all_carried Three ts)) 126 Set refl
  value_written Three (suc d) (set ts) r h =
      let body = decimal (count ts) ++ 13 ∷ 10 ∷ (spellings Three ts ++ r) in
      only_same (value_in (suc d) (spelling Three (set ts) ++ r))
      (aggregate_at Set (value_in d) body) (set (all_carried Three ts)) r
      (ap (λ q. value_in (suc d) q) (list_parts 126 (count ts) (spellings Three ts) r)
      ∙ at_set d body)
      (subst (λ q. Only (aggregate_at Set (value_in d) body) (set q) r)
      (trees_back (all_carried Three ts))
      (aggregate_written Set d (count ts) (list_of (all_carried Three ts)) (spellings Three ts ++ r)
      r (all_written Three d ts r h)))
  value_written Two d (push ts) r h = list_written Two d ts r (λ e. all_written Two e ts r h)
  value_written Three zero (push ts) r h =
      no_aggregate (count ts) (spellings Three ts) r (push (all_carried Three ts)) 62 Push refl
  value_written Three (suc d) (push ts) r h =
      let body = decimal (count ts) ++ 13 ∷ 10 ∷ (spellings Three ts ++ r) in
      only_same (value_in (suc d) (spelling Three (push ts) ++ r)) (value_in (suc d) (62 ∷ body))
      (push (all_carried Three ts)) r
      (ap (λ q. value_in (suc d) q) (list_parts 62 (count ts) (spellings Three ts) r))
      (push_only d body (push (all_carried Three ts)) r
      (subst (λ q. Only (aggregate_at Push (value_in d) body) (push q) r)
      (trees_back (all_carried Three ts))
      (aggregate_written Push d (count ts) (list_of (all_carried Three ts))
      (spellings Three ts ++ r) r (all_written Three d ts r h))))

  all_written : (p : Proto) (d : ℕ) (ts : Trees) (r : List ℕ) → AreWellFormed p ts
      → Only (many (value_in d) (count ts) (spellings p ts ++ r)) (list_of (all_carried p ts)) r
  all_written p d end r h = only_none (value_in d) r
  all_written p d (more t ts) r h =
      only_same (many (value_in d) (count ts + 1) ((spelling p t ++ spellings p ts) ++ r))
      (many (value_in d) (suc (count ts)) (spelling p t ++ (spellings p ts ++ r)))
      (carried p t ∷ list_of (all_carried p ts)) r
      (grind (arith, add-one, append_assoc))
      (only_next (value_in d) (count ts) (spelling p t ++ (spellings p ts ++ r))
      (spellings p ts ++ r) r (carried p t) (list_of (all_carried p ts))
      (value_written p d t (spellings p ts ++ r) h.0) (all_written p d ts r h.1))

  rows_written : (p : Proto) (d : ℕ) (rs : Rows) (n : ℕ) (r : List ℕ)
      → n ≡ row_count rs + row_count rs → RowsWellFormed p rs
      → Only (many (value_in d) n (row_spellings p rs ++ r)) (turns p rs) r
  rows_written p d last n r e h =
      only_same (many (value_in d) n r) (many (value_in d) 0 r) [] r
      (ap (λ k. many (value_in d) k r) e) (only_none (value_in d) r)
  rows_written p d (row k v rs) n r e h =
      let two : n ≡ suc (suc (row_count rs + row_count rs)) = omega arith in
      let behind = row_spellings p rs ++ r in
      only_same
      (many (value_in d) n (((spelling p k ++ spelling p v) ++ row_spellings p rs) ++ r))
      (many (value_in d) (suc (suc (row_count rs + row_count rs)))
      (spelling p k ++ (spelling p v ++ behind))) (carried p k ∷ carried p v ∷ turns p rs) r
      (λ i. many (value_in d) (two i)
      ((append_assoc (spelling p k ++ spelling p v) (row_spellings p rs) r
      ∙ append_assoc (spelling p k) (spelling p v) behind) i))
      (only_next (value_in d) (suc (row_count rs + row_count rs))
      (spelling p k ++ (spelling p v ++ behind)) (spelling p v ++ behind) r (carried p k)
      (carried p v ∷ turns p rs) (value_written p d k (spelling p v ++ behind) h.0)
      (only_next (value_in d) (row_count rs + row_count rs) (spelling p v ++ behind) behind r
      (carried p v) (turns p rs) (value_written p d v behind h.1)
      (rows_written p d rs (row_count rs + row_count rs) r refl h.2)))

pub value_only_at : (p : Proto) (t : Tree) (r : List ℕ) → IsWellFormed p t
    → Only (value_at (spelling p t ++ r)) (carried p t) r
unfolding value_at
value_only_at p t r h = grind (arith, only_capped, value_written)

-- ---- in turn

no_value : NeedsBytes value_at
unfolding value_at value_in
no_value x r e = grind arith

pub values_in_order : ValuesInOrder IsWellFormed
unfolding parse_values
values_in_order messages b good p =
    in_order value_at (λ s. s) takes_values (λ (m : Proto × Tree). spelling m.0 m.1)
    (λ (m : Proto × Tree). carried m.0 m.1) (λ (m : Proto × Tree). IsWellFormed m.0 m.1)
    (λ t. Unit {0}) (λ m s g. value_only_at m.0 m.1 s g) (λ m g. tt)
    (λ b r x e m. steady_values.whole b r x e m) no_value (λ s some. refl) messages (fed begun b)
    good p
