-- What is written of a value is read as what its spelling carries.
use Rattle.std.proofs.Common.{◌≡◌, ℕ, zero, suc, ◌+◌, ◌*◌, ◌≤◌, pos, List, [], ◌∷◌, ◌++◌, refl, ap}
use Rattle.std.proofs.Common.{◌∙◌, append_assoc, add-one, true, false, length, map, arith}
use Rattle.std.specs.Fmt.{decimal}
use Rattle.std.proofs.lemmas.List.{length-append, length-map}
use Rattle.resp_value.specs.declared.value.Proto.{Proto}
use Rattle.resp_value.specs.declared.value.Proto.TheVariants.{Two, Three}
use Rattle.resp_value.specs.Tree.{Tree, Trees, Rows, simple, error, number, blob, verbatim}
use Rattle.resp_value.specs.Tree.{blob_error, boolean, null, null_array, array, mapping, set, push}
use Rattle.resp_value.specs.Tree.{end, more, last, row, count, row_count, trees_of, list_of}
use Rattle.resp_value.specs.Tree.{rows_of, in_turn}
use Rattle.resp_value.specs.Spelling.{line, head, spelling, spellings, row_spellings}
use Rattle.resp_value.specs.Carried.{carried, all_carried, rows_in_turn, rows_carried}
use Rattle.resp_value.proofs.OneToOne.{trees_back}
use Rattle.resp_stream.specs.declared.value.Kind.{Kind}
use Rattle.resp_stream.specs.declared.value.Kind.TheVariants.{Array, Map, Set, Push}
use Rattle.resp_stream.specs.Parsed.{Whole}
use Rattle.resp_stream.specs.Tokens.{only_byte, ending, minus_one, length_at, many}
use Rattle.resp_stream.specs.Request.{whole_limit}
use Rattle.resp_stream.specs.Value.{rule_of, digits_of_at, signed_at, number_at, blob_at, blob_rule}
use Rattle.resp_stream.specs.Value.{blob_error_rule, blob_tree, verbatim_at, truth_at, text_at}
use Rattle.resp_stream.specs.Value.{whole_number_at, elements, build, aggregate_at, value_in}
use Rattle.resp_stream.specs.Value.{value_at}
use Rattle.resp_stream.proofs.Capped.{whole_within}
use Rattle.resp_laws.specs.Values.{FitsIn, AllFit, RowsFit, WrittenValues}
use Rattle.resp_laws.proofs.Written.{is_length, length_only, head_parts, counted_parts}
use Rattle.resp_laws.proofs.Scalars.{text_only, all_plain, number_only, blob_only, blob_error_only}
use Rattle.resp_laws.proofs.Scalars.{verbatim_only}

-- ---- by the type byte

pub at_simple : (d : ℕ) (b : List ℕ) → value_in d (43 ∷ b) ≡ text_at simple b
unfolding value_in
at_simple d b = grind arith

pub at_error : (d : ℕ) (b : List ℕ) → value_in d (45 ∷ b) ≡ text_at error b
unfolding value_in
at_error d b = grind arith

pub at_number : (d : ℕ) (b : List ℕ) → value_in d (58 ∷ b) ≡ whole_number_at b
unfolding value_in
at_number d b = grind arith

pub at_blob : (d : ℕ) (b : List ℕ) → value_in d (36 ∷ b) ≡ blob_at (blob_tree false) blob_rule b
unfolding value_in
at_blob d b = grind arith

pub at_verbatim : (d : ℕ) (b : List ℕ) → value_in d (61 ∷ b) ≡ verbatim_at b
unfolding value_in
at_verbatim d b = grind arith

pub at_blob_error : (d : ℕ) (b : List ℕ)
    → value_in d (33 ∷ b) ≡ blob_at (blob_tree true) blob_error_rule b
unfolding value_in
at_blob_error d b = grind arith

pub at_truth : (d : ℕ) (b : List ℕ) → value_in d (35 ∷ b) ≡ truth_at b
unfolding value_in
at_truth d b = grind arith

pub at_null : (d : ℕ) (b : List ℕ) → value_in d (95 ∷ b) ≡ ending null b
unfolding value_in
at_null d b = grind arith

pub at_array : (d : ℕ) (b : List ℕ) → value_in (suc d) (42 ∷ b) ≡ aggregate_at Array (value_in d) b
unfolding value_in
at_array d b = refl

pub at_map : (d : ℕ) (b : List ℕ) → value_in (suc d) (37 ∷ b) ≡ aggregate_at Map (value_in d) b
unfolding value_in
at_map d b = refl

pub at_set : (d : ℕ) (b : List ℕ) → value_in (suc d) (126 ∷ b) ≡ aggregate_at Set (value_in d) b
unfolding value_in
at_set d b = refl

pub at_push : (d : ℕ) (b : List ℕ) → d ≡ 7
    → value_in (suc d) (62 ∷ b) ≡ aggregate_at Push (value_in d) b
unfolding value_in
at_push d b e = grind arith

-- ---- the parts of spellings

pub line_parts : (mark : ℕ) (t r : List ℕ) → line mark t ++ r ≡ mark ∷ (t ++ 13 ∷ 10 ∷ r)
unfolding line
line_parts mark t r = ap (λ (q : List ℕ). mark ∷ q) (append_assoc t (13 ∷ 10 ∷ []) r)

pub list_parts : (mark n : ℕ) (body r : List ℕ)
    → (head mark n ++ body) ++ r ≡ mark ∷ (decimal n ++ 13 ∷ 10 ∷ (body ++ r))
list_parts mark n body r = append_assoc (head mark n) body r ∙ head_parts mark n (body ++ r)

-- ---- what is always the same

pub true_only : (r : List ℕ) → truth_at (116 ∷ 13 ∷ 10 ∷ r) ≡ Whole (boolean true) r
unfolding truth_at only_byte
true_only r = refl

pub false_only : (r : List ℕ) → truth_at (102 ∷ 13 ∷ 10 ∷ r) ≡ Whole (boolean false) r
unfolding truth_at only_byte
false_only r = refl

pub one_only : (r : List ℕ) → whole_number_at (49 ∷ 13 ∷ 10 ∷ r) ≡ Whole (number (pos 1)) r
unfolding whole_number_at number_at signed_at digits_of_at only_byte
one_only r = refl

pub nought_only : (r : List ℕ) → whole_number_at (48 ∷ 13 ∷ 10 ∷ r) ≡ Whole (number (pos 0)) r
unfolding whole_number_at number_at signed_at digits_of_at only_byte
nought_only r = refl

pub null_only : (r : List ℕ) → ending null (13 ∷ 10 ∷ r) ≡ Whole null r
unfolding only_byte
null_only r = refl

pub minus_only : (r : List ℕ)
    → blob_at (blob_tree false) blob_rule (45 ∷ 49 ∷ 13 ∷ 10 ∷ r) ≡ Whole null r
unfolding blob_at length_at minus_one only_byte
minus_only r = refl

pub minus_array : (d : ℕ) (r : List ℕ)
    → aggregate_at Array (value_in d) (45 ∷ 49 ∷ 13 ∷ 10 ∷ r) ≡ Whole null_array r
unfolding aggregate_at length_at minus_one only_byte
minus_array d r = refl

-- ---- aggregates

many_then : (d n : ℕ) (b c r : List ℕ) (t : Tree) (ts : List Tree) → value_in d b ≡ Whole t c
    → many (value_in d) n c ≡ Whole ts r → many (value_in d) (suc n) b ≡ Whole (t ∷ ts) r
unfolding many
many_then d n b c r t ts e h = grind arith

many_end : (d : ℕ) (r : List ℕ) → many (value_in d) 0 r ≡ Whole [] r
unfolding many
many_end d r = refl

aggregate_only : (kind : Kind) (d n : ℕ) (ts : List Tree) (b r : List ℕ) → n ≤ 65536
    → (rule_of kind).least ≤ n → n ≤ (rule_of kind).limit
    → many (value_in d) (elements kind n) b ≡ Whole ts r →
    aggregate_at kind (value_in d) (decimal n ++ 13 ∷ 10 ∷ b) ≡ Whole (build kind ts) r
unfolding aggregate_at
aggregate_only kind d n ts b r le lo hi h = grind (arith, length_only, is_length)

-- the values of pairs in turn
abbrev pub turns : Proto → Rows → List Tree
turns p last = []
turns p (row k v rs) = carried p k ∷ carried p v ∷ turns p rs

pub turns_two : (rs : Rows) → turns Two rs ≡ list_of (rows_in_turn rs)
turns_two last = refl
turns_two (row k v rs) = ap (λ (q : List Tree). carried Two k ∷ carried Two v ∷ q) (turns_two rs)

pub turns_three : (rs : Rows) → rows_of (in_turn (turns Three rs)) ≡ rows_carried rs
turns_three last = refl
turns_three (row k v rs) = ap (row (carried Three k) (carried Three v)) (turns_three rs)

list_by : (p : Proto) (d : ℕ) (ts : Trees) (r : List ℕ) → count ts ≤ 65536
    → many (value_in d) (count ts) (spellings p ts ++ r) ≡ Whole (list_of (all_carried p ts)) r →
    value_in (suc d) (42 ∷ (decimal (count ts) ++ 13 ∷ 10 ∷ (spellings p ts ++ r)))
    ≡ Whole (array (all_carried p ts)) r
list_by p d ts r le h =
    at_array d (decimal (count ts) ++ 13 ∷ 10 ∷ (spellings p ts ++ r))
    ∙ aggregate_only Array d (count ts) (list_of (all_carried p ts)) (spellings p ts ++ r) r le
    (omega arith) le h
    ∙ ap (λ q. Whole (array q) r) (trees_back (all_carried p ts))

mutual
  pub value_only : (p : Proto) (d : ℕ) (t : Tree) (r : List ℕ) → FitsIn p d t
      → value_in d (spelling p t ++ r) ≡ Whole (carried p t) r
  value_only p d (simple t) r h = grind (arith, line_parts, at_simple, text_only)
  value_only p d (error t) r h = grind (arith, line_parts, at_error, text_only)
  value_only p d (number i) r h = grind (arith, line_parts, at_number, number_only)
  value_only p d (blob b) r h = ap (λ q. value_in d q) (counted_parts 36 b r)
      ∙ at_blob d (decimal (length b) ++ 13 ∷ 10 ∷ (b ++ 13 ∷ 10 ∷ r)) ∙ blob_only b r h
  value_only Two d (verbatim f b) r h = grind (arith, counted_parts, at_blob, blob_only)
  value_only Three d (verbatim f b) r h =
      grind (arith, counted_parts, at_verbatim, append_assoc, verbatim_only)
  value_only Two d (blob_error b) r h =
      grind (arith, line_parts, map, at_error, text_only, length-map, all_plain)
  value_only Three d (blob_error b) r h =
      grind (arith, counted_parts, at_blob_error, blob_error_only)
  value_only Two d (boolean true) r h = grind (arith, line_parts, at_number, one_only)
  value_only Two d (boolean false) r h = grind (arith, line_parts, at_number, nought_only)
  value_only Three d (boolean true) r h = grind (arith, line_parts, at_truth, true_only)
  value_only Three d (boolean false) r h = grind (arith, line_parts, at_truth, false_only)
  value_only Two d null r h = ap (λ q. value_in d q) (line_parts 36 (45 ∷ 49 ∷ []) r)
      ∙ at_blob d (45 ∷ 49 ∷ 13 ∷ 10 ∷ r) ∙ minus_only r
  value_only Three d null r h = ap (λ q. value_in d q) (line_parts 95 [] r)
      ∙ at_null d (13 ∷ 10 ∷ r) ∙ null_only r
  value_only Two zero null_array r h = absurd h
  value_only Two (suc d) null_array r h = grind (arith, line_parts, at_array, minus_array)
  value_only Three d null_array r h =
      ap (λ q. value_in d q) (line_parts 95 [] r) ∙ at_null d (13 ∷ 10 ∷ r) ∙ null_only r
  value_only p (suc d) (array ts) r h =
      ap (λ q. value_in (suc d) q) (list_parts 42 (count ts) (spellings p ts) r)
      ∙ list_by p d ts r h.0 (all_only p d ts r h.1)
  value_only Two (suc d) (mapping rs) r h =
      let n : 2 * row_count rs ≡ row_count rs + row_count rs = omega arith in
      ap (λ q. value_in (suc d) q) (list_parts 42 (2 * row_count rs) (row_spellings Two rs) r)
      ∙ at_array d (decimal (2 * row_count rs) ++ 13 ∷ 10 ∷ (row_spellings Two rs ++ r))
      ∙ aggregate_only Array d (2 * row_count rs) (turns Two rs) (row_spellings Two rs ++ r) r
      (omega (arith, h.0)) (omega arith) (omega (arith, h.0))
      (rows_only Two d rs (2 * row_count rs) r n h.1)
      ∙ ap (λ q. Whole (array (trees_of q)) r) (turns_two rs)
      ∙ ap (λ q. Whole (array q) r) (trees_back (rows_in_turn rs))
  value_only Three (suc d) (mapping rs) r h =
      ap (λ q. value_in (suc d) q) (list_parts 37 (row_count rs) (row_spellings Three rs) r)
      ∙ at_map d (decimal (row_count rs) ++ 13 ∷ 10 ∷ (row_spellings Three rs ++ r))
      ∙ aggregate_only Map d (row_count rs) (turns Three rs) (row_spellings Three rs ++ r) r
      (omega (arith, h.0)) (omega arith) h.0
      (rows_only Three d rs (row_count rs + row_count rs) r refl h.1)
      ∙ ap (λ q. Whole (mapping q) r) (turns_three rs)
  value_only Two (suc d) (set ts) r h =
      ap (λ q. value_in (suc d) q) (list_parts 42 (count ts) (spellings Two ts) r)
      ∙ list_by Two d ts r h.0 (all_only Two d ts r h.1)
  value_only Three (suc d) (set ts) r h =
      ap (λ q. value_in (suc d) q) (list_parts 126 (count ts) (spellings Three ts) r)
      ∙ at_set d (decimal (count ts) ++ 13 ∷ 10 ∷ (spellings Three ts ++ r))
      ∙ aggregate_only Set d (count ts) (list_of (all_carried Three ts)) (spellings Three ts ++ r) r
      h.0 (omega arith) h.0 (all_only Three d ts r h.1)
      ∙ ap (λ q. Whole (set q) r) (trees_back (all_carried Three ts))
  value_only Two (suc d) (push ts) r h =
      ap (λ q. value_in (suc d) q) (list_parts 42 (count ts) (spellings Two ts) r)
      ∙ list_by Two d ts r h.1 (all_only Two d ts r h.2)
  value_only Three (suc d) (push ts) r h =
      ap (λ q. value_in (suc d) q) (list_parts 62 (count ts) (spellings Three ts) r)
      ∙ at_push d (decimal (count ts) ++ 13 ∷ 10 ∷ (spellings Three ts ++ r)) h.0
      ∙ aggregate_only Push d (count ts) (list_of (all_carried Three ts)) (spellings Three ts ++ r)
      r h.1 (omega arith) h.1 (all_only Three d ts r h.2)
      ∙ ap (λ q. Whole (push q) r) (trees_back (all_carried Three ts))
  value_only p zero t r h = absurd h

  all_only : (p : Proto) (d : ℕ) (ts : Trees) (r : List ℕ) → AllFit p d ts
      → many (value_in d) (count ts) (spellings p ts ++ r) ≡ Whole (list_of (all_carried p ts)) r
  all_only p d end r h = many_end d r
  all_only p d (more t ts) r h =
      (grind (arith, add-one, append_assoc))
      ∙ many_then d (count ts) (spelling p t ++ (spellings p ts ++ r)) (spellings p ts ++ r) r
      (carried p t) (list_of (all_carried p ts)) (value_only p d t (spellings p ts ++ r) h.0)
      (all_only p d ts r h.1)

  rows_only : (p : Proto) (d : ℕ) (rs : Rows) (n : ℕ) (r : List ℕ) → n ≡ row_count rs + row_count rs
      → RowsFit p d rs → many (value_in d) n (row_spellings p rs ++ r) ≡ Whole (turns p rs) r
  rows_only p d last n r e h = ap (λ k. many (value_in d) k r) e ∙ many_end d r
  rows_only p d (row k v rs) n r e h =
      let two : n ≡ suc (suc (row_count rs + row_count rs)) = omega arith in
      (grind (arith, append_assoc))
      ∙ many_then d (suc (row_count rs + row_count rs))
      (spelling p k ++ (spelling p v ++ (row_spellings p rs ++ r)))
      (spelling p v ++ (row_spellings p rs ++ r)) r (carried p k) (carried p v ∷ turns p rs)
      (value_only p d k (spelling p v ++ (row_spellings p rs ++ r)) h.0)
      (many_then d (row_count rs + row_count rs) (spelling p v ++ (row_spellings p rs ++ r))
      (row_spellings p rs ++ r) r (carried p v) (turns p rs)
      (value_only p d v (row_spellings p rs ++ r) h.1)
      (rows_only p d rs (row_count rs + row_count rs) r refl h.2))

pub written_values : WrittenValues
unfolding value_at
written_values p t r h =
    whole_within whole_limit (spelling p t ++ r) (value_in 8 (spelling p t ++ r)) (carried p t) r
    (value_only p 8 t r h.parts) (omega (arith, h.whole, length-append (spelling p t) r))
