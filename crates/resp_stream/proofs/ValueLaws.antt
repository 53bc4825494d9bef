-- Values are read by readers.
use Rattle.std.proofs.Common.{◌≡◌, ℕ, zero, suc, ◌-◌, List, [], ◌∷◌, refl, Bool, true}
use Rattle.std.proofs.Common.{false, cond, Option, Some, None, lit<, lit≤, arith, rules}
use Rattle.std.specs.Prelude.{nat_lt, nat_eq}
use Rattle.resp_stream.specs.declared.fault.Fault.TheVariants.{BadByte}
use Rattle.resp_stream.specs.declared.value.Kind.{Kind}
use Rattle.resp_stream.specs.declared.value.TypeByte.{TypeByte}
use Rattle.resp_stream.specs.declared.value.TypeByte.TheVariants as mark
use Rattle.resp_value.specs.Tree.{Tree, number, verbatim, boolean, null, null_array}
use Rattle.resp_stream.specs.Parsed.{Parsed, Whole, More, Choice, Go, Stop, scan, first, ◌>>=◌}
use Rattle.resp_stream.specs.ReaderLaws.{Completes, IsReader}
use Rattle.resp_stream.specs.declared.tokens.LengthRule.{LengthRule}
use Rattle.resp_stream.specs.Tokens.{IsRule, only_byte, ending, length_at, counted_at, line_at}
use Rattle.resp_stream.specs.Request.{line_limit}
use Rattle.resp_stream.specs.Value.{blob_rule, verbatim_rule, blob_error_rule, rule_of, Digits}
use Rattle.resp_stream.specs.Value.{number_move, digits_of_at, signed, greatest, signed_at}
use Rattle.resp_stream.specs.Value.{number_by, number_at, sized_blob, blob_at, line_tree, blob_tree}
use Rattle.resp_stream.specs.Value.{format_at, formatted_at, sized_text, verbatim_at, truth_at}
use Rattle.resp_stream.specs.Value.{text_at, whole_number_at, elements_at, aggregate_at, may_stand}
use Rattle.resp_stream.specs.Value.{type_byte_of, choice_of, too_deep, deeper, value_in}
use Rattle.resp_stream.proofs.Compose.{reader_then, reader_whole, reader_scan, reader_first}
use Rattle.resp_stream.proofs.Compose.{IsChoice, IsMove, choice_if, move_if}
use Rattle.resp_stream.proofs.Readers.{reader_only, reader_feed, reader_ending, reader_line}
use Rattle.resp_stream.proofs.Readers.{reader_length, reader_counted, reader_many}

pub blob_ok : IsRule blob_rule
blob_ok = record { limit = lit< tt; room = lit≤ tt; least = lit≤ tt }

verbatim_ok : IsRule verbatim_rule
verbatim_ok = record { limit = lit< tt; room = lit≤ tt; least = lit≤ tt }

blob_error_ok : IsRule blob_error_rule
blob_error_ok = record { limit = lit< tt; room = lit≤ tt; least = lit≤ tt }

-- ---- numbers

number_moves : (most : ℕ) (s : Option Digits) (c : ℕ) → IsMove (number_move most s c)
number_moves most None c = move_if (nat_lt c 48) _ _ tt (move_if (nat_lt 57 c) _ _ tt tt)
number_moves most (Some s) c = grind (arith, move_if, reader_feed)

number_way : (most : ℕ) (s : Option Digits) → Completes (scan (number_move most) s) []
unfolding only_byte
number_way most None = (48 ∷ 13 ∷ 10 ∷ [], 0, refl)
number_way most (Some s) = (13 ∷ 10 ∷ [], s.made, refl)

reader_digits_of : (most : ℕ) (s : Option Digits) → IsReader (digits_of_at most s)
unfolding digits_of_at
reader_digits_of most s = reader_scan (number_move most) (number_moves most) (number_way most) s

reader_signed : (minus : Bool) (s : Option Digits) → IsReader (signed_at minus s)
unfolding signed_at
reader_signed minus s =
    reader_then (digits_of_at (greatest minus) s) (λ n r. Whole (signed minus n) r)
    (reader_digits_of (greatest minus) s) (λ n. reader_whole (signed minus n))

reader_number : IsReader number_at
unfolding number_at
reader_number =
    reader_first number_by
    (grind (arith, choice_if, reader_signed))
    43 (signed_at false None) refl (reader_signed false None)

-- ---- values without elements

reader_sized_blob : (make : List ℕ → Tree) (n : Option ℕ) → IsReader (sized_blob make n)
reader_sized_blob make None = reader_whole null
reader_sized_blob make (Some n) =
    reader_then (counted_at n) (λ t s. Whole (make t) s) (reader_counted n)
    (λ t. reader_whole (make t))

reader_blob : (make : List ℕ → Tree) (rule : LengthRule) → IsRule rule
    → IsReader (blob_at make rule)
unfolding blob_at
reader_blob make rule ok =
    reader_then (length_at rule) (sized_blob make) (reader_length rule ok) (reader_sized_blob make)

any_byte : {A : Type 0} (f : ℕ → List ℕ → Parsed A) → ((c : ℕ) → IsReader (f c))
    → IsReader (first (λ c. Go (f c)))
any_byte f l = reader_first (λ c. Go (f c)) l 0 (f 0) refl (l 0)

reader_format : IsReader format_at
unfolding format_at
reader_format =
    any_byte (λ x. first (λ y. Go (first (λ z. Go (Whole (x ∷ y ∷ z ∷ []))))))
    (λ x. any_byte (λ y. first (λ z. Go (Whole (x ∷ y ∷ z ∷ []))))
    (λ y. any_byte (λ z. Whole (x ∷ y ∷ z ∷ [])) (λ z. reader_whole (x ∷ y ∷ z ∷ []))))

reader_formatted : (n : ℕ) → IsReader (formatted_at n)
unfolding formatted_at
reader_formatted n =
    reader_then format_at (λ f r. only_byte 58 r >>= λ u s. counted_at (n - 4) s
    >>= λ t z. Whole (verbatim f t) z) reader_format
    (λ f. reader_then (only_byte 58) (λ u s. counted_at (n - 4) s >>= λ t z. Whole (verbatim f t) z)
    (reader_only 58)
    (λ u. reader_then (counted_at (n - 4)) (λ t z. Whole (verbatim f t) z) (reader_counted (n - 4))
    (λ t. reader_whole (verbatim f t))))

reader_sized_text : (n : Option ℕ) → IsReader (sized_text n)
reader_sized_text None = reader_whole null
reader_sized_text (Some n) = reader_formatted n

reader_verbatim : IsReader verbatim_at
unfolding verbatim_at
reader_verbatim =
    reader_then (length_at verbatim_rule) sized_text (reader_length verbatim_rule verbatim_ok)
    reader_sized_text

reader_truth : IsReader truth_at
unfolding truth_at
reader_truth =
    reader_first
    (λ c. cond (nat_eq c 116) (Go (ending (boolean true)))
    (cond (nat_eq c 102) (Go (ending (boolean false))) (Stop BadByte)))
    (grind (arith, choice_if, reader_ending)) 116
    (ending (boolean true)) refl (reader_ending (boolean true))

pub reader_text : (make : List ℕ → Tree) → IsReader (text_at make)
unfolding text_at
reader_text make =
    reader_then (line_at false line_limit) (λ t r. Whole (make t) r) (reader_line false line_limit)
    (λ t. reader_whole (make t))

reader_whole_number : IsReader whole_number_at
unfolding whole_number_at
reader_whole_number =
    reader_then number_at (λ i r. Whole (number i) r) reader_number (λ i. reader_whole (number i))

-- ---- aggregates and values

reader_elements : (kind : Kind) (read : List ℕ → Parsed Tree) → IsReader read → (n : Option ℕ)
    → IsReader (elements_at kind read n)
reader_elements kind read l None = reader_whole null_array
reader_elements kind read l (Some n) = search (rules, reader_then, reader_many, reader_whole)

reader_aggregate : (kind : Kind) (read : List ℕ → Parsed Tree) → IsReader read
    → IsReader (aggregate_at kind read)
unfolding aggregate_at
reader_aggregate kind read l =
    reader_then (length_at (rule_of kind)) (elements_at kind read)
    (reader_length (rule_of kind) (grind (arith, lit<, lit≤))) (reader_elements kind read l)

choices : (aggregate : Kind → Choice Tree) → ((kind : Kind) → IsChoice (aggregate kind))
    → (m : TypeByte) (c : ℕ) → IsChoice (choice_of aggregate m c)
choices aggregate l mark.Simple c = reader_text (line_tree false)
choices aggregate l mark.Error c = reader_text (line_tree true)
choices aggregate l mark.Number c = reader_whole_number
choices aggregate l mark.Blob c = reader_blob (blob_tree false) blob_rule blob_ok
choices aggregate l mark.Verbatim c = reader_verbatim
choices aggregate l mark.BlobError c = reader_blob (blob_tree true) blob_error_rule blob_error_ok
choices aggregate l mark.Truth c = reader_truth
choices aggregate l mark.Null c = reader_ending null
choices aggregate l (mark.Aggregate kind) c = l kind
choices aggregate l m c = tt

-- The main law: a value is read from the front, its faults are prompt, and what is unfinished can
-- be finished.
pub reader_value : (d : ℕ) → IsReader (value_in d)
unfolding value_in
reader_value zero =
    reader_first (λ c. choice_of too_deep (type_byte_of c) c)
    (λ c. choices too_deep (λ kind. tt) (type_byte_of c) c) 43 (text_at (line_tree false)) refl
    (reader_text (line_tree false))
reader_value (suc d) =
    reader_first (λ c. choice_of (deeper (nat_eq (suc d) 8) (value_in d)) (type_byte_of c) c)
    (λ c. choices (deeper (nat_eq (suc d) 8) (value_in d))
    (λ kind. choice_if (may_stand (nat_eq (suc d) 8) kind) (Go (aggregate_at kind (value_in d)))
    (Stop BadByte) (reader_aggregate kind (value_in d) (reader_value d)) tt) (type_byte_of c) c)
    43 (text_at (line_tree false)) refl (reader_text (line_tree false))

pub no_value : (d : ℕ) → value_in d [] ≡ More
unfolding value_in
no_value d = grind arith
