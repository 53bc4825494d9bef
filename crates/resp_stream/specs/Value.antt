-- A value by its type byte (RESP specifications 2 and 3).
use Rattle.std.specs.Prelude.{ℕ, zero, suc, ◌+◌, ◌-◌, ◌*◌, ℤ, pos, negsuc, nat_lt, nat_eq, Bool}
use Rattle.std.specs.Prelude.{true, false, ◌||◌, cond, List, [], ◌∷◌, Option, Some, None}
use Rattle.resp_stream.specs.declared.fault.Fault.TheVariants.{BadByte, TooLong, TooDeep}
use Rattle.resp_stream.specs.declared.fault.Fault.TheVariants as fault
use Rattle.resp_stream.specs.declared.tokens.LengthRule.{LengthRule}
use Rattle.resp_stream.specs.declared.value.Kind.{Kind}
use Rattle.resp_stream.specs.declared.value.Kind.TheVariants.{Array, Map, Set, Push}
use Rattle.resp_stream.specs.declared.value.TypeByte.{TypeByte}
use Rattle.resp_stream.specs.declared.value.TypeByte.TheVariants as mark
use Rattle.resp_value.specs.Tree.{Tree, simple, error, number, blob, verbatim, blob_error, boolean}
use Rattle.resp_value.specs.Tree.{null, null_array, array, mapping, set, push, trees_of, rows_of}
use Rattle.resp_value.specs.Tree.{in_turn}
use Rattle.resp_stream.specs.Parsed.{Parsed, Whole, Choice, Go, Stop, Move, On, Out, scan, first}
use Rattle.resp_stream.specs.Parsed.{◌>>=◌}
use Rattle.resp_stream.specs.Tokens.{only_byte, line_feed, ending, length_at, counted_at, many}
use Rattle.resp_stream.specs.Tokens.{line_at, capped}
use Rattle.resp_stream.specs.Request.{line_limit, whole_limit}

-- ---- lengths

abbrev pub blob_rule : LengthRule
blob_rule = record { streamed = true; null = true; least = 0; limit = 16777216 }

-- three bytes of a format and a colon are counted
abbrev pub verbatim_rule : LengthRule
verbatim_rule = record { streamed = false; null = false; least = 4; limit = 16777216 }

abbrev pub blob_error_rule : LengthRule
blob_error_rule = record { streamed = false; null = false; least = 0; limit = 16777216 }

abbrev pub rule_of : Kind → LengthRule
rule_of Array = record { streamed = true; null = true; least = 0; limit = 65536 }
rule_of Map = record { streamed = true; null = false; least = 0; limit = 32768 }
rule_of Set = record { streamed = true; null = false; least = 0; limit = 65536 }
rule_of Push = record { streamed = true; null = false; least = 0; limit = 65536 }

-- ---- numbers: one sign at most, 1 to 19 digits, 64 bits

-- how many digits there were, and what they make
pub record Digits : Type 0 where
  pub count : ℕ
  pub made : ℕ

-- The rest of a number of at most `most`; a digit that passes it is a wrong byte.
abbrev pub number_move : ℕ → Option Digits → ℕ → Move (Option Digits) ℕ
number_move most None c =
    cond (nat_lt c 48) (Out (Stop BadByte))
    (cond (nat_lt 57 c) (Out (Stop BadByte)) (On (Some (record { count = 1; made = c - 48 }))))
number_move most (Some s) c =
    cond (nat_eq c 13) (Out (Go (line_feed s.made)))
    (cond (nat_lt c 48) (Out (Stop BadByte))
    (cond (nat_lt 57 c) (Out (Stop BadByte))
    (cond (nat_lt s.count 19)
    (cond (nat_lt most (s.made * 10 + (c - 48))) (Out (Stop BadByte))
    (On (Some (record { count = s.count + 1; made = s.made * 10 + (c - 48) }))))
    (Out (Stop BadByte)))))

unfoldable pub digits_of_at : ℕ → Option Digits → List ℕ → Parsed ℕ
digits_of_at most = scan (number_move most)

abbrev pub negated : ℕ → ℤ
negated zero = pos 0
negated (suc n) = negsuc n

-- what the sign makes of a number
abbrev pub signed : Bool → ℕ → ℤ
signed false n = pos n
signed true n = negated n

-- the greatest number with this sign
abbrev pub greatest : Bool → ℕ
greatest false = 9223372036854775807
greatest true = 9223372036854775808

unfoldable pub signed_at : Bool → Option Digits → List ℕ → Parsed ℤ
signed_at minus s b = digits_of_at (greatest minus) s b >>= λ n r. Whole (signed minus n) r

abbrev pub number_by : ℕ → Choice ℤ
number_by c =
    cond (nat_eq c 43) (Go (signed_at false None))
    (cond (nat_eq c 45) (Go (signed_at true None))
    (cond (nat_lt c 48) (Stop BadByte)
    (cond (nat_lt 57 c) (Stop BadByte)
    (Go (signed_at false (Some (record { count = 1; made = c - 48 })))))))

unfoldable pub number_at : List ℕ → Parsed ℤ
number_at = first number_by

-- ---- values without elements, after their type byte

-- a simple string or an error
abbrev pub line_tree : Bool → List ℕ → Tree
line_tree false t = simple t
line_tree true t = error t

-- a blob or a long error
abbrev pub blob_tree : Bool → List ℕ → Tree
blob_tree false t = blob t
blob_tree true t = blob_error t

abbrev pub sized_blob : (List ℕ → Tree) → Option ℕ → List ℕ → Parsed Tree
sized_blob make None b = Whole null b
sized_blob make (Some n) b = counted_at n b >>= λ t s. Whole (make t) s

unfoldable pub blob_at : (List ℕ → Tree) → LengthRule → List ℕ → Parsed Tree
blob_at make rule b = length_at rule b >>= sized_blob make

-- the three bytes of a format
unfoldable pub format_at : List ℕ → Parsed (List ℕ)
format_at = first (λ x. Go (first (λ y. Go (first (λ z. Go (Whole (x ∷ y ∷ z ∷ [])))))))

-- n bytes: a format, a colon and a text
unfoldable pub formatted_at : ℕ → List ℕ → Parsed Tree
formatted_at n b = format_at b >>= λ f r. only_byte 58 r >>= λ u s. counted_at (n - 4) s
    >>= λ t z. Whole (verbatim f t) z

abbrev pub sized_text : Option ℕ → List ℕ → Parsed Tree
sized_text None b = Whole null b
sized_text (Some n) b = formatted_at n b

unfoldable pub verbatim_at : List ℕ → Parsed Tree
verbatim_at b = length_at verbatim_rule b >>= sized_text

unfoldable pub truth_at : List ℕ → Parsed Tree
truth_at =
    first (λ c. cond (nat_eq c 116) (Go (ending (boolean true)))
    (cond (nat_eq c 102) (Go (ending (boolean false))) (Stop BadByte)))

unfoldable pub text_at : (List ℕ → Tree) → List ℕ → Parsed Tree
text_at make b = line_at false line_limit b >>= λ t r. Whole (make t) r

unfoldable pub whole_number_at : List ℕ → Parsed Tree
whole_number_at b = number_at b >>= λ i r. Whole (number i) r

-- ---- aggregates

-- how many values a map or list of n has
abbrev pub elements : Kind → ℕ → ℕ
elements Array n = n
elements Map n = n + n
elements Set n = n
elements Push n = n

abbrev pub build : Kind → List Tree → Tree
build Array ts = array (trees_of ts)
build Map ts = mapping (rows_of (in_turn ts))
build Set ts = set (trees_of ts)
build Push ts = push (trees_of ts)

abbrev pub elements_at : Kind → (List ℕ → Parsed Tree) → Option ℕ → List ℕ → Parsed Tree
elements_at kind read None b = Whole null_array b
elements_at kind read (Some n) b = many read (elements kind n) b >>= λ ts s. Whole (build kind ts) s

unfoldable pub aggregate_at : Kind → (List ℕ → Parsed Tree) → List ℕ → Parsed Tree
aggregate_at kind read b = length_at (rule_of kind) b >>= elements_at kind read

-- a push is at the top alone
abbrev pub may_stand : Bool → Kind → Bool
may_stand top Array = true
may_stand top Map = true
may_stand top Set = true
may_stand top Push = top

-- ---- values

abbrev pub type_byte_of : ℕ → TypeByte
type_byte_of c =
    cond (nat_eq c 43) mark.Simple
    (cond (nat_eq c 45) mark.Error
    (cond (nat_eq c 58) mark.Number
    (cond (nat_eq c 36) mark.Blob
    (cond (nat_eq c 42) (mark.Aggregate Array)
    (cond (nat_eq c 61) mark.Verbatim
    (cond (nat_eq c 33) mark.BlobError
    (cond (nat_eq c 35) mark.Truth
    (cond (nat_eq c 95) mark.Null
    (cond (nat_eq c 37) (mark.Aggregate Map)
    (cond (nat_eq c 126) (mark.Aggregate Set)
    (cond (nat_eq c 62) (mark.Aggregate Push)
    (cond (nat_eq c 44 || nat_eq c 40 || nat_eq c 124) mark.NotServed mark.Wrong))))))))))))

-- what a type byte leads to, where `aggregate` is what an aggregate leads to
abbrev pub choice_of : (Kind → Choice Tree) → TypeByte → ℕ → Choice Tree
choice_of aggregate mark.Simple c = Go (text_at (line_tree false))
choice_of aggregate mark.Error c = Go (text_at (line_tree true))
choice_of aggregate mark.Number c = Go whole_number_at
choice_of aggregate mark.Blob c = Go (blob_at (blob_tree false) blob_rule)
choice_of aggregate mark.Verbatim c = Go verbatim_at
choice_of aggregate mark.BlobError c = Go (blob_at (blob_tree true) blob_error_rule)
choice_of aggregate mark.Truth c = Go truth_at
choice_of aggregate mark.Null c = Go (ending null)
choice_of aggregate (mark.Aggregate kind) c = aggregate kind
choice_of aggregate mark.NotServed c = Stop (fault.NotServed c)
choice_of aggregate mark.Wrong c = Stop BadByte

abbrev pub too_deep : Kind → Choice Tree
too_deep kind = Stop TooDeep

abbrev pub deeper : Bool → (List ℕ → Parsed Tree) → Kind → Choice Tree
deeper top read kind = cond (may_stand top kind) (Go (aggregate_at kind read)) (Stop BadByte)

-- A value in which aggregates stand at most d deep; the whole has eight.
unfoldable pub value_in : ℕ → List ℕ → Parsed Tree
value_in zero = first (λ c. choice_of too_deep (type_byte_of c) c)
value_in (suc d) =
    first (λ c. choice_of (deeper (nat_eq (suc d) 8) (value_in d)) (type_byte_of c) c)

unfoldable pub value_at : List ℕ → Parsed Tree
value_at b = capped whole_limit b (value_in 8 b)

-- an aggregate that opens, where there is room
abbrev pub opening : ℕ → TypeByte → Option Kind
opening zero m = None
opening (suc d) (mark.Aggregate kind) = Some kind
opening (suc d) m = None
