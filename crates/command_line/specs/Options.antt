-- Which words are the options of a command, and what they say.
use Rattle.std.specs.Prelude.{ℕ, ◌^◌, ◌&&◌, ◌||◌, ◌==◌, Bool, true, false, not}
use Rattle.std.specs.Prelude.{List, [], ◌∷◌, ◌++◌, codes, find, if◌then◌else◌, nat_lt, nat_le}
use Rattle.std.specs.Prelude.{option_and_then, option_map, is_some}
use Rattle.std.specs.declared.option.Option.{Option}
use Rattle.std.specs.declared.option.Option.TheVariants.{None, Some}
use Rattle.std.specs.Fmt.{decimal}
use Rattle.std.specs.List.{list_any, list_all, before_first, after_first}
use Rattle.std.specs.Str.{bytes_eq}
use Rattle.std.specs.Str.Parse.{digits_value}

abbrev pub Word : Type 0
Word = List ℕ

-- an option of a command, which takes a value and may be required, or a flag, which takes none
pub data Known : Type 0 where
  valued : Word → Bool → Known
  flag : Word → Known

abbrev pub name_of : Known → Word
name_of (valued name required) = name
name_of (flag name) = name

-- the name is that of a flag
abbrev pub is_flag : Known → Bool
is_flag (valued name required) = false
is_flag (flag name) = true

abbrev pub flag_named : Word → List Known → Bool
flag_named name known = list_any (λ k. is_flag k && bytes_eq (name_of k) name) known

abbrev pub is_required : Known → Bool
is_required (valued name required) = required
is_required (flag name) = false

-- the options that were written, with their values, in order; that of a flag is `true`
abbrev pub Written : Type 0
Written = List (Word × Word)

abbrev pub known_as : Word → List Known → Option Known
known_as name known = find (λ k. bytes_eq (name_of k) name) known

abbrev pub has : Word → Written → Bool
has name seen = list_any (λ o. bytes_eq o.0 name) seen

abbrev pub value_of : Word → Written → Option Word
value_of name seen = option_map (λ o. o.1) (find (λ o. bytes_eq o.0 name) seen)

-- ---- one word

abbrev pub has_equals : Word → Bool
has_equals text = list_any (λ b. b == 61) text

-- what comes before the first `=`, and what comes after it if there is one
abbrev pub name_and_value : Word → Word × Option Word
name_and_value text = (
  before_first (λ b. b == 61) text,
  if has_equals text then Some (after_first (λ b. b == 61) text) else None,
)

abbrev pub after_dashes : Word → Option (Word × Option Word)
after_dashes [] = None
after_dashes (b ∷ text) = Some (name_and_value (b ∷ text))

abbrev pub after_dash : Word → Option (Word × Option Word)
after_dash [] = None
after_dash (b ∷ text) = if b == 45 then after_dashes text else None

-- `--name` or `--name=value`
abbrev pub option_of : Word → Option (Word × Option Word)
option_of [] = None
option_of (b ∷ text) = if b == 45 then after_dash text else None

-- the word begins with `-`
abbrev pub has_dash : Word → Bool
has_dash [] = false
has_dash (b ∷ text) = b == 45

-- the word begins with `-`, and is no option: `-`, `--`, `-x`
abbrev pub is_stray : Word → Bool
is_stray word = has_dash word && not (is_some (option_of word))

-- ---- the words

-- an option is written at most once
abbrev pub one_more : Word → Word → Written → (Written → Option Word → Option Written)
    → Option Written
one_more name value seen next =
    if has name seen then None else next (seen ++ (name, value) ∷ []) None

-- an option and the value in its word: a flag has none, and that of another may be the next word
abbrev pub begun : Option Known → Option Word → Written → (Written → Option Word → Option Written)
    → Option Written
begun None value seen next = None
begun (Some (flag name)) None seen next = one_more name (codes "true") seen next
begun (Some (flag name)) (Some value) seen next = None
begun (Some (valued name required)) None seen next = next seen (Some name)
begun (Some (valued name required)) (Some value) seen next = one_more name value seen next

abbrev pub at_word : List Known → Option (Word × Option Word) → Written
    → (Written → Option Word → Option Written) → Option Written
at_word known None seen next = None
at_word known (Some p) seen next = begun (known_as p.0 known) p.1 seen next

-- The options of the words, after those that were seen. Where an option waits for its value, the
-- value is the next word, which must not begin with `-`.
unfoldable pub options_from : List Known → List Word → Written → Option Word → Option Written
options_from known [] seen None = Some seen
options_from known [] seen (Some name) = None
options_from known (word ∷ words) seen None =
    at_word known (option_of word) seen (options_from known words)
options_from known (word ∷ words) seen (Some name) =
    if has_dash word then None else one_more name word seen (options_from known words)

abbrev pub has_required : List Known → Written → Bool
has_required known seen = list_all (λ k. not (is_required k) || has (name_of k) seen) known

abbrev pub if_all_there : List Known → Written → Option Written
if_all_there known seen = if has_required known seen then Some seen else None

-- the options that the words write, each at most once, and the required ones among them
abbrev pub options_of : List Known → List Word → Option Written
options_of known words =
    if list_any is_stray words then None
    else option_and_then (if_all_there known) (options_from known words [] None)

-- ---- what a command makes of its options

abbrev pub is_true : Option Word → Bool
is_true None = false
is_true (Some text) = bytes_eq text (codes "true")

-- the value that was found of an option; a flag has none
abbrev pub option_value : List Known → (Word → Option Word) → Word → Option Word
option_value known found name = if flag_named name known then None else found name

-- Settings from the value of each option, and whether each flag was written.
abbrev pub Reading : Type 0 → Type 0
Reading S = (Word → Option Word) → (Word → Bool) → Option S

-- what the words settle, by what a command makes of its options
abbrev pub settings_by : {S : Type 0} → List Known → Reading S → List Word → Option S
settings_by known reading words =
    option_and_then
    (λ seen. reading (option_value known (λ n. value_of n seen)) (λ n. is_true (value_of n seen)))
    (options_of known words)

-- ---- numbers

-- the number of at most 64 bits whose decimal form the text is
unfoldable pub number_of : Word → Option ℕ
number_of text =
    let n = digits_value 10 text in
    if nat_lt n (2 ^ 64) && bytes_eq (decimal n) text then Some n else None

abbrev pub if_between : ℕ → ℕ → ℕ → Option ℕ
if_between low high n = if nat_le low n && nat_le n high then Some n else None

-- the value of an option that is a number, or its default where there is one
abbrev pub number_in : ℕ → ℕ → Option ℕ → Option Word → Option ℕ
number_in low high default None = default
number_in low high default (Some text) = option_and_then (if_between low high) (number_of text)
