-- A text is a line of a script exactly where it is the line of what is asked, and that is valid.
use Rattle.std.proofs.lemmas.Bool.Decides.{nat_tests}
use Rattle.std.proofs.Common.{◌≡◌, ◌<◌, ◌==◌, ℕ, List, [], ◌∷◌, Bool, true, false, cond, not}
use Rattle.std.proofs.Common.{nat_le, codes, refl, ap, ◌∙◌, arith, length, map}
use Rattle.std.specs.declared.option.Option.{Option}
use Rattle.std.specs.declared.option.Option.TheVariants.{None, Some}
use Rattle.std.specs.Fmt.{decimal}
use Rattle.std.specs.List.{list_all, slice_split, join_with_byte}
use Rattle.std.specs.Option.{option_map, option_and_then}
use Rattle.std.specs.Str.{bytes_eq}
use Rattle.std.proofs.lemmas.Bool.{lt-ltb, leb-true}
use Rattle.std.proofs.lemmas.List.Splits.{join_with_byte-slice_split}
use Rattle.command_words.specs.Control.{is_control}
use Rattle.command_words.specs.Printed.{printed}
use Rattle.command_words.specs.Queries.{query_of}
use Rattle.script_text.specs.declared.script_line.ScriptCall.{ScriptCall}
use Rattle.script_text.specs.declared.script_line.ScriptCall.TheVariants.{Ask, Do}
use Rattle.script_text.specs.declared.script_line.ScriptLine.{ScriptLine}
use Rattle.script_text.specs.Words.{is_within, number_within, words_of}
use Rattle.script_text.specs.Events.{asked_of, request_of, longest_line}
use Rattle.script_text.specs.Grammar.{are_bytes, is_request}
use Rattle.script_text.specs.Scripts.{most_threads, unless_control, sent_of, script_call}
use Rattle.script_text.specs.Scripts.{script_line_of_parts, script_line_of, is_sent, is_call, said}
use Rattle.script_text.specs.Scripts.{is_script_line, IsTextOf, ScriptLinesComeBack, IsValidCall}
use Rattle.script_text.specs.Scripts.{IsValidLine, ScriptLinesAreValid}
use Rattle.script_text.proofs.Numbers.{both_true, both, number_within-decimal}
use Rattle.script_text.proofs.Numbers.{decimal-number_within, small_within}
use Rattle.script_text.proofs.Choices.{none_is_some, same_text, by_test, named, when}
use Rattle.script_text.proofs.Parts.{is_unbroken, parted-bytes, all_printed-unbroken}
use Rattle.script_text.proofs.Parts.{decimal-unbroken}
use Rattle.script_text.proofs.Fields.{words_of-printed, printed-words_of, WordsComeFrom}
use Rattle.script_text.proofs.Fields.{option_map-some}
use Rattle.script_text.proofs.ClientFields.{there_then}
use Rattle.script_text.proofs.Asking.{is_query-read, query_bytes}
use Rattle.script_text.proofs.Grammar.{requested, parted_again}
use Rattle.script_text.proofs.Valid.{of_asked}

-- ---- from the text to what it asks
not_control : (t : Bool) (x y : List (List ℕ)) → cond t None (Some x) ≡ Some y
    → (not t ≡ true) × (x ≡ y)
not_control t e y h = grind arith

request_back : (rest words : List (List ℕ)) → list_all are_bytes rest ≡ true
    → request_of rest ≡ Some words → (map printed words ≡ rest) × (is_request words ≡ true)
request_back [] words b h = cc
request_back (text ∷ texts) words b h =
    let back : WordsComeFrom (text ∷ texts) words = printed-words_of (text ∷ texts) words h b in
    (back.printed_as, both _ _ (lt-ltb _ _ (omega (arith, back.as_many))) back.of_bytes)

-- the parts behind the thread's number are those of the call
abbrev IsSaid : ScriptCall → List ℕ → List (List ℕ) → Type 0
IsSaid (Ask query) kind rest =
    (words : List (List ℕ)) × ((query_of words ≡ Some query) × (list_all are_bytes words ≡ true)
    × (codes "ask" ≡ kind) × (map printed words ≡ rest))
IsSaid (Do words) kind rest = (codes "do" ≡ kind) × (map printed words ≡ rest)

record CallBack (kind : List ℕ) (rest : List (List ℕ)) (call : ScriptCall) : Type 0 where
  is_said : IsSaid call kind rest
  valid : is_call call ≡ true

ask_back : (kind : List ℕ) (rest : List (List ℕ)) (call : ScriptCall)
    → bytes_eq kind (codes "ask") ≡ true → list_all are_bytes rest ≡ true
    → option_map Ask (asked_of rest) ≡ Some call → CallBack kind rest call
ask_back kind rest call k b h =
    let found = option_map-some Ask (asked_of rest) call h in
    let query = found.0 in
    let read = there_then query_of (words_of rest) query found.1.0 in
    let words = read.0 in
    let back : WordsComeFrom rest words = printed-words_of rest words read.1.0 b in
    grind (arith, same_text, codes, both, is_query-read, query_bytes)

do_back : (kind : List ℕ) (rest : List (List ℕ)) (call : ScriptCall)
    → bytes_eq kind (codes "do") ≡ true → list_all are_bytes rest ≡ true
    → option_map Do (sent_of rest) ≡ Some call → CallBack kind rest call
do_back kind rest call k b h =
    let found = option_map-some Do (sent_of rest) call h in
    let words = found.0 in
    let read = there_then unless_control (request_of rest) words found.1.0 in
    let kept = not_control (is_control read.0) read.0 words read.1.1 in
    let asked : request_of rest ≡ Some words = read.1.0 ∙ ap Some kept.1 in
    let back = request_back rest words b asked in
    grind (arith, same_text, codes, both)

call_back : (kind : List ℕ) (rest : List (List ℕ)) (call : ScriptCall)
    → list_all are_bytes rest ≡ true → script_call kind rest ≡ Some call
    → CallBack kind rest call
unfolding script_call
call_back kind rest call b =
    let R = CallBack kind rest call in
    by_test R call (bytes_eq kind (codes "ask")) (option_map Ask (asked_of rest)) _
    (λ k h. ask_back kind rest call k b h) (
    by_test R call (bytes_eq kind (codes "do")) (option_map Do (sent_of rest)) None
    (λ k h. do_back kind rest call k b h) (none_is_some R call))

record Both (thread : Option ℕ) (call : Option ScriptCall) (line : ScriptLine) : Type 0 where
  thread_is : thread ≡ Some line.thread
  call_is : call ≡ Some line.call

-- the text is the line's, where its parts are
text_is : (call : ScriptCall) (thread : ℕ) (kind : List ℕ) (rest : List (List ℕ)) (text : List ℕ)
    → IsSaid call kind rest → join_with_byte 32 (decimal thread ∷ kind ∷ rest) ≡ text
    → IsTextOf thread call text
text_is call thread kind rest text s j = grind arith

parts_back : (parts : List (List ℕ)) (line : ScriptLine) (text : List ℕ)
    → list_all are_bytes parts ≡ true → join_with_byte 32 parts ≡ text
    → script_line_of_parts parts ≡ Some line
    → (is_script_line line ≡ true) × IsTextOf line.thread line.call text
unfolding script_line_of_parts
parts_back [] line text b j h = cc
parts_back (thread ∷ []) line text b j h = cc
parts_back (thread ∷ kind ∷ rest) line text b j h =
    let there : Both (number_within 1 most_threads thread) (script_call kind rest) line =
    grind arith in
    let number = decimal-number_within 1 most_threads line.thread thread there.thread_is in
    let bytes = (both_true _ _ (both_true _ _ b).1).1 in
    let back : CallBack kind rest line.call =
    call_back kind rest line.call bytes there.call_is in grind (arith, both, text_is)

-- ---- from what is asked to its text
abbrev There : ℕ → ScriptCall → List (List ℕ) → Type 0
There thread call parts =
    script_line_of_parts parts ≡ Some (record { thread = thread; call = call })

with_thread : (thread : ℕ) (kind : List ℕ) (rest : List (List ℕ)) (call : ScriptCall)
    → is_within 1 most_threads thread ≡ true → script_call kind rest ≡ Some call
    → There thread call (decimal thread ∷ kind ∷ rest)
unfolding script_line_of_parts
with_thread thread kind rest call w h = grind (arith, number_within-decimal, small_within)

asked_there : (words query : List (List ℕ)) → query_of words ≡ Some query
    → list_all are_bytes words ≡ true
    → script_call (codes "ask") (map printed words) ≡ Some (Ask query)
unfolding script_call
asked_there words query q b =
    ap (option_map Ask) (ap (option_and_then query_of) (words_of-printed words b) ∙ q)

allowed : (t : Bool) (x : List (List ℕ)) → not t ≡ true → cond t None (Some x) ≡ Some x
allowed t e h = grind arith

sent_there : (words : List (List ℕ)) → is_sent words ≡ true
    → script_call (codes "do") (map printed words) ≡ Some (Do words)
unfolding script_call
sent_there words h = grind (arith, both_true, requested, allowed)

short_there : (line : ScriptLine) (parts : List (List ℕ)) (text : List ℕ)
    → nat_le (length text) longest_line ≡ true → join_with_byte 32 parts ≡ text
    → list_all is_unbroken parts ≡ true → 0 < length parts
    → script_line_of_parts parts ≡ Some line → script_line_of text ≡ Some line
unfolding script_line_of
short_there line parts text short joined u l there = grind (arith, parted_again, named)

said-unbroken : (thread : ℕ) (kind : List ℕ) (words : List (List ℕ))
    → is_within 1 most_threads thread ≡ true → is_unbroken kind ≡ true
    → list_all is_unbroken (said thread kind words) ≡ true
said-unbroken thread kind words w k =
    grind (arith, both, decimal-unbroken, small_within, all_printed-unbroken)

call_there : (thread : ℕ) (call : ScriptCall) (text : List ℕ)
    → is_within 1 most_threads thread ≡ true → is_call call ≡ true
    → nat_le (length text) longest_line ≡ true → IsTextOf thread call text
    → script_line_of text ≡ Some (record { thread = thread; call = call })
call_there thread (Ask query) text w v short t =
    short_there (record { thread = thread; call = Ask query }) (said thread (codes "ask") t.0)
    text short t.1.2 (said-unbroken thread (codes "ask") t.0 w refl) (omega arith)
    (grind (arith, with_thread, codes, asked_there))
call_there thread (Do words) text w v short t =
    short_there (record { thread = thread; call = Do words }) (said thread (codes "do") words)
    text short t (said-unbroken thread (codes "do") words w refl) (omega arith)
    (with_thread thread (codes "do") (map printed words) (Do words) w (sent_there words v))

-- ---- the law
text_back : (line : ScriptLine) (text : List ℕ) → are_bytes text ≡ true
    → script_line_of text ≡ Some line
    → (is_script_line line ≡ true) × (nat_le (length text) longest_line ≡ true)
    × IsTextOf line.thread line.call text
unfolding script_line_of
text_back line text b h =
    let short = when _ _ line h in
    let back = parts_back (slice_split (λ b. b == 32) text) line text (parted-bytes text b)
    (join_with_byte-slice_split 32 text) short.1 in
    (back.0, short.0, back.1)

pub script_lines_come_back : ScriptLinesComeBack
script_lines_come_back line text b = (
  text_back line text b,
  λ h. let valid = both_true _ _ h.0 in
      call_there line.thread line.call text valid.0 valid.1 h.1 h.2,
)

not_true : (t : Bool) → not t ≡ true → t ≡ false
not_true t h = grind arith

of_call : (kind : List ℕ) (rest : List (List ℕ)) (call : ScriptCall)
    → script_call kind rest ≡ Some call → IsValidCall call
unfolding script_call
of_call kind rest call =
    by_test (IsValidCall call) call (bytes_eq kind (codes "ask")) (option_map Ask (asked_of rest)) _
    (grind (arith, option_map-some, of_asked)) (
    grind (arith, there_then, not_control, not_true, nat_tests))

of_line : (parts : List (List ℕ)) (line : ScriptLine) → script_line_of_parts parts ≡ Some line
    → IsValidLine line
unfolding script_line_of_parts
of_line [] line h = cc
of_line (thread ∷ []) line h = cc
of_line (thread ∷ kind ∷ rest) line h =
    let there : Both (number_within 1 most_threads thread) (script_call kind rest) line =
    grind arith in
    let number = decimal-number_within 1 most_threads line.thread thread there.thread_is in
    grind (arith, of_call, leb-true, both_true)

pub script_lines_are_valid : ScriptLinesAreValid
unfolding script_line_of
script_lines_are_valid text line h = grind (arith, of_line, when)
