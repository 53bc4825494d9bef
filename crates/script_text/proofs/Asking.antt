-- The name of a query in another case makes the same query, and a line as long as its line.
use Rattle.std.proofs.Common.{◌≡◌, ◌<◌, ◌≤◌, ℕ, List, [], ◌∷◌, true, false, refl, ap}
use Rattle.std.proofs.Common.{◌∙◌, arith, length, codes}
use Rattle.std.specs.declared.option.Option.TheVariants.{Some}
use Rattle.std.specs.Char.{to_ascii_uppercase}
use Rattle.std.specs.List.{list_all, join_with_byte}
use Rattle.std.specs.Option.{option_map_or}
use Rattle.std.specs.Str.{str_to_ascii_lowercase, str_to_ascii_uppercase}
use Rattle.std.proofs.lemmas.Bool.{ltb-true, lt-ltb}
use Rattle.std.proofs.lemmas.Bool.Decides.{nat_tests}
use Rattle.std.proofs.lemmas.List.{length-append}
use Rattle.std.proofs.lemmas.Option.{cond_some}
use Rattle.std.proofs.lemmas.Slice.Eq.{bytes_eq-Decides, slice_eq-Decides}
use Rattle.std.proofs.lemmas.Str.Ascii.{lowercase-uppercase, uppercase-uppercase}
use Rattle.command_words.specs.Printed.{printed_byte, printed_bytes}
use Rattle.command_words.specs.Queries.{query_of, reads_as_cacheable, same_query, with_upper_name}
use Rattle.command_words.specs.Words.{reading}
use Rattle.script_text.specs.Grammar.{are_bytes, asking, is_query}
use Rattle.script_text.proofs.Numbers.{both_true, both}

-- ---- the same query
lower_of_upper : (name : List ℕ)
    → str_to_ascii_lowercase (str_to_ascii_uppercase name) ≡ str_to_ascii_lowercase name
lower_of_upper [] = refl
lower_of_upper (b ∷ name) = λ i. lowercase-uppercase b i ∷ lower_of_upper name i

upper_of_upper : (name : List ℕ)
    → str_to_ascii_uppercase (str_to_ascii_uppercase name) ≡ str_to_ascii_uppercase name
upper_of_upper [] = refl
upper_of_upper (b ∷ name) = λ i. uppercase-uppercase b i ∷ upper_of_upper name i

pub query_again : (words : List (List ℕ)) → reads_as_cacheable (reading words) ≡ true
    → query_of (with_upper_name words) ≡ Some (with_upper_name words)
unfolding reading
query_again words h = grind (arith, lower_of_upper, upper_of_upper, nat_tests)

pub named_in_upper : (words query : List (List ℕ)) → query_of words ≡ Some query
    → with_upper_name words ≡ query
named_in_upper words query h = (cond_some _ _ _ h).1

query_stands : (words query : List (List ℕ)) → query_of words ≡ Some query
    → query_of query ≡ Some query
query_stands words query h = grind (arith, cond_some, query_again, nat_tests)

same_as_itself : (words : List (List ℕ)) → same_query words words ≡ true
same_as_itself words = (slice_eq-Decides bytes_eq-Decides words words _ refl).1 refl

pub is_query-read : (words query : List (List ℕ)) → query_of words ≡ Some query
    → is_query query ≡ true
is_query-read words query h =
    ap (λ o. option_map_or (same_query query) o false) (query_stands words query h)
    ∙ same_as_itself query

pub query_of-is_query : (query : List (List ℕ)) → is_query query ≡ true
    → query_of query ≡ Some query
query_of-is_query query h = grind (arith, slice_eq-Decides, bytes_eq-Decides, nat_tests)

-- ---- of bytes
upper_below : (b : ℕ) → to_ascii_uppercase b ≤ b
upper_below b = grind (arith, nat_tests)

upper_bytes : (name : List ℕ) → are_bytes name ≡ true
    → are_bytes (str_to_ascii_uppercase name) ≡ true
upper_bytes [] h = refl
upper_bytes (b ∷ name) h =
    let small : b < 256 = ltb-true _ _ (both_true _ _ h).0 in
    both _ _ (lt-ltb _ _ (omega (arith, upper_below b, small)))
    (upper_bytes name (both_true _ _ h).1)

pub query_bytes : (words query : List (List ℕ)) → query_of words ≡ Some query
    → list_all are_bytes words ≡ true → list_all are_bytes query ≡ true
query_bytes words query h b = grind (arith, named_in_upper, nat_tests, both, upper_bytes, both_true)

-- ---- as long
upper_byte-length : (b : ℕ) → length (printed_byte (to_ascii_uppercase b))
    ≡ length (printed_byte b)
upper_byte-length b = grind (arith, nat_tests)

upper_bytes-length : (name : List ℕ) → length (printed_bytes (str_to_ascii_uppercase name))
    ≡ length (printed_bytes name)
unfolding printed_bytes
upper_bytes-length [] = refl
upper_bytes-length (b ∷ name) =
    grind (arith, length-append, upper_byte-length, upper_bytes-length name)

pub query-length : (client : List ℕ) (words query : List (List ℕ)) → query_of words ≡ Some query
    → length (join_with_byte 32 (asking client query))
    ≡ length (join_with_byte 32 (asking client words))
query-length client words query h = grind (arith, codes, upper_bytes-length, length-append)
