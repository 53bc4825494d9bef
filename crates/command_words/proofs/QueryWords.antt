-- The words of a query are those of the same query.
use Rattle.std.proofs.Common.{◌≡◌, ◌<◌, refl, arith, ℕ, List, [], ◌∷◌, true, Some}
use Rattle.std.proofs.Common.{length, slice_index_or}
use Rattle.std.specs.Str.{str_to_ascii_lowercase, str_to_ascii_uppercase}
use Rattle.std.proofs.lemmas.Str.Ascii.{lowercase-uppercase, uppercase-uppercase}
use Rattle.command_words.specs.Words.{reading}
use Rattle.command_words.specs.Queries.{reads_as_cacheable, with_upper_name, query_of, key_of}
use Rattle.command_words.proofs.Readings.{no_query}

lower_of_upper : (name : List ℕ) →
    str_to_ascii_lowercase (str_to_ascii_uppercase name) ≡ str_to_ascii_lowercase name
lower_of_upper [] = refl
lower_of_upper (c ∷ cs) = λ i. lowercase-uppercase c i ∷ lower_of_upper cs i

upper_of_upper : (name : List ℕ) →
    str_to_ascii_uppercase (str_to_ascii_uppercase name) ≡ str_to_ascii_uppercase name
upper_of_upper [] = refl
upper_of_upper (c ∷ cs) = λ i. uppercase-uppercase c i ∷ upper_of_upper cs i

pub query_again : (words : List (List ℕ)) → reads_as_cacheable (reading words) ≡ true →
    query_of (with_upper_name words) ≡ Some (with_upper_name words)
unfolding reading
query_again words cacheable = grind (arith, lower_of_upper, upper_of_upper)

not_a_query : (name : List ℕ) (vs : List (List ℕ)) → query_of (name ∷ []) ≡ Some vs → ⊥
unfolding reading
not_a_query name vs is_query = grind (arith, no_query)

-- a query has a key after its name
pub has_key : (ws : List (List ℕ)) → query_of ws ≡ Some ws → 1 < length ws
unfolding reading
has_key [] is_query = cc
has_key (name ∷ []) is_query = absurd (not_a_query name _ is_query)
has_key (name ∷ key ∷ words) is_query = omega arith

pub key_at : (ws : List (List ℕ)) (x : List ℕ) → query_of ws ≡ Some ws →
    slice_index_or ws 1 x ≡ key_of ws
unfolding reading
key_at ws e is_query = grind (arith, not_a_query)
