-- The bytes of a key, one after the other.
use Rattle.std.proofs.Common.{◌≡◌, ℕ, ◌+◌, ◌-◌, ◌<◌, ◌%◌, ◌/◌, suc, List, [], ◌∷◌, ◌++◌, refl, sym}
use Rattle.std.proofs.Common.{ap, ◌∙◌, arith, append-nil, append_assoc}
use Rattle.std.specs.Prelude.{codes, Option, Some, None}
use Rattle.command_words.specs.Queries.{query_of}
use Rattle.command_words.specs.StringWords.{string_reading}
use Rattle.command_words.specs.Words.{reading}
use Rattle.script_bench.specs.Asks.{digits, key_of, query_for}

pub key_begins : (bytes : List ℕ) (number : ℕ) → bytes ≡ codes "key:"
    → key_of number ≡ bytes ++ digits 12 number
unfolding key_of
key_begins bytes number is = ap (λ b. b ++ digits 12 number) (sym is)

pub key_goes_on : (number digit rest i : ℕ) (bytes more : List ℕ) → i < 12
    → key_of number ≡ bytes ++ digits (12 - i) rest → digit ≡ 48 + rest % 10
    → more ≡ bytes ++ digit ∷ [] → key_of number ≡ more ++ digits (12 - (i + 1)) (rest / 10)
key_goes_on number digit rest i bytes more lt so_far digit_is more_is =
    let later = digits (12 - (i + 1)) (rest / 10) in
    let one_less : 12 - i ≡ suc (12 - (i + 1)) = omega arith in
    so_far ∙ ap (λ n. bytes ++ digits n rest) one_less
    ∙ ap (λ d. bytes ++ d ∷ later) (sym digit_is)
    ∙ sym (append_assoc bytes (digit ∷ []) later) ∙ ap (λ b. b ++ later) (sym more_is)

pub key_ends : (number rest i : ℕ) (bytes : List ℕ) → i ≡ 12
    → key_of number ≡ bytes ++ digits (12 - i) rest → bytes ≡ key_of number
key_ends number rest i bytes all so_far =
    sym (so_far ∙ ap (λ n. bytes ++ digits (12 - n) rest) all ∙ append-nil bytes)

pub query_is : (key : List ℕ) → query_of (codes "GET" ∷ key ∷ []) ≡ Some (codes "GET" ∷ key ∷ [])
unfolding reading string_reading
query_is key = refl

pub words_are : (none one two : List (List ℕ)) (name key : List ℕ) (number : ℕ) → none ≡ []
    → one ≡ none ++ name ∷ [] → two ≡ one ++ key ∷ [] → name ≡ codes "GET" → key ≡ key_of number
    → two ≡ query_for number
words_are none one two name key number none_is one_is two_is name_is key_is =
    two_is ∙ ap (λ w. w ++ key ∷ []) (one_is ∙ ap (λ w. w ++ name ∷ []) none_is)
    ∙ ap (λ w. w ∷ key ∷ []) name_is ∙ ap (λ w. codes "GET" ∷ w ∷ []) key_is

pub reads_as : (o : Option (List (List ℕ))) (words : List (List ℕ)) (number : ℕ)
    → o ≡ query_of words → words ≡ query_for number → o ≡ Some (query_for number)
reads_as o words number read is = read ∙ ap query_of is ∙ query_is (key_of number)

pub reads_some : (o : Option (List (List ℕ))) (query : List (List ℕ)) → o ≡ Some query → o ≡ None
    → ⊥
reads_some o query is none = let no : Some query ≡ None = sym is ∙ none in cc
