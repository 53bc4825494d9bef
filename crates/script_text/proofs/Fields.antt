-- The words and amounts of a line come back from its parts, and its parts from them.
use Rattle.std.proofs.Common.{◌≡◌, ◌<◌, ◌==◌, ℕ, List, [], ◌∷◌, ◌++◌, Bool, true, cond, refl, ap}
use Rattle.std.proofs.Common.{◌∙◌, subst, arith, length, map}
use Rattle.std.specs.declared.option.Option.{Option}
use Rattle.std.specs.declared.option.Option.TheVariants.{None, Some}
use Rattle.std.specs.List.{list_all}
use Rattle.std.specs.Option.{option_map}
use Rattle.std.proofs.lemmas.Bool.{lt-ltb}
use Rattle.std.proofs.lemmas.Bool.Decides.{nat_tests}
use Rattle.command_words.specs.Printed.{printed}
use Rattle.script_text.specs.Words.{unescaped, after_backslash, after_x, after_digit, escaped}
use Rattle.script_text.specs.Words.{hex_value, word_of, words_of, first_and_rest, number_within}
use Rattle.script_text.specs.Words.{greatest}
use Rattle.script_text.specs.Events.{amount_of}
use Rattle.script_text.specs.Grammar.{are_bytes, amount_parts, is_amount}
use Rattle.script_text.proofs.Numbers.{both_true, both, number_within-decimal}
use Rattle.script_text.proofs.Numbers.{decimal-number_within, small_within}
use Rattle.script_text.proofs.Spelling.{word_of-printed, printed-word_of, unescaped-word_of}

-- ---- a word is of bytes where its text is
hex_value-small : (b : ℕ) → hex_value b < 16
hex_value-small b = grind (arith, nat_tests)

cond-bytes : (t : Bool) (xs ys : List ℕ) → are_bytes xs ≡ true → are_bytes ys ≡ true
    → are_bytes (cond t xs ys) ≡ true
cond-bytes t xs ys h k = grind (arith, nat_tests)

joined-bytes : (xs ys : List ℕ) → are_bytes xs ≡ true → are_bytes ys ≡ true
    → are_bytes (xs ++ ys) ≡ true
joined-bytes [] ys h k = k
joined-bytes (x ∷ xs) ys h k =
    both _ _ (both_true _ _ h).0 (joined-bytes xs ys (both_true _ _ h).1 k)

mutual
  pub unescaped-bytes : (text : List ℕ) → are_bytes text ≡ true → are_bytes (unescaped text) ≡ true
  unescaped-bytes [] h = refl
  unescaped-bytes (b ∷ text) h =
      cond-bytes (b == 92) (after_backslash text) (b ∷ unescaped text)
      (after_backslash-bytes text (both_true _ _ h).1)
      (both _ _ (both_true _ _ h).0 (unescaped-bytes text (both_true _ _ h).1))

  after_backslash-bytes : (text : List ℕ) → are_bytes text ≡ true
      → are_bytes (after_backslash text) ≡ true
  after_backslash-bytes [] h = refl
  after_backslash-bytes (b ∷ text) h = cond-bytes (b == 120) (after_x text) (escaped b
      ++ unescaped text) (after_x-bytes text (both_true _ _ h).1)
      (joined-bytes (escaped b) (unescaped text) (grind (arith, cond-bytes, nat_tests))
      (unescaped-bytes text (both_true _ _ h).1))

  after_x-bytes : (text : List ℕ) → are_bytes text ≡ true → are_bytes (after_x text) ≡ true
  after_x-bytes [] h = refl
  after_x-bytes (high ∷ text) h = after_digit-bytes text high (both_true _ _ h).1

  after_digit-bytes : (text : List ℕ) (high : ℕ) → are_bytes text ≡ true
      → are_bytes (after_digit text high) ≡ true
  after_digit-bytes [] high h = refl
  after_digit-bytes (low ∷ text) high h =
      both _ _ (lt-ltb _ _ (omega (arith, hex_value-small high, hex_value-small low)))
      (unescaped-bytes text (both_true _ _ h).1)

pub word-bytes : (text word : List ℕ) → word_of text ≡ Some word → are_bytes text ≡ true
    → are_bytes word ≡ true
word-bytes text word h k = subst (λ w. are_bytes w
    ≡ true) (unescaped-word_of word text h) (unescaped-bytes text k)

-- ---- words
pub words_of-printed : (words : List (List ℕ)) → list_all are_bytes words ≡ true
    → words_of (map printed words) ≡ Some words
words_of-printed [] h = refl
words_of-printed (word ∷ words) h =
    ap (λ o. first_and_rest o (words_of (map printed words)))
    (word_of-printed word (printed word) (both_true _ _ h).0 refl)
    ∙ ap (first_and_rest (Some word)) (words_of-printed words (both_true _ _ h).1)

pub split_words : (o : Option (List ℕ)) (os : Option (List (List ℕ))) (words : List (List ℕ))
    → first_and_rest o os ≡ Some words
    → (word : List ℕ) × ((rest : List (List ℕ))
    × ((o ≡ Some word) × (os ≡ Some rest) × (word ∷ rest ≡ words)))
split_words o os words h = grind (arith, nat_tests)

pub record WordsComeFrom (texts words : List (List ℕ)) : Type 0 where
  pub printed_as : map printed words ≡ texts
  pub of_bytes : list_all are_bytes words ≡ true
  pub as_many : length words ≡ length texts

pub printed-words_of : (texts words : List (List ℕ)) → words_of texts ≡ Some words
    → list_all are_bytes texts ≡ true → WordsComeFrom texts words
printed-words_of [] words h k = grind arith
printed-words_of (text ∷ texts) words h k =
    let parts = split_words (word_of text) (words_of texts) words h in
    let word = parts.0 in
    let rest = parts.1.0 in
    let first = parts.1.1.0 in
    let more : WordsComeFrom texts rest =
    printed-words_of texts rest parts.1.1.1 (both_true _ _ k).1 in
    grind (arith, printed-word_of, both, word-bytes, both_true)

-- ---- amounts
pub amount_of-parts : (amount : Option ℕ) → is_amount amount ≡ true
    → amount_of (amount_parts amount) ≡ Some amount
amount_of-parts None h = refl
amount_of-parts (Some count) h = grind (arith, number_within-decimal, small_within)

pub option_map-some : {A B : Type 0} (f : A → B) (o : Option A) (y : B) → option_map f o ≡ Some y
    → (x : A) × ((o ≡ Some x) × (f x ≡ y))
option_map-some f o y h = grind (arith, nat_tests)

pub parts-amount_of : (texts : List (List ℕ)) (amount : Option ℕ) → amount_of texts ≡ Some amount
    → (amount_parts amount ≡ texts) × (is_amount amount ≡ true)
parts-amount_of [] amount h = grind arith
parts-amount_of (text ∷ []) amount h =
    let found = option_map-some Some (number_within 1 greatest text) amount h in
    let back = decimal-number_within 1 greatest found.0 text found.1.0 in
    grind arith
parts-amount_of (text ∷ next ∷ texts) amount h = cc
