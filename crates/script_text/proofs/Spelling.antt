-- What is printed of a word is read as that word.
use Rattle.std.proofs.Common.{◌≡◌, ◌<◌, ◌/◌, ◌%◌, ◌==◌, ℕ, List, [], ◌∷◌, ◌++◌, Bool}
use Rattle.std.proofs.Common.{true, false, cond, refl, sym, ap, ◌∙◌, subst, arith, ◌⊎◌, inl, inr}
use Rattle.std.specs.declared.option.Option.TheVariants.{None, Some}
use Rattle.std.specs.List.{list_all}
use Rattle.std.proofs.lemmas.Bool.{ltb-true, eqb-true}
use Rattle.std.proofs.lemmas.Bool.Decides.{nat_tests}
use Rattle.std.proofs.lemmas.Slice.Eq.{bytes_eq-Decides}
use Rattle.command_words.specs.Printed.{printed, printed_byte, printed_bytes, hex_digit}
use Rattle.script_text.specs.Words.{unescaped, escaped, word_of, is_byte, WordsComeBack}
use Rattle.script_text.proofs.Numbers.{both_true}

-- what a byte has as its printed form
pub data Printing (b : ℕ) : Type 0 where
  lettered : (letter : ℕ) → printed_byte b ≡ 92 ∷ letter ∷ [] → (letter == 120) ≡ false
      → (letter == 32) ≡ false → escaped letter ≡ b ∷ [] → Printing b
  plain : printed_byte b ≡ b ∷ [] → (b == 92) ≡ false → (b == 32) ≡ false → Printing b
  numbered : printed_byte b ≡ 92 ∷ 120 ∷ hex_digit (b / 16) ∷ hex_digit (b % 16) ∷ [] → Printing b

pub either : (t : Bool) → (t ≡ true) ⊎ (t ≡ false)
either t = grind (arith, nat_tests)

pub printing : (b : ℕ) → Printing b
printing b =
    elim (either (b == 13)) [
      | inl e ↦ subst Printing (sym (eqb-true b 13 e)) (lettered 114 refl refl refl refl)
      | inr n13 ↦ elim (either (b == 10)) [
        | inl e ↦ subst Printing (sym (eqb-true b 10 e)) (lettered 110 refl refl refl refl)
        | inr n10 ↦ elim (either (b == 32)) [
          | inl e ↦ subst Printing (sym (eqb-true b 32 e)) (lettered 115 refl refl refl refl)
          | inr n32 ↦ elim (either (b == 92)) [
            | inl e ↦ subst Printing (sym (eqb-true b 92 e)) (lettered 92 refl refl refl refl)
            | inr n92 ↦ grind (arith, either)
          ]
        ]
      ]
    ]

byte_back : (b : ℕ) (rest : List ℕ) → b < 256 → unescaped (printed_byte b ++ rest)
    ≡ b ∷ unescaped rest
byte_back b rest small = grind (arith, printing, nat_tests)

bytes_back : (word : List ℕ) → list_all is_byte word ≡ true → unescaped (printed_bytes word) ≡ word
unfolding printed_bytes
bytes_back [] h = refl
bytes_back (b ∷ word) h =
    let parts = both_true _ _ h in
    byte_back b (printed_bytes word) (ltb-true b 256 parts.0)
    ∙ ap (λ rest. b ∷ rest) (bytes_back word parts.1)

read_back : (t : Bool) (u w : List ℕ) → cond t (Some u) None ≡ Some w → (t ≡ true) × (u ≡ w)
read_back t u w h = grind (arith, nat_tests)

pub word_of-printed : (word text : List ℕ) → list_all is_byte word ≡ true → printed word ≡ text
    → word_of text ≡ Some word
unfolding word_of
word_of-printed word text h e = grind (arith, bytes_eq-Decides, nat_tests, bytes_back)

pub printed-word_of : (word text : List ℕ) → word_of text ≡ Some word → printed word ≡ text
unfolding word_of
printed-word_of word text h = grind (arith, read_back, bytes_eq-Decides, nat_tests)

pub unescaped-word_of : (word text : List ℕ) → word_of text ≡ Some word → unescaped text ≡ word
unfolding word_of
unescaped-word_of word text h = (read_back _ _ word h).1

pub words_come_back : WordsComeBack
words_come_back word text h = (printed-word_of word text, word_of-printed word text h)
