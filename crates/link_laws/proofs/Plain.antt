-- Texts without an end of line, and the names of commands among them.
use Rattle.std.proofs.Common.{◌≡◌, ℕ, List, [], ◌∷◌, ◌++◌, Bool, true, false, refl, Err, arith}
use Rattle.std.specs.Prelude.{◌==◌, ◌&&◌, not}
use Rattle.std.specs.Str.{bytes_eq}
use Rattle.std.proofs.lemmas.Bool.{eqb-false}
use Rattle.std.proofs.lemmas.Slice.Eq.{bytes_eq-Decides}
use Rattle.command_words.specs.declared.command.WordFault.{WordFault}
use Rattle.command_words.specs.declared.command.WordFault.TheVariants.{Unknown, Arity}
use Rattle.command_words.specs.Words.{reading, lower_name, fault_text}
use Rattle.command_words.specs.StringWords.{string_reading}
use Rattle.command_words.specs.HashWords.{hash_reading}
use Rattle.command_words.specs.KeyWords.{key_reading}
use Rattle.command_words.specs.ConnectionWords.{connection_reading}
use Rattle.resp_laws.specs.Values.{IsPlain}

abbrev pub has_no_end : List ℕ → Bool
has_no_end [] = true
has_no_end (c ∷ t) = not (c == 13) && (not (c == 10) && has_no_end t)

plain_by : (x y : Bool) (c : ℕ) (t : List ℕ) → (c == 13) ≡ x → (c == 10) ≡ y
    → (not x && (not y && has_no_end t)) ≡ true → (has_no_end t ≡ true → IsPlain t)
    → IsPlain (c ∷ t)
plain_by x y c t e f h rest = grind (arith, eqb-false)

pub plain_text : (t : List ℕ) → has_no_end t ≡ true → IsPlain t
plain_text [] h = tt
plain_text (c ∷ t) h = plain_by (c == 13) (c == 10) c t refl refl h (plain_text t)

pub plain_both : (a b : List ℕ) → IsPlain a → IsPlain b → IsPlain (a ++ b)
plain_both [] b h k = k
plain_both (c ∷ a) b h k = (h.0, h.1, plain_both a b h.2 k)

-- ---- a name with an end of line is no name

other_name : (lit name : List ℕ) → has_no_end name ≡ false → has_no_end lit ≡ true
    → bytes_eq name lit ≡ false
other_name lit name n h = grind (arith, bytes_eq-Decides)

module _ (name : List ℕ) (words : List (List ℕ)) (n : has_no_end name ≡ false) where
  differs : (lit : List ℕ) → has_no_end lit ≡ true → bytes_eq name lit ≡ false
  differs lit h = other_name lit name n h

  no_string : string_reading name words ≡ Err Unknown
  unfolding string_reading
  no_string = grind (arith, differs)

  no_hash : hash_reading name words ≡ Err Unknown
  unfolding hash_reading
  no_hash = grind (arith, differs)

  no_key : key_reading name words ≡ Err Unknown
  unfolding key_reading
  no_key = grind (arith, differs)

  no_connection : connection_reading name words ≡ Err Unknown
  unfolding connection_reading
  no_connection = grind (arith, differs)

named : (words : List (List ℕ)) → reading words ≡ Err Arity → IsPlain (lower_name words)
unfolding reading
named words e = grind (arith, plain_text, no_string, no_hash, no_key, no_connection)

-- the text of a fault has no end of line
pub fault_plain : (words : List (List ℕ)) (fault : WordFault)
    → (fault ≡ Arity → reading words ≡ Err Arity) → IsPlain (fault_text words fault)
fault_plain words fault h = grind (arith, plain_both, plain_text, named)
