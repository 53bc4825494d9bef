-- The line of an event is its parts with a space ahead of each but the first.
use Rattle.std.proofs.Common.{◌≡◌, ℕ, List, [], ◌∷◌, ◌++◌, refl, ap, ◌∙◌, sym, map}
use Rattle.std.proofs.Common.{append_assoc}
use Rattle.std.specs.List.{join_with_byte}
use Rattle.std.proofs.lemmas.List.{append-nil}
use Rattle.command_words.specs.Printed.{printed}
use Rattle.script_text.specs.Grammar.{parts_text}
use Rattle.script_text.specs.Printed.{words_text}

pub joined : (part : List ℕ) (parts : List (List ℕ))
    → join_with_byte 32 (part ∷ parts) ≡ part ++ parts_text parts
joined part [] = sym (append-nil part)
joined part (next ∷ parts) = ap (λ rest. part ++ 32 ∷ rest) (joined next parts)

pub printed_parts : (words : List (List ℕ)) → parts_text (map printed words) ≡ words_text words
printed_parts [] = refl
printed_parts (word ∷ words) = ap (λ rest. 32 ∷ printed word ++ rest) (printed_parts words)

-- what is put of a line: its kind with a space, its name, and the other parts
pub put_in_parts : (out kind name : List ℕ) (parts : List (List ℕ))
    → out ++ (kind ++ 32 ∷ []) ++ name ++ parts_text parts
    ≡ out ++ join_with_byte 32 (kind ∷ name ∷ parts)
put_in_parts out kind name parts = rw (joined name parts) (simp append_assoc)

pub put_with_words : (out kind name : List ℕ) (words : List (List ℕ))
    → out ++ (kind ++ 32 ∷ []) ++ name ++ words_text words
    ≡ out ++ join_with_byte 32 (kind ∷ name ∷ map printed words)
put_with_words out kind name words =
    ap (λ rest. out ++ (kind ++ 32 ∷ []) ++ name ++ rest) (sym (printed_parts words))
    ∙ put_in_parts out kind name (map printed words)
