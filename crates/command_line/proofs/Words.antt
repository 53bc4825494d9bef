-- Tests of words, and a text at its last colon.
use Rattle.std.proofs.Common.{◌≡◌, ◌<◌, ◌||◌, ℕ, zero, suc, Bool, true, arith, map, List, [], ◌∷◌}
use Rattle.std.proofs.Common.{length, get_or, String, Global}
use Rattle.std.specs.List.{list_any}
use Rattle.std.specs.Prelude.{string_bytes}
use Rattle.command_line.specs.Options.{Word}

or_true : (b c : Bool) → true ≡ c → true ≡ (b || c)
or_true b c e = grind arith

-- a word that passes a test, by its place
pub any_word : (test : Word → Bool) (words : List (String Global)) (i : ℕ) (word : String Global)
    → i < length words → word ≡ get_or words i word → test (string_bytes word) ≡ true
    → true ≡ list_any test (map string_bytes words)
any_word test [] i word l e h = absurd (omega arith)
any_word test (x ∷ words) zero word l e h = grind arith
any_word test (x ∷ words) (suc i) word l e h =
    or_true (test (string_bytes x)) _ (any_word test words i word (omega arith) e h)
