-- The answer to a query depends on what its key holds alone.
use Rattle.std.proofs.Common.{◌≡◌, refl, ℕ, List, [], ◌∷◌, true, Ok, Err, arith}
use Rattle.std.specs.Str.{bytes_eq}
use Rattle.std.specs.List.{list_any}
use Rattle.std.proofs.lemmas.Slice.Eq.{bytes_eq-Decides}
use Rattle.std.proofs.lemmas.Bool.{or_cases}
use Rattle.command_words.specs.Space.{Space, held_at}
use Rattle.command_words.specs.Queries.{reads_as_cacheable, key_of}
use Rattle.command_words.specs.Reading.{Read}
use Rattle.command_words.specs.declared.command.Command.{Command}
use Rattle.command_words.specs.Words.{reading}
use Rattle.command_words.specs.Effects.{answer, answer_as}
use Rattle.command_words.specs.Laws.{RepliesAreOfKeysRead}
use Rattle.command_words.proofs.Readings.{keys_read, reads_its_key}

one_of : (key k : List ℕ) → list_any (bytes_eq key) (k ∷ []) ≡ true → key ≡ k
one_of key k h = grind (arith, or_cases, bytes_eq-Decides)

alike_as : RepliesAreOfKeysRead → (r : Read Command) (k : List ℕ) (s o : Space)
    → keys_read r ≡ k ∷ [] → held_at k s ≡ held_at k o → answer_as r s ≡ answer_as r o
alike_as replies (Ok command) k s o reads held =
    replies command s o (λ key among.
    grind (arith, one_of))
alike_as replies (Err e) k s o reads held = refl

pub answers_alike : RepliesAreOfKeysRead → (words : List (List ℕ)) (s o : Space)
    → reads_as_cacheable (reading words) ≡ true
    → held_at (key_of words) s ≡ held_at (key_of words) o → answer words s ≡ answer words o
unfolding answer
answers_alike replies words s o h held =
    alike_as replies (reading words) (key_of words) s o (reads_its_key words h) held
