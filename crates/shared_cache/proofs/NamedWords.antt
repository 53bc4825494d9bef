-- The keys that the words of a command name.
use Rattle.std.proofs.Common.{◌≡◌, ◌||◌, List, [], ◌∷◌, true, Some, sym, ap, refl}
use Rattle.std.specs.Prelude.{Ok, Err, Result}
use Rattle.std.specs.List.{list_any}
use Rattle.std.specs.Str.{bytes_eq}
use Rattle.std.proofs.lemmas.Bool.{or_right}
use Rattle.std.proofs.lemmas.List.Folds.{list_any-append}
use Rattle.command_words.specs.declared.command.Command.{Command}
use Rattle.command_words.specs.declared.command.WordFault.{WordFault}
use Rattle.command_words.specs.declared.written.Written.{Written}
use Rattle.command_words.specs.declared.written.Written.TheVariants as written
use Rattle.command_words.specs.Words.{reading}
use Rattle.command_words.specs.StringWords.{string_reading}
use Rattle.command_words.specs.HashWords.{hash_reading}
use Rattle.command_words.specs.KeyWords.{key_reading}
use Rattle.command_words.specs.ConnectionWords.{connection_reading}
use Rattle.command_words.specs.ClientWords.{client_reading}
use Rattle.command_words.specs.Queries.{read, reads_key, written_as, written_by, names, names_key}
use Rattle.command_words.specs.Queries.{written as written_of}
use Rattle.shared_cache.specs.declared.log.Shape.TheVariants.{Pair}
use Rattle.shared_cache.specs.declared.lead.CachingWord.{CachingWord}
use Rattle.shared_cache.specs.declared.lead.CachingWord.TheVariants.{Yes, No}
use Rattle.shared_cache.specs.Held.{Key, Words, caching_command, led_by}
use Rattle.shared_cache.specs.ClientFields.{with_keys, named_as, named_by, names_for}

with_parts : (ks : List Key) (w : Written) (k : Key)
    → names (with_keys ks w) k ≡ (list_any (bytes_eq k) ks || names w k)
with_parts ks (written.Keys js) k = list_any-append (bytes_eq k) ks js
with_parts ks written.All k = sym (or_right (list_any (bytes_eq k) ks) true refl)

named_reading : (r : Result Command WordFault) (k : Key)
    → names (named_as r) k ≡ (reads_key r k || names (written_as r) k)
named_reading (Ok command) k = with_parts (read command) (written_of command) k
named_reading (Err fault) k = refl

pub names_named : (ws : Words) (k : Key) → names (named_by ws) k ≡ names_key ws k
unfolding named_by written_by
names_named ws k = named_reading (reading ws) k

-- what goes before a command names none
caching_named : (w : CachingWord) → named_by (caching_command w).words ≡ written.Keys []
unfolding named_by reading string_reading hash_reading key_reading connection_reading
    client_reading
caching_named Yes = refl
caching_named No = refl

pub names_led : (w : CachingWord) (ws : Words)
    → names_for Pair (led_by (Some w) ws) ≡ written.Keys [] ∷ named_by ws ∷ []
names_led w ws = ap (λ n. n ∷ named_by ws ∷ []) (caching_named w)
