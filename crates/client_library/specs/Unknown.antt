-- Commands that the client doesn't know, and the invalidation of keys that it plays itself.
use Rattle.std.specs.Prelude.{◌≡◌, ℕ, List, [], ◌∷◌, Bool, true, false, Some, Ok, Err, codes}
use Rattle.std.specs.List.{list_any}
use Rattle.std.specs.Str.{bytes_eq}
use Rattle.resp_value.specs.Tree.{Tree, trees_of, blob, array}
use Rattle.resp_value.specs.declared.value.Value.{Value}
use Rattle.resp_value.specs.declared.value.Value.TheVariants.{Push}
use Rattle.command_words.specs.declared.command.Command.{Command}
use Rattle.command_words.specs.Queries.{key_of}
use Rattle.command_words.specs.Reading.{Read}
use Rattle.command_words.specs.Words.{reading}
use Rattle.shared_cache.specs.Held.{Words, open_fetch}
use Rattle.client_library.specs.Library.{Library}

abbrev pub reads_as_none : Read Command → Bool
reads_as_none (Ok command) = false
reads_as_none (Err fault) = true

-- the words read as no command of the client's table: each of them may be a key that is written
unfoldable pub is_unknown : List (List ℕ) → Bool
is_unknown words = reads_as_none (reading words)

abbrev pub blobs : List (List ℕ) → List Tree
blobs [] = []
blobs (key ∷ keys) = blob key ∷ blobs keys

-- the invalidation of these keys, as a server sends it
abbrev pub invalidation : List (List ℕ) → Value
invalidation keys = Push (blob (codes "invalidate") ∷ array (trees_of (blobs keys)) ∷ [])

-- no fetch of these keys is open: nothing that was read of them is held, and no reply that is on
-- the way will be
abbrev pub AreGone : List (List ℕ) → Library → Type 0
AreGone keys c =
    (n : ℕ) (q : Words) → open_fetch c.setup c.past n ≡ Some q
    → list_any (bytes_eq (key_of q)) keys ≡ false
