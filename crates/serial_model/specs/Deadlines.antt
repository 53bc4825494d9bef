-- The keys of a keyspace that are due at a moment.
use Rattle.std.specs.Prelude.{ℕ, List, [], ◌∷◌, Option, Some, None, map}
use Rattle.std.specs.FinMap.{keys}
use Rattle.command_words.specs.Space.{Space, deadline_at}
use Rattle.expiry.specs.declared.index.Deadline.{Deadline}
use Rattle.expiry.specs.Index.{with, due}

-- a key's deadline in its place among others, if it has one
abbrev pub with_deadline : List ℕ → Option ℕ → List Deadline → List Deadline
with_deadline key None ds = ds
with_deadline key (Some at) ds = with (record { at = at; key = key }) ds

-- the deadlines of those of the keys that have one, in order
unfoldable pub deadlines : Space → List (List ℕ) → List Deadline
deadlines space [] = []
deadlines space (key ∷ others) =
    with_deadline key (deadline_at key space) (deadlines space others)

-- the keys that are due, in order of deadline and key
unfoldable pub due_keys : ℕ → Space → List (List ℕ)
due_keys moment space = map (λ d. d.key) (due moment (deadlines space (keys space)))
