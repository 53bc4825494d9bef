-- What an effect sends, as far as posts tell it.
use Rattle.std.specs.Prelude.{◌+◌, ◌==◌, ℕ, List, [], ◌∷◌, Option, Some, None, if◌then◌else◌, map}
use Rattle.std.specs.Prelude.{filter, nat_eq, nat_lt, slice_index_or}
use Rattle.std.specs.List.{starts_with}
use Rattle.prefix_table.specs.declared.table.Registration.{Registration}
use Rattle.prefix_table.specs.Table.{nothing}
use Rattle.serial_model.specs.declared.history.Post.{Post}
use Rattle.serial_model.specs.declared.history.Posted.{Posted}
use Rattle.serial_model.specs.declared.history.Posted.TheVariants.{Message, End}
use Rattle.serial_model.specs.Actions.{Sending, routed}
use Rattle.serial_model.specs.Tracking.{Invalidation, told_some}
use Rattle.serial_model.specs.History.{posted_of}
use Rattle.past_effects.specs.declared.sendings.Sent.{Sent}
use Rattle.past_effects.specs.Seen.{Seen, mode_at, on_at}

abbrev pub outline : ℕ × Sending → Sent
outline s = record { to = s.0; what = posted_of s.1 }

-- of these, those that are for connections that have not ended
unfoldable pub outlines : List Seen → List (ℕ × Sending) → List Sent
outlines cs ss = map outline (filter (λ s. on_at cs s.0) ss)

-- what is sent where these are told, each by its way
unfoldable pub told_sent : List Seen → List Invalidation → List Sent
told_sent cs told = outlines cs (routed (mode_at cs) (on_at cs) told)

abbrev pub size_of : Posted → ℕ
size_of (Message length) = length
size_of End = 0

-- how many of the bytes are for a connection
abbrev pub bytes_for : ℕ → List Sent → ℕ
bytes_for c [] = 0
bytes_for c (s ∷ ss) = (if s.to == c then size_of s.what else 0) + bytes_for c ss

-- a number, where it is not above a limit
abbrev pub at_most : ℕ → ℕ → Option ℕ
at_most most n = if nat_lt most n then None else Some n

-- those who registered the prefix at a place are told, by one message each, of the keys that start
-- with it, if there are any
abbrev pub told_at : List (List ℕ) → List Registration → ℕ → List Invalidation
told_at keys prefixes n =
    let r = slice_index_or prefixes n nothing in
    told_some (filter (λ key. starts_with nat_eq key r.prefix) keys) r.ids

-- the end of a connection
abbrev pub end_of : ℕ → Sent
end_of c = record { to = c; what = End }

-- those for a connection, as posts of an entry
abbrev pub posts_for : ℕ → ℕ → List Sent → List Post
posts_for entry c [] = []
posts_for entry c (s ∷ ss) =
    if s.to == c then record { entry = entry; id = c; what = s.what } ∷ posts_for entry c ss
    else posts_for entry c ss
