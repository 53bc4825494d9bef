-- What tells a client of keys that are not what they were (the client-side caching reference).
use Rattle.std.specs.Prelude.{ℕ, List, [], ◌∷◌, Option, Some, None, map, codes, pos}
use Rattle.resp_value.specs.Tree.{blob, number}
use Rattle.resp_value.specs.ValueTree.{tree_of}
use Rattle.resp_value.specs.declared.value.Value.{Value}
use Rattle.resp_value.specs.declared.value.Value.TheVariants as value
use Rattle.track_modes.specs.Commands.{channel}
use Rattle.redirect.specs.declared.routes.Route.{Route}
use Rattle.redirect.specs.declared.routes.Route.TheVariants.{Push, Message, BrokenNotice, Nowhere}

-- the keys, or null for all
abbrev pub keys_of : Option (List (List ℕ)) → Value
keys_of (Some keys) = value.Array (map blob keys)
keys_of None = value.Null

-- on RESP3 a push; on RESP2 a message of the channel that the connection is subscribed to
abbrev pub push_of : Option (List (List ℕ)) → Value
push_of keys = value.Push (blob (codes "invalidate") ∷ tree_of (keys_of keys) ∷ [])

abbrev pub message_of : Option (List (List ℕ)) → Value
message_of keys =
    value.Array (blob (codes "message") ∷ blob channel ∷ tree_of (keys_of keys) ∷ [])

abbrev pub invalidation_of : Route → Option (List (List ℕ)) → Option Value
invalidation_of (Push to) keys = Some (push_of keys)
invalidation_of (Message to) keys = Some (message_of keys)
invalidation_of (BrokenNotice to) keys = None
invalidation_of Nowhere keys = None

abbrev pub HasMessage : Route → Type 0
HasMessage (Push to) = Unit {0}
HasMessage (Message to) = Unit {0}
HasMessage (BrokenNotice to) = ⊥
HasMessage Nowhere = ⊥

-- the push that names the connection which has ended
abbrev pub notice_of : ℕ → Value
notice_of target =
    value.Push (blob (codes "tracking-redir-broken") ∷ number (pos target) ∷ [])
