-- The commands that change how a connection is served (Redis's command table), by their first word.
-- They would make replies shift, wait for ever, or invalidations stop, so a client refuses them,
-- whatever stands behind.
use Rattle.std.specs.Prelude.{ℕ, List, [], ◌∷◌, ◌||◌, ◌&&◌, Bool, false, not, codes}
use Rattle.std.specs.Str.{bytes_eq, str_to_ascii_lowercase}
use Rattle.std.specs.List.{list_any}

-- a word is one of these names, in any case of its letters
abbrev pub is_among : List (List ℕ) → List ℕ → Bool
is_among names word = list_any (bytes_eq (str_to_ascii_lowercase word)) names

-- who speaks, by which protocol, of which database
abbrev pub connection_names : List (List ℕ)
connection_names =
    codes "auth" ∷ codes "hello" ∷ codes "reset" ∷ codes "quit" ∷ codes "select"
    ∷ codes "swapdb" ∷ []

-- replies that are queued
abbrev pub transaction_names : List (List ℕ)
transaction_names =
    codes "multi" ∷ codes "exec" ∷ codes "discard" ∷ codes "watch" ∷ codes "unwatch" ∷ []

-- replies of another number, or none
abbrev pub subscription_names : List (List ℕ)
subscription_names =
    codes "subscribe" ∷ codes "unsubscribe" ∷ codes "psubscribe" ∷ codes "punsubscribe"
    ∷ codes "ssubscribe" ∷ codes "sunsubscribe" ∷ codes "monitor" ∷ []

-- a replica's, and of a node of a cluster
abbrev pub replication_names : List (List ℕ)
replication_names =
    codes "sync" ∷ codes "psync" ∷ codes "replconf" ∷ codes "asking" ∷ codes "readonly"
    ∷ codes "readwrite" ∷ []

-- the server itself
abbrev pub server_names : List (List ℕ)
server_names = codes "debug" ∷ codes "shutdown" ∷ codes "failover" ∷ []

-- the second words of CLIENT that are harmless
abbrev pub client_names : List (List ℕ)
client_names =
    codes "getname" ∷ codes "id" ∷ codes "info" ∷ codes "list" ∷ codes "setinfo"
    ∷ codes "setname" ∷ codes "trackinginfo" ∷ []

-- and those of SCRIPT, whose DEBUG takes the connection
abbrev pub script_names : List (List ℕ)
script_names = codes "exists" ∷ codes "flush" ∷ codes "kill" ∷ codes "load" ∷ []

abbrev pub is_second_among : List (List ℕ) → List (List ℕ) → Bool
is_second_among names [] = false
is_second_among names (word ∷ words) = is_among names word

abbrev pub is_other_than : List ℕ → List (List ℕ) → List ℕ → List (List ℕ) → Bool
is_other_than family names name words =
    is_among (family ∷ []) name && not (is_second_among names words)

-- a client refuses the command of these words
unfoldable pub refuses : List (List ℕ) → Bool
refuses [] = false
refuses (name ∷ words) =
    is_among connection_names name || is_among transaction_names name
    || is_among subscription_names name || is_among replication_names name
    || is_among server_names name || is_other_than (codes "client") client_names name words
    || is_other_than (codes "script") script_names name words
