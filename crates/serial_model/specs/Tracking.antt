-- Which keys the connections remember, and whom a change of them is told, in order (the client-side
-- caching reference; the order inside a group is this project's).
use Rattle.std.specs.Prelude.{◌≡◌, ◌==◌, ◌&&◌, ℕ, zero, suc, List, [], ◌∷◌, ◌++◌, Bool, true}
use Rattle.std.specs.Prelude.{false, not, nat_eq, Option, Some, None, filter, if◌then◌else◌}
use Rattle.std.specs.List.{list_any, starts_with}
use Rattle.std.specs.Str.{bytes_eq}
use Rattle.command_words.specs.declared.command.Signalled.{Signalled}
use Rattle.command_words.specs.declared.command.Signalled.TheVariants.{Keys, All}
use Rattle.track_table.specs.declared.table.Held.{Held}
use Rattle.track_table.specs.Table.{holders_of, with_keys, without_key, without_keys}
use Rattle.track_table.specs.Table.{without_connection}
use Rattle.prefix_table.specs.declared.table.Registration.{Registration}
use Rattle.prefix_table.specs.Table.{with_prefixes}
use Rattle.prefix_table.specs.Table as registrations
pub use Rattle.redirect.specs.Messages.{push_of}
use Rattle.serial_model.specs.Modes.{Memory, Remembers, Registers, Forgets}

-- ---- what is remembered: keys in order of age, each with its holders

-- the remembered keys once those that a command signals are forgotten
abbrev pub without_signalled : Signalled → List Held → List Held
without_signalled (Keys keys) rows = without_keys keys rows
without_signalled All rows = []

-- what a connection remembers after its command
abbrev pub remembering : ℕ → Memory → List Held → List Held
remembering id (Remembers keys) rows = with_keys id keys rows
remembering id (Registers prefixes) rows = rows
remembering id Forgets rows = without_connection id rows

-- ---- what is registered: prefixes in byte order, each with its connections

-- what is registered after a connection's command
abbrev pub registering : ℕ → Memory → List Registration → List Registration
registering id (Remembers keys) rows = rows
registering id (Registers prefixes) rows = with_prefixes id prefixes rows
registering id Forgets rows = registrations.without_connection id rows

-- ---- who is told

-- a connection that tracks is told that these keys, or all, are not what they were
pub record Invalidation : Type 0 where
  pub to : ℕ
  pub keys : Option (List (List ℕ))

-- each of these connections is told the same
abbrev pub told_to : Option (List (List ℕ)) → List ℕ → List Invalidation
told_to keys [] = []
told_to keys (id ∷ ids) = record { to = id; keys = keys } ∷ told_to keys ids

-- a key's holders are told of it, one key a message
abbrev pub told_of : List ℕ → List ℕ → List Invalidation
told_of key ids = told_to (Some (key ∷ [])) ids

-- of a group of keys: key by key its holders are told, and then it is forgotten
abbrev pub group : List (List ℕ) → List Held → List Invalidation
group [] rows = []
group (key ∷ keys) rows = told_of key (holders_of key rows) ++ group keys (without_key key rows)

-- of a group of keys: prefix by prefix its connections are told, by one message each, of those that
-- start with it
abbrev pub told_some : List (List ℕ) → List ℕ → List Invalidation
told_some [] ids = []
told_some (key ∷ keys) ids = told_to (Some (key ∷ keys)) ids

abbrev pub prefix_group : List (List ℕ) → List Registration → List Invalidation
prefix_group keys [] = []
prefix_group keys (r ∷ rs) =
    told_some (filter (λ key. starts_with nat_eq key r.prefix) keys) r.ids ++ prefix_group keys rs

-- a group of keys: its holders first
abbrev pub whole_group : List (List ℕ) → List Held → List Registration → List Invalidation
whole_group keys rows prefixes = group keys rows ++ prefix_group keys prefixes

abbrev pub has_id : ℕ → List ℕ → Bool
has_id c ids = list_any (λ id. id == c) ids

-- those of the first n connections for which a test holds, in order of their ids
abbrev pub ids_where : (ℕ → Bool) → ℕ → List ℕ
ids_where test zero = []
ids_where test (suc n) =
    if test (suc n) then ids_where test n ++ suc n ∷ [] else ids_where test n

-- the group of what a command signals: of its keys, for all but the connection that ran it under
-- NOLOOP; or of all, which those that track are told by one message each
abbrev pub signal_group : Signalled → (ℕ → Bool) → List ℕ → List Held → List Registration
    → List Invalidation
signal_group (Keys keys) is_passed tracking rows prefixes =
    filter (λ i. not (is_passed i.to)) (whole_group keys rows prefixes)
signal_group All is_passed tracking rows prefixes = told_to None tracking

-- each key is there once
abbrev pub AreApart : List (List ℕ) → Type 0
AreApart [] = Unit {0}
AreApart (key ∷ keys) = (list_any (bytes_eq key) keys ≡ false) × AreApart keys

-- the holders of keys that were dropped
abbrev pub drop_group : List Held → List Invalidation
drop_group [] = []
drop_group (row ∷ rows) = told_of row.key row.holders ++ drop_group rows

abbrev pub names_key : Option (List (List ℕ)) → List ℕ → Bool
names_key (Some keys) key = list_any (bytes_eq key) keys
names_key None key = true

-- it tells this connection of this key
abbrev pub tells : ℕ → List ℕ → Invalidation → Bool
tells c key i = (i.to == c) && names_key i.keys key
