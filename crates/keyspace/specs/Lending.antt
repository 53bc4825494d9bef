-- A keyspace after a change of what one key holds, and after a `&mut` to a content has ended.
use Rattle.std.specs.Prelude.{ℕ, List, Option}
use Rattle.std.specs.Borrow.{Fml, MutBor, LendsIf}
use Rattle.command_words.specs.Space.{Content, Held, Space, changed_at}
use Rattle.keyspace.specs.Plain.{content_of, held_of}
use Rattle.keyspace.specs.declared.space.Content as code
use Rattle.keyspace.specs.declared.space.Held as entry
use Rattle.keyspace.specs.contracts.space.Keyspace as keyspace
use Rattle.keyspace.specs.contracts.space.Content as content
use Rattle.keyspace.specs.contracts.space.Held as held

-- the key has this content, and the deadline that it had
abbrev pub with_content : List ℕ → Content → Space → Space
with_content key content = changed_at key (λ held. record held { content = content })

abbrev pub lends_content : MutBor Space → List ℕ → Option (MutBor code.Content) → Fml
lends_content space key r =
    LendsIf keyspace.the_row content.the_row space r
    (λ last. with_content key (content_of last) space.now) space.now

-- a key that is there holds this
abbrev pub with_held : List ℕ → Held → Space → Space
with_held key held = changed_at key (λ had. held)

abbrev pub lends_held : MutBor Space → List ℕ → Option (MutBor entry.Held) → Fml
lends_held space key r =
    LendsIf keyspace.the_row held.the_row space r
    (λ last. with_held key (held_of last) space.now) space.now
