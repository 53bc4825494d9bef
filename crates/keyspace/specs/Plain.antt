-- What an entry of the code stands for, as plain data.
use Rattle.command_words.specs.Space.{Content, Held, Text, Fields}
use Rattle.keyspace.specs.declared.space.Content as code
use Rattle.keyspace.specs.declared.space.Content.TheVariants as variants
use Rattle.keyspace.specs.declared.space.Held as entry

abbrev pub content_of : code.Content → Content
content_of (variants.Text value) = Text value
content_of (variants.Fields fields) = Fields fields

abbrev pub held_of : entry.Held → Held
held_of held = record { content = content_of held.content; deadline = held.deadline }
