-- The rows that the commands meet, under names that an attribute has room for.
unfoldable pub use Rattle.command_words.specs.Effects.{effect, string_effect, hash_effect}
