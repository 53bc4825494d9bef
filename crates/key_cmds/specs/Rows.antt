-- The rows that the commands meet, under names that the attribute of `run_key` has room for.
unfoldable pub use Rattle.command_words.specs.Effects.{effect, key_effect}
