-- The rows that the commands meet, under names that the attribute of `run_string` has room for.
unfoldable pub use Rattle.command_words.specs.Effects.{effect, string_effect}
