-- The rows that the commands meet, under names that the attribute of `run_hash` has room for.
unfoldable pub use Rattle.command_words.specs.Effects.{effect, hash_effect}
