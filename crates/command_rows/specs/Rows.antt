-- That a run of a command did what its row says.
use Rattle.std.specs.Prelude.{◌≡◌, Result, Ok, Err}
use Rattle.resp_value.specs.declared.octets.NoMemory.{NoMemory}
use Rattle.command_words.specs.declared.command.Done.{Done}
use Rattle.command_words.specs.Space.{Space}
use Rattle.command_words.specs.Effect.{Effect}

-- the reply, the signalled keys and the keyspace are those of the row; where memory ran out the
-- keyspace is as before
abbrev pub IsRow : Effect → Result Done NoMemory → Space → Space → Type 0
IsRow row (Ok done) old new =
    (done.reply ≡ row.reply) × (done.signalled ≡ row.signalled) × (new ≡ row.space)
IsRow row (Err e) old new = new ≡ old
