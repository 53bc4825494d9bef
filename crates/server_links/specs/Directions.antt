-- One direction of a link: the bytes in flight, and perhaps an EOF after them.
use Rattle.std.specs.Prelude.{ℕ, List, [], ◌++◌, Bool, true, false, drop}
use Rattle.server_links.specs.declared.direction.Eof.{Eof}
use Rattle.server_links.specs.declared.direction.Eof.TheVariants as eof
use Rattle.server_links.specs.declared.direction.Direction.{Direction}

abbrev pub fresh : Direction
fresh = record { bytes = []; eof = eof.None }

abbrev pub is_open : Eof → Bool
is_open eof.None = true
is_open eof.Queued = false
is_open eof.Read = false

abbrev pub is_queued : Eof → Bool
is_queued eof.None = false
is_queued eof.Queued = true
is_queued eof.Read = false

-- nothing is in flight, and nothing will be: the EOF was read
abbrev pub spent : Direction
spent = record { bytes = []; eof = eof.Read }

-- bytes go after those in flight; after an EOF they go nowhere
abbrev pub put_by : Eof → List ℕ → List ℕ → List ℕ
put_by eof.None bytes more = bytes ++ more
put_by eof.Queued bytes more = bytes
put_by eof.Read bytes more = bytes

abbrev pub put : List ℕ → Direction → Direction
put more d = record { bytes = put_by d.eof d.bytes more; eof = d.eof }

-- a direction gets one EOF, ever
abbrev pub queued : Eof → Eof
queued eof.None = eof.Queued
queued eof.Queued = eof.Queued
queued eof.Read = eof.Read

abbrev pub finished : Direction → Direction
finished d = record { bytes = d.bytes; eof = queued d.eof }

-- what is in flight is lost, and an EOF follows
abbrev pub cut : Direction → Direction
cut d = record { bytes = []; eof = queued d.eof }

abbrev pub without : ℕ → Direction → Direction
without n d = record { bytes = drop n d.bytes; eof = d.eof }

abbrev pub without_bytes : Direction → Direction
without_bytes d = record { bytes = []; eof = d.eof }

abbrev pub eof_read : Eof → Eof
eof_read eof.None = eof.None
eof_read eof.Queued = eof.Read
eof_read eof.Read = eof.Read

abbrev pub past_eof : Direction → Direction
past_eof d = record { bytes = d.bytes; eof = eof_read d.eof }
