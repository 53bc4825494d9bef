-- What a client's log has of what its end of a link read: each whole value before an end of that
-- link was got, and an EOF that was read is an End.
use Rattle.std.specs.Prelude.{◌≡◌, ◌<◌, ◌||◌, ℕ, List, [], ◌∷◌, ◌++◌, Bool, true, false, length}
use Rattle.std.specs.Prelude.{if◌then◌else◌, map}
use Rattle.std.specs.declared.option.Option.TheVariants.{None}
use Rattle.std.specs.Str.{bytes_eq}
use Rattle.resp_value.specs.Lists.{IsPrefix}
use Rattle.resp_value.specs.Tree.{Tree}
use Rattle.resp_value.specs.ValueTree.{tree_of}
use Rattle.resp_value.specs.declared.value.Value.{Value}
use Rattle.resp_stream.specs.Parse.{parse_values, values_of}
use Rattle.resp_stream.specs.Stream.{begun, fed}
use Rattle.shared_cache.specs.declared.log.Wire.{Wire}
use Rattle.shared_cache.specs.declared.log.LogEntry.{LogEntry}
use Rattle.shared_cache.specs.declared.log.LogEntry.TheVariants as entry
use Rattle.shared_cache.specs.Log.{is_wire}
use Rattle.shared_cache.specs.Laws.{gots}
use Rattle.script_text.specs.declared.line.Line.{Line}
use Rattle.script_text.specs.declared.line.Line.TheVariants as line
use Rattle.server_links.specs.OneHistory.{read_on}
use Rattle.world_run.specs.WorldState.{LinkEnd, MemberState, WorldState, client_at, end_at}

-- the line of an EOF that was read on this link
abbrev pub is_eof_of : List ℕ → Line → Bool
is_eof_of link (line.Admit e name id) = false
is_eof_of link (line.Run e name words) = false
is_eof_of link (line.Drop e name) = false
is_eof_of link (line.Bad name number offset) = false
is_eof_of link (line.Close e name) = false
is_eof_of link (line.Take e name count) = false
is_eof_of link (line.Tick e moment) = false
is_eof_of link (line.Read name bytes) = false
is_eof_of link (line.Fault name number) = false
is_eof_of link (line.End name) = bytes_eq name link
is_eof_of link (line.Hit client value e point) = false
is_eof_of link (line.Miss client number) = false
is_eof_of link (line.Sent client number) = false
is_eof_of link (line.Answer client number value) = false
is_eof_of link (line.Wait client number) = false
is_eof_of link (line.Down client) = false
is_eof_of link (line.NotReady client) = false
is_eof_of link (line.Holds client query value e) = false
is_eof_of link (line.Complete client e) = false

-- an EOF was read on this link
abbrev pub has_eof : List ℕ → List Line → Bool
has_eof link [] = false
has_eof link (l ∷ lines) = is_eof_of link l || has_eof link lines

-- ---- how a link ended for its client

-- not yet, by a value that was read, or by an EOF or a fault of the stream
pub data Ending : Type 0 where
  Going : Ending
  ByValue : Value → Ending
  ByEnd : Ending

abbrev pub ending : Wire → List LogEntry → Ending
ending w [] = Going
ending w (entry.Ask q ∷ log) = ending w log
ending w (entry.Send words ∷ log) = ending w log
ending w (entry.Poll n ∷ log) = ending w log
ending w (entry.TakeOut u most ∷ log) = ending w log
ending w (entry.Got u v ∷ log) = ending w log
ending w (entry.End u ∷ log) = if is_wire u w then ByEnd else ending w log
ending w (entry.Bad u v ∷ log) = if is_wire u w then ByValue v else ending w log

-- ---- what was got of what was read

-- no fault of the stream in these bytes
abbrev pub IsWell : List ℕ → Type 0
IsWell bytes = (parse_values (fed begun bytes)).fault ≡ None

-- While the link has not ended each whole value was got, and no EOF was read. A value that ends it
-- is the next one after those that were got. At an End each was got, and what ended the link is a
-- fault of the stream behind them, or an EOF that was read.
abbrev pub IsGot : List ℕ → Bool → List Tree → Ending → Type 0
IsGot bytes eof got Going = (got ≡ values_of bytes) × IsWell bytes × (eof ≡ false)
IsGot bytes eof got (ByValue v) = IsPrefix (got ++ tree_of v ∷ []) (values_of bytes)
IsGot bytes eof got ByEnd = (got ≡ values_of bytes) × (IsWell bytes → eof ≡ true)

-- of a client, by the lines of what its end of a link read
abbrev pub ReadIsGot : List Line → LinkEnd → MemberState → Type 0
ReadIsGot lines e m =
    IsGot (read_on e.link lines) (has_eof e.link lines)
    (map tree_of (gots e.wire m.state.past)) (ending e.wire m.state.past)

-- after a schedule that met no fault
abbrev pub AllGot : List Line → WorldState → Type 0
AllGot lines w =
    (at : ℕ) → at < length w.ends → ReadIsGot lines (end_at w.ends at).end (client_at w at)
