-- What a client does, and what is printed of it.
use Rattle.std.specs.Prelude.{◌&&◌, ℕ, zero, suc, List, [], ◌∷◌, ◌++◌, Bool, not}
use Rattle.std.specs.Prelude.{if◌then◌else◌, length, nat_le, take}
use Rattle.std.specs.declared.option.Option.{Option}
use Rattle.std.specs.declared.option.Option.TheVariants.{None, Some}
use Rattle.std.specs.Option.{option_map_or}
use Rattle.resp_value.specs.declared.value.Value.{Value}
use Rattle.resp_value.specs.Tree.{Tree}
use Rattle.resp_value.specs.ValueTree.{value_of}
use Rattle.resp_stream.specs.declared.fault.FaultPlace.{FaultPlace}
use Rattle.resp_stream.specs.Parsed.{Parsed, Whole, More, Bad}
use Rattle.resp_stream.specs.Stream.{Stream, fed, moved_on}
use Rattle.resp_stream.specs.Value.{value_at}
use Rattle.resp_stream.specs.Parse.{parse_values}
use Rattle.shared_cache.specs.declared.log.Wire.{Wire}
use Rattle.shared_cache.specs.declared.log.Wire.TheVariants.{Main, Side}
use Rattle.shared_cache.specs.declared.log.ClientCall.{ClientCall}
use Rattle.shared_cache.specs.declared.log.ClientCall.TheVariants as call
use Rattle.shared_cache.specs.declared.log.ClientReply.{ClientReply}
use Rattle.shared_cache.specs.declared.log.ClientReply.TheVariants.{Hit, Sent, NotYet, Answer}
use Rattle.shared_cache.specs.declared.log.ClientReply.TheVariants.{Bytes, Refused}
use Rattle.shared_cache.specs.declared.log.ClientRefusal.{ClientRefusal}
use Rattle.shared_cache.specs.declared.log.ClientRefusal.TheVariants as refusal
use Rattle.shared_cache.specs.declared.entry.CacheEntry.{CacheEntry}
use Rattle.shared_cache.specs.Log.{is_ended}
use Rattle.shared_cache.specs.Held.{Words, held, held_in_place}
use Rattle.shared_cache.specs.Out.{untaken}
use Rattle.shared_cache.specs.Steps.{client_step}
use Rattle.currency.specs.Links.{run_of}
use Rattle.currency.specs.Points.{complete}
use Rattle.currency.specs.Current.{point}
use Rattle.script_text.specs.declared.line.Line.{Line}
use Rattle.script_text.specs.declared.line.Line.TheVariants as line
use Rattle.server_links.specs.declared.fault.WorldFault.{WorldFault}
use Rattle.server_links.specs.declared.fault.WorldFault.TheVariants as fault
use Rattle.server_links.specs.declared.link.LinkMove.TheVariants as moves
use Rattle.server_links.specs.Directions.{is_queued}
use Rattle.server_links.specs.LinkEvent.{Put, Over}
use Rattle.server_links.specs.Moves.{all_bytes, stopped_at}
use Rattle.server_links.specs.Outcome.{Outcome, and_then, does, refuses, stays}
use Rattle.world_run.specs.WorldState.{LinkEnd, link_on}
use Rattle.world_run.specs.Members.{Seat, client_of, link_of, links_do, log_of, setup_of, with_log}
use Rattle.world_run.specs.Members.{with_reader}

-- ---- what is printed of an answer

-- the entry that ran the client's command of that number
abbrev pub ran_at : Seat → ℕ → ℕ
ran_at s number =
    option_map_or (λ n. n) (run_of ((client_of s.member).id Main) s.links.past number) 0

-- how far the client has processed what was sent to it
abbrev pub complete_at : Seat → ℕ
complete_at s = complete s.links.limits (client_of s.member) s.links.past (log_of s)

-- the point in the history of an answer from the cache
abbrev pub point_at : Seat → CacheEntry → ℕ
point_at s h =
    point s.links.limits (client_of s.member) s.links.past (log_of s) h (ran_at s h.number)

-- the link that commands go on has ended, or is not set up yet
abbrev pub refused_lines : List ℕ → ClientRefusal → List Line
refused_lines name (refusal.Down w) = line.Down name ∷ []
refused_lines name refusal.NotReady = line.NotReady name ∷ []
refused_lines name r = []

abbrev pub ask_lines : Seat → Words → ClientReply → List Line
ask_lines s q (Hit v n) =
    let h : CacheEntry = record { query = q; value = v; number = n } in
    line.Hit s.member.name v (ran_at s n) (point_at s h) ∷ []
ask_lines s q (Sent n) = line.Miss s.member.name n ∷ []
ask_lines s q (Refused r) = refused_lines s.member.name r
ask_lines s q reply = []

abbrev pub send_lines : Seat → ClientReply → List Line
send_lines s (Sent n) = line.Sent s.member.name n ∷ []
send_lines s (Refused r) = refused_lines s.member.name r
send_lines s reply = []

abbrev pub poll_lines : Seat → ℕ → ClientReply → List Line
poll_lines s n (Answer v) = line.Answer s.member.name n v ∷ []
poll_lines s n NotYet = line.Wait s.member.name n ∷ []
poll_lines s n (Refused r) = refused_lines s.member.name r
poll_lines s n reply = []

-- the numbers of the refusals that end the link
abbrev pub ending_lines : List ℕ → ClientRefusal → List Line
ending_lines link (refusal.Unexpected w) = line.Fault link 2 ∷ []
ending_lines link (refusal.BadPush w) = line.Fault link 3 ∷ []
ending_lines link (refusal.SetupRefused w) = line.Fault link 6 ∷ []
ending_lines link r = []

abbrev pub got_lines : LinkEnd → ClientReply → List Line
got_lines e (Refused r) = ending_lines e.link r
got_lines e reply = []

abbrev pub lines_of : LinkEnd → Seat → ClientCall → ClientReply → List Line
lines_of e s (call.Ask q) reply = ask_lines s q reply
lines_of e s (call.Send ws) reply = send_lines s reply
lines_of e s (call.Poll n) reply = poll_lines s n reply
lines_of e s (call.TakeOut w most) reply = []
lines_of e s (call.Got w v) reply = got_lines e reply
lines_of e s (call.End w) reply = []

-- a full log stops an event; control commands and numbers that nobody waits for are refused
abbrev pub refused_fault : ClientRefusal → Option WorldFault
refused_fault (refusal.LogFull entries) = Some (fault.HistoryFull entries)
refused_fault refusal.Control = Some (fault.Refused 8)
refused_fault (refusal.NoNumber n) = Some (fault.Refused 9)
refused_fault r = None

abbrev pub fault_of : ClientReply → Option WorldFault
fault_of (Refused r) = refused_fault r
fault_of reply = None

-- ---- turns

-- some lines are printed, and perhaps a fault stops the event
abbrev pub answers : List Line → Option WorldFault → Seat → Outcome Seat
answers lines f s = record { state = s; lines = lines; fault = f; points = (s, []) ∷ [] }

-- a turn of the client at that end, and then its lines: they speak of the links and the log before
-- it
unfoldable pub turn : ClientCall → LinkEnd → Seat → Outcome Seat
turn c e s =
    let t = client_step (setup_of s) (log_of s) c in
    and_then (does s (with_log s t.past) [])
    (answers (lines_of e s c t.reply) (fault_of t.reply))

-- the link has ended for the client
abbrev pub has_ended : Wire → Seat → Bool
has_ended w s = is_ended (setup_of s).mode w (log_of s)

-- ---- bytes go out

abbrev pub bytes_of : ClientReply → List ℕ
bytes_of (Bytes bytes) = bytes
bytes_of reply = []

-- so many bytes are taken, and go on the way up
unfoldable pub take_out : ℕ → LinkEnd → Seat → Outcome Seat
take_out most e s =
    let t = client_step (setup_of s) (log_of s) (call.TakeOut e.wire most) in
    and_then (turn (call.TakeOut e.wire most) e s) (links_do (Put e.link (bytes_of t.reply)))

abbrev pub out : Option ℕ → LinkEnd → Seat → Outcome Seat
out None e s = if has_ended e.wire s then stays s else take_out all_bytes e s
out (Some n) e s =
    if not (has_ended e.wire s) && nat_le n (length (untaken (setup_of s) e.wire (log_of s)))
    then take_out n e s else refuses s fault.NothingThere

-- ---- bytes come in

-- the reader after the value that begins what it has
abbrev pub past_value : Stream → Parsed Tree → Stream
past_value reader (Whole t rest) = moved_on reader rest
past_value reader More = reader
past_value reader (Bad f rest) = reader

abbrev pub next_read : Seat → Seat
next_read s = with_reader s (past_value s.reader (value_at s.reader.rest))

-- a value behind the end of the link is passed over
abbrev pub got : Value → LinkEnd → Seat → Outcome Seat
got v e s = if has_ended e.wire s then stays s else turn (call.Got e.wire v) e s

unfoldable pub got_one : Tree → LinkEnd → Seat → Outcome Seat
got_one t e s = and_then (does s (next_read s) []) (got (value_of t) e)

unfoldable pub got_all : List Tree → LinkEnd → Seat → Outcome Seat
got_all [] e s = stays s
got_all (t ∷ ts) e s = and_then (got_one t e s) (got_all ts e)

-- so does a fault of the stream behind it; another ends the link
abbrev pub stop : Option FaultPlace → LinkEnd → Seat → Outcome Seat
stop (Some place) e s =
    if has_ended e.wire s then stays s else
    and_then (does s s (line.Bad e.link place.number place.offset ∷ []))
    (turn (call.End e.wire) e)
stop None e s = stays s

abbrev pub rest_read : Stream → Seat → Outcome Seat
rest_read rest s = does s (with_reader s rest) []

-- each whole value that was read is got, in turn
unfoldable pub read_values : LinkEnd → Seat → Outcome Seat
read_values e s =
    let p = parse_values s.reader in
    and_then (and_then (got_all p.items e s) (rest_read p.stream)) (stop (stopped_at p.fault) e)

-- a client that ended its link hangs up
abbrev pub hang_up : LinkEnd → Seat → Outcome Seat
hang_up e s = if has_ended e.wire s then links_do (Over e.link moves.HangUp) s else stays s

abbrev pub feed : List ℕ → Seat → Outcome Seat
feed piece s = does s (with_reader s (fed s.reader piece)) []

-- so many bytes are read and processed
unfoldable pub receive_bytes : ℕ → LinkEnd → Seat → Outcome Seat
receive_bytes n e s =
    and_then (links_do (Over e.link (moves.Recv (Some n))) s)
    (λ t. and_then (feed (take n (link_of e s).down.bytes) t)
    (λ t. and_then (read_values e t) (hang_up e)))

-- and then an EOF, where one follows them
unfoldable pub receive_eof : LinkEnd → Seat → Outcome Seat
receive_eof e s =
    and_then (links_do (Over e.link (moves.Recv None)) s)
    (λ t. if is_queued (link_of e s).down.eof then turn (call.End e.wire) e t else stays t)

abbrev pub read : Option ℕ → LinkEnd → Seat → Outcome Seat
read None e s =
    if has_ended e.wire s then stays s else
    and_then (receive_bytes (length (link_of e s).down.bytes) e s) (receive_eof e)
read (Some n) e s =
    if not (has_ended e.wire s) && nat_le n (length (link_of e s).down.bytes)
    then receive_bytes n e s else refuses s fault.NothingThere

-- An end of Side, before the client is ready, ends Main too. Where that had not ended, the client
-- hangs up there.
abbrev pub hang_up_main : Wire → Bool → Seat → Outcome Seat
hang_up_main Main before s = stays s
hang_up_main Side before s =
    if not before && has_ended Main s
    then links_do (Over (link_on Main s.member.name) moves.HangUp) s else stays s

unfoldable pub receive : Option ℕ → LinkEnd → Seat → Outcome Seat
receive count e s = and_then (read count e s) (hang_up_main e.wire (has_ended Main s))

-- ---- all of it

unfoldable pub flow : LinkEnd → Seat → Outcome Seat
flow e s =
    and_then (out None e s)
    (λ s. and_then (links_do (Over e.link (moves.Serve None)) s)
    (λ s. and_then (links_do (Over e.link (moves.Send None)) s) (receive None e)))

-- ---- what is held

abbrev pub held_line : Seat → CacheEntry → Line
held_line s h = line.Holds s.member.name h.query h.value (ran_at s h.number)

abbrev pub listed_line : Seat → Option CacheEntry → List Line
listed_line s None = []
listed_line s (Some h) = held_line s h ∷ []

-- the lines of so many that are held, in order
abbrev pub held_lines : ℕ → Seat → List Line
held_lines zero s = []
held_lines (suc n) s =
    held_lines n s
    ++ listed_line s (held_in_place n (held (setup_of s) (log_of s)))

abbrev pub shown : Seat → List Line
shown s =
    held_lines (length (held (setup_of s) (log_of s))) s
    ++ line.Complete s.member.name (complete_at s) ∷ []

-- one line after the other
unfoldable pub print : List Line → Seat → Outcome Seat
print [] s = stays s
print (l ∷ ls) s = and_then (does s s (l ∷ [])) (print ls)

unfoldable pub show : Seat → Outcome Seat
show s = print (shown s) s
