-- What moves over one link.
use Rattle.std.specs.Prelude.{◌^◌, ◌-◌, ◌&&◌, ◌==◌, ℕ, List, [], ◌∷◌, ◌++◌, Bool, true, false}
use Rattle.std.specs.Prelude.{if◌then◌else◌, nat_le, length, take}
use Rattle.std.specs.declared.option.Option.{Option}
use Rattle.std.specs.declared.option.Option.TheVariants.{None, Some}
use Rattle.resp_stream.specs.declared.fault.StreamFault.{StreamFault}
use Rattle.resp_stream.specs.Parsed.{Parsed, Whole, More, Bad}
use Rattle.resp_stream.specs.Request.{request_at, skip_empty}
use Rattle.resp_stream.specs.declared.fault.FaultPlace.{FaultPlace}
use Rattle.resp_stream.specs.Stream.{Stream, fault_place, fed, moved_on}
use Rattle.resp_stream.specs.Parse.{parse}
use Rattle.serial_model.specs.declared.history.BookCall.{BookCall}
use Rattle.serial_model.specs.declared.history.BookCall.TheVariants as call
use Rattle.serial_model.specs.declared.history.BookReply.{BookReply}
use Rattle.serial_model.specs.declared.history.BookReply.TheVariants.{Admitted, Ran, Ticked, Quiet}
use Rattle.serial_model.specs.declared.history.BookReply.TheVariants.{Bytes, Closed, Refused}
use Rattle.serial_model.specs.History.{has_ended, reads_on, gives_on, unsent}
use Rattle.serial_model.specs.Steps.{Turn, book_step}
use Rattle.server_links.specs.LinkEvent.{LinkEvent, Raw, Put, Over, Now, Tick}
use Rattle.server_links.specs.declared.link.LinkMove.{LinkMove}
use Rattle.server_links.specs.declared.link.LinkMove.TheVariants as moves
use Rattle.script_text.specs.declared.line.Line.{Line}
use Rattle.script_text.specs.declared.line.Line.TheVariants as line
use Rattle.server_links.specs.declared.fault.WorldFault.TheVariants.{NothingThere}
use Rattle.server_links.specs.declared.direction.Direction.{Direction}
use Rattle.server_links.specs.Directions.{cut, finished, is_open, is_queued, past_eof, put, without}
use Rattle.server_links.specs.Directions.{without_bytes}
use Rattle.server_links.specs.EntryLines.{dropped_lines, reply_lines}
use Rattle.server_links.specs.Outcome.{Outcome, and_then, does, refuses, stays}
use Rattle.server_links.specs.Session.{Session, with_down, with_link, with_past, with_reader}
use Rattle.server_links.specs.Session.{with_up}

-- ---- a turn of the server

-- it prints what the turn did, and then whom it dropped
abbrev pub turned : Session → List (List ℕ) → Turn → Outcome Session
turned s words t = record {
  state = with_past s t.past;
  lines = reply_lines s.link.name words t.reply
      ++ dropped_lines s.limits s.names t.reply t.past;
  fault = None;
  points = (s, []) ∷ [];
}

-- a turn and its line: both, or neither
unfoldable pub turn : BookCall → List (List ℕ) → Session → Outcome Session
turn c words s = turned s words (book_step s.limits s.past c)

-- ---- the client's end puts bytes on the way to the server

abbrev pub say : List ℕ → Session → Outcome Session
say bytes s = does s (with_link s (with_up s.link (put bytes s.link.up))) []

-- ---- the server's end reads

-- the reader after the request that begins what it has
abbrev pub past_request : Stream → Parsed (List (List ℕ)) → Stream
past_request reader (Whole words rest) = moved_on reader rest
past_request reader More = reader
past_request reader (Bad fault rest) = reader

abbrev pub next_read : Session → Session
next_read s =
    with_link s (with_reader s.link (past_request s.link.reader
    (request_at (skip_empty s.link.reader.rest))))

-- behind a QUIT or a drop a request is passed over: its Run is refused, prints nothing and adds no
-- entry
unfoldable pub run_one : List (List ℕ) → Session → Outcome Session
run_one words s =
    and_then (does s (next_read s) []) (λ s. turn (call.Run s.link.id words s.now) words s)

unfoldable pub run_all : List (List (List ℕ)) → Session → Outcome Session
run_all [] s = stays s
run_all (words ∷ requests) s = and_then (run_one words s) (run_all requests)

unfoldable pub close : Session → Outcome Session
close s = turn (call.Close s.link.id) [] s

abbrev pub stopped_at : Option StreamFault → Option FaultPlace
stopped_at None = None
stopped_at (Some fault) = fault_place fault

-- a fault of the stream closes the connection, and so does an EOF that was read, also after a QUIT;
-- what follows a fault is passed over
abbrev pub stop_open : Option FaultPlace → Bool → Session → Outcome Session
stop_open (Some place) eof s =
    and_then (does s s (line.Bad s.link.name place.number place.offset ∷ [])) close
stop_open None true s = close s
stop_open None false s = stays s

-- where one of the requests, or what it told, dropped the connection, both are passed over
abbrev pub stop : Option FaultPlace → Bool → Session → Outcome Session
stop fault eof s =
    if reads_on s.limits s.past s.link.id then stop_open fault eof s else stays s

abbrev pub rest_read : Stream → Session → Outcome Session
rest_read rest s = does s (with_link s (with_reader s.link rest)) []

-- each whole request in what was fed is one Run, up to a QUIT or a drop
unfoldable pub run_requests : Session → Outcome Session
run_requests s =
    let p = parse s.link.reader in and_then (run_all p.items s) (rest_read p.stream)

-- and then comes what stops the reading
unfoldable pub run_fed : Bool → Session → Outcome Session
run_fed eof s = and_then (run_requests s) (stop (stopped_at (parse s.link.reader).fault) eof)

abbrev pub feed : List ℕ → Direction → Session → Outcome Session
feed piece up s =
    does s (with_link s (with_reader (with_up s.link up) (fed s.link.reader piece))) []

unfoldable pub serve_all : Session → Outcome Session
serve_all s =
    if reads_on s.limits s.past s.link.id
    then and_then (feed s.link.up.bytes (past_eof (without_bytes s.link.up)) s)
    (run_fed (is_queued s.link.up.eof))
    else stays s

-- a count moves so many bytes, and never an EOF
abbrev pub serve : Option ℕ → Session → Outcome Session
serve None s = serve_all s
serve (Some n) s =
    if reads_on s.limits s.past s.link.id && nat_le n (length s.link.up.bytes)
    then and_then (feed (take n s.link.up.bytes) (without n s.link.up) s) (run_fed false)
    else refuses s NothingThere

-- ---- the server's end sends

abbrev pub bytes_of : BookReply → List ℕ
bytes_of (Admitted e id) = []
bytes_of (Ran e) = []
bytes_of (Ticked e) = []
bytes_of Quiet = []
bytes_of (Bytes e bytes) = bytes
bytes_of (Closed e) = []
bytes_of (Refused r) = []

-- One Take, and what it gives goes on the way to the client.
unfoldable pub take_down : ℕ → Session → Outcome Session
take_down most s =
    let t = book_step s.limits s.past (call.Take s.link.id most) in
    and_then (turned s [] t)
    (λ s. does s (with_link s (with_down s.link (put (bytes_of t.reply) s.link.down))) [])

-- no bound on what is taken
abbrev pub all_bytes : ℕ
all_bytes = 2 ^ 64 - 1

-- once nothing is left of what a connection that has ended was sent, its EOF follows
abbrev pub with_end : Session → Session
with_end s =
    if has_ended s.limits s.link.id s.past
    && (length (unsent s.limits s.link.id s.past) == 0)
    then with_link s (with_down s.link (finished s.link.down))
    else s

abbrev pub end_down : Session → Outcome Session
end_down s = stays (with_end s)

-- A connection that was closed gets its EOF, and one that quit gets it behind its last bytes; after
-- an EOF nothing is sent.
abbrev pub send_all : Session → Outcome Session
send_all s =
    if is_open s.link.down.eof
    then (if gives_on s.limits s.past s.link.id then and_then (take_down all_bytes s) end_down
    else stays (with_link s (with_down s.link (finished s.link.down))))
    else stays s

abbrev pub send : Option ℕ → Session → Outcome Session
send None s = send_all s
send (Some n) s =
    if is_open s.link.down.eof && gives_on s.limits s.past s.link.id
    && nat_le n (length (unsent s.limits s.link.id s.past))
    then and_then (take_down n s) end_down
    else refuses s NothingThere

-- ---- the client's end reads

abbrev pub read_lines : List ℕ → List ℕ → List Line
read_lines link [] = []
read_lines link (b ∷ bytes) = line.Read link (b ∷ bytes) ∷ []

abbrev pub eof_lines : List ℕ → Bool → List Line
eof_lines link true = line.End link ∷ []
eof_lines link false = []

abbrev pub read_bytes : List ℕ → Direction → Session → Outcome Session
read_bytes bytes down s =
    does s (with_link s (with_down s.link down)) (read_lines s.link.name bytes)

abbrev pub read_eof : Session → Outcome Session
read_eof s =
    does s (with_link s (with_down s.link (past_eof s.link.down)))
    (eof_lines s.link.name (is_queued s.link.down.eof))

unfoldable pub receive_all : Session → Outcome Session
receive_all s = and_then (read_bytes s.link.down.bytes (without_bytes s.link.down) s) read_eof

abbrev pub receive : Option ℕ → Session → Outcome Session
receive None s = receive_all s
receive (Some n) s =
    if nat_le n (length s.link.down.bytes)
    then read_bytes (take n s.link.down.bytes) (without n s.link.down) s
    else refuses s NothingThere

-- ---- all of it

unfoldable pub flow : Session → Outcome Session
flow s = and_then (serve_all s) (λ s. and_then (send_all s) receive_all)

-- what is in flight is lost on both ways, and each gets an EOF; it takes no memory
abbrev pub cut_off : Session → Outcome Session
cut_off s = stays (with_link s (with_up (with_down s.link (cut s.link.down)) (cut s.link.up)))

-- the client's end hangs up: an EOF follows what is on the way up
abbrev pub hang_up : Session → Outcome Session
hang_up s = stays (with_link s (with_up s.link (finished s.link.up)))

-- what moves over one link
abbrev pub moved : LinkMove → Session → Outcome Session
moved (moves.Serve count) s = serve count s
moved (moves.Send count) s = send count s
moved (moves.Recv count) s = receive count s
moved moves.Flow s = flow s
moved moves.HangUp s = hang_up s
moved moves.Cut s = cut_off s

-- what an event of one link does there; the others do nothing of one link
abbrev pub move_of : LinkEvent → Session → Outcome Session
move_of (Raw name) s = stays s
move_of (Put name bytes) s = say bytes s
move_of (Over name move) s = moved move s
move_of (Now moment) s = stays s
move_of Tick s = stays s
