-- Only a query that is asked prints an answer from the cache.
use Rattle.std.proofs.Common.{ℕ, zero, suc, List, [], ◌∷◌, ◌++◌, Bool, cond, Some, None, Option}
use Rattle.std.proofs.Common.{take, arith}
use Rattle.resp_value.specs.Tree.{Tree}
use Rattle.resp_value.specs.ValueTree.{value_of}
use Rattle.resp_value.specs.declared.value.Value.{Value}
use Rattle.resp_stream.specs.declared.fault.FaultPlace.{FaultPlace}
use Rattle.serial_model.specs.declared.history.BookReply.{BookReply}
use Rattle.serial_model.specs.declared.history.BookCall.{BookCall}
use Rattle.serial_model.specs.declared.history.BookCall.TheVariants as book
use Rattle.serial_model.specs.declared.history.Entry.{Entry}
use Rattle.serial_model.specs.declared.history.Limits.{Limits}
use Rattle.serial_model.specs.Steps.{Turn, book_step}
use Rattle.shared_cache.specs.declared.entry.CacheEntry.{CacheEntry}
use Rattle.shared_cache.specs.declared.log.Wire.{Wire}
use Rattle.shared_cache.specs.declared.log.Wire.TheVariants.{Main}
use Rattle.shared_cache.specs.declared.log.ClientCall.{ClientCall}
use Rattle.shared_cache.specs.declared.log.ClientCall.TheVariants as call
use Rattle.shared_cache.specs.declared.log.ClientRefusal.{ClientRefusal}
use Rattle.shared_cache.specs.declared.log.ClientReply.{ClientReply}
use Rattle.shared_cache.specs.Laws.{Every}
use Rattle.script_text.specs.declared.line.Line.{Line}
use Rattle.script_text.specs.declared.line.Line.TheVariants as line
use Rattle.server_links.specs.declared.link.LinkMove.TheVariants as moves
use Rattle.server_links.specs.EntryLines.{drop_lines, dropped_lines, reply_lines}
use Rattle.server_links.specs.LinkEvent.{LinkEvent, Raw, Put, Over, Now, Tick}
use Rattle.server_links.specs.LinksState.{LinksState, names}
use Rattle.server_links.specs.LinkSteps.{over, over_named, place_of, step, tick, tick_line}
use Rattle.server_links.specs.LinkSteps.{tick_lines}
use Rattle.server_links.specs.Moves.{all_bytes, stopped_at, turned, run_one, run_all, run_requests}
use Rattle.server_links.specs.Moves.{run_fed, serve_all, serve, take_down, end_down, send_all, send}
use Rattle.server_links.specs.Moves.{eof_lines, read_lines, read_bytes, read_eof, receive_all}
use Rattle.server_links.specs.Moves.{move_of, moved}
use Rattle.server_links.specs.Moves as link_moves
use Rattle.server_links.specs.Outcome.{Outcome, and_then, does, within}
use Rattle.server_links.specs.Session.{Session}
use Rattle.world_run.specs.WorldState.{LinkEnd}
use Rattle.world_run.specs.Members.{Seat, link_of, links_do, with_links}
use Rattle.world_run.specs.ClientMoves.{ending_lines, feed, flow, got, got_all, got_one, hang_up}
use Rattle.world_run.specs.ClientMoves.{hang_up_main, has_ended, held_lines, lines_of, listed_line}
use Rattle.world_run.specs.ClientMoves.{next_read, out, print, read, read_values, receive}
use Rattle.world_run.specs.ClientMoves.{receive_bytes, receive_eof, refused_lines, show, stop}
use Rattle.world_run.specs.ClientMoves.{take_out, turn}

abbrev pub NoHit : Line → Type 0
NoHit (line.Hit name v entry at) = ⊥
NoHit l = Unit {0}

abbrev pub NoHits : List Line → Type 0
NoHits ls = Every NoHit ls

pub both : (xs ys : List Line) → NoHits xs → NoHits ys → NoHits (xs ++ ys)
both [] ys a b = b
both (x ∷ xs) ys a b = (a.0, both xs ys a.1 b)

abbrev pub Hitless : {S : Type 0} → Outcome S → Type 0
Hitless m = NoHits m.lines

pub h_then : {S : Type 0} → (m : Outcome S) (next : S → Outcome S) → Hitless m
    → ((t : S) → Hitless (next t)) → Hitless (and_then m next)
unfolding and_then
h_then m next a g = grind (arith, both)

pub h_if : {S : Type 0} → (b : Bool) (m n : Outcome S) → Hitless m → Hitless n
    → Hitless (cond b m n)
h_if e m n a b = grind arith

pub h_within : {S T : Type 0} → (f : S → T) (m : Outcome S) → Hitless m → Hitless (within f m)
unfolding within
h_within f m a = a

-- ---- links

h_reply : (link : List ℕ) (words : List (List ℕ)) (r : BookReply)
    → NoHits (reply_lines link words r)
h_reply link words r = grind arith

h_drops : (e : ℕ) (names : List (List ℕ)) (ids : List ℕ) → NoHits (drop_lines e names ids)
h_drops e names [] = tt
h_drops e names (id ∷ ids) = (tt, h_drops e names ids)

h_dropped : (l : Limits) (names : List (List ℕ)) (r : BookReply) (past : List Entry)
    → NoHits (dropped_lines l names r past)
h_dropped l names r past = grind (arith, h_drops)

h_turned : (s : Session) (words : List (List ℕ)) (t : Turn) → Hitless (turned s words t)
h_turned s words t =
    both (reply_lines s.link.name words t.reply) _ (h_reply s.link.name words t.reply)
    (h_dropped s.limits s.names t.reply t.past)

h_made : (c : BookCall) (words : List (List ℕ)) (s : Session)
    → Hitless (link_moves.turn c words s)
unfolding link_moves.turn
h_made c words s = h_turned s words (book_step s.limits s.past c)

h_run_all : (requests : List (List (List ℕ))) (s : Session) → Hitless (run_all requests s)
unfolding run_all run_one
h_run_all [] s = tt
h_run_all (words ∷ requests) s =
    h_then (run_one words s) (run_all requests)
    (grind (arith, h_then, h_made))
    (h_run_all requests)

h_close : (s : Session) → Hitless (link_moves.close s)
unfolding link_moves.close
h_close s = h_made (book.Close s.link.id) [] s

h_stop : (place : Option FaultPlace) (eof : Bool) (s : Session)
    → Hitless (link_moves.stop place eof s)
h_stop place eof s = grind (arith, h_then, h_close)

h_run_fed : (eof : Bool) (s : Session) → Hitless (run_fed eof s)
unfolding run_fed run_requests
h_run_fed eof s = grind (arith, h_then, h_run_all, h_stop)

h_serve_all : (s : Session) → Hitless (serve_all s)
unfolding serve_all
h_serve_all s = grind (arith, h_if, h_then, h_run_fed)

h_serve : (count : Option ℕ) (s : Session) → Hitless (serve count s)
h_serve count s = grind (arith, h_serve_all, h_if, h_then, h_run_fed)

h_take : (most : ℕ) (s : Session) → Hitless (take_down most s)
unfolding take_down
h_take most s =
    h_then (turned s [] (book_step s.limits s.past (book.Take s.link.id most))) _
    (h_turned s [] (book_step s.limits s.past (book.Take s.link.id most))) (λ t. tt)

-- and perhaps an EOF behind it
h_down : (most : ℕ) (s : Session) → Hitless (and_then (take_down most s) end_down)
h_down most s = h_then (take_down most s) end_down (h_take most s) (λ t. tt)

h_send_all : (s : Session) → Hitless (send_all s)
h_send_all s = grind (arith, h_if, h_down)

h_read : (name bytes : List ℕ) → NoHits (read_lines name bytes)
h_read name bytes = grind arith

h_receive_all : (s : Session) → Hitless (receive_all s)
unfolding receive_all
h_receive_all s = grind (arith, h_then, h_read)

h_flow : (s : Session) → Hitless (link_moves.flow s)
unfolding link_moves.flow
h_flow s = grind (arith, h_then, h_serve_all, h_send_all, h_receive_all)

h_move : (event : LinkEvent) (s : Session) → Hitless (move_of event s)
h_move event s = grind (arith, h_serve, h_flow, h_send_all, h_if, h_down, h_receive_all, h_read)

h_named : (p : Option ℕ) (event : LinkEvent) (w : LinksState)
    → Hitless (over_named p (move_of event) w)
unfolding over
h_named p event w = grind (arith, h_within, h_move)

h_tick : (moment : ℕ) (r : BookReply) → NoHits (tick_line moment r)
h_tick moment r = grind arith

h_ticked : (w : LinksState) (moment : ℕ) (t : Turn) → NoHits (tick_lines w moment t)
h_ticked w moment t =
    both (tick_line moment t.reply) _ (h_tick moment t.reply)
    (h_dropped w.limits (names w.links) t.reply t.past)

pub h_step : (event : LinkEvent) (w : LinksState) → Hitless (step w event)
unfolding step tick
h_step (Raw name) w = grind (arith, h_reply)
h_step (Put name bytes) w = h_named (place_of name w) (Put name bytes) w
h_step (Over name move) w = h_named (place_of name w) (Over name move) w
h_step (Now moment) w = tt
h_step Tick w = h_ticked w _ _

-- ---- clients

h_links : (event : LinkEvent) (s : Seat) → Hitless (links_do event s)
unfolding links_do
h_links event s = h_within (with_links s) (step s.links event) (h_step event s.links)

h_refused : (name : List ℕ) (r : ClientRefusal) → NoHits (refused_lines name r)
h_refused name r = grind arith

h_ending : (name : List ℕ) (r : ClientRefusal) → NoHits (ending_lines name r)
h_ending name r = grind arith

-- a query is asked
abbrev pub IsAsk : ClientCall → Type 0
IsAsk (call.Ask q) = Unit {0}
IsAsk c = ⊥

h_lines : (e : LinkEnd) (s : Seat) (c : ClientCall) (r : ClientReply) → (IsAsk c → ⊥)
    → NoHits (lines_of e s c r)
h_lines e s c r n = grind (arith, h_refused, h_ending)

pub h_turn : (c : ClientCall) (e : LinkEnd) (s : Seat) → (IsAsk c → ⊥) → Hitless (turn c e s)
unfolding turn
h_turn c e s n = grind (arith, h_then, h_lines)

h_taking : (most : ℕ) (e : LinkEnd) (s : Seat) → Hitless (take_out most e s)
unfolding take_out
h_taking most e s = grind (arith, h_then, h_turn, h_links)

pub h_out : (count : Option ℕ) (e : LinkEnd) (s : Seat) → Hitless (out count e s)
h_out count e s = grind (arith, h_if, h_taking)

h_got : (v : Value) (e : LinkEnd) (s : Seat) → Hitless (got v e s)
h_got v e s = grind (arith, h_if, h_turn)

h_got_all : (ts : List Tree) (e : LinkEnd) (s : Seat) → Hitless (got_all ts e s)
unfolding got_all got_one
h_got_all [] e s = tt
h_got_all (t ∷ ts) e s =
    h_then (got_one t e s) (got_all ts e)
    (h_then (does s (next_read s) []) (got (value_of t) e) tt (h_got (value_of t) e))
    (h_got_all ts e)

h_stopped : (place : Option FaultPlace) (e : LinkEnd) (s : Seat) → Hitless (stop place e s)
h_stopped place e s = grind (arith, h_if, h_then, h_turn)

h_values : (e : LinkEnd) (s : Seat) → Hitless (read_values e s)
unfolding read_values
h_values e s = grind (arith, h_then, h_got_all, h_stopped)

h_bytes : (n : ℕ) (e : LinkEnd) (s : Seat) → Hitless (receive_bytes n e s)
unfolding receive_bytes
h_bytes n e s =
    let piece = take n (link_of e s).down.bytes in
    h_then (links_do (Over e.link (moves.Recv (Some n))) s)
    (λ t. and_then (feed piece t) (λ t. and_then (read_values e t) (hang_up e)))
    (h_links (Over e.link (moves.Recv (Some n))) s)
    (grind (arith, h_then, h_values, h_if, h_links))

h_ended : (e : LinkEnd) (s : Seat) → Hitless (receive_eof e s)
unfolding receive_eof
h_ended e s = grind (arith, h_then, h_links, h_if, h_turn)

h_reading : (count : Option ℕ) (e : LinkEnd) (s : Seat) → Hitless (read count e s)
h_reading count e s = grind (arith, h_if, h_then, h_bytes, h_ended)

h_main : (w : Wire) (before : Bool) (s : Seat) → Hitless (hang_up_main w before s)
h_main w before s = grind (arith, h_if, h_links)

pub h_received : (count : Option ℕ) (e : LinkEnd) (s : Seat) → Hitless (receive count e s)
unfolding receive
h_received count e s =
    h_then (read count e s) (hang_up_main e.wire (has_ended Main s)) (h_reading count e s)
    (h_main e.wire (has_ended Main s))

pub h_flows : (e : LinkEnd) (s : Seat) → Hitless (flow e s)
unfolding flow
h_flows e s =
    h_then (out None e s) _ (h_out None e s)
    (λ t. h_then (links_do (Over e.link (moves.Serve None)) t) _
    (h_links (Over e.link (moves.Serve None)) t)
    (λ u. h_then (links_do (Over e.link (moves.Send None)) u) (receive None e)
    (h_links (Over e.link (moves.Send None)) u) (h_received None e)))

h_listed : (s : Seat) (o : Option CacheEntry) → NoHits (listed_line s o)
h_listed s o = grind arith

h_held : (n : ℕ) (s : Seat) → NoHits (held_lines n s)
h_held zero s = tt
h_held (suc n) s = grind (arith, both, h_listed, h_held n s)

h_print : (ls : List Line) → NoHits ls → (s : Seat) → Hitless (print ls s)
unfolding print
h_print [] a s = tt
h_print (l ∷ ls) a s = h_then (does s s (l ∷ [])) (print ls) (a.0, tt) (h_print ls a.1)

pub h_show : (s : Seat) → Hitless (show s)
unfolding show
h_show s = grind (arith, h_print, both, h_held)
