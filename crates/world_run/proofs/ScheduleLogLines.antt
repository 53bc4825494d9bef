-- What the moves of links and clients print: an answer only at a call, and what was read only of
-- the link that is read.
use Rattle.std.proofs.Common.{◌≡◌, ◌⊎◌, ℕ, zero, suc, List, [], ◌∷◌, ◌++◌, Bool, true, false, cond}
use Rattle.std.proofs.Common.{Some, None, Option, take, inl, inr, refl, sym, ap, ◌∙◌, arith}
use Rattle.std.proofs.Common.{not, subst}
use Rattle.std.specs.Prelude.{◌||◌, ◌&&◌, length, nat_le, option_to_list}
use Rattle.std.specs.Str.{bytes_eq}
use Rattle.resp_value.specs.Tree.{Tree}
use Rattle.resp_value.specs.ValueTree.{value_of}
use Rattle.resp_value.specs.declared.value.Value.{Value}
use Rattle.resp_stream.specs.declared.fault.FaultPlace.{FaultPlace}
use Rattle.resp_stream.specs.Parse.{parse, parse_values}
use Rattle.serial_model.specs.declared.history.BookReply.{BookReply}
use Rattle.serial_model.specs.declared.history.BookCall.{BookCall}
use Rattle.serial_model.specs.declared.history.BookCall.TheVariants as book
use Rattle.serial_model.specs.declared.history.Entry.{Entry}
use Rattle.serial_model.specs.declared.history.Limits.{Limits}
use Rattle.serial_model.specs.History.{reads_on}
use Rattle.serial_model.specs.Steps.{Turn, book_step}
use Rattle.shared_cache.specs.declared.entry.CacheEntry.{CacheEntry}
use Rattle.shared_cache.specs.declared.log.ClientCall.{ClientCall}
use Rattle.shared_cache.specs.declared.log.ClientCall.TheVariants as call
use Rattle.shared_cache.specs.declared.log.ClientRefusal.{ClientRefusal}
use Rattle.shared_cache.specs.declared.log.ClientReply.{ClientReply}
use Rattle.shared_cache.specs.declared.log.Wire.{Wire}
use Rattle.shared_cache.specs.declared.log.Wire.TheVariants.{Main, Side}
use Rattle.shared_cache.specs.Held.{held, held_in_place}
use Rattle.shared_cache.specs.Steps.{client_step}
use Rattle.script_text.specs.declared.line.Line.{Line}
use Rattle.script_text.specs.declared.line.Line.TheVariants as line
use Rattle.server_links.specs.declared.fault.WorldFault.TheVariants.{NothingThere}
use Rattle.server_links.specs.declared.link.LinkMove.{LinkMove}
use Rattle.server_links.specs.declared.link.LinkMove.TheVariants as moves
use Rattle.server_links.specs.Directions.{is_queued, past_eof, without, without_bytes}
use Rattle.server_links.specs.EntryLines.{drop_lines, dropped_lines, reply_lines}
use Rattle.server_links.specs.LinkEvent.{LinkEvent, Raw, Put, Over, Now, Tick}
use Rattle.server_links.specs.LinksState.{LinksState, names}
use Rattle.server_links.specs.LinkSteps.{over, over_named, place_of, step, tick, tick_line}
use Rattle.server_links.specs.LinkSteps.{tick_lines}
use Rattle.server_links.specs.Moves.{stopped_at, turned, run_one, run_all, run_requests}
use Rattle.server_links.specs.Moves.{run_fed, serve_all, serve, take_down, end_down, send_all, send}
use Rattle.server_links.specs.Moves.{eof_lines, read_lines, receive_all, move_of}
use Rattle.server_links.specs.Moves as link_moves
use Rattle.server_links.specs.OneHistory.{read_by, read_on}
use Rattle.server_links.specs.Outcome.{Outcome, and_then, does, refuses, stays, then_by, within}
use Rattle.server_links.specs.Session.{Session, session_at}
use Rattle.server_links.proofs.Moving.{every_named, every_send_all, every_serve_all}
use Rattle.server_links.proofs.Names.{placed}
use Rattle.world_run.specs.WorldState.{LinkEnd, link_on}
use Rattle.world_run.specs.Members.{Seat, link_of, links_do, log_of, setup_of, with_links, with_log}
use Rattle.world_run.specs.ClientMoves.{answers, bytes_of, complete_at, ending_lines, fault_of}
use Rattle.world_run.specs.ClientMoves.{feed, flow, got, got_all, got_one, hang_up, hang_up_main}
use Rattle.world_run.specs.ClientMoves.{has_ended, held_lines, lines_of, listed_line, next_read}
use Rattle.world_run.specs.ClientMoves.{out, print, read, read_values, receive, receive_bytes}
use Rattle.world_run.specs.ClientMoves.{receive_eof, rest_read, show, shown, stop, take_out, turn}
use Rattle.world_run.specs.ReadLog.{has_eof, is_eof_of}
use Rattle.world_run.specs.ScheduleLog.{answer_by, answerer, answers_of}
use Rattle.world_run.proofs.Links.{IsUnread, name_of_event}

-- of another link than the one that is named
abbrev pub Apart : Option (List ℕ) → List ℕ → Type 0
Apart None link = Unit {0}
Apart (Some name) link = bytes_eq link name ≡ false

-- no answer of a client, and nothing that was read on that link, nor an EOF
abbrev pub Quiet : Option (List ℕ) → Line → Type 0
Quiet o (line.Read link bytes) = Apart o link
Quiet o (line.End link) = Apart o link
Quiet o (line.Hit client value e point) = ⊥
Quiet o (line.Miss client number) = ⊥
Quiet o (line.Sent client number) = ⊥
Quiet o (line.Answer client number value) = ⊥
Quiet o (line.Wait client number) = ⊥
Quiet o (line.Down client) = ⊥
Quiet o (line.NotReady client) = ⊥
Quiet o l = Unit {0}

abbrev pub AllQuiet : Option (List ℕ) → List Line → Type 0
AllQuiet o [] = Unit {0}
AllQuiet o (l ∷ ls) = Quiet o l × AllQuiet o ls

pub both : (o : Option (List ℕ)) (xs ys : List Line) → AllQuiet o xs → AllQuiet o ys
    → AllQuiet o (xs ++ ys)
both o [] ys a b = b
both o (x ∷ xs) ys a b = (a.0, both o xs ys a.1 b)

quiet_answer : (name : List ℕ) (o : Option (List ℕ)) (l : Line) → Quiet o l
    → option_to_list (answer_by name (answerer l) l) ≡ []
quiet_answer name o l q = grind arith

-- no answer is among them
pub no_answers : (name : List ℕ) (o : Option (List ℕ)) (ls : List Line) → AllQuiet o ls
    → answers_of name ls ≡ []
no_answers name o [] a = refl
no_answers name o (l ∷ ls) a =
    ap (λ x. x ++ answers_of name ls) (quiet_answer name o l a.0) ∙ no_answers name o ls a.1

quiet_eof : (name : List ℕ) (l : Line) → Quiet (Some name) l → is_eof_of name l ≡ false
quiet_eof name l q = grind arith

-- nor an EOF of that link
pub no_eof : (name : List ℕ) (ls : List Line) → AllQuiet (Some name) ls
    → has_eof name ls ≡ false
no_eof name [] a = refl
no_eof name (l ∷ ls) a =
    ap (λ b. b || has_eof name ls) (quiet_eof name l a.0) ∙ no_eof name ls a.1

quiet_read : (name : List ℕ) (l : Line) → Quiet (Some name) l → read_by name l ≡ []
quiet_read name l q = grind arith

-- nor what was read there
pub no_read : (name : List ℕ) (ls : List Line) → AllQuiet (Some name) ls → read_on name ls ≡ []
no_read name [] a = refl
no_read name (l ∷ ls) a =
    ap (λ x. x ++ read_on name ls) (quiet_read name l a.0) ∙ no_read name ls a.1

-- ---- one after another

abbrev pub Quiets : {S : Type 0} → Option (List ℕ) → Outcome S → Type 0
Quiets o m = AllQuiet o m.lines

q_then : {S : Type 0} → (o : Option (List ℕ)) (m : Outcome S) (next : S → Outcome S)
    → Quiets o m → (m.fault ≡ None → Quiets o (next m.state)) → Quiets o (and_then m next)
unfolding and_then
q_then o m next a g =
    elim m.fault as (λ f. m.fault ≡ f → AllQuiet o (then_by f m (next m.state)).lines) [
      | Some f ↦ λ is. a
      | None ↦ λ is. both o m.lines (next m.state).lines a (g is)
    ] refl

pub q_next : {S : Type 0} → (o : Option (List ℕ)) (m : Outcome S) (next : S → Outcome S)
    → Quiets o m → ((t : S) → Quiets o (next t)) → Quiets o (and_then m next)
q_next o m next a g = q_then o m next a (λ none. g m.state)

pub q_if : {S : Type 0} → (o : Option (List ℕ)) (b : Bool) (m n : Outcome S) → Quiets o m
    → Quiets o n → Quiets o (cond b m n)
q_if o e m n a b = grind arith

pub q_within : {S T : Type 0} → (o : Option (List ℕ)) (f : S → T) (m : Outcome S) → Quiets o m
    → Quiets o (within f m)
unfolding within
q_within o f m a = a

-- ---- links

module _ (o : Option (List ℕ)) where
  q_reply : (link : List ℕ) (words : List (List ℕ)) (r : BookReply)
      → AllQuiet o (reply_lines link words r)
  q_reply link words r = grind arith

  q_drops : (e : ℕ) (names : List (List ℕ)) (ids : List ℕ) → AllQuiet o (drop_lines e names ids)
  q_drops e names [] = tt
  q_drops e names (id ∷ ids) = (tt, q_drops e names ids)

  q_dropped : (l : Limits) (names : List (List ℕ)) (r : BookReply) (past : List Entry)
      → AllQuiet o (dropped_lines l names r past)
  q_dropped l names r past = grind (arith, q_drops)

  q_turned : (s : Session) (words : List (List ℕ)) (t : Turn) → Quiets o (turned s words t)
  q_turned s words t =
      both o (reply_lines s.link.name words t.reply) _ (q_reply s.link.name words t.reply)
      (q_dropped s.limits s.names t.reply t.past)

  q_made : (c : BookCall) (words : List (List ℕ)) (s : Session)
      → Quiets o (link_moves.turn c words s)
  unfolding link_moves.turn
  q_made c words s = q_turned s words (book_step s.limits s.past c)

  q_run_all : (requests : List (List (List ℕ))) (s : Session) → Quiets o (run_all requests s)
  unfolding run_all run_one
  q_run_all [] s = tt
  q_run_all (words ∷ requests) s =
      q_next o (run_one words s) (run_all requests)
      (q_next o (does s (link_moves.next_read s) [])
      (λ t. link_moves.turn (book.Run t.link.id words t.now) words t) tt
      (λ t. q_made (book.Run t.link.id words t.now) words t))
      (q_run_all requests)

  q_close : (s : Session) → Quiets o (link_moves.close s)
  unfolding link_moves.close
  q_close s = q_made (book.Close s.link.id) [] s

  q_stop_open : (place : Option FaultPlace) (eof : Bool) (s : Session)
      → Quiets o (link_moves.stop_open place eof s)
  q_stop_open (Some place) eof s =
      q_next o (does s s (line.Bad s.link.name place.number place.offset ∷ []))
      link_moves.close (tt, tt) q_close
  q_stop_open None true s = q_close s
  q_stop_open None false s = tt

  q_stop : (place : Option FaultPlace) (eof : Bool) (s : Session)
      → Quiets o (link_moves.stop place eof s)
  q_stop place eof s =
      q_if o (reads_on s.limits s.past s.link.id) (link_moves.stop_open place eof s) (stays s)
      (q_stop_open place eof s) tt

  q_run_fed : (eof : Bool) (s : Session) → Quiets o (run_fed eof s)
  unfolding run_fed run_requests
  q_run_fed eof s =
      let p = parse s.link.reader in
      q_next o (run_requests s) (link_moves.stop (stopped_at p.fault) eof)
      (q_next o (run_all p.items s) (link_moves.rest_read p.stream) (q_run_all p.items s)
      (λ t. tt))
      (q_stop (stopped_at p.fault) eof)

  q_serve_all : (s : Session) → Quiets o (serve_all s)
  unfolding serve_all
  q_serve_all s =
      q_if o (reads_on s.limits s.past s.link.id) _ (stays s)
      (q_next o (link_moves.feed s.link.up.bytes (past_eof (without_bytes s.link.up)) s)
      (run_fed (is_queued s.link.up.eof)) tt (q_run_fed (is_queued s.link.up.eof)))
      tt

  q_serve : (count : Option ℕ) (s : Session) → Quiets o (serve count s)
  q_serve None s = q_serve_all s
  q_serve (Some n) s =
      q_if o (reads_on s.limits s.past s.link.id && nat_le n (length s.link.up.bytes)) _
      (refuses s NothingThere)
      (q_next o (link_moves.feed (take n s.link.up.bytes) (without n s.link.up) s)
      (run_fed false) tt (q_run_fed false))
      tt

  q_take : (most : ℕ) (s : Session) → Quiets o (take_down most s)
  unfolding take_down
  q_take most s =
      let t = book_step s.limits s.past (book.Take s.link.id most) in
      q_next o (turned s [] t) _ (q_turned s [] t) (λ u. tt)

  -- and perhaps an EOF behind it
  q_down : (most : ℕ) (s : Session) → Quiets o (and_then (take_down most s) end_down)
  q_down most s = q_next o (take_down most s) end_down (q_take most s) (λ t. tt)

  q_send_all : (s : Session) → Quiets o (send_all s)
  q_send_all s = grind (arith, q_if, q_down)

  q_send : (count : Option ℕ) (s : Session) → Quiets o (send count s)
  q_send count s = grind (arith, q_send_all, q_if, q_down)

  q_read : (name bytes : List ℕ) → Apart o name → AllQuiet o (read_lines name bytes)
  q_read name bytes apart = grind arith

  q_eof : (name : List ℕ) (b : Bool) → Apart o name → AllQuiet o (eof_lines name b)
  q_eof name b apart = grind arith

  q_receive_all : (s : Session) → Apart o s.link.name → Quiets o (receive_all s)
  unfolding receive_all
  q_receive_all s apart =
      q_then o _ _ (q_read s.link.name s.link.down.bytes apart)
      (λ none. q_eof s.link.name _ apart)

  q_session : (count : Option ℕ) (s : Session) → Apart o s.link.name
      → Quiets o (link_moves.receive count s)
  q_session count s apart = grind (arith, q_receive_all, q_if, q_read)

  q_session_flow : (s : Session) → Apart o s.link.name → Quiets o (link_moves.flow s)
  unfolding link_moves.flow
  q_session_flow s apart =
      let named = every_named s (serve_all s) (every_serve_all s) in
      q_then o (serve_all s) _ (q_serve_all s)
      (λ none. let t = (serve_all s).state in
      q_then o (send_all t) receive_all (q_send_all t)
      (λ more. q_receive_all (send_all t).state
      (subst (λ n. Apart o n)
      (sym (every_named t (send_all t) (every_send_all t) more ∙ named none)) apart)))

  -- a move that reads an EOF is of a link apart
  q_moved : (move : LinkMove) (name : List ℕ) (s : Session)
      → IsUnread (Over name move) ⊎ Apart o s.link.name → Quiets o (move_of (Over name move) s)
  unfolding IsUnread
  q_moved (moves.Serve count) name s r = q_serve count s
  q_moved (moves.Send count) name s r = q_send count s
  q_moved (moves.Recv count) name s (inl none) = absurd none
  q_moved (moves.Recv count) name s (inr apart) = q_session count s apart
  q_moved moves.Flow name s (inl none) = absurd none
  q_moved moves.Flow name s (inr apart) = q_session_flow s apart
  q_moved moves.HangUp name s r = tt
  q_moved moves.Cut name s r = tt

  q_named : (name : List ℕ) (move : LinkMove) (p : Option ℕ) (w : LinksState)
      → place_of name w ≡ p → IsUnread (Over name move) ⊎ Apart o name
      → Quiets o (over_named p (move_of (Over name move)) w)
  unfolding over
  q_named name move None w is r = tt
  q_named name move (Some at) w is r =
      q_within o _ _ (q_moved move name (session_at at w) (elim r [
        | inl none ↦ inl none
        | inr apart ↦ inr (subst (λ n. Apart o n) (sym (placed name w at is).1) apart)
      ]))

  q_put : (name bytes : List ℕ) (p : Option ℕ) (w : LinksState)
      → Quiets o (over_named p (move_of (Put name bytes)) w)
  unfolding over
  q_put name bytes None w = tt
  q_put name bytes (Some at) w = q_within o _ _ tt

  q_tick : (moment : ℕ) (r : BookReply) → AllQuiet o (tick_line moment r)
  q_tick moment r = grind arith

  q_ticked : (w : LinksState) (moment : ℕ) (t : Turn) → AllQuiet o (tick_lines w moment t)
  q_ticked w moment t =
      both o (tick_line moment t.reply) _ (q_tick moment t.reply)
      (q_dropped w.limits (names w.links) t.reply t.past)

  pub q_step : (event : LinkEvent) (w : LinksState)
      → IsUnread event ⊎ Apart o (name_of_event event) → Quiets o (step w event)
  unfolding step tick name_of_event
  q_step (Raw name) w r = grind (arith, q_reply)
  q_step (Put name bytes) w r = q_put name bytes (place_of name w) w
  q_step (Over name move) w r = q_named name move (place_of name w) w refl r
  q_step (Now moment) w r = tt
  q_step Tick w r = q_ticked w _ _

-- ---- clients

-- a query, a command or a poll
abbrev pub IsAsked : ClientCall → Type 0
IsAsked (call.Ask q) = Unit {0}
IsAsked (call.Send words) = Unit {0}
IsAsked (call.Poll n) = Unit {0}
IsAsked c = ⊥

module _ (o : Option (List ℕ)) where
  pub q_links : (event : LinkEvent) (s : Seat) → IsUnread event ⊎ Apart o (name_of_event event)
      → Quiets o (links_do event s)
  unfolding links_do
  q_links event s r = q_within o (with_links s) (step s.links event) (q_step o event s.links r)

  q_ending : (name : List ℕ) (r : ClientRefusal) → AllQuiet o (ending_lines name r)
  q_ending name r = grind arith

  -- a client at one of its ends
  module _ (e : LinkEnd) where
    q_lines : (s : Seat) (c : ClientCall) (r : ClientReply) → (IsAsked c → ⊥)
        → AllQuiet o (lines_of e s c r)
    q_lines s c r n = grind (arith, q_ending)

    q_turn : (c : ClientCall) (s : Seat) → (IsAsked c → ⊥) → Quiets o (turn c e s)
    unfolding turn
    q_turn c s n =
        let t = client_step (setup_of s) (log_of s) c in
        q_next o (does s (with_log s t.past) [])
        (answers (lines_of e s c t.reply) (fault_of t.reply)) tt (λ u. q_lines s c t.reply n)

    q_taking : (most : ℕ) (s : Seat) → Quiets o (take_out most e s)
    unfolding take_out IsUnread
    q_taking most s =
        let t = client_step (setup_of s) (log_of s) (call.TakeOut e.wire most) in
        q_next o (turn (call.TakeOut e.wire most) e s) (links_do (Put e.link (bytes_of t.reply)))
        (q_turn (call.TakeOut e.wire most) s (λ n. n))
        (λ u. q_links (Put e.link (bytes_of t.reply)) u (inl tt))

    pub q_out : (count : Option ℕ) (s : Seat) → Quiets o (out count e s)
    q_out count s = grind (arith, q_if, q_taking)

    q_got : (v : Value) (s : Seat) → Quiets o (got v e s)
    q_got v s = grind (arith, q_if, q_turn)

    q_got_all : (ts : List Tree) (s : Seat) → Quiets o (got_all ts e s)
    unfolding got_all got_one
    q_got_all [] s = tt
    q_got_all (t ∷ ts) s =
        q_next o (got_one t e s) (got_all ts e)
        (q_next o (does s (next_read s) []) (got (value_of t) e) tt (q_got (value_of t)))
        (q_got_all ts)

    q_stopped : (place : Option FaultPlace) (s : Seat) → Quiets o (stop place e s)
    q_stopped None s = tt
    q_stopped (Some place) s =
        q_if o (has_ended e.wire s) (stays s) _ tt
        (q_next o (does s s (line.Bad e.link place.number place.offset ∷ []))
        (turn (call.End e.wire) e) (tt, tt) (λ t. q_turn (call.End e.wire) t (λ n. n)))

    pub q_values : (s : Seat) → Quiets o (read_values e s)
    unfolding read_values
    q_values s =
        let p = parse_values s.reader in
        q_next o (and_then (got_all p.items e s) (rest_read p.stream)) (stop (stopped_at p.fault) e)
        (q_next o (got_all p.items e s) (rest_read p.stream) (q_got_all p.items s) (λ t. tt))
        (q_stopped (stopped_at p.fault))

    pub q_hang : (s : Seat) → Quiets o (hang_up e s)
    unfolding IsUnread
    q_hang s = grind (arith, q_if, q_links, inl)

    q_bytes : (n : ℕ) (s : Seat) → Apart o e.link → Quiets o (receive_bytes n e s)
    unfolding receive_bytes name_of_event
    q_bytes n s apart =
        let piece = take n (link_of e s).down.bytes in
        q_next o (links_do (Over e.link (moves.Recv (Some n))) s)
        (λ t. and_then (feed piece t) (λ t. and_then (read_values e t) (hang_up e)))
        (q_links (Over e.link (moves.Recv (Some n))) s (inr apart))
        (λ t. q_next o (feed piece t) (λ t. and_then (read_values e t) (hang_up e)) tt
        (λ u. q_next o (read_values e u) (hang_up e) (q_values u) q_hang))

    q_ended : (s : Seat) → Apart o e.link → Quiets o (receive_eof e s)
    unfolding receive_eof name_of_event
    q_ended s apart =
        q_next o (links_do (Over e.link (moves.Recv None)) s) _
        (q_links (Over e.link (moves.Recv None)) s (inr apart))
        (λ t. grind (arith, q_if, q_turn))

    q_all : (s : Seat) → Apart o e.link
        → Quiets o (and_then (receive_bytes (length (link_of e s).down.bytes) e s) (receive_eof e))
    q_all s apart =
        q_next o (receive_bytes (length (link_of e s).down.bytes) e s) (receive_eof e)
        (q_bytes (length (link_of e s).down.bytes) s apart) (λ t. q_ended t apart)

    q_reading : (count : Option ℕ) (s : Seat) → Apart o e.link → Quiets o (read count e s)
    q_reading None s apart = grind (arith, q_if, q_all)
    q_reading (Some n) s apart = grind (arith, q_if, q_bytes)

    -- the client's other link only hangs up
    pub q_hang_main : (u : Wire) (before : Bool) (s : Seat) → Quiets o (hang_up_main u before s)
    unfolding IsUnread
    q_hang_main Main before s = tt
    q_hang_main Side before s =
        q_if o (not before && has_ended Main s) _ (stays s)
        (q_links (Over (link_on Main s.member.name) moves.HangUp) s (inl tt)) tt

    pub q_receive : (count : Option ℕ) (s : Seat) → Apart o e.link → Quiets o (receive count e s)
    unfolding receive
    q_receive count s apart =
        q_next o (read count e s) (hang_up_main e.wire (has_ended Main s))
        (q_reading count s apart) (q_hang_main e.wire (has_ended Main s))

    pub q_flow : (s : Seat) → Apart o e.link → Quiets o (flow e s)
    unfolding flow IsUnread
    q_flow s apart =
        q_next o (out None e s) _ (q_out None s)
        (λ t. q_next o (links_do (Over e.link (moves.Serve None)) t) _
        (q_links (Over e.link (moves.Serve None)) t (inl tt))
        (λ u. q_next o (links_do (Over e.link (moves.Send None)) u) (receive None e)
        (q_links (Over e.link (moves.Send None)) u (inl tt)) (λ v. q_receive None v apart)))

q_listed : (o : Option (List ℕ)) (s : Seat) (h : Option CacheEntry)
    → AllQuiet o (listed_line s h)
q_listed o s h = grind arith

q_held : (o : Option (List ℕ)) (n : ℕ) (s : Seat) → AllQuiet o (held_lines n s)
q_held o zero s = tt
q_held o (suc n) s =
    let h = held_in_place n (held (setup_of s) (log_of s)) in
    both o (held_lines n s) (listed_line s h) (q_held o n s) (q_listed o s h)

q_print : (o : Option (List ℕ)) (ls : List Line) → AllQuiet o ls → (s : Seat)
    → Quiets o (print ls s)
unfolding print
q_print o [] a s = tt
q_print o (l ∷ ls) a s =
    q_next o (does s s (l ∷ [])) (print ls) (a.0, tt) (q_print o ls a.1)

pub q_show : (o : Option (List ℕ)) (s : Seat) → Quiets o (show s)
unfolding show
q_show o s =
    let n = length (held (setup_of s) (log_of s)) in
    q_print o (shown s)
    (both o (held_lines n s) (line.Complete s.member.name (complete_at s) ∷ []) (q_held o n s)
    (tt, tt)) s
