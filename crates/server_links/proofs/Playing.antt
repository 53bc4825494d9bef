-- What the calls of the code give, as outcomes.
use Rattle.std.proofs.Common.{◌≡◌, ◌+◌, ◌<◌, ℕ, List, [], ◌∷◌, ◌++◌, Bool, true, false, Some}
use Rattle.std.proofs.Common.{Option, Result, Ok, Err, length, take, min, refl, sym, ap, subst, ◌∙◌}
use Rattle.std.proofs.Common.{arith, cond, inl, append-nil, length-take}
use Rattle.std.specs.Prelude.{◌&&◌, nat_le}
use Rattle.serial_model.specs.declared.history.Limits.{Limits}
use Rattle.serial_model.specs.declared.history.Entry.{Entry}
use Rattle.serial_model.specs.declared.history.BookCall.{BookCall}
use Rattle.serial_model.specs.declared.history.BookCall.TheVariants as call
use Rattle.serial_model.specs.declared.history.BookReply.{BookReply}
use Rattle.serial_model.specs.declared.history.BookReply.TheVariants.{Quiet, Bytes}
use Rattle.serial_model.specs.History.{runs_on, reads_on, gives_on, unsent}
use Rattle.serial_model.specs.Steps.{Turn, book_step, taking}
use Rattle.serial_model.proofs.Turning.{run_step, close_step}
use Rattle.script_text.specs.declared.line.Line.{Line}
use Rattle.script_text.specs.declared.line.Line.TheVariants as line
use Rattle.server_links.specs.declared.fault.WorldFault.{WorldFault}
use Rattle.server_links.specs.declared.fault.WorldFault.TheVariants.{NoMemory, NothingThere}
use Rattle.server_links.specs.declared.link.Link.{Link}
use Rattle.server_links.specs.ServerState.{ServerState}
use Rattle.server_links.specs.EntryLines.{dropped_lines, reply_lines}
use Rattle.server_links.specs.declared.direction.Direction.{Direction}
use Rattle.server_links.specs.Directions.{finished, put, is_open, is_queued, without}
use Rattle.server_links.specs.Directions.{without_bytes, past_eof}
use Rattle.server_links.specs.Moves.{turned, turn, bytes_of, take_down, read_lines, eof_lines}
use Rattle.server_links.specs.Moves.{read_bytes, read_eof, receive_all, stop, stop_open, close}
use Rattle.server_links.specs.Moves.{feed, run_fed}
use Rattle.server_links.specs.Moves.{serve, serve_all, all_bytes, end_down, send, send_all}
use Rattle.server_links.specs.Moves.{with_end}
use Rattle.resp_stream.specs.declared.fault.FaultPlace.{FaultPlace}
use Rattle.server_links.proofs.Outcomes.{Ends, after_ends, after_stops, gives_then, stops_first}
use Rattle.server_links.proofs.Outcomes.{stops_here}
use Rattle.server_links.proofs.Endings.{takes_same}
use Rattle.server_links.specs.Outcome.{Outcome, Stops, Gives, and_then, does, refuses, stays}
use Rattle.server_links.specs.Session.{Session, session, with_past, with_link, with_down}
use Rattle.server_links.specs.Turns.{TurnGives}

-- a turn changes the history of a server, and no more
pub server_turned : (old new : ServerState) (link : Link) → new.book.limits ≡ old.book.limits
    → new.clock ≡ old.clock → new.names ≡ old.names
    → session new link ≡ with_past (session old link) new.book.past
server_turned old new link l c n = grind arith

module _ (s : Session) (c : BookCall) (words : List (List ℕ)) (past : List Entry) (x : Line)
    (lines lines' : List Line) where
  pub turn_gives : (reply : BookReply)
      → TurnGives s.limits s.names s.past c x lines (Ok reply) past lines'
      → reply_lines s.link.name words reply ≡ x ∷ []
      → Ends (turn c words s) lines (with_past s past) lines'
  unfolding turn
  turn_gives reply g is = grind arith

  pub turn_stops : (fault : WorldFault)
      → TurnGives s.limits s.names s.past c x lines (Err fault) past lines'
      → Stops (turn c words s) lines fault (with_past s past) lines'
  unfolding turn
  turn_stops fault g = grind (arith, append-nil)

-- before a turn
pub turn_before : (s : Session) (c : BookCall) (words : List (List ℕ)) (lines : List Line)
    → Stops (turn c words s) lines NoMemory s lines
unfolding turn
turn_before s c words lines = ([], inl (refl, refl), sym (append-nil lines))

-- behind a QUIT or a drop a request is passed over
pub run_passed : (s : Session) (words : List (List ℕ)) (lines : List Line)
    → runs_on s.limits s.past s.link.id ≡ false
    → Ends (turn (call.Run s.link.id words s.now) words s) lines s lines
unfolding turn book_step
run_passed s words lines off = grind (arith, append-nil)

module _ (l : Limits) (past new : List Entry) (id : ℕ) (reply : BookReply) where
  pub run_line : (now : ℕ) (words : List (List ℕ)) (name : List ℕ) → runs_on l past id ≡ true
      → book_step l past (call.Run id words now) ≡ record { reply = reply; past = new }
      → reply_lines name words reply ≡ line.Run (length past + 1) name words ∷ []
  run_line now words name on is = grind (arith, run_step)

  pub close_line : (name : List ℕ) → reads_on l past id ≡ true
      → book_step l past (call.Close id) ≡ record { reply = reply; past = new }
      → reply_lines name [] reply ≡ line.Close (length past + 1) name ∷ []
  close_line name on is = grind (arith, close_step)

-- ---- the server's end sends

take_is : (s : Session) (most : ℕ) → gives_on s.limits s.past s.link.id ≡ true
    → book_step s.limits s.past (call.Take s.link.id most)
    ≡ taking s.past s.link.id most (take most (unsent s.limits s.link.id s.past))
unfolding book_step
take_is s most on = grind arith

module _ (most : ℕ) (s : Session) (lines : List Line) where
  -- there is nothing to take
  pub take_quiet : gives_on s.limits s.past s.link.id ≡ true
      → take most (unsent s.limits s.link.id s.past) ≡ [] → Ends (take_down most s) lines s lines
  unfolding take_down
  take_quiet on none =
      let is = take_is s most on ∙ ap (taking s.past s.link.id most) none in
      subst (λ (t : Turn). Ends (and_then (turned s [] t)
      (λ u. does u (with_link u (with_down u.link (put (bytes_of t.reply) u.link.down))) []))
      lines s lines) (sym is)
      (after_ends (turned s [] (record { reply = Quiet; past = s.past })) _ lines s lines s lines
      (refl, refl, sym (append-nil lines)) (
        refl,
        ap (λ d. with_link s (with_down s.link d)) (sym (grind (arith, append-nil))),
        sym (append-nil lines),
      ))

  pub take_before : Stops (take_down most s) lines NoMemory s lines
  unfolding take_down turn
  take_before =
      stops_first (turned s [] (book_step s.limits s.past (call.Take s.link.id most))) _ lines
      NoMemory s lines (turn_before s (call.Take s.link.id most) [] lines)

  module _ (past : List Entry) (x : Line) (lines' : List Line) where
    pub take_stops : (fault : WorldFault)
        → TurnGives s.limits s.names s.past (call.Take s.link.id most) x lines (Err fault) past
        lines'
        → Stops (take_down most s) lines fault (with_past s past) lines'
    unfolding take_down turn
    take_stops fault g =
        stops_first (turned s [] (book_step s.limits s.past (call.Take s.link.id most))) _ lines
        fault (with_past s past) lines' (turn_stops s (call.Take s.link.id most) [] past x lines
        lines' fault g)

    module _ (reply : BookReply) (g : TurnGives s.limits s.names s.past
        (call.Take s.link.id most) x lines (Ok reply) past lines')
        (is : reply_lines s.link.name [] reply ≡ x ∷ []) where
      taken : Ends (turned s [] (book_step s.limits s.past (call.Take s.link.id most))) lines
          (with_past s past) lines'
      unfolding turn
      taken = turn_gives s (call.Take s.link.id most) [] past x lines lines' reply g is

      given : bytes_of (book_step s.limits s.past (call.Take s.link.id most)).reply ≡ bytes_of reply
      given = ap (λ (t : Turn). bytes_of t.reply) g.0

      -- the bytes could not be put on the way
      pub take_short : Stops (take_down most s) lines NoMemory (with_past s past) lines'
      unfolding take_down
      take_short =
          let t = book_step s.limits s.past (call.Take s.link.id most) in
          after_stops (turned s [] t) (λ u. does u
          (with_link u (with_down u.link (put (bytes_of t.reply) u.link.down))) []) lines
          (with_past s past) lines' NoMemory (with_past s past) lines' taken
          (stops_here (does (with_past s past)
          (with_link (with_past s past) (with_down s.link (put (bytes_of t.reply) s.link.down)))
          []) (with_past s past) lines' refl)

      pub take_gives : (down : Direction) → down ≡ put (bytes_of reply) s.link.down
          → Ends (take_down most s) lines (with_link (with_past s past) (with_down s.link down))
          lines'
      unfolding take_down
      take_gives down put_is =
          let t = book_step s.limits s.past (call.Take s.link.id most) in
          after_ends (turned s [] t) (λ u. does u
          (with_link u (with_down u.link (put (bytes_of t.reply) u.link.down))) []) lines
          (with_past s past) lines' _ lines' taken (
            refl,
            ap (λ d. with_link (with_past s past) (with_down s.link d)) (put_is
                ∙ ap (λ b. put b s.link.down) (sym given)),
            sym (append-nil lines'),
          )

-- and then the EOF follows, where the connection has ended
pub end_gives : (most : ℕ) (s t u : Session) (lines lines' : List Line)
    → Ends (take_down most s) lines t lines' → u ≡ with_end t
    → Ends (and_then (take_down most s) end_down) lines u lines'
end_gives most s t u lines lines' took is =
    after_ends (take_down most s) end_down lines t lines' u lines' took
    (refl, is, sym (append-nil lines'))

-- a Take leaves that more can be taken
pub take_goes_on : (most : ℕ) (s t : Session) → t ≡ (take_down most s).state
    → gives_on s.limits s.past s.link.id ≡ true → gives_on t.limits t.past t.link.id ≡ true
unfolding take_down and_then
take_goes_on most s t is on =
    ap (λ (x : Session). gives_on x.limits x.past x.link.id) is
    ∙ (takes_same s.limits s.link.id s.past s.link.id most).1 ∙ on

pub send_on : (s : Session) → is_open s.link.down.eof ≡ true
    → gives_on s.limits s.past s.link.id ≡ true
    → send_all s ≡ and_then (take_down all_bytes s) end_down
send_on s opened on =
    let sent = and_then (take_down all_bytes s) end_down in
    let ended : Outcome Session = stays (with_link s (with_down s.link (finished s.link.down))) in
    ap (λ o. cond o (cond (gives_on s.limits s.past s.link.id) sent ended) (stays s)) opened
    ∙ ap (λ b. cond b sent ended) on

pub send_some : (count : Option ℕ) (n : ℕ) (s : Session) → count ≡ Some n
    → is_open s.link.down.eof ≡ true → gives_on s.limits s.past s.link.id ≡ true
    → nat_le n (length (unsent s.limits s.link.id s.past)) ≡ true
    → send count s ≡ and_then (take_down n s) end_down
send_some count n s is opened on le =
    let sent = and_then (take_down n s) end_down in
    let none : Outcome Session = refuses s NothingThere in
    ap (λ o. send o s) is
    ∙ ap (λ o. cond (o && gives_on s.limits s.past s.link.id
    && nat_le n (length (unsent s.limits s.link.id s.past))) sent none) opened
    ∙ ap (λ o. cond (o && nat_le n (length (unsent s.limits s.link.id s.past))) sent none) on
    ∙ ap (λ o. cond o sent none) le

pub take_size : (bytes : List ℕ) (most waiting count : ℕ) → waiting ≡ length bytes
    → count ≡ min waiting most → length (take most bytes) ≡ count
take_size bytes most waiting count w n = let l = length-take most bytes in grind (arith, l, w, n)

-- an answer with bytes, those that were taken
abbrev pub IsGiven : ℕ → List ℕ → BookReply → Type 0
IsGiven entry bytes (Bytes e given) = (e ≡ entry) × (given ≡ bytes)
IsGiven entry bytes reply = ⊥

pub only_given : (entry : ℕ) (bytes : List ℕ) (reply : BookReply) → IsGiven entry bytes reply
    → ((e : ℕ) (given : List ℕ) → reply ≡ Bytes e given → ⊥) → ⊥
only_given entry bytes reply is gave = grind (arith, given)

-- where something can be taken, it is
taking_given : (past : List Entry) (id most : ℕ) (bytes : List ℕ) → 0 < length bytes
    → IsGiven (length past + 1) bytes (taking past id most bytes).reply
taking_given past id most bytes some = grind arith

pub take_given : (s : Session) (most : ℕ) (past : List Entry) (reply : BookReply)
    → gives_on s.limits s.past s.link.id ≡ true
    → 0 < length (take most (unsent s.limits s.link.id s.past))
    → book_step s.limits s.past (call.Take s.link.id most) ≡ record { reply = reply; past = past }
    → IsGiven (length s.past + 1) (take most (unsent s.limits s.link.id s.past)) reply
take_given s most past reply on some is = grind (arith, take_is, taking_given)

-- ---- the client's end reads

module _ (s : Session) (lines lines1 : List Line) (down : Direction) (is : down
    ≡ without_bytes s.link.down) (told : lines1
    ≡ lines ++ read_lines s.link.name s.link.down.bytes) where
  bytes_read : Ends (read_bytes s.link.down.bytes (without_bytes s.link.down) s) lines
      (with_link s (with_down s.link down)) lines1
  bytes_read = (refl, ap (λ d. with_link s (with_down s.link d)) is, told)

  pub receive_short : Stops (receive_all s) lines NoMemory (with_link s (with_down s.link down))
      lines1
  unfolding receive_all
  receive_short =
      after_stops (read_bytes s.link.down.bytes (without_bytes s.link.down) s) read_eof lines
      (with_link s (with_down s.link down)) lines1 NoMemory
      (with_link s (with_down s.link down)) lines1 bytes_read
      (stops_here (read_eof (with_link s (with_down s.link down)))
      (with_link s (with_down s.link down)) lines1 refl)

  pub receive_gives : (down2 : Direction) (lines2 : List Line) → down2 ≡ past_eof down
      → lines2 ≡ lines1 ++ eof_lines s.link.name (is_queued down.eof)
      → Ends (receive_all s) lines (with_link s (with_down s.link down2)) lines2
  unfolding receive_all
  receive_gives down2 lines2 past more =
      after_ends (read_bytes s.link.down.bytes (without_bytes s.link.down) s) read_eof lines
      (with_link s (with_down s.link down)) lines1 (with_link s (with_down s.link down2)) lines2
      bytes_read
      (refl, ap (λ d. with_link s (with_down s.link d)) past, more)

pub receive_before : (s : Session) (lines : List Line)
    → Stops (receive_all s) lines NoMemory s lines
unfolding receive_all
receive_before s lines =
    stops_first (read_bytes s.link.down.bytes (without_bytes s.link.down) s) read_eof lines NoMemory
    s lines (stops_here (read_bytes s.link.down.bytes (without_bytes s.link.down) s) s lines refl)

-- ---- what stops the reading

module _ (place : Option FaultPlace) (eof : Bool) (s : Session) where
  pub stop_off : reads_on s.limits s.past s.link.id ≡ false → stop place eof s ≡ stays s
  stop_off off = ap (λ b. cond b (stop_open place eof s) (stays s)) off

  pub stop_on : reads_on s.limits s.past s.link.id ≡ true
      → stop place eof s ≡ stop_open place eof s
  stop_on on = ap (λ b. cond b (stop_open place eof s) (stays s)) on

module _ (place : Option FaultPlace) (at : FaultPlace) (eof : Bool) (s : Session)
    (lines : List Line) (is : place ≡ Some at) where
  pub stop_before : Stops (stop_open place eof s) lines NoMemory s lines
  stop_before =
      subst (λ p. Stops (stop_open p eof s) lines NoMemory s lines) (sym is)
      (stops_first (does s s (line.Bad s.link.name at.number at.offset ∷ [])) close lines NoMemory s
      lines (stops_here (does s s (line.Bad s.link.name at.number at.offset ∷ [])) s lines
      refl))

  pub stop_gives : {A : Type 0}
      → (lines1 : List Line) (r : Result A WorldFault) (t : Session) (lines2 : List Line)
      → lines1 ≡ lines ++ line.Bad s.link.name at.number at.offset ∷ []
      → Gives (close s) lines1 r t lines2 → Gives (stop_open place eof s) lines r t lines2
  stop_gives lines1 r t lines2 told g =
      subst (λ p. Gives (stop_open p eof s) lines r t lines2) (sym is)
      (gives_then (does s s (line.Bad s.link.name at.number at.offset ∷ [])) close lines r s lines1
      r t lines2 (refl, refl, told) g)

-- ---- the server's end reads

pub fed_stops : (piece : List ℕ) (up : Direction) (s : Session) (next : Session
    → Outcome Session) (lines : List Line)
    → Stops (and_then (feed piece up s) next) lines NoMemory s lines
fed_stops piece up s next lines =
    stops_first (feed piece up s) next lines NoMemory s lines
    (stops_here (feed piece up s) s lines refl)

pub fed_gives : {A : Type 0} → (piece : List ℕ) (up : Direction) (s s1 : Session) (next : Session
    → Outcome Session) (lines : List Line) (r : Result A WorldFault) (t : Session)
    (lines1 : List Line)
    → s1 ≡ (feed piece up s).state → Gives (next s1) lines r t lines1
    → Gives (and_then (feed piece up s) next) lines r t lines1
fed_gives piece up s s1 next lines r t lines1 is g =
    gives_then (feed piece up s) next lines r s1 lines r t lines1 (
      refl,
      is,
      sym (append-nil lines),
    ) g

pub serve_off : (s : Session) → reads_on s.limits s.past s.link.id ≡ false → serve_all s ≡ stays s
unfolding serve_all
serve_off s off = grind arith

pub serve_on : (s : Session) → reads_on s.limits s.past s.link.id ≡ true
    → serve_all s
    ≡ and_then (feed s.link.up.bytes (past_eof (without_bytes s.link.up)) s)
    (run_fed (is_queued s.link.up.eof))
unfolding serve_all
serve_on s on = grind arith

pub serve_some : (count : Option ℕ) (n : ℕ) (s : Session) → count ≡ Some n
    → reads_on s.limits s.past s.link.id ≡ true → nat_le n (length s.link.up.bytes) ≡ true
    → serve count s
    ≡ and_then (feed (take n s.link.up.bytes) (without n s.link.up) s) (run_fed false)
serve_some count n s is on le = grind arith
