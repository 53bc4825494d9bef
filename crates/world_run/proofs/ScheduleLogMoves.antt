-- What the moves of a client add to its log: a call its own entry, and the others none of a call.
use Rattle.std.proofs.Common.{◌≡◌, ℕ, List, [], ◌∷◌, ◌++◌, Bool, true, false, cond, not, Some, None}
use Rattle.std.proofs.Common.{Option, length, take, refl, sym, ap, ◌∙◌, append_assoc, append-nil}
use Rattle.std.proofs.Common.{subst, arith}
use Rattle.std.specs.Prelude.{◌&&◌, nat_le}
use Rattle.resp_value.specs.Tree.{Tree}
use Rattle.resp_value.specs.ValueTree.{value_of}
use Rattle.resp_value.specs.declared.value.Value.{Value}
use Rattle.resp_stream.specs.declared.fault.FaultPlace.{FaultPlace}
use Rattle.resp_stream.specs.Parse.{parse_values}
use Rattle.command_words.specs.Control.{is_control}
use Rattle.shared_cache.specs.declared.log.ClientCall.{ClientCall}
use Rattle.shared_cache.specs.declared.log.ClientCall.TheVariants as call
use Rattle.shared_cache.specs.declared.log.ClientRefusal.{ClientRefusal}
use Rattle.shared_cache.specs.declared.log.ClientRefusal.TheVariants as refusal
use Rattle.shared_cache.specs.declared.log.ClientReply.TheVariants.{Refused, Sent}
use Rattle.shared_cache.specs.declared.log.LogEntry.{LogEntry}
use Rattle.shared_cache.specs.declared.log.LogEntry.TheVariants as entry
use Rattle.shared_cache.specs.declared.log.Wire.{Wire}
use Rattle.shared_cache.specs.declared.log.Wire.TheVariants.{Main, Side}
use Rattle.shared_cache.specs.declared.entry.CacheEntry.{CacheEntry}
use Rattle.shared_cache.specs.Held.{Setup, Words, held, held_for}
use Rattle.shared_cache.specs.Log.{is_ended, is_ready, reply}
use Rattle.shared_cache.specs.Out.{is_wanted, untaken}
use Rattle.shared_cache.specs.Steps.{ClientTurn, answer_ask, client_step, command_number}
use Rattle.shared_cache.specs.Steps.{getting, is_log_full, polling, read_number, refusing}
use Rattle.shared_cache.specs.Steps.{taking_out}
use Rattle.shared_cache.specs.Steps as steps
use Rattle.script_text.specs.declared.line.Line.{Line}
use Rattle.script_text.specs.declared.line.Line.TheVariants as line
use Rattle.server_links.specs.declared.fault.WorldFault.{WorldFault}
use Rattle.server_links.specs.declared.fault.WorldFault.TheVariants.{NothingThere}
use Rattle.server_links.specs.declared.link.LinkMove.TheVariants as moves
use Rattle.server_links.specs.LinkEvent.{LinkEvent, Over}
use Rattle.server_links.specs.Moves.{all_bytes, stopped_at}
use Rattle.server_links.specs.Outcome.{Outcome, and_then, does, refuses, stays, then_by, within}
use Rattle.world_run.specs.WorldState.{LinkEnd, MemberState}
use Rattle.world_run.specs.Members.{Seat, link_of, links_do, log_of, setup_of}
use Rattle.world_run.specs.ClientMoves.{fault_of, feed, flow, got, got_all, got_one}
use Rattle.world_run.specs.ClientMoves.{hang_up, hang_up_main, has_ended, lines_of, next_read, out}
use Rattle.world_run.specs.ClientMoves.{print, read, read_values, receive, receive_bytes}
use Rattle.world_run.specs.ClientMoves.{receive_eof, rest_read, show, shown, stop}
use Rattle.world_run.specs.ClientMoves.{refused_fault, take_out, turn}
use Rattle.world_run.specs.ScheduleLog.{Called, IsUp, calls_in}
use Rattle.world_run.proofs.ScheduleLogLines.{IsAsked}
use Rattle.world_run.proofs.Turns.{IsHere}

-- ---- entries of calls

pub calls_more : (xs ys : List LogEntry) → calls_in (xs ++ ys) ≡ calls_in ys ++ calls_in xs
calls_more [] ys = sym (append-nil (calls_in ys))
calls_more (e ∷ xs) ys = let more = calls_more xs ys in grind (arith, more, append_assoc)

-- ---- what is no call

-- the client is the same, and its log has grown by what is no call
pub record Calm (m n : MemberState) : Type 0 where
  pub name : n.name ≡ m.name
  pub setup : n.state.setup ≡ m.state.setup
  pub entries : List LogEntry
  pub grows : n.state.past ≡ entries ++ m.state.past
  pub no_call : calls_in entries ≡ []

pub calm_same : (m : MemberState) → Calm m m
calm_same m =
    record { name = refl; setup = refl; entries = []; grows = refl; no_call = refl }

pub calm_both : (m n k : MemberState) → Calm m n → Calm n k → Calm m k
calm_both m n k a b = record {
  name = b.name ∙ a.name;
  setup = b.setup ∙ a.setup;
  entries = b.entries ++ a.entries;
  grows = b.grows ∙ ap (λ x. b.entries ++ x) a.grows
      ∙ sym (append_assoc b.entries a.entries m.state.past);
  no_call = calls_more b.entries a.entries ∙ ap (λ x. x ++ calls_in b.entries) a.no_call
      ∙ b.no_call;
}

-- ---- what a turn adds

-- of the logs that a call may lead to, where it adds to this one
abbrev pub Adding : (List LogEntry → Type 0) → List LogEntry → ClientCall → Type 0
Adding P log (call.Ask q) = P (entry.Ask q ∷ log)
Adding P log (call.Send words) = P (entry.Send words ∷ log)
Adding P log (call.Poll n) = P (entry.Poll n ∷ log)
Adding P log (call.TakeOut w most) = P (entry.TakeOut w most ∷ log)
Adding P log (call.Got w v) = P (entry.Got w v ∷ log) × P (entry.Bad w v ∷ log)
Adding P log (call.End w) = P (entry.End w ∷ log)

module _ (P : List LogEntry → Type 0) (s : Setup) (log : List LogEntry) (still : P log) where
  unless : (b : Bool) (r : ClientRefusal) (t : ClientTurn) → P t.past
      → P (cond b (refusing r log) t).past
  unless true r t p = still
  unless false r t p = p

  by_polling : (o : Option Value) (n : ℕ) (ended : Bool) → P (entry.Poll n ∷ log)
      → P (polling o n ended log).past
  by_polling (Some v) n ended p = p
  by_polling None n true p = still
  by_polling None n false p = still

  by_taking : (w : Wire) (most : ℕ) (bytes : List ℕ) (full : Bool)
      → P (entry.TakeOut w most ∷ log) → P (taking_out w most bytes full log).past
  by_taking w most [] full p = still
  by_taking w most (b ∷ bytes) full p = unless full _ _ p

  by_getting : (r : Option ClientRefusal) (w : Wire) (v : Value) (full : Bool)
      → P (entry.Got w v ∷ log) × P (entry.Bad w v ∷ log) → P (getting r w v full log).past
  by_getting (Some r) w v full p = p.1
  by_getting None w v full p = unless full _ _ p.0

  by_ending : (w : Wire) (b : Bool) → P (entry.End w ∷ log)
      → P (cond b log (entry.End w ∷ log))
  by_ending w true p = still
  by_ending w false p = p

  pub by_turn : (c : ClientCall) → Adding P log c → P (client_step s log c).past
  unfolding client_step
  by_turn (call.Ask q) p =
      unless (is_ended s.mode Main log) _ _
      (unless (not (is_ready s.mode log)) _ _ (unless (is_log_full s log) _ _ p))
  by_turn (call.Send words) p =
      unless (is_ended s.mode Main log) _ _
      (unless (not (is_ready s.mode log)) _ _
      (unless (is_control words) _ _ (unless (is_log_full s log) _ _ p)))
  by_turn (call.Poll n) p =
      unless (not (is_wanted s log n)) _ _
      (by_polling (reply s.mode log n) n (is_ended s.mode Main log) p)
  by_turn (call.TakeOut w most) p =
      unless (is_ended s.mode w log) _ _
      (by_taking w most (untaken s w log) (is_log_full s log) p)
  by_turn (call.Got w v) p =
      unless (is_ended s.mode w log) _ _
      (by_getting (steps.fault_of s log w v) w v (is_log_full s log) p)
  by_turn (call.End w) p = by_ending w (is_ended s.mode w log) p

-- ---- a client at one of its ends

-- the client after a turn
abbrev pub turned : ClientCall → MemberState → MemberState
turned c m =
    let t = client_step m.state.setup m.state.past c in
    record m { state = record m.state { past = t.past } }

-- what holds between a client and itself, and over one move after another
module _ (R : MemberState → MemberState → Type 0) (same : (m : MemberState) → R m m)
    (both : (m n k : MemberState) → R m n → R n k → R m k) where
  abbrev pub Moves : Seat → Outcome Seat → Type 0
  Moves s m = R s.member m.state.member

  m_then : (s : Seat) (m : Outcome Seat) (next : Seat → Outcome Seat) → Moves s m
      → ((t : Seat) → Moves t (next t)) → Moves s (and_then m next)
  unfolding and_then
  m_then s m next a g = elim m.fault as (λ f. Moves s (then_by f m (next m.state))) [
    | Some f ↦ a
    | None ↦ both s.member m.state.member (next m.state).state.member a (g m.state)
  ]

  m_if : (s : Seat) (b : Bool) (m n : Outcome Seat) → Moves s m → Moves s n
      → Moves s (cond b m n)
  m_if s true m n a b = a
  m_if s false m n a b = b

  m_links : (event : LinkEvent) (s : Seat) → Moves s (links_do event s)
  unfolding links_do within
  m_links event s = same s.member

  pub m_hang_main : (u : Wire) (before : Bool) (s : Seat) → Moves s (hang_up_main u before s)
  m_hang_main Main before s = same s.member
  m_hang_main Side before s =
      m_if s (not before && has_ended Main s) _ (stays s) (m_links _ s) (same s.member)

  m_print : (ls : List Line) (s : Seat) → Moves s (print ls s)
  unfolding print
  m_print [] s = same s.member
  m_print (l ∷ ls) s =
      m_then s (does s s (l ∷ [])) (print ls) (same s.member) (m_print ls)

  pub m_show : (s : Seat) → Moves s (show s)
  unfolding show
  m_show s = m_print (shown s) s

  -- and over each turn at this end
  module _ (e : LinkEnd)
      (one : (c : ClientCall) (m : MemberState) → IsHere e.wire c → (IsAsked c → ⊥)
      → R m (turned c m)) where
    m_turn : (c : ClientCall) (s : Seat) → IsHere e.wire c → (IsAsked c → ⊥)
        → Moves s (turn c e s)
    unfolding turn and_then
    m_turn c s here n = one c s.member here n

    m_taking : (most : ℕ) (s : Seat) → Moves s (take_out most e s)
    unfolding take_out
    m_taking most s =
        m_then s (turn (call.TakeOut e.wire most) e s) _
        (m_turn (call.TakeOut e.wire most) s refl (λ n. n)) (λ t. m_links _ t)

    pub m_out : (count : Option ℕ) (s : Seat) → Moves s (out count e s)
    m_out None s =
        m_if s (has_ended e.wire s) (stays s) (take_out all_bytes e s) (same s.member)
        (m_taking all_bytes s)
    m_out (Some n) s =
        m_if s
        (not (has_ended e.wire s) && nat_le n (length (untaken (setup_of s) e.wire (log_of s))))
        (take_out n e s) (refuses s NothingThere) (m_taking n s) (same s.member)

    m_got : (v : Value) (s : Seat) → Moves s (got v e s)
    m_got v s =
        m_if s (has_ended e.wire s) _ _ (same s.member) (m_turn (call.Got e.wire v) s refl (λ n. n))

    m_got_all : (ts : List Tree) (s : Seat) → Moves s (got_all ts e s)
    unfolding got_all got_one
    m_got_all [] s = same s.member
    m_got_all (t ∷ ts) s =
        m_then s (got_one t e s) (got_all ts e)
        (m_then s (does s (next_read s) []) (got (value_of t) e) (same s.member)
        (m_got (value_of t)))
        (m_got_all ts)

    m_stop : (place : Option FaultPlace) (s : Seat) → Moves s (stop place e s)
    m_stop None s = same s.member
    m_stop (Some place) s =
        m_if s (has_ended e.wire s) (stays s) _ (same s.member)
        (m_then s _ (turn (call.End e.wire) e) (same s.member)
        (λ t. m_turn (call.End e.wire) t refl (λ n. n)))

    m_values : (s : Seat) → Moves s (read_values e s)
    unfolding read_values
    m_values s =
        let p = parse_values s.reader in
        m_then s (and_then (got_all p.items e s) (rest_read p.stream))
        (stop (stopped_at p.fault) e)
        (m_then s (got_all p.items e s) (rest_read p.stream) (m_got_all p.items s)
        (λ t. same t.member))
        (m_stop (stopped_at p.fault))

    m_hang : (s : Seat) → Moves s (hang_up e s)
    m_hang s = m_if s (has_ended e.wire s) _ _ (m_links _ s) (same s.member)

    m_bytes : (n : ℕ) (s : Seat) → Moves s (receive_bytes n e s)
    unfolding receive_bytes
    m_bytes n s =
        let piece = take n (link_of e s).down.bytes in
        m_then s (links_do (Over e.link (moves.Recv (Some n))) s)
        (λ t. and_then (feed piece t) (λ t. and_then (read_values e t) (hang_up e)))
        (m_links (Over e.link (moves.Recv (Some n))) s)
        (λ t. m_then t (feed piece t) (λ t. and_then (read_values e t) (hang_up e))
        (same t.member) (λ u. m_then u (read_values e u) (hang_up e) (m_values u) m_hang))

    m_eof : (s : Seat) → Moves s (receive_eof e s)
    unfolding receive_eof
    m_eof s =
        m_then s (links_do (Over e.link (moves.Recv None)) s) _ (m_links _ s)
        (λ t. m_if t _ (turn (call.End e.wire) e t) (stays t)
        (m_turn (call.End e.wire) t refl (λ n. n))
        (same t.member))

    m_read : (count : Option ℕ) (s : Seat) → Moves s (read count e s)
    m_read None s =
        let n = length (link_of e s).down.bytes in
        m_if s (has_ended e.wire s) (stays s) (and_then (receive_bytes n e s) (receive_eof e))
        (same s.member)
        (m_then s (receive_bytes n e s) (receive_eof e) (m_bytes n s) m_eof)
    m_read (Some n) s =
        m_if s (not (has_ended e.wire s) && nat_le n (length (link_of e s).down.bytes))
        (receive_bytes n e s) (refuses s NothingThere) (m_bytes n s) (same s.member)

    pub m_receive : (count : Option ℕ) (s : Seat) → Moves s (receive count e s)
    unfolding receive
    m_receive count s =
        m_then s (read count e s) (hang_up_main e.wire (has_ended Main s)) (m_read count s)
        (m_hang_main e.wire (has_ended Main s))

    pub m_flow : (s : Seat) → Moves s (flow e s)
    unfolding flow
    m_flow s =
        m_then s (out None e s) _ (m_out None s)
        (λ t. m_then t (links_do (Over e.link (moves.Serve None)) t) _ (m_links _ t)
        (λ u. m_then u (links_do (Over e.link (moves.Send None)) u) (receive None e)
        (m_links _ u) (m_receive None)))

-- ---- no call is made

abbrev AddsNone : List LogEntry → List LogEntry → Type 0
AddsNone log new = (es : List LogEntry) × (new ≡ es ++ log) × (calls_in es ≡ [])

adds_one : (log : List LogEntry) (e : LogEntry) → calls_in (e ∷ []) ≡ []
    → AddsNone log (e ∷ log)
adds_one log e none = (e ∷ [], refl, none)

adding_none : (log : List LogEntry) (c : ClientCall) → (IsAsked c → ⊥)
    → Adding (AddsNone log) log c
adding_none log (call.Ask q) n = absurd (n tt)
adding_none log (call.Send words) n = absurd (n tt)
adding_none log (call.Poll k) n = absurd (n tt)
adding_none log (call.TakeOut w most) n = adds_one log (entry.TakeOut w most) refl
adding_none log (call.Got w v) n =
    (adds_one log (entry.Got w v) refl, adds_one log (entry.Bad w v) refl)
adding_none log (call.End w) n = adds_one log (entry.End w) refl

abbrev pub Calms : Seat → Outcome Seat → Type 0
Calms s m = Calm s.member m.state.member

calm_turn : (e : LinkEnd) (c : ClientCall) (m : MemberState) → IsHere e.wire c
    → (IsAsked c → ⊥) → Calm m (turned c m)
calm_turn e c m here n =
    let log = m.state.past in
    let a = by_turn (AddsNone log) m.state.setup log ([], refl, refl) c
    (adding_none log c n) in
    record { name = refl; setup = refl; entries = a.0; grows = a.1; no_call = a.2 }

module _ (e : LinkEnd) where
  pub c_out : (count : Option ℕ) (s : Seat) → Calms s (out count e s)
  c_out = m_out Calm calm_same calm_both e (calm_turn e)

  pub c_receive : (count : Option ℕ) (s : Seat) → Calms s (receive count e s)
  c_receive = m_receive Calm calm_same calm_both e (calm_turn e)

  pub c_flow : (s : Seat) → Calms s (flow e s)
  c_flow = m_flow Calm calm_same calm_both e (calm_turn e)

pub c_show : (s : Seat) → Calms s (show s)
c_show = m_show Calm calm_same calm_both

-- ---- calls

-- a turn and its lines, where no fault stops them
abbrev pub Answered : ClientCall → LinkEnd → Seat → ClientTurn → Type 0
Answered c e s t = fault_of t.reply ≡ None
    → Called (setup_of s) s.member.name (log_of s) t.past c (lines_of e s c t.reply)

module _ (e : LinkEnd) (s : Seat) where
  abbrev F : Setup
  F = setup_of s

  abbrev L : List LogEntry
  L = log_of s

  stopped : (c : ClientCall) (r : ClientRefusal) (f : WorldFault) → refused_fault r ≡ Some f
      → Answered c e s (refusing r L)
  stopped c r f is none = absurd (let no : Some f ≡ None = sym is ∙ none in cc)

  -- the link has ended, or the client is not ready
  abbrev unless_up : Bool → Bool → ClientTurn → ClientTurn
  unless_up ended ready t =
      cond ended (refusing (refusal.Down Main) L)
      (cond (not ready) (refusing refusal.NotReady L) t)

  up_called : (c : ClientCall) (t : ClientTurn)
      → (is_ended F.mode Main L ≡ true
      → Called F s.member.name L L c (line.Down s.member.name ∷ []))
      → ((is_ended F.mode Main L ≡ false) → (is_ready F.mode L ≡ false)
      → Called F s.member.name L L c (line.NotReady s.member.name ∷ []))
      → (lines_of e s c (Refused (refusal.Down Main)) ≡ line.Down s.member.name ∷ [])
      → (lines_of e s c (Refused refusal.NotReady) ≡ line.NotReady s.member.name ∷ [])
      → (IsUp F L → Answered c e s t)
      → Answered c e s (unless_up (is_ended F.mode Main L) (is_ready F.mode L) t)
  up_called c t down unready is_down is_unready up =
      elim (is_ended F.mode Main L) as (λ b. is_ended F.mode Main L ≡ b
      → Answered c e s (unless_up b (is_ready F.mode L) t)) [
        | true ↦ λ is none.
            subst (λ ls. Called F s.member.name L L c ls) (sym is_down) (down is)
        | false ↦ λ going. elim (is_ready F.mode L) as (λ b. is_ready F.mode L ≡ b
            → Answered c e s (unless_up false b t)) [
              | true ↦ λ ready. up (going, ready)
              | false ↦ λ is none.
                  subst (λ ls. Called F s.member.name L L c ls) (sym is_unready)
                  (unready going is)
            ] refl
      ] refl

  asked : (q : Words) (o : Option CacheEntry) → IsUp F L → held_for q (held F L) ≡ o
      → Answered (call.Ask q) e s (record {
        reply = answer_ask o (read_number F L q);
        past = entry.Ask q ∷ L;
      })
  asked q (Some h) up is none = record {
    answer = _;
    printed = refl;
    by = refl;
    says = (up, (h, is, refl));
    grows = refl;
  }
  asked q None up is none = record {
    answer = _;
    printed = refl;
    by = refl;
    says = (up, is, refl);
    grows = refl;
  }

  pub ask_called : (q : Words) → Answered (call.Ask q) e s (client_step F L (call.Ask q))
  unfolding client_step
  ask_called q =
      up_called (call.Ask q) _
      (λ is. record {
        answer = line.Down s.member.name;
        printed = refl;
        by = refl;
        says = is;
        grows = refl;
      })
      (λ going is. record {
        answer = line.NotReady s.member.name;
        printed = refl;
        by = refl;
        says = (going, is);
        grows = refl;
      })
      refl refl
      (λ up. elim (is_log_full F L) as (λ b. Answered (call.Ask q) e s
      (cond b (refusing (refusal.LogFull (length L)) L) (record {
        reply = answer_ask (held_for q (held F L)) (read_number F L q);
        past = entry.Ask q ∷ L;
      }))) [
        | true ↦ stopped (call.Ask q) (refusal.LogFull (length L)) _ refl
        | false ↦ asked q (held_for q (held F L)) up refl
      ])

  pub send_called : (words : Words)
      → Answered (call.Send words) e s (client_step F L (call.Send words))
  unfolding client_step
  send_called words =
      up_called (call.Send words) _
      (λ is. record {
        answer = line.Down s.member.name;
        printed = refl;
        by = refl;
        says = is;
        grows = refl;
      })
      (λ going is. record {
        answer = line.NotReady s.member.name;
        printed = refl;
        by = refl;
        says = (going, is);
        grows = refl;
      })
      refl refl
      (λ up. elim (is_control words) as (λ c. Answered (call.Send words) e s
      (cond c (refusing refusal.Control L)
      (cond (is_log_full F L) (refusing (refusal.LogFull (length L)) L) (record {
        reply = Sent (command_number F L words);
        past = entry.Send words ∷ L;
      })))) [
        | true ↦ stopped (call.Send words) refusal.Control _ refl
        | false ↦ elim (is_log_full F L) as (λ b. Answered (call.Send words) e s
            (cond b (refusing (refusal.LogFull (length L)) L) (record {
              reply = Sent (command_number F L words);
              past = entry.Send words ∷ L;
            }))) [
              | true ↦ stopped (call.Send words) (refusal.LogFull (length L)) _ refl
              | false ↦ λ none. record {
                answer = _;
                printed = refl;
                by = refl;
                says = (up, refl);
                grows = refl;
              }
            ]
      ])

  polled : (n : ℕ) (o : Option Value) (ended : Bool) → reply F.mode L n ≡ o
      → is_ended F.mode Main L ≡ ended → Answered (call.Poll n) e s (polling o n ended L)
  polled n (Some v) ended came over none = record {
    answer = _;
    printed = refl;
    by = refl;
    says = (refl, came);
    grows = refl;
  }
  polled n None true came over none = record {
    answer = line.Down s.member.name;
    printed = refl;
    by = refl;
    says = (came, over);
    grows = refl;
  }
  polled n None false came over none = record {
    answer = line.Wait s.member.name n;
    printed = refl;
    by = refl;
    says = (refl, came, over);
    grows = refl;
  }

  pub poll_called : (n : ℕ) → Answered (call.Poll n) e s (client_step F L (call.Poll n))
  unfolding client_step
  poll_called n =
      elim (is_wanted F L n) as (λ b. Answered (call.Poll n) e s
      (cond (not b) (refusing (refusal.NoNumber n) L)
      (polling (reply F.mode L n) n (is_ended F.mode Main L) L))) [
        | true ↦ polled n (reply F.mode L n) (is_ended F.mode Main L) refl refl
        | false ↦ stopped (call.Poll n) (refusal.NoNumber n) _ refl
      ]

-- what a turn of a call comes to
pub turn_called : (c : ClientCall) (e : LinkEnd) (s : Seat)
    → Answered c e s (client_step (setup_of s) (log_of s) c) → (turn c e s).fault ≡ None
    → Called (setup_of s) s.member.name (log_of s) (turn c e s).state.member.state.past c
    (turn c e s).lines
unfolding turn and_then
turn_called c e s f none = f none

pub turn_name : (c : ClientCall) (e : LinkEnd) (s : Seat)
    → (turn c e s).state.member.name ≡ s.member.name
unfolding turn and_then
turn_name c e s = refl
