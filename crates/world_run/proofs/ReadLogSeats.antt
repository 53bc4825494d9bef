-- A client at one of its links: what its end reads, and what its log gets of it.
use Rattle.std.proofs.Common.{◌≡◌, ◌<◌, ℕ, List, [], ◌∷◌, ◌++◌, Bool, true, false, cond, not}
use Rattle.std.proofs.Common.{Some, None, Option, length, map, take, drop, refl, sym, ap, subst}
use Rattle.std.proofs.Common.{◌∙◌}
use Rattle.std.proofs.Common.{append-nil, append_assoc, arith, inl}
use Rattle.std.specs.Prelude.{◌&&◌, ◌||◌, nat_le}
use Rattle.std.proofs.lemmas.List.{drop_all, get_or-set_same}
use Rattle.resp_value.specs.Tree.{Tree}
use Rattle.resp_value.specs.ValueTree.{tree_of, value_of}
use Rattle.resp_stream.specs.declared.fault.FaultPlace.{FaultPlace}
use Rattle.resp_stream.specs.Parse.{parse_values, values_of}
use Rattle.resp_stream.specs.Stream.{fed}
use Rattle.resp_stream.proofs.Onward.{GoesOn}
use Rattle.shared_cache.specs.declared.log.ClientCall.{ClientCall}
use Rattle.shared_cache.specs.declared.log.ClientCall.TheVariants as call
use Rattle.shared_cache.specs.declared.log.LogEntry.{LogEntry}
use Rattle.shared_cache.specs.declared.log.Wire.{Wire}
use Rattle.shared_cache.specs.declared.log.Wire.TheVariants.{Main}
use Rattle.shared_cache.specs.Held.{Setup}
use Rattle.shared_cache.specs.Laws.{gots}
use Rattle.shared_cache.specs.Log.{is_ended}
use Rattle.shared_cache.specs.Out.{untaken}
use Rattle.shared_cache.specs.Steps.{client_step}
use Rattle.script_text.specs.declared.line.Line.{Line}
use Rattle.server_links.specs.declared.fault.WorldFault.TheVariants.{NothingThere}
use Rattle.server_links.specs.declared.link.LinkMove.TheVariants as moves
use Rattle.server_links.specs.declared.direction.Direction.{Direction}
use Rattle.server_links.specs.Directions.{is_queued, without}
use Rattle.server_links.specs.LinkEvent.{LinkEvent, Over}
use Rattle.server_links.specs.LinksState.{LinksState, at_place}
use Rattle.server_links.specs.LinkSteps.{over, over_named, place_of, step}
use Rattle.server_links.specs.Moves.{all_bytes, eof_lines, move_of, read_lines, receive_all}
use Rattle.server_links.specs.Moves.{stopped_at}
use Rattle.server_links.specs.Moves as link_moves
use Rattle.server_links.specs.OneHistory.{read_on}
use Rattle.server_links.specs.Outcome.{Outcome, and_then, does, refuses, stays, then_by, within}
use Rattle.server_links.proofs.Carries.{read_more}
use Rattle.server_links.specs.Session.{Session, session_at}
use Rattle.server_links.proofs.Names.{names_itself, place_is}
use Rattle.world_run.specs.WorldState.{LinkEnd, MemberState}
use Rattle.world_run.specs.Members.{Seat, link_of, links_do, log_of, setup_of, with_reader}
use Rattle.world_run.specs.ClientMoves.{feed, flow, got, got_all, got_one, hang_up, hang_up_main}
use Rattle.world_run.specs.ClientMoves.{has_ended, next_read, out, read, read_values, receive}
use Rattle.world_run.specs.ClientMoves.{receive_bytes, receive_eof, rest_read, show, stop, take_out}
use Rattle.world_run.specs.ClientMoves.{turn}
use Rattle.world_run.specs.ReadLog.{ByEnd, ByValue, IsGot, IsWell, ending, has_eof}
use Rattle.world_run.proofs.Links.{IsUnread, step_moved, step_reads}
use Rattle.world_run.proofs.Members.{LinkGrows}
use Rattle.world_run.proofs.ReadLogMoves.{Done, Settled, Settling, done_if, done_then, done_turn}
use Rattle.world_run.proofs.ReadLogMoves.{ends_by_eof, going_is, got_of, or_true, values_settle}
use Rattle.world_run.proofs.ScheduleLogLines.{AllQuiet, IsAsked, no_eof, no_read, q_hang}
use Rattle.world_run.proofs.ScheduleLogLines.{q_hang_main, q_links, q_next, q_out, q_values}
use Rattle.world_run.proofs.ScheduleLogMoves.{Adding, by_turn, m_flow, m_hang_main, m_out}
use Rattle.world_run.proofs.ScheduleLogMoves.{m_receive, m_show, turned}
use Rattle.world_run.proofs.Turns.{IsApart, IsHere, here_apart}

-- ---- lines

pub eof_more : (link : List ℕ) (xs ys : List Line)
    → has_eof link (xs ++ ys) ≡ (has_eof link xs || has_eof link ys)
eof_more link [] ys = refl
eof_more link (x ∷ xs) ys = let more = eof_more link xs ys in grind (arith, more)

-- nothing was read on the link, and no EOF
pub record Unread (link : List ℕ) (ls : List Line) : Type 0 where
  pub read : read_on link ls ≡ []
  pub eof : has_eof link ls ≡ false

pub unread_quiet : (link : List ℕ) (ls : List Line) → AllQuiet (Some link) ls → Unread link ls
unread_quiet link ls q = record { read = no_read link ls q; eof = no_eof link ls q }

no_more : (b : Bool) → (b || false) ≡ b
no_more true = refl
no_more false = refl

-- ---- what a log got

-- the log gets no value from that link, and no end of it
abbrev pub Gets : Wire → List LogEntry → List LogEntry → Type 0
Gets u log new = (gots u new ≡ gots u log) × (ending u new ≡ ending u log)

-- of a client
abbrev pub GetsNone : Wire → MemberState → MemberState → Type 0
GetsNone u m n = Gets u m.state.past n.state.past

adding_apart : (u : Wire) (log : List LogEntry) (c : ClientCall) → IsApart u c
    → Adding (Gets u log) log c
adding_apart u log (call.Ask q) apart = (refl, refl)
adding_apart u log (call.Send words) apart = (refl, refl)
adding_apart u log (call.Poll n) apart = (refl, refl)
adding_apart u log (call.TakeOut w most) apart = (refl, refl)
adding_apart u log (call.Got w v) apart = (
  (ap (λ b. cond b (gots u log ++ v ∷ []) (gots u log)) apart, refl),
  (refl, ap (λ b. cond b (ByValue v) (ending u log)) apart),
)
adding_apart u log (call.End w) apart = (refl, ap (λ b. cond b ByEnd (ending u log)) apart)

pub gets_turn : (u : Wire) (s : Setup) (log : List LogEntry) (c : ClientCall) → IsApart u c
    → Gets u log (client_step s log c).past
gets_turn u s log c apart =
    by_turn (Gets u log) s log (refl, refl) c (adding_apart u log c apart)

gets_same : (u : Wire) (m : MemberState) → GetsNone u m m
gets_same u m = (refl, refl)

gets_both : (u : Wire) (m n k : MemberState) → GetsNone u m n → GetsNone u n k
    → GetsNone u m k
gets_both u m n k a b = (b.0 ∙ a.0, b.1 ∙ a.1)

-- what a client does at one end gets nothing of its other link
module _ (e : LinkEnd) (u : Wire) (other : u ≡ e.wire → ⊥) where
  gets_turned : (c : ClientCall) (m : MemberState) → IsHere e.wire c → (IsAsked c → ⊥)
      → GetsNone u m (turned c m)
  gets_turned c m here n =
      gets_turn u m.state.setup m.state.past c (here_apart e.wire u c here other)

  pub gets_out : (count : Option ℕ) (s : Seat)
      → Gets u (log_of s) (log_of (out count e s).state)
  gets_out = m_out (GetsNone u) (gets_same u) (gets_both u) e gets_turned

  pub gets_receive : (count : Option ℕ) (s : Seat)
      → Gets u (log_of s) (log_of (receive count e s).state)
  gets_receive = m_receive (GetsNone u) (gets_same u) (gets_both u) e gets_turned

  pub gets_flow : (s : Seat) → Gets u (log_of s) (log_of (flow e s).state)
  gets_flow = m_flow (GetsNone u) (gets_same u) (gets_both u) e gets_turned

-- nor does what is shown, or the end of the other link
module _ (u : Wire) where
  pub gets_show : (s : Seat) → Gets u (log_of s) (log_of (show s).state)
  gets_show = m_show (GetsNone u) (gets_same u) (gets_both u)

  gets_hang_main : (w : Wire) (before : Bool) (s : Seat)
      → Gets u (log_of s) (log_of (hang_up_main w before s).state)
  gets_hang_main = m_hang_main (GetsNone u) (gets_same u) (gets_both u)

-- ---- what is said of the log, by what was read at an end

abbrev pub By : LinkEnd → List Line → List LogEntry → Type 0
By e lines log =
    IsGot (read_on e.link lines) (has_eof e.link lines) (got_of e.wire log) (ending e.wire log)

pub by_unread : (e : LinkEnd) (lines ls : List Line) (log : List LogEntry) → Unread e.link ls
    → By e lines log → By e (lines ++ ls) log
by_unread e lines ls log none k =
    let got = got_of e.wire log in
    let how = ending e.wire log in
    subst (λ r. IsGot r (has_eof e.link (lines ++ ls)) got how)
    (sym (read_more e.link lines ls ∙ ap (λ x. read_on e.link lines ++ x) none.read
    ∙ append-nil (read_on e.link lines)))
    (subst (λ b. IsGot (read_on e.link lines) b got how)
    (sym (eof_more e.link lines ls ∙ ap (λ b. has_eof e.link lines || b) none.eof
    ∙ no_more (has_eof e.link lines))) k)

-- where nothing is read, and the log gets nothing
pub by_gets : (e : LinkEnd) (lines ls : List Line) (log new : List LogEntry)
    → Gets e.wire log new → Unread e.link ls → By e lines log → By e (lines ++ ls) new
by_gets e lines ls log new same none k =
    let more = lines ++ ls in
    subst (λ gs. IsGot (read_on e.link more) (has_eof e.link more) (map tree_of gs)
    (ending e.wire new)) (sym same.0)
    (subst (IsGot (read_on e.link more) (has_eof e.link more) (got_of e.wire log)) (sym same.1)
    (by_unread e lines ls log none k))

-- ---- the client's place

pub record Placed (ls : LinksState) (link : List ℕ) (place : ℕ) : Type 0 where
  pub unique : (i j : ℕ) → i < length ls.links → j < length ls.links
      → (at_place ls.links j).name ≡ (at_place ls.links i).name → j ≡ i
  pub below : place < length ls.links
  pub named : (at_place ls.links place).name ≡ link

pub found : (ls : LinksState) (link : List ℕ) (place : ℕ) → Placed ls link place
    → place_of link ls ≡ Some place
found ls link place p = place_is ls p.unique link place p.below p.named

placed_more : (w v : LinksState) (link : List ℕ) (place : ℕ) → LinkGrows w v
    → Placed w link place → Placed v link place
placed_more w v link place g p = record {
  unique = g.unique p.unique;
  below = omega (arith, p.below, g.size);
  named = g.names place p.below ∙ p.named;
}

pub link_grows : (event : LinkEvent) (w : LinksState) → LinkGrows w (step w event).state
link_grows event w =
    ((step_moved w event).all (step w event).state (step w event).lines (inl (refl, refl))).grows

-- the client between two moves at an end
pub record Ready (e : LinkEnd) (lines : List Line) (s : Seat) : Type 0 where
  pub place : Placed s.links e.link e.place
  pub due : By e lines (log_of s)
  pub reading : has_ended e.wire s ≡ false
      → GoesOn parse_values (read_on e.link lines) s.reader

-- ---- what leaves all that

-- the log got no value from the link, and no end of it
pub record Same (e : LinkEnd) (s t : Seat) : Type 0 where
  pub reader : t.reader ≡ s.reader
  pub gets : Gets e.wire (log_of s) (log_of t)
  pub ended_is : has_ended e.wire t ≡ has_ended e.wire s
  pub placed : (link : List ℕ) (place : ℕ) → Placed s.links link place
      → Placed t.links link place

module _ (e : LinkEnd) where
  same_still : (s : Seat) → Same e s s
  same_still s = record {
    reader = refl;
    gets = (refl, refl);
    ended_is = refl;
    placed = λ link place p. p;
  }

  same_both : (s t u : Seat) → Same e s t → Same e t u → Same e s u
  same_both s t u a b = record {
    reader = b.reader ∙ a.reader;
    gets = gets_both e.wire s.member t.member u.member a.gets b.gets;
    ended_is = b.ended_is ∙ a.ended_is;
    placed = λ link place p. b.placed link place (a.placed link place p);
  }

  same_then : (s : Seat) (m : Outcome Seat) (next : Seat → Outcome Seat) → Same e s m.state
      → ((t : Seat) → Same e t (next t).state) → Same e s (and_then m next).state
  unfolding and_then
  same_then s m next a g = elim m.fault as (λ f. Same e s (then_by f m (next m.state)).state) [
    | Some f ↦ a
    | None ↦ same_both s m.state (next m.state).state a (g m.state)
  ]

  same_if : (s : Seat) (b : Bool) (m n : Outcome Seat) → Same e s m.state → Same e s n.state
      → Same e s (cond b m n).state
  same_if s true m n a b = a
  same_if s false m n a b = b

  same_links : (event : LinkEvent) (s : Seat) → Same e s (links_do event s).state
  unfolding links_do within
  same_links event s = record {
    reader = refl;
    gets = (refl, refl);
    ended_is = refl;
    placed = λ link place p. placed_more s.links (step s.links event).state link place
        (link_grows event s.links) p;
  }

  same_take : (most : ℕ) (s : Seat) → Same e s (turn (call.TakeOut e.wire most) e s).state
  unfolding turn and_then
  same_take most s =
      let c = call.TakeOut e.wire most in
      let f = setup_of s in
      let log = log_of s in
      record {
        reader = refl;
        gets = by_turn (Gets e.wire log) f log (refl, refl) c (refl, refl);
        ended_is = by_turn (λ new. is_ended f.mode e.wire new ≡ is_ended f.mode e.wire log) f log
            refl c refl;
        placed = λ link place p. p;
      }

  same_taking : (most : ℕ) (s : Seat) → Same e s (take_out most e s).state
  unfolding take_out
  same_taking most s =
      same_then s (turn (call.TakeOut e.wire most) e s) _ (same_take most s)
      (λ t. same_links _ t)

  pub same_out : (count : Option ℕ) (s : Seat) → Same e s (out count e s).state
  same_out None s =
      same_if s (has_ended e.wire s) (stays s) (take_out all_bytes e s) (same_still s)
      (same_taking all_bytes s)
  same_out (Some n) s =
      same_if s
      (not (has_ended e.wire s) && nat_le n (length (untaken (setup_of s) e.wire (log_of s))))
      (take_out n e s) (refuses s NothingThere) (same_taking n s) (same_still s)

  -- a client that is the same is as ready, where nothing was read on the link
  ready_same : (lines ls : List Line) (s t : Seat) → Same e s t → Unread e.link ls
      → Ready e lines s → Ready e (lines ++ ls) t
  ready_same lines ls s t same none r = record {
    place = same.placed e.link e.place r.place;
    due = by_gets e lines ls (log_of s) (log_of t) same.gets none r.due;
    reading = λ going.
        subst (λ b. GoesOn parse_values b t.reader)
        (sym (read_more e.link lines ls ∙ ap (λ x. read_on e.link lines ++ x) none.read
        ∙ append-nil (read_on e.link lines)))
        (subst (GoesOn parse_values (read_on e.link lines)) (sym same.reader)
        (r.reading (sym same.ended_is ∙ going)));
  }

-- ---- bytes come in

-- what a client does leaves the links
abbrev Stays : Seat → Outcome Seat → Type 0
Stays s m = m.state.links ≡ s.links

stays_then : (s : Seat) (m : Outcome Seat) (next : Seat → Outcome Seat) → Stays s m
    → ((t : Seat) → Stays t (next t)) → Stays s (and_then m next)
unfolding and_then
stays_then s m next a g =
    elim m.fault as (λ f. (then_by f m (next m.state)).state.links ≡ s.links) [
      | Some f ↦ a
      | None ↦ g m.state ∙ a
    ]

stays_if : (s : Seat) (b : Bool) (m n : Outcome Seat) → Stays s m → Stays s n
    → Stays s (cond b m n)
stays_if s true m n a b = a
stays_if s false m n a b = b

module _ (e : LinkEnd) where
  stays_turn : (c : ClientCall) (s : Seat) → Stays s (turn c e s)
  unfolding turn and_then
  stays_turn c s = refl

  stays_all : (ts : List Tree) (s : Seat) → Stays s (got_all ts e s)
  unfolding got_all got_one
  stays_all [] s = refl
  stays_all (t ∷ ts) s =
      stays_then s (got_one t e s) (got_all ts e)
      (stays_then s (does s (next_read s) []) (got (value_of t) e) refl
      (λ u. stays_if u (has_ended e.wire u) (stays u)
      (turn (call.Got e.wire (value_of t)) e u) refl
      (stays_turn (call.Got e.wire (value_of t)) u)))
      (stays_all ts)

  stays_stop : (place : Option FaultPlace) (s : Seat) → Stays s (stop place e s)
  stays_stop None s = refl
  stays_stop (Some place) s =
      stays_if s (has_ended e.wire s) (stays s) _ refl
      (stays_then s _ (turn (call.End e.wire) e) refl (stays_turn (call.End e.wire)))

  stays_values : (s : Seat) → Stays s (read_values e s)
  unfolding read_values
  stays_values s =
      let p = parse_values s.reader in
      stays_then s (and_then (got_all p.items e s) (rest_read p.stream))
      (stop (stopped_at p.fault) e)
      (stays_then s (got_all p.items e s) (rest_read p.stream) (stays_all p.items s)
      (λ t. refl))
      (stays_stop (stopped_at p.fault))

-- where the client hangs up, what is on the way down stays
module _ (w : LinksState) (link : List ℕ) (place : ℕ) (p : Placed w link place) where
  abbrev hung : LinksState
  hung = (step w (Over link moves.HangUp)).state

  hung_down : (at_place hung.links place).down ≡ (at_place w.links place).down
  unfolding step over within
  hung_down =
      let is = found w link place p in
      let below = p.below in
      grind (arith, get_or-set_same, is, below)

-- ---- an EOF

no_eof_bytes : (link name bytes : List ℕ) → has_eof link (read_lines name bytes) ≡ false
no_eof_bytes link name [] = refl
no_eof_bytes link name (b ∷ bytes) = refl

no_eof_piece : (link : List ℕ) (n : ℕ) (s : Session)
    → has_eof link (link_moves.receive (Some n) s).lines ≡ false
no_eof_piece link n s =
    elim (nat_le n (length s.link.down.bytes)) as (λ b. has_eof link (cond b
    (link_moves.read_bytes (take n s.link.down.bytes) (without n s.link.down) s)
    (refuses s NothingThere)).lines ≡ false) [
      | true ↦ no_eof_bytes link s.link.name (take n s.link.down.bytes)
      | false ↦ refl
    ]

-- so many bytes that are read bring no EOF
no_eof_read : (link name : List ℕ) (n : ℕ) (p : Option ℕ) (w : LinksState)
    → has_eof link (over_named p (move_of (Over name (moves.Recv (Some n)))) w).lines ≡ false
unfolding over within
no_eof_read link name n None w = refl
no_eof_read link name n (Some at) w = no_eof_piece link n (session_at at w)

eof_own : (link : List ℕ) (b : Bool) → has_eof link (eof_lines link b) ≡ b
eof_own link true = ap (λ b. b || false) (names_itself link link refl)
eof_own link false = refl

session_eof : (s : Session)
    → has_eof s.link.name (link_moves.receive None s).lines ≡ is_queued s.link.down.eof
unfolding receive_all and_then
session_eof s =
    eof_more s.link.name (read_lines s.link.name s.link.down.bytes)
    (eof_lines s.link.name (is_queued s.link.down.eof))
    ∙ ap (λ b. b || has_eof s.link.name (eof_lines s.link.name (is_queued s.link.down.eof)))
    (no_eof_bytes s.link.name s.link.name s.link.down.bytes)
    ∙ eof_own s.link.name (is_queued s.link.down.eof)

-- all that is read brings the EOF, where one follows
eof_read : (w : LinksState) (link : List ℕ) (place : ℕ) → Placed w link place
    → has_eof link (step w (Over link (moves.Recv None))).lines
    ≡ is_queued (at_place w.links place).down.eof
unfolding step over within
eof_read w link place p =
    let q = is_queued (at_place w.links place).down.eof in
    subst (λ o. has_eof link (over_named o (move_of (Over link (moves.Recv None))) w).lines ≡ q)
    (sym (found w link place p))
    (subst (λ n. has_eof n (link_moves.receive None (session_at place w)).lines ≡ q) p.named
    (session_eof (session_at place w)))

-- ---- the bytes

-- the bytes that were in flight are these
abbrev pub Left : LinkEnd → List ℕ → Seat → Type 0
Left e bytes s =
    Placed s.links e.link e.place × ((at_place s.links.links e.place).down.bytes ≡ bytes)

module _ (e : LinkEnd) (left : List ℕ) where
  left_if : (b : Bool) (m n : Outcome Seat) → Left e left m.state → Left e left n.state
      → Left e left (cond b m n).state
  left_if true m n p q = p
  left_if false m n p q = q

  left_hung : (s : Seat) → Left e left s → Left e left (hang_up e s).state
  unfolding links_do within
  left_hung s k =
      left_if (has_ended e.wire s) (links_do (Over e.link moves.HangUp) s) (stays s) (
        placed_more s.links (step s.links (Over e.link moves.HangUp)).state e.link e.place
            (link_grows (Over e.link moves.HangUp) s.links) k.0,
        ap (λ (d : Direction). d.bytes) (hung_down s.links e.link e.place k.0) ∙ k.1,
      )
      k

  -- a value that is got, or what stops the reading, moves nothing on the link
  left_values : (s : Seat) → Left e left s → Left e left (read_values e s).state
  left_values s k =
      let ls = stays_values e s in (
        subst (λ x. Placed x e.link e.place) (sym ls) k.0,
        ap (λ (x : LinksState). (at_place x.links e.place).down.bytes) ls ∙ k.1,
      )

-- what is said of the log, and that the link ended by what was read there alone
abbrev pub Due : LinkEnd → List Line → Seat → Type 0
Due e lines u = Settling e (read_on e.link lines) (has_eof e.link lines) u []

module _ (e : LinkEnd) (lines : List Line) (n : ℕ) (s : Seat) (r : Ready e lines s)
    (going : has_ended e.wire s ≡ false) where
  abbrev bytes : List ℕ
  bytes = (link_of e s).down.bytes

  abbrev piece : List ℕ
  piece = take n bytes

  abbrev sooner : List ℕ
  sooner = read_on e.link lines

  abbrev recv : Outcome Seat
  recv = links_do (Over e.link (moves.Recv (Some n))) s

  got_all_of : (got_of e.wire (log_of s) ≡ values_of sooner) × IsWell sooner
      × (has_eof e.link lines ≡ false)
  got_all_of =
      subst (IsGot sooner (has_eof e.link lines) (got_of e.wire (log_of s)))
      (going_is (setup_of s).mode e.wire (log_of s) going) r.due

  -- what is read is what was in flight
  recv_reads : recv.fault ≡ None → read_on e.link recv.lines ≡ piece
  unfolding links_do within
  recv_reads none =
      (step_reads s.links e.link e.place (Some n) (found s.links e.link e.place r.place)).reads none

  recv_leaves : recv.fault ≡ None → Left e (drop n bytes) recv.state
  unfolding links_do within
  recv_leaves none =
      let is = found s.links e.link e.place r.place in (
        placed_more s.links _ e.link e.place
            (link_grows (Over e.link (moves.Recv (Some n))) s.links) r.place,
        (step_reads s.links e.link e.place (Some n) is).leaves n refl none,
      )

  -- and the client is as it was
  abbrev IsStill : Seat → Type 0
  IsStill t = (t.member ≡ s.member) × (t.reader ≡ s.reader)

  recv_still : IsStill recv.state
  unfolding links_do within
  recv_still = (refl, refl)

  -- each whole value in it is got
  abbrev rest : Seat → Outcome Seat
  rest t = and_then (feed piece t) (λ t. and_then (read_values e t) (hang_up e))

  quiet_rest : (t : Seat) → Unread e.link (rest t).lines
  quiet_rest t =
      unread_quiet e.link (rest t).lines
      (q_next (Some e.link) (feed piece t) (λ t. and_then (read_values e t) (hang_up e)) tt
      (λ u. q_next (Some e.link) (read_values e u) (hang_up e) (q_values (Some e.link) e u)
      (q_hang (Some e.link) e)))

  abbrev PieceGot : Seat → List Line → Type 0
  PieceGot = Settling e (sooner ++ piece) false

  hang_settles : (v : Seat) → PieceGot v [] → Done PieceGot (hang_up e v)
  unfolding links_do within
  hang_settles v k =
      done_if PieceGot (has_ended e.wire v) (links_do (Over e.link moves.HangUp) v) (stays v)
      (λ b none. k) (λ b none. k)

  rest_settles : (t : Seat) → IsStill t → Done PieceGot (rest t)
  rest_settles t still =
      let further = r.reading going in
      let u = with_reader t (fed t.reader piece) in
      let reader : u.reader ≡ fed s.reader piece = ap (λ x. fed x piece) still.1 in
      let log : log_of u ≡ log_of s = ap (λ (m : MemberState). m.state.past) still.0 in
      done_then (λ v ls. v ≡ u) PieceGot (feed piece t)
      (λ t. and_then (read_values e t) (hang_up e)) (λ none. refl)
      (λ is. done_then PieceGot PieceGot (read_values e u) (hang_up e)
      (values_settle e (sooner ++ piece) u
      (further.faults piece ∙ ap (λ x. (parse_values x).fault) (sym reader))
      (ap (λ l. got_of e.wire l ++ (parse_values u.reader).items) log
      ∙ ap (λ g. g ++ (parse_values u.reader).items) got_all_of.0
      ∙ ap (λ x. values_of sooner ++ (parse_values x).items) reader
      ∙ sym (further.further piece))
      (ap (λ (m : MemberState). is_ended m.state.setup.mode e.wire m.state.past) still.0
      ∙ going))
      (λ k. hang_settles (read_values e u).state k))

  rest_leaves : (t : Seat) → Left e (drop n bytes) t
      → Done (λ u ls. Left e (drop n bytes) u) (rest t)
  rest_leaves t k =
      let L : Seat → List Line → Type 0 = λ u ls. Left e (drop n bytes) u in
      done_then L L (feed piece t) (λ t. and_then (read_values e t) (hang_up e)) (λ none. k)
      (λ k. done_then L L (read_values e (feed piece t).state) (hang_up e)
      (λ none. left_values e (drop n bytes) (feed piece t).state k)
      (λ k none. left_hung e (drop n bytes) (read_values e (feed piece t).state).state k))

  -- nothing of an EOF is in it
  recv_quiet : has_eof e.link recv.lines ≡ false
  unfolding links_do within step
  recv_quiet = no_eof_read e.link e.link n (place_of e.link s.links) s.links

  bytes_settle : Done (λ u ls. Due e (lines ++ ls) u × Left e (drop n bytes) u)
      (receive_bytes n e s)
  unfolding receive_bytes
  bytes_settle =
      let Q : Seat → List Line → Type 0 =
      λ u ls. Due e (lines ++ ls) u × Left e (drop n bytes) u in
      done_then (λ t ls. IsStill t × (read_on e.link ls ≡ piece)
      × (has_eof e.link ls ≡ false) × Left e (drop n bytes) t) Q recv rest
      (λ none. (recv_still, recv_reads none, recv_quiet, recv_leaves none))
      (λ k none.
      let t = recv.state in
      let u = rest t in
      let quiet = quiet_rest t in
      let ls = recv.lines ++ u.lines in
      let reads : read_on e.link (lines ++ ls) ≡ sooner ++ piece =
      read_more e.link lines ls ∙ ap (λ x. sooner ++ x) (read_more e.link recv.lines u.lines
      ∙ ap (λ x. read_on e.link recv.lines ++ x) quiet.read
      ∙ append-nil (read_on e.link recv.lines) ∙ k.1) in
      let eofs : has_eof e.link (lines ++ ls) ≡ false =
      eof_more e.link lines ls ∙ ap (λ b. b || has_eof e.link ls) got_all_of.2
      ∙ eof_more e.link recv.lines u.lines ∙ ap (λ b. b || has_eof e.link u.lines) k.2
      ∙ quiet.eof in (
        subst (λ x. Settling e x (has_eof e.link (lines ++ ls)) u.state []) (sym reads)
            (subst (λ b. Settling e (sooner ++ piece) b u.state []) (sym eofs)
            (rest_settles t k.0 none)),
        rest_leaves t k.3 none,
      ))

-- ---- and then an EOF

module _ (e : LinkEnd) (lines : List Line) (s : Seat) (k : Due e lines s)
    (left : Left e [] s) where
  abbrev last : Outcome Seat
  last = links_do (Over e.link (moves.Recv None)) s

  abbrev queued : Bool
  queued = is_queued (link_of e s).down.eof

  last_reads : last.fault ≡ None → read_on e.link last.lines ≡ []
  unfolding links_do within
  last_reads none =
      (step_reads s.links e.link e.place None (found s.links e.link e.place left.0)).reads none
      ∙ left.1

  last_eof : has_eof e.link last.lines ≡ queued
  unfolding links_do within
  last_eof = eof_read s.links e.link e.place left.0

  last_member : last.state.member ≡ s.member
  unfolding links_do within
  last_member = refl

  eof_settles : Done (λ u ls. By e (lines ++ ls) (log_of u)) (receive_eof e s)
  unfolding receive_eof
  eof_settles =
      let Q : Seat → List Line → Type 0 = λ u ls. By e (lines ++ ls) (log_of u) in
      done_then (λ t ls. (read_on e.link ls ≡ []) × (has_eof e.link ls ≡ queued)
      × (t.member ≡ s.member)) Q last (λ t. cond queued (turn (call.End e.wire) e t) (stays t))
      (λ none. (last_reads none, last_eof, last_member))
      (λ p.
      let t = last.state in
      let more : List Line = last.lines ++ [] in
      let reads : read_on e.link (lines ++ more) ≡ read_on e.link lines =
      read_more e.link lines more ∙ ap (λ x. read_on e.link lines ++ read_on e.link x)
      (append-nil last.lines) ∙ ap (λ x. read_on e.link lines ++ x) p.0
      ∙ append-nil (read_on e.link lines) in
      let eofs : has_eof e.link (lines ++ more) ≡ (has_eof e.link lines || queued) =
      eof_more e.link lines more ∙ ap (λ x. has_eof e.link lines || has_eof e.link x)
      (append-nil last.lines) ∙ ap (λ b. has_eof e.link lines || b) p.1 in
      -- so it is of a log that is said this of by the same bytes
      let by : (b : Bool) (log : List LogEntry) → queued ≡ b
      → IsGot (read_on e.link lines) (has_eof e.link lines || b) (got_of e.wire log)
      (ending e.wire log) → By e (lines ++ more) log =
      λ b log is g. subst (λ x. IsGot x (has_eof e.link (lines ++ more)) (got_of e.wire log)
      (ending e.wire log)) (sym reads)
      (subst (λ x. IsGot (read_on e.link lines) x (got_of e.wire log) (ending e.wire log))
      (sym (eofs ∙ ap (λ x. has_eof e.link lines || x) is)) g) in
      let kt : Due e lines t =
      subst (λ (m : MemberState). Settled e (read_on e.link lines) (has_eof e.link lines)
      m.state.setup.mode m.state.past) (sym p.2) k in
      elim queued as (λ b. queued ≡ b → Done (λ u ls. Q u (last.lines ++ ls))
      (cond b (turn (call.End e.wire) e t) (stays t))) [
        | true ↦ λ is.
            done_turn (λ u ls. Q u (last.lines ++ ls)) (call.End e.wire) e t
            (λ none.
            let new = (client_step (setup_of t) (log_of t) (call.End e.wire)).past in
            by true new is
            (subst (λ b. IsGot (read_on e.link lines) b (got_of e.wire new) (ending e.wire new))
            (sym (or_true (has_eof e.link lines)))
            (ends_by_eof e (read_on e.link lines) (has_eof e.link lines) (setup_of t) (log_of t)
            kt).1))
        | false ↦ λ is none.
            by false (log_of t) is
            (subst (λ b. IsGot (read_on e.link lines) b (got_of e.wire (log_of t))
            (ending e.wire (log_of t))) (sym (no_more (has_eof e.link lines))) kt.1)
      ] refl)

-- ---- all that a client receives

module _ (e : LinkEnd) where
  abbrev pub Settles : List Line → Outcome Seat → Type 0
  Settles lines m = Done (λ u ls. By e (lines ++ ls) (log_of u)) m

  again : (lines more : List Line) (m : Outcome Seat) → Settles (lines ++ more) m
      → Done (λ u ls. By e (lines ++ (more ++ ls)) (log_of u)) m
  again lines more m k none =
      subst (λ x. By e x (log_of m.state)) (append_assoc lines more m.lines) (k none)

  -- what gets nothing, and reads nothing
  pub gets_settles : (lines : List Line) (s : Seat) (m : Outcome Seat)
      → Gets e.wire (log_of s) (log_of m.state) → Unread e.link m.lines → By e lines (log_of s)
      → Settles lines m
  gets_settles lines s m same none k is =
      by_gets e lines m.lines (log_of s) (log_of m.state) same none k

  both_true : (b c : Bool) → (not b && c) ≡ true → b ≡ false
  both_true true c is = absurd (let no : false ≡ true = is in cc)
  both_true false c is = refl

  read_settles : (count : Option ℕ) (lines : List Line) (s : Seat) → Ready e lines s
      → Settles lines (read count e s)
  read_settles None lines s r =
      let Q : Seat → List Line → Type 0 = λ u ls. By e (lines ++ ls) (log_of u) in
      let bytes = (link_of e s).down.bytes in
      let n = length bytes in
      let m = receive_bytes n e s in
      done_if Q (has_ended e.wire s) (stays s) (and_then m (receive_eof e))
      (λ over. gets_settles lines s (stays s) (refl, refl) (record { read = refl; eof = refl })
      r.due)
      (λ going. done_then (λ u ls. Due e (lines ++ ls) u × Left e (drop n bytes) u) Q m
      (receive_eof e) (bytes_settle e lines n s r going)
      (λ k. again lines m.lines (receive_eof e m.state)
      (eof_settles e (lines ++ m.lines) m.state k.0
      (subst (λ b. Left e b m.state) (drop_all n bytes (omega arith)) k.1))))
  read_settles (Some n) lines s r =
      let Q : Seat → List Line → Type 0 = λ u ls. By e (lines ++ ls) (log_of u) in
      let fits = nat_le n (length (link_of e s).down.bytes) in
      done_if Q (not (has_ended e.wire s) && fits) (receive_bytes n e s) (refuses s NothingThere)
      (λ is none. (bytes_settle e lines n s r (both_true (has_ended e.wire s) fits is) none).0.1)
      (λ is none. absurd (let no : ⊥ = cc in no))

  pub receive_settles : (count : Option ℕ) (lines : List Line) (s : Seat) → Ready e lines s
      → Settles lines (receive count e s)
  unfolding receive
  receive_settles count lines s r =
      let Q : Seat → List Line → Type 0 = λ u ls. By e (lines ++ ls) (log_of u) in
      let before = has_ended Main s in
      let m = read count e s in
      let end = hang_up_main e.wire before m.state in
      done_then Q Q m (hang_up_main e.wire before) (read_settles count lines s r)
      (λ k. again lines m.lines end (gets_settles (lines ++ m.lines) m.state end
      (gets_hang_main e.wire e.wire before m.state)
      (unread_quiet e.link end.lines (q_hang_main (Some e.link) e e.wire before m.state)) k))

  settles_then : (lines : List Line) (m : Outcome Seat) (next : Seat → Outcome Seat)
      → Settles (lines ++ m.lines) (next m.state) → Settles lines (and_then m next)
  settles_then lines m next k =
      done_then (λ u ls. Unit {0}) (λ u ls. By e (lines ++ ls) (log_of u)) m next
      (λ none. tt) (λ u. again lines m.lines (next m.state) k)

  pub flow_settles : (lines : List Line) (s : Seat) → Ready e lines s → Settles lines (flow e s)
  unfolding flow IsUnread
  flow_settles lines s r =
      let a = out None e s in
      let t = a.state in
      let b = links_do (Over e.link (moves.Serve None)) t in
      let u = b.state in
      let c = links_do (Over e.link (moves.Send None)) u in
      let r1 = ready_same e lines a.lines s t (same_out e None s)
      (unread_quiet e.link a.lines (q_out (Some e.link) e None s)) r in
      let r2 = ready_same e (lines ++ a.lines) b.lines t u (same_links e _ t)
      (unread_quiet e.link b.lines
      (q_links (Some e.link) (Over e.link (moves.Serve None)) t (inl tt))) r1 in
      let r3 = ready_same e ((lines ++ a.lines) ++ b.lines) c.lines u c.state
      (same_links e _ u) (unread_quiet e.link c.lines
      (q_links (Some e.link) (Over e.link (moves.Send None)) u (inl tt))) r2 in
      settles_then lines a _
      (settles_then (lines ++ a.lines) b _
      (settles_then ((lines ++ a.lines) ++ b.lines) c (receive None e)
      (receive_settles None (((lines ++ a.lines) ++ b.lines) ++ c.lines) c.state r3)))
