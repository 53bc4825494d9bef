-- A client that has its links plays each of its moves: only its full log stops one.
use Rattle.std.proofs.Common.{◌≡◌, ℕ, List, [], ◌∷◌, Bool, true, false, cond, Some, None, Option}
use Rattle.std.proofs.Common.{length, not, refl, sym, ap, subst, take, ◌∙◌, arith}
use Rattle.std.specs.Prelude.{◌&&◌, nat_le}
use Rattle.std.proofs.lemmas.Bool.Decides.{nat_tests}
use Rattle.command_words.specs.Control.{is_control}
use Rattle.resp_value.specs.Tree.{Tree}
use Rattle.resp_value.specs.ValueTree.{value_of}
use Rattle.resp_value.specs.declared.value.Value.{Value}
use Rattle.resp_stream.specs.declared.fault.FaultPlace.{FaultPlace}
use Rattle.resp_stream.specs.Parse.{parse_values}
use Rattle.shared_cache.specs.declared.entry.CacheEntry.{CacheEntry}
use Rattle.shared_cache.specs.declared.log.ClientCall.{ClientCall}
use Rattle.shared_cache.specs.declared.log.ClientCall.TheVariants as call
use Rattle.shared_cache.specs.declared.log.ClientMode.{ClientMode}
use Rattle.shared_cache.specs.declared.log.ClientReply.TheVariants.{Sent}
use Rattle.shared_cache.specs.declared.log.ClientRefusal.{ClientRefusal}
use Rattle.shared_cache.specs.declared.log.ClientRefusal.TheVariants as refusal
use Rattle.shared_cache.specs.declared.log.LogEntry.{LogEntry}
use Rattle.shared_cache.specs.declared.log.LogEntry.TheVariants as entry
use Rattle.shared_cache.specs.declared.log.Wire.{Wire}
use Rattle.shared_cache.specs.declared.log.Wire.TheVariants.{Main, Side}
use Rattle.shared_cache.specs.declared.notices.Notice.{Notice}
use Rattle.shared_cache.specs.Held.{commands}
use Rattle.shared_cache.specs.Log.{is_ended, is_ready, replies}
use Rattle.shared_cache.specs.Notices.{notice_of}
use Rattle.shared_cache.specs.Steps.{ClientTurn, answer_ask, client_step, command_number, getting}
use Rattle.shared_cache.specs.Steps.{is_log_full, judged, refusing, taking_out}
use Rattle.shared_cache.specs.Steps as steps
use Rattle.script_text.specs.declared.line.Line.{Line}
use Rattle.script_text.specs.declared.line.Line.TheVariants as line
use Rattle.server_links.specs.declared.fault.WorldFault.{WorldFault}
use Rattle.server_links.specs.declared.link.LinkMove.{LinkMove}
use Rattle.server_links.specs.declared.link.LinkMove.TheVariants as moves
use Rattle.server_links.specs.Directions.{is_queued}
use Rattle.server_links.specs.LinkEvent.{LinkEvent, Put, Over}
use Rattle.server_links.specs.LinksState.{LinksState, names}
use Rattle.server_links.specs.LinkSteps.{place_of, step}
use Rattle.server_links.specs.Moves.{all_bytes, moved, stopped_at}
use Rattle.server_links.specs.Outcome.{Outcome, and_then, does, stays, then_by, within}
use Rattle.server_links.specs.Session.{session_at}
use Rattle.world_run.specs.WorldState.{LinkEnd, MemberState, link_on}
use Rattle.world_run.specs.Members.{Seat, link_of, links_do, with_reader}
use Rattle.world_run.specs.ClientMoves.{bytes_of, fault_of, feed, flow, got, got_all, got_one}
use Rattle.world_run.specs.ClientMoves.{hang_up, hang_up_main, has_ended, next_read, out, read}
use Rattle.world_run.specs.ClientMoves.{read_values, receive, receive_bytes, receive_eof}
use Rattle.world_run.specs.ClientMoves.{refused_fault, rest_read, stop, take_out, turn}
use Rattle.storm_laws.specs.Storms.{IsFull}
use Rattle.storm_laws.proofs.LinkMoves.{Goes, Smooth, goes_move, goes_put, place_kept, smooth_part}
use Rattle.storm_laws.proofs.LinkMoves.{smooth_receive, smooth_send, smooth_serve}

-- ---- outcomes that only a full log stops

abbrev pub OnlyFull : Option WorldFault → Type 0
OnlyFull o = (f : WorldFault) → o ≡ Some f → IsFull f

pub none : OnlyFull None
none f e = absurd (let no : ⊥ = cc in no)

-- a client has its link at an end, and the one that its commands go on
pub record HasLinks (e : LinkEnd) (s : Seat) : Type 0 where
  pub own : place_of e.link s.links ≡ Some e.place
  pub main_place : ℕ
  pub main : place_of (link_on Main s.member.name) s.links ≡ Some main_place

-- the links and the client keep their names, and only a full log stops this
pub record Plays (s : Seat) (m : Outcome Seat) : Type 0 where
  pub full : OnlyFull m.fault
  pub names : names m.state.links.links ≡ names s.links.links
  pub name : m.state.member.name ≡ s.member.name

has_then : (e : LinkEnd) (s : Seat) (m : Outcome Seat) → Plays s m → HasLinks e s
    → HasLinks e m.state
has_then e s m k h = record {
  own = place_kept e.link s.links m.state.links k.names ∙ h.own;
  main_place = h.main_place;
  main = ap (λ n. place_of (link_on Main n) m.state.links) k.name
      ∙ place_kept (link_on Main s.member.name) s.links m.state.links k.names ∙ h.main;
}

plays_then : (e : LinkEnd) (s : Seat) (m : Outcome Seat) (next : Seat → Outcome Seat)
    → HasLinks e s → Plays s m → ((t : Seat) → HasLinks e t → Plays t (next t))
    → Plays s (and_then m next)
unfolding and_then
plays_then e s m next h k g =
    elim m.fault as (λ v. m.fault ≡ v → Plays s (then_by v m (next m.state))) [
      | Some f ↦ λ is. k
      | None ↦ λ is. (let n = g m.state (has_then e s m k h) in record {
        full = n.full;
        names = n.names ∙ k.names;
        name = n.name ∙ k.name;
      })
    ] refl

plays_if : (s : Seat) (b : Bool) (m n : Outcome Seat) → Plays s m → Plays s n
    → Plays s (cond b m n)
plays_if s true m n p q = p
plays_if s false m n p q = q

plays_stays : (s : Seat) → Plays s (stays s)
plays_stays s = record { full = none; names = refl; name = refl }

plays_does : (s new : Seat) (ls : List Line) → new.links ≡ s.links → new.member ≡ s.member
    → Plays s (does s new ls)
plays_does s new ls same member = record {
  full = none;
  names = ap (λ (l : LinksState). names l.links) same;
  name = ap (λ (m : MemberState). m.name) member;
}

-- ---- its links

plays_links : (event : LinkEvent) (s : Seat) → Goes s.links (step s.links event)
    → Plays s (links_do event s)
unfolding links_do within
plays_links event s g = record {
  full = λ f e. absurd (let no : ⊥ = cc (g.smooth, e) in no);
  names = g.names;
  name = refl;
}

plays_put : (bytes name : List ℕ) (at : ℕ) (s : Seat) → place_of name s.links ≡ Some at
    → Plays s (links_do (Put name bytes) s)
plays_put bytes name at s there =
    plays_links (Put name bytes) s (goes_put bytes name at s.links there)

plays_over : (move : LinkMove) (name : List ℕ) (at : ℕ) (s : Seat)
    → place_of name s.links ≡ Some at → Smooth (moved move (session_at at s.links))
    → Plays s (links_do (Over name move) s)
plays_over move name at s there smooth =
    plays_links (Over name move) s (goes_move move name at s.links there smooth)

-- ---- turns

-- the client refuses, and that stops an event only where its log is full
unfoldable IsMild : ClientRefusal → Type 0
IsMild r = OnlyFull (refused_fault r)

mild_down : (w : Wire) → IsMild (refusal.Down w)
unfolding IsMild
mild_down w = none

mild_unready : IsMild refusal.NotReady
unfolding IsMild
mild_unready = none

mild_full : (n : ℕ) → IsMild (refusal.LogFull n)
unfolding IsMild
mild_full n f e = grind arith

MildBy : Option ClientRefusal → Type 0
MildBy None = Unit {0}
MildBy (Some r) = IsMild r

mild_judged : (m : ClientMode) (w : Wire) (replied sent : ℕ) (v : Value) (n : Notice)
    → MildBy (judged m w replied sent v n)
unfolding MildBy IsMild
mild_judged m w replied sent v n = grind arith

unfoldable MildTurn : ClientTurn → Type 0
MildTurn t = OnlyFull (fault_of t.reply)

mild_if : (b : Bool) (x y : ClientTurn) → MildTurn x → MildTurn y → MildTurn (cond b x y)
mild_if true x y p q = p
mild_if false x y p q = q

mild_refusing : (r : ClientRefusal) (log : List LogEntry) → IsMild r → MildTurn (refusing r log)
unfolding MildTurn IsMild
mild_refusing r log m = m

mild_getting : (o : Option ClientRefusal) (w : Wire) (v : Value) (full : Bool)
    (log : List LogEntry)
    → MildBy o → MildTurn (getting o w v full log)
unfolding MildBy IsMild MildTurn
mild_getting o w v full log m = grind arith

mild_taking : (w : Wire) (most : ℕ) (bytes : List ℕ) (full : Bool) (log : List LogEntry)
    → MildTurn (taking_out w most bytes full log)
unfolding MildTurn
mild_taking w most bytes full log = grind arith

mild_answer : (o : Option CacheEntry) (n : ℕ) (past : List LogEntry)
    → MildTurn (record { reply = answer_ask o n; past = past })
unfolding MildTurn
mild_answer (Some h) n past = none
mild_answer None n past = none

mild_sent : (n : ℕ) (past : List LogEntry)
    → MildTurn (record { reply = Sent n; past = past })
unfolding MildTurn
mild_sent n past = none

plays_turn : (c : ClientCall) (e : LinkEnd) (s : Seat)
    → MildTurn (client_step s.member.state.setup s.member.state.past c) → Plays s (turn c e s)
unfolding turn and_then MildTurn
plays_turn c e s mild = record { full = mild; names = refl; name = refl }

module _ (e : LinkEnd) where
  pub plays_ask : (q : List (List ℕ)) (s : Seat) → Plays s (turn (call.Ask q) e s)
  unfolding client_step
  plays_ask q s =
      let set = s.member.state.setup in
      let past = s.member.state.past in
      plays_turn (call.Ask q) e s
      (mild_if (is_ended set.mode Main past) _ _
      (mild_refusing (refusal.Down Main) past (mild_down Main))
      (mild_if (not (is_ready set.mode past)) _ _
      (mild_refusing refusal.NotReady past mild_unready)
      (mild_if (is_log_full set past) _ _
      (mild_refusing (refusal.LogFull (length past)) past (mild_full (length past)))
      (mild_answer _ _ _))))

  -- no command of control
  pub plays_send : (ws : List (List ℕ)) (s : Seat) → is_control ws ≡ false
      → Plays s (turn (call.Send ws) e s)
  unfolding client_step
  plays_send ws s plain =
      let set = s.member.state.setup in
      let past = s.member.state.past in
      let full = refusing (refusal.LogFull (length past)) past in
      let sent : ClientTurn =
      record { reply = Sent (command_number set past ws); past = entry.Send ws ∷ past } in
      plays_turn (call.Send ws) e s
      (mild_if (is_ended set.mode Main past) _ _
      (mild_refusing (refusal.Down Main) past (mild_down Main))
      (mild_if (not (is_ready set.mode past)) _ _
      (mild_refusing refusal.NotReady past mild_unready)
      (subst (λ b. MildTurn (cond b (refusing refusal.Control past)
      (cond (is_log_full set past) full sent))) (sym plain)
      (mild_if (is_log_full set past) full sent
      (mild_refusing (refusal.LogFull (length past)) past (mild_full (length past)))
      (mild_sent (command_number set past ws) (entry.Send ws ∷ past))))))

  plays_got_turn : (v : Value) (s : Seat) → Plays s (turn (call.Got e.wire v) e s)
  unfolding client_step steps.fault_of
  plays_got_turn v s =
      let set = s.member.state.setup in
      let past = s.member.state.past in
      plays_turn (call.Got e.wire v) e s
      (mild_if (is_ended set.mode e.wire past) _ _
      (mild_refusing (refusal.Down e.wire) past (mild_down e.wire))
      (mild_getting (steps.fault_of set past e.wire v) e.wire v (is_log_full set past) past
      (mild_judged set.mode e.wire (length (replies set.mode e.wire past))
      (length (commands set e.wire past)) v (notice_of set.mode e.wire v))))

  plays_end_turn : (s : Seat) → Plays s (turn (call.End e.wire) e s)
  unfolding client_step MildTurn
  plays_end_turn s = plays_turn (call.End e.wire) e s none

  plays_take_turn : (most : ℕ) (s : Seat) → Plays s (turn (call.TakeOut e.wire most) e s)
  unfolding client_step
  plays_take_turn most s =
      let set = s.member.state.setup in
      let past = s.member.state.past in
      plays_turn (call.TakeOut e.wire most) e s
      (mild_if (is_ended set.mode e.wire past) _ _
      (mild_refusing (refusal.Down e.wire) past (mild_down e.wire))
      (mild_taking e.wire most _ (is_log_full set past) past))

  -- ---- moves

  plays_take : (most : ℕ) (s : Seat) → HasLinks e s → Plays s (take_out most e s)
  unfolding take_out
  plays_take most s h =
      let t = client_step s.member.state.setup s.member.state.past (call.TakeOut e.wire most) in
      plays_then e s (turn (call.TakeOut e.wire most) e s)
      (links_do (Put e.link (bytes_of t.reply))) h (plays_take_turn most s)
      (λ u g. plays_put (bytes_of t.reply) e.link e.place u g.own)

  pub plays_out : (s : Seat) → HasLinks e s → Plays s (out None e s)
  plays_out s h =
      plays_if s (has_ended e.wire s) (stays s) (take_out all_bytes e s) (plays_stays s)
      (plays_take all_bytes s h)

  plays_got : (v : Value) (s : Seat) → Plays s (got v e s)
  plays_got v s =
      plays_if s (has_ended e.wire s) (stays s) (turn (call.Got e.wire v) e s) (plays_stays s)
      (plays_got_turn v s)

  plays_got_all : (ts : List Tree) (s : Seat) → HasLinks e s → Plays s (got_all ts e s)
  unfolding got_all got_one
  plays_got_all [] s h = plays_stays s
  plays_got_all (t ∷ ts) s h =
      plays_then e s (got_one t e s) (got_all ts e) h
      (plays_then e s (does s (next_read s) []) (got (value_of t) e) h
      (plays_does s (next_read s) [] refl refl) (λ u g. plays_got (value_of t) u))
      (plays_got_all ts)

  plays_stop : (place : Option FaultPlace) (s : Seat) → HasLinks e s → Plays s (stop place e s)
  plays_stop None s h = plays_stays s
  plays_stop (Some place) s h =
      let bad = line.Bad e.link place.number place.offset ∷ [] in
      plays_if s (has_ended e.wire s) (stays s) (and_then (does s s bad) (turn (call.End e.wire) e))
      (plays_stays s)
      (plays_then e s (does s s bad) (turn (call.End e.wire) e) h (plays_does s s bad refl refl)
      (λ u g. plays_end_turn u))

  plays_values : (s : Seat) → HasLinks e s → Plays s (read_values e s)
  unfolding read_values
  plays_values s h =
      let p = parse_values s.reader in
      plays_then e s (and_then (got_all p.items e s) (rest_read p.stream))
      (stop (stopped_at p.fault) e) h
      (plays_then e s (got_all p.items e s) (rest_read p.stream) h (plays_got_all p.items s h)
      (λ u g. plays_does u (with_reader u p.stream) [] refl refl))
      (plays_stop (stopped_at p.fault))

  plays_hang : (s : Seat) → HasLinks e s → Plays s (hang_up e s)
  plays_hang s h =
      plays_if s (has_ended e.wire s) (links_do (Over e.link moves.HangUp) s) (stays s)
      (plays_over moves.HangUp e.link e.place s h.own refl) (plays_stays s)

  plays_hang_main : (u : Wire) (before : Bool) (s : Seat) → HasLinks e s
      → Plays s (hang_up_main u before s)
  plays_hang_main Main before s h = plays_stays s
  plays_hang_main Side before s h =
      let main = link_on Main s.member.name in
      plays_if s (not before && has_ended Main s) (links_do (Over main moves.HangUp) s) (stays s)
      (plays_over moves.HangUp main h.main_place s h.main refl) (plays_stays s)

  plays_bytes : (n : ℕ) (s : Seat) → HasLinks e s
      → nat_le n (length (link_of e s).down.bytes) ≡ true → Plays s (receive_bytes n e s)
  unfolding receive_bytes
  plays_bytes n s h enough =
      let piece = take n (link_of e s).down.bytes in
      plays_then e s (links_do (Over e.link (moves.Recv (Some n))) s)
      (λ t. and_then (feed piece t) (λ t. and_then (read_values e t) (hang_up e))) h
      (plays_over (moves.Recv (Some n)) e.link e.place s h.own
      (smooth_part n (session_at e.place s.links) enough))
      (λ t g. plays_then e t (feed piece t) (λ t. and_then (read_values e t) (hang_up e)) g
      (plays_does t (feed piece t).state [] refl refl)
      (λ u k. plays_then e u (read_values e u) (hang_up e) k (plays_values u k) plays_hang))

  plays_eof : (s : Seat) → HasLinks e s → Plays s (receive_eof e s)
  unfolding receive_eof
  plays_eof s h =
      let q = is_queued (link_of e s).down.eof in
      plays_then e s (links_do (Over e.link (moves.Recv None)) s)
      (λ t. cond q (turn (call.End e.wire) e t) (stays t)) h
      (plays_over (moves.Recv None) e.link e.place s h.own
      (smooth_receive (session_at e.place s.links)))
      (λ t g. plays_if t q (turn (call.End e.wire) e t) (stays t) (plays_end_turn t)
      (plays_stays t))

  all_of_it : (n : ℕ) → nat_le n n ≡ true
  all_of_it n = grind (arith, nat_tests)

  plays_read : (s : Seat) → HasLinks e s → Plays s (read None e s)
  plays_read s h =
      let n = length (link_of e s).down.bytes in
      plays_if s (has_ended e.wire s) (stays s) (and_then (receive_bytes n e s) (receive_eof e))
      (plays_stays s)
      (plays_then e s (receive_bytes n e s) (receive_eof e) h (plays_bytes n s h (all_of_it n))
      plays_eof)

  pub plays_receive : (s : Seat) → HasLinks e s → Plays s (receive None e s)
  unfolding receive
  plays_receive s h =
      let before = has_ended Main s in
      plays_then e s (read None e s) (hang_up_main e.wire before) h (plays_read s h)
      (plays_hang_main e.wire before)

  pub plays_flow : (s : Seat) → HasLinks e s → Plays s (flow e s)
  unfolding flow
  plays_flow s h =
      plays_then e s (out None e s)
      (λ s. and_then (links_do (Over e.link (moves.Serve None)) s)
      (λ s. and_then (links_do (Over e.link (moves.Send None)) s) (receive None e))) h
      (plays_out s h)
      (λ t g. plays_then e t (links_do (Over e.link (moves.Serve None)) t)
      (λ s. and_then (links_do (Over e.link (moves.Send None)) s) (receive None e)) g
      (plays_over (moves.Serve None) e.link e.place t g.own
      (smooth_serve (session_at e.place t.links)))
      (λ u k. plays_then e u (links_do (Over e.link (moves.Send None)) u) (receive None e) k
      (plays_over (moves.Send None) e.link e.place u k.own
      (smooth_send (session_at e.place u.links)))
      plays_receive))
