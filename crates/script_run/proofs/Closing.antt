-- The session as a whole: what its two seats did, joined.
use Rattle.std.proofs.Common.{◌≡◌, ◌≤◌, ◌<◌, ◌+◌, ℕ, List, [], ◌∷◌, ◌++◌, true, false}
use Rattle.std.proofs.Common.{Bool, length, refl, sym, ap, subst, ◌∙◌, arith, append-nil, Some, inl}
use Rattle.std.proofs.Common.{inr, append_assoc, None}
use Rattle.std.specs.Prelude.{Option, IfSome, is_some}
use Rattle.std.specs.List.{All}
use Rattle.std.proofs.Math.Nat.{le-max_left, le-max_right}
use Rattle.atomic_table.specs.Seated.{TableId}
use Rattle.turn_lock.specs.Counts.{times, total}
use Rattle.turn_lock.specs.History.{IsPrefix, Legal}
use Rattle.turn_lock.specs.Seats.{first_seat, split_seat, joined_seat, IsSound}
use Rattle.turn_lock.specs.Own.{own_list, with_pasts, past_of, turns_of, IsWithin, Grows}
use Rattle.turn_lock.proofs.Growing.{grows_none, grows_past}
use Rattle.turn_lock.proofs.Owning.{total-append}
use Rattle.turn_lock.proofs.Turning.{begins_trans, entries_begin}
use Rattle.shared_cache.specs.declared.log.Wire.{Wire}
use Rattle.shared_cache.specs.declared.log.Wire.TheVariants.{Main, Side}
use Rattle.shared_cache.specs.declared.log.LogEntry.{LogEntry}
use Rattle.shared_cache.specs.declared.log.LogEntry.TheVariants as entry
use Rattle.shared_cache.specs.declared.log.Shape.{Shape}
use Rattle.shared_cache.specs.declared.log.Shape.TheVariants.{Single, Pair}
use Rattle.edge_links.specs.declared.counts.Counts.{Counts}
use Rattle.shared_cache.specs.Held.{Setup}
use Rattle.shared_cache.specs.Laws.{LegalLog}
use Rattle.shared_cache.specs.Log.{HasWire, is_ended}
use Rattle.shared_client.specs.declared.logged.ClientSetup.{ClientSetup}
use Rattle.shared_client.specs.Setups.{TurnStep, setup_of}
use Rattle.shared_client.specs.Turns.{Place, Turn, IsLinked, setup_at, setup_in, Ends, WornOut}
use Rattle.script_text.specs.declared.script_line.ScriptLine.{ScriptLine}
use Rattle.script_text.specs.Scripts.{IsValidLine}
use Rattle.client_link.specs.Pumps.{Pumps}
use Rattle.client_link.proofs.Steps.{end_over}
use Rattle.script_run.specs.declared.answer.Answer.{Answer}
use Rattle.script_run.specs.Lines.{ThreadsCame}
use Rattle.script_run.specs.declared.session.PumpedLink.{PumpedLink}
use Rattle.script_run.specs.Ends.{Leaves, Ending, Found, Worn, LeavesSide, Calls, BothPump}
use Rattle.script_run.specs.Ends.{SideCounts, side_end}
use Rattle.script_run.specs.Session.{turns_in, LinkEnd, PumpedBy, SidePumped, ClosedBy, LastEnd}
use Rattle.script_run.specs.Session.{Over, NoTicket, SideClosed, Session, is_pair}
use Rattle.script_run.proofs.Threads.{joined, kept_turns, split_none, threads_grow}
use Rattle.script_run.proofs.Sessions.{every_turn, legal_log, down_ends, none_missing}
use Rattle.script_run.proofs.Unanswered.{unanswered}

-- ---- the last turns

pub leaves_ended : (w : Wire) (old new : Place) → Ends w old new → Leaves w old new
leaves_ended w old new (inl a) = Ending a.past a.grows a.begins
leaves_ended w old new (inr a) = Found a.grows (end_over (setup_at old) (past_of new) w a.step)

pub leaves_worn : (w : Wire) (old new : Place) → WornOut old new → Leaves w old new
leaves_worn w old new h = Worn h.grows h.tickets

pub ruleset leaving = (leaves_ended, leaves_worn)

-- where there is a Side it ends behind Main
pub side_left : (has : Bool) (old mid new : Place) → has ≡ true → Leaves Side old mid → new ≡ mid
    → LeavesSide has old new
side_left true old mid new is l same = subst (λ k. Leaves Side old k) (sym same) l
side_left false old mid new is l same = absurd (let no : ⊥ = cc in no)

pub side_kept : (has : Bool) (old new : Place) → has ≡ false → new ≡ old → LeavesSide has old new
side_kept true old new is same = absurd (let no : ⊥ = cc in no)
side_kept false old new is same = same

-- what the last turn adds
record Last (old new : Place) : Type 0 where
  turns : List Turn
  grows : Grows old new turns

abbrev last_turns : (w : Wire) (old new : Place) → Leaves w old new → Last old new
last_turns w old new (Ending past g p) = record { turns = (entry.End w, past) ∷ []; grows = g }
last_turns w old new (Found g is) = record { turns = []; grows = g }
last_turns w old new (Worn g le) = record { turns = []; grows = g }

abbrev side_turns : (has : Bool) (old new : Place) → IsWithin old → LeavesSide has old new
    → Last old new
side_turns true old new within l = last_turns Side old new l
side_turns false old new within same =
    record { turns = []; grows = subst (λ k. Grows old k []) (sym same) (grows_none old within) }

closed_by : (s : Setup) (w : Wire) (seen : List LogEntry) (old new : Place) (log : List LogEntry)
    (t : ℕ) (l : Leaves w old new) → setup_at old ≡ s → IsPrefix seen (past_of old)
    → IsPrefix (past_of new) log → new.tickets ≤ t
    → ClosedBy s w (last_turns w old new l).turns seen log t
closed_by s w seen old new log t (Ending past g p) e q b le =
    LastEnd past refl (begins_trans seen (past_of old) past q p)
closed_by s w seen old new log t (Found g is) e q b le =
    Over (past_of new) refl b (subst (λ u. is_ended u.mode w (past_of new) ≡ true) e is)
closed_by s w seen old new log t (Worn g worn) e q b le =
    NoTicket refl (omega (arith, worn, le))

side_closed_by : (s : Setup) (side : Option LinkEnd) (has : Bool) → is_some side ≡ has
    → (seen : List LogEntry) (old new : Place) (log : List LogEntry) (t : ℕ)
    (within : IsWithin old) (l : LeavesSide has old new) → setup_at old ≡ s
    → IsPrefix seen (past_of old) → IsPrefix (past_of new) log → new.tickets ≤ t
    → SideClosed s side (side_turns has old new within l).turns seen log t
side_closed_by s None false is seen old new log t within l e q b le = refl
side_closed_by s (Some side) true is seen old new log t within l e q b le =
    closed_by s Side seen old new log t l e q b le
side_closed_by s None true is seen old new log t within l e q b le =
    absurd (let no : ⊥ = cc in no)
side_closed_by s (Some side) false is seen old new log t within l e q b le =
    absurd (let no : ⊥ = cc in no)

-- ---- the pumps

first_none : (k : Place) (lock : TableId) (u : ClientSetup) → k ≡ first_seat lock u
    → turns_of k ≡ []
unfolding turns_of
first_none k lock u is = ap (λ (z : Place). own_list (with_pasts z.seen) z.own) is

-- what is left of the first seat where another is split off has no turns, nor has the other
pub kept_first : (u : ClientSetup) (lock : TableId) (k ours : Place) (parts : ℕ)
    → k ≡ first_seat lock u → ours ≡ record k { parts = parts }
    → (turns_of ours ≡ []) × (past_of ours ≡ []) × (ours.setup ≡ Some u)
kept_first u lock k ours parts first is = (
  kept_turns k ours parts is ∙ first_none k lock u first,
  ap (λ (z : Place). past_of z) is ∙ ap (λ (z : Place). past_of z) first,
  ap (λ (z : Place). z.setup) is ∙ ap (λ (z : Place). z.setup) first,
)

pub split_first : (u : ClientSetup) (lock : TableId) (k other : Place) (number parts : ℕ)
    → k ≡ first_seat lock u → other ≡ split_seat k number parts
    → (turns_of other ≡ []) × (other.setup ≡ Some u)
split_first u lock k other number parts first is = (
  ap (λ (z : Place). turns_of z) is ∙ split_none k number parts,
  ap (λ (z : Place). z.setup) is ∙ ap (λ (z : Place). z.setup) first,
)

-- a client of two links has Side
pub side_linked : (u : ClientSetup) (k : Place) → k.setup ≡ Some u
    → is_pair u.mode.shape ≡ true → IsLinked Side k
side_linked u k is pair =
    subst (λ o. IfSome o (λ (z : ClientSetup). HasWire z.mode.shape Side)) (sym is)
    (by_shape u.mode.shape pair)
  where
    by_shape : (shape : Shape) → is_pair shape ≡ true → HasWire shape Side
    by_shape Pair is = tt
    by_shape Single is = absurd (let no : ⊥ = cc in no)

-- every client has Main
pub main_linked : (k : Place) → IsLinked Main k
main_linked k = by_setup k.setup
  where
    by_setup : (o : Option ClientSetup) → IfSome o (λ z. HasWire z.mode.shape Main)
    by_setup None = tt
    by_setup (Some u) = tt

-- Side is told of where it was there
pub side_told : {L : Type 0} (left contents : L → Option (List ℕ)) (counts : L → Counts)
    (o : Option L) (p : Option (PumpedLink L)) → SideCounts counts o p
    → is_some (side_end left contents counts o p) ≡ is_some o
side_told left contents counts None None h = refl
side_told left contents counts (Some l) (Some p) h = refl
side_told left contents counts None (Some p) h = absurd h
side_told left contents counts (Some l) None h = absurd h

-- what a pump did from its start on
pumped_by : (s : Setup) (w : Wire) (l : LinkEnd) (old new : Place) → past_of old ≡ []
    → setup_at old ≡ s → (p : Pumps w l.end l.left0 l.left1 l.link0 l.link1 old new)
    → PumpedBy s w l (p.ending ++ p.works.turns) (past_of new) new.tickets
pumped_by s w l old new from is p = record {
  before = old;
  after = new;
  from_start = from;
  setup_is = is;
  begins = ([], refl);
  not_more = omega arith;
  pumps = p;
  turns_are = refl;
}

pumped_more : (s : Setup) (w : Wire) (l : LinkEnd) (ts : List Turn) (log more : List LogEntry)
    (t u : ℕ) → PumpedBy s w l ts log t → IsPrefix log more → t ≤ u → PumpedBy s w l ts more u
pumped_more s w l ts log more t u p b le = record {
  before = p.before;
  after = p.after;
  from_start = p.from_start;
  setup_is = p.setup_is;
  begins = begins_trans (past_of p.after) log more p.begins b;
  not_more = omega (arith, p.not_more, le);
  pumps = p.pumps;
  turns_are = p.turns_are;
}

side_more : (s : Setup) (side : Option LinkEnd) (ts : List Turn) (log more : List LogEntry)
    (t u : ℕ) → SidePumped s side ts log t → IsPrefix log more → t ≤ u
    → SidePumped s side ts more u
side_more s None ts log more t u h b le = h
side_more s (Some l) ts log more t u h b le = pumped_more s Side l ts log more t u h b le

-- a pump's turns are all of its seat
own_turns : (w : Wire) (l : LinkEnd) (old new : Place) → turns_of old ≡ []
    → (p : Pumps w l.end l.left0 l.left1 l.link0 l.link1 old new)
    → turns_of new ≡ p.ending ++ p.works.turns
own_turns w l old new none p =
    p.works.grows.own ∙ ap (λ z. (p.ending ++ p.works.turns) ++ z) none
    ∙ append-nil (p.ending ++ p.works.turns)

pub one_pump : (s : Setup) (l : LinkEnd) (old new : Place) → turns_of old ≡ []
    → past_of old ≡ [] → setup_at old ≡ s
    → Pumps Main l.end l.left0 l.left1 l.link0 l.link1 old new → BothPump s l None new
one_pump s l old new none from is p = record {
  pumped = p.ending ++ p.works.turns;
  side_pumped = [];
  own = own_turns Main l old new none p ∙ sym (append-nil (p.ending ++ p.works.turns));
  within = p.works.grows.within;
  main_pumps = pumped_by s Main l old new from is p;
  side_pumps = refl;
}

module _ (s : Setup) (main side : LinkEnd) (k ours other : Place) (number parts : ℕ)
    (none : turns_of k ≡ []) (from : past_of k ≡ []) (is : setup_at k ≡ s)
    (ours_is : ours ≡ record k { parts = parts }) (other_is : other ≡ split_seat k number 1)
    (a c j : Place) (join_is : j ≡ joined_seat a c) (seen_a : IsPrefix a.seen j.seen)
    (seen_c : IsPrefix c.seen j.seen)
    (p : Pumps Main main.end main.left0 main.left1 main.link0 main.link1 ours a)
    (q : Pumps Side side.end side.left0 side.left1 side.link0 side.link1 other c) where
  own_a : turns_of a ≡ p.ending ++ p.works.turns
  own_a = own_turns Main main ours a (kept_turns k ours parts ours_is ∙ none) p

  own_c : turns_of c ≡ q.ending ++ q.works.turns
  own_c = own_turns Side side other c
      (ap (λ (z : Place). turns_of z) other_is ∙ split_none k number 1) q

  pumps_joined : (turns_of j ≡ turns_of a ++ turns_of c) × IsWithin j
  pumps_joined = joined a c j join_is seen_a seen_c p.works.grows.within q.works.grows.within

  main_tickets : a.tickets ≤ j.tickets
  main_tickets = grind (arith, le-max_left)

  side_tickets : c.tickets ≤ j.tickets
  side_tickets = grind (arith, le-max_right)

  pub two_pumps : BothPump s main (Some side) j
  two_pumps = record {
    pumped = p.ending ++ p.works.turns;
    side_pumped = q.ending ++ q.works.turns;
    own = pumps_joined.0 ∙ ap (λ z. z ++ turns_of c) own_a
        ∙ ap (λ z. (p.ending ++ p.works.turns) ++ z) own_c;
    within = pumps_joined.1;
    main_pumps = pumped_more s Main main _ (past_of a) (past_of j) a.tickets j.tickets
        (pumped_by s Main main ours a (ap (λ (z : Place). past_of z) ours_is ∙ from)
        (ap setup_in (ap (λ (z : Place). z.setup) ours_is) ∙ is) p)
        (entries_begin a.seen j.seen seen_a) main_tickets;
    side_pumps = pumped_more s Side side _ (past_of c) (past_of j) c.tickets j.tickets
        (pumped_by s Side side other c (ap (λ (z : Place). past_of z) other_is ∙ from)
        (ap setup_in (ap (λ (z : Place). z.setup) other_is) ∙ is) q)
        (entries_begin c.seen j.seen seen_c) side_tickets;
  }

-- ---- the seats of the pumps and of the callers, joined

module _ (u : ClientSetup) (lines : List ScriptLine) (answers : List (List Answer))
    (main : LinkEnd) (side : Option LinkEnd) (has : Bool) (there : is_some side ≡ has)
    (callers a b j : Place) (setup_a : a.setup ≡ Some u) (none : turns_of callers ≡ [])
    (s_callers : setup_at callers ≡ setup_of u) (join_is : j ≡ joined_seat a b)
    (seen_a : IsPrefix a.seen j.seen) (seen_b : IsPrefix b.seen j.seen)
    (pumps : BothPump (setup_of u) main side a) (calls : Calls lines answers has callers b) where
  abbrev s : Setup
  s = setup_of u

  abbrev last : Last calls.played calls.left
  last = last_turns Main calls.played calls.left calls.leaves

  abbrev side_last : Last calls.left b
  side_last = side_turns has calls.left b last.grows.within calls.side_leaves

  abbrev pumped : List Turn
  pumped = pumps.pumped ++ pumps.side_pumped

  abbrev closing : List Turn
  closing = side_last.turns ++ last.turns

  own_played : turns_of calls.played ≡ calls.plays.turns
  own_played = calls.plays.grows.own ∙ ap (λ z. calls.plays.turns ++ z) none
      ∙ append-nil calls.plays.turns

  own_b : turns_of b ≡ closing ++ calls.plays.turns
  own_b = side_last.grows.own
      ∙ ap (λ z. side_last.turns ++ z) (last.grows.own ∙ ap (λ z. last.turns ++ z) own_played)
      ∙ sym (append_assoc side_last.turns last.turns calls.plays.turns)

  both : (turns_of j ≡ turns_of a ++ turns_of b) × IsWithin j
  both = joined a b j join_is seen_a seen_b pumps.within side_last.grows.within

  past_a : IsPrefix (past_of a) (past_of j)
  past_a = entries_begin a.seen j.seen seen_a

  past_b : IsPrefix (past_of b) (past_of j)
  past_b = entries_begin b.seen j.seen seen_b

  tickets_a : a.tickets ≤ j.tickets
  tickets_a = grind (arith, le-max_left)

  tickets_b : b.tickets ≤ j.tickets
  tickets_b = grind (arith, le-max_right)

  past_left : IsPrefix (past_of calls.left) (past_of j)
  past_left = begins_trans (past_of calls.left) (past_of b) (past_of j)
      (grows_past calls.left b side_last.turns side_last.grows) past_b

  seen_left : IsPrefix (past_of calls.played) (past_of calls.left)
  seen_left = grows_past calls.played calls.left last.turns last.grows

  seen_played : IsPrefix (past_of calls.played) (past_of j)
  seen_played =
      begins_trans (past_of calls.played) (past_of calls.left) (past_of j) seen_left past_left

  s_played : setup_at calls.played ≡ s
  s_played = ap setup_in calls.plays.grows.setup ∙ s_callers

  s_left : setup_at calls.left ≡ s
  s_left = ap setup_in last.grows.setup ∙ s_played

  legal_j : IsSound TurnStep j → Legal TurnStep u j.seen
  legal_j sound = grind arith

  pub session : (log : List LogEntry) (t : ℕ) → All IsValidLine lines → log ≡ past_of j
      → j.tickets ≤ t
      → ((p : ℕ) → p < length j.seen → times p j.own ≡ 1) → IsSound TurnStep j
      → Session s lines answers main side log t
  session log t valid log_is le once sound =
      let in_log = λ (x : List LogEntry) (p : IsPrefix x (past_of j)).
      subst (λ z. IsPrefix x z) (sym log_is) p in
      let le_b : b.tickets ≤ t = omega (arith, tickets_b, le) in
      let le_left : calls.left.tickets ≤ t = omega (arith, side_last.grows.tickets, le_b) in
      let le_p : calls.played.tickets ≤ t = omega (arith, last.grows.tickets, le_left) in
      let le_a : a.tickets ≤ t = omega (arith, tickets_a, le) in
      let came : ThreadsCame s lines 1 answers calls.plays.turns (past_of calls.played) t =
      grind (arith, threads_grow, s, s_callers) in
      let main_by = pumped_more s Main main pumps.pumped (past_of a) log a.tickets t
      pumps.main_pumps (in_log (past_of a) past_a) le_a in
      let side_by = side_more s side pumps.side_pumped (past_of a) log a.tickets t
      pumps.side_pumps (in_log (past_of a) past_a) le_a in
      let closes = closed_by s Main (past_of calls.played) calls.played calls.left log t
      calls.leaves s_played ([], refl) (in_log (past_of calls.left) past_left) le_left in
      let side_closes = side_closed_by s side has there (past_of calls.played) calls.left b log t
      last.grows.within calls.side_leaves s_left seen_left (in_log (past_of b) past_b) le_b in
      let all = λ (f : Turn → ℕ).
      ap (λ z. total f (turns_in z)) log_is ∙ every_turn j once f
      ∙ ap (total f) (both.0 ∙ ap (λ z. z ++ turns_of b) pumps.own ∙ ap (λ z. pumped ++ z) own_b)
      ∙ total-append f pumped (closing ++ calls.plays.turns)
      ∙ ap (λ z. total f pumped + z) (total-append f closing calls.plays.turns) in
      let seen = in_log (past_of calls.played) seen_played in
      let legal = subst (LegalLog s) (sym log_is) (legal_log u j.seen (legal_j sound)) in
      record {
        called = calls.plays.turns;
        pumped = pumps.pumped;
        side_pumped = pumps.side_pumped;
        closing = last.turns;
        side_closing = side_last.turns;
        seen = past_of calls.played;
        begins = seen;
        many = calls.plays.many;
        came = came;
        pumps = main_by;
        side_pumps = side_by;
        closes = closes;
        side_closes = side_closes;
        all = all;
        legal = legal;
        down = down_ends s lines answers main side calls.plays.turns pumps.pumped
            pumps.side_pumped last.turns side_last.turns (past_of calls.played) log t seen came
            main_by side_by closes side_closes all valid;
        unanswered = unanswered s lines answers calls.plays.turns (past_of calls.played) log t
            legal seen came (none_missing s lines answers main side calls.plays.turns pumps.pumped
            pumps.side_pumped last.turns side_last.turns (past_of calls.played) log t seen came
            main_by side_by closes side_closes all);
      }
