-- What each move of a client leaves as it was, and that what is printed by then begins what it
-- prints.
use Rattle.std.proofs.Common.{◌≡◌, ℕ, List, [], ◌∷◌, ◌++◌, Bool, cond, not, Some, None, Option}
use Rattle.std.proofs.Common.{length, refl, sym, ap, subst, ◌∙◌, append_assoc, length-set, take}
use Rattle.std.proofs.Common.{arith, codes, length-append}
use Rattle.std.specs.Prelude.{◌&&◌, ◌||◌, nat_le, false, true}
use Rattle.std.specs.List.{list_any}
use Rattle.std.specs.Str.{bytes_eq}
use Rattle.std.proofs.lemmas.Bool.{both_ways}
use Rattle.std.proofs.lemmas.List.{get_or-set_other}
use Rattle.resp_value.specs.Tree.{Tree}
use Rattle.resp_value.specs.ValueTree.{value_of}
use Rattle.resp_value.specs.declared.value.Value.{Value}
use Rattle.resp_stream.specs.declared.fault.FaultPlace.{FaultPlace}
use Rattle.resp_stream.specs.Parse.{parse_values}
use Rattle.serial_model.specs.declared.history.Entry.{Entry}
use Rattle.serial_model.specs.declared.history.Entry.TheVariants as entry
use Rattle.shared_cache.specs.declared.log.ClientCall.{ClientCall}
use Rattle.shared_cache.specs.declared.log.ClientCall.TheVariants as call
use Rattle.shared_cache.specs.declared.log.Wire.{Wire}
use Rattle.shared_cache.specs.declared.log.Wire.TheVariants.{Main, Side}
use Rattle.shared_cache.specs.Out.{untaken}
use Rattle.shared_cache.specs.Steps.{client_step}
use Rattle.script_text.specs.declared.line.Line.{Line}
use Rattle.server_links.specs.declared.fault.WorldFault.{WorldFault}
use Rattle.server_links.specs.declared.fault.WorldFault.TheVariants.{NoName, NothingThere}
use Rattle.server_links.specs.declared.link.Link.{Link}
use Rattle.server_links.specs.declared.link.LinkMove.{LinkMove}
use Rattle.server_links.specs.declared.link.LinkMove.TheVariants as moves
use Rattle.server_links.specs.Directions.{is_queued}
use Rattle.server_links.specs.LinkEvent.{LinkEvent, Put, Over}
use Rattle.server_links.specs.LinksState.{LinksState, at_place, fresh_link}
use Rattle.server_links.specs.LinkSteps.{over, over_named, place_of, step}
use Rattle.server_links.specs.Moves.{all_bytes, move_of, stopped_at}
use Rattle.server_links.specs.Outcome.{Outcome, and_then, does, refuses, stays}
use Rattle.server_links.specs.Session.{Session, session_at, with_session}
use Rattle.server_links.proofs.Carries.{Carries}
use Rattle.server_links.proofs.Ended.{StayOver, over_both, over_by, over_moved, over_same}
use Rattle.server_links.proofs.Names.{names_itself, placed}
use Rattle.server_links.proofs.Timing.{Timely, Times, named_timely, timely_both, timely_same}
use Rattle.server_links.proofs.Outcomes.{Fronts, fronts_once, fronts_refuses, fronts_stays}
use Rattle.server_links.proofs.Outcomes.{fronts_then, fronts_within, Meets, meets_once}
use Rattle.server_links.proofs.Outcomes.{meets_refuses, meets_stays, meets_then, meets_weaker}
use Rattle.server_links.proofs.Outcomes.{meets_within}
use Rattle.world_run.specs.WorldState.{LinkEnd, link_on}
use Rattle.world_run.specs.Members.{Seat, link_of, links_do, with_links, with_log, with_reader}
use Rattle.world_run.specs.ClientMoves.{bytes_of, feed, flow, got, got_all, got_one}
use Rattle.world_run.specs.ClientMoves.{hang_up, hang_up_main, has_ended, next_read, out, print}
use Rattle.world_run.specs.ClientMoves.{read, read_values, receive, receive_bytes, receive_eof}
use Rattle.world_run.specs.ClientMoves.{rest_read, show, shown, stop, take_out, turn}
use Rattle.world_run.specs.WorldHistory.{is_among}
use Rattle.server_links.proofs.Events.{step_fronts}
use Rattle.server_links.proofs.Moving.{every_move}

-- ---- the links

-- the history grows, and links of other names are as they were
pub record LinksKept (w : LinksState) (names : List (List ℕ)) (v : LinksState) : Type 0 where
  pub size : length v.links ≡ length w.links
  pub entries : List Entry
  pub grows : v.past ≡ entries ++ w.past
  pub others : (i : ℕ) → is_among names (at_place w.links i).name ≡ false
      → at_place v.links i ≡ at_place w.links i
  pub stay : StayOver w v

pub links_same : (w : LinksState) (names : List (List ℕ)) → LinksKept w names w
links_same w names = grind (arith, over_same)

-- the clock is set, or a Tick takes out keys
pub clock_kept : (w : LinksState) (now : ℕ) → LinksKept w []
    (record { limits = w.limits; now = now; past = w.past; links = w.links })
clock_kept w now = grind arith

pub tick_kept : (w : LinksState) (moment : ℕ) → LinksKept w []
    (record { limits = w.limits; now = w.now; past = entry.Tick moment ∷ w.past; links = w.links })
tick_kept w moment = record {
  size = refl;
  entries = entry.Tick moment ∷ [];
  grows = refl;
  others = λ i n. refl;
  stay = record {
    over = λ at is.
        over_by w at (entry.Tick moment ∷ w.past) w.links (entry.Tick moment ∷ []) refl refl is.read
        is;
    named = λ at lt. refl;
  };
}

links_both : (w u v : LinksState) (names : List (List ℕ)) → LinksKept w names u
    → LinksKept u names v → LinksKept w names v
links_both w u v names a b = record {
  size = b.size ∙ a.size;
  entries = b.entries ++ a.entries;
  grows = b.grows ∙ ap (λ x. b.entries ++ x) a.grows
      ∙ sym (append_assoc b.entries a.entries w.past);
  others = λ i n.
      b.others i (ap (λ (x : Link). is_among names x.name) (a.others i n) ∙ n) ∙ a.others i n;
  stay = over_both w u v a.size a.stay b.stay;
}

over_kept : (at : ℕ) (event : LinkEvent) (w : LinksState) (names : List (List ℕ))
    → is_among names (at_place w.links at).name ≡ true
    → Meets (λ v ls. LinksKept w names v) (λ v ls. LinksKept w names v)
    (over at (move_of event) w)
unfolding over
over_kept at event w names is =
    let c = (every_move event (session_at at w)).carries in
    let kept : (t : Session) (ls : List Line) → Carries (session_at at w) t ls
    → LinksKept w names (with_session at w t) = λ t ls d. record {
      size = length-set w.links at t.link;
      entries = d.entries;
      grows = d.grows;
      others = λ i n.
          get_or-set_other w.links at i t.link (fresh_link 0 [])
          (λ e. both_ways _ n (ap (λ k. is_among names (at_place w.links k).name) e ∙ is));
      stay = over_moved w at t ls d;
    } in
    meets_within (with_session at w) (λ v ls. LinksKept w names v) (λ v ls. LinksKept w names v)
    (move_of event (session_at at w)) (record {
      ends = λ e. kept (move_of event (session_at at w)).state _ (c.ends e);
      all = λ t ls r. kept t ls (c.all t ls r);
    })

pub named_kept : (event : LinkEvent) (w : LinksState) (name : List ℕ) (names : List (List ℕ))
    → is_among names name ≡ true
    → Meets (λ v ls. LinksKept w names v) (λ v ls. LinksKept w names v)
    (over_named (place_of name w) (move_of event) w)
named_kept event w name names among =
    let K : LinksState → List Line → Type 0 = λ v ls. LinksKept w names v in
    elim (place_of name w) as (λ p. place_of name w ≡ p
    → Meets K K (over_named p (move_of event) w)) [
      | None ↦ λ e. meets_refuses K K w NoName (links_same w names)
      | Some at ↦ λ e. over_kept at event w names
          (ap (is_among names) (placed name w at e).1 ∙ among)
    ] refl

pub among_first : (name : List ℕ) (more : List (List ℕ)) → is_among (name ∷ more) name ≡ true
among_first name more =
    ap (λ b. b || list_any (bytes_eq name) more) (names_itself name name refl)

or_right : (a b : Bool) → b ≡ true → (a || b) ≡ true
or_right a b e = grind arith

pub among_more : (a name : List ℕ) (more : List (List ℕ)) → is_among more name ≡ true
    → is_among (a ∷ more) name ≡ true
among_more a name more e = or_right (bytes_eq name a) (list_any (bytes_eq name) more) e

-- ---- a client and its links

-- the links are as they were but for those that the client's name gives
pub record Kept (names : List ℕ → List (List ℕ)) (s t : Seat) : Type 0 where
  pub links : LinksKept s.links (names s.member.name) t.links
  pub timely : Timely s.links.now s.links t.links
  pub name : t.member.name ≡ s.member.name

pub record Orderly (names : List ℕ → List (List ℕ)) (s : Seat) (m : Outcome Seat) : Type 0 where
  pub kept : Meets (λ t ls. Kept names s t) (λ t ls. Kept names s t) m
  pub fronts : Fronts m

links_fronts : (event : LinkEvent) (s : Seat) → Fronts (links_do event s)
unfolding links_do
links_fronts event s = grind (arith, fronts_within, step_fronts)

module _ (names : List ℕ → List (List ℕ)) where
  kept_same : (s : Seat) → Kept names s s
  kept_same s = record {
    links = links_same s.links (names s.member.name);
    timely = timely_same s.links;
    name = refl;
  }

  kept_member : (s t : Seat) → t.links ≡ s.links → t.member.name ≡ s.member.name → Kept names s t
  kept_member s t same name = record {
    links = subst (LinksKept s.links (names s.member.name)) (sym same)
        (links_same s.links (names s.member.name));
    timely = subst (Timely s.links.now s.links) (sym same) (timely_same s.links);
    name = name;
  }

  kept_both : (s t u : Seat) → Kept names s t → Kept names t u → Kept names s u
  kept_both s t u a b = record {
    links = links_both s.links t.links u.links (names s.member.name) a.links
        (subst (λ n. LinksKept t.links (names n) u.links) a.name b.links);
    timely = timely_both s.links.now s.links t.links u.links a.timely
        (subst (λ n. Timely n t.links u.links) a.timely.now b.timely);
    name = b.name ∙ a.name;
  }

  o_then : (s : Seat) (m : Outcome Seat) (next : Seat → Outcome Seat) → Orderly names s m
      → ((t : Seat) → Orderly names t (next t)) → Orderly names s (and_then m next)
  o_then s m next h g = record {
    kept = meets_then (λ t ls. Kept names s t) (λ t ls. Kept names s t) (λ t ls. Kept names s t) m
        next h.kept
        (λ none k. meets_weaker (λ t ls. Kept names m.state t) (λ t ls. Kept names s t)
        (λ t ls. Kept names m.state t) (λ t ls. Kept names s t) (next m.state)
        (λ t ls. kept_both s m.state t k) (λ t ls. kept_both s m.state t k) (g m.state).kept);
    fronts = fronts_then m next h.fronts (λ t. (g t).fronts);
  }

  o_stays : (s : Seat) → Orderly names s (stays s)
  o_stays s = record {
    kept = meets_stays (λ t ls. Kept names s t) (λ t ls. Kept names s t) s (kept_same s)
        (kept_same s);
    fronts = fronts_stays s;
  }

  o_refuses : (s : Seat) (f : WorldFault) → Orderly names s (refuses s f)
  o_refuses s f = record {
    kept = meets_refuses (λ t ls. Kept names s t) (λ t ls. Kept names s t) s f (kept_same s);
    fronts = fronts_refuses s f;
  }

  -- a change of the client alone
  o_member : (s new : Seat) (ls : List Line) (f : Option WorldFault) → new.links ≡ s.links
      → new.member.name ≡ s.member.name
      → Orderly names s (record { state = new; lines = ls; fault = f; points = (s, []) ∷ [] })
  o_member s new ls f same name =
      let k = kept_member s new same name in
      record {
        kept = meets_once (λ t ls. Kept names s t) (λ t ls. Kept names s t) s new ls f (λ e. k)
            (kept_same s) k;
        fronts = fronts_once s new ls f;
      }

  o_if : (s : Seat) (b : Bool) (m n : Outcome Seat) → Orderly names s m → Orderly names s n
      → Orderly names s (cond b m n)
  o_if s true m n a b = a
  o_if s false m n a b = b

  named_step : (event : LinkEvent) (s : Seat)
      → Meets (λ v ls. LinksKept s.links (names s.member.name) v)
      (λ v ls. LinksKept s.links (names s.member.name) v) (step s.links event)
      → Times s.links.now s.links (step s.links event) → Orderly names s (links_do event s)
  unfolding links_do
  named_step event s k t =
      let kept : (v : LinksState) → LinksKept s.links (names s.member.name) v
      → Timely s.links.now s.links v → Kept names s (with_links s v) =
      λ v q p. record { links = q; timely = p; name = refl } in
      record {
        kept = meets_within (with_links s) (λ u ls. Kept names s u) (λ u ls. Kept names s u)
            (step s.links event) (record {
              ends = λ none. kept _ (k.ends none) (t.ends none);
              all = λ v ls r. kept v (k.all v ls r) (t.all v ls r);
            });
        fronts = links_fronts event s;
      }

  o_put : (name bytes : List ℕ) (s : Seat) → is_among (names s.member.name) name ≡ true
      → Orderly names s (links_do (Put name bytes) s)
  unfolding step
  o_put name bytes s among =
      named_step (Put name bytes) s
      (named_kept (Put name bytes) s.links name (names s.member.name) among)
      (named_timely (place_of name s.links) (Put name bytes) s.links)

  o_over : (name : List ℕ) (move : LinkMove) (s : Seat)
      → is_among (names s.member.name) name ≡ true → Orderly names s (links_do (Over name move) s)
  unfolding step
  o_over name move s among =
      named_step (Over name move) s
      (named_kept (Over name move) s.links name (names s.member.name) among)
      (named_timely (place_of name s.links) (Over name move) s.links)

  -- ---- moves

  o_turn : (c : ClientCall) (e : LinkEnd) (s : Seat) → Orderly names s (turn c e s)
  unfolding turn
  o_turn c e s =
      let t = client_step s.member.state.setup s.member.state.past c in
      o_then s _ _ (o_member s (with_log s t.past) [] None refl refl)
      (λ u. o_member u u _ _ refl refl)

  o_print : (ls : List Line) (s : Seat) → Orderly names s (print ls s)
  unfolding print
  o_print [] s = o_stays s
  o_print (l ∷ ls) s =
      o_then s (does s s (l ∷ [])) (print ls) (o_member s s (l ∷ []) None refl refl) (o_print ls)

  o_show : (s : Seat) → Orderly names s (show s)
  unfolding show
  o_show s = o_print (shown s) s

  module _ (e : LinkEnd) (own : (n : List ℕ) → is_among (names n) e.link ≡ true) where
    o_take : (most : ℕ) (s : Seat) → Orderly names s (take_out most e s)
    unfolding take_out
    o_take most s =
        let t = client_step s.member.state.setup s.member.state.past (call.TakeOut e.wire most) in
        o_then s (turn (call.TakeOut e.wire most) e s) (links_do (Put e.link (bytes_of t.reply)))
        (o_turn (call.TakeOut e.wire most) e s)
        (λ u. o_put e.link (bytes_of t.reply) u (own u.member.name))

    pub o_out : (count : Option ℕ) (s : Seat) → Orderly names s (out count e s)
    o_out None s =
        o_if s (has_ended e.wire s) (stays s) (take_out all_bytes e s) (o_stays s)
        (o_take all_bytes s)
    o_out (Some n) s =
        o_if s (not (has_ended e.wire s)
        && nat_le n (length (untaken s.member.state.setup e.wire s.member.state.past)))
        (take_out n e s) (refuses s NothingThere) (o_take n s) (o_refuses s NothingThere)

    o_got : (v : Value) (s : Seat) → Orderly names s (got v e s)
    o_got v s =
        o_if s (has_ended e.wire s) (stays s) (turn (call.Got e.wire v) e s) (o_stays s)
        (o_turn (call.Got e.wire v) e s)

    o_got_all : (ts : List Tree) (s : Seat) → Orderly names s (got_all ts e s)
    unfolding got_all got_one
    o_got_all [] s = o_stays s
    o_got_all (t ∷ ts) s =
        o_then s (got_one t e s) (got_all ts e)
        (o_then s (does s (next_read s) []) (got (value_of t) e)
        (o_member s (next_read s) [] None refl refl) (o_got (value_of t)))
        (o_got_all ts)

    o_stop : (place : Option FaultPlace) (s : Seat) → Orderly names s (stop place e s)
    o_stop None s = o_stays s
    o_stop (Some place) s =
        o_if s (has_ended e.wire s) (stays s) _ (o_stays s)
        (o_then s _ (turn (call.End e.wire) e) (o_member s s _ None refl refl)
        (o_turn (call.End e.wire) e))

    o_values : (s : Seat) → Orderly names s (read_values e s)
    unfolding read_values
    o_values s =
        let p = parse_values s.reader in
        o_then s (and_then (got_all p.items e s) (rest_read p.stream))
        (stop (stopped_at p.fault) e)
        (o_then s (got_all p.items e s) (rest_read p.stream) (o_got_all p.items s)
        (λ t. o_member t (with_reader t p.stream) [] None refl refl))
        (o_stop (stopped_at p.fault))

    o_move : (move : LinkMove) (s : Seat) → Orderly names s (links_do (Over e.link move) s)
    o_move move s = o_over e.link move s (own s.member.name)

    o_hang : (s : Seat) → Orderly names s (hang_up e s)
    o_hang s =
        o_if s (has_ended e.wire s) (links_do (Over e.link moves.HangUp) s) (stays s)
        (o_move moves.HangUp s) (o_stays s)

    o_bytes : (n : ℕ) (s : Seat) → Orderly names s (receive_bytes n e s)
    unfolding receive_bytes
    o_bytes n s =
        let piece = take n (link_of e s).down.bytes in
        o_then s (links_do (Over e.link (moves.Recv (Some n))) s)
        (λ t. and_then (feed piece t) (λ t. and_then (read_values e t) (hang_up e)))
        (o_move (moves.Recv (Some n)) s)
        (λ t. o_then t (feed piece t) (λ t. and_then (read_values e t) (hang_up e))
        (o_member t (feed piece t).state [] None refl refl)
        (λ u. o_then u (read_values e u) (hang_up e) (o_values u) o_hang))

    o_eof : (s : Seat) → Orderly names s (receive_eof e s)
    unfolding receive_eof
    o_eof s =
        let q = is_queued (link_of e s).down.eof in
        o_then s (links_do (Over e.link (moves.Recv None)) s)
        (λ t. cond q (turn (call.End e.wire) e t) (stays t)) (o_move (moves.Recv None) s)
        (λ t. o_if t q (turn (call.End e.wire) e t) (stays t) (o_turn (call.End e.wire) e t)
        (o_stays t))

    o_read : (count : Option ℕ) (s : Seat) → Orderly names s (read count e s)
    o_read None s =
        let n = length (link_of e s).down.bytes in
        o_if s (has_ended e.wire s) (stays s) (and_then (receive_bytes n e s) (receive_eof e))
        (o_stays s)
        (o_then s (receive_bytes n e s) (receive_eof e) (o_bytes n s) o_eof)
    o_read (Some n) s =
        o_if s (not (has_ended e.wire s) && nat_le n (length (link_of e s).down.bytes))
        (receive_bytes n e s) (refuses s NothingThere) (o_bytes n s) (o_refuses s NothingThere)

    -- and the link that commands go on
    module _ (main : (n : List ℕ) → is_among (names n) (link_on Main n) ≡ true) where
      o_hang_main : (u : Wire) (before : Bool) (s : Seat)
          → Orderly names s (hang_up_main u before s)
      o_hang_main Main before s = o_stays s
      o_hang_main Side before s =
          o_if s (not before && has_ended Main s)
          (links_do (Over (link_on Main s.member.name) moves.HangUp) s) (stays s)
          (o_over (link_on Main s.member.name) moves.HangUp s (main s.member.name)) (o_stays s)

      o_receive : (count : Option ℕ) (s : Seat) → Orderly names s (receive count e s)
      unfolding receive
      o_receive count s =
          o_then s (read count e s) (hang_up_main e.wire (has_ended Main s)) (o_read count s)
          (o_hang_main e.wire (has_ended Main s))

      o_flow : (s : Seat) → Orderly names s (flow e s)
      unfolding flow
      o_flow s =
          o_then s (out None e s) _ (o_out None s)
          (λ t. o_then t (links_do (Over e.link (moves.Serve None)) t) _
          (o_move (moves.Serve None) t)
          (λ u. o_then u (links_do (Over e.link (moves.Send None)) u) (receive None e)
          (o_move (moves.Send None) u) (o_receive None)))

-- ---- at any end

-- a client's links have two names
pub two_links : (name : List ℕ) → link_on Side name ≡ link_on Main name → ⊥
two_links name e =
    omega (
      arith,
      ap length e,
      length-append name (codes ".inv"),
      length-append name (codes ".data"),
    )

-- the link of an end, and that which its client's commands go on
abbrev pub own_links : LinkEnd → List ℕ → List (List ℕ)
own_links e name = e.link ∷ link_on Main name ∷ []

abbrev pub IsOrderly : (LinkEnd → Seat → Outcome Seat) → Type 0
IsOrderly move = (e : LinkEnd) (s : Seat) → Orderly (own_links e) s (move e s)

own_in : (e : LinkEnd) (name : List ℕ) → is_among (own_links e name) e.link ≡ true
own_in e name = among_first e.link (link_on Main name ∷ [])

main_in : (e : LinkEnd) (name : List ℕ) → is_among (own_links e name) (link_on Main name) ≡ true
main_in e name =
    among_more e.link (link_on Main name) (link_on Main name ∷ [])
    (among_first (link_on Main name) [])

pub turn_orderly : (c : ClientCall) → IsOrderly (turn c)
turn_orderly c e s = o_turn (own_links e) c e s

pub show_orderly : IsOrderly (λ e. show)
show_orderly e s = o_show (own_links e) s

pub out_orderly : (count : Option ℕ) → IsOrderly (out count)
out_orderly count e s = o_out (own_links e) e (own_in e) count s

pub receive_orderly : (count : Option ℕ) → IsOrderly (receive count)
receive_orderly count e s = o_receive (own_links e) e (own_in e) (main_in e) count s

pub flow_orderly : IsOrderly flow
flow_orderly e s = o_flow (own_links e) e (own_in e) (main_in e) s
