-- What stands of a world after each event, and so after a schedule.
use Rattle.std.proofs.Common.{◌≡◌, ◌+◌, ◌<◌, ℕ, List, [], ◌∷◌, ◌++◌, Bool, true, false, cond, Some}
use Rattle.std.proofs.Common.{None, Option, length, refl, sym, ap, subst, ◌∙◌, arith, append_assoc}
use Rattle.std.proofs.Common.{append-nil, inl, inr}
use Rattle.std.specs.Prelude.{◌==◌}
use Rattle.std.specs.Str.{bytes_eq}
use Rattle.std.proofs.lemmas.Bool.{eqb-true}
use Rattle.std.proofs.lemmas.Grind.{flat_map-append}
use Rattle.std.proofs.lemmas.List.{get_or-set_other}
use Rattle.serial_model.specs.declared.history.Limits.{Limits}
use Rattle.serial_model.specs.declared.history.Entry.{Entry}
use Rattle.serial_model.specs.declared.history.Entry.TheVariants as entry
use Rattle.serial_model.specs.History.{admitted, runs_of, IsLegal}
use Rattle.serial_model.proofs.StepCases.{by_admit}
use Rattle.server_links.specs.LinkEvent.{LinkEvent, Raw, Put, Over, Now, Tick}
use Rattle.server_links.specs.declared.link.LinkMove.TheVariants as moves
use Rattle.script_text.specs.declared.line.Line.{Line}
use Rattle.server_links.specs.declared.fault.WorldFault.TheVariants.{NoName, NameTaken}
use Rattle.server_links.specs.OneHistory.{read_on, said_by, said_to, Serves, PartServes, OneHistory}
use Rattle.server_links.specs.OneHistory.{OthersKept, Follows}
use Rattle.server_links.specs.Outcome.{Outcome, Reached}
use Rattle.server_links.specs.Session.{Session, session_at, with_session}
use Rattle.server_links.specs.Moves.{move_of}
use Rattle.server_links.specs.Transcript.{is_place, heard_at, heard, unless_fault, transcript}
use Rattle.server_links.specs.Transcript.{after}
use Rattle.server_links.specs.LinkSteps.{Stepped, place_of, over, over_named, raw_step, link_named}
use Rattle.server_links.specs.LinkSteps.{step, tick, admitting as admitting_link}
use Rattle.server_links.specs.LinksState.{LinksState, start, at_place}
use Rattle.server_links.proofs.Names.{AreUnique, placed, unplaced}
use Rattle.server_links.proofs.Outcomes.{Meets, meets_once, meets_refuses, meets_stays}
use Rattle.server_links.proofs.Outcomes.{meets_weaker, meets_within, reached_within, Fronts}
use Rattle.server_links.proofs.Outcomes.{fronts_refuses, fronts_once, fronts_stays, fronts_within}
use Rattle.server_links.proofs.Outcomes.{fronts_reached}
use Rattle.server_links.proofs.Timing.{keeps_time}
use Rattle.server_links.proofs.Moments.{still_stands, tick_goes_on, tick_stands}
use Rattle.resp_value.specs.Lists.{IsPrefix}
use Rattle.server_links.proofs.Moving.{Every, every_move}
use Rattle.server_links.proofs.Accounts.{gave, Account, Part, ran_front}
use Rattle.server_links.proofs.Endings.{quit_is_last}
use Rattle.server_links.proofs.AccountRuns.{reads_of}
use Rattle.server_links.proofs.AccountMoves.{piece_of, bytes_said, move_keeps, piece_over}
use Rattle.server_links.proofs.LinksStand.{Stands, PartStands, stands_part, stands_same, parts_same}
use Rattle.server_links.proofs.LinksStand.{not_equal, over_stands, made, made_lines, stands_made}

pub nothing : (b : Bool) → [] ≡ cond {A = List ℕ} b [] []
nothing b = grind arith

module _ (l : Limits) (heard : ℕ → List ℕ) (said : List ℕ
    → List ℕ) (lines : List Line) (w : LinksState) (s : Stands l heard said lines w) where
  -- nothing was done
  part_stays : (said' : List ℕ → List ℕ) → ((i : ℕ) → i < length w.links
      → said (at_place w.links i).name ≡ said' (at_place w.links i).name)
      → PartStands l said' (lines ++ []) w
  part_stays said' same =
      subst (λ x. PartStands l said' x w) (sym (append-nil lines))
      (parts_same l said said' lines w same (stands_part l heard said lines w s))

  part_quiet : PartStands l (λ n. said n ++ []) (lines ++ []) w
  part_quiet = part_stays (λ n. said n
      ++ []) (λ i lt. sym (append-nil (said (at_place w.links i).name)))

  unfoldable pub Ends : LinkEvent → LinksState → List Line → Type 0
  Ends event v ls = Stands l (λ i. heard i ++ heard_at w i event) (λ n. said n
      ++ said_by n event) (lines ++ ls) v

  unfoldable pub Stops : LinkEvent → LinksState → List Line → Type 0
  Stops event v ls = PartStands l (λ n. said n ++ said_by n event) (lines ++ ls) v

  module _ (name : List ℕ) (event : LinkEvent) (hears : (i : ℕ)
      → heard_at w i event
      ≡ cond (is_place (place_of name w) i) (piece_of event (session_at i w)) [])
      (says : (n : List ℕ) → said_by n event ≡ cond (bytes_eq name n) (bytes_said event) []) where
    named_over : (at : ℕ) → place_of name w ≡ Some at
        → Meets (Ends event) (Stops event) (over at (move_of event) w)
    unfolding Ends Stops
    named_over at place =
        let p = placed name w at place in
        let link = at_place w.links at in
        let same_said : (n : List ℕ) → said n ++ cond (bytes_eq link.name n) (bytes_said event) []
        ≡ said n ++ said_by n event =
        λ n. (ap (λ x. said n ++ cond (bytes_eq x n) (bytes_said event) []) p.1
        ∙ ap (λ x. said n ++ x) (sym (says n))) in
        let same_heard : (i : ℕ) → heard i ++ cond (at == i) (piece_of event (session_at at w)) []
        ≡ heard i ++ heard_at w i event =
        λ i. (elim (at == i) as (λ b. (at == i) ≡ b
        → heard i ++ cond b (piece_of event (session_at at w)) []
        ≡ heard i ++ cond b (piece_of event (session_at i w)) []) [
          | true ↦ λ e. ap (λ k. heard i ++ piece_of event (session_at k w)) (eqb-true at i e)
          | false ↦ λ e. refl
        ] refl ∙ ap (λ x. heard i ++ x) (sym (hears i
        ∙ ap (λ q. cond (is_place q i) (piece_of event (session_at i w)) []) place))) in
        meets_weaker _ _ _ _ (over at (move_of event) w)
        (λ v ls. stands_same l _ _ _ _ (lines ++ ls) v same_heard same_said)
        (λ v ls. parts_same l _ _ (lines ++ ls) v (λ i lt. same_said (at_place v.links i).name))
        (over_stands l heard said lines w s at p.0 (piece_of event (session_at at w))
        (bytes_said event) (move_of event) (every_move event (session_at at w))
        (move_keeps (heard at) (said link.name) event (session_at at w)))

    named_stands : Meets (Ends event) (Stops event) (over_named (place_of name w) (move_of event) w)
    unfolding Ends Stops
    named_stands = elim (place_of name w) as (λ p. place_of name w ≡ p
        → Meets (Ends event) (Stops event) (over_named p (move_of event) w)) [
          | None ↦ λ none. meets_refuses (Ends event) (Stops event) w NoName
              (part_stays (λ n. said n ++ said_by n event) (λ i lt.
              let n = (at_place w.links i).name in
              sym (ap (λ x. said n ++ x) (says n
              ∙ ap (λ b. cond b (bytes_said event) [])
              (not_equal name n (λ e. unplaced name w none i lt (sym e)))) ∙ append-nil (said n))))
          | Some at ↦ λ place. named_over at place
        ] refl

  raw_stands : (name : List ℕ)
      → Meets (Ends (Raw name)) (Stops (Raw name)) (raw_step w name (place_of name w))
  unfolding Ends Stops
  raw_stands name = elim (place_of name w) as (λ p. place_of name w ≡ p
      → Meets (Ends (Raw name)) (Stops (Raw name)) (raw_step w name p)) [
        | Some at ↦ λ place. meets_refuses (Ends (Raw name)) (Stops (Raw name)) w NameTaken
            part_quiet
        | None ↦ λ free. by_admit w.limits w.past (λ t. Meets (Ends (Raw name)) (Stops (Raw name))
            (admitting_link w name t))
            (meets_once (Ends (Raw name)) (Stops (Raw name)) w w [] _
            (λ e. still_stands l heard said lines w s) part_quiet part_quiet)
            (λ on. let m = stands_made l heard said lines w s name free on in
            meets_once (Ends (Raw name)) (Stops (Raw name)) w
            (made l heard said lines w s name free on)
            (made_lines l heard said lines w s name free on)
            None (λ e. m) part_quiet (stands_part l _ _ _ _ m))
      ] refl

pub stands_step : (l : Limits) (heard : ℕ → List ℕ) (said : List ℕ
    → List ℕ) (lines : List Line) (w : LinksState) (s : Stands l heard said lines w)
    (event : LinkEvent)
    → Meets (Ends l heard said lines w s event) (Stops l heard said lines w s event) (step w event)
unfolding step piece_of piece_over bytes_said reads_of Ends Stops
stands_step l heard said lines w s (Raw name) = raw_stands l heard said lines w s name
stands_step l heard said lines w s (Put name bytes) =
    named_stands l heard said lines w s name (Put name bytes)
    (λ i. nothing (is_place (place_of name w) i)) (λ n. refl)
stands_step l heard said lines w s (Over name (moves.Serve count)) =
    named_stands l heard said lines w s name (Over name (moves.Serve count)) (λ i. refl)
    (λ n. nothing (bytes_eq name n))
stands_step l heard said lines w s (Over name (moves.Send count)) =
    named_stands l heard said lines w s name (Over name (moves.Send count)) (λ i. refl)
    (λ n. nothing (bytes_eq name n))
stands_step l heard said lines w s (Over name (moves.Recv count)) =
    named_stands l heard said lines w s name (Over name (moves.Recv count)) (λ i. refl)
    (λ n. nothing (bytes_eq name n))
stands_step l heard said lines w s (Over name moves.Flow) =
    named_stands l heard said lines w s name (Over name moves.Flow) (λ i. refl)
    (λ n. nothing (bytes_eq name n))
stands_step l heard said lines w s (Over name moves.HangUp) =
    named_stands l heard said lines w s name (Over name moves.HangUp) (λ i. refl)
    (λ n. nothing (bytes_eq name n))
stands_step l heard said lines w s (Over name moves.Cut) =
    named_stands l heard said lines w s name (Over name moves.Cut) (λ i. refl)
    (λ n. nothing (bytes_eq name n))
stands_step l heard said lines w s (Now moment) =
    let c = still_stands l heard said lines _ (grind arith) in
    meets_stays (Ends l heard said lines w s (Now moment))
    (Stops l heard said lines w s (Now moment)) _ c (stands_part l _ _ _ _ c)
stands_step l heard said lines w s Tick = tick_stands l heard said lines w s

-- ---- a schedule

-- the entries of a history go in front
Grows : LinksState → LinksState → List Line → Type 0
Grows w v ls = (es : List Entry) × (v.past ≡ es ++ w.past)

over_grows : (at : ℕ) (move : Session → Outcome Session) → ((s : Session) → Every s (move s))
    → (w : LinksState) → Meets (Grows w) (Grows w) (over at move w)
unfolding over Grows
over_grows at move every w =
    let c = (every (session_at at w)).carries in
    meets_within (with_session at w) (Grows w) (Grows w) (move (session_at at w)) (record {
      ends = λ e. (let d = c.ends e in (d.entries, d.grows));
      all = λ t ls r. (let d = c.all t ls r in (d.entries, d.grows));
    })

named_grows : (p : Option ℕ) (event : LinkEvent) (w : LinksState)
    → Meets (Grows w) (Grows w) (over_named p (move_of event) w)
unfolding Grows
named_grows None event w = meets_refuses (Grows w) (Grows w) w NoName ([], refl)
named_grows (Some at) event w = over_grows at (move_of event) (every_move event) w

raw_grows : (name : List ℕ) (p : Option ℕ) (w : LinksState)
    → Meets (Grows w) (Grows w) (raw_step w name p)
unfolding Grows
raw_grows name (Some at) w = meets_refuses (Grows w) (Grows w) w NameTaken ([], refl)
raw_grows name None w =
    by_admit w.limits w.past (λ t. Meets (Grows w) (Grows w) (admitting_link w name t))
    (meets_once (Grows w) (Grows w) w w [] _ (λ e. ([], refl)) ([], refl) ([], refl))
    (λ on. meets_once (Grows w) (Grows w) w _ _ None
    (λ e. (entry.Admit (admitted w.past + 1) ∷ [], refl)) ([], refl)
    (entry.Admit (admitted w.past + 1) ∷ [], refl))

step_grows : (event : LinkEvent) (w : LinksState) → Meets (Grows w) (Grows w) (step w event)
unfolding step Grows
step_grows (Raw name) w = raw_grows name (place_of name w) w
step_grows (Put name bytes) w = named_grows (place_of name w) (Put name bytes) w
step_grows (Over name move) w = named_grows (place_of name w) (Over name move) w
step_grows (Now moment) w = meets_stays (Grows w) (Grows w) _ ([], refl) ([], refl)
step_grows Tick w = tick_goes_on w (Grows w) ([], refl) (λ moment e. (entry.Tick moment ∷ [], refl))

grown : (event : LinkEvent) (w new : LinksState) (printed : List Line)
    → Reached (step w event) new printed → (es : List Entry) × (new.past ≡ es ++ w.past)
unfolding Grows
grown event w new printed r = (step_grows event w).all new printed r

-- what is printed by then
over_fronts : (at : ℕ) (move : Session → Outcome Session) → ((s : Session) → Every s (move s))
    → (w : LinksState) → Fronts (over at move w)
unfolding over
over_fronts at move every w = grind (arith, fronts_within)

named_fronts : (p : Option ℕ) (event : LinkEvent) (w : LinksState)
    → Fronts (over_named p (move_of event) w)
named_fronts None event w = fronts_refuses w NoName
named_fronts (Some at) event w = over_fronts at (move_of event) (every_move event) w

raw_fronts : (name : List ℕ) (p : Option ℕ) (w : LinksState) → Fronts (raw_step w name p)
raw_fronts name (Some at) w = fronts_refuses w NameTaken
raw_fronts name None w = fronts_once w _ _ _

pub step_fronts : (event : LinkEvent) (w : LinksState) → Fronts (step w event)
unfolding step tick
step_fronts (Raw name) w = raw_fronts name (place_of name w) w
step_fronts (Put name bytes) w = named_fronts (place_of name w) (Put name bytes) w
step_fronts (Over name move) w = named_fronts (place_of name w) (Over name move) w
step_fronts (Now moment) w = fronts_stays _
step_fronts Tick w = fronts_once w _ _ _

pub printed_first : (w : LinksState) (event : LinkEvent) (new : LinksState) (printed : List Line)
    → Reached (step w event) new printed → IsPrefix printed (step w event).lines
printed_first w event new printed r =
    fronts_reached (step w event) (step_fronts event w) new printed r

-- the links that an event doesn't name
named_others : (p : Option ℕ) (event : LinkEvent) (w new : LinksState) (printed : List Line)
    → Reached (over_named p (move_of event) w) new printed → (i : ℕ) → (p ≡ Some i → ⊥)
    → at_place new.links i ≡ at_place w.links i
unfolding over
named_others None event w new printed (inl e) i n = ap (λ (v : LinksState). at_place v.links i) e.0
named_others None event w new printed (inr a) i n = absurd a
named_others (Some at) event w new printed r i n =
    let t = reached_within (with_session at w) (move_of event (session_at at w)) new printed r in
    grind (arith, get_or-set_other)

pub step_is : (w : LinksState) (name : List ℕ) (event : LinkEvent) → link_named event ≡ Some name
    → step w event ≡ over_named (place_of name w) (move_of event) w
unfolding step
step_is w name event h = grind arith

others_kept : (event : LinkEvent) (w new : LinksState) (printed : List Line)
    → Reached (step w event) new printed → (name : List ℕ) → link_named event ≡ Some name
    → OthersKept w name new
others_kept event w new printed r name h i n =
    named_others (place_of name w) event w new printed
    (subst (λ (m : Stepped). Reached m new printed) (step_is w name event h) r) i n

stands_start : (l : Limits) → Stands l (λ i. []) (λ n. []) [] (start l)
stands_start l = grind arith

pub stands_after : (l : Limits) (events : List LinkEvent) (before : ℕ → List ℕ) (said : List ℕ
    → List ℕ) (lines : List Line) (v w : LinksState) → Stands l before said lines v
    → after v events ≡ Some w
    → Stands l (λ i. before i ++ heard v i events) (λ n. said n ++ said_to n events) (lines
    ++ transcript v events) w
unfolding Ends
stands_after l [] before said lines v w s e =
    subst (λ x. Stands l (λ i. before i ++ []) (λ n. said n ++ []) (lines ++ []) x) (let same : v
    ≡ w = cc in same)
    (grind (arith, append-nil, stands_same))
stands_after l (d ∷ more) before said lines v w s e =
    let t = step v d in
    elim t.fault as (λ f. t.fault ≡ f → unless_fault f (after t.state more) None ≡ Some w
    → Stands l (λ i. before i ++ unless_fault f (heard_at v i d ++ heard t.state i more) [])
    (λ n. said n ++ said_to n (d ∷ more)) (lines
    ++ (t.lines ++ unless_fault f (transcript t.state more) [])) w) [
      | Some f ↦ λ is q. absurd (let no : ⊥ = cc in no)
      | None ↦ λ is q.
          let k = stands_after l more (λ i. before i ++ heard_at v i d) (λ n. said n
          ++ said_by n d) (lines ++ t.lines) t.state w
          ((stands_step l before said lines v s d).ends is) q in
          grind (arith, append_assoc, stands_same)
    ] refl e

all_ran : (runs passed all : List (List (List ℕ))) → (runs ++ passed) ++ [] ≡ all → passed ≡ []
    → runs ≡ all
all_ran runs passed all e none = grind (arith, append-nil)

pub serves : (heard said read : List ℕ) (s : Session) → IsLegal s.limits s.past
    → Account heard said read s → Serves s.limits heard said read s.past s.link
unfolding gave
serves heard said read s legal a = record {
  up = record { lost = a.bytes.up_lost; all_said = a.bytes.all_said };
  up_lost = a.bytes.none_up;
  down = record { lost = a.bytes.down_lost; all_taken = a.bytes.all_taken };
  down_lost = a.bytes.none_down;
  runs_front = ran_front [] heard s.limits s.link.id s.past a.runs;
  runs_all = λ e. all_ran (runs_of s.link.id s.past) a.runs.passed _ a.runs.all (a.runs.none e);
  quit_last = quit_is_last s.limits s.link.id s.past legal;
}

pub are_unique : (l : Limits) (events : List LinkEvent) (w : LinksState)
    → after (start l) events ≡ Some w → AreUnique w
are_unique l events w e =
    (stands_after l events (λ i. []) (λ n. []) [] (start l) w (stands_start l) e).unique

pub whole_history : (l : Limits) (events : List LinkEvent) (w : LinksState)
    → after (start l) events ≡ Some w → OneHistory l events (transcript (start l) events) w
whole_history l events w e =
    let s = stands_after l events (λ i. []) (λ n. []) [] (start l) w (stands_start l) e in
    let lines = transcript (start l) events in
    record {
      history = s.history;
      serves = λ at lt. serves (heard (start l) at events)
          (said_to (at_place w.links at).name events) (read_on (at_place w.links at).name lines)
          (session_at at w) s.history.legal (s.accounts at lt);
      unread = λ name none. s.unread name (unplaced name w none);
      clock = keeps_time events (start l) w tt e;
    }

pub follows : (l : Limits) (events : List LinkEvent) (w : LinksState)
    → after (start l) events ≡ Some w → (event : LinkEvent) (new : LinksState)
    (printed : List Line) → Reached (step w event) new printed
    → Follows l events (transcript (start l) events) w event printed new
unfolding Stops Part
follows l events w e event new printed r =
    let s = stands_after l events (λ i. []) (λ n. []) [] (start l) w (stands_start l) e in
    let p = (stands_step l _ _ _ w s event).all new printed r in
    let g = grown event w new printed r in
    record {
      part = record {
        history = p.history;
        serves = λ at lt.
            let link = at_place new.links at in
            subst (λ d. PartServes new.limits d
            (read_on link.name (transcript (start l) events ++ printed)) new.past link)
            (ap (λ x. said_to link.name events ++ x) (sym (append-nil (said_by link.name event)))
            ∙ sym (flat_map-append (said_by link.name) events (event ∷ [])))
            (p.parts at lt);
        unread = λ name none. p.unread name (unplaced name new none);
      };
      front = printed_first w event new printed r;
      entries = g.0;
      grows = g.1;
      others = others_kept event w new printed r;
    }
