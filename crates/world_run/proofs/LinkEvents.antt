-- What stands of a world with clients after an event of its links: one that makes a link, one of a
-- link without a client, and one by which no client's end reads.
use Rattle.std.proofs.Common.{◌≡◌, ◌<◌, ℕ, List, [], ◌++◌, None, length, sym, ap, subst, ◌∙◌}
use Rattle.std.proofs.Common.{append-nil, arith}
use Rattle.serial_model.specs.declared.history.Limits.{Limits}
use Rattle.script_text.specs.declared.line.Line.{Line}
use Rattle.server_links.specs.declared.fault.WorldFault.{WorldFault}
use Rattle.server_links.specs.LinkEvent.{LinkEvent}
use Rattle.server_links.specs.LinkSteps.{step}
use Rattle.server_links.specs.OneHistory.{read_on, said_by}
use Rattle.server_links.specs.Outcome.{Outcome, refuses, stays}
use Rattle.server_links.specs.Transcript.{heard_at}
use Rattle.server_links.proofs.LinksStand.{stands_part, stands_same, not_equal}
use Rattle.server_links.proofs.Outcomes.{Meets, meets_refuses, meets_stays, meets_weaker}
use Rattle.server_links.proofs.Outcomes.{meets_within}
use Rattle.world_run.specs.WorldState.{LinkEnd, WorldState, client_at, end_at}
use Rattle.world_run.specs.Members.{Seat, seat_at, with_seat}
use Rattle.world_run.specs.WorldHistory.{taken_bytes}
use Rattle.world_run.specs.World.{Stepped, client_does, links_step, on_links}
use Rattle.world_run.proofs.SeatMoves.{said_other}
use Rattle.world_run.proofs.Links.{IsUnread, Mute, Mutes, name_of_event, step_moved, step_mutes}
use Rattle.world_run.proofs.Seats.{One, Seating, Steady, seated, unseated}
use Rattle.world_run.proofs.Worlds.{Holds, NoneHas, Reads, Stable, WorldPart, WorldStands, linked}

-- the same is said of it
pub part_of : (l : Limits) (heard : ℕ → List ℕ) (raw raw' : List ℕ → List ℕ) (lines : List Line)
    (w : WorldState) → WorldStands l heard raw lines w
    → ((name : List ℕ) → NoneHas w name → raw name ≡ raw' name) → WorldPart l raw' lines w
part_of l heard raw raw' lines w h same = record {
  said = h.said;
  links = stands_part l heard h.said lines w.links h.links;
  unique = h.links.unique;
  each = λ k lt. (h.each k lt).0;
  taken = λ k lt. (h.each k lt).1;
  clients = h.clients;
  ends = h.ends;
  distinct = h.distinct;
  rest = λ name none. h.rest name none ∙ same name none;
}

pub stands_again : (l : Limits) (heard heard' : ℕ → List ℕ) (raw raw' : List ℕ → List ℕ)
    (lines : List Line) (w : WorldState) → ((i : ℕ) → heard i ≡ heard' i)
    → ((name : List ℕ) → NoneHas w name → raw name ≡ raw' name)
    → WorldStands l heard raw lines w → WorldStands l heard' raw' lines w
stands_again l heard heard' raw raw' lines w hears says h = grind (arith, stands_same)

pub part_again : (l : Limits) (raw raw' : List ℕ → List ℕ) (lines : List Line) (w : WorldState)
    → ((name : List ℕ) → NoneHas w name → raw name ≡ raw' name)
    → WorldPart l raw lines w → WorldPart l raw' lines w
part_again l raw raw' lines w says h = grind arith

-- wherever a step comes to
abbrev pub Comes : Limits → (ℕ → List ℕ) → (List ℕ → List ℕ) → List Line → Stepped → Type 0
Comes l heard raw lines m =
    Meets (λ v ls. WorldStands l heard raw (lines ++ ls) v)
    (λ v ls. WorldPart l raw (lines ++ ls) v) m

pub comes_as : (l : Limits) (heard heard' : ℕ → List ℕ) (raw raw' : List ℕ → List ℕ)
    (lines : List Line) (m : Stepped) → ((i : ℕ) → heard i ≡ heard' i)
    → ((name : List ℕ) → raw name ≡ raw' name)
    → Comes l heard raw lines m → Comes l heard' raw' lines m
comes_as l heard heard' raw raw' lines m hears says h =
    meets_weaker (λ v ls. WorldStands l heard raw (lines ++ ls) v)
    (λ v ls. WorldStands l heard' raw' (lines ++ ls) v)
    (λ v ls. WorldPart l raw (lines ++ ls) v) (λ v ls. WorldPart l raw' (lines ++ ls) v) m
    (λ v ls s. stands_again l heard heard' raw raw' (lines ++ ls) v hears (λ n none. says n) s)
    (λ v ls p. part_again l raw raw' (lines ++ ls) v (λ n none. says n) p) h

module _ (l : Limits) (heard : ℕ → List ℕ) (raw : List ℕ → List ℕ) (lines : List Line)
    (w : WorldState) (h : WorldStands l heard raw lines w) where
  pub part_here : (raw' : List ℕ → List ℕ)
      → ((name : List ℕ) → NoneHas w name → raw name ≡ raw' name)
      → WorldPart l raw' (lines ++ []) w
  part_here raw' same =
      subst (λ x. WorldPart l raw' x w) (sym (append-nil lines))
      (part_of l heard raw raw' lines w h same)

  pub comes_refused : (heard' : ℕ → List ℕ) (raw' : List ℕ → List ℕ)
      → ((name : List ℕ) → NoneHas w name → raw name ≡ raw' name) → (f : WorldFault)
      → Comes l heard' raw' lines (refuses w f)
  comes_refused heard' raw' same f = grind (arith, meets_refuses, WorldPart, part_here)

  pub comes_same : (heard' : ℕ → List ℕ) (raw' : List ℕ → List ℕ)
      → ((i : ℕ) → heard i ≡ heard' i) → ((name : List ℕ) → raw name ≡ raw' name)
      → Comes l heard' raw' lines (stays w)
  comes_same heard' raw' hears says =
      grind (arith, meets_stays, append-nil, stands_again, part_here)

  -- an event that no client's link takes part in
  pub comes_linked : (raw' : List ℕ → List ℕ) (event : LinkEvent)
      → ((k : ℕ) → k < length w.ends → let n = (end_at w.ends k).end.link in
      (said_by n event ≡ [])
      × ((step w.links event).fault ≡ None → read_on n (step w.links event).lines ≡ []))
      → ((name : List ℕ) → NoneHas w name → raw name ++ said_by name event ≡ raw' name)
      → Comes l (λ i. heard i ++ heard_at w.links i event) raw' lines (links_step event w)
  unfolding links_step
  comes_linked raw' event quiet says =
      let hears : ℕ → List ℕ = λ i. heard i ++ heard_at w.links i event in
      let silent : (k : ℕ) → k < length w.ends → let e = (end_at w.ends k).end in
      h.said e.link ++ said_by e.link event ≡ taken_bytes e.wire (client_at w k) =
      λ k lt. (let n = (end_at w.ends k).end.link in
      ap (λ x. h.said n ++ x) (quiet k lt).0 ∙ append-nil (h.said n) ∙ (h.each k lt).1)
      in
      meets_within (on_links w) (λ v ls. WorldStands l hears raw' (lines ++ ls) v)
      (λ v ls. WorldPart l raw' (lines ++ ls) v) (step w.links event)
      (linked l heard raw raw' Stable Stable lines w h event (λ k lt. (h.each k lt).0) silent says
      (λ k lt ok p. (
        p,
        silent k lt,
        (let e = end_at w.ends k in
            let n = e.end.link in
            subst (λ r. Reads r e (client_at w k))
            (sym (ap (λ x. read_on n lines ++ x) ((quiet k lt).1 ok)
            ∙ append-nil (read_on n lines))) (h.each k lt).2),
      )))

  -- of a link that no client has
  pub comes_apart : (raw' : List ℕ → List ℕ) (event : LinkEvent) → NoneHas w (name_of_event event)
      → ((name : List ℕ) → raw name ++ said_by name event ≡ raw' name)
      → Comes l (λ i. heard i ++ heard_at w.links i event) raw' lines (links_step event w)
  unfolding name_of_event
  comes_apart raw' event free says =
      comes_linked raw' event
      (λ k lt.
      let n = (end_at w.ends k).end.link in
      let differ = not_equal (name_of_event event) n (λ e. free k lt (sym e)) in (
        said_other event n differ,
        (λ ok. ((step_moved w.links event).ends ok).mute n differ),
      ))
      (λ name none. says name)

  -- an event by which no client's end reads, and which puts nothing
  pub comes_unread : (event : LinkEvent) → IsUnread event
      → ((name : List ℕ) → said_by name event ≡ [])
      → Comes l (λ i. heard i ++ heard_at w.links i event) raw lines (links_step event w)
  unfolding Mutes Mute
  comes_unread event none puts =
      comes_linked raw event
      (λ k lt.
      let n = (end_at w.ends k).end.link in (
        puts n,
        (λ ok. (step_mutes w.links event none).ends ok n),
      ))
      (λ name free. ap (λ x. raw name ++ x) (puts name) ∙ append-nil (raw name))

  -- a move of a client at one of its ends
  pub comes_client : (heard' : ℕ → List ℕ) (at : ℕ) (move : LinkEnd → Seat → Outcome Seat)
      → (Holds l heard raw (Seating at [] Steady) lines w
      → One l raw at (λ ls u. Holds l heard' raw (Seating at [] Steady) ls u) lines w
      (move (end_at w.ends at).end (seat_at at w)))
      → Comes l heard' raw lines (client_does at move w)
  unfolding client_does
  comes_client heard' at move f =
      let m = move (end_at w.ends at).end (seat_at at w) in
      let k = f (seated l heard raw at lines w h) in
      meets_within (with_seat at w) (λ v ls. WorldStands l heard' raw (lines ++ ls) v)
      (λ v ls. WorldPart l raw (lines ++ ls) v) m (grind (arith, unseated))
