-- What holds of a world with clients: of its links, of each client's ends of these, and of each
-- client.
use Rattle.std.proofs.Common.{◌≡◌, ◌<◌, ℕ, List, [], ◌++◌, false, None, length, map}
use Rattle.std.proofs.Common.{sym, ap, subst, ◌∙◌, append-nil}
use Rattle.resp_value.specs.Lists.{IsPrefix}
use Rattle.resp_value.specs.ValueTree.{tree_of}
use Rattle.resp_stream.specs.Parse.{parse_values, values_of}
use Rattle.resp_stream.proofs.Onward.{GoesOn}
use Rattle.serial_model.specs.declared.history.Limits.{Limits}
use Rattle.shared_cache.specs.declared.log.Wire.{Wire}
use Rattle.shared_cache.specs.declared.log.Wire.TheVariants.{Main}
use Rattle.shared_cache.specs.Laws.{gots}
use Rattle.shared_cache.specs.Log.{HasWire, is_ended}
use Rattle.currency.specs.Links.{Meet}
use Rattle.script_text.specs.declared.line.Line.{Line}
use Rattle.server_links.specs.LinkEvent.{LinkEvent}
use Rattle.server_links.specs.LinksState.{LinksState, at_place}
use Rattle.server_links.specs.LinkSteps.{step}
use Rattle.server_links.specs.OneHistory.{PartServes, read_on, said_by}
use Rattle.server_links.specs.Transcript.{heard_at}
use Rattle.server_links.proofs.Accounts.{Part}
use Rattle.server_links.proofs.Carries.{read_more}
use Rattle.server_links.proofs.LinksStand.{Stands, PartStands, stands_part}
use Rattle.server_links.proofs.Outcomes.{Meets}
use Rattle.world_run.specs.WorldState.{EndState, HaveClients, HaveEnds, MemberState, WorldState}
use Rattle.world_run.specs.WorldState.{client_at, end_at, member_at}
use Rattle.world_run.specs.Members.{client_of}
use Rattle.world_run.specs.WorldHistory.{taken_bytes}
use Rattle.world_run.specs.World.{on_links}
use Rattle.world_run.proofs.Below.{stands_step}
use Rattle.world_run.proofs.Links.{step_moved}
use Rattle.world_run.proofs.Members.{Crossed, EndPart, LinkGrows, MemberPart, crossed, end_grown}
use Rattle.world_run.proofs.Members.{meet_of}

-- while its link has not ended, a client got all values in what its end has read
pub record ReadsOn (read : List ℕ) (e : EndState) (m : MemberState) : Type 0 where
  pub gots_are : map tree_of (gots e.end.wire m.state.past) ≡ values_of read
  pub reading : GoesOn parse_values read e.reader

abbrev pub Reads : List ℕ → EndState → MemberState → Type 0
Reads read e m =
    is_ended m.state.setup.mode e.end.wire m.state.past ≡ false → ReadsOn read e m

-- no client has an end of this link
abbrev pub NoneHas : WorldState → List ℕ → Type 0
NoneHas w name = (k : ℕ) → k < length w.ends → (end_at w.ends k).end.link ≡ name → ⊥

-- what is said of each end of a client, of its place, the links, what was read on its link and put
-- there
abbrev pub Each : Type 1
Each = ℕ → LinksState → List ℕ → List ℕ → EndState → MemberState → Type 0

pub record Holds (l : Limits) (heard : ℕ → List ℕ) (raw : List ℕ → List ℕ) (M : Each)
    (lines : List Line) (w : WorldState) : Type 0 where
  -- what was put on each link
  pub said : List ℕ → List ℕ
  pub links : Stands l heard said lines w.links
  pub each : (k : ℕ) → k < length w.ends → let e = end_at w.ends k in
      M k w.links (read_on e.end.link lines) (said e.end.link) e (client_at w k)
  pub clients : HaveClients w
  pub ends : HaveEnds w
  pub distinct : (j k : ℕ) → j < length w.ends → k < length w.ends
      → (end_at w.ends k).end.link ≡ (end_at w.ends j).end.link → k ≡ j
  -- on a link without a client, what the schedule says
  pub rest : (name : List ℕ) → NoneHas w name → said name ≡ raw name

-- where memory ran out, or a fault stopped the last event
pub record WorldPart (l : Limits) (raw : List ℕ → List ℕ) (lines : List Line) (w : WorldState) :
    Type 0 where
  pub said : List ℕ → List ℕ
  pub links : PartStands l said lines w.links
  pub unique : (i j : ℕ) → i < length w.links.links → j < length w.links.links
      → (at_place w.links.links j).name ≡ (at_place w.links.links i).name → j ≡ i
  pub each : (k : ℕ) → k < length w.ends → let e = (end_at w.ends k).end in
      EndPart w.links (read_on e.link lines) e (client_at w k)
  pub taken : (k : ℕ) → k < length w.ends → let e = (end_at w.ends k).end in
      said e.link ≡ taken_bytes e.wire (client_at w k)
  pub clients : HaveClients w
  pub ends : HaveEnds w
  pub distinct : (j k : ℕ) → j < length w.ends → k < length w.ends
      → (end_at w.ends k).end.link ≡ (end_at w.ends j).end.link → k ≡ j
  pub rest : (name : List ℕ) → NoneHas w name → said name ≡ raw name

-- an end of a client in a world between two events
abbrev pub Stable : Each
Stable k ls read said e m =
    EndPart ls read e.end m × (said ≡ taken_bytes e.end.wire m) × Reads read e m

abbrev pub WorldStands : Limits → (ℕ → List ℕ) → (List ℕ → List ℕ) → List Line → WorldState → Type 0
WorldStands l heard raw lines w = Holds l heard raw Stable lines w

-- ---- the client and the history meet

-- a client has an end of the link that its commands go on
pub member_part : (w : WorldState) (read : ℕ → List ℕ) → HaveEnds w
    → ((k : ℕ) → k < length w.ends → EndPart w.links (read k) (end_at w.ends k).end (client_at w k))
    → (i : ℕ) → i < length w.members → MemberPart w.links (member_at w.members i)
member_part w read ends part i lt =
    let k = ends i lt Main tt in
    subst (λ j. MemberPart w.links (member_at w.members j)) k.2 (part k.0 k.1).member

pub meet_by : (l : Limits) (said : List ℕ → List ℕ) (lines : List Line) (w : WorldState)
    → PartStands l said lines w.links → HaveEnds w
    → ((k : ℕ) → k < length w.ends → let e = (end_at w.ends k).end in
    EndPart w.links (read_on e.link lines) e (client_at w k))
    → ((k : ℕ) → k < length w.ends → let e = (end_at w.ends k).end in
    IsPrefix (said e.link) (taken_bytes e.wire (client_at w k)))
    → (i : ℕ) → i < length w.members → let m = member_at w.members i in
    Meet w.links.limits (client_of m) w.links.past m.state.past
unfolding Part
meet_by l said lines w s ends part took i lt =
    let m = member_at w.members i in
    meet_of w.links m
    (member_part w (λ k. read_on (end_at w.ends k).end.link lines) ends part i lt)
    (λ u has.
    let k = ends i lt u has in
    let e = (end_at w.ends k.0).end in
    let p = part k.0 k.1 in
    let below : e.place < length w.links.links =
    subst (λ n. n < length w.links.links) (sym p.place_is) (p.member.below e.wire p.has) in
    let named : (at_place w.links.links e.place).name ≡ e.link =
    ap (λ n. (at_place w.links.links n).name) p.place_is ∙ p.member.placed e.wire p.has
    ∙ sym p.named in
    let there : Crossed w.links (client_at w k.0) e.wire =
    crossed w.links (read_on e.link lines) (said e.link) e (client_at w k.0) s.history.legal
    (s.history.ids e.place below) p (took k.0 k.1)
    (subst (λ n. PartServes w.links.limits (said n) (read_on n lines) w.links.past
    (at_place w.links.links e.place)) named (s.parts e.place below)) in
    subst (λ j. Crossed w.links (member_at w.members j) u) k.2
    (subst (Crossed w.links (client_at w k.0)) k.3 there))

pub part_member : (l : Limits) (raw : List ℕ → List ℕ) (lines : List Line) (w : WorldState)
    → WorldPart l raw lines w → (i : ℕ) → i < length w.members
    → MemberPart w.links (member_at w.members i)
part_member l raw lines w p =
    member_part w (λ k. read_on (end_at w.ends k).end.link lines) p.ends p.each

pub meet_part : (l : Limits) (raw : List ℕ → List ℕ) (lines : List Line) (w : WorldState)
    → WorldPart l raw lines w → (i : ℕ) → i < length w.members
    → let m = member_at w.members i in
    Meet w.links.limits (client_of m) w.links.past m.state.past
meet_part l raw lines w p =
    meet_by l p.said lines w p.links p.ends p.each
    (λ k lt. ([], append-nil (p.said (end_at w.ends k).end.link) ∙ p.taken k lt))

-- ---- an event of the links

module _ (l : Limits) (heard : ℕ → List ℕ) (raw raw' : List ℕ → List ℕ) (M N : Each)
    (lines : List Line) (w : WorldState) (h : Holds l heard raw M lines w) (event : LinkEvent)
    (part : (k : ℕ) → k < length w.ends → let e = (end_at w.ends k).end in
    EndPart w.links (read_on e.link lines) e (client_at w k))
    (takes : (k : ℕ) → k < length w.ends → let e = (end_at w.ends k).end in
    h.said e.link ++ said_by e.link event ≡ taken_bytes e.wire (client_at w k))
    (says : (name : List ℕ) → NoneHas w name → raw name ++ said_by name event ≡ raw' name)
    (moves : (k : ℕ) → k < length w.ends → let e = end_at w.ends k in
    let name = e.end.link in
    let v = (step w.links event).state in
    let ls = (step w.links event).lines in
    (step w.links event).fault ≡ None
    → EndPart v (read_on name lines ++ read_on name ls) e.end (client_at w k)
    → N k v (read_on name lines ++ read_on name ls) (h.said name ++ said_by name event) e
    (client_at w k)) where
  before : (k : ℕ) → k < length w.ends → let m = client_at w k in
      Meet w.links.limits (client_of m) w.links.past m.state.past
  before k lt =
      meet_by l h.said lines w (stands_part l heard h.said lines w.links h.links) h.ends part
      (λ j below. (said_by (end_at w.ends j).end.link event, takes j below))
      (end_at w.ends k).end.client (h.clients k lt).0

  grown : (v : LinksState) (ls : List Line) → LinkGrows w.links v → (k : ℕ)
      → k < length w.ends → let e = (end_at w.ends k).end in
      EndPart v (read_on e.link lines ++ read_on e.link ls) e (client_at w k)
  grown v ls g k lt =
      let e = (end_at w.ends k).end in
      end_grown w.links v (read_on e.link lines) (read_on e.link ls) e (client_at w k) g
      (before k lt) (part k lt)

  said_rest : (name : List ℕ) → NoneHas w name → h.said name ++ said_by name event ≡ raw' name
  said_rest name none = ap (λ x. x ++ said_by name event) (h.rest name none) ∙ says name none

  pub linked : Meets (λ v ls. Holds l (λ i. heard i ++ heard_at w.links i event) raw' N
      (lines ++ ls) (on_links w v)) (λ v ls. WorldPart l raw' (lines ++ ls) (on_links w v))
      (step w.links event)
  linked =
      let s = stands_step l heard h.said lines w.links h.links event in
      let g = step_moved w.links event in
      record {
        ends = λ none. record {
          said = λ name. h.said name ++ said_by name event;
          links = s.ends none;
          each = λ k lt.
              let e = end_at w.ends k in
              let v = (step w.links event).state in
              let ls = (step w.links event).lines in
              subst (λ r. N k v r (h.said e.end.link ++ said_by e.end.link event) e
              (client_at w k))
              (sym (read_more e.end.link lines ls))
              (moves k lt none (grown v ls (g.ends none).grows k lt));
          clients = h.clients;
          ends = h.ends;
          distinct = h.distinct;
          rest = said_rest;
        };
        all = λ v ls reached. record {
          said = λ name. h.said name ++ said_by name event;
          links = s.all v ls reached;
          unique = (g.all v ls reached).grows.unique h.links.unique;
          each = λ k lt.
              let e = (end_at w.ends k).end in
              subst (λ r. EndPart v r e (client_at w k)) (sym (read_more e.link lines ls))
              (grown v ls (g.all v ls reached).grows k lt);
          taken = takes;
          clients = h.clients;
          ends = h.ends;
          distinct = h.distinct;
          rest = said_rest;
        };
      }
