-- Links are made, and a client at them.
use Rattle.std.proofs.Common.{◌≡◌, ◌+◌, ◌-◌, ◌<◌, ℕ, zero, suc, List, [], ◌∷◌, ◌++◌, true, false}
use Rattle.std.proofs.Common.{cond, not, Some, None, length, refl, sym, ap, subst, ◌∙◌, arith}
use Rattle.std.proofs.Common.{inl, inr, append_assoc, append-nil, length-append}
use Rattle.std.specs.Option.{is_some}
use Rattle.std.proofs.lemmas.Bool.{cases_lt}
use Rattle.std.proofs.lemmas.List.{get_or_push, get_or_append_left, get_or-append_right}
use Rattle.resp_stream.proofs.Onward.{no_values, values_begun}
use Rattle.serial_model.specs.declared.history.Limits.{Limits}
use Rattle.serial_model.specs.History.{admitted}
use Rattle.serial_model.proofs.StepCases.{by_admit}
use Rattle.serial_model.specs.Steps as steps
use Rattle.shared_cache.specs.declared.log.ClientMode.{ClientMode}
use Rattle.shared_cache.specs.declared.log.Shape.{Shape}
use Rattle.shared_cache.specs.declared.log.Shape.TheVariants.{Single, Pair}
use Rattle.shared_cache.specs.declared.log.Wire.{Wire}
use Rattle.shared_cache.specs.declared.log.Wire.TheVariants.{Main, Side}
use Rattle.shared_cache.specs.Held.{Setup}
use Rattle.shared_cache.specs.ClientFields.{IsClientMode}
use Rattle.shared_cache.specs.Log.{HasWire}
use Rattle.script_text.specs.declared.line.Line.{Line}
use Rattle.server_links.specs.declared.fault.WorldFault.TheVariants.{NameTaken, Refused}
use Rattle.server_links.specs.LinkEvent.{Raw}
use Rattle.server_links.specs.LinksState.{LinksState, at_place, fresh_link}
use Rattle.server_links.specs.LinkSteps.{admitting, place_of, raw_step, step, stopped_number}
use Rattle.server_links.specs.OneHistory.{read_on}
use Rattle.server_links.specs.Outcome.{and_then, does, refuses, within}
use Rattle.server_links.proofs.Carries.{read_more}
use Rattle.server_links.proofs.Names.{unplaced}
use Rattle.server_links.proofs.Outcomes.{Meets, meets_does, meets_stays, meets_then, meets_weaker}
use Rattle.world_run.specs.WorldState.{EndState, HaveClients, MemberState, WorldState, client_at}
use Rattle.world_run.specs.WorldState.{end_at, fresh_end, fresh_member, link_on, member_at}
use Rattle.world_run.specs.WorldState.{HaveEnds, no_setup, place_on}
use Rattle.world_run.specs.World.{Stepped, client_step, connect, fresh_ends, is_served, is_taken}
use Rattle.world_run.specs.World.{join, links_step, not_served, setup_by}
use Rattle.world_run.specs.World as world
use Rattle.world_run.proofs.Kept.{two_links}
use Rattle.world_run.proofs.LinkEvents.{Comes, comes_refused, comes_unread, part_here}
use Rattle.world_run.proofs.LinkEvents.{stands_again}
use Rattle.world_run.proofs.Links.{IsUnread, Mute, Mutes, step_moved, step_mutes}
use Rattle.world_run.proofs.Members.{MemberPart, served_mode}
use Rattle.world_run.proofs.Worlds.{NoneHas, Stable, WorldPart, WorldStands}

-- ---- a link that is new

-- where a link was made, it is the last, and its name was free
pub record IsMade (name : List ℕ) (w v : LinksState) : Type 0 where
  pub free : place_of name w ≡ None
  pub size : length v.links ≡ length w.links + 1
  pub named : (at_place v.links (length w.links)).name ≡ name

made_now : (name : List ℕ) (w : LinksState) → place_of name w ≡ None
    → IsMade name w (admitting w name (steps.admitting w.past)).state
made_now name w free =
    let new = fresh_link (admitted w.past + 1) name in
    record {
      free = free;
      size = length-append w.links (new ∷ []);
      named = grind (arith, get_or_push, new);
    }

pub raw_made : (name : List ℕ) (w : LinksState) → (step w (Raw name)).fault ≡ None
    → IsMade name w (step w (Raw name)).state
unfolding step
raw_made name w none = elim (place_of name w) as (λ p. place_of name w ≡ p
    → (raw_step w name p).fault ≡ None → IsMade name w (raw_step w name p).state) [
      | Some at ↦ λ is e. absurd (let no : Some NameTaken ≡ None = e in cc)
      | None ↦ λ free. by_admit w.limits w.past (λ t. (admitting w name t).fault ≡ None
          → IsMade name w (admitting w name t).state)
          (λ e. absurd (let no : Some (Refused stopped_number) ≡ None = e in cc))
          (λ on e. made_now name w free)
    ] refl none

module _ (l : Limits) (heard : ℕ → List ℕ) (raw : List ℕ → List ℕ) (lines : List Line)
    (w : WorldState) (h : WorldStands l heard raw lines w) where
  -- ---- a raw link

  pub raw_comes : (name : List ℕ) → Comes l heard raw lines (world.raw_step name w)
  unfolding IsUnread
  raw_comes name =
      elim (is_taken name w) as (λ b. Comes l heard raw lines
      (cond b (refuses w NameTaken) (links_step (Raw name) w))) [
        | true ↦ comes_refused l heard raw lines w h heard raw (λ n none. refl) NameTaken
        | false ↦
            let k = comes_unread l heard raw lines w h (Raw name) tt (λ n. refl) in
            meets_weaker (λ v ls. WorldStands l (λ i. heard i ++ []) raw (lines ++ ls) v)
            (λ v ls. WorldStands l heard raw (lines ++ ls) v)
            (λ v ls. WorldPart l raw (lines ++ ls) v) (λ v ls. WorldPart l raw (lines ++ ls) v)
            (links_step (Raw name) w)
            (λ v ls s. stands_again l (λ i. heard i ++ []) heard raw raw (lines ++ ls) v
            (λ i. append-nil (heard i)) (λ n none. refl) s)
            (λ v ls p. p) k
      ]

-- nothing was read or said yet on the link of this name, which is at this place, and no client has
-- it
record IsNew (name : List ℕ) (place : ℕ) (raw : List ℕ → List ℕ) (lines : List Line)
    (w : WorldState) : Type 0 where
  below : place < length w.links.links
  named : (at_place w.links.links place).name ≡ name
  unread : read_on name lines ≡ []
  unsaid : raw name ≡ []
  free : NoneHas w name

-- what stands where a link was made in a world: it is new, and so are those that were
record MadeIn (l : Limits) (heard : ℕ → List ℕ) (raw : List ℕ → List ℕ) (lines : List Line)
    (name : List ℕ) (w v : WorldState) (ls : List Line) : Type 0 where
  stands : WorldStands l heard raw (lines ++ ls) v
  size : length v.links.links ≡ length w.links.links + 1
  own : IsNew name (length w.links.links) raw (lines ++ ls) v
  others : (other : List ℕ) (place : ℕ) → IsNew other place raw lines w
      → IsNew other place raw (lines ++ ls) v

module _ (l : Limits) (heard : ℕ → List ℕ) (raw : List ℕ → List ℕ) (lines : List Line)
    (w : WorldState) (h : WorldStands l heard raw lines w) (name : List ℕ) where
  unread_more : (n : List ℕ) (ls : List Line) → Mute ls → read_on n lines ≡ []
      → read_on n (lines ++ ls) ≡ []
  unfolding Mute
  unread_more n ls mute none =
      read_more n lines ls ∙ ap (λ x. read_on n lines ++ x) (mute n)
      ∙ append-nil (read_on n lines) ∙ none

  -- no client has a link that is not there
  no_client : place_of name w.links ≡ None → NoneHas w name
  no_client free k lt e =
      let p = (h.each k lt).0 in
      let u = (end_at w.ends k).end.wire in
      unplaced name w.links free (place_on u (client_at w k)) (p.member.below u p.has)
      (p.member.placed u p.has ∙ sym p.named ∙ e)

  link_made : Meets (MadeIn l heard raw lines name w) (λ v ls. WorldPart l raw (lines ++ ls) v)
      (links_step (Raw name) w)
  unfolding links_step within IsUnread Mutes
  link_made =
      let m = links_step (Raw name) w in
      let k = comes_unread l heard raw lines w h (Raw name) tt (λ n. refl) in
      record {
        ends = λ ok.
            let made = raw_made name w.links ok in
            let free = no_client made.free in
            let mute = (step_mutes w.links (Raw name) tt).ends ok in
            let names = ((step_moved w.links (Raw name)).ends ok).grows.names in
            record {
              stands = stands_again l (λ i. heard i ++ []) heard raw raw (lines ++ m.lines) m.state
                  (λ i. append-nil (heard i)) (λ n none. refl) (k.ends ok);
              size = made.size;
              own = record {
                below = omega (arith, made.size);
                named = made.named;
                unread = unread_more name m.lines mute
                    (h.links.unread name (unplaced name w.links made.free));
                unsaid = sym (h.rest name free)
                    ∙ h.links.unsaid name (unplaced name w.links made.free);
                free = free;
              };
              others = λ other place new. record {
                below = (let b = new.below in omega (arith, made.size, b));
                named = names place new.below ∙ new.named;
                unread = unread_more other m.lines mute new.unread;
                unsaid = new.unsaid;
                free = new.free;
              };
            };
        all = k.all;
      }

-- ---- a client's ends of its links

module _ (client : ℕ) (name : List ℕ) (main side : ℕ) (setup : Setup) where
  abbrev made_member : MemberState
  made_member = fresh_member name main side setup

  -- each is of one of its links
  ends_are : (shape : Shape) (j : ℕ) → j < length (fresh_ends shape client name main side)
      → (u : Wire) × HasWire shape u × (end_at (fresh_ends shape client name main side) j
      ≡ fresh_end client u name (place_on u made_member))
  ends_are Single zero lt = (Main, tt, refl)
  ends_are Single (suc j) lt = absurd (let no : ⊥ = omega (arith, lt) in no)
  ends_are Pair zero lt = (Side, tt, refl)
  ends_are Pair (suc zero) lt = (Main, tt, refl)
  ends_are Pair (suc (suc j)) lt = absurd (let no : ⊥ = omega (arith, lt) in no)

  ends_have : (shape : Shape) (u : Wire) → HasWire shape u
      → (j : ℕ) × (j < length (fresh_ends shape client name main side))
      × (end_at (fresh_ends shape client name main side) j
      ≡ fresh_end client u name (place_on u made_member))
  ends_have Single Main has = (0, omega arith, refl)
  ends_have Single Side has = absurd has
  ends_have Pair Side has = (0, omega arith, refl)
  ends_have Pair Main has = (1, omega arith, refl)

  ends_once : (shape : Shape) (i j : ℕ) → i < length (fresh_ends shape client name main side)
      → j < length (fresh_ends shape client name main side)
      → (end_at (fresh_ends shape client name main side) j).end.link
      ≡ (end_at (fresh_ends shape client name main side) i).end.link → j ≡ i
  ends_once Single i j li lj e = omega (arith, li, lj)
  ends_once Pair zero zero li lj e = refl
  ends_once Pair zero (suc zero) li lj e = absurd (two_links name (sym e))
  ends_once Pair (suc zero) zero li lj e = absurd (two_links name e)
  ends_once Pair (suc zero) (suc zero) li lj e = refl
  ends_once Pair (suc (suc i)) j li lj e = absurd (let no : ⊥ = omega (arith, li) in no)
  ends_once Pair i (suc (suc j)) li lj e = absurd (let no : ⊥ = omega (arith, lj) in no)

-- ---- a client at links that are new

module _ (l : Limits) (heard : ℕ → List ℕ) (raw : List ℕ → List ℕ) (lines : List Line)
    (name : List ℕ) (main side : ℕ) (setup : Setup) (served : IsClientMode setup.mode)
    (room : 0 < setup.capacity) (w : WorldState) (h : WorldStands l heard raw lines w)
    (news : (u : Wire) → HasWire setup.mode.shape u
    → IsNew (link_on u name) (place_on u (fresh_member name main side setup)) raw lines w) where
  abbrev new : MemberState
  new = fresh_member name main side setup

  abbrev fresh : List EndState
  fresh = fresh_ends setup.mode.shape (length w.members) name main side

  abbrev with_client : WorldState
  with_client = (join name main side setup w).state

  -- what is said of an end
  abbrev Ended : EndState → MemberState → Type 0
  Ended e m = Stable 0 w.links (read_on e.end.link lines) (h.said e.end.link) e m

  members_size : length with_client.members ≡ length w.members + 1
  members_size = length-append w.members (fresh_member name main side setup ∷ [])

  ends_size : length with_client.ends ≡ length w.ends + length fresh
  ends_size =
      length-append w.ends (fresh_ends setup.mode.shape (length w.members) name main side)

  old_member : (i : ℕ) → i < length w.members
      → member_at with_client.members i ≡ member_at w.members i
  old_member i lt =
      get_or_append_left w.members (fresh_member name main side setup ∷ [])
      (fresh_member [] 0 0 no_setup) i lt

  new_member : (i : ℕ) → i ≡ length w.members → member_at with_client.members i ≡ new
  new_member i e =
      get_or_push w.members (fresh_member name main side setup) (fresh_member [] 0 0 no_setup) i
      (sym e)

  old_end : (k : ℕ) → k < length w.ends → end_at with_client.ends k ≡ end_at w.ends k
  old_end k lt =
      get_or_append_left w.ends (fresh_ends setup.mode.shape (length w.members) name main side)
      (fresh_end 0 Main [] 0) k lt

  new_end : (j : ℕ) → end_at with_client.ends (length w.ends + j) ≡ end_at fresh j
  new_end j = grind (arith, get_or-append_right)

  old_client : (k : ℕ) → k < length w.ends → client_at with_client k ≡ client_at w k
  old_client k lt =
      ap (λ (e : EndState). member_at with_client.members e.end.client) (old_end k lt)
      ∙ old_member (end_at w.ends k).end.client (h.clients k lt).0

  -- an end of the client's
  record Own (k : ℕ) : Type 0 where
    place : ℕ
    below : place < length fresh
    at : k ≡ length w.ends + place
    wire : Wire
    has : HasWire setup.mode.shape wire
    is : end_at with_client.ends k ≡ fresh_end (length w.members) wire name (place_on wire new)
    client : client_at with_client k ≡ new

  own_end : (j : ℕ) → j < length fresh → Own (length w.ends + j)
  own_end j lt =
      let f = ends_are (length w.members) name main side setup setup.mode.shape j lt in
      let is : end_at with_client.ends (length w.ends + j)
      ≡ fresh_end (length w.members) f.0 name (place_on f.0 new) = new_end j ∙ f.2 in
      record {
        place = j;
        below = lt;
        at = refl;
        wire = f.0;
        has = f.1;
        is = is;
        client = ap (λ (e : EndState). member_at with_client.members e.end.client) is
            ∙ new_member (length w.members) refl;
      }

  by_member : (P : Type 0) (i : ℕ) → i < length with_client.members → (i < length w.members → P)
      → (i ≡ length w.members → P) → P
  by_member P i lt f g = grind (arith, cases_lt, members_size)

  by_end : (P : Type 0) (k : ℕ) → k < length with_client.ends → (k < length w.ends → P)
      → (Own k → P) → P
  by_end P k lt f g = elim (cases_lt k (length w.ends)) [
    | inl old ↦ f old
    | inr later ↦
        let within : k - length w.ends < length fresh = omega (arith, lt, later, ends_size) in
        let same : length w.ends + (k - length w.ends) ≡ k = omega (arith, later) in
        g (subst Own same (own_end (k - length w.ends) within))
  ]

  new_part : MemberPart w.links new
  new_part = record {
    below = λ u has. (news u has).below;
    placed = λ u has. (news u has).named;
    mode = served;
    room = room;
    legal = tt;
    causal = tt;
  }

  new_stable : (u : Wire) → HasWire setup.mode.shape u
      → Ended (fresh_end (length w.members) u name (place_on u new)) new
  new_stable u has =
      let n = link_on u name in
      let e = fresh_end (length w.members) u name (place_on u new) in
      subst (λ r. Stable 0 w.links r (h.said n) e new) (sym (news u has).unread)
      (subst (λ d. Stable 0 w.links [] d e new)
      (sym (h.rest n (news u has).free ∙ (news u has).unsaid)) (
        record {
          member = new_part;
          has = has;
          named = refl;
          place_is = refl;
          got = ([], sym no_values);
        },
        refl,
        (λ going. record { gots_are = sym no_values; reading = values_begun }),
      ))

  each_stable : (k : ℕ) → k < length with_client.ends
      → Ended (end_at with_client.ends k) (client_at with_client k)
  each_stable k lt =
      by_end (Ended (end_at with_client.ends k) (client_at with_client k)) k lt
      (λ old. subst (λ e. Ended e (client_at with_client k)) (sym (old_end k old))
      (subst (Ended (end_at w.ends k)) (sym (old_client k old)) (h.each k old)))
      (λ o. subst (λ e. Ended e (client_at with_client k)) (sym o.is)
      (subst (Ended (fresh_end (length w.members) o.wire name (place_on o.wire new)))
      (sym o.client) (new_stable o.wire o.has)))

  have_clients : HaveClients with_client
  have_clients k lt =
      let e = (end_at with_client.ends k).end in
      by_end ((e.client < length with_client.members)
      × HasWire (client_at with_client k).state.setup.mode.shape e.wire) k lt
      (λ old.
      let c = h.clients k old in (
        (let same = ap (λ (e : EndState). e.end.client) (old_end k old) in
            omega (arith, c.0, same, members_size)),
        subst (λ (m : MemberState). HasWire m.state.setup.mode.shape e.wire)
            (sym (old_client k old))
            (subst (λ (d : EndState). HasWire (client_at w k).state.setup.mode.shape d.end.wire)
            (sym (old_end k old)) c.1),
      ))
      (λ o. (
        (let same = ap (λ (e : EndState). e.end.client) o.is in
            omega (arith, same, members_size)),
        subst (λ (m : MemberState). HasWire m.state.setup.mode.shape e.wire) (sym o.client)
            (subst (λ (d : EndState). HasWire setup.mode.shape d.end.wire) (sym o.is) o.has),
      ))

  have_ends : HaveEnds with_client
  have_ends i lt u has =
      by_member ((k : ℕ) × (k < length with_client.ends)
      × ((end_at with_client.ends k).end.client ≡ i) × ((end_at with_client.ends k).end.wire ≡ u))
      i lt
      (λ old.
      let k = h.ends i old u
      (subst (λ (m : MemberState). HasWire m.state.setup.mode.shape u) (old_member i old) has) in (
        k.0,
        (let b = k.1 in omega (arith, b, ends_size)),
        ap (λ (e : EndState). e.end.client) (old_end k.0 k.1) ∙ k.2,
        ap (λ (e : EndState). e.end.wire) (old_end k.0 k.1) ∙ k.3,
      ))
      (λ last.
      let j = ends_have (length w.members) name main side setup setup.mode.shape u
      (subst (λ (m : MemberState). HasWire m.state.setup.mode.shape u) (new_member i last) has) in
      let is = new_end j.0 ∙ j.2 in (
        length w.ends + j.0,
        (let b = j.1 in omega (arith, b, ends_size)),
        ap (λ (e : EndState). e.end.client) is ∙ sym last,
        ap (λ (e : EndState). e.end.wire) is,
      ))

  old_link : (k : ℕ) → k < length w.ends
      → (end_at with_client.ends k).end.link ≡ (end_at w.ends k).end.link
  old_link k lt = ap (λ (e : EndState). e.end.link) (old_end k lt)

  -- no client had a link of the new one's
  apart : (k j : ℕ) → k < length w.ends → Own j
      → (end_at with_client.ends k).end.link ≡ (end_at with_client.ends j).end.link → ⊥
  apart k j old o e =
      (news o.wire o.has).free k old
      (sym (old_link k old) ∙ e ∙ ap (λ (e : EndState). e.end.link) o.is)

  both_own : (j k : ℕ) → Own j → Own k
      → (end_at with_client.ends k).end.link ≡ (end_at with_client.ends j).end.link → k ≡ j
  both_own j k a b e =
      let link : (i : ℕ) (o : Own i) → (end_at with_client.ends i).end.link
      ≡ (end_at fresh o.place).end.link =
      λ i o. ap (λ n. (end_at with_client.ends n).end.link) o.at
      ∙ ap (λ (e : EndState). e.end.link) (new_end o.place) in
      let same = ends_once (length w.members) name main side setup setup.mode.shape a.place
      b.place a.below b.below (sym (link k b) ∙ e ∙ link j a) in
      omega (arith, same, a.at, b.at)

  distinct : (j k : ℕ) → j < length with_client.ends → k < length with_client.ends
      → (end_at with_client.ends k).end.link ≡ (end_at with_client.ends j).end.link → k ≡ j
  distinct j k lj lk e =
      by_end (k ≡ j) j lj
      (λ old_j. by_end (k ≡ j) k lk
      (λ old_k. h.distinct j k old_j old_k (sym (old_link k old_k) ∙ e ∙ old_link j old_j))
      (λ own_k. absurd (apart j k old_j own_k (sym e))))
      (λ own_j. by_end (k ≡ j) k lk (λ old_k. absurd (apart k j old_k own_j e))
      (λ own_k. both_own j k own_j own_k e))

  joins : WorldStands l heard raw lines with_client
  joins = record {
    said = h.said;
    links = h.links;
    each = each_stable;
    clients = have_clients;
    ends = have_ends;
    distinct = distinct;
    rest = λ n none. h.rest n
        (λ k lt e. none k (omega (arith, lt, ends_size)) (old_link k lt ∙ e));
  }

  join_comes : Comes l heard raw lines (join name main side setup w)
  join_comes =
      meets_stays (λ v ls. WorldStands l heard raw (lines ++ ls) v)
      (λ v ls. WorldPart l raw (lines ++ ls) v) with_client
      (subst (λ x. WorldStands l heard raw x with_client) (sym (append-nil lines)) joins)
      (part_here l heard raw lines with_client joins raw (λ n none. refl))

-- ---- a client is made

-- what holds of a client's links
only_main : (shape : Shape) → shape ≡ Single → (u : Wire) → HasWire shape u → (P : Wire → Type 0)
    → P Main → P u
only_main Single is Main has P p = p
only_main Single is Side has P p = absurd has
only_main Pair is u has P p = absurd (let no : Pair ≡ Single = is in cc)

either_wire : (P : Wire → Type 0) → P Main → P Side → (u : Wire) → P u
either_wire P main side Main = main
either_wire P main side Side = side

-- a step, and what comes behind it
comes_then : (l : Limits) (heard : ℕ → List ℕ) (raw : List ℕ → List ℕ) (lines : List Line)
    (P : WorldState → List Line → Type 0) (m : Stepped) (next : WorldState → Stepped)
    → Meets P (λ v ls. WorldPart l raw (lines ++ ls) v) m
    → (m.fault ≡ None → P m.state m.lines → Comes l heard raw (lines ++ m.lines) (next m.state))
    → Comes l heard raw lines (and_then m next)
comes_then l heard raw lines P m next first then =
    meets_then P (λ v ls. WorldStands l heard raw (lines ++ ls) v)
    (λ v ls. WorldPart l raw (lines ++ ls) v) m next first
    (λ ok p. meets_weaker (λ v ls. WorldStands l heard raw ((lines ++ m.lines) ++ ls) v)
    (λ v ls. WorldStands l heard raw (lines ++ (m.lines ++ ls)) v)
    (λ v ls. WorldPart l raw ((lines ++ m.lines) ++ ls) v)
    (λ v ls. WorldPart l raw (lines ++ (m.lines ++ ls)) v) (next m.state)
    (λ v ls s. subst (λ x. WorldStands l heard raw x v) (append_assoc lines m.lines ls) s)
    (λ v ls s. subst (λ x. WorldPart l raw x v) (append_assoc lines m.lines ls) s) (then ok p))

module _ (l : Limits) (heard : ℕ → List ℕ) (raw : List ℕ → List ℕ) (lines : List Line)
    (w : WorldState) (h : WorldStands l heard raw lines w) where
  -- its links, and the client at them
  connects : (shape : Shape) (name : List ℕ) (setup : Setup) → setup.mode.shape ≡ shape
      → IsClientMode setup.mode → 0 < setup.capacity
      → Comes l heard raw lines (connect shape name setup w)
  connects Single name setup is served room =
      let place = length w.links.links in
      let main = link_on Main name in
      let m = links_step (Raw main) w in
      comes_then l heard raw lines (MadeIn l heard raw lines main w) m (join name place place setup)
      (link_made l heard raw lines w h main)
      (λ ok one.
      let news : (shape : Shape) → shape ≡ Single → (u : Wire) → HasWire shape u
      → IsNew (link_on u name) (place_on u (fresh_member name place place setup)) raw
      (lines ++ m.lines) m.state = λ shape same u has. only_main shape same u has
      (λ u. IsNew (link_on u name) (place_on u (fresh_member name place place setup)) raw
      (lines ++ m.lines) m.state) one.own in
      join_comes l heard raw (lines ++ m.lines) name place place setup served room m.state
      one.stands (news setup.mode.shape is))
  connects Pair name setup is served room =
      let place = length w.links.links in
      let side = link_on Side name in
      let main = link_on Main name in
      let m = links_step (Raw side) w in
      let more = lines ++ m.lines in
      let both : Stepped = and_then m
      (λ v. and_then (links_step (Raw main) v) (join name (place + 1) place setup)) in
      elim (is_some (place_of main w.links)) as (λ b.
      Comes l heard raw lines (cond b (refuses w NameTaken) both)) [
        | true ↦ comes_refused l heard raw lines w h heard raw (λ n none. refl) NameTaken
        | false ↦
            comes_then l heard raw lines (MadeIn l heard raw lines side w) m
            (λ v. and_then (links_step (Raw main) v) (join name (place + 1) place setup))
            (link_made l heard raw lines w h side)
            (λ ok one.
            let n = links_step (Raw main) m.state in
            comes_then l heard raw more (MadeIn l heard raw more main m.state) n
            (join name (place + 1) place setup) (link_made l heard raw more m.state one.stands main)
            (λ ok2 two.
            let News : Wire → Type 0 = λ u. IsNew (link_on u name)
            (place_on u (fresh_member name (place + 1) place setup)) raw (more ++ n.lines)
            n.state in
            let first : News Side = two.others side place one.own in
            let second : News Main =
            subst (λ k. IsNew main k raw (more ++ n.lines) n.state) one.size two.own in
            join_comes l heard raw (more ++ n.lines) name (place + 1) place setup served room
            n.state
            two.stands (λ u has. either_wire News second first u)))
      ]

  pub client_comes : (name : List ℕ) (mode : ClientMode) (capacity : ℕ) → 0 < capacity
      → Comes l heard raw lines (client_step name mode capacity w)
  client_comes name mode capacity room =
      let setup = setup_by w mode capacity in
      let make : Stepped = and_then (does w w []) (connect mode.shape name setup) in
      elim (is_served mode) as (λ b. is_served mode ≡ b → Comes l heard raw lines
      (cond (not b) (refuses w (Refused not_served))
      (cond (is_taken name w) (refuses w NameTaken) make))) [
        | true ↦ λ is. elim (is_taken name w) as (λ b. Comes l heard raw lines
            (cond b (refuses w NameTaken) make)) [
              | true ↦ comes_refused l heard raw lines w h heard raw (λ n none. refl) NameTaken
              | false ↦
                  made_then mode.shape name setup refl (served_mode mode is) room
            ]
        | false ↦ λ is.
            comes_refused l heard raw lines w h heard raw (λ n none. refl) (Refused not_served)
      ] refl
    where
      here : WorldPart l raw (lines ++ []) w
      here = part_here l heard raw lines w h raw (λ n free. refl)

      made_then : (shape : Shape) (name : List ℕ) (setup : Setup) → setup.mode.shape ≡ shape
          → IsClientMode setup.mode → 0 < setup.capacity
          → Comes l heard raw lines (and_then (does w w []) (connect shape name setup))
      made_then shape name setup is served room =
          meets_then (λ v ls. (v ≡ w) × (ls ≡ [])) (λ v ls. WorldStands l heard raw (lines ++ ls) v)
          (λ v ls. WorldPart l raw (lines ++ ls) v) (does w w []) (connect shape name setup)
          (meets_does (λ v ls. (v ≡ w) × (ls ≡ [])) (λ v ls. WorldPart l raw (lines ++ ls) v) w w []
          (refl, refl) here here)
          (λ ok same. connects shape name setup is served room)
