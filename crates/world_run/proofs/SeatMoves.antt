-- A client's moves one by one: an event of the links, a change of what it has read, a turn.
use Rattle.std.proofs.Common.{◌≡◌, ◌<◌, ℕ, List, [], ◌++◌, false, cond, None, length, refl, sym, ap}
use Rattle.std.proofs.Common.{subst, ◌∙◌, arith, append-nil, length-set}
use Rattle.std.specs.Prelude.{slice_set}
use Rattle.std.specs.Str.{bytes_eq}
use Rattle.std.proofs.lemmas.List.{get_or-set_same, get_or-set_other, set-get_or}
use Rattle.serial_model.specs.declared.history.Limits.{Limits}
use Rattle.resp_stream.specs.Stream.{Stream}
use Rattle.shared_cache.specs.declared.log.Wire.{Wire}
use Rattle.shared_cache.specs.declared.log.Wire.TheVariants.{Main}
use Rattle.shared_cache.specs.Held.{Setup}
use Rattle.shared_cache.specs.Log.{HasWire}
use Rattle.script_text.specs.declared.line.Line.{Line}
use Rattle.server_links.specs.LinkEvent.{LinkEvent}
use Rattle.server_links.specs.LinksState.{LinksState}
use Rattle.server_links.specs.LinkSteps.{step}
use Rattle.server_links.specs.OneHistory.{read_on, said_by}
use Rattle.server_links.specs.Transcript.{heard_at}
use Rattle.server_links.proofs.LinksStand.{not_equal, stands_part}
use Rattle.server_links.proofs.Names.{names_itself}
use Rattle.server_links.proofs.Outcomes.{meets_weaker, meets_within}
use Rattle.world_run.specs.WorldState.{EndState, HaveClients, LinkEnd, MemberState, WorldState}
use Rattle.world_run.specs.WorldState.{client_at, end_at, fresh_end, fresh_member, member_at}
use Rattle.world_run.specs.WorldState.{HaveEnds, link_on, no_setup}
use Rattle.world_run.specs.Members.{Seat, links_do, seat_at, with_seat}
use Rattle.world_run.specs.Members as members
use Rattle.world_run.specs.MemberTurns.{Turned}
use Rattle.world_run.specs.WorldHistory.{taken_bytes}
use Rattle.world_run.specs.World as world
use Rattle.world_run.proofs.Links.{name_of_event, step_moved}
use Rattle.world_run.proofs.Members.{EndPart}
use Rattle.world_run.proofs.Seats.{IsEnd, One, OtherKept, Plain, Seating, Working, by_place}
use Rattle.world_run.proofs.Seats.{other_stays, parts_longer, stands_lines, unread}
use Rattle.world_run.proofs.Worlds.{Holds, NoneHas, Reads, Stable, WorldPart, linked}

-- ---- an event of the links

pub said_other : (event : LinkEvent) (n : List ℕ) → bytes_eq (name_of_event event) n ≡ false
    → said_by n event ≡ []
unfolding name_of_event
said_other event n e = grind arith

-- nothing is said or read by it on a link of that name
pub record Passes (ls : LinksState) (event : LinkEvent) (name : List ℕ) : Type 0 where
  pub said : said_by name event ≡ []
  pub reads : (step ls event).fault ≡ None → read_on name (step ls event).lines ≡ []

pub passes_other : (ls : LinksState) (event : LinkEvent) (name : List ℕ)
    → (name_of_event event ≡ name → ⊥) → Passes ls event name
passes_other ls event name n =
    let differs = not_equal (name_of_event event) name n in
    record {
      said = said_other event name differs;
      reads = λ none. ((step_moved ls event).ends none).mute name differs;
    }

module _ (l : Limits) (heard : ℕ → List ℕ) (raw : List ℕ → List ℕ) (at : ℕ) (pend : List ℕ)
    (R Q : Working) (lines : List Line) (w : WorldState)
    (h : Holds l heard raw (Seating at pend R) lines w) (below : IsEnd at w)
    (event : LinkEvent)
    (passes : (k : ℕ) → k < length w.ends → (k ≡ at → ⊥)
    → Passes w.links event (end_at w.ends k).end.link)
    (silent : (name : List ℕ) → NoneHas w name → said_by name event ≡ [])
    (puts : said_by (end_at w.ends at).end.link event ≡ pend)
    (keeps : let e = end_at w.ends at in
    let name = e.end.link in
    let m = client_at w at in
    let ls = (step w.links event).lines in
    (step w.links event).fault ≡ None → R w.links (read_on name lines) e m
    → Q (step w.links event).state (read_on name lines ++ read_on name ls) e m) where
  part : (k : ℕ) → k < length w.ends → let e = (end_at w.ends k).end in
      EndPart w.links (read_on e.link lines) e (client_at w k)
  part k lt =
      let e = (end_at w.ends k).end in
      by_place (EndPart w.links (read_on e.link lines) e (client_at w k)) k at
      (λ i. ((h.each k lt).0 i).0) (λ n. ((h.each k lt).1 n).0)

  takes : (k : ℕ) → k < length w.ends → let e = (end_at w.ends k).end in
      h.said e.link ++ said_by e.link event ≡ taken_bytes e.wire (client_at w k)
  takes k lt =
      let e = (end_at w.ends k).end in
      by_place (h.said e.link ++ said_by e.link event ≡ taken_bytes e.wire (client_at w k)) k at
      (λ i. ap (λ x. h.said e.link ++ x)
      (ap (λ j. said_by (end_at w.ends j).end.link event) i ∙ puts) ∙ ((h.each k lt).0 i).1)
      (λ n. ap (λ x. h.said e.link ++ x) (passes k lt n).said ∙ append-nil (h.said e.link)
      ∙ ((h.each k lt).1 n).1)

  says : (name : List ℕ) → NoneHas w name → raw name ++ said_by name event ≡ raw name
  says name none = ap (λ x. raw name ++ x) (silent name none) ∙ append-nil (raw name)

  moves : (k : ℕ) → k < length w.ends → let e = end_at w.ends k in
      let name = e.end.link in
      let v = (step w.links event).state in
      let ls = (step w.links event).lines in
      (step w.links event).fault ≡ None
      → EndPart v (read_on name lines ++ read_on name ls) e.end (client_at w k)
      → Seating at [] Q k v (read_on name lines ++ read_on name ls)
      (h.said name ++ said_by name event) e (client_at w k)
  moves k lt none p =
      let e = end_at w.ends k in
      let name = e.end.link in
      let m = client_at w k in
      let ls = (step w.links event).lines in (
        λ i. (
          p,
          append-nil (h.said name ++ said_by name event) ∙ takes k lt,
          subst (λ j. let e = end_at w.ends j in
              let name = e.end.link in
              R w.links (read_on name lines) e (client_at w j)
              → Q (step w.links event).state (read_on name lines ++ read_on name ls) e
              (client_at w j))
              (sym i) (keeps none) ((h.each k lt).0 i).2,
        ),
        λ n. (
          p,
          takes k lt,
          subst (λ r. Reads r e m)
              (sym (append-nil (read_on name lines))
              ∙ ap (λ x. read_on name lines ++ x) (sym ((passes k lt n).reads none)))
              ((h.each k lt).1 n).2,
        ),
      )

  same_world : (v : LinksState)
      → world.on_links w v ≡ with_seat at w (members.with_links (seat_at at w) v)
  same_world v =
      let c = (end_at w.ends at).end.client in
      let ms : w.members ≡ slice_set w.members c (client_at w at) =
      sym (set-get_or w.members c (fresh_member [] 0 0 no_setup)) in
      let es : w.ends ≡ slice_set w.ends at (end_at w.ends at) =
      sym (set-get_or w.ends at (fresh_end 0 Main [] 0)) in
      λ i. record w { links = v; members = ms i; ends = es i }

  pub seat_moved : One l raw at
      (λ ls u. Holds l (λ i. heard i ++ heard_at w.links i event) raw (Seating at [] Q) ls u)
      lines w (links_do event (seat_at at w))
  unfolding links_do
  seat_moved =
      let H : List Line → WorldState → Type 0 = λ ls u.
      Holds l (λ i. heard i ++ heard_at w.links i event) raw (Seating at [] Q) ls u in
      meets_within (members.with_links (seat_at at w)) (λ u ls. H (lines ++ ls) (with_seat at w u))
      (λ u ls. WorldPart l raw (lines ++ ls) (with_seat at w u)) (step w.links event)
      (meets_weaker (λ v ls. H (lines ++ ls) (world.on_links w v))
      (λ v ls. H (lines ++ ls) (with_seat at w (members.with_links (seat_at at w) v)))
      (λ v ls. WorldPart l raw (lines ++ ls) (world.on_links w v))
      (λ v ls. WorldPart l raw (lines ++ ls)
      (with_seat at w (members.with_links (seat_at at w) v)))
      (step w.links event)
      (λ v ls. subst (H (lines ++ ls)) (same_world v))
      (λ v ls. subst (WorldPart l raw (lines ++ ls)) (same_world v))
      (linked l heard raw raw (Seating at pend R) (Seating at [] Q) lines w h event part takes says
      moves))

-- an event of the client's own link
module _ (l : Limits) (heard : ℕ → List ℕ) (raw : List ℕ → List ℕ) (at : ℕ) (pend : List ℕ)
    (R Q : Working) (lines : List Line) (w : WorldState)
    (h : Holds l heard raw (Seating at pend R) lines w) (below : IsEnd at w)
    (event : LinkEvent)
    (own : name_of_event event ≡ (end_at w.ends at).end.link)
    (puts : said_by (end_at w.ends at).end.link event ≡ pend)
    (keeps : let e = end_at w.ends at in
    let name = e.end.link in
    let m = client_at w at in
    let ls = (step w.links event).lines in
    (step w.links event).fault ≡ None → R w.links (read_on name lines) e m
    → Q (step w.links event).state (read_on name lines ++ read_on name ls) e m) where
  pub seat_linked : One l raw at
      (λ ls u. Holds l (λ i. heard i ++ heard_at w.links i event) raw (Seating at [] Q) ls u)
      lines w (links_do event (seat_at at w))
  seat_linked =
      seat_moved l heard raw at pend R Q lines w h below event
      (λ k lt n. passes_other w.links event (end_at w.ends k).end.link
      (λ e. n (h.distinct at k below.0 lt (sym e ∙ own))))
      (λ name none. (passes_other w.links event name (λ e. none at below.0 (sym own ∙ e))).said)
      puts keeps

-- ---- the client changes at its end of one link, and that link does not

module _ (l : Limits) (heard : ℕ → List ℕ) (raw : List ℕ → List ℕ) (at : ℕ) (pend more : List ℕ)
    (R Q : Working) (lines : List Line) (w : WorldState)
    (h : Holds l heard raw (Seating at pend R) lines w) (below : IsEnd at w)
    (new : MemberState) (reader : Stream) (turned : Turned (client_at w at) new)
    (part : let e = (end_at w.ends at).end in EndPart w.links (read_on e.link lines) e new)
    (took : let e = (end_at w.ends at).end in h.said e.link ++ more ≡ taken_bytes e.wire new)
    (others : (u : Wire) → (u ≡ (end_at w.ends at).end.wire → ⊥)
    → OtherKept u (client_at w at) new)
    (ls : List Line) (plain : Plain ls) where
  abbrev pub own_end : LinkEnd
  own_end = (end_at w.ends at).end

  -- the end of the client at work
  abbrev pub working : EndState
  working = record { end = own_end; reader = reader }

  abbrev pub changed : WorldState
  changed = with_seat at w (record { links = w.links; member = new; reader = reader })

  mine : end_at changed.ends at ≡ working
  mine = get_or-set_same w.ends at working (fresh_end 0 Main [] 0) below.0

  theirs : (k : ℕ) → (k ≡ at → ⊥) → end_at changed.ends k ≡ end_at w.ends k
  theirs k n = get_or-set_other w.ends at k working (fresh_end 0 Main [] 0) n

  end_is : (k : ℕ) → (end_at changed.ends k).end ≡ (end_at w.ends k).end
  end_is k =
      by_place ((end_at changed.ends k).end ≡ (end_at w.ends k).end) k at
      (λ i. ap (λ j. (end_at changed.ends j).end) i ∙ ap (λ (x : EndState). x.end) mine
      ∙ ap (λ j. (end_at w.ends j).end) (sym i))
      (λ n. ap (λ (x : EndState). x.end) (theirs k n))

  size : length changed.ends ≡ length w.ends
  size = length-set w.ends at working

  count : length changed.members ≡ length w.members
  count = length-set w.members own_end.client new

  new_member : (i : ℕ) → i ≡ own_end.client → member_at changed.members i ≡ new
  new_member i e =
      ap (member_at changed.members) e
      ∙ get_or-set_same w.members own_end.client new (fresh_member [] 0 0 no_setup) below.1

  old_member : (i : ℕ) → (i ≡ own_end.client → ⊥)
      → member_at changed.members i ≡ member_at w.members i
  old_member i n =
      get_or-set_other w.members own_end.client i new (fresh_member [] 0 0 no_setup) n

  -- what holds of each end then: of the one at work, of another of that client, and of the rest
  each_end : (P : ℕ → EndState → MemberState → Type 0) → P at working new
      → ((k : ℕ) → k < length w.ends → (k ≡ at → ⊥)
      → (end_at w.ends k).end.client ≡ own_end.client → P k (end_at w.ends k) new)
      → ((k : ℕ) → k < length w.ends → (k ≡ at → ⊥) → P k (end_at w.ends k) (client_at w k))
      → (k : ℕ) → k < length changed.ends → P k (end_at changed.ends k) (client_at changed k)
  each_end P own same other k lt =
      let was : k < length w.ends = omega (arith, lt, size) in
      let e = end_at changed.ends k in
      let client_is : e.end.client ≡ (end_at w.ends k).end.client =
      ap (λ (x : LinkEnd). x.client) (end_is k) in
      by_place (P k e (client_at changed k)) k at
      (λ i. subst (λ j. P j (end_at changed.ends j) (client_at changed j)) (sym i)
      (subst (λ x. P at x (member_at changed.members x.end.client)) (sym mine)
      (subst (P at working) (sym (new_member own_end.client refl)) own)))
      (λ n. subst (λ x. P k x (member_at changed.members x.end.client)) (sym (theirs k n))
      (by_place (P k (end_at w.ends k) (member_at changed.members (end_at w.ends k).end.client))
      (end_at w.ends k).end.client own_end.client
      (λ c. subst (P k (end_at w.ends k)) (sym (new_member (end_at w.ends k).end.client c))
      (same k was n c))
      (λ d. subst (P k (end_at w.ends k)) (sym (old_member (end_at w.ends k).end.client d))
      (other k was n))))

  setup_is : (i : ℕ) → (member_at changed.members i).state.setup
      ≡ (member_at w.members i).state.setup
  setup_is i =
      by_place ((member_at changed.members i).state.setup ≡ (member_at w.members i).state.setup) i
      own_end.client
      (λ c. ap (λ (m : MemberState). m.state.setup) (new_member i c) ∙ turned.setup
      ∙ ap (λ j. (member_at w.members j).state.setup) (sym c))
      (λ d. ap (λ (m : MemberState). m.state.setup) (old_member i d))

  clients : HaveClients changed
  clients k lt =
      let was = h.clients k (omega (arith, lt, size)) in
      let c = (end_at w.ends k).end.client in
      let there : c < length changed.members = omega (arith, was.0, count) in
      subst (λ (e : LinkEnd). (e.client < length changed.members)
      × HasWire (member_at changed.members e.client).state.setup.mode.shape e.wire)
      (sym (end_is k)) (
        there,
        subst (λ (s : Setup). HasWire s.mode.shape (end_at w.ends k).end.wire)
            (sym (setup_is c)) was.1,
      )

  ends : HaveEnds changed
  ends i lt u has =
      let was = h.ends i (omega (arith, lt, count)) u
      (subst (λ (s : Setup). HasWire s.mode.shape u) (setup_is i) has) in (
        was.0,
        (let b = was.1 in omega (arith, b, size)),
        ap (λ (e : LinkEnd). e.client) (end_is was.0) ∙ was.2,
        ap (λ (e : LinkEnd). e.wire) (end_is was.0) ∙ was.3,
      )

  link_is : (k : ℕ) → (end_at changed.ends k).end.link ≡ (end_at w.ends k).end.link
  link_is k = ap (λ (e : LinkEnd). e.link) (end_is k)

  apart : (j k : ℕ) → j < length changed.ends → k < length changed.ends
      → (end_at changed.ends k).end.link ≡ (end_at changed.ends j).end.link → k ≡ j
  apart j k lj lk e =
      h.distinct j k (omega (arith, lj, size)) (omega (arith, lk, size))
      (sym (link_is k) ∙ e ∙ link_is j)

  nowhere : (name : List ℕ) → NoneHas changed name → NoneHas w name
  nowhere name none k lt e = none k (omega (arith, lt, size)) (link_is k ∙ e)

  -- the other ends of the client
  other_end : (k : ℕ) → k < length w.ends → (k ≡ at → ⊥)
      → (end_at w.ends k).end.client ≡ own_end.client → let e = end_at w.ends k in
      Stable k w.links (read_on e.end.link lines) (h.said e.end.link) e new
  other_end k lt n c =
      let e = end_at w.ends k in
      let name = e.end.link in
      let p : Stable k w.links (read_on name lines) (h.said name) e (client_at w at) =
      subst (λ i. Stable k w.links (read_on name lines) (h.said name) e (member_at w.members i)) c
      ((h.each k lt).1 n) in
      let differs : e.end.wire ≡ own_end.wire → ⊥ = λ same.
      n (h.distinct at k below.0 lt
      (p.0.named ∙ ap (λ u. link_on u (client_at w at).name) same
      ∙ ap (link_on own_end.wire) (sym turned.name) ∙ sym part.named)) in
      other_stays k w.links (read_on name lines) (h.said name) e (client_at w at) new turned
      part.member (others e.end.wire differs) p

  -- with these bytes still to be put
  abbrev put_later : List ℕ → List ℕ
  put_later name = h.said name ++ cond (bytes_eq own_end.link name) more []

  own_later : put_later own_end.link ≡ taken_bytes own_end.wire new
  own_later =
      ap (λ b. h.said own_end.link ++ cond b more []) (names_itself own_end.link own_end.link refl)
      ∙ took

  put_as_before : (name : List ℕ) → (own_end.link ≡ name → ⊥) → put_later name ≡ h.said name
  put_as_before name n =
      ap (λ b. h.said name ++ cond b more []) (not_equal own_end.link name n)
      ∙ append-nil (h.said name)

  later : (k : ℕ) → k < length w.ends → (k ≡ at → ⊥) → let name = (end_at w.ends k).end.link in
      put_later name ≡ h.said name
  later k lt n =
      put_as_before (end_at w.ends k).end.link (λ e. n (h.distinct at k below.0 lt (sym e)))

  -- nothing was read of what is printed
  read_is : (name : List ℕ) → read_on name lines ≡ read_on name (lines ++ ls)
  read_is name = sym (unread name lines ls plain.mute)

  pub changed_part : WorldPart l raw (lines ++ ls) changed
  changed_part =
      let old = stands_part l heard h.said (lines ++ ls) w.links
      (stands_lines l heard h.said lines ls w.links plain h.links) in
      record {
        said = put_later;
        links = parts_longer l h.said put_later (lines ++ ls) w.links
            (λ name. (cond (bytes_eq own_end.link name) more [], refl)) old;
        unique = h.links.unique;
        each = each_end (λ k e m. EndPart w.links (read_on e.end.link (lines ++ ls)) e.end m)
            (subst (λ r. EndPart w.links r own_end new) (read_is own_end.link) part)
            (λ k lt n c. let e = (end_at w.ends k).end in
            subst (λ r. EndPart w.links r e new) (read_is e.link) (other_end k lt n c).0)
            (λ k lt n. let e = (end_at w.ends k).end in
            subst (λ r. EndPart w.links r e (client_at w k)) (read_is e.link)
            ((h.each k lt).1 n).0);
        taken = each_end (λ k e m. put_later e.end.link ≡ taken_bytes e.end.wire m) own_later
            (λ k lt n c. later k lt n ∙ (other_end k lt n c).1)
            (λ k lt n. later k lt n ∙ ((h.each k lt).1 n).1);
        clients = clients;
        ends = ends;
        distinct = apart;
        rest = λ name none.
            put_as_before name (nowhere name none at below.0)
            ∙ h.rest name (nowhere name none);
      }

  pub changed_holds : Q w.links (read_on own_end.link lines) working new
      → Holds l heard raw (Seating at more Q) (lines ++ ls) changed
  changed_holds q = record {
    said = h.said;
    links = stands_lines l heard h.said lines ls w.links plain h.links;
    each = each_end
        (λ k e m.
        Seating at more Q k w.links (read_on e.end.link (lines ++ ls)) (h.said e.end.link) e m) (
          λ i. subst (λ r. EndPart w.links r own_end new
              × (h.said own_end.link ++ more ≡ taken_bytes own_end.wire new)
              × Q w.links r working new) (read_is own_end.link) (part, took, q),
          λ n. absurd (n refl),
        )
        (λ k lt n c. let e = end_at w.ends k in (
          λ i. absurd (n i),
          λ d. subst (λ r. Stable k w.links r (h.said e.end.link) e new) (read_is e.end.link)
              (other_end k lt n c),
        ))
        (λ k lt n. let e = end_at w.ends k in (
          λ i. absurd (n i),
          λ d. subst (λ r. Stable k w.links r (h.said e.end.link) e (client_at w k))
              (read_is e.end.link) ((h.each k lt).1 n),
        ));
    clients = clients;
    ends = ends;
    distinct = apart;
    rest = λ name none. h.rest name (nowhere name none);
  }
