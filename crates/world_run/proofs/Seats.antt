-- One client's moves in a world: what holds while the client is at work, and all the others stand.
use Rattle.std.proofs.Common.{◌≡◌, ◌+◌, ◌<◌, ℕ, zero, suc, List, [], ◌∷◌, ◌++◌, false, None}
use Rattle.std.proofs.Common.{length, filter, map, refl, sym, ap, subst, ◌∙◌, arith, append_assoc}
use Rattle.std.proofs.Common.{append-nil, length-set}
use Rattle.std.specs.Prelude.{slice_set}
use Rattle.std.proofs.lemmas.List.{get_or-set_same}
use Rattle.resp_value.specs.Lists.{IsPrefix}
use Rattle.resp_value.specs.ValueTree.{tree_of}
use Rattle.resp_stream.specs.Parse.{values_of}
use Rattle.serial_model.specs.declared.history.Limits.{Limits}
use Rattle.shared_cache.specs.declared.log.Wire.{Wire}
use Rattle.shared_cache.specs.declared.log.Wire.TheVariants.{Main, Side}
use Rattle.shared_cache.specs.ClientFields.{IsClientMode}
use Rattle.shared_cache.specs.Held.{Setup}
use Rattle.shared_cache.specs.Laws.{LegalLog, gots}
use Rattle.shared_cache.specs.Log.{HasWire, is_ended}
use Rattle.currency.specs.Links.{IsCausal}
use Rattle.script_text.specs.declared.line.Line.{Line}
use Rattle.server_links.specs.EntryLines.{is_entry_line}
use Rattle.server_links.specs.LinksState.{LinksState, at_place}
use Rattle.server_links.specs.OneHistory.{read_on}
use Rattle.server_links.specs.Outcome.{Outcome, and_then}
use Rattle.server_links.specs.Session.{session_at}
use Rattle.server_links.proofs.Accounts.{Part, Account}
use Rattle.server_links.proofs.Carries.{read_more, entries_more}
use Rattle.server_links.proofs.LinksStand.{Stands, PartStands}
use Rattle.server_links.proofs.Outcomes.{Meets, meets_then, meets_weaker}
use Rattle.world_run.specs.WorldState.{EndState, LinkEnd, MemberState, WorldState, client_at}
use Rattle.world_run.specs.WorldState.{end_at, fresh_end, fresh_member, link_on, member_at}
use Rattle.world_run.specs.WorldState.{no_setup, place_on}
use Rattle.world_run.specs.Members.{Seat, client_of, seat_at, with_seat}
use Rattle.world_run.specs.MemberTurns.{Turned}
use Rattle.world_run.specs.WorldHistory.{taken_bytes}
use Rattle.world_run.proofs.Links.{Mute}
use Rattle.world_run.proofs.Members.{EndPart, MemberPart}
use Rattle.world_run.proofs.Worlds.{Each, Holds, Reads, Stable, WorldPart}

-- what is said of the end of the client at work, of the links and what was read on its own
abbrev pub Working : Type 1
Working = LinksState → List ℕ → EndState → MemberState → Type 0

-- the client at the end of this place has taken out these bytes, which are not put on its link yet
abbrev pub Seating : ℕ → List ℕ → Working → Each
Seating at pend R k ls read said e m =
    (k ≡ at → EndPart ls read e.end m × (said ++ pend ≡ taken_bytes e.end.wire m) × R ls read e m)
    × ((k ≡ at → ⊥) → Stable k ls read said e m)

abbrev pub Steady : Working
Steady ls read e m = Reads read e m

pub by_place : (P : Type 0) (i at : ℕ) → (i ≡ at → P) → ((i ≡ at → ⊥) → P) → P
by_place P i at f g = grind arith

-- ---- a world between two moves

pub seated : (l : Limits) (heard : ℕ → List ℕ) (raw : List ℕ → List ℕ) (at : ℕ)
    (lines : List Line) (w : WorldState) → Holds l heard raw Stable lines w
    → Holds l heard raw (Seating at [] Steady) lines w
seated l heard raw at lines w h = record {
  said = h.said;
  links = h.links;
  each = λ k lt. let p = h.each k lt in (
    (λ e. (p.0, append-nil (h.said (end_at w.ends k).end.link) ∙ p.1, p.2)),
    (λ n. p),
  );
  clients = h.clients;
  ends = h.ends;
  distinct = h.distinct;
  rest = h.rest;
}

pub unseated : (l : Limits) (heard : ℕ → List ℕ) (raw : List ℕ → List ℕ) (at : ℕ)
    (lines : List Line) (w : WorldState) → Holds l heard raw (Seating at [] Steady) lines w
    → Holds l heard raw Stable lines w
unseated l heard raw at lines w h = record {
  said = h.said;
  links = h.links;
  each = λ k lt.
      let e = end_at w.ends k in
      let name = e.end.link in
      let p = h.each k lt in
      by_place (Stable k w.links (read_on name lines) (h.said name) e (client_at w k)) k at
      (λ i. let q = p.0 i in (q.0, sym (append-nil (h.said name)) ∙ q.1, q.2))
      p.1;
  clients = h.clients;
  ends = h.ends;
  distinct = h.distinct;
  rest = h.rest;
}

-- ---- the client changes, and its other link does not

-- what a turn of the client at its end of one link leaves of its other
pub record OtherKept (u : Wire) (old new : MemberState) : Type 0 where
  pub gots_are : gots u new.state.past ≡ gots u old.state.past
  pub going : is_ended new.state.setup.mode u new.state.past ≡ false
      → is_ended old.state.setup.mode u old.state.past ≡ false
  pub taken_is : taken_bytes u new ≡ taken_bytes u old

same_place : (u : Wire) (old new : MemberState) → Turned old new
    → place_on u new ≡ place_on u old
same_place Main old new t = t.main
same_place Side old new t = t.side

same_client : (old new : MemberState) → Turned old new → client_of new ≡ client_of old
same_client old new t =
    λ i. record { setup = t.setup i; id = λ u. same_place u old new t i + 1 }

pub member_turned : (ls : LinksState) (old new : MemberState) → Turned old new
    → LegalLog new.state.setup new.state.past
    → IsCausal ls.limits (client_of old) ls.past new.state.past → MemberPart ls old
    → MemberPart ls new
member_turned ls old new t legal causal p =
    let had : (u : Wire) → HasWire new.state.setup.mode.shape u
    → HasWire old.state.setup.mode.shape u =
    λ u. subst (λ (s : Setup). HasWire s.mode.shape u) t.setup in
    record {
      below = λ u has.
          subst (λ n. n < length ls.links) (sym (same_place u old new t)) (p.below u (had u has));
      placed = λ u has.
          ap (λ n. (at_place ls.links n).name) (same_place u old new t) ∙ p.placed u (had u has)
          ∙ ap (link_on u) (sym t.name);
      mode = subst (λ (s : Setup). IsClientMode s.mode) (sym t.setup) p.mode;
      room = subst (λ (s : Setup). 0 < s.capacity) (sym t.setup) p.room;
      legal = legal;
      causal =
          subst (λ x. IsCausal ls.limits x ls.past new.state.past) (sym (same_client old new t))
          causal;
    }

pub end_turned : (ls : LinksState) (read : List ℕ) (e : LinkEnd) (old new : MemberState)
    → Turned old new → MemberPart ls new
    → IsPrefix (map tree_of (gots e.wire new.state.past)) (values_of read)
    → EndPart ls read e old → EndPart ls read e new
end_turned ls read e old new t member got p = record {
  member = member;
  has = subst (λ (s : Setup). HasWire s.mode.shape e.wire) (sym t.setup) p.has;
  named = p.named ∙ ap (link_on e.wire) (sym t.name);
  place_is = p.place_is ∙ sym (same_place e.wire old new t);
  got = got;
}

pub other_stays : (k : ℕ) (ls : LinksState) (read said : List ℕ) (e : EndState)
    (old new : MemberState) → Turned old new → MemberPart ls new → OtherKept e.end.wire old new
    → Stable k ls read said e old → Stable k ls read said e new
other_stays k ls read said e old new t member o p = (
  end_turned ls read e.end old new t member
      (subst (λ x. IsPrefix (map tree_of x) (values_of read)) (sym o.gots_are) p.0.got) p.0,
  p.1 ∙ sym o.taken_is,
  λ going.
      let q = p.2 (o.going going) in
      record { gots_are = ap (map tree_of) o.gots_are ∙ q.gots_are; reading = q.reading },
)

-- ---- lines of clients

-- no line of an entry, and nothing that was read
pub record Plain (ls : List Line) : Type 0 where
  pub no_entry : filter is_entry_line ls ≡ []
  pub mute : Mute ls

pub unread : (name : List ℕ) (lines ls : List Line) → Mute ls
    → read_on name (lines ++ ls) ≡ read_on name lines
unfolding Mute
unread name lines ls m =
    read_more name lines ls ∙ ap (λ x. read_on name lines ++ x) (m name)
    ∙ append-nil (read_on name lines)

pub stands_lines : (l : Limits) (heard : ℕ → List ℕ) (said : List ℕ → List ℕ) (lines ls : List Line)
    (v : LinksState) → Plain ls → Stands l heard said lines v → Stands l heard said (lines ++ ls) v
stands_lines l heard said lines ls v p s = record {
  history = record {
    limits = s.history.limits;
    legal = s.history.legal;
    links = s.history.links;
    ids = s.history.ids;
    printed = entries_more lines ls ∙ ap (λ x. filter is_entry_line lines ++ x) p.no_entry
        ∙ append-nil (filter is_entry_line lines) ∙ s.history.printed;
  };
  unique = s.unique;
  accounts = λ i lt. let name = (at_place v.links i).name in
      subst (λ r. Account (heard i) (said name) r (session_at i v))
      (sym (unread name lines ls p.mute)) (s.accounts i lt);
  unread = λ name none. unread name lines ls p.mute ∙ s.unread name none;
  unsaid = s.unsaid;
  unheard = s.unheard;
}

-- more may have been put on a link than is known of
pub parts_longer : (l : Limits) (said said' : List ℕ → List ℕ) (lines : List Line) (v : LinksState)
    → ((name : List ℕ) → IsPrefix (said name) (said' name)) → PartStands l said lines v
    → PartStands l said' lines v
unfolding Part
parts_longer l said said' lines v more s = record {
  history = s.history;
  parts = λ i lt.
      let name = (at_place v.links i).name in
      let p = s.parts i lt in
      record {
        heard = p.heard;
        up = record {
          lost = p.up.lost ++ (more name).0;
          all_said = sym (append_assoc (p.heard ++ (at_place v.links i).up.bytes) p.up.lost
              (more name).0) ∙ ap (λ x. x ++ (more name).0) p.up.all_said ∙ (more name).1;
        };
        down = p.down;
        runs_front = p.runs_front;
      };
  unread = s.unread;
}

-- ---- the client's place

set_twice : {A : Type 0} (xs : List A) (at : ℕ) (x y : A)
    → slice_set (slice_set xs at x) at y ≡ slice_set xs at y
set_twice [] at e y = refl
set_twice (z ∷ xs) zero e y = refl
set_twice (z ∷ xs) (suc at) x y = ap (λ l. z ∷ l) (set_twice xs at x y)

-- an end of a client
abbrev pub IsEnd : ℕ → WorldState → Type 0
IsEnd at w = (at < length w.ends) × ((end_at w.ends at).end.client < length w.members)

module _ (at : ℕ) (w : WorldState) (below : IsEnd at w) where
  -- the end there is the same one
  pub end_back : (s : Seat)
      → end_at (with_seat at w s).ends at
      ≡ record { end = (end_at w.ends at).end; reader = s.reader }
  end_back s =
      get_or-set_same w.ends at (record { end = (end_at w.ends at).end; reader = s.reader })
      (fresh_end 0 Main [] 0) below.0

  pub seat_back : (s : Seat) → seat_at at (with_seat at w s) ≡ s
  seat_back s =
      let members = (with_seat at w s).members in
      let c = (end_at w.ends at).end.client in
      let back : member_at members (end_at (with_seat at w s).ends at).end.client ≡ s.member =
      ap (λ (e : EndState). member_at members e.end.client) (end_back s)
      ∙ get_or-set_same w.members c s.member (fresh_member [] 0 0 no_setup) below.1 in
      λ i. record {
        links = s.links;
        member = back i;
        reader = (end_back s i).reader;
      }

  pub still_below : (s : Seat) → IsEnd at (with_seat at w s)
  still_below s = (
    omega (
      arith,
      below.0,
      length-set w.ends at (record { end = (end_at w.ends at).end; reader = s.reader }),
    ),
    subst (λ (e : EndState). e.end.client < length (with_seat at w s).members)
        (sym (end_back s))
        (omega (arith, below.1, length-set w.members (end_at w.ends at).end.client s.member)),
  )

  pub seat_twice : (s t : Seat) → with_seat at (with_seat at w s) t ≡ with_seat at w t
  seat_twice s t =
      let e = (end_at w.ends at).end in
      let set : EndState = record { end = e; reader = s.reader } in
      let c = e.client in
      let members : slice_set (slice_set w.members c s.member)
      (end_at (with_seat at w s).ends at).end.client t.member ≡ slice_set w.members c t.member =
      ap (λ (x : EndState). slice_set (slice_set w.members c s.member) x.end.client t.member)
      (end_back s)
      ∙ set_twice w.members c s.member t.member in
      let last : EndState = record { end = e; reader = t.reader } in
      let again : EndState =
      record { end = (end_at (with_seat at w s).ends at).end; reader = t.reader } in
      let same : again ≡ last =
      λ i. record { end = (end_back s i).end; reader = t.reader } in
      let ends : slice_set (slice_set w.ends at set) at again ≡ slice_set w.ends at last =
      ap (slice_set (slice_set w.ends at set) at) same ∙ set_twice w.ends at set last in
      λ i. record w { links = t.links; members = members i; ends = ends i }

-- ---- one move after another

abbrev pub One : Limits → (List ℕ → List ℕ) → ℕ → (List Line → WorldState → Type 0)
    → List Line → WorldState → Outcome Seat → Type 0
One l raw at Q lines w m =
    Meets (λ u ls. Q (lines ++ ls) (with_seat at w u))
    (λ u ls. WorldPart l raw (lines ++ ls) (with_seat at w u)) m

module _ (l : Limits) (raw : List ℕ → List ℕ) (at : ℕ) (P Q : List Line → WorldState → Type 0)
    (lines : List Line) (w : WorldState) (below : IsEnd at w) where
  again : (R : List Line → WorldState → Type 0) (s t : Seat) (xs ys : List Line)
      → R ((lines ++ xs) ++ ys) (with_seat at (with_seat at w s) t)
      → R (lines ++ (xs ++ ys)) (with_seat at w t)
  again R s t xs ys r =
      subst (λ x. R x (with_seat at w t)) (append_assoc lines xs ys)
      (subst (R ((lines ++ xs) ++ ys)) (seat_twice at w below s t) r)

  -- the next move is at the same end
  pub one_then : (m : Outcome Seat) (next : LinkEnd → Seat → Outcome Seat)
      → One l raw at P lines w m
      → (let u = with_seat at w m.state in
      m.fault ≡ None → P (lines ++ m.lines) u → IsEnd at u
      → One l raw at Q (lines ++ m.lines) u (next (end_at u.ends at).end (seat_at at u)))
      → One l raw at Q lines w (and_then m (next (end_at w.ends at).end))
  one_then m next h g =
      let e = (end_at w.ends at).end in
      let u = with_seat at w m.state in
      meets_then (λ u ls. P (lines ++ ls) (with_seat at w u))
      (λ u ls. Q (lines ++ ls) (with_seat at w u))
      (λ u ls. WorldPart l raw (lines ++ ls) (with_seat at w u)) m (next e) h
      (λ none p.
      let k : One l raw at Q (lines ++ m.lines) u (next e m.state) =
      subst (λ (x : EndState). One l raw at Q (lines ++ m.lines) u (next x.end m.state))
      (end_back at w below m.state)
      (subst (λ s. One l raw at Q (lines ++ m.lines) u (next (end_at u.ends at).end s))
      (seat_back at w below m.state) (g none p (still_below at w below m.state))) in
      meets_weaker
      (λ t ls. Q ((lines ++ m.lines) ++ ls) (with_seat at u t))
      (λ t ls. Q (lines ++ (m.lines ++ ls)) (with_seat at w t))
      (λ t ls. WorldPart l raw ((lines ++ m.lines) ++ ls) (with_seat at u t))
      (λ t ls. WorldPart l raw (lines ++ (m.lines ++ ls)) (with_seat at w t)) (next e m.state)
      (λ t ls. again Q m.state t m.lines ls) (λ t ls. again (WorldPart l raw) m.state t m.lines ls)
      k)
