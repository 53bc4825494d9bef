-- What holds of each client of a world, wherever memory runs out: it and the history have been kept
-- together by its links.
use Rattle.std.proofs.Common.{◌≡◌, ◌+◌, ◌<◌, ◌≤◌, ℕ, List, ◌++◌, length, take, drop, map, sym, ap}
use Rattle.std.proofs.Common.{subst, ◌∙◌, arith, append_assoc, length-append, true}
use Rattle.std.proofs.lemmas.List.{take-append-drop}
use Rattle.resp_value.specs.Lists.{IsPrefix}
use Rattle.resp_value.specs.ValueTree.{tree_of}
use Rattle.resp_stream.specs.Parse.{requests_of, values_of}
use Rattle.serial_model.specs.declared.history.Limits.{Limits}
use Rattle.serial_model.specs.declared.history.Entry.{Entry}
use Rattle.serial_model.specs.History.{runs_of, sent, stream, taken, IsLegal}
use Rattle.shared_cache.specs.declared.log.ClientMode.{ClientMode}
use Rattle.shared_cache.specs.declared.log.Wire.{Wire}
use Rattle.shared_cache.specs.ClientFields.{IsClientMode}
use Rattle.shared_cache.specs.Held.{commands}
use Rattle.shared_cache.specs.Laws.{LegalLog, gots}
use Rattle.shared_cache.specs.Log.{HasWire}
use Rattle.shared_cache.specs.Out.{out}
use Rattle.currency.specs.Links.{Client, Meet, AreGot, IsCausal}
use Rattle.server_links.specs.LinksState.{LinksState, at_place}
use Rattle.server_links.specs.OneHistory.{PartServes}
use Rattle.world_run.specs.WorldState.{LinkEnd, MemberState, link_on, place_on}
use Rattle.world_run.specs.Members.{client_of}
use Rattle.world_run.specs.World.{is_served}
use Rattle.world_run.specs.WorldHistory.{taken_bytes}
use Rattle.link_laws.proofs.Crossing.{heard_was_commanded, read_was_sent}
use Rattle.resp_laws.proofs.Longer.{values_grow}
use Rattle.world_run.proofs.Causal.{GotsWithin, RunsWithin, causal_entries, got_count, runs_size}
use Rattle.world_run.proofs.Wires.{has_wire}

pub prefix_both : {A : Type 0} (xs ys zs : List A) → IsPrefix xs ys → IsPrefix ys zs
    → IsPrefix xs zs
prefix_both xs ys zs p q = grind (arith, append_assoc)

pub prefix_size : {A : Type 0} (xs ys : List A) → IsPrefix xs ys → length xs ≤ length ys
prefix_size xs ys p = omega (arith, length-append xs p.0, ap length p.1)

-- the first of three parts, whose whole is the front of a longer list
front_of : {A : Type 0} (a b c whole : List A) → (a ++ b) ++ c ≡ whole → IsPrefix a whole
front_of a b c whole e = (b ++ c, sym (append_assoc a b c) ∙ e)

first_front : {A : Type 0} (n : ℕ) (whole : List A) → IsPrefix (take n whole) whole
first_front n whole = (drop n whole, take-append-drop n whole)

pub record MemberPart (ls : LinksState) (m : MemberState) : Type 0 where
  pub below : (u : Wire) → HasWire m.state.setup.mode.shape u → place_on u m < length ls.links
  pub placed : (u : Wire) → HasWire m.state.setup.mode.shape u
      → (at_place ls.links (place_on u m)).name ≡ link_on u m.name
  pub mode : IsClientMode m.state.setup.mode
  pub room : 0 < m.state.setup.capacity
  pub legal : LegalLog m.state.setup m.state.past
  pub causal : IsCausal ls.limits (client_of m) ls.past m.state.past

-- and of its end of one of its links
pub record EndPart (ls : LinksState) (read : List ℕ) (e : LinkEnd) (m : MemberState) : Type 0 where
  pub member : MemberPart ls m
  pub has : HasWire m.state.setup.mode.shape e.wire
  pub named : e.link ≡ link_on e.wire m.name
  pub place_is : e.place ≡ place_on e.wire m
  -- what it got are the first values of what its end read
  pub got : IsPrefix (map tree_of (gots e.wire m.state.past)) (values_of read)

pub served_mode : (m : ClientMode) → is_served m ≡ true → IsClientMode m
served_mode m e = grind arith

-- what crossed one of its links: commands ran that it sent, and what it got was sent to it
pub record Crossed (ls : LinksState) (m : MemberState) (u : Wire) : Type 0 where
  pub ran : IsPrefix (runs_of (place_on u m + 1) ls.past) (commands m.state.setup u m.state.past)
  pub came : AreGot (gots u m.state.past) (sent ls.limits (place_on u m + 1) ls.past)

module _ (ls : LinksState) (read said : List ℕ) (e : LinkEnd) (m : MemberState)
    (legal : IsLegal ls.limits ls.past)
    (id : (at_place ls.links e.place).id ≡ e.place + 1)
    (part : EndPart ls read e m) (took : IsPrefix said (taken_bytes e.wire m))
    (serves : PartServes ls.limits said read ls.past (at_place ls.links e.place)) where
  id_is : (at_place ls.links e.place).id ≡ place_on e.wire m + 1
  id_is = id ∙ ap (λ n. n + 1) part.place_is

  written_front : IsPrefix serves.heard (out m.state.setup e.wire m.state.past)
  written_front =
      prefix_both serves.heard said (out m.state.setup e.wire m.state.past)
      (front_of serves.heard (at_place ls.links e.place).up.bytes serves.up.lost said
      serves.up.all_said)
      (prefix_both said (taken_bytes e.wire m) (out m.state.setup e.wire m.state.past) took
      (grind (arith, first_front)))

  ran_there : IsPrefix (runs_of (place_on e.wire m + 1) ls.past)
      (commands m.state.setup e.wire m.state.past)
  ran_there =
      subst (λ c. IsPrefix (runs_of c ls.past) (commands m.state.setup e.wire m.state.past)) id_is
      (prefix_both (runs_of (at_place ls.links e.place).id ls.past) (requests_of serves.heard)
      (commands m.state.setup e.wire m.state.past) serves.runs_front
      (heard_was_commanded m.state.setup e.wire m.state.past serves.heard part.member.legal
      written_front))

  came_there : AreGot (gots e.wire m.state.past) (sent ls.limits (place_on e.wire m + 1) ls.past)
  came_there =
      read_was_sent ls.limits (place_on e.wire m + 1) ls.past read (gots e.wire m.state.past) legal
      (subst (λ c. IsPrefix read (stream ls.limits c ls.past)) id_is
      (prefix_both read (take (taken ls.limits (at_place ls.links e.place).id ls.past)
      (stream ls.limits (at_place ls.links e.place).id ls.past))
      (stream ls.limits (at_place ls.links e.place).id ls.past)
      (front_of read (at_place ls.links e.place).down.bytes serves.down.lost
      (take (taken ls.limits (at_place ls.links e.place).id ls.past)
      (stream ls.limits (at_place ls.links e.place).id ls.past)) serves.down.all_taken)
      (first_front (taken ls.limits (at_place ls.links e.place).id ls.past)
      (stream ls.limits (at_place ls.links e.place).id ls.past))))
      part.got

  pub crossed : Crossed ls m e.wire
  crossed = record { ran = ran_there; came = came_there }

pub meet_of : (ls : LinksState) (m : MemberState) → MemberPart ls m
    → ((u : Wire) → HasWire m.state.setup.mode.shape u → Crossed ls m u)
    → Meet ls.limits (client_of m) ls.past m.state.past
meet_of ls m part all =
    record {
      ran = λ u i. (all u (has_wire m.state.setup.mode.shape u i)).ran;
      came = λ u i. (all u (has_wire m.state.setup.mode.shape u i)).came;
      causal = part.causal;
    }

-- ---- what grows

-- what a step leaves of the links, whatever it was
pub record LinkGrows (w v : LinksState) : Type 0 where
  pub limits : v.limits ≡ w.limits
  pub size : length w.links ≤ length v.links
  pub names : (i : ℕ) → i < length w.links
      → (at_place v.links i).name ≡ (at_place w.links i).name
  pub entries : List Entry
  pub grows : v.past ≡ entries ++ w.past
  pub unique : ((i j : ℕ) → i < length w.links → j < length w.links
      → (at_place w.links j).name ≡ (at_place w.links i).name → j ≡ i)
      → (i j : ℕ) → i < length v.links → j < length v.links
      → (at_place v.links j).name ≡ (at_place v.links i).name → j ≡ i

pub gots_within : (l : Limits) (x : Client) (past : List Entry) (log : List _) → Meet l x past log
    → GotsWithin l x past log
gots_within l x past log m w has = got_count (gots w log) (sent l (x.id w) past) (m.came w has)

pub runs_within : (l : Limits) (x : Client) (past : List Entry) (log : List _) → Meet l x past log
    → RunsWithin x past log
runs_within l e past log m w has = grind (arith, runs_size, prefix_size)

-- a client whose links have grown
pub member_grown : (w v : LinksState) (m : MemberState) → LinkGrows w v
    → Meet w.limits (client_of m) w.past m.state.past → MemberPart w m → MemberPart v m
member_grown w v m g meet p = record {
  below = λ u has. (let b = p.below u has in omega (arith, b, g.size));
  placed = λ u has. g.names (place_on u m) (p.below u has) ∙ p.placed u has;
  mode = p.mode;
  room = p.room;
  legal = p.legal;
  causal =
      subst (λ l. IsCausal l (client_of m) v.past m.state.past) (sym g.limits)
      (subst (λ h. IsCausal w.limits (client_of m) h m.state.past) (sym g.grows)
      (causal_entries w.limits (client_of m) g.entries w.past m.state.past
      (gots_within w.limits (client_of m) w.past m.state.past meet) p.causal));
}

pub end_grown : (w v : LinksState) (read more : List ℕ) (e : LinkEnd) (m : MemberState)
    → LinkGrows w v → Meet w.limits (client_of m) w.past m.state.past → EndPart w read e m
    → EndPart v (read ++ more) e m
end_grown w v read more e m g meet p = record {
  member = member_grown w v m g meet p.member;
  has = p.has;
  named = p.named;
  place_is = p.place_is;
  got = prefix_both (map tree_of (gots e.wire m.state.past)) (values_of read)
      (values_of (read ++ more)) p.got (values_grow read more);
}
