-- Links flow: one, with or without a client at its end, and all of them in turn.
use Rattle.std.proofs.Common.{◌≡◌, ◌<◌, ◌≤◌, ℕ, zero, suc, List, [], ◌++◌, cond, Some, None, length}
use Rattle.std.proofs.Common.{refl, sym, ap, subst, ◌∙◌, arith, append_assoc, append-nil, inl}
use Rattle.std.specs.Prelude.{◌==◌, nat_lt}
use Rattle.std.proofs.lemmas.Bool.{cases_lt}
use Rattle.std.proofs.lemmas.Bool.Decides.{nat_tests}
use Rattle.serial_model.specs.declared.history.Limits.{Limits}
use Rattle.script_text.specs.declared.line.Line.{Line}
use Rattle.server_links.specs.declared.link.LinkMove.TheVariants as moves
use Rattle.server_links.specs.LinkEvent.{Over}
use Rattle.server_links.specs.LinksState.{at_place}
use Rattle.server_links.specs.LinkSteps.{place_of}
use Rattle.server_links.specs.OneHistory.{read_on}
use Rattle.server_links.specs.Outcome.{within}
use Rattle.server_links.specs.Transcript.{heard_at, is_place, reads_at}
use Rattle.server_links.proofs.Names.{place_is}
use Rattle.server_links.proofs.Outcomes.{Meets, meets_then}
use Rattle.world_run.specs.WorldState.{EndState, WorldState, client_at, end_at, end_of_link}
use Rattle.world_run.specs.Members.{seat_at, with_seat}
use Rattle.world_run.specs.ClientMoves as client
use Rattle.world_run.specs.World.{client_does, flow_at, flow_first, flow_step, links_step}
use Rattle.world_run.specs.WorldTranscript.{flow_heard, flowing}
use Rattle.world_run.proofs.Clients.{end_place, flow_stands, out_stands}
use Rattle.world_run.proofs.LinkEvents.{Comes, comes_apart, comes_as, comes_client, comes_same}
use Rattle.world_run.proofs.LinkEvents.{stands_again}
use Rattle.world_run.proofs.Links.{name_of_event}
use Rattle.world_run.proofs.Names.{end_nowhere, end_there}
use Rattle.world_run.proofs.Seats.{IsEnd, end_back, seated, still_below}
use Rattle.world_run.proofs.WorldKept.{flow_size}
use Rattle.world_run.proofs.Worlds.{WorldPart, WorldStands}

-- what is heard by the link at a place alone
abbrev pub only_at : (ℕ → List ℕ) → ℕ → List ℕ → ℕ → List ℕ
only_at heard place bytes i = heard i ++ cond (place == i) bytes []

at_this : (heard : ℕ → List ℕ) (read : ℕ → List ℕ) (place i : ℕ)
    → heard i ++ cond (place == i) (read i) [] ≡ only_at heard place (read place) i
at_this heard read place i = grind arith

module _ (l : Limits) (heard : ℕ → List ℕ) (raw : List ℕ → List ℕ) (lines : List Line)
    (w : WorldState) (h : WorldStands l heard raw lines w) (place : ℕ)
    (below : place < length w.links.links) where
  abbrev name : List ℕ
  name = (at_place w.links.links place).name

  found : place_of name w.links ≡ Some place
  found = place_is w.links h.links.unique name place below refl

  flow_apart : end_of_link name w.ends ≡ None
      → Comes l (only_at heard place (reads_at w.links place None)) raw lines
      (links_step (Over name moves.Flow) w)
  unfolding name_of_event
  flow_apart none =
      comes_as l _ (only_at heard place (reads_at w.links place None)) raw raw lines
      (links_step (Over name moves.Flow) w)
      (λ i. ap (λ q. heard i ++ cond (is_place q i) (reads_at w.links i None) []) found
      ∙ at_this heard (λ k. reads_at w.links k None) place i)
      (λ n. refl)
      (comes_apart l heard raw lines w h raw (Over name moves.Flow)
      (end_nowhere name w.ends none) (λ n. append-nil (raw n)))

  flow_client : (at : ℕ) → end_of_link name w.ends ≡ Some at
      → Comes l (only_at heard place (reads_at (flowing (Some at) w).links place None)) raw lines
      (client_does at client.flow w)
  unfolding client_does within
  flow_client at is =
      let there = end_there name w.ends at is in
      let it : IsEnd at w = (there.0, (h.clients at there.0).0) in
      let e = (end_at w.ends at).end in
      let m = client.out None e (seat_at at w) in
      let v = m.state in
      let u = with_seat at w v in
      let same : Some e.place ≡ Some place =
      sym (end_place w.links h.links.unique (read_on e.link lines) e (client_at w at)
      (h.each at there.0).0)
      ∙ ap (λ n. place_of n w.links) there.1 ∙ found in
      let sent = out_stands l raw at heard None lines w (seated l heard raw at lines w h) it in
      let after = sent.all v m.lines (inl (refl, refl)) in
      let e1 = (end_at u.ends at).end in
      let found_then : place_of e.link v.links ≡ Some e.place =
      subst (λ (x : EndState). place_of x.end.link v.links ≡ Some x.end.place) (end_back at w it v)
      (end_place v.links after.unique (read_on e1.link (lines ++ m.lines)) e1 (client_at u at)
      (after.each at (still_below at w it v).0)) in
      comes_as l _ (only_at heard place (reads_at v.links place None)) raw raw lines
      (client_does at client.flow w)
      (λ i. ap (λ q. heard i ++ cond (is_place q i) (reads_at v.links i None) [])
      (found_then ∙ same)
      ∙ at_this heard (λ k. reads_at v.links k None) place i)
      (λ n. refl)
      (comes_client l heard raw lines w h
      (λ i. heard i ++ heard_at v.links i (Over e.link (moves.Serve None))) at client.flow
      (λ k. flow_stands l raw at heard lines w k it))

  pub flow_one : Comes l (only_at heard place (flow_heard place w)) raw lines
      (flow_step (end_of_link name w.ends) name w)
  flow_one = grind (arith, flow_apart, flow_client, nat_tests)

-- ---- all links flow

-- the next link has flowed too
one_more : (n i : ℕ) (xs : List ℕ) (read : ℕ → List ℕ)
    → (xs ++ cond (nat_lt i n) (read i) []) ++ cond (n == i) (read n) []
    ≡ xs ++ cond (nat_lt i (suc n)) (read i) []
one_more n i xs read = grind (arith, append-nil, cases_lt)

module _ (l : Limits) (heard : ℕ → List ℕ) (raw : List ℕ → List ℕ) (lines : List Line)
    (w : WorldState) (h : WorldStands l heard raw lines w) where
  -- what was heard once so many links have flowed
  abbrev pub heard_first : ℕ → ℕ → List ℕ
  heard_first n i = heard i ++ cond (nat_lt i n) (flow_heard i (flow_first i w).state) []

  none_first : (i : ℕ) → heard i ≡ heard_first zero i
  none_first i = grind (arith, nat_tests, append-nil)

  Flowed : ℕ → WorldState → List Line → Type 0
  Flowed n v ls = (length v.links.links ≡ length w.links.links)
      × WorldStands l (heard_first n) raw (lines ++ ls) v

  flow_stands_first : (n : ℕ) → n ≤ length w.links.links
      → Meets (Flowed n) (λ v ls. WorldPart l raw (lines ++ ls) v) (flow_first n w)
  unfolding flow_first Flowed
  flow_stands_first zero le =
      let k = comes_same l heard raw lines w h (heard_first zero) raw none_first (λ n. refl) in
      grind arith
  flow_stands_first (suc n) le =
      let m = flow_first n w in
      meets_then (Flowed n) (Flowed (suc n)) (λ v ls. WorldPart l raw (lines ++ ls) v) m (flow_at n)
      (flow_stands_first n (omega (arith, le)))
      (λ none p.
      let v = m.state in
      let u = flow_at n v in
      let o = flow_one l (heard_first n) raw (lines ++ m.lines) v p.1 n (omega (arith, le, p.0)) in
      record {
        ends = λ e. (
          flow_size n v u.state u.lines (inl (refl, refl)) ∙ p.0,
          subst (λ y. WorldStands l (heard_first (suc n)) raw y u.state)
              (append_assoc lines m.lines u.lines)
              (stands_again l _ (heard_first (suc n)) raw raw ((lines ++ m.lines) ++ u.lines)
              u.state (λ i. one_more n i (heard i) (λ j. flow_heard j (flow_first j w).state))
              (λ k free. refl) (o.ends e)),
        );
        all = λ t ls r.
            subst (λ y. WorldPart l raw y t) (append_assoc lines m.lines ls) (o.all t ls r);
      })

  -- the world once so many links have flowed
  pub first_stands : (n : ℕ) → n ≤ length w.links.links → (flow_first n w).fault ≡ None
      → WorldStands l (heard_first n) raw (lines ++ (flow_first n w).lines)
      (flow_first n w).state
  unfolding Flowed
  first_stands n le none = ((flow_stands_first n le).ends none).1

  pub flow_all_comes : Comes l (heard_first (length w.links.links)) raw lines
      (flow_first (length w.links.links) w)
  unfolding Flowed
  flow_all_comes =
      let k = flow_stands_first (length w.links.links) (omega arith) in
      record { ends = λ none. (k.ends none).1; all = k.all }
