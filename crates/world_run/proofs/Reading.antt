-- A client's end reads: the bytes, the values in them, and an EOF.
use Rattle.std.proofs.Common.{◌≡◌, ℕ, List, [], ◌∷◌, ◌++◌, Bool, true, false, cond, Some, None}
use Rattle.std.proofs.Common.{Option, map, refl, sym, subst, ◌∙◌, append_assoc, append-nil}
use Rattle.std.proofs.Common.{inl, inr, arith}
use Rattle.std.proofs.lemmas.List.{map-append}
use Rattle.resp_value.specs.Lists.{IsPrefix}
use Rattle.resp_value.specs.Tree.{Tree}
use Rattle.resp_value.specs.ValueTree.{tree_of, value_of}
use Rattle.resp_value.proofs.OneToOne.{tree_back}
use Rattle.resp_stream.specs.declared.fault.FaultPlace.{FaultPlace}
use Rattle.resp_stream.specs.declared.fault.StreamFault.{StreamFault}
use Rattle.resp_stream.specs.Parse.{parse_values, values_of}
use Rattle.resp_stream.specs.Stream.{Stream, fed}
use Rattle.resp_stream.proofs.Onward.{GoesOn, goes_further, values_join}
use Rattle.serial_model.specs.declared.history.Limits.{Limits}
use Rattle.shared_cache.specs.declared.log.ClientCall.TheVariants as call
use Rattle.shared_cache.specs.Laws.{gots}
use Rattle.shared_cache.specs.Log.{is_ended}
use Rattle.script_text.specs.declared.line.Line.{Line}
use Rattle.script_text.specs.declared.line.Line.TheVariants as line
use Rattle.server_links.specs.LinksState.{LinksState}
use Rattle.server_links.specs.Moves.{stopped_at}
use Rattle.server_links.specs.OneHistory.{read_on}
use Rattle.server_links.specs.Outcome.{and_then, does, stays}
use Rattle.server_links.proofs.FaultPlaces.{values_met}
use Rattle.world_run.specs.WorldState.{EndState, MemberState, WorldState, client_at, end_at}
use Rattle.world_run.specs.Members.{seat_at}
use Rattle.world_run.specs.ClientMoves.{feed, got, got_all, got_one, has_ended, next_read}
use Rattle.world_run.specs.ClientMoves.{read_values, rest_read, stop, turn}
use Rattle.world_run.proofs.Links.{Mute}
use Rattle.world_run.proofs.Seats.{IsEnd, One, Seating, Working, one_then}
use Rattle.world_run.proofs.SeatTurns.{old_part, one_prints, one_reader, one_stays, one_turn}
use Rattle.world_run.proofs.SeatTurns.{works_as}
use Rattle.world_run.proofs.Turns.{end_ends, got_gets}
use Rattle.world_run.proofs.Worlds.{Holds, Reads}

-- the link of this end has not ended for the client
abbrev pub Going : EndState → MemberState → Type 0
Going e m = is_ended m.state.setup.mode e.end.wire m.state.past ≡ false

-- what the client got there
abbrev pub got_on : EndState → MemberState → List Tree
got_on e m = map tree_of (gots e.end.wire m.state.past)

closed : (b : Bool) → b ≡ true → b ≡ false → ⊥
closed b t f = let no : true ≡ false = sym t ∙ f in cc

-- ---- what is said of the client, where D holds of the links and its place

-- a piece was read of its link that its reader was not fed
abbrev pub Ahead : (LinksState → ℕ → Type 0) → List ℕ → Working
Ahead D piece ls read e m =
    ((old : List ℕ) × (read ≡ old ++ piece) × Reads old e m) × D ls e.end.place

-- its reader was fed what was read
abbrev pub Fed : (LinksState → ℕ → Type 0) → Working
Fed D ls read e m =
    (Going e m → (got_on e m ++ (parse_values e.reader).items ≡ values_of read)
    × ((parse_values e.reader).fault ≡ None
    → GoesOn parse_values read (parse_values e.reader).stream))
    × D ls e.end.place

-- these values are still to be got, and the reader goes on from there
abbrev pub Getting : (LinksState → ℕ → Type 0) → List Tree → Stream → Option StreamFault → Working
Getting D todo next fault ls read e m =
    (Going e m → (got_on e m ++ todo ≡ values_of read)
    × (fault ≡ None → GoesOn parse_values read next))
    × D ls e.end.place

-- all were got, up to this fault
abbrev pub Halted : (LinksState → ℕ → Type 0) → Option StreamFault → Working
Halted D fault ls read e m =
    (Going e m → (got_on e m ≡ values_of read)
    × (fault ≡ None → GoesOn parse_values read e.reader))
    × D ls e.end.place

abbrev pub Done : (LinksState → ℕ → Type 0) → Working
Done D ls read e m = Reads read e m × D ls e.end.place

module _ (l : Limits) (heard : ℕ → List ℕ) (raw : List ℕ → List ℕ) (at : ℕ)
    (D : LinksState → ℕ → Type 0) where
  abbrev pub With : Working → List Line → WorldState → Type 0
  With R ls u = Holds l heard raw (Seating at [] R) ls u

  -- ---- bytes are fed

  fed_reads : (piece old read : List ℕ) (e : EndState) (m : MemberState) → read ≡ old ++ piece
      → Reads old e m → Going e m
      → let p = parse_values (fed e.reader piece) in
      (got_on e m ++ p.items ≡ values_of read)
      × (p.fault ≡ None → GoesOn parse_values read p.stream)
  fed_reads piece old read e m is reads going = grind (arith, goes_further, values_join)

  pub feed_reads : (piece : List ℕ) (lines : List Line) (w : WorldState)
      → With (Ahead D piece) lines w → IsEnd at w
      → One l raw at (With (Fed D)) lines w (feed piece (seat_at at w))
  feed_reads piece lines w h below =
      let e = end_at w.ends at in
      one_reader l heard raw at (Ahead D piece) lines w h below (fed e.reader piece) (Fed D)
      (λ a. (
        fed_reads piece a.0.0 (read_on e.end.link lines) e (client_at w at) a.0.1 a.0.2,
        a.1,
      ))

  -- ---- values are got

  module _ (next : Stream) (fault : Option StreamFault) where
    got_more : (t : Tree) (todo : List Tree) (xs gs all : List _) → gs ≡ xs ++ value_of t ∷ []
        → map tree_of xs ++ t ∷ todo ≡ all → map tree_of gs ++ todo ≡ all
    got_more t todo xs gs all is e = grind (arith, map-append, tree_back, append_assoc)

    got_reads : (t : Tree) (todo : List Tree) (lines : List Line) (w : WorldState)
        → With (Getting D (t ∷ todo) next fault) lines w → IsEnd at w
        → One l raw at (With (Getting D todo next fault)) lines w
        (got (value_of t) (end_at w.ends at).end (seat_at at w))
    got_reads t todo lines w h below =
        let m = client_at w at in
        let e = (end_at w.ends at).end in
        let s = seat_at at w in
        let v = value_of t in
        let read = read_on e.link lines in
        let G = Getting D (t ∷ todo) next fault in
        elim (has_ended e.wire s) as (λ b. has_ended e.wire s ≡ b
        → One l raw at (With (Getting D todo next fault)) lines w
        (cond b (stays s) (turn (call.Got e.wire v) e s))) [
          | true ↦ λ ended. one_stays l heard raw at G lines w h below (Getting D todo next fault)
              (λ g. ((λ going. absurd (closed (has_ended e.wire s) ended going)), g.1))
          | false ↦ λ going.
              let p = old_part l heard raw at G lines w h below in
              let k = got_gets m.state.setup e.wire m.state.past v p.member.legal p.has going in
              one_turn l heard raw at G lines w h below (call.Got e.wire v) p.has tt refl []
              (k.taken_is ∙ sym (append-nil _))
              (λ got g. elim k.gots_front [
                | inl same ↦
                    subst (λ x. IsPrefix (map tree_of x) (values_of read)) (sym same) got
                | inr more ↦ (
                  todo,
                  got_more t todo (gots e.wire m.state.past) _ (values_of read) more
                      (g.0 going).0,
                )
              ])
              (Getting D todo next fault)
              (λ none g. (
                λ on. (
                  got_more t todo (gots e.wire m.state.past) _ (values_of read) (k.done none on)
                      (g.0 going).0,
                  (g.0 going).1,
                ),
                g.1,
              ))
        ] refl

    got_one_reads : (t : Tree) (todo : List Tree) (lines : List Line) (w : WorldState)
        → With (Getting D (t ∷ todo) next fault) lines w → IsEnd at w
        → One l raw at (With (Getting D todo next fault)) lines w
        (got_one t (end_at w.ends at).end (seat_at at w))
    unfolding got_one
    got_one_reads t todo lines w h below =
        let G = Getting D (t ∷ todo) next fault in
        let s = seat_at at w in
        one_then l raw at (With G) (With (Getting D todo next fault)) lines w below
        (does s (next_read s) []) (got (value_of t))
        (one_reader l heard raw at G lines w h below (next_read s).reader G (λ g. g))
        (λ none h' below'. got_reads t todo _ _ h' below')

    got_all_reads : (todo : List Tree) (lines : List Line) (w : WorldState)
        → With (Getting D todo next fault) lines w → IsEnd at w
        → One l raw at (With (Getting D [] next fault)) lines w
        (got_all todo (end_at w.ends at).end (seat_at at w))
    unfolding got_all
    got_all_reads [] lines w h below =
        one_stays l heard raw at (Getting D [] next fault) lines w h below
        (Getting D [] next fault) (λ g. g)
    got_all_reads (t ∷ todo) lines w h below =
        one_then l raw at (With (Getting D todo next fault)) (With (Getting D [] next fault)) lines
        w below (got_one t (end_at w.ends at).end (seat_at at w)) (got_all todo)
        (got_one_reads t todo lines w h below)
        (λ none h' below'. got_all_reads todo _ _ h' below')

    rest_reads : (lines : List Line) (w : WorldState) → With (Getting D [] next fault) lines w
        → IsEnd at w
        → One l raw at (With (Halted D fault)) lines w (rest_read next (seat_at at w))
    rest_reads lines w h below =
        one_reader l heard raw at (Getting D [] next fault) lines w h below next (Halted D fault)
        (λ g. (
          λ going. (
            sym (append-nil (got_on (end_at w.ends at) (client_at w at))) ∙ (g.0 going).0,
            (g.0 going).1,
          ),
          g.1,
        ))

    -- ---- what stops the reading

    pub end_reads : (R : Working) (lines : List Line) (w : WorldState) → With R lines w
        → IsEnd at w
        → (let e = end_at w.ends at in
        R w.links (read_on e.end.link lines) e (client_at w at) → D w.links e.end.place)
        → One l raw at (With (Done D)) lines w
        (let e = (end_at w.ends at).end in turn (call.End e.wire) e (seat_at at w))
    end_reads R lines w h below keeps =
        let m = client_at w at in
        let e = (end_at w.ends at).end in
        let p = old_part l heard raw at R lines w h below in
        let k = end_ends m.state.setup e.wire m.state.past p.member.legal p.has in
        one_turn l heard raw at R lines w h below (call.End e.wire) p.has tt refl []
        (k.taken_is ∙ sym (append-nil _))
        (λ got r. subst (λ x. IsPrefix (map tree_of x) (values_of (read_on e.link lines)))
        (sym k.gots_are) got)
        (Done D) (λ none r. ((λ going. absurd (closed _ k.ended_is going)), keeps r))

    stop_reads : (place : Option FaultPlace) → (place ≡ None → fault ≡ None) → (lines : List Line)
        (w : WorldState) → With (Halted D fault) lines w → IsEnd at w
        → One l raw at (With (Done D)) lines w (stop place (end_at w.ends at).end (seat_at at w))
    unfolding Mute
    stop_reads None met lines w h below =
        one_stays l heard raw at (Halted D fault) lines w h below (Done D)
        (λ g. (
          λ going. record { gots_are = (g.0 going).0; reading = (g.0 going).1 (met refl) },
          g.1,
        ))
    stop_reads (Some place) met lines w h below =
        let s = seat_at at w in
        let e = (end_at w.ends at).end in
        let bad = line.Bad e.link place.number place.offset ∷ [] in
        elim (has_ended e.wire s) as (λ b. has_ended e.wire s ≡ b
        → One l raw at (With (Done D)) lines w
        (cond b (stays s) (and_then (does s s bad) (turn (call.End e.wire) e)))) [
          | true ↦ λ ended. one_stays l heard raw at (Halted D fault) lines w h below (Done D)
              (λ g. ((λ going. absurd (closed (has_ended e.wire s) ended going)), g.1))
          | false ↦ λ going.
              one_then l raw at (With (Halted D fault)) (With (Done D)) lines w below
              (does s s bad) (λ e. turn (call.End e.wire) e)
              (one_prints l heard raw at (Halted D fault) lines w h below bad
              (record { no_entry = refl; mute = λ n. refl }))
              (λ none h' below'. end_reads (Halted D fault) _ _ h' below' (λ g. g.1))
        ] refl

  -- ---- each whole value that was read is got

  module _ (lines : List Line) (w : WorldState) (h : With (Fed D) lines w)
      (below : IsEnd at w) where
    pub values_reads : One l raw at (With (Done D)) lines w
        (read_values (end_at w.ends at).end (seat_at at w))
    unfolding read_values
    values_reads =
        let s = seat_at at w in
        let e = (end_at w.ends at).end in
        let p = parse_values s.reader in
        let G = Getting D p.items p.stream p.fault in
        one_then l raw at (With (Halted D p.fault)) (With (Done D)) lines w below
        (and_then (got_all p.items e s) (rest_read p.stream)) (stop (stopped_at p.fault))
        (one_then l raw at (With (Getting D [] p.stream p.fault)) (With (Halted D p.fault)) lines w
        below (got_all p.items e s) (λ e. rest_read p.stream)
        (got_all_reads p.stream p.fault p.items lines w
        (works_as l heard raw at (Fed D) G lines w h (λ f. f)) below)
        (λ none h' below'. rest_reads p.stream p.fault _ _ h' below'))
        (λ none h' below'. stop_reads p.stream p.fault (stopped_at p.fault)
        (values_met s.reader) _ _ h' below')
