-- A link is pumped round by round: what is queued is written, the link is read, and the values are
-- got.
use Rattle.std.proofs.Common.{◌≡◌, ◌≤◌, ℕ, List, [], ◌∷◌, ◌++◌, length, true, false, refl, sym, ap}
use Rattle.std.proofs.Common.{subst, ◌∙◌, arith, append_assoc, append-nil, inl, inr}
use Rattle.std.specs.Prelude.{Option, ◌⊎◌}
use Rattle.std.specs.List.{All}
use Rattle.std.specs.Io.KnownBytes.{Appends, Consumes, Keeps}
use Rattle.std.proofs.lemmas.List.Elements.{All-append, All-head}
use Rattle.turn_lock.specs.History.{IsPrefix as IsBefore}
use Rattle.resp_value.specs.Lists.{IsPrefix}
use Rattle.resp_stream.specs.Parse.{parse_values, values_of}
use Rattle.resp_stream.specs.Stream.{Stream, fed}
use Rattle.edge_links.proofs.Bytes.{appends_more, appends_as, appends_kept}
use Rattle.edge_links.proofs.Bytes.{consumes_more, consumes_kept}
use Rattle.turn_lock.specs.Own.{past_of, Grows}
use Rattle.turn_lock.proofs.Growing.{grows_then, grows_past, grows_stands, order_append}
use Rattle.shared_cache.specs.declared.log.Wire.{Wire}
use Rattle.shared_cache.specs.declared.log.LogEntry.TheVariants as entry
use Rattle.shared_cache.specs.declared.log.ClientRefusal.{ClientRefusal}
use Rattle.shared_cache.specs.Held.{Setup}
use Rattle.shared_cache.specs.Out.{out, taken}
use Rattle.shared_client.specs.Turns.{Place, Turn, setup_in, setup_at, Ends, WornOut}
use Rattle.client_link.specs.declared.pump_end.PumpEnd.{PumpEnd}
use Rattle.client_link.specs.declared.pump_end.PumpEnd.TheVariants as ended
use Rattle.client_link.specs.Pumps.{IsWork, got_in, gots_in, gave, EndsByValue, IsStop}
use Rattle.client_link.specs.Pumps.{Delivers, DeliversPart, GetsAll, GetsPart, GettingStops, Hears}
use Rattle.client_link.specs.Pumps.{Idle, Piece, HearsPart, Nothing, Part, IsOfLink, IsWhole}
use Rattle.client_link.specs.Pumps.{FaultIs, Work, Stops, Runs, IsEnd, IsOver, Finishes, Pumps}
use Rattle.client_link.specs.Pumps.{is_known, Closes, Kept, Ended, NoTicket}
use Rattle.resp_stream.proofs.Onward.{GoesOn, goes_further, values_join}
use Rattle.client_link.proofs.Steps.{out_begins, taken_begins, full_begins, ended_begins, end_over}
use Rattle.client_link.proofs.Steps.{end_own, bad_own}
use Rattle.client_link.proofs.Turning.{taken_more, all_taken}

-- all that was read was got, and all that was taken out was written
pub record Pumping (w : Wire) (r : Stream) (left0 left1 link0 link1 : Option (List ℕ))
    (old new : Place) : Type 0 where
  pub turns : List Turn
  pub grows : Grows old new turns
  pub work : All (IsWork w) turns
  pub heard : List ℕ
  pub read : Consumes left0 left1 heard
  pub reading : GoesOn parse_values heard r
  pub gots : gots_in turns ≡ values_of heard
  pub wrote : Appends link0 link1 (gave (setup_at old) turns)

-- all that is queued was taken out
abbrev pub Drained : Wire → Place → Place → Type 0
Drained w old k = length (out (setup_at old) w (past_of k)) ≤ taken (setup_at old) w (past_of k)

module _ (w : Wire) (r : Stream) (left0 left1 link0 link1 : Option (List ℕ)) (old new : Place)
    (p : Pumping w r left0 left1 link0 link1 old new) where
  setup_same : setup_at new ≡ setup_at old
  setup_same = ap setup_in p.grows.setup

  -- ---- what is queued is written

  module _ (left2 link2 : Option (List ℕ)) (kept : Keeps left1 left2) (last : Place) where
    module _ (ts : List Turn) (none : gots_in ts ≡ []) where
      same_gots : gots_in (ts ++ p.turns) ≡ values_of p.heard
      same_gots = grind (arith, order_append, append-nil)

      more_gave : gave (setup_at old) (ts ++ p.turns)
          ≡ gave (setup_at old) p.turns ++ gave (setup_at new) ts
      more_gave = grind (arith, order_append, setup_same)

    pub delivered : Delivers w link1 link2 new last → Pumping w r left0 left2 link0 link2 old last
    delivered d = record {
      turns = d.turns ++ p.turns;
      grows = grows_then old new last p.turns d.turns p.grows d.grows;
      work = All-append (IsWork w) d.turns p.turns d.work p.work;
      heard = p.heard;
      read = consumes_kept left0 left1 left2 p.heard p.read kept;
      reading = p.reading;
      gots = same_gots d.turns d.got_none;
      wrote = appends_as link0 link2 _ _ (sym (more_gave d.turns d.got_none))
          (appends_more link0 link1 link2 (gave (setup_at old) p.turns)
          (gave (setup_at new) d.turns) p.wrote d.wrote);
    }

    pub drained : Delivers w link1 link2 new last → Drained w old last
    drained d = grind (arith, setup_same)

    no_end : (cause : PumpEnd) → (cause ≡ ended.LinkFault) ⊎ IsStop w cause last
        → cause ≡ ended.PeerEnd → ⊥
    no_end cause e is = grind arith

    stops_by : (cause : PumpEnd) (s : Setup) → (cause ≡ ended.LinkFault) ⊎ IsStop w cause last
        → Stops w cause s [] last
    stops_by cause s e = grind arith

    pub delivery_stops : (cause : PumpEnd) → DeliversPart w cause link1 link2 new last
        → Runs w cause left0 left2 link0 link2 old last
    delivery_stops cause d =
        let all = d.turns ++ p.turns in
        let gots = same_gots d.turns d.got_none in
        record {
          ending = [];
          works = record {
            turns = all;
            grows = grows_then old new last p.turns d.turns p.grows d.grows;
            work = All-append (IsWork w) d.turns p.turns d.work p.work;
            heard = p.heard;
            read = consumes_kept left0 left1 left2 p.heard p.read kept;
            bytes = gave (setup_at old) p.turns ++ d.bytes;
            wrote = grind (arith, appends_more);
            gots = ([], append-nil (gots_in all) ∙ gots);
            front = grind (arith, append_assoc, more_gave);
            all_got = λ whole. gots;
            fault_is = grind arith;
            all_wrote = λ is. absurd (no_end cause d.cause_is is);
            got_taken = λ is. absurd (no_end cause d.cause_is is);
            start_taken = λ is. absurd (no_end cause d.cause_is is);
          };
          stops = stops_by cause (setup_at old) d.cause_is;
        }

  -- ---- the link is read

  module _ (left2 link2 : Option (List ℕ)) (kept : Keeps link1 link2) where
    same_read : Consumes left1 left2 [] → Consumes left0 left2 p.heard
    same_read took = grind (arith, append-nil, consumes_more)

    gave_more : (ts : List Turn) → gave (setup_at new) ts ≡ []
        → gave (setup_at old) (ts ++ p.turns) ≡ gave (setup_at old) p.turns
    gave_more ts none = grind (arith, order_append, setup_same, append-nil)

    piece_read : (piece : List ℕ) (after : Stream) (last : Place) → Consumes left1 left2 piece
        → GetsAll w (fed r piece) after new last → Pumping w after left0 left2 link0 link2 old last
    piece_read piece after last took g = record {
      turns = g.turns ++ p.turns;
      grows = grows_then old new last p.turns g.turns p.grows g.grows;
      work = All-append (IsWork w) g.turns p.turns g.work p.work;
      heard = p.heard ++ piece;
      read = consumes_more left0 left1 left2 p.heard piece p.read took;
      reading = subst (GoesOn parse_values (p.heard ++ piece)) (sym g.reader)
          (goes_further parse_values p.heard piece r values_join p.reading g.fault);
      gots = order_append got_in g.turns p.turns
          ∙ ap (λ z. z ++ gots_in g.turns) p.gots
          ∙ ap (λ z. values_of p.heard ++ z) g.gots ∙ sym (p.reading.further piece);
      wrote = appends_as link0 link2 _ _ (sym (gave_more g.turns g.gave_none))
          (appends_kept link0 link1 link2 _ p.wrote kept);
    }

    pub hears_on : (after : Stream) (last : Place) → Hears w r after left1 left2 new last
        → Pumping w after left0 left2 link0 link2 old last
    hears_on after last (Idle same still took) = grind (arith, same_read, appends_kept)
    hears_on after last (Piece piece took g) = piece_read piece after last took g

    -- the link gave no bytes
    nothing_read : Drained w old new → (cause : PumpEnd) → IsOfLink cause
        → Consumes left1 left2 [] → Runs w cause left0 left2 link0 link2 old new
    nothing_read done cause of took = record {
      ending = [];
      works = record {
        turns = p.turns;
        grows = p.grows;
        work = p.work;
        heard = p.heard;
        read = same_read took;
        bytes = gave (setup_at old) p.turns;
        wrote = appends_kept link0 link1 link2 _ p.wrote kept;
        gots = ([], append-nil (gots_in p.turns) ∙ p.gots);
        front = ([], append-nil (gave (setup_at old) p.turns));
        all_got = λ whole. p.gots;
        fault_is = fault_of cause of;
        all_wrote = λ is. refl;
        got_taken = λ is. all_taken (setup_at old) w (past_of new)
            (taken (setup_at old) w (past_of new)) p.turns done
            (grows_stands old new p.turns p.grows);
        start_taken = λ is.
            let o = out_begins (setup_at old) w [] (past_of new)
            (past_of new, append-nil (past_of new)) in omega (arith, o, done);
      };
      stops = stops_of cause of;
    }
      where
        stops_of : (cause : PumpEnd) → IsOfLink cause → Stops w cause (setup_at old) [] new
        stops_of cause o = grind arith

        fault_of : (cause : PumpEnd) → IsOfLink cause → FaultIs cause p.heard
        fault_of cause o = grind arith

    -- a piece was read, and not all of it was got
    module _ (piece : List ℕ) (cause : PumpEnd) (last : Place) (took : Consumes left1 left2 piece)
        (g : GetsPart w cause (fed r piece) new last) where
      part_gots : gots_in (g.ending ++ (g.turns ++ p.turns))
          ≡ values_of p.heard ++ gots_in (g.ending ++ g.turns)
      part_gots = grind (arith, append_assoc, order_append)

      whole_got : (c : PumpEnd)
          → GettingStops w c (fed r piece) g.ending g.turns (setup_at new) last → IsWhole c
          → gots_in g.turns ≡ (parse_values (fed r piece)).items
      whole_got c st whole = grind arith

      ends_here : (x : ClientRefusal) → EndsByValue (setup_at new) w x g.ending
          → EndsByValue (setup_at old) w x g.ending
      ends_here x e = subst (λ s. EndsByValue s w x g.ending) setup_same e

      stops_then : (c : PumpEnd)
          → GettingStops w c (fed r piece) g.ending g.turns (setup_at new) last
          → Stops w c (setup_at old) g.ending last
      stops_then c st = grind (arith, ends_here)

      no_peer_end : cause ≡ ended.PeerEnd → ⊥
      no_peer_end is = grind arith

      meets : (c : PumpEnd) → GettingStops w c (fed r piece) g.ending g.turns (setup_at new) last
          → FaultIs c (p.heard ++ piece)
      meets c st = grind arith

      part_read : Runs w cause left0 left2 link0 link2 old last
      part_read = record {
        ending = g.ending;
        works = record {
          turns = g.turns ++ p.turns;
          grows = subst (Grows old last) (append_assoc g.ending g.turns p.turns)
              (grows_then old new last p.turns (g.ending ++ g.turns) p.grows g.grows);
          work = All-append (IsWork w) g.turns p.turns g.work p.work;
          heard = p.heard ++ piece;
          read = consumes_more left0 left1 left2 p.heard piece p.read took;
          bytes = gave (setup_at old) p.turns;
          wrote = appends_kept link0 link1 link2 _ p.wrote kept;
          gots = (
            g.gots.0,
            ap (λ z. z ++ g.gots.0) part_gots
                ∙ append_assoc (values_of p.heard) (gots_in (g.ending ++ g.turns)) g.gots.0
                ∙ ap (λ z. values_of p.heard ++ z) g.gots.1 ∙ sym (p.reading.further piece),
          );
          front = (
            [],
            append-nil (gave (setup_at old) p.turns) ∙ sym (gave_more g.turns g.gave_none),
          );
          all_got = λ whole. order_append got_in g.turns p.turns
              ∙ ap (λ z. z ++ gots_in g.turns) p.gots
              ∙ ap (λ z. values_of p.heard ++ z) (whole_got cause g.stops whole)
              ∙ sym (p.reading.further piece);
          fault_is = meets cause g.stops;
          all_wrote = λ is. absurd (no_peer_end is);
          got_taken = λ is. absurd (no_peer_end is);
          start_taken = λ is. absurd (no_peer_end is);
        };
        stops = stops_then cause g.stops;
      }

    pub hears_stops : Drained w old new → (cause : PumpEnd) (last : Place)
        → HearsPart w cause r left1 left2 new last → Runs w cause left0 left2 link0 link2 old last
    hears_stops done cause last (Nothing of still took) = grind (arith, nothing_read)
    hears_stops done cause last (Part piece took g) = part_read piece cause last took g

-- ---- the last turn

-- what an End comes to
pub ends_over : (w : Wire) (k last : Place) → Ends w k last
    → (ending : List Turn) × IsEnd w ending × Grows k last ending × IsOver w last
ends_over w k last (inl e) = grind (arith, end_own)
ends_over w k last (inr e) = grind (arith, end_over)

module _ (u : Wire) (cause : PumpEnd) (left0 left1 link0 link1 : Option (List ℕ))
    (old new : Place) (ending : List Turn)
    (w : Work u cause ending left0 left1 link0 link1 old new) where
  over_by : (s : Setup) (r : ClientRefusal) → EndsByValue s u r ending → IsOver u new
  over_by s r e =
      let ts = (entry.Bad u e.value, e.past) ∷ w.turns in
      let stands = grows_stands old new ts
      (subst (λ z. Grows old new (z ++ w.turns)) e.turns_are w.grows) in
      ended_begins (setup_at new) u (entry.Bad u e.value ∷ e.past) (past_of new)
      (All-head (λ (t : Turn). IsBefore (t.0 ∷ t.1) (past_of new))
      (entry.Bad u e.value, e.past) w.turns stands) (bad_own (setup_at new) u e.value e.past)

  known_finishes : (c : PumpEnd) → is_known c ≡ true → Stops u c (setup_at old) ending new
      → Finishes u c (setup_at old) ending new
  known_finishes (ended.Refused r) is st = (st, over_by (setup_at old) r st)
  known_finishes ended.Done is st = st
  known_finishes ended.Worn is st = st
  known_finishes c is st = absurd (let z : ⊥ = cc in z)

  news_alone : (c : PumpEnd) → is_known c ≡ false → Stops u c (setup_at old) ending new
      → ending ≡ []
  news_alone c is st = grind arith

  module _ (alone : ending ≡ []) (more : List Turn) (last : Place) (g : Grows new last more) where
    all_grows : Grows old last (more ++ w.turns)
    all_grows = grows_then old new last w.turns more
        (subst (λ z. Grows old new (z ++ w.turns)) alone w.grows) g

    own_gots : IsPrefix (gots_in w.turns) (values_of w.heard)
    own_gots = subst (λ z. IsPrefix (gots_in (z ++ w.turns)) (values_of w.heard)) alone w.gots

    -- an End was played, or found the link ended
    news_works : IsEnd u more → Work u cause more left0 left1 link0 link1 old last
    news_works is =
        grind (arith, all_grows, own_gots, taken_more, append-nil, taken_begins, grows_past)

  -- no ticket was left for the End
  worn_works : ending ≡ [] → (last : Place) → Grows new last []
      → Work u ended.Worn [] left0 left1 link0 link1 old last
  worn_works alone last g = grind (arith, all_grows, own_gots)

pub closes_pumps : (w : Wire) (before after : PumpEnd) (left0 left1 link0 link1 : Option (List ℕ))
    (old new last : Place) → Runs w before left0 left1 link0 link1 old new
    → Closes w before after new last → Pumps w after left0 left1 link0 link1 old last
closes_pumps w before after left0 left1 link0 link1 old new last r (Kept known same still) =
    subst (λ k. Pumps w after left0 left1 link0 link1 old k) (sym still)
    (subst (λ c. Pumps w c left0 left1 link0 link1 old new) (sym same) (record {
      ending = r.ending;
      works = r.works;
      finishes = known_finishes w before left0 left1 link0 link1 old new r.ending r.works before
          known r.stops;
    }))
closes_pumps w before after left0 left1 link0 link1 old new last r
    (Ended news same more is g over) =
    let alone = news_alone w before left0 left1 link0 link1 old new r.ending r.works before news
    r.stops in
    subst (λ c. Pumps w c left0 left1 link0 link1 old last) (sym same) (record {
      ending = more;
      works = grind (arith, news_works);
      finishes = grind (arith, full_begins, grows_past);
    })
closes_pumps w before after left0 left1 link0 link1 old new last r (NoTicket news same g tickets) =
    grind (arith, news_alone, worn_works)

pub closes_kept : (w : Wire) (e : PumpEnd) (k : Place) → is_known e ≡ true → Closes w e e k k
closes_kept w e k is = Kept is refl refl

pub closes_ended : (w : Wire) (e : PumpEnd) (k last : Place) → is_known e ≡ false
    → Ends w k last → Closes w e e k last
closes_ended w e k last is end =
    let h = ends_over w k last end in Ended is refl h.0 h.1 h.2 h.3

pub closes_worn : (w : Wire) (e : PumpEnd) (k last : Place) → is_known e ≡ false
    → WornOut k last → Closes w e ended.Worn k last
closes_worn w e k last is out = NoTicket is refl out.grows out.tickets

pub ruleset closing = (closes_kept, closes_ended, closes_worn)
