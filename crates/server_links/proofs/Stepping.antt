-- A step of the world in the code: its links stay those of the connections, and flow one after
-- another.
use Rattle.std.proofs.Common.{◌≡◌, ◌+◌, ◌<◌, ℕ, List, [], ◌∷◌, ◌++◌, Some, None}
use Rattle.std.proofs.Common.{Result, Ok, Err, length, slice_index_or, slice_set, refl, sym, ap}
use Rattle.std.proofs.Common.{cond, false, true, subst, ◌∙◌, arith, append-nil, length-set}
use Rattle.std.proofs.Common.{length-append, eq-eqb}
use Rattle.std.proofs.lemmas.Bool.{eqb-true, cases_lt}
use Rattle.std.proofs.lemmas.List.{get_or_read, get_or-set_same, get_or-set_other, get_or_push}
use Rattle.std.proofs.lemmas.List.{get_or_append_left}
use Rattle.serial_model.specs.declared.history.Entry.TheVariants as entry
use Rattle.serial_model.specs.declared.history.BookCall.TheVariants as call
use Rattle.serial_model.specs.History.{admitted, is_stopped}
use Rattle.serial_model.specs.Steps.{admitting as joining, book_step, stopped}
use Rattle.serial_model.proofs.Turning.{admit_step}
use Rattle.script_text.specs.declared.line.Line.TheVariants as line
use Rattle.server_links.specs.Turns.{AdmitGives}
use Rattle.server_links.specs.LinkSteps.{admitting, over, over_named, place_of, link_named}
use Rattle.server_links.specs.LinkSteps.{raw_step, step, stopped_number, StepGives}
use Rattle.server_links.specs.LinkEvent.{LinkEvent, Raw}
use Rattle.script_text.specs.declared.line.Line.{Line}
use Rattle.server_links.specs.declared.fault.WorldFault.{WorldFault}
use Rattle.server_links.specs.declared.fault.WorldFault.TheVariants.{NoName, NameTaken, NoMemory}
use Rattle.server_links.specs.declared.fault.WorldFault.TheVariants as fault
use Rattle.server_links.specs.declared.link.Link.{Link}
use Rattle.server_links.specs.ServerState.{ServerState}
use Rattle.server_links.specs.Outcome.{Outcome, Stops, Gives}
use Rattle.server_links.specs.Session.{Session, session, session_at, with_session, world}
use Rattle.server_links.specs.Moves.{move_of}
use Rattle.server_links.specs.LinksState.{AreNames, Fits, LinksState, at_place, fresh_link, names}
use Rattle.server_links.proofs.Outcomes.{Ends, stops_here, gives_within, gives_reached}
use Rattle.server_links.proofs.Carries.{Carries}
use Rattle.server_links.proofs.Moving.{Every, every_move}
use Rattle.server_links.proofs.NameLists.{name_place, named_more, named_set}
use Rattle.server_links.proofs.Events.{step_is}

-- a move over a link leaves each connection its link
pub move_fits : {A : Type 0} → (w : LinksState) (at : ℕ) → at < length w.links
    → (m : Outcome Session) → Every (session_at at w) m
    → (lines : List Line) (r : Result A WorldFault) (t : Session) (lines' : List Line)
    → Gives m lines r t lines' → Fits w.past w.links → Fits t.past (slice_set w.links at t.link)
move_fits w at below m every lines r t lines' g f =
    let h = gives_reached m lines r t lines' g in
    let c : Carries (session_at at w) t h.0 = every.carries.all t h.0 h.1 in
    grind (arith, length-set, slice_set, eqb-true, get_or-set_same, get_or-set_other, eq-eqb)

-- the session of the code's link is that of the world's
session_here : (at : ℕ) (server : ServerState) (links : List Link) (link : Link)
    → at < length links → link ≡ slice_index_or links at link → server.names ≡ names links
    → session server link ≡ session_at at (world server links)
session_here at server links link below is named =
    ap (session server) (get_or_read links at link below is (fresh_link 0 []))
    ∙ ap (λ ns. record {
      limits = server.book.limits;
      now = server.clock;
      past = server.book.past;
      names = ns;
      link = at_place links at;
    }) named

-- the code's links are those of the world's sessions
pub over_gives : {A : Type 0} → (at : ℕ) (move : Session
    → Outcome Session) (server new : ServerState) (links : List Link) (link link' : Link)
    (lines : List Line) (r : Result A WorldFault) (lines' : List Line)
    → at < length links → link ≡ slice_index_or links at link → server.names ≡ names links
    → Gives (move (session server link)) lines r (session new link') lines'
    → new.book.limits ≡ server.book.limits → new.clock ≡ server.clock
    → Gives (over at move (world server links)) lines r (world new (slice_set links at link'))
    lines'
unfolding over
over_gives at move server new links link link' lines r lines' below is named g limits clock =
    let w = world server links in
    let same = session_here at server links link below is named in
    let state : with_session at w (session new link') ≡ world new (slice_set links at link') =
    grind (arith, slice_set) in
    subst (λ x. Gives (over at move w) lines r x lines') state
    (gives_within (with_session at w) (move (session_at at w)) lines r (session new link') lines'
    (subst (λ x. Gives (move x) lines r (session new link') lines') same g))

-- ---- an event of one link

module _ (name : List ℕ) (event : LinkEvent) (names : link_named event ≡ Some name) where
  pub no_such_link : (w : LinksState) (lines : List Line) → place_of name w ≡ None
      → Stops (step w event) lines NoName w lines
  no_such_link w lines none =
      subst (λ m. Stops m lines NoName w lines)
      (sym (step_is w name event names ∙ ap (λ p. over_named p (move_of event) w) none)) (
        refl,
        refl,
        sym (append-nil lines),
      )

module _ (name : List ℕ) (event : LinkEvent) (own : link_named event
    ≡ Some name) (server : ServerState) (links : List Link) where
  module _ (at : ℕ) (place : place_of name (world server links)
      ≡ Some at) (below : at < length links) (new : ServerState) (link link' : Link) (is : link
      ≡ slice_index_or links at link) (named : server.names ≡ names links)
      (lines : List Line) (r : Result (Unit {0}) WorldFault) (lines' : List Line)
      (g : Gives (move_of event (session server link)) lines r (session new link') lines') where
    changed : (printed : List Line) × Carries (session server link) (session new link') printed
    changed = let h =
        gives_reached (move_of event (session server link)) lines r (session new link') lines' g in
        (h.0, (every_move event (session server link)).carries.all (session new link') h.0 h.1)

    pub step_gives : StepGives (world server links) event lines r
        (world new (slice_set links at link')) lines'
    step_gives =
        let w = world server links in
        subst (λ m. Gives m lines r (world new (slice_set links at link')) lines')
        (sym (step_is w name event own ∙ ap (λ p. over_named p (move_of event) w) place))
        (over_gives at (move_of event) server new links link link' lines r lines' below is named g
        changed.1.limits changed.1.now)

    step_fits : Fits server.book.past links → Fits new.book.past (slice_set links at link')
    step_fits f =
        let w = world server links in
        let same = session_here at server links link below is named in
        move_fits w at below (move_of event (session_at at w)) (every_move event (session_at at w))
        lines r (session new link') lines'
        (subst (λ x. Gives (move_of event x) lines r (session new link') lines') same g) f

    pub step_stands : Fits server.book.past links × AreNames server.names links
        → Fits new.book.past (slice_set links at link')
        × AreNames new.names (slice_set links at link')
    step_stands k =
        let there = get_or_read links at link below is (fresh_link 0 []) in (
          step_fits k.0,
          subst (λ ns. AreNames ns (slice_set links at link')) (sym changed.1.names)
              (named_set server.names links k.1 at link'
              (changed.1.named ∙ ap (λ (x : Link). x.name) there)),
        )

-- ---- a link is made

module _ (server : ServerState) (links : List Link) (name : List ℕ) (lines : List Line) where
  pub raw_taken : (at : ℕ) → place_of name (world server links) ≡ Some at
      → Stops (step (world server links) (Raw name)) lines NameTaken (world server links) lines
  unfolding step
  raw_taken at place = grind (arith, append-nil)

  module _ (free : place_of name (world server links) ≡ None) where
    raw_is : step (world server links) (Raw name)
        ≡ admitting (world server links) name (book_step server.book.limits server.book.past
        call.Admit)
    unfolding step
    raw_is = ap (λ p. raw_step (world server links) name p) free

    pub raw_before : Stops (step (world server links) (Raw name)) lines NoMemory
        (world server links) lines
    unfolding step
    raw_before = grind (arith, stops_here)

    -- a SHUTDOWN stopped the server
    pub raw_stopped : is_stopped server.book.limits server.book.past ≡ true
        → Stops (step (world server links) (Raw name)) lines (fault.Refused stopped_number)
        (world server links) lines
    unfolding book_step
    raw_stopped is =
        subst (λ m. Stops m lines (fault.Refused stopped_number) (world server links) lines)
        (sym (raw_is
        ∙ ap (λ b. admitting (world server links) name (cond b (stopped server.book.past)
        (joining server.book.past))) is))
        (refl, refl, sym (append-nil lines))

    made_named : (ns : List (List ℕ)) (id : ℕ) → AreNames ns links
        → AreNames (ns ++ name ∷ []) (links ++ fresh_link id name ∷ [])
    made_named ns id k =
        named_more ns links k (fresh_link id name)
        (name_place ns (world server links) k name ∙ free)

    module _ (new : ServerState) (x : Line) (lines' : List Line) (limits : new.book.limits
        ≡ server.book.limits) (clock : new.clock ≡ server.clock) where
      same_world : (ls : List Link) → world new ls
          ≡ record {
            limits = server.book.limits;
            now = server.clock;
            past = new.book.past;
            links =
                ls;
          }
      same_world ls = grind arith

      past_same : (fault : WorldFault) → AdmitGives server name x lines (Err fault) new lines'
          → (new.book.past ≡ server.book.past) × (new.names ≡ server.names) × (lines' ≡ lines)
      past_same NoMemory g = g
      past_same fault g = absurd g

      pub raw_stops : (fault : WorldFault) → AdmitGives server name x lines (Err fault) new lines'
          → Stops (step (world server links) (Raw name)) lines fault (world new links) lines'
      raw_stops NoMemory g =
          subst (λ w. Stops (step (world server links) (Raw name)) lines NoMemory w lines')
          (sym (same_world links ∙ ap (λ p. record {
            limits = server.book.limits;
            now = server.clock;
            past = p;
            links = links;
          }) g.0))
          (subst (λ ls. Stops (step (world server links) (Raw name)) lines NoMemory
          (world server links) ls) (sym g.2) raw_before)
      raw_stops fault g = absurd g

      pub raw_stands_still : (fault : WorldFault)
          → AdmitGives server name x lines (Err fault) new lines'
          → Fits server.book.past links × AreNames server.names links
          → Fits new.book.past links × AreNames new.names links
      raw_stands_still fault g k =
          let same = past_same fault g in (
            subst (λ p. Fits p links) (sym same.0) k.0,
            subst (λ ns. AreNames ns links) (sym same.1) k.1,
          )

      module _ (g : AdmitGives server name x lines (Ok (tt {0})) new lines')
          (on : is_stopped server.book.limits server.book.past ≡ false) (id : ℕ)
          (stand : Fits server.book.past links × AreNames server.names links)
          (is : id ≡ length links + 1)
          (line_is : x ≡ line.Admit (length server.book.past + 1) name id) where
        id_is : id ≡ admitted server.book.past + 1
        id_is = is ∙ ap (λ n. n + 1) stand.0.count

        pub raw_gives : Ends (step (world server links) (Raw name)) lines
            (world new (links ++ fresh_link id name ∷ [])) lines'
        raw_gives =
            subst (λ m. Ends m lines (world new (links ++ fresh_link id name ∷ [])) lines')
            (sym (raw_is ∙ ap (admitting (world server links) name)
            (admit_step server.book.limits server.book.past on))) (
              refl,
              same_world (links ++ fresh_link id name ∷ [])
                  ∙ ap (λ p. record {
                    limits = server.book.limits;
                    now = server.clock;
                    past = p;
                    links = links ++ fresh_link id name ∷ [];
                  }) g.0
                  ∙ ap (λ n. record {
                    limits = server.book.limits;
                    now = server.clock;
                    past = entry.Admit (admitted server.book.past + 1) ∷ server.book.past;
                    links = links ++ fresh_link n name ∷ [];
                  }) id_is,
              g.2 ∙ ap (λ y. lines ++ y ∷ []) line_is
                  ∙ ap (λ n. lines ++ line.Admit (length server.book.past + 1) name n ∷ []) id_is,
            )

        raw_fits : Fits new.book.past (links ++ fresh_link id name ∷ [])
        raw_fits =
            let fits = stand.0 in
            let past_is = g.0 in
            grind (arith, length-append, cases_lt, get_or_append_left, get_or_push)

        pub raw_stands : Fits new.book.past (links ++ fresh_link id name ∷ [])
            × AreNames new.names (links ++ fresh_link id name ∷ [])
        raw_stands = (
          raw_fits,
          subst (λ ns. AreNames ns (links ++ fresh_link id name ∷ [])) (sym g.1)
              (made_named server.names id stand.1),
        )
