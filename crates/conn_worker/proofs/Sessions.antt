-- A session begins, goes on, and ends as a visit.
use Rattle.std.proofs.Common.{◌≡◌, ◌∙◌, ℕ, List, [], ◌∷◌, Option, Some, None, true, sym, ap, subst}
use Rattle.std.proofs.Common.{refl, inr, arith, length, ◌<◌}
use Rattle.std.proofs.lemmas.Option.{same_Some}
use Rattle.resp_stream.specs.Stream.{begun}
use Rattle.resp_stream.proofs.Onward.{requests_begun, no_requests}
use Rattle.edge_links.specs.declared.counts.Counts.{Counts}
use Rattle.edge_links.proofs.Bytes.{consumes_none, appends_none}
use Rattle.serial_model.specs.History.{is_admitted}
use Rattle.turn_lock.specs.Own.{IsWithin, past_of}
use Rattle.turn_lock.proofs.Growing.{grows_none}
use Rattle.shared_book.specs.Turns.{Admits, Place}
use Rattle.shared_book.proofs.Histories.{admitted_now}
use Rattle.conn_worker.specs.declared.report.Report.{Report}
use Rattle.conn_worker.specs.declared.report.Ended.{Ended}
use Rattle.conn_worker.specs.declared.connection.Connection.{Connection}
use Rattle.conn_worker.specs.Visits.{EndCounts, Leaves, Standing, Visits, standing}
use Rattle.conn_worker.specs.Rounds.{Start}
use Rattle.conn_worker.specs.Complete.{EndShows}
use Rattle.conn_worker.specs.Serving.{Closing, EndRound, GoesOff, GoesOn, IsServed, NextRound}
use Rattle.conn_worker.specs.Serving.{Serving}
use Rattle.conn_worker.specs.Sessions.{IsInService, IsOfSeat, newest}
use Rattle.conn_worker.proofs.Complete.{ends_show}
use Rattle.conn_worker.proofs.Parting.{leaves_counts, leaves_dropped}
use Rattle.conn_worker.proofs.Serving.{works_admitted}

-- ---- what is noted of its beginning

pub newest_any : {A : Type 0} (a b : A) (xs : List A) → 0 < length xs → newest a xs ≡ newest b xs
newest_any a b [] lt = absurd (omega (arith, lt))
newest_any a b (x ∷ xs) lt = refl

pub start_same : {L : Type 0} (left contents : L → Option (List ℕ)) (counts : L → Counts)
    (l m : L) (ls : List L) (j k : Place) (ks : List Place) → 0 < length ls → 0 < length ks
    → standing (left (newest l ls)) (contents (newest l ls)) (counts (newest l ls)) (newest j ks)
    ≡ standing (left (newest m ls)) (contents (newest m ls)) (counts (newest m ls)) (newest k ks)
start_same left contents counts l m [] j k ks some lt = absurd (omega (arith, some))
start_same left contents counts l m (x ∷ xs) j k [] some lt = absurd (omega (arith, lt))
start_same left contents counts l m (x ∷ xs) j k (y ∷ ys) some lt = refl

-- ---- it begins

new_serving : (clock : Option ℕ) (c : Connection) (start : Standing)
    → c ≡ record { id = c.id; requests = 0; reader = begun } → IsWithin start.place
    → is_admitted (past_of start.place) c.id ≡ true → Serving clock c.id c start start
new_serving clock c start new within admitted =
    grind (arith, grows_none, consumes_none, requests_begun, no_requests, appends_none, Start)

is_admitted_now : (id : ℕ) (old new : Place) → Admits id old new
    → is_admitted (past_of new) id ≡ true
is_admitted_now id old new a = grind (arith, admitted_now)

no_end : (e : Ended) → None ≡ Some e → ⊥
no_end e is = cc

pub begins : (clock : Option ℕ) (c : Connection) (entered : Place) (start : Standing)
    → c ≡ record { id = c.id; requests = 0; reader = begun } → Admits c.id entered start.place
    → IsInService None clock c entered start start
begins clock c entered start new a = record {
  admits = a;
  serving = λ _. new_serving clock c start new a.grows.within
      (is_admitted_now c.id entered start.place a);
  closing = λ e is. absurd (no_end e is);
}

module _ {L : Type 0} (left contents : L → Option (List ℕ)) (counts : L → Counts)
    (clock : Option ℕ) (c : Connection) (l : L) (k e : Place) where
  abbrev Begun : List L → List Place → List Place → Type 0
  Begun ls ks es =
      (0 < length ls) × (0 < length ks) × (0 < length es)
      × IsInService None clock c (newest k es)
      (standing (left (newest l ls)) (contents (newest l ls)) (counts (newest l ls))
      (newest k ks))
      (standing (left l) (contents l) (counts l) k)

  pub session_begins : (id : ℕ) (ls more_ls : List L) (ks more_ks es more_es : List Place)
      → ls ≡ l ∷ more_ls → ks ≡ k ∷ more_ks → es ≡ e ∷ more_es
      → c ≡ record { id = id; requests = 0; reader = begun } → Admits id e k → Begun ls ks es
  session_begins id ls more_ls ks more_ks es more_es l_is k_is e_is new a =
      let same : c.id ≡ id = ap (λ (x : Connection). x.id) new in
      let begun : Begun (l ∷ more_ls) (k ∷ more_ks) (e ∷ more_es) = (
        omega arith,
        omega arith,
        omega arith,
        begins clock c e (standing (left l) (contents l) (counts l) k)
            (new ∙ ap (λ n. named n) (sym same)) (subst (λ n. Admits n e k) (sym same) a),
      ) in
      subst (λ z. Begun z ks es) (sym l_is)
      (subst (λ z. Begun (l ∷ more_ls) z es) (sym k_is)
      (subst (λ z. Begun (l ∷ more_ls) (k ∷ more_ks) z) (sym e_is) begun))
    where
      named : ℕ → Connection
      named n = record { id = n; requests = 0; reader = begun }

pub enters : (id : ℕ) (old new : Place) → Admits id old new → IsOfSeat old new
enters id old new a = (a.grows.lock, a.grows.setup, a.grows.parts)

-- ---- it goes on

module _ (clock : Option ℕ) (c : Connection) (entered : Place) (start now : Standing)
    (s : IsInService None clock c entered start now) where
  pub serves : IsServed clock c now
  serves = record { id = c.id; start = start; serving = s.serving refl }

  module _ (after : Connection) (next : Standing) (same : after.id ≡ c.id) where
    admits_still : Admits after.id entered start.place
    admits_still = subst (λ n. Admits n entered start.place) (sym same) s.admits

    pub serves_on : GoesOn clock c after now next
        → IsInService None clock after entered start next
    serves_on g = record {
      admits = admits_still;
      serving = λ _. subst (λ n. Serving clock n after start next) (sym same)
          (g c.id start (s.serving refl)).0;
      closing = λ e is. absurd (no_end e is);
    }

    pub serves_off : (cause : Ended) → GoesOff clock cause c after now next
        → IsInService (Some cause) clock after entered start next
    serves_off cause g = record {
      admits = admits_still;
      serving = λ is. absurd (no_end cause (sym is));
      closing = λ e is. (
        now,
        subst (λ z. Closing clock z after.id after.requests start now next)
            (same_Some cause e is)
            (subst (λ n. Closing clock cause n after.requests start now next) (sym same)
            (g c.id start (s.serving refl))),
      );
    }

    pub stays_on : GoesOn clock c after now next → IsOfSeat now.place next.place
    stays_on g =
        let a = (s.serving refl).grows in
        let b = (g c.id start (s.serving refl)).0.grows in
        (b.lock ∙ sym a.lock, b.setup ∙ sym a.setup, b.parts ∙ sym a.parts)

    pub stays_off : (cause : Ended) → GoesOff clock cause c after now next
        → IsOfSeat now.place next.place
    stays_off cause g =
        let a = (s.serving refl).grows in
        let b = (g c.id start (s.serving refl)).works.grows in
        (b.lock ∙ sym a.lock, b.setup ∙ sym a.setup, b.parts ∙ sym a.parts)

-- the same, of what is noted of its beginning
module _ (clock : Option ℕ) (ended : Option Ended) (c : Connection) (entered : Place)
    (start now : Standing) (on : ended ≡ None) (s : IsInService ended clock c entered start now)
  where
    here : IsInService None clock c entered start now
    here = subst (λ z. IsInService z clock c entered start now) on s

    pub session_serves : IsServed clock c now
    session_serves = serves clock c entered start now here

    module _ (after : Connection) (next : Standing) (same : after.id ≡ c.id) where
      module _ (k : Place) (first : Standing) (k_is : k ≡ entered) (first_is : first ≡ start) where
        noted : {e : Option Ended} → IsInService e clock after entered start next
            → IsInService e clock after k first next
        noted {e} h =
            subst (λ z. IsInService e clock after z first next) (sym k_is)
            (subst (λ z. IsInService e clock after entered z next) (sym first_is) h)

        pub session_on : GoesOn clock c after now next → IsInService ended clock after k first next
        session_on g =
            subst (λ z. IsInService z clock after k first next) (sym on)
            (noted (serves_on clock c entered start now here after next same g))

        pub session_off : (cause : Ended) → GoesOff clock cause c after now next
            → IsInService (Some cause) clock after k first next
        session_off cause g =
            noted (serves_off clock c entered start now here after next same cause g)

      pub session_stays_on : GoesOn clock c after now next → IsOfSeat now.place next.place
      session_stays_on g = stays_on clock c entered start now here after next same g

      pub session_stays_off : (cause : Ended) → GoesOff clock cause c after now next
          → IsOfSeat now.place next.place
      session_stays_off cause g =
          stays_off clock c entered start now here after next same cause g

      pub session_next : GoesOn clock c after now next → NextRound clock c.id start now next
      session_next g = (g c.id start (here.serving refl)).1

      pub session_last : (cause : Ended) → GoesOff clock cause c after now next
          → EndRound clock cause c.id start now next
      session_last cause g = (g c.id start (here.serving refl)).round

-- ---- it ends

module _ (clock : Option ℕ) (ended : Option Ended) (c : Connection) (entered : Place)
    (start now : Standing) (cause : Ended) (is : ended ≡ Some cause)
    (s : IsInService ended clock c entered start now) where
  abbrev pub before : Standing
  before = (s.closing cause is).0

  closes : Closing clock cause c.id c.requests start before now
  closes = (s.closing cause is).1

  pub ends_within : IsWithin now.place
  ends_within = closes.works.grows.within

  pub ends_admitted : is_admitted (past_of now.place) c.id ≡ true
  ends_admitted = works_admitted _ _ c.id _ _ _ _ _ _ _ _ _ s.admits refl closes.works

  module _ (e : Ended) (new : Place) (l : Leaves cause e c.id now.place new) where
    pub ends_visit : Visits clock (record { id = c.id; requests = c.requests; ended = e })
        start.left now.left start.contents now.contents entered new
    ends_visit = inr (record {
      first = start.place;
      last = now.place;
      cause = cause;
      admits = s.admits;
      works = closes.works;
      leaves = l;
      dropped = leaves_dropped _ _ _ _ _ closes.works.turns _ closes.works.heard
          closes.works.work closes.works.shown l;
    })

    pub ends_counts : EndCounts e start.counts now.counts
    ends_counts = leaves_counts _ _ _ _ _ _ _ l closes.counts

    pub ends_complete : EndShows e (record { id = c.id; requests = c.requests; ended = e })
        start.left now.left start.counts now.counts new
    ends_complete = ends_show clock _ _ _ _ _ _ _ _ _ ends_visit ends_counts
