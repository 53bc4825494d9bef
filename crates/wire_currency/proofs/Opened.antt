-- The laws of a log, for a fetch that is open in it, from what single entries do: one induction on
-- the entries since it was sent, for every form of log.
use Rattle.std.proofs.Common.{◌≡◌, ◌<◌, ◌≤◌, ℕ, suc, List, [], ◌∷◌, ◌++◌, length, Bool, true}
use Rattle.std.proofs.Common.{false, refl, ap, sym, ◌∙◌, arith, Some, subst, ◌⊎◌, inl, inr}
use Rattle.std.proofs.Common.{append-nil, append_assoc}
use Rattle.std.specs.Prelude.{slice_get}
use Rattle.std.proofs.lemmas.Bool.{both_ways, cases_lt}
use Rattle.std.proofs.lemmas.Option.{same_Some, slice_get_within}
use Rattle.wire_currency.specs.Traffic.{In, Traffic, IsPrefix, replies}
use Rattle.wire_currency.specs.Fetch.{Fetch}
use Rattle.wire_currency.specs.Opened.{StepLaws, IsSpared, StepsGiveLaws}
use Rattle.wire_currency.proofs.Lists.{get_front, get_parts, get_one, at_place}

module _ {Wire Log Words Value Message Answer : Type 0}
    (x : Traffic Wire Log Words Value Message) (f : Fetch Wire Words Value Answer)
    (ends : List Log → Log → Bool) (Legal : List Log → Type 0) where
  module _ (steps : StepLaws x f ends Legal) (asking : List Log) where
    not_ended : (later : List Log) (e : Log) → IsSpared ends asking (e ∷ later)
        → ends (later ++ asking) e ≡ true → ⊥
    not_ended later e s h = both_ways (ends (later ++ asking) e) s.0 h

    nothing_got : (w : Wire) → In w x.wires → (later : List Log) → IsSpared ends asking later
        → (i : ℕ) (v : Value) → slice_get (x.gots w (later ++ asking)) i ≡ Some v
        → (i < length (x.gots w asking)) ⊎ (f.voids w v ≡ false)
    nothing_got w has [] s i v at = inl (slice_get_within (x.gots w asking) i v at)
    nothing_got w has (e ∷ later) s i v at =
        elim (steps.got w has (later ++ asking) e) [
          | inl same ↦
              nothing_got w has later s.1 i v (ap (λ vs. slice_get vs i) (sym same) ∙ at)
          | inr one ↦
              elim (get_parts (x.gots w (later ++ asking)) (one.value ∷ []) i v
              (ap (λ vs. slice_get vs i) (sym one.is) ∙ at)) [
                | inl front ↦ nothing_got w has later s.1 i v front
                | inr last ↦
                    let is = (get_one one.value last.at v last.there).1 in
                    elim (f.voids w one.value) as (λ b. f.voids w one.value ≡ b
                    → (i < length (x.gots w asking)) ⊎ (f.voids w v ≡ false)) [
                      | true ↦ λ h. absurd (not_ended later e s (one.ended h))
                      | false ↦ λ h. inr (ap (f.voids w) (sym is) ∙ h)
                    ] refl
              ]
        ]

    gots_grow : (w : Wire) → In w x.wires → (later : List Log)
        → IsPrefix (x.gots w asking) (x.gots w (later ++ asking))
    gots_grow w has [] = ([], append-nil (x.gots w asking))
    gots_grow w has (e ∷ later) =
        let r = gots_grow w has later in
        elim (steps.got w has (later ++ asking) e) [
          | inl same ↦ (r.0, r.1 ∙ sym same)
          | inr one ↦ (
            r.0 ++ one.value ∷ [],
            sym (append_assoc (x.gots w asking) r.0 (one.value ∷ []))
                ∙ ap (λ vs. vs ++ one.value ∷ []) r.1 ∙ sym one.is,
          )
        ]

    puts_grow : (later : List Log) → Legal (later ++ asking)
        → IsPrefix (x.commands f.home asking) (x.commands f.home (later ++ asking))
    puts_grow [] legal = ([], append-nil (x.commands f.home asking))
    puts_grow (e ∷ later) legal =
        let r = puts_grow later (steps.older (later ++ asking) e legal) in
        let p = steps.put (later ++ asking) e legal in (
          r.0 ++ p.new,
          sym (append_assoc (x.commands f.home asking) r.0 p.new) ∙ ap (λ cs. cs ++ p.new) r.1
              ∙ sym p.is,
        )

    open_wires : (w : Wire) → In w f.watched → x.over w asking ≡ false → (later : List Log)
        → IsSpared ends asking later → x.over w (later ++ asking) ≡ false
    open_wires w has lives [] s = lives
    open_wires w has lives (e ∷ later) s =
        elim (x.over w (e ∷ (later ++ asking))) as (λ b. x.over w (e ∷ (later ++ asking)) ≡ b
        → b ≡ false) [
          | true ↦ λ h.
              elim (steps.overs w has (later ++ asking) e h) [
                | inl before ↦
                    absurd (both_ways (x.over w (later ++ asking))
                    (open_wires w has lives later s.1) before)
                | inr ended ↦ absurd (not_ended later e s ended)
              ]
          | false ↦ λ h. refl
        ] refl

    no_later_write : length (x.commands f.home asking) ≤ suc f.place → (later : List Log)
        → IsSpared ends asking later → Legal (later ++ asking) → (j : ℕ) (ws : Words) → f.place < j
        → slice_get (x.commands f.home (later ++ asking)) j ≡ Some ws → f.writes ws ≡ false
    no_later_write last [] s legal j ws lt at =
        let within = slice_get_within (x.commands f.home asking) j ws at in
        absurd (let no : ⊥ = omega (arith, within, last, lt) in no)
    no_later_write last (e ∷ later) s legal j ws lt at =
        let p = steps.put (later ++ asking) e legal in
        elim (get_parts (x.commands f.home (later ++ asking)) p.new j ws
        (ap (λ cs. slice_get cs j) (sym p.is) ∙ at)) [
          | inl front ↦
              no_later_write last later s.1 (steps.older (later ++ asking) e legal) j ws lt front
          | inr new ↦
              elim (f.writes ws) as (λ b. f.writes ws ≡ b → b ≡ false) [
                | true ↦ λ h. absurd (not_ended later e s (p.ended new.at ws new.there h))
                | false ↦ λ h. refl
              ] refl
        ]

    no_later_reply : x.is_alone ≡ false → (w : Wire) → In w x.data_wires → (later : List Log)
        → IsSpared ends asking later → Legal (later ++ asking) → (j : ℕ) (ws : Words)
        → j < length (replies x w (later ++ asking))
        → slice_get (x.commands w (later ++ asking)) j ≡ Some ws → f.names ws ≡ true
        → (j < length (replies x w asking)) ⊎ ((w ≡ f.home) × (j ≤ f.place))
    no_later_reply apart w has [] s legal j ws lt at names = inl lt
    no_later_reply apart w has (e ∷ later) s legal j ws lt at names =
        let before = later ++ asking in
        let was = steps.older before e legal in
        elim (cases_lt j (length (replies x w before))) [
          | inl early ↦
              let within = steps.replies_within apart w has before was in
              let c = at_place (x.commands w before) j (omega (arith, early, within)) in
              let grown = steps.commands_grow w has before e legal in
              let same : c.0 ≡ ws =
              same_Some c.0 ws
              (sym (get_front (x.commands w before) grown.0 j c.0 c.1)
              ∙ ap (λ cs. slice_get cs j) grown.1 ∙ at) in
              no_later_reply apart w has later s.1 was j ws early (c.1 ∙ ap Some same) names
          | inr new ↦
              elim (steps.replied apart w has before e legal j ws new lt at names) [
                | inl front ↦ inr front
                | inr ended ↦ absurd (not_ended later e s ended)
              ]
        ]

-- what an open fetch was sent by, and the laws of its log
pub opened_laws : {Wire Log Words Value Message Answer : Type 0} (Legal : List Log → Type 0)
    → StepsGiveLaws Wire Log Words Value Message Answer Legal
opened_laws Legal x f ends log wires steps legal o =
    let asking = o.ask ∷ o.sooner in
    let now = subst Legal o.log_is legal in record {
      home_is = wires.home_is;
      watched_in = wires.watched_in;
      data_in = wires.data_in;
      open_wires =
          λ w has. subst (λ g. x.over w g ≡ false) (sym o.log_is)
          (open_wires x f ends Legal steps asking w has (o.lives w has) o.later o.spared);
      sooner = o.sooner;
      ask = o.ask;
      later = o.later;
      log_is = o.log_is;
      not_yet_sent = o.not_yet_sent;
      place_is_query =
          let p = puts_grow x f ends Legal steps asking o.later now in
          subst (λ g. slice_get (x.commands f.home g) f.place ≡ Some f.query) (sym o.log_is)
          (ap (λ cs. slice_get cs f.place) (sym p.1)
          ∙ get_front (x.commands f.home asking) p.0 f.place f.query o.is_query);
      nothing_got =
          λ w has i v at. nothing_got x f ends Legal steps asking w has o.later o.spared i v
          (ap (λ g. slice_get (x.gots w g) i) (sym o.log_is) ∙ at);
      no_later_write =
          λ j ws lt at. no_later_write x f ends Legal steps asking o.is_last o.later o.spared now j
          ws lt (ap (λ g. slice_get (x.commands f.home g) j) (sym o.log_is) ∙ at);
      no_later_reply =
          λ apart w has j ws lt at names. no_later_reply x f ends Legal steps asking apart w has
          o.later o.spared now j ws (subst (λ g. j < length (replies x w g)) o.log_is lt)
          (ap (λ g. slice_get (x.commands w g) j) (sym o.log_is) ∙ at) names;
      alone = wires.alone;
      home_watched = wires.home_watched;
      replies_counted = λ w has. steps.replies_counted w has log;
      gots_grow =
          λ w has. subst (λ g. IsPrefix (x.gots w asking) (x.gots w g)) (sym o.log_is)
          (gots_grow x f ends Legal steps asking w has o.later);
    }
