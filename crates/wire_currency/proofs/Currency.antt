-- The theorem on currency, over any wires.
use Rattle.std.proofs.Common.{◌≡◌, ◌+◌, ◌-◌, ◌<◌, ◌≤◌, ℕ, suc, List, length, true, false}
use Rattle.std.proofs.Common.{refl, ap, sym, ◌∙◌, arith, Some, subst, inl, inr, drop, max}
use Rattle.std.specs.Prelude.{slice_get}
use Rattle.std.proofs.lemmas.Bool.{cases_lt}
use Rattle.std.proofs.lemmas.Option.{same_Some, slice_get_within}
use Rattle.wire_currency.specs.Traffic.{Traffic, Meets, SentLaws, replies}
use Rattle.wire_currency.specs.Fetch.{Fetch, LogLaws, EntryLaws, Handshake}
use Rattle.wire_currency.specs.Current.{complete_on, complete, named, point}
use Rattle.wire_currency.specs.Current.{IsCurrent, HasPoint, Currency, PointApart}
use Rattle.wire_currency.proofs.Lists.{at_place, least_below, least_from}
use Rattle.wire_currency.proofs.Replies.{reply_now, run_is_command}
use Rattle.wire_currency.proofs.Fetched.{behind_fetch, runs_query, voided_before}
use Rattle.wire_currency.proofs.Covered.{Pending, covered, Steady, not_got}
use Rattle.wire_currency.proofs.Complete.{open_is, waits_after, got_by, complete_le}
use Rattle.wire_currency.proofs.Named.{NamedReply, named_reply, named_le, none_later, point_apart}

module _ {Wire Log Words Value Message Answer : Type 0} (IsGot : Value → Message → Type 0)
    (x : Traffic Wire Log Words Value Message) (f : Fetch Wire Words Value Answer)
    (log : List Log) (meets : Meets IsGot x log) (laws : LogLaws x f log)
    (order : SentLaws IsGot x) where
  -- on one wire what was got is complete, save perhaps the entry that it was sent at
  got_complete : x.is_alone ≡ true → (i : ℕ) (s : ℕ × Message)
      → i < length (x.gots f.home log) → slice_get (x.sent f.home) i ≡ Some s
      → s.0 ≤ complete x log + 1
  got_complete alone i s lt there =
      let le = (order.in_order.sent_within f.home laws.home_is i s there).1 in
      let by = got_by IsGot x log order.in_order f.home laws.home_is i s lt there
      (drop (length (x.gots f.home log)) (x.sent f.home)) refl in
      let home = open_is x log f.home (laws.open_wires f.home (laws.home_watched alone)) in
      let all = least_from (complete_on x log) x.last (s.0 - 1) x.wires (omega (arith, le))
      (λ w has. subst (λ u. s.0 - 1 ≤ complete_on x log u) (sym (laws.alone alone w has))
      (omega (arith, by, home))) in
      omega (arith, all)

  -- the entry that ran the fetch whose reply was got
  pub ran_where_replied : (v : Value) → slice_get (replies x f.home log) f.place ≡ Some v
      → (at : ℕ) × (slice_get (x.entries f.home) f.place ≡ Some at) × (at ≤ x.last)
  ran_where_replied v e =
      let k = reply_now IsGot x log meets order f.home laws.home_is f.place v e in (
        k.sending.0,
        k.entry,
        (order.in_order.sent_within f.home laws.home_is k.place k.sending k.there).1,
      )

  module _ (AsAsked Remembered : ℕ → Type 0) (at : ℕ) (within : at ≤ x.last)
      (run : slice_get (x.entries f.home) f.place ≡ Some at)
      (entry : EntryLaws IsGot x f AsAsked Remembered at)
      (handshake : Handshake x.last AsAsked Remembered at) (v : Value)
      (reply : slice_get (replies x f.home log) f.place ≡ Some v) where
    -- what waits was sent at an entry that is not complete
    none_pending : (n : ℕ) → n ≤ complete x log
        → Pending IsGot x f AsAsked Remembered at log meets laws order entry handshake run n → ⊥
    none_pending n le p =
        let has = laws.watched_in p.wire p.watched in
        let after = waits_after IsGot x log order.in_order p.wire has n p.place p.sending p.there
        p.waits
        p.by (drop (length (x.gots p.wire log)) (x.sent p.wire)) refl in
        let is = open_is x log p.wire (laws.open_wires p.wire p.watched) in
        let below = least_below (complete_on x log) x.last x.wires p.wire has in
        omega (arith, after, is, below, le)

    stands : (r : ℕ) → at ≤ r → r ≤ complete x log
        → Steady IsGot x f AsAsked Remembered at log meets laws order entry handshake run r
    stands r from le =
        elim (covered IsGot x f AsAsked Remembered at log meets laws order entry handshake run r
        from (omega (arith, le, complete_le IsGot x log order.in_order))) [
          | inl steady ↦ steady
          | inr waits ↦ absurd (none_pending r le waits)
        ]

    value_at_run : f.shown v ≡ f.answer at
    value_at_run =
        let k = reply_now IsGot x log meets order f.home laws.home_is f.place v reply in
        entry.read_replies run
        (runs_query IsGot x f log meets laws order at run) handshake.remembered
        (handshake.as_asked at (omega arith) within) k.sending v k.replied k.is

    steady : (r : ℕ) → at ≤ r → r ≤ complete x log → f.shown v ≡ f.answer r
    steady r from le = value_at_run ∙ sym ((stands r from le).1)

    pub current : IsCurrent x f log v
    current p r ran from le =
        let same : at ≡ p = same_Some at p (sym run ∙ ran) in
        steady r (omega (arith, same, from)) le

    -- ---- the point of a hit

    -- on one wire the answer at its entry is what it was
    after_reply : x.is_alone ≡ true → (r : ℕ) → at < r → complete x log < r
        → NamedReply IsGot x f log meets laws order r → f.shown v ≡ f.answer r
    after_reply alone r lt above q =
        let home = laws.alone alone q.wire (laws.data_in q.wire q.is_data) in
        let e : slice_get (x.entries f.home) q.place ≡ Some r =
        subst (λ w. slice_get (x.entries w) q.place ≡ Some r) home q.ran_at in
        let ran : slice_get (x.runs f.home) q.place ≡ Some q.words =
        subst (λ w. slice_get (x.runs w) q.place ≡ Some q.words) home q.ran in
        let got : q.place < length (replies x f.home log) =
        subst (λ w. q.place < length (replies x w log)) home q.got in
        let u = at_place (replies x f.home log) q.place got in
        let g = reply_now IsGot x log meets order f.home laws.home_is q.place u.0 u.1 in
        let here = slice_get_within (x.gots f.home log) g.place u.0 g.got in
        let by = got_complete alone g.place g.sending here g.there in
        let c = complete x log in
        let number : g.sending.0 ≡ r = same_Some g.sending.0 r (sym g.entry ∙ e) in
        let next : r ≡ suc c = omega (arith, by, above, number) in
        let from : at ≤ c = omega (arith, next, lt) in
        let full = (order.in_order.sent_within f.home laws.home_is g.place g.sending g.there).1 in
        let short : c < x.last = omega (arith, next, full, number) in
        let unwritten = laws.no_later_write q.place q.words
        (behind_fetch IsGot x f log meets laws order at run q.place r lt e)
        (run_is_command IsGot x log meets order f.home laws.home_is q.place q.words ran) in
        elim (entry.before_the_reply alone c q.place g.place q.words g.sending from short
        (handshake.as_asked c from (complete_le IsGot x log order.in_order))
        ((stands c from (omega arith)).0) (e ∙ ap Some next) ran unwritten g.there
        (number ∙ next) g.is_reply) [
          | inl same ↦ steady c from (omega arith) ∙ sym same ∙ ap f.answer (sym next)
          | inr ahead ↦
              let before = ahead.1 in
              absurd (not_got IsGot x f AsAsked Remembered at log meets laws order entry handshake
              run f.home laws.home_is (suc c) (omega (arith, from)) ahead.0
              (omega (arith, before, here)))
        ]

    answers : f.shown v ≡ f.answer (point x f log at)
    answers =
        let c = complete x log in
        let q = named x log f.names in
        elim (cases_lt (max at c) q) [
          | inl lt ↦
              let l = named_reply IsGot x f log meets laws order (omega (arith, lt)) in
              let is : q ≡ point x f log at = omega (arith, lt) in
              elim (x.is_alone) as (λ b. x.is_alone ≡ b → f.shown v ≡ f.answer (point x f log at)) [
                | true ↦ λ alone.
                    after_reply alone q (omega (arith, lt)) (omega (arith, lt)) l ∙ ap f.answer is
                | false ↦ λ apart.
                    absurd (none_later IsGot x f log meets laws order at run apart q
                    (omega (arith, lt)) l)
              ] refl
          | inr le ↦
              elim (cases_lt c at) [
                | inl lt ↦
                    let is : at ≡ point x f log at = omega (arith, lt, le) in
                    value_at_run ∙ ap f.answer is
                | inr ge ↦
                    let is : c ≡ point x f log at = omega (arith, ge, le) in
                    steady c ge (omega arith) ∙ ap f.answer is
              ]
        ]

    pub has_point : HasPoint x f log v
    has_point = record {
      fetched = at;
      ran = run;
      answers = answers;
      within =
          let last = named_le IsGot x f log meets laws order in
          let c = complete_le IsGot x log order.in_order in
          omega (arith, within, last, c);
      after = λ w has i u s got voided there.
          let b = voided_before IsGot x f log meets laws order at run w has i u s got voided
          there in
          omega (arith, b);
    }

module _ {Wire Log Words Value Message Answer : Type 0} (IsGot : Value → Message → Type 0)
    (AsAsked Remembered : ℕ → Type 0) where
  -- the reply to an open fetch is current, and a hit on it has its point
  pub currency : Currency Wire Log Words Value Message Answer IsGot AsAsked Remembered
  currency x f log meets laws order ran v reply =
      let at = ran_where_replied IsGot x f log meets laws order v reply in
      let both = ran at.0 at.1 in (
        current IsGot x f log meets laws order AsAsked Remembered at.0 at.2 at.1 both.0 both.1 v
            reply,
        has_point IsGot x f log meets laws order AsAsked Remembered at.0 at.2 at.1 both.0 both.1 v
            reply,
      )

pub points_apart : {Wire Log Words Value Message Answer : Type 0}
    (IsGot : Value → Message → Type 0)
    → PointApart Wire Log Words Value Message Answer IsGot
points_apart IsGot x f log meets laws order apart at run =
    point_apart IsGot x f log meets laws order at run apart
