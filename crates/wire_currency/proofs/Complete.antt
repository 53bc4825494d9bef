-- How far a client has processed what was sent to it: exactly, by what it got.
use Rattle.std.proofs.Common.{◌≡◌, ◌+◌, ◌-◌, ◌<◌, ◌≤◌, ◌⊎◌, ℕ, zero, suc, List, [], ◌∷◌, length}
use Rattle.std.proofs.Common.{true, false, cond, refl, ap, sym, ◌∙◌, arith, Some, inl, inr, drop}
use Rattle.std.specs.Prelude.{slice_get}
use Rattle.std.proofs.lemmas.Bool.{cases_lt}
use Rattle.std.proofs.lemmas.Option.{slice_get_within}
use Rattle.wire_currency.specs.Traffic.{In, Traffic, AreGot, Meets, SentInOrder}
use Rattle.wire_currency.specs.Current.{before_first, complete_on, complete}
use Rattle.wire_currency.specs.Complete.{AllGot, WaitsFrom, CompleteOn, CompletesExactly}
use Rattle.wire_currency.proofs.Lists.{get_dropped, nothing_dropped}
use Rattle.wire_currency.proofs.Lists.{least_le, least_below, least_is}

-- ---- lists

no_more_got : {Value Message : Type 0} (IsGot : Value → Message → Type 0) (vs : List Value)
    (ss : List (ℕ × Message)) → AreGot IsGot vs ss → length vs ≤ length ss
no_more_got IsGot [] ss a = omega arith
no_more_got IsGot (v ∷ vs) [] a = absurd a
no_more_got IsGot (v ∷ vs) (s ∷ ss) a =
    let r = no_more_got IsGot vs ss a.1 in omega (arith, r)

-- where so many are got, the entries before the first that is not
first_left : {Message : Type 0} (n : ℕ) (ss : List (ℕ × Message)) (all : ℕ) → n ≤ length ss
    → ((i : ℕ) (s : ℕ × Message) → slice_get ss i ≡ Some s → 0 < s.0)
    → ((n ≡ length ss) × (before_first (drop n ss) all ≡ all))
    ⊎ ((what : Message) × (slice_get ss n ≡ Some (before_first (drop n ss) all + 1, what)))
first_left zero [] all le pos = inl (refl, refl)
first_left zero (s ∷ ss) all le pos =
    let p = pos 0 s refl in
    let e : s.0 ≡ before_first (s ∷ ss) all + 1 = omega (arith, p) in
    inr (s.1, ap (λ k. Some (k, s.1)) e)
first_left (suc n) [] all le pos = absurd (let no : ⊥ = omega (arith, le) in no)
first_left (suc n) (s ∷ ss) all le pos =
    elim (first_left n ss all (omega (arith, le)) (λ i t e. pos (suc i) t e)) [
      | inl whole ↦ inl (ap suc whole.0, whole.1)
      | inr part ↦ inr part
    ]

-- ---- on a wire

module _ {Wire Log Words Value Message : Type 0} (x : Traffic Wire Log Words Value Message)
    (log : List Log) where
  pub open_is : (w : Wire) → x.over w log ≡ false
      → complete_on x log w ≡ before_first (drop (length (x.gots w log)) (x.sent w)) x.last
  open_is w h =
      ap (λ b. cond b x.last (before_first (drop (length (x.gots w log)) (x.sent w)) x.last)) h

module _ {Wire Log Words Value Message : Type 0} (IsGot : Value → Message → Type 0)
    (x : Traffic Wire Log Words Value Message) (log : List Log) (order : SentInOrder IsGot x) where
  pub waits_after : (w : Wire) → In w x.wires → (n place : ℕ) (s : ℕ × Message)
      → slice_get (x.sent w) place ≡ Some s → length (x.gots w log) ≤ place → s.0 ≤ n
      → (ss : List (ℕ × Message)) → drop (length (x.gots w log)) (x.sent w) ≡ ss
      → before_first ss x.last < n
  waits_after w has n place s there le by [] e =
      let short = nothing_dropped (length (x.gots w log)) (x.sent w) e in
      let within = slice_get_within (x.sent w) place s there in
      absurd (let no : ⊥ = omega (arith, short, within, le) in no)
  waits_after w has n place s there le by (t ∷ ss) e =
      let at = get_dropped (length (x.gots w log)) (x.sent w) ss t e in
      let o = order.sent_order w has (length (x.gots w log)) place t s le at there in
      let pos = (order.sent_within w has (length (x.gots w log)) t at).0 in
      omega (arith, o, pos, by)

  pub got_by : (w : Wire) → In w x.wires → (i : ℕ) (s : ℕ × Message)
      → i < length (x.gots w log) → slice_get (x.sent w) i ≡ Some s
      → (ss : List (ℕ × Message)) → drop (length (x.gots w log)) (x.sent w) ≡ ss
      → s.0 - 1 ≤ before_first ss x.last
  got_by w has i s lt there [] e =
      let le = (order.sent_within w has i s there).1 in omega (arith, le)
  got_by w has i s lt there (t ∷ ss) e =
      let at = get_dropped (length (x.gots w log)) (x.sent w) ss t e in
      let o = order.sent_order w has i (length (x.gots w log)) s t (omega (arith, lt)) there at in
      omega (arith, o)

  before_le : (w : Wire) → In w x.wires → (ss : List (ℕ × Message))
      → drop (length (x.gots w log)) (x.sent w) ≡ ss → before_first ss x.last ≤ x.last
  before_le w has [] e = omega arith
  before_le w has (t ∷ ss) e =
      let at = get_dropped (length (x.gots w log)) (x.sent w) ss t e in
      let le = (order.sent_within w has (length (x.gots w log)) t at).1 in omega (arith, le)

  on_le : (w : Wire) → In w x.wires → complete_on x log w ≤ x.last
  on_le w has =
      let ss = drop (length (x.gots w log)) (x.sent w) in
      let le = before_le w has ss refl in
      elim (x.over w log) as (λ b. cond b x.last (before_first ss x.last) ≤ x.last) [
        | true ↦ omega arith
        | false ↦ le
      ]

  -- ---- on all wires

  pub complete_le : complete x log ≤ x.last
  complete_le = least_le (complete_on x log) x.last x.wires on_le

  -- ---- exactly

  module _ (meets : Meets IsGot x log) (w : Wire) (has : In w x.wires) where
    live_parts : x.over w log ≡ false
        → (AllGot x log w × (complete_on x log w ≡ x.last))
        ⊎ WaitsFrom x log w (complete_on x log w + 1)
    live_parts f =
        elim (first_left (length (x.gots w log)) (x.sent w) x.last
        (no_more_got IsGot (x.gots w log) (x.sent w) (meets.came w has))
        (λ i s e. (order.sent_within w has i s e).0)) [
          | inl whole ↦ inl (whole.0, open_is x log w f ∙ whole.1)
          | inr part ↦
              inr (part.0, part.1 ∙ ap (λ k. Some (k + 1, part.0)) (sym (open_is x log w f)))
        ]

    is_got : x.over w log ≡ false → (i : ℕ) (s : ℕ × Message)
        → slice_get (x.sent w) i ≡ Some s → s.0 ≤ complete_on x log w
        → i < length (x.gots w log)
    is_got f i s e le =
        elim (cases_lt i (length (x.gots w log))) [
          | inl lt ↦ lt
          | inr ge ↦
              let after = waits_after w has s.0 i s e ge (omega arith)
              (drop (length (x.gots w log)) (x.sent w)) refl in
              let is = open_is x log w f in
              absurd (let no : ⊥ = omega (arith, after, is, le) in no)
        ]

    pub exact_on : CompleteOn x log w
    exact_on = record {
      over =
          λ e. ap (λ b. cond b x.last
          (before_first (drop (length (x.gots w log)) (x.sent w)) x.last)) e;
      live = live_parts;
      got = is_got;
    }

pub completes_exactly : {Wire Log Words Value Message : Type 0}
    (IsGot : Value → Message → Type 0) → CompletesExactly Wire Log Words Value Message IsGot
completes_exactly IsGot x log w has meets order = record {
  on = λ u i. exact_on IsGot x log order meets u i;
  least = λ u i. least_below (complete_on x log) x.last x.wires u i;
  reached = least_is (complete_on x log) x.last x.wires w has;
}
