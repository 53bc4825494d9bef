-- What was got since a fetch was sent, and what ran behind it.
use Rattle.std.proofs.Common.{◌≡◌, ◌<◌, ◌≤◌, ℕ, List, ◌∷◌, length, true, false, arith, Some}
use Rattle.std.proofs.Common.{inl, inr, sym, ◌∙◌}
use Rattle.std.proofs.lemmas.Bool.{cases_lt}
use Rattle.std.proofs.lemmas.Option.{slice_get_within}
use Rattle.std.specs.Prelude.{slice_get}
use Rattle.wire_currency.specs.Traffic.{In, Traffic, Meets, SentLaws}
use Rattle.wire_currency.specs.Fetch.{Fetch, LogLaws}
use Rattle.wire_currency.proofs.Lists.{at_place}
use Rattle.wire_currency.proofs.Replies.{got_before_run, run_is_command}

module _ {Wire Log Words Value Message Answer : Type 0} (IsGot : Value → Message → Type 0)
    (x : Traffic Wire Log Words Value Message) (f : Fetch Wire Words Value Answer)
    (log : List Log) (meets : Meets IsGot x log) (laws : LogLaws x f log)
    (order : SentLaws IsGot x) (at : ℕ)
    (run : slice_get (x.entries f.home) f.place ≡ Some at) where
  -- what had been got when the fetch was sent was sent before its run
  pub got_before : (w : Wire) → In w x.wires → (i : ℕ) (s : ℕ × Message)
      → i < length (x.gots w (laws.ask ∷ laws.sooner)) → slice_get (x.sent w) i ≡ Some s
      → s.0 < at
  got_before w has i s lt there =
      got_before_run IsGot x log meets order laws.later laws.sooner laws.ask laws.log_is w f.home
      has laws.home_is f.place at i s laws.not_yet_sent run lt there

  -- a value that was got, and was sent at the entry of the fetch's run or later, voids nothing of
  -- the fetch
  pub got_since : (w : Wire) → In w x.wires → (i : ℕ) (v : Value) (s : ℕ × Message)
      → slice_get (x.gots w log) i ≡ Some v → slice_get (x.sent w) i ≡ Some s → at ≤ s.0
      → f.voids w v ≡ false
  got_since w has i v s got there le =
      elim (laws.nothing_got w has i v got) [
        | inl lt ↦
            let before = got_before w has i s lt there in
            absurd (let no : ⊥ = omega (arith, before, le) in no)
        | inr ok ↦ ok
      ]

  -- and one that voids it was sent before
  pub voided_before : (w : Wire) → In w x.wires → (i : ℕ) (v : Value) (s : ℕ × Message)
      → slice_get (x.gots w log) i ≡ Some v → f.voids w v ≡ true
      → slice_get (x.sent w) i ≡ Some s → s.0 < at
  voided_before w has i v s got voided there =
      elim (laws.nothing_got w has i v got) [
        | inl lt ↦ got_before w has i s lt there
        | inr ok ↦ absurd (let no : ⊥ = cc in no)
      ]

  -- a command that ran behind the fetch has a greater place
  pub behind_fetch : (j r : ℕ) → at < r → slice_get (x.entries f.home) j ≡ Some r → f.place < j
  behind_fetch j r lt e =
      elim (cases_lt f.place j) [
        | inl ok ↦ ok
        | inr ge ↦
            elim (cases_lt j f.place) [
              | inl below ↦
                  let o = order.runs_order f.home laws.home_is j f.place r at below e run in
                  absurd (let no : ⊥ = omega (arith, o, lt) in no)
              | inr above ↦
                  let same : j ≡ f.place = omega (arith, ge, above) in
                  let both : r ≡ at = cc in
                  absurd (let no : ⊥ = omega (arith, both, lt) in no)
            ]
      ]

  -- what ran at the fetch's place is its query
  pub runs_query : slice_get (x.runs f.home) f.place ≡ Some f.query
  runs_query =
      let lt = slice_get_within (x.entries f.home) f.place at run in
      let n = order.runs_count f.home laws.home_is in
      let ws = at_place (x.runs f.home) f.place (omega (arith, lt, n)) in
      let is = run_is_command IsGot x log meets order f.home laws.home_is f.place ws.0 ws.1 in
      ws.1 ∙ sym is ∙ laws.place_is_query
