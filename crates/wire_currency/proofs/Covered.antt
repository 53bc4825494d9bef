-- From the run of an open fetch on, its connection is told of its key and the query's answer is
-- what it was; or a message waits for the client on one of the watched wires.
use Rattle.std.proofs.Common.{◌≡◌, ◌<◌, ◌≤◌, ℕ, zero, suc, List, length}
use Rattle.std.proofs.Common.{true, refl, ◌∙◌, arith, Some, subst, ◌⊎◌, inl, inr}
use Rattle.std.specs.Prelude.{slice_get}
use Rattle.std.proofs.lemmas.Bool.{both_ways, cases_lt}
use Rattle.wire_currency.specs.Traffic.{In, Traffic, Meets, SentLaws, EndSent}
use Rattle.wire_currency.specs.Fetch.{Fetch, LogLaws, EntryLaws, Handshake, Lands}
use Rattle.wire_currency.specs.Fetch.{Excused, ToldOn, Lives}
use Rattle.wire_currency.proofs.Lists.{all_or_one}
use Rattle.wire_currency.proofs.Since.{got_of}
use Rattle.wire_currency.proofs.Replies.{run_is_command}
use Rattle.wire_currency.proofs.Fetched.{behind_fetch, got_since, runs_query}

module _ {Wire Log Words Value Message Answer : Type 0} (IsGot : Value → Message → Type 0)
    (x : Traffic Wire Log Words Value Message) (f : Fetch Wire Words Value Answer)
    (AsAsked Remembered : ℕ → Type 0) (at : ℕ) (log : List Log)
    (meets : Meets IsGot x log) (laws : LogLaws x f log) (order : SentLaws IsGot x)
    (entry : EntryLaws IsGot x f AsAsked Remembered at)
    (handshake : Handshake x.last AsAsked Remembered at)
    (run : slice_get (x.entries f.home) f.place ≡ Some at) where
  -- a message waits for the client that was sent by this entry
  pub record Pending (n : ℕ) : Type 0 where
    pub wire : Wire
    pub watched : In wire f.watched
    pub place : ℕ
    pub sending : ℕ × Message
    pub there : slice_get (x.sent wire) place ≡ Some sending
    pub waits : length (x.gots wire log) ≤ place
    pub by : sending.0 ≤ n

  -- an end waits, whenever it was sent
  end_pending : (w : Wire) → In w f.watched → (r : ℕ) → EndSent IsGot x w r → Pending r
  end_pending w has r e =
      elim (cases_lt e.place (length (x.gots w log))) [
        | inl lt ↦
            let g = got_of IsGot (x.gots w log) (x.sent w) e.place e.sending
            (meets.came w (laws.watched_in w has)) e.there lt in
            absurd (e.never g.value g.is)
        | inr ge ↦ record {
          wire = w;
          watched = has;
          place = e.place;
          sending = e.sending;
          there = e.there;
          waits = ge;
          by = e.number;
        }
      ]

  -- what tells of the key from the run on was not got
  pub not_got : (w : Wire) → In w x.wires → (r : ℕ) → at ≤ r → (t : ToldOn IsGot x f w r)
      → t.place < length (x.gots w log) → ⊥
  not_got w has r le t lt =
      let g = got_of IsGot (x.gots w log) (x.sent w) t.place t.sending (meets.came w has) t.there
      lt in
      let no = got_since IsGot x f log meets laws order at run w has t.place g.value t.sending g.got
      t.there (let n = t.number in omega (arith, n, le)) in
      both_ways (f.voids w g.value) no (t.voiding g.value g.is)

  -- so it waits
  lands_pending : (r : ℕ) → at ≤ r → Lands IsGot x f r → Pending r
  lands_pending r le t =
      elim (cases_lt t.told.place (length (x.gots t.wire log))) [
        | inl lt ↦
            absurd (not_got t.wire (laws.watched_in t.wire t.watched) r le t.told lt)
        | inr ge ↦ record {
          wire = t.wire;
          watched = t.watched;
          place = t.told.place;
          sending = t.told.sending;
          there = t.told.there;
          waits = ge;
          by = let n = t.told.number in omega (arith, n);
        }
      ]

  -- an own command behind the fetch does not write its key
  none_excused : (r : ℕ) → at < r → Excused IsGot x f r → ⊥
  none_excused r lt e =
      let no = laws.no_later_write e.place e.words
      (behind_fetch IsGot x f log meets laws order at run e.place r lt e.entry)
      (run_is_command IsGot x log meets order f.home laws.home_is e.place e.words e.there) in
      both_ways (f.writes e.words) no e.wrote

  abbrev pub Steady : ℕ → Type 0
  Steady r = (f.is_told r ≡ true) × (f.answer r ≡ f.answer at)

  -- at an entry where one of the watched connections has ended its end waits
  lives_or_waits : (r : ℕ) → r ≤ x.last → Lives IsGot x f r ⊎ Pending r
  lives_or_waits r le =
      elim (all_or_one (λ w. x.has_ended w r) f.watched) [
        | inl all ↦ inl all
        | inr one ↦
            inr (end_pending one.one one.among r
            (order.end_sent one.one (laws.watched_in one.one one.among) r le one.passes))
      ]

  start : at ≤ x.last → Steady at ⊎ Pending at
  start le =
      elim (lives_or_waits at le) [
        | inl lives ↦
            elim (entry.read_is_owed_or_told run (runs_query IsGot x f log meets laws order at run)
            handshake.remembered (handshake.as_asked at (omega arith)
            le) lives) [
              | inl told ↦ inl (told, refl)
              | inr lands ↦ inr (lands_pending at (omega arith) lands)
            ]
        | inr waits ↦ inr waits
      ]

  step : (r : ℕ) → at ≤ r → suc r ≤ x.last → Steady r → Steady (suc r) ⊎ Pending (suc r)
  step r from le steady =
      elim (lives_or_waits (suc r) le) [
        | inr waits ↦ inr waits
        | inl lives ↦
            elim (entry.tells_or_stays r from (omega (arith, le))
            (handshake.as_asked r from (omega (arith, le)))
            (handshake.as_asked (suc r) (omega (arith, from)) le) lives steady.0) [
              | inl stays ↦ inl (stays.0, stays.1 ∙ steady.1)
              | inr rest ↦
                  elim rest [
                    | inl lands ↦ inr (lands_pending (suc r) (omega (arith, from)) lands)
                    | inr excused ↦ absurd (none_excused (suc r) (omega (arith, from)) excused)
                  ]
            ]
      ]

  later : (n r : ℕ) → n ≤ r → Pending n → Pending r
  later n r le p = record {
    wire = p.wire;
    watched = p.watched;
    place = p.place;
    sending = p.sending;
    there = p.there;
    waits = p.waits;
    by = let b = p.by in omega (arith, b, le);
  }

  pub covered : (r : ℕ) → at ≤ r → r ≤ x.last → Steady r ⊎ Pending r
  covered zero from le =
      let is : at ≡ zero = omega (arith, from) in
      subst (λ n. Steady n ⊎ Pending n) is (start (omega (arith, is)))
  covered (suc r) from le =
      elim (cases_lt r at) [
        | inl lt ↦
            let is : at ≡ suc r = omega (arith, lt, from) in
            subst (λ n. Steady n ⊎ Pending n) is (start (omega (arith, is, le)))
        | inr ge ↦
            elim (covered r ge (omega (arith, le))) [
              | inl steady ↦ step r ge le steady
              | inr waits ↦ inr (later r (suc r) (omega arith) waits)
            ]
      ]
