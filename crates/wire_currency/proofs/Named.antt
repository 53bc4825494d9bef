-- The last reply that was got to a command that names the key of an open fetch.
use Rattle.std.proofs.Common.{◌≡◌, ◌<◌, ◌≤◌, ℕ, List, length, true, false, ap, sym, ◌∙◌, arith}
use Rattle.std.proofs.Common.{Some, subst, inl, inr, take, max}
use Rattle.std.specs.Prelude.{slice_get}
use Rattle.std.proofs.lemmas.Bool.{cases_lt}
use Rattle.std.proofs.lemmas.Option.{same_Some}
use Rattle.wire_currency.specs.Traffic.{In, Traffic, Meets, SentLaws, replies}
use Rattle.wire_currency.specs.Fetch.{Fetch, LogLaws}
use Rattle.wire_currency.specs.Current.{complete, named_on, named, point}
use Rattle.wire_currency.proofs.Lists.{at_place, greatest_is, named_at, get_taken}
use Rattle.wire_currency.proofs.Replies.{reply_now, run_is_command, reply_before_run}
use Rattle.wire_currency.proofs.Fetched.{behind_fetch}

module _ {Wire Log Words Value Message Answer : Type 0} (IsGot : Value → Message → Type 0)
    (x : Traffic Wire Log Words Value Message) (f : Fetch Wire Words Value Answer)
    (log : List Log) (meets : Meets IsGot x log) (laws : LogLaws x f log)
    (order : SentLaws IsGot x) where
  -- a reply, got, to a command that names the key and ran at this entry
  pub record NamedReply (r : ℕ) : Type 0 where
    pub wire : Wire
    pub is_data : In wire x.data_wires
    pub place : ℕ
    pub words : Words
    pub ran : slice_get (x.runs wire) place ≡ Some words
    pub ran_at : slice_get (x.entries wire) place ≡ Some r
    pub got : place < length (replies x wire log)
    pub names : f.names words ≡ true

  pub named_reply : 0 < named x log f.names → NamedReply (named x log f.names)
  named_reply pos =
      let g = greatest_is (named_on x log f.names) x.data_wires pos in
      let n = named_at f.names (take (x.replied g.0 log) (x.runs g.0)) (x.entries g.0)
      (subst (λ k. 0 < k) (sym g.2) pos) in
      let t = get_taken (x.replied g.0 log) (x.runs g.0) n.place n.words n.there in
      record {
        wire = g.0;
        is_data = g.1;
        place = n.place;
        words = n.words;
        ran = t.there;
        ran_at = n.entry ∙ ap Some g.2;
        got = subst (λ k. n.place < k) (laws.replies_counted g.0 g.1) t.below;
        names = n.named;
      }

  -- it is of an entry of the history
  pub named_le : named x log f.names ≤ x.last
  named_le =
      elim (cases_lt 0 (named x log f.names)) [
        | inl pos ↦
            let q = named_reply pos in
            let has = laws.data_in q.wire q.is_data in
            let u = at_place (replies x q.wire log) q.place q.got in
            let g = reply_now IsGot x log meets order q.wire has q.place u.0 u.1 in
            let within = (order.in_order.sent_within q.wire has g.place g.sending g.there).1 in
            let same : g.sending.0 ≡ named x log f.names =
            same_Some g.sending.0 (named x log f.names) (sym g.entry ∙ q.ran_at) in
            omega (arith, within, same)
        | inr le ↦ omega (arith, le)
      ]

  module _ (at : ℕ) (run : slice_get (x.entries f.home) f.place ≡ Some at) where
    -- on more wires than one none was got of an entry behind the fetch
    pub none_later : x.is_alone ≡ false → (r : ℕ) → at < r → NamedReply r → ⊥
    none_later apart r lt q =
        elim (laws.no_later_reply apart q.wire q.is_data q.place q.words q.got
        (run_is_command IsGot x log meets order q.wire (laws.data_in q.wire q.is_data) q.place
        q.words q.ran) q.names) [
          | inl early ↦
              let has = laws.data_in q.wire q.is_data in
              let below = reply_before_run IsGot x log meets order laws.later laws.sooner laws.ask
              laws.log_is q.wire f.home has laws.home_is (laws.gots_grow q.wire has) f.place at
              q.place r laws.not_yet_sent run early q.ran_at in
              absurd (let no : ⊥ = omega (arith, below, lt) in no)
          | inr front ↦
              let e = subst (λ w. slice_get (x.entries w) q.place ≡ Some r) front.0 q.ran_at in
              let behind = behind_fetch IsGot x f log meets laws order at run q.place r lt e in
              let le = front.1 in
              absurd (let no : ⊥ = omega (arith, behind, le) in no)
        ]

    -- so the point of a hit is the greater of its fetch's entry and what is complete
    pub point_apart : x.is_alone ≡ false → point x f log at ≡ max at (complete x log)
    point_apart apart =
        elim (cases_lt (max at (complete x log)) (named x log f.names)) [
          | inl lt ↦
              absurd (none_later apart (named x log f.names) (omega (arith, lt))
              (named_reply (omega (arith, lt))))
          | inr le ↦ omega (arith, le)
        ]
