-- Replies by number: which Run a reply that was got is of, and that a Run whose command was sent
-- behind a reply is behind that reply's Run.
use Rattle.std.proofs.Common.{◌≡◌, ◌<◌, ◌≤◌, ℕ, List, [], ◌∷◌, ◌++◌, length, true, ap, sym, ◌∙◌}
use Rattle.std.proofs.Common.{arith, Some, subst, append-nil}
use Rattle.std.specs.Prelude.{slice_get}
use Rattle.std.proofs.lemmas.Option.{same_Some, slice_get_within}
use Rattle.wire_currency.specs.Traffic.{In, Traffic, IsPrefix, AreGot, IsCausal, Meets, SentLaws}
use Rattle.wire_currency.specs.Traffic.{replies, replies_sent}
use Rattle.wire_currency.proofs.Lists.{get_front, at_place, one_kept}
use Rattle.wire_currency.proofs.Since.{got_kept, causal_older}

got_front : {Value Message : Type 0} (IsGot : Value → Message → Type 0) (vs us : List Value)
    (ss : List (ℕ × Message)) → AreGot IsGot (vs ++ us) ss → AreGot IsGot vs ss
got_front IsGot [] us ss a = tt
got_front IsGot (v ∷ vs) us [] a = absurd a
got_front IsGot (v ∷ vs) us (s ∷ ss) a = (a.0, got_front IsGot vs us ss a.1)

module _ {Wire Log Words Value Message : Type 0} (IsGot : Value → Message → Type 0)
    (x : Traffic Wire Log Words Value Message) (log : List Log) (meets : Meets IsGot x log)
    (order : SentLaws IsGot x) where
  -- a reply of that number, as got by a log, and the Run of that number, whose reply it is
  pub record ReplyOf (w : Wire) (before : List Log) (j : ℕ) (u : Value) : Type 0 where
    pub place : ℕ
    pub sending : ℕ × Message
    pub got : slice_get (x.gots w before) place ≡ Some u
    pub there : slice_get (x.sent w) place ≡ Some sending
    pub replied : slice_get (replies_sent x w) j ≡ Some sending
    pub is_reply : x.is_reply_sent w sending.1 ≡ true
    pub entry : slice_get (x.entries w) j ≡ Some sending.0
    pub is : IsGot u sending.1

  pub reply_of : (w : Wire) → In w x.wires → (before : List Log)
      → IsPrefix (x.gots w before) (x.gots w log) → (j : ℕ) (u : Value)
      → slice_get (replies x w before) j ≡ Some u → ReplyOf w before j u
  reply_of w has before grown j u e =
      let came = got_front IsGot (x.gots w before) grown.0 (x.sent w)
      (subst (λ vs. AreGot IsGot vs (x.sent w)) (sym grown.1) (meets.came w has)) in
      let k = got_kept IsGot (x.is_reply w) (x.is_reply_sent w) (x.gots w before) (x.sent w) j u
      (order.reply_kind w has) came e in record {
        place = k.place;
        sending = k.sending;
        got = k.got;
        there = k.there;
        replied = k.kept;
        is_reply =
            one_kept (λ (s : ℕ × Message). x.is_reply_sent w s.1) (x.sent w) j k.sending k.kept;
        entry = order.replies_of_runs w has j k.sending k.kept;
        is = k.is;
      }

  -- as got by now
  pub reply_now : (w : Wire) → In w x.wires → (j : ℕ) (u : Value)
      → slice_get (replies x w log) j ≡ Some u → ReplyOf w log j u
  reply_now w has j u e = reply_of w has log ([], append-nil (x.gots w log)) j u e

  -- what ran at a place is the command of that place
  pub run_is_command : (w : Wire) → In w x.wires → (j : ℕ) (ws : Words)
      → slice_get (x.runs w) j ≡ Some ws → slice_get (x.commands w log) j ≡ Some ws
  run_is_command w has j ws there =
      let m = meets.ran w has in
      ap (λ cs. slice_get cs j) (sym m.1) ∙ get_front (x.runs w) m.0 j ws there

  -- where an entry of the log, or a later one, sent the command of a place, all that it had got by
  -- then was sent before the command ran
  pub got_before_run : (later sooner : List Log) (e : Log) → log ≡ later ++ e ∷ sooner
      → (w u : Wire) → In w x.wires → In u x.wires → (place r i : ℕ) (s : ℕ × Message)
      → length (x.commands u sooner) ≤ place → slice_get (x.entries u) place ≡ Some r
      → i < length (x.gots w (e ∷ sooner)) → slice_get (x.sent w) i ≡ Some s → s.0 < r
  got_before_run later sooner e is w u has hav place r i s unsent ran lt there =
      let c = causal_older IsGot x later (e ∷ sooner)
      (subst (IsCausal x) is meets.causal) in
      c.0 w u has hav place r i s unsent ran lt there

  -- and the commands of all replies that it had got by then ran before it
  pub reply_before_run : (later sooner : List Log) (e : Log) → log ≡ later ++ e ∷ sooner
      → (w u : Wire) → In w x.wires → In u x.wires
      → IsPrefix (x.gots w (e ∷ sooner)) (x.gots w log) → (place r j q : ℕ)
      → length (x.commands u sooner) ≤ place → slice_get (x.entries u) place ≡ Some r
      → j < length (replies x w (e ∷ sooner)) → slice_get (x.entries w) j ≡ Some q → q < r
  reply_before_run later sooner e is w u has hav grown place r j q unsent ran lt at =
      let v = at_place (replies x w (e ∷ sooner)) j lt in
      let k = reply_of w has (e ∷ sooner) grown j v.0 v.1 in
      let same : k.sending.0 ≡ q = same_Some k.sending.0 q (sym k.entry ∙ at) in
      let below = got_before_run later sooner e is w u has hav place r k.place k.sending unsent
      ran (slice_get_within (x.gots w (e ∷ sooner)) k.place v.0 k.got) k.there in
      omega (arith, below, same)
