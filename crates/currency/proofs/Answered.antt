-- Which Run a reply that a client got is the answer to.
use Rattle.std.proofs.Common.{◌≡◌, ◌+◌, ◌-◌, ℕ, List, ◌∷◌, ◌++◌, length, true, ap, sym, ◌∙◌}
use Rattle.std.proofs.Common.{arith, Some, subst}
use Rattle.std.specs.Prelude.{slice_get, ◌==◌}
use Rattle.std.specs.List.{filter}
use Rattle.resp_value.specs.declared.value.Value.{Value}
use Rattle.serial_model.specs.declared.history.Limits.{Limits}
use Rattle.serial_model.specs.declared.history.Entry.{Entry}
use Rattle.serial_model.specs.declared.history.Entry.TheVariants.{Run}
use Rattle.serial_model.specs.History.{Sending, runs_of, sent}
use Rattle.shared_cache.specs.declared.log.LogEntry.{LogEntry}
use Rattle.shared_cache.specs.declared.log.Wire.{Wire}
use Rattle.shared_cache.specs.Held.{commands}
use Rattle.shared_cache.specs.Laws.{gots}
use Rattle.shared_cache.specs.Log.{replies, reply_in}
use Rattle.shared_cache.proofs.CommandLists.{replies_are_gots}
use Rattle.wire_currency.specs.Traffic.{IsPrefix, SentLaws}
use Rattle.wire_currency.proofs.Replies.{reply_of, run_is_command}
use Rattle.currency.specs.Links.{Client, HasWire, IsGot, Meet, is_reply_sent, traffic_of}
use Rattle.currency.proofs.Placed.{Placed, reply_at, reply_place}
use Rattle.currency.proofs.Replies.{replies_of, reply_to}
use Rattle.currency.proofs.Runs.{Older, ran_at, same_older}
use Rattle.currency.proofs.Since.{gots_prefix}

same_answer : (l : Limits) {i j m n : ℕ} {ws us : List (List ℕ)} {up vp : List Entry}
    → Run i ws m ∷ up ≡ Run j us n ∷ vp → reply_to l up i ws m ≡ reply_to l vp j us n
same_answer l e = grind arith

module _ (l : Limits) (x : Client) (past : List Entry) (log : List LogEntry)
    (meet : Meet l x past log) (laws : SentLaws IsGot (traffic_of l x past))
    (replies_on : (w : Wire) → HasWire x.setup.mode.shape w
    → filter (λ (s : ℕ × Sending). is_reply_sent x.setup.mode w s.1) (sent l (x.id w) past)
    ≡ replies_of l (x.id w) past) where
  -- the Run of the command at a place, and what it answered was got
  pub record AnsweredBy (w : Wire) (place : ℕ) (v : Value) : Type 0 where
    pub id : ℕ
    pub words : List (List ℕ)
    pub moment : ℕ
    pub up : List Entry
    pub own : (id == x.id w) ≡ true
    pub older : Older (Run id words moment ∷ up) past
    pub place_is : length (runs_of (x.id w) up) ≡ place
    pub command_is : slice_get (commands x.setup w log) place ≡ Some words
    pub got : IsGot v (reply_to l up id words moment)

  of_run : (w : Wire) → HasWire x.setup.mode.shape w → (place : ℕ) (v : Value) (s : ℕ × Sending)
      → IsGot v s.1 → Placed l (x.id w) past place s → AnsweredBy w place v
  of_run w has place v s got p =
      let c = x.id w in
      let t = ran_at c past place (length p.up + 1) p.entry in
      let number = t.at in
      let same : Run p.id p.words p.moment ∷ p.up ≡ Run t.id t.words t.moment ∷ t.up =
      same_older past (Run p.id p.words p.moment ∷ p.up) (Run t.id t.words t.moment ∷ t.up)
      p.older t.older (omega (arith, number)) in
      record {
        id = t.id;
        words = t.words;
        moment = t.moment;
        up = t.up;
        own = t.own;
        older = t.older;
        place_is = t.place_is;
        command_is =
            run_is_command IsGot (traffic_of l x past) log meet laws w has place t.words
            t.words_are;
        got = subst (IsGot v) (same_answer l same) (subst (IsGot v) p.reply got);
      }

  pub answered_by : (w : Wire) → HasWire x.setup.mode.shape w → (later sooner : List LogEntry)
      → log ≡ later ++ sooner → (n : ℕ) (v : Value)
      → reply_in n (replies x.setup.mode w sooner) ≡ Some v → AnsweredBy w (n - 1) v
  answered_by w has later sooner log_is n v e =
      let k = reply_of IsGot (traffic_of l x past) log meet laws w has sooner
      (subst (λ g. IsPrefix (gots w sooner) (gots w g)) (sym log_is) (gots_prefix w later sooner))
      (n - 1) v
      (ap (λ vs. slice_get vs (n - 1)) (sym (replies_are_gots x.setup w sooner))
      ∙ (reply_place n (replies x.setup.mode w sooner) v e).1) in
      of_run w has (n - 1) v k.sending k.is
      (reply_at l (x.id w) past (n - 1) k.sending
      (ap (λ ss. slice_get ss (n - 1)) (sym (replies_on w has)) ∙ k.replied))
