-- The laws of what was sent to a client of any shape.
use Rattle.std.proofs.Common.{◌≡◌, ◌≤◌, ℕ, List, length, true, ap, refl, sym, ◌∙◌, arith, Some}
use Rattle.std.specs.Prelude.{slice_get}
use Rattle.std.specs.List.{filter}
use Rattle.resp_value.proofs.OneToOne.{value_back}
use Rattle.resp_value.specs.ValueTree.{value_of}
use Rattle.resp_value.specs.declared.value.Value.{Value}
use Rattle.serial_model.specs.declared.history.Limits.{Limits}
use Rattle.serial_model.specs.declared.history.Entry.{Entry}
use Rattle.serial_model.specs.History.{End, IsLegal, Message, Sending, has_ended, sent}
use Rattle.serial_model.proofs.Ends.{end_is_sent}
use Rattle.shared_cache.specs.Laws.{LegalLog}
use Rattle.shared_cache.specs.Notices.{is_reply, notice_of}
use Rattle.shared_cache.specs.declared.log.ClientMode.{ClientMode}
use Rattle.shared_cache.specs.declared.log.LogEntry.{LogEntry}
use Rattle.shared_cache.specs.declared.log.Wire.{Wire}
use Rattle.shared_cache.specs.declared.log.Wire.TheVariants.{Main, Side}
use Rattle.wire_currency.specs.Traffic.{EndSent, SentInOrder, SentLaws}
use Rattle.currency.specs.Links.{Client, HasWire, IsGot, Meet, is_reply_sent, traffic_of, up_to}
use Rattle.currency.proofs.Handshake.{keeps_off}
use Rattle.currency.proofs.OffChannel.{KeepsOff}
use Rattle.currency.proofs.Placed.{reply_at}
use Rattle.currency.proofs.PlainReplies.{plain_pass}
use Rattle.currency.proofs.Replies.{RepliesPass, replies_are_of_runs, replies_of}
use Rattle.currency.proofs.Runs.{in_order, runs_count, up_to_older}
use Rattle.currency.proofs.Sent.{end_place, sent_le, sent_older, sent_order, sent_pos}
use Rattle.currency.proofs.SideReplies.{side_pass}
use Rattle.currency.proofs.Wires.{has_main, has_two}

-- what was got of a message is a reply where the message is
same_kind : (m : ClientMode) (w : Wire) (v : Value) (s : Sending) → IsGot v s
    → is_reply (notice_of m w v) ≡ is_reply_sent m w s
unfolding is_reply_sent
same_kind m w v (Message p u) got =
    ap (λ x. is_reply (notice_of m w x)) (sym (value_back v) ∙ ap value_of got)
same_kind m w v End got = absurd got

module _ (l : Limits) (x : Client) (past : List Entry) where
  wire_end : (w : Wire) (r : ℕ) → r ≤ length past → has_ended l (x.id w) (up_to r past) ≡ true
      → EndSent IsGot (traffic_of l x past) w r
  wire_end w r le ended =
      let c = x.id w in
      let o = up_to_older r past le in
      let e = end_place c l (sent l c (up_to r past)) (sym (end_is_sent l c (up_to r past)) ∙ ended)
      in
      let by = sent_le c l (up_to r past) e.0 (e.1, End) e.2 in
      let n = o.1 in record {
        place = e.0;
        sending = (e.1, End);
        there = sent_older c l (up_to r past) past o.0 e.0 (e.1, End) e.2;
        number = omega (arith, by, n);
        never = λ v got. got;
      }

  pub sent_in_order : SentInOrder IsGot (traffic_of l x past)
  sent_in_order = record {
    sent_within =
        λ w i j s e. let pos = sent_pos (x.id w) l past j s e in
        let le = sent_le (x.id w) l past j s e in (pos, le);
    sent_order = λ w i. sent_order (x.id w) l past;
  }

  module _ (log : List LogEntry) (legal : IsLegal l past) (legal_log : LegalLog x.setup log)
      (meet : Meet l x past log) where
    pub main_off : KeepsOff (x.id Main) past
    main_off =
        keeps_off x.setup log legal_log (x.id Main) past
        (meet.ran Main (has_main x.setup.mode.shape))

    -- on each link the replies are told apart
    pub replies_pass : (w : Wire) → HasWire x.setup.mode.shape w
        → RepliesPass (is_reply_sent x.setup.mode w) l (x.id w) past
    replies_pass Main i =
        plain_pass x.setup.mode Main (λ v. refl) l (x.id Main) past main_off
    replies_pass Side i =
        side_pass x.setup l log (has_two x.setup.mode.shape i) (x.id Side) past (meet.ran Side i)

    pub replies_on : (w : Wire) → HasWire x.setup.mode.shape w
        → filter (λ (s : ℕ × Sending). is_reply_sent x.setup.mode w s.1) (sent l (x.id w) past)
        ≡ replies_of l (x.id w) past
    replies_on w i =
        replies_are_of_runs (is_reply_sent x.setup.mode w) l (x.id w) past legal (replies_pass w i)

    pub sent_laws : SentLaws IsGot (traffic_of l x past)
    sent_laws = record {
      in_order = sent_in_order;
      runs_order = λ w i. in_order (x.id w) past;
      runs_count = λ w i. runs_count (x.id w) past;
      replies_of_runs =
          λ w i j s e. let p = reply_at l (x.id w) past j s
          (ap (λ ss. slice_get ss j) (sym (replies_on w i)) ∙ e) in
          p.entry ∙ ap Some (sym p.number);
      reply_kind = λ w i j s v e got. same_kind x.setup.mode w v s.1 got;
      end_sent = λ w i. wire_end w;
    }
