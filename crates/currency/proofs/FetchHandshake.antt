-- What the handshake of the client of an open fetch has settled, where the fetch runs and from then
-- on: the modes of its connections are as it asked, and its read is one that Main's tracking
-- remembers.
use Rattle.std.proofs.Common.{◌≡◌, ◌-◌, ◌<◌, ◌≤◌, ℕ, List, ◌∷◌, length, ap, sym, ◌∙◌, arith, Some}
use Rattle.std.proofs.Common.{subst, inl, inr}
use Rattle.std.proofs.lemmas.List.{length-reverse}
use Rattle.std.specs.Prelude.{slice_get}
use Rattle.std.specs.List.{filter}
use Rattle.resp_value.specs.Lists.{IsPrefix}
use Rattle.resp_value.specs.declared.value.Proto.{Proto}
use Rattle.resp_value.specs.declared.value.Proto.TheVariants.{Two, Three}
use Rattle.command_words.specs.Queries.{key_of}
use Rattle.serial_model.specs.declared.history.Limits.{Limits}
use Rattle.serial_model.specs.declared.history.Entry.{Entry}
use Rattle.serial_model.specs.declared.history.Entry.TheVariants.{Run}
use Rattle.serial_model.specs.History.{IsLegal, Sending, mode, run_entries, runs_of, sent}
use Rattle.shared_cache.specs.declared.entry.CacheEntry.{CacheEntry}
use Rattle.shared_cache.specs.declared.log.LogEntry.{LogEntry}
use Rattle.shared_cache.specs.declared.log.LogEntry.TheVariants.{Got}
use Rattle.shared_cache.specs.declared.log.Shape.{Shape}
use Rattle.shared_cache.specs.declared.log.Shape.TheVariants.{Pair}
use Rattle.shared_cache.specs.declared.log.Wire.{Wire}
use Rattle.shared_cache.specs.declared.log.Wire.TheVariants.{Main, Side}
use Rattle.shared_cache.specs.Held.{commands, read_lead}
use Rattle.shared_cache.specs.Laws.{HasTracking, IsFetch, LegalLog, WasTold, gots}
use Rattle.shared_cache.specs.Log.{caching_on_for, handshake_length, replies, steps_of}
use Rattle.shared_cache.specs.Notices.{is_reply, notice_of}
use Rattle.shared_cache.proofs.CommandLists.{replies_are_gots}
use Rattle.shared_cache.proofs.FetchLaws.{open_was_sent}
use Rattle.shared_cache.proofs.Handshakes.{handshake_some, one_or_two}
use Rattle.shared_cache.proofs.Led.{led_some}
use Rattle.shared_cache.proofs.SideFirstLaw.{side_first}
use Rattle.wire_currency.specs.Fetch.{Handshake}
use Rattle.wire_currency.specs.Traffic.{SentLaws}
use Rattle.wire_currency.proofs.Handshakes.{ran_first}
use Rattle.wire_currency.proofs.Lists.{at_place}
use Rattle.currency.specs.Links.{Client, HasWire, IsGot, Meet, is_reply_sent, run_of, traffic_of}
use Rattle.currency.specs.Links.{up_to}
use Rattle.currency.proofs.Accepted.{accepted_left}
use Rattle.currency.proofs.AsAsked.{AsAsked, SideListens, asked_for, target_by}
use Rattle.currency.proofs.EntryLaws.{Read}
use Rattle.currency.proofs.Lists.{get_front, prefix_more}
use Rattle.currency.proofs.Marks.{fetch_told_of}
use Rattle.currency.proofs.Replies.{replies_of}
use Rattle.currency.proofs.RunPlaces.{prefix_le, runs_counted, runs_within}
use Rattle.currency.proofs.Runs.{Older, entries_older, entry_le, older_legal, older_more}
use Rattle.currency.proofs.Runs.{older_tail, older_within, ran_at, runs_count, runs_older}
use Rattle.currency.proofs.Runs.{up_to_older}
use Rattle.currency.proofs.Settings.{Has, settled, unsubscribed}
use Rattle.currency.proofs.SideHandshake.{listens, runs_admitted}
use Rattle.currency.proofs.Since.{gots_prefix}
use Rattle.currency.proofs.Wires.{has_main, has_side}

two_steps : (p : Proto) (shape : Shape) → shape ≡ Pair → length (steps_of Side shape p) ≡ 2
two_steps Two shape two = ap (λ h. length (steps_of Side h Two)) two
two_steps Three shape two = ap (λ h. length (steps_of Side h Three)) two

module _ (l : Limits) (x : Client) (past : List Entry) (log : List LogEntry)
    (legal : IsLegal l past) (legal_log : LegalLog x.setup log) (meet : Meet l x past log)
    (laws : SentLaws IsGot (traffic_of l x past))
    (replies_on : (w : Wire) → HasWire x.setup.mode.shape w
    → filter (λ (s : ℕ × Sending). is_reply_sent x.setup.mode w s.1) (sent l (x.id w) past)
    ≡ replies_of l (x.id w) past) where
  ran_main : IsPrefix (runs_of (x.id Main) past) (commands x.setup Main log)
  ran_main = meet.ran Main (has_main x.setup.mode.shape)

  -- ---- Side's commands ran before the tracking command

  has_tracking : (up : List Entry) → Older up past
      → handshake_length x.setup.mode ≤ length (runs_of (x.id Main) up) → HasTracking x.setup log
  has_tracking up o count =
      omega (
        arith,
        count,
        runs_within (x.id Main) up past o,
        prefix_le (runs_of (x.id Main) past) (commands x.setup Main log) ran_main,
      )

  side_replied : x.setup.mode.shape ≡ Pair → (w : WasTold x.setup log)
      → length (filter (λ v. is_reply (notice_of x.setup.mode Side v))
      (gots Side (Got Side w.value ∷ w.sooner))) ≡ 2
  side_replied two w =
      let told = Got Side w.value ∷ w.sooner in
      sym (ap length (replies_are_gots x.setup Side told))
      ∙ length-reverse (replies x.setup.mode Side told) ∙ w.replied
      ∙ two_steps x.setup.mode.proto x.setup.mode.shape two

  before_track : x.setup.mode.shape ≡ Pair → WasTold x.setup log → (r : ℕ)
      → slice_get (run_entries (x.id Main) past) (handshake_length x.setup.mode - 1) ≡ Some r
      → (q : ℕ) × (slice_get (run_entries (x.id Side) past) 1 ≡ Some q) × (q < r)
  before_track two w r ran =
      let told = Got Side w.value ∷ w.sooner in
      ran_first IsGot (traffic_of l x past) log meet laws Side Main
      (has_side x.setup.mode.shape two) (has_main x.setup.mode.shape) w.later w.sooner
      (Got Side w.value) w.log_is
      (subst (λ g. IsPrefix (gots Side told) (gots Side g)) (sym w.log_is)
      (gots_prefix Side w.later told))
      (handshake_length x.setup.mode - 1) 1 r (omega (arith, w.not_yet))
      (omega (arith, side_replied two w)) ran

  side_ran : x.setup.mode.shape ≡ Pair → (up : List Entry) → Older up past
      → handshake_length x.setup.mode ≤ length (runs_of (x.id Main) up)
      → 2 ≤ length (runs_of (x.id Side) up)
  side_ran two up o count =
      let place = handshake_length x.setup.mode - 1 in
      let track = at_place (run_entries (x.id Main) up) place
      (omega (
        arith,
        count,
        handshake_some x.setup.mode,
        runs_count (x.id Main) up,
      )) in
      let older = entries_older (x.id Main) up past o in
      let first = before_track two
      (side_first x.setup log two legal_log (has_tracking up o count)) track.0
      (ap (λ ns. slice_get ns place) (sym older.1)
      ∙ get_front (run_entries (x.id Main) up) older.0 place track.0 track.1) in
      let t = ran_at (x.id Side) past 1 first.0 first.1 in
      let run = Run t.id t.words t.moment in
      let number = t.at in
      let within = older_within (run ∷ t.up) up past t.older o
      (omega (arith, number, first.2, entry_le (x.id Main) up place track.0 track.1)) in
      omega (
        arith,
        t.place_is,
        runs_counted (x.id Side) t.id t.moment t.words t.up t.own,
        runs_within (x.id Side) (run ∷ t.up) up within,
      )

  side_listens : (up : List Entry) → Older up past
      → handshake_length x.setup.mode ≤ length (runs_of (x.id Main) up)
      → SideListens x.setup.mode.shape x.setup.mode.proto l (x.id Side) up
  side_listens up o count =
      let m = x.setup.mode in
      elim (one_or_two m.shape) [
        | inl one ↦ subst (λ h. SideListens h m.proto l (x.id Side) up) (sym one) tt
        | inr two ↦
            let ran = side_ran two up o count in
            subst (λ h. SideListens h m.proto l (x.id Side) up) (sym two) (
              runs_admitted l (x.id Side) up
                  (older_legal l o.newer up (subst (IsLegal l) (sym o.is) legal))
                  (omega (arith, ran)),
              listens x.setup l log two (x.id Side) past (meet.ran Side (has_side m.shape two)) up o
                  ran,
            )
      ]

  -- ---- an open fetch

  module _ (h : CacheEntry) (is : IsFetch x.setup log h) where
    -- once Main's connection has run the handshake, the modes are as it asked
    settled_main : (up : List Entry) → Older up past
        → handshake_length x.setup.mode ≤ length (runs_of (x.id Main) up)
        → Has x.setup.mode.proto
        (asked_for x.setup.mode (target_by x.setup.mode.shape (x.id Side))) (mode l (x.id Main) up)
    settled_main =
        settled x.setup l log legal_log (x.id Main) past ran_main
        (asked_for x.setup.mode (target_by x.setup.mode.shape (x.id Side)))
        (accepted_left l x past log legal_log meet laws replies_on h.number h.query is.fetch)

    as_asked : (up : List Entry) → Older up past
        → handshake_length x.setup.mode ≤ length (runs_of (x.id Main) up) → AsAsked l x up
    as_asked up o count =
        let has = settled_main up o count in record {
          proto_is = has.proto_is;
          tracking_is = has.tracking_is;
          side = side_listens up o count;
        }

    behind_handshake : handshake_length x.setup.mode < h.number
    behind_handshake =
        let w = open_was_sent x.setup log h.number h.query is.fetch in
        omega (
          arith,
          w.number_is,
          led_some (read_lead x.setup.mode.caching
              (caching_on_for x.setup.mode w.sooner (key_of h.query))) h.query,
        )

    pub handshake : (at : ℕ) → run_of (x.id Main) past h.number ≡ Some at
        → Handshake (length past) (λ r. AsAsked l x (up_to r past))
        (Read l x past Main h (AsAsked l x)) at
    handshake at ran =
        let c = x.id Main in
        let run = ran_at c past (h.number - 1) at ran in
        let tail = older_tail (Run run.id run.words run.moment) run.up past run.older in
        let place = run.place_is in
        let behind = behind_handshake in
        let count : handshake_length x.setup.mode ≤ length (runs_of c run.up) =
        omega (arith, place, behind) in record {
          as_asked =
              λ r from le. let o = up_to_older r past le in
              let number = o.1 in
              let sent = run.at in
              let within = older_within run.up (up_to r past) past tail o.0
              (omega (arith, number, sent, from)) in
              as_asked (up_to r past) o.0
              (omega (arith, count, runs_within c run.up (up_to r past) within));
          remembered = record {
            run = run;
            before = as_asked run.up tail count;
            told_of =
                fetch_told_of x.setup log legal_log h.number h.query is.fetch l c
                (target_by x.setup.mode.shape (x.id Side)) run.up
                (prefix_more (runs_of c run.up) (runs_of c past) (commands x.setup Main log)
                (runs_older c run.up past tail) ran_main)
                place behind
                (λ sooner o.
                unsubscribed x.setup l log legal_log c past ran_main sooner
                (older_more sooner run.up past o tail))
                (λ sooner o ran.
                (settled_main sooner (older_more sooner run.up past o tail) ran).tracking_is);
          };
        }
