-- A client of one link or of two is an instance of the theorem over any wires.
use Rattle.std.proofs.Common.{◌≡◌, ◌+◌, ◌-◌, ◌<◌, ◌≤◌, ◌⊎◌, ℕ, suc, List, [], ◌∷◌, length, true}
use Rattle.std.proofs.Common.{false, not, refl, ap, sym, ◌∙◌, arith, Some, subst, inl, inr}
use Rattle.std.proofs.Common.{drop}
use Rattle.std.specs.Prelude.{slice_get}
use Rattle.std.specs.List.{filter}
use Rattle.std.proofs.lemmas.List.{length-reverse}
use Rattle.std.proofs.lemmas.Option.{same_Some}
use Rattle.std.proofs.lemmas.Bool.{and_from, both_ways, cases_Bool, cases_lt, eqb-true}
use Rattle.resp_value.specs.Carried.{carried}
use Rattle.resp_value.specs.ValueTree.{tree_of}
use Rattle.resp_value.specs.declared.value.Proto.{Proto}
use Rattle.resp_value.specs.declared.value.Proto.TheVariants.{Two, Three}
use Rattle.resp_value.specs.declared.value.Value.{Value}
use Rattle.command_words.specs.Effects.{answer}
use Rattle.command_words.specs.Laws.{SignalsAreWritten}
use Rattle.command_words.specs.Queries.{key_of, names_key, reads_as_cacheable, writes}
use Rattle.command_words.specs.Words.{reading}
use Rattle.track_modes.specs.ModeState as track
use Rattle.track_modes.specs.ModeState.{ModeState, redirect_of}
use Rattle.serial_model.specs.declared.history.Limits.{Limits}
use Rattle.serial_model.specs.declared.history.Entry.{Entry}
use Rattle.serial_model.specs.declared.history.Entry.TheVariants.{Run}
use Rattle.serial_model.specs.State.{is_on}
use Rattle.serial_model.specs.History.{IsLegal, Sending, expiry_group, has_ended, is_admitted}
use Rattle.serial_model.specs.History.{keyspace, mode, run_entries, runs_of, runs_on, sent, state}
use Rattle.serial_model.specs.Laws.{BeforeTheReply, ChangeIsSignalled, IsDirect, RedirectedIsSent}
use Rattle.serial_model.specs.Laws.{RegisteredIsMode, is_due, is_told, telling}
use Rattle.serial_model.proofs.DueLaws.{due_is_pushed}
use Rattle.serial_model.proofs.Standings.{ended_more}
use Rattle.shared_cache.specs.ClientFields.{IsClientMode}
use Rattle.shared_cache.specs.Held.{commands, held}
use Rattle.shared_cache.specs.Laws.{IsFetch, IsQuery, LegalLog, gots}
use Rattle.shared_cache.specs.Log.{is_ended, replies}
use Rattle.shared_cache.specs.Notices.{invalidates, is_reply, kind_of, notice_of}
use Rattle.shared_cache.specs.declared.entry.CacheEntry.{CacheEntry}
use Rattle.shared_cache.specs.declared.log.LogEntry.{LogEntry}
use Rattle.shared_cache.specs.declared.log.LogEntry.TheVariants.{Ask}
use Rattle.shared_cache.specs.declared.log.Shape.TheVariants.{Single, Pair}
use Rattle.shared_cache.specs.declared.log.Wire.{Wire}
use Rattle.shared_cache.specs.declared.log.Wire.TheVariants.{Main, Side}
use Rattle.shared_cache.proofs.CommandLaws.{no_later_write}
use Rattle.shared_cache.proofs.CommandLists.{replies_are_gots}
use Rattle.shared_cache.proofs.Every.{every_weaker}
use Rattle.shared_cache.proofs.FetchLaws.{held_is_fetch, open_was_sent, open_wires, place_is_query}
use Rattle.shared_cache.proofs.Handshakes.{one_or_two}
use Rattle.shared_cache.proofs.LaterReplies.{no_later_reply}
use Rattle.wire_currency.specs.Traffic.{In, IsPrefix, SentLaws}
use Rattle.wire_currency.specs.Fetch.{EntryLaws, Lands, LogLaws, ToldOn}
use Rattle.wire_currency.specs.Current as wires
use Rattle.wire_currency.proofs.Currency as theorem
use Rattle.wire_currency.proofs.Replies.{run_is_command}
use Rattle.currency.specs.Links.{Client, HasWire, IsGot, Meet, is_reply_sent, is_single}
use Rattle.currency.specs.Links.{run_of, traffic_of, up_to, wires_of}
use Rattle.currency.specs.Current.{Currency, HasPoint, IsCurrent, fetch_of}
use Rattle.currency.proofs.Ahead.{told_ahead}
use Rattle.currency.proofs.AsAsked.{AsAsked, Listens, SideListens, asked_for, target_by}
use Rattle.currency.proofs.Asked.{asked_query, query_reads, query_served}
use Rattle.currency.proofs.EntryLaws.{Read, entry_laws_of}
use Rattle.currency.proofs.FetchHandshake.{handshake}
use Rattle.currency.proofs.Lists.{every_at, get_drop}
use Rattle.currency.proofs.OffChannel.{KeepsOff, off_mode, off_older, unconfined}
use Rattle.currency.proofs.Placed.{reply_place}
use Rattle.currency.proofs.PlainReplies.{plain_no_message}
use Rattle.currency.proofs.Replies.{routed_none}
use Rattle.currency.proofs.Runs.{Older, older_legal, older_tail, older_up_to, ran_at}
use Rattle.currency.proofs.Sent.{Told, lands, sent_older}
use Rattle.currency.proofs.SentLaws.{main_off, replies_on, replies_pass, sent_laws}
use Rattle.currency.proofs.Since.{gots_prefix, place_later, spared_since}
use Rattle.currency.proofs.Voids.{voids, voids_side}
use Rattle.currency.proofs.Wires.{alone_main, has_main, has_side, is_pair, single_by}

-- ---- the log

module _ (l : Limits) (x : Client) (past : List Entry) (log : List LogEntry)
    (legal_log : LegalLog x.setup log) (h : CacheEntry) (is : IsFetch x.setup log h) where
  unwritten : (j : ℕ) (ws : List (List ℕ)) → h.number - 1 < j
      → slice_get (commands x.setup Main log) j ≡ Some ws → writes ws (key_of h.query) ≡ false
  unwritten j ws lt there =
      every_at (λ ws. writes ws (key_of h.query) ≡ false)
      (drop h.number (commands x.setup Main log)) (j - h.number) ws
      (no_later_write x.setup log h.number h.query legal_log is.fetch)
      (get_drop h.number (commands x.setup Main log) (j - h.number) ws
      (ap (slice_get (commands x.setup Main log))
      (let n : h.number + (j - h.number) ≡ j = omega (arith, lt) in n) ∙ there))

  counted : length (replies x.setup.mode Main log)
      ≡ length (filter (λ v. is_reply (kind_of v)) (gots Main log))
  counted =
      sym (length-reverse (replies x.setup.mode Main log))
      ∙ ap length (replies_are_gots x.setup Main log)

  -- a reply that came to a command that names the key is to the fetch's or to one before it
  unanswered : is_single x.setup.mode.shape ≡ false → (j : ℕ) (ws : List (List ℕ))
      → j < length (filter (λ v. is_reply (kind_of v)) (gots Main log))
      → slice_get (commands x.setup Main log) j ≡ Some ws
      → names_key ws (key_of h.query) ≡ true → j ≤ h.number - 1
  unanswered apart j ws lt there named =
      elim (cases_lt j h.number) [
        | inl sooner ↦ omega (arith, sooner)
        | inr later ↦
            absurd (both_ways (names_key ws (key_of h.query))
            (no_later_reply x.setup log h.number h.query (is_pair x.setup.mode.shape apart)
            legal_log is.fetch j ws later (omega (arith, lt, counted)) there) named)
      ]

  of_main : (P : Wire → Type 0) → P Main → (w : Wire) → In w (Main ∷ []) → P w
  of_main P main w i = elim i [
    | inl e ↦ subst P e main
    | inr none ↦ absurd none
  ]

  both_open : (w : Wire) → is_ended x.setup.mode w log ≡ false
  both_open Main = (open_wires x.setup log h.number h.query is.fetch).0
  both_open Side = (open_wires x.setup log h.number h.query is.fetch).1

  pub log_laws : LogLaws (traffic_of l x past) (fetch_of l x past h) log
  log_laws =
      let w = open_was_sent x.setup log h.number h.query is.fetch in
      let asking = Ask h.query ∷ w.sooner in record {
        home_is = has_main x.setup.mode.shape;
        watched_in = λ u i. i;
        data_in = of_main (HasWire x.setup.mode.shape) (has_main x.setup.mode.shape);
        alone = λ e u i. alone_main x.setup.mode.shape e u i;
        home_watched = λ e. has_main x.setup.mode.shape;
        open_wires = λ u i. both_open u;
        replies_counted =
            of_main (λ u. length (replies x.setup.mode u log)
            ≡ length (filter (λ v. is_reply (notice_of x.setup.mode u v)) (gots u log))) counted;
        sooner = w.sooner;
        ask = Ask h.query;
        later = w.later;
        log_is = w.log_is;
        not_yet_sent = place_later l x past log h.number h.query w;
        place_is_query =
            (place_is_query x.setup log h.number h.query (inr legal_log) is.fetch).1;
        gots_grow =
            λ u i. subst (λ g. IsPrefix (gots u asking) (gots u g)) (sym w.log_is)
            (gots_prefix u w.later asking);
        nothing_got =
            λ u i n v got. spared_since l x past u h.number (key_of h.query) asking w.later w.spared
            n v (ap (λ g. slice_get (gots u g) n) (sym w.log_is) ∙ got);
        no_later_write = unwritten;
        no_later_reply =
            λ apart. of_main (λ u. (j : ℕ) (ws : List (List ℕ))
            → j < length (filter (λ v. is_reply (notice_of x.setup.mode u v)) (gots u log))
            → slice_get (commands x.setup u log) j ≡ Some ws
            → names_key ws (key_of h.query) ≡ true
            → (j < length (filter (λ v. is_reply (notice_of x.setup.mode u v)) (gots u asking)))
            ⊎ ((u ≡ Main) × (j ≤ h.number - 1)))
            (λ j ws lt there named. inr (refl, unanswered apart j ws lt there named));
      }

-- ---- the history

-- on one link its messages are sent to the connection itself
direct : (l : Limits) (x : Client) (up : List Entry) → IsClientMode x.setup.mode
    → x.setup.mode.shape ≡ Single → AsAsked l x up → IsDirect (mode l (x.id Main) up)
direct l x up client single good = record {
  proto = good.proto_is ∙ client single;
  own = ap redirect_of good.tracking_is ∙ ap (λ s. target_by s (x.id Side)) single;
}

-- of two, one that listens is sent them
is_heard : (p : Proto) (m : ModeState) → Listens p m → (m.proto ≡ Three) ⊎ (m.subscribed ≡ true)
is_heard Three m listens = inl listens
is_heard Two m listens = inr listens

in_form : (p : Proto) (m : ModeState) → Listens p m → p ≡ Three → m.proto ≡ Three
in_form Three m listens third = listens
in_form Two m listens third = absurd (let no : ⊥ = cc in no)

-- one that has not ended by an entry had not before it
ran_on : (l : Limits) (c : ℕ) (e : Entry) (up : List Entry) → is_admitted up c ≡ true
    → has_ended l c (e ∷ up) ≡ false → runs_on l up c ≡ true
ran_on l c e up there live = and_from _ _ there (elim (cases_Bool (has_ended l c up)) [
  | inl ended ↦
      absurd (both_ways (has_ended l c (e ∷ up)) live (ended_more l up c e ended))
  | inr none ↦ ap not none
])

module _ (l : Limits) (x : Client) (past : List Entry) (client : IsClientMode x.setup.mode)
    (h : CacheEntry) (cacheable : reads_as_cacheable (reading h.query) ≡ true)
    (legal : IsLegal l past) (keeps : KeepsOff (x.id Main) past) where
  -- a message of the key that was sent on a link
  told_on : (w : Wire) (proto : Proto) (r : ℕ) (up : List Entry) → Older up past
      → (t : Told (x.id w) l proto up r (key_of h.query))
      → ((v : Value) → IsGot v (telling proto t.keys)
      → invalidates x.setup.mode w v (key_of h.query) ≡ true)
      → ToldOn IsGot (traffic_of l x past) (fetch_of l x past h) w r
  told_on w proto r up o t voiding = record {
    place = t.place;
    sending = (r, telling proto t.keys);
    there = sent_older (x.id w) l up past o t.place (r, telling proto t.keys) t.there;
    number = refl;
    voiding = voiding;
  }

  -- a push of it on the one link
  pushed : (r : ℕ) (up : List Entry) → Older up past
      → (t : Told (x.id Main) l Three up r (key_of h.query))
      → ToldOn IsGot (traffic_of l x past) (fetch_of l x past h) Main r
  pushed r up o t =
      told_on Main Three r up o t
      (λ v got. voids x.setup.mode t.keys (key_of h.query) v got t.names)

  module _ (redirected : RedirectedIsSent) (e : Entry) (up : List Entry)
      (o : Older (e ∷ up) past) (on : runs_on l up (x.id Main) ≡ true)
      (due : is_due l e up (x.id Main) (key_of h.query) ≡ true) (before : AsAsked l x up) where
    lands_on_main : x.setup.mode.shape ≡ Single → AsAsked l x (e ∷ up)
        → Lands IsGot (traffic_of l x past) (fetch_of l x past h) (length up + 1)
    lands_on_main single after = record {
      wire = Main;
      watched = has_main x.setup.mode.shape;
      told =
          pushed (length up + 1) (e ∷ up) o
          (lands (x.id Main) l Three e up (key_of h.query)
          (due_is_pushed l e up (x.id Main) (key_of h.query) on (direct l x up client single before)
          (direct l x (e ∷ up) client single after) due));
    }

    lands_on_side : x.setup.mode.shape ≡ Pair → has_ended l (x.id Side) (e ∷ up) ≡ false
        → Lands IsGot (traffic_of l x past) (fetch_of l x past h) (length up + 1)
    lands_on_side pair live =
        let side = x.id Side in
        let m = mode l side up in
        let listens = subst (λ s. SideListens s x.setup.mode.proto l side up) pair before.side in
        let t = lands side l m.proto e up (key_of h.query)
        (redirected l e up (x.id Main) side (key_of h.query) on
        (ran_on l side e up listens.0 live)
        (ap redirect_of before.tracking_is ∙ ap (λ s. target_by s side) pair)
        (is_heard x.setup.mode.proto m listens.1) due) in record {
          wire = Side;
          watched = has_side x.setup.mode.shape pair;
          told =
              told_on Side m.proto (length up + 1) (e ∷ up) o t
              (λ v got. voids_side x.setup.mode m.proto t.keys (key_of h.query) v
              (in_form x.setup.mode.proto m listens.1) got t.names);
        }

    due_lands : AsAsked l x (e ∷ up)
        → ((w : Wire) → HasWire x.setup.mode.shape w → has_ended l (x.id w) (e ∷ up) ≡ false)
        → Lands IsGot (traffic_of l x past) (fetch_of l x past h) (length up + 1)
    due_lands after lives = elim (one_or_two x.setup.mode.shape) [
      | inl single ↦ lands_on_main single after
      | inr pair ↦ lands_on_side pair (lives Side (has_side x.setup.mode.shape pair))
    ]

  ahead_or_same : (first : BeforeTheReply) → x.setup.mode.shape ≡ Single
      → (r j i : ℕ) (ws : List (List ℕ)) (s : ℕ × Sending)
      → AsAsked l x (up_to r past)
      → is_told l (up_to r past) (x.id Main) (key_of h.query) ≡ true
      → slice_get (run_entries (x.id Main) past) j ≡ Some (suc r)
      → slice_get (runs_of (x.id Main) past) j ≡ Some ws
      → writes ws (key_of h.query) ≡ false
      → slice_get (sent l (x.id Main) past) i ≡ Some s → s.0 ≡ suc r
      → is_reply_sent x.setup.mode Main s.1 ≡ true
      → (carried x.setup.mode.proto (tree_of (answer h.query (keyspace l (up_to (suc r) past))))
      ≡ carried x.setup.mode.proto (tree_of (answer h.query (keyspace l (up_to r past)))))
      ⊎ ((t : ToldOn IsGot (traffic_of l x past) (fetch_of l x past h) Main (suc r))
      × (t.place < i))
  unfolding told_on pushed
  ahead_or_same first single r j i ws s good told e there unwrote sent_there number is_reply =
      let c = x.id Main in
      let k = key_of h.query in
      let t = ran_at c past j (suc r) e in
      let run = Run t.id t.words t.moment in
      let n = t.at in
      let up_is : up_to r past ≡ t.up =
      ap (λ n. up_to n past) (let m : r ≡ length t.up = omega (arith, n) in m)
      ∙ older_up_to t.up past (older_tail run t.up past t.older) in
      let all_is : up_to (suc r) past ≡ run ∷ t.up =
      ap (λ n. up_to n past) (let m : suc r ≡ length (run ∷ t.up) = omega (arith, n) in m)
      ∙ older_up_to (run ∷ t.up) past t.older in
      let words : ws ≡ t.words = same_Some ws t.words (sym there ∙ t.words_are) in
      elim (first l t.id t.moment t.words t.up c k
      (ap (λ u. is_told l u c k) (sym up_is) ∙ told)
      (ap (λ w. writes w k) (sym words) ∙ unwrote)) [
        | inl same ↦
            inl (ap (λ a. carried x.setup.mode.proto (tree_of a))
            (ap (λ u. answer h.query (keyspace l u)) all_is ∙ same h.query cacheable refl
            ∙ ap (λ u. answer h.query (keyspace l u)) (sym up_is)))
        | inr early ↦
            let run_legal = older_legal l t.older.newer (run ∷ t.up)
            (subst (IsLegal l) (sym t.older.is) legal) in
            let tail = older_tail run t.up past t.older in
            let good_up = subst (AsAsked l x) up_is good in
            let now = state l t.up in
            let a = told_ahead c l past t.up t.id t.words t.moment t.older run_legal.2 run_legal.0
            (λ (s : ℕ × Sending). is_reply_sent x.setup.mode Main s.1)
            (routed_none (is_reply_sent x.setup.mode Main) (length t.up + 1) c now.modes
            (plain_no_message x.setup.mode Main (λ v. refl) (now.modes c).subscribed
            (off_mode l c t.up (off_older c t.up past tail keeps))) (is_on now)
            (expiry_group l t.up t.moment)) k early
            (ap track.is_on good_up.tracking_is) (direct l x t.up client single good_up) i s
            sent_there (number ∙ sym n) is_reply in
            inr (subst (λ m. (t : ToldOn IsGot (traffic_of l x past) (fetch_of l x past h) Main m)
            × (t.place < i)) n (pushed (length t.up + 1) (run ∷ t.up) t.older a.0, a.1))
      ]

-- ---- the theorem

module _ (l : Limits) (x : Client) (past : List Entry) (log : List LogEntry)
    (client : IsClientMode x.setup.mode) (legal : IsLegal l past)
    (legal_log : LegalLog x.setup log) (meet : Meet l x past log) (h : CacheEntry)
    (is : IsFetch x.setup log h) where
  -- Main's connection keeps off what has no reply
  keeps : KeepsOff (x.id Main) past
  keeps = main_off l x past log legal legal_log meet

  laws : SentLaws IsGot (traffic_of l x past)
  laws = sent_laws l x past log legal legal_log meet

  -- the words of its query
  query : IsQuery h.query
  query = asked_query x.setup log h.number h.query legal_log is.fetch

  cacheable : reads_as_cacheable (reading h.query) ≡ true
  cacheable = query_reads h.query query

  replied_at : slice_get (filter (λ v. is_reply (kind_of v)) (gots Main log)) (h.number - 1)
      ≡ Some h.value
  replied_at =
      let r = reply_place h.number (replies x.setup.mode Main log) h.value is.reply_is in
      ap (λ vs. slice_get vs (h.number - 1)) (sym (replies_are_gots x.setup Main log)) ∙ r.1

  module _ (law : ChangeIsSignalled) (first : BeforeTheReply) (written : SignalsAreWritten)
      (registered : RegisteredIsMode) (redirected : RedirectedIsSent) where
    entry_laws : (at : ℕ)
        → EntryLaws IsGot (traffic_of l x past) (fetch_of l x past h)
        (λ n. AsAsked l x (up_to n past)) (Read l x past Main h (AsAsked l x)) at
    entry_laws at =
        entry_laws_of l x past Main (wires_of x.setup.mode.shape) (has_main x.setup.mode.shape)
        legal
        (replies_pass l x past log legal legal_log meet Main (has_main x.setup.mode.shape)) h
        (query_served h.query query) cacheable (AsAsked l x)
        (asked_for x.setup.mode (target_by x.setup.mode.shape (x.id Side))) refl
        (λ up good. good.tracking_is) (λ up good. good.proto_is)
        (λ up o. unconfined (mode l (x.id Main) up)
        (off_mode l (x.id Main) up (off_older (x.id Main) up past o keeps)))
        (λ e up o on due before after lives.
        due_lands l x past client h cacheable legal keeps redirected e up o on due before after
        lives)
        law written registered at
        (λ alone r j i ws s le lt good told e there unwrote at_place number is_reply.
        ahead_or_same l x past client h cacheable legal keeps first
        (single_by x.setup.mode.shape alone) r j i ws s good told e there unwrote at_place number
        is_reply)

    both : IsCurrent l x past log h
        × wires.HasPoint (traffic_of l x past) (fetch_of l x past h) log h.value
    both =
        theorem.currency IsGot (λ n. AsAsked l x (up_to n past))
        (Read l x past Main h (AsAsked l x)) (traffic_of l x past) (fetch_of l x past h) log meet
        (log_laws l x past log legal_log h is) laws
        (λ at ran. (
          entry_laws at,
          handshake l x past log legal legal_log meet laws
              (replies_on l x past log legal legal_log meet) h is at ran,
        ))
        h.value replied_at

    -- the entry that ran the fetch is the Run of its query
    fetch_ran : (at : ℕ) → run_of (x.id Main) past h.number ≡ Some at
        → (moment : ℕ) × ((sooner : List Entry)
        × (up_to at past ≡ Run (x.id Main) h.query moment ∷ sooner))
    fetch_ran at ran =
        let t = ran_at (x.id Main) past (h.number - 1) at ran in
        let run = Run t.id t.words t.moment in
        let n = t.at in
        let number : at ≡ length (run ∷ t.up) = omega (arith, n) in
        let asked = run_is_command IsGot (traffic_of l x past) log meet laws Main
        (has_main x.setup.mode.shape) (h.number - 1) t.words t.words_are in
        let words : t.words ≡ h.query =
        same_Some t.words h.query
        (sym asked
        ∙ (place_is_query x.setup log h.number h.query (inr legal_log) is.fetch).1) in (
          t.moment,
          (
            t.up,
            ap (λ n. up_to n past) number ∙ older_up_to (run ∷ t.up) past t.older
                ∙ ap (λ c. Run c t.words t.moment ∷ t.up) (eqb-true t.id (x.id Main) t.own)
                ∙ ap (λ ws. Run (x.id Main) ws t.moment ∷ t.up) words,
          ),
        )

    pub current : IsCurrent l x past log h × HasPoint l x past log h
    current =
        let p = both.1 in
        let f = fetch_ran p.fetched p.ran in (
          both.0,
          record {
            fetched = p.fetched;
            ran = p.ran;
            moment = f.0;
            sooner = f.1.0;
            fetch = f.1.1;
            answers = p.answers;
            within = p.within;
            after = p.after;
          },
        )

pub currency : ChangeIsSignalled → BeforeTheReply → SignalsAreWritten → RegisteredIsMode
    → RedirectedIsSent → Currency
currency law first written registered redirected l x past log client legal legal_log meet =
    every_weaker (IsFetch x.setup log)
    (λ h. IsCurrent l x past log h × HasPoint l x past log h) (held x.setup log)
    (λ h fetch. current l x past log client legal legal_log meet h fetch law first written
    registered redirected)
    (held_is_fetch x.setup log)
