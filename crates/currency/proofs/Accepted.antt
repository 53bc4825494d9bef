-- The client of an open fetch was answered OK to its tracking command, so Main's connection tracks
-- as it was asked to.
use Rattle.std.proofs.Common.{◌≡◌, ◌+◌, ◌-◌, ℕ, List, [], ◌∷◌, ◌++◌, Bool, true, false}
use Rattle.std.proofs.Common.{refl, ap, sym, ◌∙◌, arith, Option, Some, None, subst, length}
use Rattle.std.proofs.Common.{append_assoc, inl, inr}
use Rattle.std.specs.Fmt.{decimal}
use Rattle.std.specs.Prelude.{slice_get, not, ◌&&◌, ◌||◌, ◌==◌, pos}
use Rattle.std.specs.List.{filter, flat_map}
use Rattle.std.proofs.lemmas.Bool.{and_parts, eqb-true}
use Rattle.std.proofs.lemmas.Option.{same_Some, slice_get_within}
use Rattle.resp_value.specs.Carried.{carried}
use Rattle.resp_value.specs.ValueTree.{tree_of}
use Rattle.resp_value.specs.declared.value.Proto.{Proto}
use Rattle.resp_value.specs.declared.value.Proto.TheVariants.{Two, Three}
use Rattle.resp_value.specs.declared.value.Value.{Value}
use Rattle.resp_value.specs.declared.value.Value.TheVariants.{Error, Number}
use Rattle.command_words.specs.declared.command.Command.TheVariants.{ClientTracking}
use Rattle.command_words.specs.Effect.{Effect}
use Rattle.command_words.specs.Expiry.{without_due}
use Rattle.command_words.specs.Queries.{key_of}
use Rattle.command_words.specs.Space.{Space}
use Rattle.track_modes.specs.declared.fault.ModeFault.{ModeFault}
use Rattle.track_modes.specs.declared.tracking.Tracking.TheVariants.{Off}
use Rattle.track_modes.specs.Commands.{fault_at}
use Rattle.track_modes.specs.ModeState.{ModeState}
use Rattle.track_modes.specs.Tracked.{tracked}
use Rattle.serial_model.specs.declared.history.Limits.{Limits}
use Rattle.serial_model.specs.declared.history.Entry.{Entry}
use Rattle.serial_model.specs.declared.history.Entry.TheVariants.{Run}
use Rattle.serial_model.specs.Modes.{OwnEffect, Runner, accepted, own_effect, unless_refused}
use Rattle.serial_model.specs.History.{Sending, effect_of, keyspace, made, mode}
use Rattle.serial_model.specs.History.{runner, runs_of, sent, served, served_reading}
use Rattle.serial_model.proofs.ModeSteps.{mode_own}
use Rattle.shared_cache.specs.declared.log.Caching.{Caching}
use Rattle.shared_cache.specs.declared.log.Caching.TheVariants.{Default, OptIn, OptOut, Bcast}
use Rattle.shared_cache.specs.declared.log.ClientMode.{ClientMode}
use Rattle.shared_cache.specs.declared.log.LogEntry.{LogEntry}
use Rattle.shared_cache.specs.declared.log.LogEntry.TheVariants.{Ask}
use Rattle.shared_cache.specs.declared.log.Shape.TheVariants.{Single, Pair}
use Rattle.shared_cache.specs.declared.log.Wire.{Wire}
use Rattle.shared_cache.specs.declared.log.Wire.TheVariants.{Main, Side}
use Rattle.shared_cache.specs.Held.{commands, open_fetch}
use Rattle.shared_cache.specs.Laws.{HasTracking, LegalLog, NamesId}
use Rattle.shared_cache.specs.Log.{caching_on, covers, handshake_length, id_number, is_accepted}
use Rattle.shared_cache.specs.Log.{is_broken, is_ended, is_ok_text, is_ready, is_told, put_step}
use Rattle.shared_cache.specs.Log.{put_tracking, redirect_words, replies, reply_in, steps_of}
use Rattle.shared_cache.specs.Log.{told_id}
use Rattle.shared_cache.specs.Log.{tracking as asks_tracking}
use Rattle.shared_cache.proofs.FetchLaws.{open_was_sent}
use Rattle.shared_cache.proofs.Handshakes.{handshake_some, one_or_two}
use Rattle.shared_cache.proofs.SideFirstLaw.{track_names_id}
use Rattle.wire_currency.specs.Traffic.{IsPrefix, SentLaws}
use Rattle.currency.specs.Links.{Client, HasWire, IsGot, Meet, is_reply_sent, traffic_of}
use Rattle.currency.proofs.Answered.{AnsweredBy, answered_by}
use Rattle.currency.proofs.AsAsked.{asked_for, target_by}
use Rattle.currency.proofs.OffChannel.{ran_own}
use Rattle.currency.proofs.RunPlaces.{one_run}
use Rattle.currency.proofs.Replies.{replies_of}
use Rattle.currency.proofs.Runs.{Older, older_tail}
use Rattle.currency.proofs.Settings.{Has, before_tracking, made_is, unsubscribed}
use Rattle.currency.proofs.SideHandshake.{id_told}
use Rattle.currency.proofs.TrackingCommand.{ReadsAsked, asked_options, direct_reads}
use Rattle.currency.proofs.TrackingCommand.{target_reads}
use Rattle.currency.proofs.Wires.{has_main, has_side}

-- ---- what the tracking command is answered, and what it makes

-- an error is not got as OK
no_error : (p : Proto) (v : Value) (text : List ℕ) → is_ok_text v ≡ true
    → tree_of v ≡ carried p (tree_of (Error text)) → ⊥
no_error p v text ok got = grind arith

tracked_is : (m : ClientMode) (c : Caching) (target : Option ℕ) → m.caching ≡ c
    → tracked (asked_options c m.noloop target) Off ≡ asked_for (record m { caching = c }) target
tracked_is m Default target e = refl
tracked_is m OptIn target e = refl
tracked_is m OptOut target e = refl
tracked_is m (Bcast prefixes) target e = refl

-- what its reply says of what it made: of a mode that did not track, where the reply is OK
abbrev MakesAsked : ClientMode → Option ℕ → Runner → Value → OwnEffect → Type 0
MakesAsked m target by reply made =
    (p : Proto) (v : Value) → is_ok_text v ≡ true → tree_of v ≡ carried p (tree_of reply)
    → made.mode ≡ record by.mode { tracking = asked_for m target; caching = false }

by_fault : (m : ClientMode) (target : Option ℕ) (by : Runner) (fault : Option ModeFault)
    → by.mode.tracking ≡ Off
    → MakesAsked m target by (accepted fault)
    (unless_refused fault (ClientTracking (asked_options m.caching m.noloop target)) by.mode)
by_fault m target by None off p v ok got =
    ap (λ t. record by.mode {
      tracking = tracked (asked_options m.caching m.noloop target) t;
      caching = false;
    }) off
    ∙ ap (λ t. record by.mode { tracking = t; caching = false })
    (tracked_is m m.caching target refl)
by_fault m target by (Some fault) off p v ok got = absurd (no_error p v _ ok got)

-- words that ask for it make it, where they are answered OK
makes_asked : (m : ClientMode) (target : Option ℕ) (words : List (List ℕ)) (by : Runner)
    (space : Space) (moment : ℕ) → ReadsAsked m target words → by.mode.tracking ≡ Off
    → MakesAsked m target by (effect_of by words (served_reading words) space moment).reply
    (own_effect (served_reading words) by)
makes_asked m target words by space moment (inl reads) off =
    subst (λ r. MakesAsked m target by (effect_of by words (served r) space moment).reply
    (own_effect (served r) by)) (sym reads)
    (by_fault m target by
    (fault_at (ClientTracking (asked_options m.caching m.noloop target)) by.target_exists by.mode)
    off)
makes_asked m target words by space moment (inr none) off =
    subst (λ r. MakesAsked m target by (effect_of by words (served r) space moment).reply
    (own_effect (served r) by)) (sym none.1)
    (λ p v ok got. absurd (no_error p v _ ok got))

-- a reply that was accepted
record IsOk (o : Option Value) : Type 0 where
  value : Value
  is : o ≡ Some value
  ok : is_ok_text value ≡ true

is_ok_reply : (o : Option Value) → is_accepted o ≡ true → IsOk o
is_ok_reply None e = absurd (let no : ⊥ = cc in no)
is_ok_reply (Some v) e = record { value = v; is = refl; ok = e }

-- ---- the command names Side's connection

-- of one link it is the last of the handshake, and names none
track_direct : (p : Proto) (m : ClientMode) (told : Bool) (id : List ℕ)
    (more : List (List (List ℕ))) → m.shape ≡ Single
    → slice_get (flat_map (put_step m told id) (steps_of Main m.shape p) ++ more)
    (length (steps_of Main m.shape p) - 1) ≡ Some (asks_tracking m [])
track_direct Two m told id more one =
    λ i. slice_get ((put_tracking (one i) m told id ++ []) ++ more) 0
track_direct Three m told id more one =
    λ i. slice_get ((put_tracking (one i) m told id ++ []) ++ more) 0

-- a number is got as it is
number_got : (p : Proto) (i j : ℕ) → tree_of (Number (pos i)) ≡ carried p (tree_of (Number (pos j)))
    → i ≡ j
number_got p i j e = grind arith

module _ (l : Limits) (x : Client) (past : List Entry) (log : List LogEntry)
    (legal_log : LegalLog x.setup log) (meet : Meet l x past log)
    (laws : SentLaws IsGot (traffic_of l x past))
    (replies_on : (w : Wire) → HasWire x.setup.mode.shape w
    → filter (λ (s : ℕ × Sending). is_reply_sent x.setup.mode w s.1) (sent l (x.id w) past)
    ≡ replies_of l (x.id w) past) where
  -- the id that Side was told is its connection's
  side_is_named : (two : x.setup.mode.shape ≡ Pair) (t : NamesId x.setup log) → t.id ≡ x.id Side
  side_is_named two t =
      let a = answered_by l x past log meet laws replies_on Side (has_side x.setup.mode.shape two)
      [] log refl (id_number x.setup.mode.proto) (Number (pos t.id)) (t.told []) in
      let proto = (made l a.up a.id a.words a.moment).mode.proto in
      let told = id_told x.setup l log two (x.id Side) past
      (meet.ran Side (has_side x.setup.mode.shape two)) a.id a.moment a.words a.up a.own a.older
      a.place_is in
      number_got proto t.id (x.id Side)
      (a.got ∙ ap (λ y. carried proto (tree_of y)) told)

  reads_asked : HasTracking x.setup log → (words : List (List ℕ))
      → slice_get (commands x.setup Main log) (handshake_length x.setup.mode - 1) ≡ Some words
      → ReadsAsked x.setup.mode (target_by x.setup.mode.shape (x.id Side)) words
  reads_asked has words there =
      let m = x.setup.mode in
      elim (one_or_two m.shape) [
        | inl one ↦
            let direct = track_direct m.proto m (is_told m log) (told_id m log) _ one in
            let is : asks_tracking m [] ≡ words =
            same_Some (asks_tracking m []) words (sym direct ∙ there) in
            subst (λ ws. ReadsAsked m (target_by m.shape (x.id Side)) ws) is
            (subst (λ h. ReadsAsked m (target_by h (x.id Side)) (asks_tracking m [])) (sym one)
            (direct_reads m))
        | inr two ↦
            let t = track_names_id x.setup log two legal_log has in
            let is : asks_tracking m (redirect_words (decimal t.id)) ≡ words =
            same_Some (asks_tracking m (redirect_words (decimal t.id))) words
            (sym t.command_is ∙ there) in
            subst (λ ws. ReadsAsked m (target_by m.shape (x.id Side)) ws) is
            (subst (λ h. ReadsAsked m (target_by h (x.id Side))
            (asks_tracking m (redirect_words (decimal t.id)))) (sym two)
            (subst (λ c. ReadsAsked m (Some c) (asks_tracking m (redirect_words (decimal t.id))))
            (side_is_named two t) (target_reads m t.id)))
      ]

  -- ---- the client of an open fetch

  ran_main : IsPrefix (runs_of (x.id Main) past) (commands x.setup Main log)
  ran_main = meet.ran Main (has_main x.setup.mode.shape)

  module _ (n : ℕ) (q : List (List ℕ)) (fetch : open_fetch x.setup log n ≡ Some q) where
    -- its tracking command was answered OK
    record TrackAnswered : Type 0 where
      value : Value
      ok : is_ok_text value ≡ true
      by : AnsweredBy l x past log meet laws replies_on Main (handshake_length x.setup.mode - 1)
          value

    track_answered : TrackAnswered
    track_answered =
        let m = x.setup.mode in
        let w = open_was_sent x.setup log n q fetch in
        let on = (and_parts (caching_on m w.sooner) (covers m.caching (key_of q)) w.on).0 in
        let ready = (and_parts (is_ready m w.sooner)
        (not (is_ended m Main w.sooner || is_ended m Side w.sooner) && not (is_broken m w.sooner))
        on).0 in
        let ok = is_ok_reply (reply_in (handshake_length m) (replies m Main w.sooner)) ready in
        record {
          value = ok.value;
          ok = ok.ok;
          by =
              answered_by l x past log meet laws replies_on Main (has_main m.shape)
              (w.later ++ Ask q ∷ []) w.sooner
              (w.log_is ∙ sym (append_assoc w.later (Ask q ∷ []) w.sooner))
              (handshake_length m) ok.value ok.is;
        }

    -- so it left the tracking that it asked for
    pub accepted_left : (id m : ℕ) (words : List (List ℕ)) (up : List Entry)
        → (id == x.id Main) ≡ true → Older (Run id words m ∷ up) past
        → length (runs_of (x.id Main) up) + 1 ≡ handshake_length x.setup.mode
        → Has x.setup.mode.proto
        (asked_for x.setup.mode (target_by x.setup.mode.shape (x.id Side)))
        (mode l (x.id Main) (Run id words m ∷ up))
    accepted_left id m words up own o count =
        let c = x.id Main in
        let s = x.setup in
        let target = target_by s.mode.shape (x.id Side) in
        let t = track_answered in
        let a = t.by in
        let place : length (runs_of c a.up) + 1 ≡ handshake_length s.mode =
        omega (arith, a.place_is, handshake_some s.mode) in
        let same = one_run c past id m a.id a.moment words a.words up a.up own a.own o a.older
        (omega (arith, place, count)) in
        let by = runner l a.up a.id a.words a.moment in
        let before = older_tail (Run a.id a.words a.moment) a.up past a.older in
        let off : by.mode.tracking ≡ Off =
        ap (λ d. (mode l d a.up).tracking) (eqb-true a.id c a.own)
        ∙ (before_tracking s l log legal_log c past ran_main a.up before place).tracking_is in
        let free : by.mode.subscribed ≡ false =
        ap (λ d. (mode l d a.up).subscribed) (eqb-true a.id c a.own)
        ∙ unsubscribed s l log legal_log c past ran_main a.up before in
        let space = without_due a.moment (keyspace l a.up) in
        let proto = (made l a.up a.id a.words a.moment).mode.proto in
        let has : HasTracking s log =
        omega (
          arith,
          handshake_some s.mode,
          slice_get_within (commands s Main log) (handshake_length s.mode - 1) a.words a.command_is,
        ) in
        let is = makes_asked s.mode target a.words by space a.moment
        (reads_asked has a.words a.command_is) off proto t.value t.ok
        (a.got
        ∙ ap (λ (e : Effect). carried proto (tree_of e.reply))
        (ran_own by a.words free space a.moment)) in
        let left : mode l c (Run a.id a.words a.moment ∷ a.up)
        ≡ record by.mode { tracking = asked_for s.mode target; caching = false } =
        mode_own l c a.id a.moment a.words a.up a.own
        ∙ ap (λ (e : OwnEffect). e.mode)
        (made_is s l log legal_log c past ran_main a.id a.moment a.words a.up a.own a.older)
        ∙ is in
        subst (λ g. Has s.mode.proto (asked_for s.mode target) (mode l c g)) (sym same)
        (record {
          proto_is =
              ap (λ (y : ModeState). y.proto) left
              ∙ ap (λ d. (mode l d a.up).proto) (eqb-true a.id c a.own)
              ∙ (before_tracking s l log legal_log c past ran_main a.up before place).proto_is;
          tracking_is = ap (λ (y : ModeState). y.tracking) left;
        })
