-- A Tick sends what its entry sends, and leaves what the history says.
use Rattle.std.proofs.Common.{◌≡◌, ◌≢◌, ◌+◌, ◌-◌, ◌≤◌, ℕ, List, [], ◌∷◌, ◌++◌, length, sym, ap, ◌∙◌}
use Rattle.std.proofs.Common.{refl, arith, Bool, false, cond, append-nil, map, max, Some}
use Rattle.std.specs.Prelude.{◌==◌, ◌&&◌, ◌||◌}
use Rattle.command_words.specs.Expiry.{without_due}
use Rattle.command_words.specs.Space.{Space}
use Rattle.track_table.specs.Table.{TableState, without_connection, without_keys}
use Rattle.prefix_table.specs.declared.table.Registration.{Registration}
use Rattle.prefix_table.specs.Table as registrations
use Rattle.serial_model.specs.declared.effect.EntryKind.TheVariants as kind
use Rattle.serial_model.specs.declared.history.BookCall.TheVariants.{Tick}
use Rattle.serial_model.specs.declared.history.BookReply.TheVariants.{Ticked, Quiet}
use Rattle.serial_model.specs.declared.history.Limits.{Limits}
use Rattle.serial_model.specs.declared.history.Entry.{Entry}
use Rattle.serial_model.specs.declared.history.Entry.TheVariants as entry
use Rattle.serial_model.specs.EntryEffects.{bare_effect, dropped_by, last_effect}
use Rattle.serial_model.specs.Each.{AllIn}
use Rattle.serial_model.specs.State.{State, for_each, is_on, keeps_bytes}
use Rattle.serial_model.specs.Tracking.{has_id}
use Rattle.serial_model.specs.Actions.{Action, End, Sending, action_leaves, all_messages, are_lost}
use Rattle.serial_model.specs.Actions.{broken_after, ends, expiry_told, later_told, modes_then}
use Rattle.serial_model.specs.Actions.{routed}
use Rattle.serial_model.specs.History.{latest, posted, sent_to, is_stopped}
use Rattle.serial_model.specs.History.{expired, state, tick_action, keyspace, sent_bytes}
use Rattle.serial_model.specs.History.{table}
use Rattle.serial_model.specs.Steps.{book_step}
use Rattle.serial_model.proofs.ModeSteps.{mode_tick}
use Rattle.serial_model.proofs.ActionSends.{tick_sends}
use Rattle.serial_model.proofs.Each.{all_in}
use Rattle.serial_model.proofs.LiveMessages.{tick_live}
use Rattle.serial_model.proofs.Quiet.{tick_none}
use Rattle.serial_model.proofs.StateSteps.{tick_table}
use Rattle.serial_model.proofs.Streams.{unsent_tick, unsent_tick_ended}
use Rattle.serial_model.proofs.Turning.{tick_step}
use Rattle.server_book.specs.declared.ends.Ends.{Ends}
use Rattle.server_book.specs.Places.{Connection, kept_broken}
use Rattle.server_book.specs.Connections.{ConnectionsState, IsId, connection_at}
use Rattle.server_book.specs.Endings.{ArePostedTo, HasEnded, by_tick, ending_ids}
use Rattle.server_book.specs.Sendings.{lost_ids, lost_marked}
use Rattle.server_book.specs.BookState.{Agrees, HasRoom}
use Rattle.server_book.proofs.EntryEnds.{IsSent, dropped_ended, each_ended, ends_same, posted_ended}
use Rattle.server_book.proofs.EntryEnds.{posted_past, room_ended, sent_one}
use Rattle.server_book.proofs.Routing.{lost_there}
use Rattle.server_book.proofs.Runs.{early, early_is, early_lost, first, first_at, first_posts}
use Rattle.server_book.proofs.Runs.{first_told, length_first, old, other_broken}
use Rattle.server_book.proofs.Sendings.{broken_if, drops_kept, id_longer, marked_at, marked_length}
use Rattle.server_book.proofs.BookTurns.{same_kept, same_parts}

no_more : (b : Bool) → (b || false) ≡ b
no_more b = grind arith

module _ (l : Limits) (past : List Entry) (space : Space) (keys : TableState)
    (rs : List Registration) (cs : List Connection) (k : Agrees l past space keys rs cs) (m n : ℕ)
    (gone : List (List ℕ)) (gone_is : gone ≡ expired l past m) (number : n ≡ length past + 1) where
  abbrev now : State
  now = state l past

  abbrev t : Action
  t = tick_action m now

  abbrev tick : Entry
  tick = entry.Tick m

  abbrev next : State
  next = state l (tick ∷ past)

  abbrev sent : List (ℕ × Sending)
  sent = early l past space keys rs cs k m gone gone_is

  abbrev behind : ConnectionsState
  behind = first l past space keys rs cs k m gone gone_is n

  abbrev final : ConnectionsState
  final = lost_marked behind

  -- no command signals a key, and none is remembered, so that none is past the table's limit
  none_later : later_told l t now ≡ []
  none_later = tick_none l past m

  sent_is : all_messages l t now ≡ sent
  sent_is =
      let group = routed now.modes (is_on now) (expiry_told t now) in
      ap (λ x. (group ++ []) ++ routed (modes_then t now) (is_on now) x) none_later
      ∙ append-nil (group ++ [])
      ∙ append-nil group
      ∙ sym (early_is l past space keys rs cs k m gone gone_is)

  abbrev found : ℕ → Bool
  found c = are_lost now.modes (is_on now) (expiry_told t now) c

  broken_tick : (c : ℕ) → next.broken c ≡ broken_after l t now c
  unfolding state
  broken_tick c = refl

  never_mends : (x b y : Bool) → (cond (x && false) false b || y) ≡ (b || y)
  never_mends x b y = grind arith

  broken_is : (c : ℕ) → next.broken c ≡ ((now.broken c || found c) || false)
  broken_is c =
      broken_tick c
      ∙ never_mends (0 == c) (now.broken c || found c)
      (are_lost (modes_then t now) (is_on now) (later_told l t now) c)
      ∙ ap (λ x. (now.broken c || found c) || are_lost (modes_then t now) (is_on now) x c)
      none_later

  broken_at : (i : ℕ)
      → ((has_id i behind.lost && keeps_bytes (now.standing i))
      || kept_broken (now.standing i) (now.broken i))
      ≡ kept_broken (now.standing i) (next.broken i)
  broken_at i =
      let kept = keeps_bytes (now.standing i) in
      ap (λ x. (x && kept) || (kept && now.broken i))
      (early_lost l past space keys rs cs k m gone gone_is i
      ∙ sym (no_more (found i)))
      ∙ other_broken kept (found i) false (now.broken i)
      ∙ ap (λ b. kept && b) (sym (broken_is i))

  lost_on : AllIn (IsId behind.items) behind.lost
  lost_on =
      all_in {P = IsId cs} {Q = IsId behind.items}
      (id_longer cs behind.items
      (omega (arith, length_first l past space keys rs cs k m gone gone_is n)))
      (lost_ids cs (first_told l past space keys rs cs k m gone gone_is))
      (lost_there cs (first_told l past space keys rs cs k m gone gone_is))

  length_final : length final.items ≡ length cs
  length_final =
      marked_length behind.lost behind.items
      ∙ length_first l past space keys rs cs k m gone gone_is n

  final_is : (i : ℕ) → IsId final.items i
      → connection_at final.items i ≡ sent_one l past tick (sent_bytes (sent_to n i sent)) i
  final_is i there =
      marked_at behind.lost i behind.items lost_on there.0
      ∙ ap (broken_if (has_id i behind.lost))
      (first_at l past space keys rs cs k m gone gone_is n i
      (there.0, let le = there.1 in omega (arith, le, length_final)))
      ∙ same_parts refl refl (same_kept refl (sym (mode_tick l i m past))) (broken_at i)

  tick_leaves : next ≡ action_leaves l t now
  unfolding state
  tick_leaves = refl

  tick_space : keyspace l (tick ∷ past) ≡ without_due m (keyspace l past)
  unfolding state
  tick_space = refl

  tick_prefixes : next.prefixes
      ≡ for_each registrations.without_connection (ends l t now) now.prefixes
  unfolding state
  tick_prefixes = refl

  pub stopped_tick : is_stopped l (tick ∷ past) ≡ is_stopped l past
  unfolding state
  stopped_tick = no_more now.stopped

  -- ---- all that the Tick sends is sent, and it ends those whom the history ends

  abbrev by : Ends
  by = by_tick l.out_max

  sent_tick : IsSent l past tick t n by sent final
  sent_tick = record {
    number = number;
    leaves = tick_leaves;
    sends_are =
        tick_sends l past m k.legal ∙ ap (λ x. x ++ map (λ c. (c, End)) (ends l t now)) sent_is;
    messages_are = tick_live l past m k.legal ∙ sent_is;
    drops_are = refl;
    quits_are = λ c. refl;
    stops_are = refl;
    limit_is = refl;
    unsent_more = λ c live none. unsent_tick l past c m live none;
    unsent_same = λ c over. unsent_tick_ended l past c m over;
    count = length_final ∙ k.count;
    each = final_is;
    posts_are = first_posts l past space keys rs cs k m gone gone_is n;
    none_dropped = drops_kept n sent (old l past space keys rs cs k m gone gone_is);
  }

  pub posted_then : ArePostedTo l.out_max final.items final.posts
  posted_then = posted_past l past tick t n by sent final sent_tick

  module _ (done : ConnectionsState) (ended : HasEnded n by final done) where
    pub agrees_tick : (new : Space) → is_stopped l past ≡ false → (gone ≡ [] → ⊥)
        → latest past ≤ m → new ≡ without_due m space
        → (let ids = ending_ids by final.items in
        Agrees l (tick ∷ past) new
        (record keys { rows = for_each without_connection ids (without_keys gone keys.rows) })
        (for_each registrations.without_connection ids rs) done.items)
    agrees_tick new goes some later s =
        let same = ends_same l past tick t n by sent final sent_tick in record {
          legal = (goes, (λ none. some (gone_is ∙ none)), later, k.legal);
          space_is = s ∙ ap (without_due m) k.space_is ∙ sym tick_space;
          table_is =
              ap (λ ids. record keys {
                rows = for_each without_connection ids
                    (without_keys gone keys.rows);
              }) same
              ∙ ap (λ (t : TableState). record t {
                rows = for_each without_connection
                    (ends l (tick_action m now) now) (without_keys gone t.rows);
              }) k.table_is
              ∙ ap (λ rows. record { limit = l.table_max; rows = rows })
              (ap (λ g. for_each without_connection (ends l t now) (without_keys g (table l past)))
              gone_is
              ∙ sym (tick_table l past m));
          prefixes_are =
              ap (λ ids. for_each registrations.without_connection ids rs) same
              ∙ ap (for_each registrations.without_connection (ends l t now)) k.prefixes_are
              ∙ sym tick_prefixes;
          count = ended.count ∙ length_final ∙ k.count;
          each = λ i there.
              each_ended l past tick t n by sent final sent_tick done ended i
              (there.0, let le = there.1 in omega (arith, le, ended.count));
        }

    pub posted_tick : done.posts ≡ posted l (tick ∷ past)
    posted_tick = posted_ended l past tick t n by sent final sent_tick done ended

    pub dropped_tick : done.drops ≡ dropped_by l (tick ∷ past)
    dropped_tick = dropped_ended l past tick t n by sent final sent_tick done ended

    pub room_tick : (closable : ℕ) → HasRoom closable cs
        → (length done.drops ≤ closable) × HasRoom (closable - length done.drops) done.items
    room_tick closable room =
        room_ended l past tick t n by sent final sent_tick done ended space keys rs cs k closable
        room

-- whether keys are due, by their number
pub none_of : (keys : List (List ℕ)) → length keys ≡ 0 → keys ≡ []
none_of [] e = refl
none_of (key ∷ keys) e = absurd (omega arith)

pub some_of : (keys : List (List ℕ)) → length keys ≢ 0 → keys ≡ [] → ⊥
some_of keys ne none = ne (ap length none)

-- the answers of a Tick
pub tick_turned : (l : Limits) (past : List Entry) (now m n : ℕ) (gone : List (List ℕ))
    → is_stopped l past ≡ false → gone ≡ expired l past m → (gone ≡ [] → ⊥)
    → n ≡ length past + 1 → m ≡ max now (latest past)
    → book_step l past (Tick now) ≡ record { reply = Ticked n; past = entry.Tick m ∷ past }
tick_turned l past clock m n [] goes is some h moment = absurd (some refl)
tick_turned l past clock m n (key ∷ gone) goes is some h moment =
    tick_step l past clock key gone goes (ap (expired l past) (sym moment) ∙ sym is)
    ∙ ap (λ x. record { reply = Ticked x; past = entry.Tick (max clock (latest past)) ∷ past })
    (sym h)
    ∙ ap (λ x. record { reply = Ticked n; past = entry.Tick x ∷ past }) (sym moment)

pub tick_quiet : (l : Limits) (past : List Entry) (now m : ℕ) → is_stopped l past ≡ false
    → expired l past m ≡ [] → m ≡ max now (latest past)
    → book_step l past (Tick now) ≡ record { reply = Quiet; past = past }
unfolding book_step
tick_quiet l past now m goes none moment = grind arith

-- what its effect is
pub effect_tick : (l : Limits) (past : List Entry) (m n : ℕ) (gone : List (List ℕ))
    → n ≡ length past + 1 → gone ≡ expired l past m
    → Some (record (bare_effect n 0 kind.Tick) { expired = gone })
    ≡ last_effect l (entry.Tick m ∷ past)
unfolding last_effect
effect_tick l past m n gone h e =
    ap (λ x. Some (record (bare_effect x 0 kind.Tick) { expired = gone })) h
    ∙ ap (λ x. Some (record (bare_effect (length past + 1) 0 kind.Tick) { expired = x })) e
