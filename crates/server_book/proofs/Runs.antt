-- A Run sends what its entry sends, and leaves what the history says.
use Rattle.std.proofs.Common.{◌≡◌, ◌+◌, ◌<◌, ◌≤◌, ℕ, List, [], ◌∷◌, ◌++◌, length, sym, ap, subst}
use Rattle.std.proofs.Common.{Bool, Option, Some, None, ◌∙◌, refl, arith, true, false, cond, map}
use Rattle.std.proofs.Common.{append_assoc, eq-eqb, ne_eqb, inl, inr}
use Rattle.std.specs.Prelude.{◌==◌, nat_lt, nat_le, ◌&&◌, ◌||◌, ◌-◌, filter, not}
use Rattle.std.proofs.lemmas.Bool.{and_parts, cases_eq}
use Rattle.std.proofs.lemmas.Bool.Decides.{nat_tests}
use Rattle.std.proofs.lemmas.List.Folds.{list_any-append}
use Rattle.resp_value.specs.declared.value.Value.{Value}
use Rattle.command_words.specs.Space.{Space}
use Rattle.track_table.specs.declared.table.Held.{Held}
use Rattle.command_words.specs.declared.command.Signalled.{Signalled}
use Rattle.command_words.specs.declared.command.Signalled.TheVariants.{Keys, All}
use Rattle.track_table.specs.Table.{TableState, dropped, kept, without_connection, without_keys}
use Rattle.prefix_table.specs.declared.table.Registration.{Registration}
use Rattle.prefix_table.specs.Table as registrations
use Rattle.track_modes.specs.ModeState.{ModeState, is_noloop, is_on as is_tracking, new_mode}
use Rattle.serial_model.specs.declared.history.Limits.{Limits}
use Rattle.serial_model.specs.declared.history.Entry.{Entry}
use Rattle.serial_model.specs.declared.history.Entry.TheVariants as entry
use Rattle.serial_model.specs.Each.{AllIn, AllTo}
use Rattle.serial_model.specs.EntryEffects.{dropped_by}
use Rattle.serial_model.specs.Modes.{is_quitting, is_stopping, mends}
use Rattle.serial_model.specs.Tracking.{Invalidation, drop_group, has_id, ids_where, registering}
use Rattle.serial_model.specs.Tracking.{signal_group, whole_group}
use Rattle.serial_model.specs.declared.standing.Standing.{Standing}
use Rattle.serial_model.specs.declared.standing.Standing.TheVariants.{Live}
use Rattle.serial_model.specs.State.{State, for_each, is_live, is_on, keeps_bytes}
use Rattle.serial_model.specs.Actions.{Action, action_leaves, all_messages, are_lost, broken_after}
use Rattle.serial_model.specs.Actions.{drops_told, ends, is_passed, modes_then, own_told, replies}
use Rattle.serial_model.specs.Actions.{routed, rows_grown, rows_then, to_one}
use Rattle.serial_model.specs.Actions.{tracks as tracks_in}
use Rattle.serial_model.specs.Actions.{expiry_told as expiry_told_in, later_told}
use Rattle.serial_model.specs.Actions.{Sending, End}
use Rattle.serial_model.specs.History.{runs_on, latest, posted, state, is_stopped, sent_to}
use Rattle.serial_model.specs.History.{sent_bytes, unsent}
use Rattle.serial_model.specs.History.{posts_of, run_action, table, expired, table_grown}
use Rattle.serial_model.proofs.Counts.{admitted_is, on_is}
use Rattle.serial_model.proofs.Each.{all_in}
use Rattle.serial_model.proofs.ActionSends.{run_sends}
use Rattle.serial_model.proofs.LiveMessages.{run_live}
use Rattle.serial_model.proofs.Lives.{AreLive, Is, all_live, grown_live, is_from, is_then_on}
use Rattle.serial_model.proofs.Lives.{run_adds, then_live}
use Rattle.serial_model.proofs.Quiet.{later_lost, later_routed}
use Rattle.serial_model.proofs.ModeSteps.{mode_own, mode_other}
use Rattle.serial_model.proofs.StateSteps.{run_space, run_table}
use Rattle.serial_model.proofs.Streams.{not_ended, unsent_run, unsent_run_ended}
use Rattle.serial_model.proofs.TableSize.{table_within, without_keys_within, without_within}
use Rattle.serial_model.proofs.Tables.{all_to, drop_group_all, dropped_all, ids_all}
use Rattle.serial_model.proofs.Tables.{signal_group_all, to_append, whole_group_all}
use Rattle.server_book.specs.declared.ends.Ends.{Ends}
use Rattle.server_book.specs.Places.{Connection, kept_broken, kept_mode}
use Rattle.server_book.specs.declared.deed.Deed.{Deed}
use Rattle.server_book.specs.declared.plan.Plan.{Plan}
use Rattle.server_book.specs.Connections.{ConnectionsState, IsId, connection_at}
use Rattle.server_book.specs.Connections.{is_live as is_live_in, is_there, is_open, IsOpen}
use Rattle.server_book.specs.Endings.{ArePostedTo, HasEnded, ending_ids, ends_of}
use Rattle.server_book.specs.Plans.{ending_by, signals_of, memory_of, told_by, kept_by, mode_by}
use Rattle.server_book.specs.Plans.{registered_by, remembered_by}
use Rattle.server_book.specs.RunSendings.{deed_done, reply_sent, settled, settled_one}
use Rattle.server_book.specs.Sendings.{lost_ids, marked, modes_in, passed_over, passes}
use Rattle.server_book.specs.Sendings.{tracking_ids, ways, with_told}
use Rattle.server_book.specs.Sendings.{tracks as tracks_of}
use Rattle.server_book.specs.BookState.{Agrees, HasRoom, connection_of}
use Rattle.server_book.proofs.EntryEnds.{IsSent, bytes_append, dropped_ended, each_ended, ends_same}
use Rattle.server_book.proofs.EntryEnds.{posted_ended, posted_past, posts_append, room_ended}
use Rattle.server_book.proofs.EntryEnds.{sent_one}
use Rattle.server_book.proofs.PrefixGroups.{nothing_told}
use Rattle.server_book.proofs.Routing.{AreSame, ids_lost, live_open, lost_among, lost_append}
use Rattle.server_book.proofs.Routing.{lost_same, lost_there, routed_same, sendings_same}
use Rattle.server_book.proofs.Routing.{ways_same, ways_there}
use Rattle.server_book.proofs.Remembered.{short_dropped}
use Rattle.server_book.proofs.Sendings.{at_same, at_other, AreTo, sent_at, more, broken_if}
use Rattle.server_book.proofs.Sendings.{drops_kept, length_sendings, length_settled, lost_kept}
use Rattle.server_book.proofs.Sendings.{posts_sendings}
use Rattle.server_book.proofs.Sendings.{id_longer, ids_same, is_there_id, marked_at, marked_length}
use Rattle.server_book.proofs.BookTurns.{is_id, live_mode, mode_of, opened, runs_there, same_kept}
use Rattle.server_book.proofs.BookTurns.{same_parts}

is_live_of : (x : Standing) → not (is_live x) ≡ false → x ≡ Live
is_live_of x h = grind arith

-- ---- the registered prefixes behind a Run

-- those that end leave them
run_prefixes : (l : Limits) (past : List Entry) (id m : ℕ) (words : List (List ℕ))
    → (let s = state l past in
    let t = run_action id words m s in
    (state l (entry.Run id words m ∷ past)).prefixes
    ≡ for_each registrations.without_connection (ends l t s)
    (registering id t.effect.memory s.prefixes))
unfolding state
run_prefixes l past id m words = refl

run_leaves : (l : Limits) (past : List Entry) (id m : ℕ) (words : List (List ℕ))
    → state l (entry.Run id words m ∷ past)
    ≡ action_leaves l (run_action id words m (state l past)) (state l past)
unfolding state
run_leaves l past id m words = refl

pub run_stopped : (l : Limits) (past : List Entry) (id m : ℕ) (words : List (List ℕ))
    → is_stopped l (entry.Run id words m ∷ past)
    ≡ (is_stopped l past || is_stopping (run_action id words m (state l past)).effect.ending)
unfolding state
run_stopped l past id m words = refl

-- ---- a connection that is settled

module _ (id : ℕ) (deed : Deed) (st : ConnectionsState) (there : AllIn (IsId st.items) st.lost)
  where
    abbrev then : ConnectionsState
    then = settled id deed st

    abbrev behind : List Connection
    behind = marked st.lost st.items

    pub settled_own : IsId st.items id
        → connection_at then.items id
        ≡ settled_one deed (broken_if (has_id id st.lost) (connection_at st.items id))
    settled_own on =
        at_same behind id (settled_one deed (connection_at behind id))
        (on.0, let le = on.1 in omega (arith, le, marked_length st.lost st.items))
        ∙ ap (settled_one deed) (marked_at st.lost id st.items there on.0)

    pub settled_other : (i : ℕ) → 0 < id → 0 < i → (id ≡ i → ⊥)
        → connection_at then.items i
        ≡ broken_if (has_id i st.lost) (connection_at st.items i)
    settled_other i some pos ne =
        at_other behind id i (settled_one deed (connection_at behind id)) some pos ne
        ∙ marked_at st.lost i st.items there pos

-- ---- a deed that mends a redirection tells nobody

mends_told : (id : ℕ) (deed : Deed) (passed : ℕ → Bool)
    (tracking : List ℕ) (table : TableState) (prefixes : List Registration)
    → length table.rows ≤ table.limit → mends (memory_of deed) ≡ true
    → told_by id deed passed tracking table prefixes ≡ []
mends_told id deed passed tracking table prefixes short is =
    grind (arith, short_dropped, without_within, nothing_told)

-- ---- who is passed over

filter_same : (f g : ℕ → Bool) (told : List Invalidation) → ((c : ℕ) → f c ≡ g c)
    → filter (λ i. not (f i.to)) told ≡ filter (λ i. not (g i.to)) told
filter_same f g [] same = refl
filter_same f g (i ∷ told) same = grind (arith, same i.to, filter_same f g told same)

signalled_same : (sig : Signalled) (f g : ℕ → Bool) (tracking : List ℕ) (rows : List Held)
    (prefixes : List Registration) → ((c : ℕ) → f c ≡ g c)
    → signal_group sig f tracking rows prefixes ≡ signal_group sig g tracking rows prefixes
signalled_same (Keys keys) f g tracking rows prefixes same =
    filter_same f g (whole_group keys rows prefixes) same
signalled_same All f g tracking rows prefixes same = refl

passed_where : (b : Bool) (id c : ℕ) → passes (cond b (Some id) None) c ≡ ((id == c) && b)
passed_where true id c = grind arith
passed_where false id c = grind arith

passed_here : (id c : ℕ) (f : ℕ → Bool) → ((id == c) && f id) ≡ ((id == c) && f c)
passed_here id c f = elim (cases_eq id c) [
  | inl e ↦ ap (λ x. (id == c) && f x) e
  | inr ne ↦ grind (arith, ne_eqb id c ne)
]

-- ---- who is live, and in which mode

live_same : (a b : Bool) (x y : Standing) → a ≡ b → (a ≡ true → x ≡ y)
    → (a && is_live x) ≡ (b && is_live y)
live_same true b x y e h = ap is_live (h refl) ∙ ap (λ z. z && is_live y) e
live_same false b x y e h = ap (λ z. z && is_live y) e

live_keeps : (a : Bool) (x : Standing) → (a && is_live x) ≡ true → keeps_bytes x ≡ true
live_keeps a x h = grind arith

-- ---- whose redirection is broken then

lost_split : (modes : ℕ → ModeState) (on : ℕ → Bool) (xs ys : List Invalidation) (c : ℕ)
    → are_lost modes on (xs ++ ys) c ≡ (are_lost modes on xs c || are_lost modes on ys c)
lost_split modes on xs ys c = grind (arith, list_any-append)

broken_run : (l : Limits) (past : List Entry) (id m : ℕ) (words : List (List ℕ)) (c : ℕ)
    → (state l (entry.Run id words m ∷ past)).broken c
    ≡ broken_after l (run_action id words m (state l past)) (state l past) c
unfolding state
broken_run l past id m words c = refl

own_broken : (mended x y b : Bool) → (mended ≡ true → y ≡ false)
    → (not mended && (((x || y) && true) || (true && b))) ≡ ((cond mended false (b || x)) || y)
own_broken mended x y b h = grind arith

pub other_broken : (k x y b : Bool) → (((x || y) && k) || (k && b)) ≡ (k && ((b || x) || y))
other_broken k x y b = grind arith

module _ (l : Limits) (past : List Entry) (space : Space) (keys : TableState)
    (rs : List Registration) (cs : List Connection) (k : Agrees l past space keys rs cs) (m : ℕ)
    (gone : List (List ℕ)) (gone_is : gone ≡ expired l past m) where
  abbrev pub old : ConnectionsState
  old = record { items = cs; posts = []; lost = []; drops = [] }

  abbrev now : State
  now = state l past

  there_is : (c : ℕ) → is_there cs c ≡ (nat_lt 0 c && nat_le c now.admitted)
  there_is c = ap (λ n. nat_lt 0 c && nat_le c n) (k.count ∙ sym (admitted_is l past))

  -- those are live that the history says, in its modes
  pub on_cs : (c : ℕ) → is_live_in cs c ≡ is_on now c
  on_cs c =
      live_same (is_there cs c) (nat_lt 0 c && nat_le c now.admitted)
      (connection_at cs c).standing (now.standing c) (there_is c)
      (λ on. ap (λ (x : Connection). x.standing) (k.each c (is_there_id cs c on)))

  mode_cs : (c : ℕ) → is_on now c ≡ true → modes_in cs c ≡ now.modes c
  mode_cs c on =
      let live : is_live_in cs c ≡ true = on_cs c ∙ on in
      ap (λ b. cond b (connection_at cs c).mode new_mode) live
      ∙ ap (λ (x : Connection). x.mode) (k.each c (live_open cs c live).0)
      ∙ live_mode (now.standing c) (now.modes c)
      (live_keeps (nat_lt 0 c && nat_le c now.admitted) (now.standing c) on)

  abbrev IsNow : ℕ → Type 0
  IsNow c = is_on now c ≡ true

  abbrev Has : ℕ → Type 0
  Has = Is now.standing now.admitted

  pub ways_are : (told : List Invalidation) → AllTo IsNow told
      → ways cs told ≡ routed now.modes (is_on now) told
  ways_are told live =
      routed_same (modes_in cs) now.modes (is_live_in cs) (is_on now) on_cs
      (λ c on. mode_cs c (sym (on_cs c) ∙ on)) told
      (all_to {P = IsNow} {Q = λ c. modes_in cs c ≡ now.modes c} mode_cs told live)

  pub lost_are : (told : List Invalidation) → AllTo IsNow told → (c : ℕ)
      → has_id c (lost_ids cs told) ≡ are_lost now.modes (is_on now) told c
  lost_are told live c =
      lost_among cs told c
      ∙ lost_same (modes_in cs) now.modes (is_live_in cs) (is_on now) on_cs
      (λ c on. mode_cs c (sym (on_cs c) ∙ on)) told
      (all_to {P = IsNow} {Q = λ c. modes_in cs c ≡ now.modes c} mode_cs told live) c

  abbrev lives : AreLive now
  lives = all_live l past k.legal

  -- whom a Run or a Tick tells first
  abbrev pub first_told : List Invalidation
  first_told = whole_group gone keys.rows rs

  first_is : first_told ≡ whole_group (expired l past m) now.table now.prefixes
  first_is =
      ap (λ x. whole_group x keys.rows rs) gone_is
      ∙ ap (λ (t : TableState). whole_group (expired l past m) t.rows rs) k.table_is
      ∙ ap (whole_group (expired l past m) now.table) k.prefixes_are

  pub first_live : AllTo IsNow first_told
  first_live =
      subst (AllTo IsNow) (sym first_is)
      (all_to {P = Has} {Q = IsNow} (is_then_on now)
      (whole_group (expired l past m) now.table now.prefixes)
      (whole_group_all Has (expired l past m) now.table now.prefixes lives.of_keys
      lives.of_prefixes))

  abbrev pub early : List (ℕ × Sending)
  early = ways cs first_told

  pub early_is : early
      ≡ routed now.modes (is_on now) (whole_group (expired l past m) now.table now.prefixes)
  early_is = ways_are first_told first_live ∙ ap (routed now.modes (is_on now)) first_is

  pub early_lost : (c : ℕ) → has_id c (lost_ids cs first_told)
      ≡ are_lost now.modes (is_on now) (whole_group (expired l past m) now.table now.prefixes) c
  early_lost c =
      lost_are first_told first_live c
      ∙ ap (λ told. are_lost now.modes (is_on now) told c) first_is

  pub early_to : AreTo cs early
  early_to = ways_there cs first_told

  module _ (n : ℕ) where
    abbrev pub first : ConnectionsState
    first = with_told n first_told old

    pub length_first : length first.items ≡ length cs
    length_first = length_sendings n early old

    pub first_at : (i : ℕ) → IsId cs i
        → connection_at first.items i
        ≡ more (connection_of l past i) (sent_bytes (sent_to n i early))
    first_at i there =
        sent_at n i early old there early_to
        ∙ ap (λ c. more c (sent_bytes (sent_to n i early))) (k.each i there)

    pub first_posts : first.posts ≡ posts_of n early
    first_posts = posts_sendings n early old

    pub first_same : AreSame cs first.items
    first_same = sendings_same n early old early_to

    module _ (id : ℕ) (words : List (List ℕ)) (on : runs_on l past id ≡ true) (plan : Plan)
        (number : n ≡ length past + 1)
        (replied : plan.reply ≡ (run_action id words m (state l past)).effect.reply)
        (signalled : signals_of plan.deed
        ≡ (run_action id words m (state l past)).effect.signalled)
        (remembers : memory_of plan.deed ≡ (run_action id words m (state l past)).effect.memory)
        (becoming : mode_by plan.deed ((state l past).modes id)
        ≡ (run_action id words m (state l past)).effect.mode)
        (speaks : plan.proto ≡ (run_action id words m (state l past)).effect.mode.proto)
        (ending : ending_by plan.deed
        ≡ (run_action id words m (state l past)).effect.ending) where
      abbrev t : Action
      t = run_action id words m now

      abbrev pub run : Entry
      run = entry.Run id words m

      abbrev next : State
      next = state l (run ∷ past)

      own_there : IsId cs id
      own_there = is_id l past space keys rs cs k id (runs_there l past space keys rs cs k id on)

      on_first : IsId first.items id
      on_first = (own_there.0, let le = own_there.1 in omega (arith, le, length_first))

      -- the reply, if there is one
      abbrev answer : List (ℕ × Sending)
      answer = to_one id plan.proto plan.reply

      one_there : (x : Option Value) → AreTo first.items (to_one id plan.proto x)
      one_there None = tt
      one_there (Some value) = (on_first, tt)

      answer_there : AreTo first.items answer
      answer_there = one_there plan.reply

      -- once it is sent
      abbrev pub second : ConnectionsState
      second = reply_sent n id plan first

      pub length_second : length second.items ≡ length cs
      length_second = length_sendings n answer first ∙ length_first

      second_at : (i : ℕ) → IsId cs i → connection_at second.items i
          ≡ more (more (connection_of l past i) (sent_bytes (sent_to n i early)))
          (sent_bytes (sent_to n i answer))
      second_at i there =
          sent_at n i answer first (there.0, let le = there.1 in omega (arith, le, length_first))
          answer_there
          ∙ ap (λ c. more c (sent_bytes (sent_to n i answer))) (first_at i there)

      second_parts : (i : ℕ) → IsId cs i
          → ((connection_at second.items i).mode ≡ kept_mode (now.standing i) (now.modes i))
          × ((connection_at second.items i).standing ≡ now.standing i)
      second_parts i there = (
        ap (λ (c : Connection). c.mode) (second_at i there),
        ap (λ (c : Connection). c.standing) (second_at i there),
      )

      second_same : AreSame first.items second.items
      second_same = sendings_same n answer first answer_there

      -- whom the deed tells goes by the connections as they were
      second_ways : (told : List Invalidation) → ways second.items told ≡ ways cs told
      second_ways told =
          ways_same first.items second.items second_same told
          ∙ ways_same cs first.items first_same told

      second_lost : (told : List Invalidation) → lost_ids second.items told ≡ lost_ids cs told
      second_lost told =
          ids_lost first.items second.items second_same told
          ∙ ids_lost cs first.items first_same told

      -- one that tracks has not ended
      tracks_kept : (x : Standing) (m : ModeState)
          → (is_tracking (kept_mode x m).tracking && is_live x)
          ≡ (is_tracking m.tracking && is_live x)
      tracks_kept x m = grind arith

      tracking_is : tracking_ids second.items ≡ ids_where (tracks_in now) now.admitted
      tracking_is =
          ap (ids_where (tracks_of second.items))
          (length_second ∙ k.count ∙ sym (admitted_is l past))
          ∙ ids_same (tracks_of second.items) (tracks_in now) now.admitted
          (λ i some le. grind (arith, second_parts, nat_tests, admitted_is, tracks_kept))

      -- the remembered keys that are left
      abbrev pub left : TableState
      left = record keys { rows = without_keys gone keys.rows }

      left_is : left ≡ record { limit = l.table_max; rows = rows_then t now }
      left_is = grind arith

      short : length left.rows ≤ left.limit
      short = grind (arith, without_keys_within, table_within)

      abbrev passed : ℕ → Bool
      passed = passes (passed_over second.items id)

      -- those whom the deed tells are those whom the Run tells behind its reply
      abbrev pub told : List Invalidation
      told = told_by id plan.deed passed (tracking_ids second.items) left rs

      own_mode : kept_mode (now.standing id) (now.modes id) ≡ now.modes id
      own_mode =
          sym (ap (λ (c : Connection). c.mode) (k.each id own_there))
          ∙ mode_of l past space keys rs cs k id on

      passes_is : (c : ℕ) → passed c ≡ is_passed t now c
      passes_is c =
          passed_where (is_noloop (connection_at second.items id).mode.tracking) id c
          ∙ ap (λ (x : ModeState). (id == c) && is_noloop x.tracking)
          ((second_parts id own_there).0 ∙ own_mode)
          ∙ passed_here id c (λ x. is_noloop (now.modes x).tracking)

      told_is : told ≡ later_told l t now
      told_is =
          ap (λ x. x ++ drop_group (dropped left.limit (remembered_by id plan.deed left.rows)))
          (signalled_same (signals_of plan.deed) passed (is_passed t now)
          (tracking_ids second.items) left.rows rs passes_is
          ∙ ap (signal_group (signals_of plan.deed) (is_passed t now) (tracking_ids second.items)
          left.rows) k.prefixes_are)
          ∙ grind (arith, left_is, tracking_is)

      kept_is : kept_by left.limit id plan.deed left.rows
          ≡ kept l.table_max (table_grown l past id words m)
      kept_is = grind (arith, left_is)

      registered_is : registered_by id plan.deed rs ≡ registering id t.effect.memory now.prefixes
      registered_is =
          ap (λ x. registering id x rs) remembers
          ∙ ap (registering id t.effect.memory) k.prefixes_are

      later_live : AllTo IsNow (later_told l t now)
      later_live =
          let own = run_adds now id words m (on_is l past id ∙ on) in
          all_to {P = Has} {Q = IsNow} (is_then_on now) (later_told l t now)
          (to_append Has (own_told t now) (drops_told l t now)
          (signal_group_all Has t.effect.signalled (is_passed t now)
          (ids_where (tracks_in now) now.admitted) (rows_then t now) now.prefixes
          (ids_all Has (tracks_in now) now.admitted
          (λ h some le e. is_from now h (and_parts _ (is_on now h) e).1))
          (then_live l t now lives own) lives.of_prefixes)
          (drop_group_all Has (dropped l.table_max (rows_grown t now))
          (dropped_all Has l.table_max (rows_grown t now)
          (grown_live l t now lives own))))

      -- what the deed sends to those whom it tells
      abbrev pub pushed : List (ℕ × Sending)
      pushed = ways second.items told

      pushed_there : AreTo second.items pushed
      pushed_there = ways_there second.items told

      pushed_is : pushed ≡ routed (modes_then t now) (is_on now) (later_told l t now)
      pushed_is =
          ap (ways second.items) told_is ∙ second_ways (later_told l t now)
          ∙ ways_are (later_told l t now) later_live ∙ sym (later_routed l past id words m)

      abbrev pub after : ConnectionsState
      after = deed_done n id plan.deed left rs second

      length_after : length after.items ≡ length cs
      length_after = length_sendings n pushed second ∙ length_second

      lost_is : after.lost ≡ lost_ids cs (first_told ++ later_told l t now)
      lost_is =
          ap (λ x. x ++ lost_ids second.items told)
          (lost_kept n answer first)
          ∙ ap (λ x. lost_ids cs first_told ++ x)
          (ap (lost_ids second.items) told_is ∙ second_lost (later_told l t now))
          ∙ sym (lost_append cs first_told (later_told l t now))

      pub lost_after : AllIn (IsId after.items) after.lost
      lost_after =
          subst (AllIn (IsId after.items)) (sym lost_is)
          (all_in {P = IsId cs} {Q = IsId after.items}
          (id_longer cs after.items (omega (arith, length_after)))
          (lost_ids cs (first_told ++ later_told l t now))
          (lost_there cs (first_told ++ later_told l t now)))

      abbrev early_broken : ℕ → Bool
      early_broken c = are_lost now.modes (is_on now) (expiry_told_in t now) c

      abbrev later_broken : ℕ → Bool
      later_broken c = are_lost now.modes (is_on now) (later_told l t now) c

      was_lost : (c : ℕ) → has_id c after.lost ≡ (early_broken c || later_broken c)
      was_lost c =
          ap (has_id c) (lost_is ∙ lost_append cs first_told (later_told l t now))
          ∙ list_any-append (λ id. id == c) (lost_ids cs first_told)
          (lost_ids cs (later_told l t now))
          ∙ ap (λ b. b || has_id c (lost_ids cs (later_told l t now))) (early_lost c)
          ∙ ap (λ b. early_broken c || b) (lost_are (later_told l t now) later_live c)

      there_after : IsId after.items id
      there_after = (own_there.0, let le = own_there.1 in omega (arith, le, length_after))

      -- and once the connection has its new mode
      abbrev pub final : ConnectionsState
      final = settled id plan.deed after

      pub length_final : length final.items ≡ length cs
      length_final = length_settled id plan.deed after ∙ length_after

      -- ---- what the Run sends, from the same parts

      abbrev sent : List (ℕ × Sending)
      sent = (early ++ answer) ++ pushed

      answer_is : replies t ≡ answer
      answer_is =
          ap (λ p. to_one id p t.effect.reply) (sym speaks)
          ∙ ap (to_one id plan.proto) (sym replied)

      sent_is : all_messages l t now ≡ sent
      sent_is =
          let early_routed = routed now.modes (is_on now) (expiry_told_in t now) in
          let later = routed (modes_then t now) (is_on now) (later_told l t now) in
          ap (λ x. (early_routed ++ x) ++ later) answer_is
          ∙ ap (λ x. (x ++ answer) ++ later) (sym early_is)
          ∙ ap (λ x. (early ++ answer) ++ x) (sym pushed_is)

      -- ---- each connection

      bytes_of : (i : ℕ) → sent_bytes (sent_to n i sent)
          ≡ (sent_bytes (sent_to n i early) ++ sent_bytes (sent_to n i answer))
          ++ sent_bytes (sent_to n i pushed)
      bytes_of i =
          bytes_append n i (early ++ answer) pushed
          ∙ ap (λ x. x ++ sent_bytes (sent_to n i pushed)) (bytes_append n i early answer)

      after_at : (i : ℕ) → IsId cs i → connection_at after.items i
          ≡ more (connection_of l past i) (sent_bytes (sent_to n i sent))
      after_at i there =
          sent_at n i pushed second (there.0, let le = there.1 in omega (arith, le, length_second))
          pushed_there
          ∙ ap (λ c. more c (sent_bytes (sent_to n i pushed))) (second_at i there)
          ∙ ap (λ q. record (connection_of l past i) { queue = q })
          (three (unsent l i past) (sent_bytes (sent_to n i early))
          (sent_bytes (sent_to n i answer)) (sent_bytes (sent_to n i pushed))
          ∙ ap (λ x. unsent l i past ++ x) (sym (bytes_of i)))
        where
          three : (a b c d : List ℕ) → ((a ++ b) ++ c) ++ d ≡ a ++ ((b ++ c) ++ d)
          three a b c d = simp append_assoc

      pub mode_after : (connection_at after.items id).mode ≡ now.modes id
      mode_after = ap (λ (c : Connection). c.mode) (after_at id own_there) ∙ own_mode

      -- it has not ended
      pub on_after : IsOpen after.items id
      on_after = (
        there_after,
        ap is_open (after_at id own_there) ∙ ap is_open (sym (k.each id own_there))
            ∙ (opened l past space keys rs cs k id on).1,
      )

      live_is : now.standing id ≡ Live
      live_is = is_live_of (now.standing id) (not_ended l past id on)

      -- a command that mends a redirection tells nobody
      none_later : mends (memory_of plan.deed) ≡ true → later_broken id ≡ false
      none_later h =
          ap (λ x. are_lost now.modes (is_on now) x id)
          (sym told_is
          ∙ mends_told id plan.deed passed (tracking_ids second.items) left rs short h)

      broken_is : (c : ℕ) → next.broken c
          ≡ (cond ((id == c) && mends (memory_of plan.deed)) false
          (now.broken c || early_broken c) || later_broken c)
      broken_is c =
          broken_run l past id m words c
          ∙ ap (λ b. cond ((id == c) && mends t.effect.memory) false
          (now.broken c || early_broken c) || b) (later_lost l past id words m c)
          ∙ ap (λ x. cond ((id == c) && mends x) false
          (now.broken c || early_broken c) || later_broken c) (sym remembers)

      broken_own : (not (mends (memory_of plan.deed))
          && ((has_id id after.lost && keeps_bytes (now.standing id))
          || kept_broken (now.standing id) (now.broken id)))
          ≡ kept_broken (now.standing id) (next.broken id)
      broken_own =
          let mended = mends (memory_of plan.deed) in
          ap (λ x. not mended && ((has_id id after.lost && keeps_bytes x)
          || kept_broken x (now.broken id))) live_is
          ∙ ap (λ x. not mended && ((x && true) || (true && now.broken id))) (was_lost id)
          ∙ own_broken mended (early_broken id) (later_broken id) (now.broken id) none_later
          ∙ sym (ap (λ x. kept_broken x (next.broken id)) live_is
          ∙ broken_is id
          ∙ ap (λ b. cond (b && mended) false (now.broken id || early_broken id)
          || later_broken id) (eq-eqb id id refl))

      final_own : connection_at final.items id
          ≡ sent_one l past run (sent_bytes (sent_to n id sent)) id
      final_own =
          settled_own id plan.deed after lost_after there_after
          ∙ ap (λ c. settled_one plan.deed (broken_if (has_id id after.lost) c))
          (after_at id own_there)
          ∙ same_parts refl refl
          (ap (mode_by plan.deed) own_mode ∙ becoming
          ∙ sym (mode_own l id id m words past (eq-eqb id id refl))
          ∙ sym (live_mode (now.standing id) (next.modes id) (ap keeps_bytes live_is)))
          broken_own

      broken_else : (i : ℕ) → (id == i) ≡ false
          → ((has_id i after.lost && keeps_bytes (now.standing i))
          || kept_broken (now.standing i) (now.broken i))
          ≡ kept_broken (now.standing i) (next.broken i)
      broken_else i ne =
          let kept = keeps_bytes (now.standing i) in
          ap (λ x. (x && kept) || (kept && now.broken i)) (was_lost i)
          ∙ other_broken kept (early_broken i) (later_broken i) (now.broken i)
          ∙ ap (λ b. kept && b) (sym (broken_is i
          ∙ ap (λ b. cond (b && mends (memory_of plan.deed)) false
          (now.broken i || early_broken i) || later_broken i) ne))

      final_other : (i : ℕ) → IsId cs i → (id ≡ i → ⊥)
          → connection_at final.items i
          ≡ sent_one l past run (sent_bytes (sent_to n i sent)) i
      final_other i there ne =
          settled_other id plan.deed after lost_after i own_there.0 there.0 ne
          ∙ ap (broken_if (has_id i after.lost)) (after_at i there)
          ∙ same_parts refl refl
          (same_kept refl (sym (mode_other l i id m words past (ne_eqb id i ne))))
          (broken_else i (ne_eqb id i ne))

      final_is : (i : ℕ) → IsId final.items i
          → connection_at final.items i
          ≡ sent_one l past run (sent_bytes (sent_to n i sent)) i
      final_is i there = elim (cases_eq id i) [
        | inl e ↦
            subst (λ j. connection_at final.items j
            ≡ sent_one l past run (sent_bytes (sent_to n j sent)) j) e final_own
        | inr ne ↦
            final_other i (there.0, let le = there.1 in omega (arith, le, length_final)) ne
      ]

      -- ---- all that the Run sends is sent, and it ends those whom the history ends

      abbrev by : Ends
      by = ends_of id plan.deed l.out_max

      posts_are : final.posts ≡ posts_of n sent
      posts_are =
          posts_sendings n pushed second
          ∙ ap (λ x. x ++ posts_of n pushed) (posts_sendings n answer first
          ∙ ap (λ x. x ++ posts_of n answer) first_posts
          ∙ sym (posts_append n early answer))
          ∙ sym (posts_append n (early ++ answer) pushed)

      pub sent_run : IsSent l past run t n by sent final
      sent_run = record {
        number = number;
        leaves = run_leaves l past id m words;
        sends_are =
            run_sends l past id words m k.legal on
            ∙ ap (λ x. x ++ map (λ c. (c, End)) (ends l t now)) sent_is;
        messages_are = run_live l past id words m k.legal on ∙ sent_is;
        drops_are = refl;
        quits_are = λ c. ap (λ x. (id == c) && is_quitting x) ending;
        stops_are = ap is_stopping ending;
        limit_is = refl;
        unsent_more = λ c live none. unsent_run l past c id m words live none;
        unsent_same = λ c over. unsent_run_ended l past c id m words over;
        count = length_final ∙ k.count;
        each = final_is;
        posts_are = posts_are;
        none_dropped =
            drops_kept n pushed second ∙ drops_kept n answer first ∙ drops_kept n early old;
      }

      pub agrees_run : (new : Space) (done : ConnectionsState) → latest past ≤ m
          → new ≡ t.effect.space → HasEnded n by final done
          → (let rows = kept_by left.limit id plan.deed left.rows in
          let ids = ending_ids by final.items in
          Agrees l (run ∷ past) new
          (record keys { rows = for_each without_connection ids rows })
          (for_each registrations.without_connection ids (registered_by id plan.deed rs))
          done.items)
      agrees_run new done later s ended =
          let same = ends_same l past run t n by sent final sent_run in record {
            legal = (on, later, k.legal);
            space_is = s ∙ sym (run_space l past id m words);
            table_is =
                ap (λ ids. record keys {
                  rows = for_each without_connection ids
                      (kept_by left.limit id plan.deed left.rows);
                }) same
                ∙ ap (λ rows. record keys {
                  rows = for_each without_connection (ends l t now) rows;
                }) kept_is
                ∙ ap (λ rows. record keys { rows = rows }) (sym (run_table l past id m words))
                ∙ ap (λ limit. record { limit = limit; rows = table l (run ∷ past) })
                (ap (λ (t : TableState). t.limit) k.table_is);
            prefixes_are =
                ap (λ ids. for_each registrations.without_connection ids
                (registered_by id plan.deed rs)) same
                ∙ ap (for_each registrations.without_connection (ends l t now)) registered_is
                ∙ sym (run_prefixes l past id m words);
            count = ended.count ∙ length_final ∙ k.count;
            each = λ i there.
                each_ended l past run t n by sent final sent_run done ended i
                (there.0, let le = there.1 in omega (arith, le, ended.count));
          }

      -- whom it ends were sent what brought them past the limit
      pub posted_then : ArePostedTo l.out_max final.items final.posts
      posted_then = posted_past l past run t n by sent final sent_run

      pub posted_run : (done : ConnectionsState) → HasEnded n by final done
          → done.posts ≡ posted l (run ∷ past)
      posted_run done ended = posted_ended l past run t n by sent final sent_run done ended

      pub dropped_run : (done : ConnectionsState) → HasEnded n by final done
          → done.drops ≡ dropped_by l (run ∷ past)
      dropped_run done ended = dropped_ended l past run t n by sent final sent_run done ended

      pub room_run : (closable : ℕ) (done : ConnectionsState) → HasEnded n by final done
          → HasRoom closable cs
          → (length done.drops ≤ closable) × HasRoom (closable - length done.drops) done.items
      room_run closable done ended room =
          room_ended l past run t n by sent final sent_run done ended space keys rs cs k closable
          room
