-- An action that has sent its messages, and left what it leaves, ends those whom the history ends.
use Rattle.std.proofs.Common.{◌≡◌, ◌+◌, ◌-◌, ◌<◌, ◌≤◌, ℕ, List, [], ◌∷◌, ◌++◌, Bool, true, false}
use Rattle.std.proofs.Common.{append-nil, ap, arith, cond, inl, inr, length, length-append, map}
use Rattle.std.proofs.Common.{refl}
use Rattle.std.proofs.Common.{slice_index_or, sym, ◌∙◌}
use Rattle.std.specs.Prelude.{◌==◌, ◌&&◌, ◌||◌, filter, nat_le, nat_lt, not}
use Rattle.std.specs.List.{count_by, list_any}
use Rattle.std.proofs.lemmas.Bool.{both_ways, cases_Bool}
use Rattle.std.proofs.lemmas.Bool.Decides.{nat_tests}
use Rattle.std.proofs.lemmas.Grind.{flat_map-append}
use Rattle.command_words.specs.Space.{Space}
use Rattle.track_table.specs.Table.{TableState}
use Rattle.prefix_table.specs.declared.table.Registration.{Registration}
use Rattle.serial_model.specs.declared.history.Limits.{Limits}
use Rattle.serial_model.specs.declared.history.Entry.{Entry}
use Rattle.serial_model.specs.declared.history.Post.{Post}
use Rattle.serial_model.specs.declared.standing.Standing.{Standing}
use Rattle.serial_model.specs.declared.standing.Standing.TheVariants.{Live, Quit, Gone}
use Rattle.serial_model.specs.EntryEffects.{action_drops, dropped_by, drops_at, drops_one}
use Rattle.serial_model.specs.Modes.{is_stopping}
use Rattle.serial_model.specs.State.{State, is_live, is_on, keeps_bytes}
use Rattle.serial_model.specs.Actions.{Action, Sending, End, action_leaves, all_messages}
use Rattle.serial_model.specs.Actions.{bytes_to, ends, is_ending as is_ending_in, messages}
use Rattle.serial_model.specs.Actions.{quits, sending_bytes}
use Rattle.serial_model.specs.Tracking.{has_id, ids_where}
use Rattle.serial_model.specs.History.{admitted, has_ended, posted, posts_of, sends, sent_bytes}
use Rattle.serial_model.specs.History.{sent_to, state, unsent}
use Rattle.serial_model.proofs.Counts.{admitted_is}
use Rattle.serial_model.proofs.DropLaws.{limit_is_kept}
use Rattle.serial_model.proofs.Ends.{ids_test}
use Rattle.serial_model.proofs.Sendings.{none_live}
use Rattle.serial_model.proofs.StateSteps.{dropped_stands}
use Rattle.serial_model.proofs.Streams.{unsent_dropped, waiting_is_unsent}
use Rattle.serial_model.proofs.Tables.{sent_to-append}
use Rattle.server_book.specs.declared.ends.Ends.{Ends}
use Rattle.server_book.specs.Places.{Connection, ended_one, fresh, gone, kept_broken}
use Rattle.server_book.specs.Places.{kept_mode}
use Rattle.server_book.specs.Connections.{ConnectionsState, IsId, connection_at, has_life, is_open}
use Rattle.server_book.specs.Endings.{ArePostedTo, HasEnded, dropped_ids, ending_ids, is_ending}
use Rattle.server_book.specs.Endings.{is_past, quits_in}
use Rattle.server_book.specs.Sendings.{end_post}
use Rattle.server_book.specs.BookState.{Agrees, HasRoom, connection_of}
use Rattle.server_book.proofs.BookTurns.{open_within, same_broken, same_kept, same_parts, stands_at}
use Rattle.server_book.proofs.Sendings.{ids_same}

-- ---- sendings

pub posts_append : (n : ℕ) (xs ys : List (ℕ × Sending))
    → posts_of n (xs ++ ys) ≡ posts_of n xs ++ posts_of n ys
posts_append n [] ys = refl
posts_append n (x ∷ xs) ys = grind (arith, posts_append n xs ys)

pub bytes_append : (n c : ℕ) (xs ys : List (ℕ × Sending))
    → sent_bytes (sent_to n c (xs ++ ys))
    ≡ sent_bytes (sent_to n c xs) ++ sent_bytes (sent_to n c ys)
bytes_append n c xs ys = grind (arith, sent_to-append, flat_map-append)

-- the bytes of those for a connection, in either way
to_bytes : (n c : ℕ) (ss : List (ℕ × Sending)) → bytes_to c ss ≡ sent_bytes (sent_to n c ss)
to_bytes n c [] = refl
to_bytes n c (s ∷ ss) = elim (s.0 == c) as (λ b.
    cond b (sending_bytes s.1) [] ++ bytes_to c ss
    ≡ sent_bytes (cond b ((n, s.1) ∷ sent_to n c ss) (sent_to n c ss))) [
      | true ↦ ap (λ x. sending_bytes s.1 ++ x) (to_bytes n c ss)
      | false ↦ to_bytes n c ss
    ]

-- an end has no bytes, and one post
ends_bytes : (n c : ℕ) (ids : List ℕ)
    → sent_bytes (sent_to n c (map {B = ℕ × Sending} (λ c. (c, End)) ids)) ≡ []
ends_bytes n c [] = refl
ends_bytes n c (id ∷ ids) = elim (id == c) as (λ b.
    sent_bytes (cond b ((n, End) ∷ sent_to n c (map {B = ℕ × Sending} (λ c. (c, End)) ids))
    (sent_to n c (map {B = ℕ × Sending} (λ c. (c, End)) ids))) ≡ []) [
      | true ↦ ends_bytes n c ids
      | false ↦ ends_bytes n c ids
    ]

ends_posts : (n : ℕ) (ids : List ℕ)
    → posts_of n (map {B = ℕ × Sending} (λ c. (c, End)) ids) ≡ map (end_post n) ids
ends_posts n [] = refl
ends_posts n (id ∷ ids) = ap (λ x. end_post n id ∷ x) (ends_posts n ids)

-- one to whom nothing is posted is sent nothing
none_posted : (n c : ℕ) (ss : List (ℕ × Sending))
    → list_any (λ p. p.id == c) (posts_of n ss) ≡ false → sent_to n c ss ≡ []
none_posted n c [] h = refl
none_posted n c (s ∷ ss) h = grind (arith, none_posted n c ss)

filter_like : (p q : ℕ → Bool) (ids : List ℕ) → ((c : ℕ) → p c ≡ q c) → filter p ids ≡ filter q ids
filter_like p q [] same = refl
filter_like p q (id ∷ ids) same = grind (arith, same id, filter_like p q ids same)

among : (p : ℕ → Bool) (c : ℕ) (ids : List ℕ) → has_id c (filter p ids) ≡ (has_id c ids && p c)
among p c [] = refl
among p c (id ∷ ids) = grind (arith, nat_tests, among p c ids)

-- ---- an action that is done but for its ends

-- what a connection is then
abbrev pub sent_one : Limits → List Entry → Entry → List ℕ → ℕ → Connection
sent_one l past e bytes i =
    let s = state l past in
    let next = state l (e ∷ past) in
    record {
      queue = unsent l i past ++ bytes;
      standing = s.standing i;
      mode = kept_mode (s.standing i) (next.modes i);
      is_broken = kept_broken (s.standing i) (next.broken i);
    }

-- the entry has this action, which sends these messages; whom it ends is known; and the connections
-- have all that the messages bring
pub record IsSent (l : Limits) (past : List Entry) (e : Entry) (t : Action) (n : ℕ)
    (by : Ends) (sent : List (ℕ × Sending)) (final : ConnectionsState) : Type 0 where
  pub number : n ≡ length past + 1
  pub leaves : state l (e ∷ past) ≡ action_leaves l t (state l past)
  pub sends_are : sends l e (state l past) ≡ sent ++ map (λ c. (c, End)) (ends l t (state l past))
  pub messages_are : messages l t (state l past) ≡ sent
  pub drops_are : drops_at l e (state l past) ≡ action_drops l t (state l past)
  pub quits_are : (c : ℕ) → quits_in by c ≡ quits t c
  pub stops_are : by.stops ≡ is_stopping t.effect.ending
  pub limit_is : by.limit ≡ l.out_max
  pub unsent_more : (c : ℕ) → has_ended l c past ≡ false → drops_one l e past c ≡ false
      → unsent l c (e ∷ past)
      ≡ unsent l c past
      ++ sent_bytes (sent_to (length past + 1) c (sends l e (state l past)))
  pub unsent_same : (c : ℕ) → has_ended l c past ≡ true
      → unsent l c (e ∷ past) ≡ unsent l c past
  pub count : length final.items ≡ admitted past
  pub each : (i : ℕ) → IsId final.items i
      → connection_at final.items i ≡ sent_one l past e (sent_bytes (sent_to n i sent)) i
  pub posts_are : final.posts ≡ posts_of n sent
  pub none_dropped : final.drops ≡ []

module _ (l : Limits) (past : List Entry) (e : Entry) (t : Action) (n : ℕ) (by : Ends)
    (sent : List (ℕ × Sending)) (final : ConnectionsState)
    (h : IsSent l past e t n by sent final) where
  abbrev now : State
  now = state l past

  abbrev next : State
  next = state l (e ∷ past)

  abbrev bytes : ℕ → List ℕ
  bytes i = sent_bytes (sent_to n i sent)

  bytes_are : (i : ℕ)
      → sent_bytes (sent_to (length past + 1) i (sends l e now)) ≡ bytes i
  bytes_are i =
      let ended = map {B = ℕ × Sending} (λ c. (c, End)) (ends l t now) in
      ap (λ x. sent_bytes (sent_to x i (sends l e now))) (sym h.number)
      ∙ ap (λ ss. sent_bytes (sent_to n i ss)) h.sends_are
      ∙ bytes_append n i sent ended
      ∙ ap (λ x. bytes i ++ x) (ends_bytes n i (ends l t now))
      ∙ append-nil (bytes i)

  -- one that has ended is sent nothing
  no_bytes : (i : ℕ) → is_on now i ≡ false → bytes i ≡ []
  no_bytes i off =
      ap (λ ss. sent_bytes (sent_to n i ss)) (sym h.messages_are)
      ∙ ap sent_bytes (none_live n i (is_on now) (all_messages l t now) off)

  size_is : (i : ℕ) → length (unsent l i past ++ bytes i)
      ≡ now.waiting i + length (bytes_to i (messages l t now))
  size_is i =
      length-append (unsent l i past) (bytes i)
      ∙ ap (λ k. k + length (bytes i)) (sym (waiting_is_unsent l i past))
      ∙ ap (λ x. now.waiting i + length x)
      (sym (ap (bytes_to i) h.messages_are ∙ to_bytes n i sent))

  -- ---- whom it ends

  over_same : (i : ℕ) → nat_lt by.limit (length (unsent l i past ++ bytes i))
      ≡ nat_lt l.out_max (now.waiting i + length (bytes_to i (messages l t now)))
  over_same i =
      ap (λ k. nat_lt k (length (unsent l i past ++ bytes i))) h.limit_is
      ∙ ap (nat_lt l.out_max) (size_is i)

  end_same : (i : ℕ) → IsId final.items i → is_ending by final.items i ≡ is_ending_in l t now i
  end_same i on =
      let live = is_live (now.standing i) in
      let over = nat_lt by.limit (length (unsent l i past ++ bytes i)) in
      ap (λ (c : Connection). has_life c
      && (quits_in by i || by.stops || nat_lt by.limit (length c.queue))) (h.each i on)
      ∙ ap (λ q. live && (q || by.stops || over)) (h.quits_are i)
      ∙ ap (λ s. live && (quits t i || s || over)) h.stops_are
      ∙ ap (λ o. live && (quits t i || is_stopping t.effect.ending || o)) (over_same i)

  all_there : length final.items ≡ now.admitted
  all_there = h.count ∙ sym (admitted_is l past)

  pub ends_same : ending_ids by final.items ≡ ends l t now
  ends_same =
      ids_same (is_ending by final.items) (is_ending_in l t now) (length final.items)
      (λ i some le. end_same i (some, le))
      ∙ ap (ids_where (is_ending_in l t now)) all_there

  dropped_same : dropped_ids by final.items ≡ drops_at l e now
  dropped_same =
      filter_like (λ c. not (quits_in by c)) (λ c. not (quits t c)) (ending_ids by final.items)
      (λ c. ap not (h.quits_are c))
      ∙ ap (filter (λ c. not (quits t c))) ends_same
      ∙ sym h.drops_are

  among_there : (a b c : Bool) → a ≡ true → b ≡ true → ((a && b) && c) ≡ c
  among_there a b c f g = grind arith

  has_end : (i : ℕ) → IsId final.items i → has_id i (ends l t now) ≡ is_ending_in l t now i
  has_end i on =
      let le = on.1 in
      ids_test (is_ending_in l t now) i now.admitted
      ∙ among_there (nat_lt 0 i) (nat_le i now.admitted) (is_ending_in l t now i)
      (grind (arith, nat_tests)) (grind (arith, nat_tests, all_there))

  drop_is : (i : ℕ) → IsId final.items i
      → drops_one l e past i ≡ (is_ending_in l t now i && not (quits t i))
  drop_is i on =
      ap (has_id i) h.drops_are
      ∙ among (λ c. not (quits t c)) i (ends l t now)
      ∙ ap (λ b. b && not (quits t i)) (has_end i on)

  stands_after : (i : ℕ) → IsId final.items i
      → next.standing i
      ≡ cond (is_ending_in l t now i) (cond (quits t i) Quit Gone) (now.standing i)
  stands_after i on =
      ap (λ (s : State). s.standing i) h.leaves
      ∙ ap (λ b. cond b (cond (quits t i) Quit Gone) (now.standing i)) (has_end i on)

  -- ---- what is left of each

  not_dropped : (a b : Bool) → (a ≡ true → b ≡ true) → (a && not b) ≡ false
  not_dropped true b f = ap not (f refl)
  not_dropped false b f = refl

  queue_after : (i : ℕ) → drops_one l e past i ≡ false
      → unsent l i past ++ bytes i ≡ unsent l i (e ∷ past)
  queue_after i none = elim (has_ended l i past) as (λ b. has_ended l i past ≡ b
      → unsent l i past ++ bytes i ≡ unsent l i (e ∷ past)) [
        | false ↦ λ live.
            ap (λ x. unsent l i past ++ x) (sym (bytes_are i)) ∙ sym (h.unsent_more i live none)
        | true ↦ λ over.
            ap (λ x. unsent l i past ++ x) (no_bytes i (ended_off i over))
            ∙ append-nil (unsent l i past) ∙ sym (h.unsent_same i over)
      ] refl
    where
      ended_off : (i : ℕ) → has_ended l i past ≡ true → is_on now i ≡ false
      ended_off i over = grind arith

  abbrev Left : Bool → Bool → ℕ → Type 0
  Left ended quit i =
      cond ended (ended_one quit (sent_one l past e (bytes i) i)) (sent_one l past e (bytes i) i)
      ≡ connection_of l (e ∷ past) i

  stays : (i : ℕ) → IsId final.items i → is_ending_in l t now i ≡ false → Left false (quits t i) i
  stays i on off =
      let same : now.standing i ≡ next.standing i =
      sym (stands_after i on
      ∙ ap (λ b. cond b (cond (quits t i) Quit Gone) (now.standing i)) off) in
      same_parts
      (queue_after i (drop_is i on ∙ ap (λ b. b && not (quits t i)) off)) same
      (same_kept same refl) (same_broken same refl)

  live_of : (x : Standing) (b : Bool) → (is_live x && b) ≡ true → x ≡ Live
  live_of x b h = grind arith

  leaves_all : (i : ℕ) → IsId final.items i → is_ending_in l t now i ≡ true → quits t i ≡ true
      → Left true true i
  leaves_all i on ends_it quit =
      let live : now.standing i ≡ Live = live_of (now.standing i) _ ends_it in
      let then : Quit ≡ next.standing i =
      sym (stands_after i on
      ∙ ap (λ b. cond b (cond (quits t i) Quit Gone) (now.standing i)) ends_it
      ∙ ap (λ b. cond b Quit Gone) quit) in
      same_parts
      (queue_after i (drop_is i on ∙ not_dropped (is_ending_in l t now i) (quits t i) (λ a. quit)))
      then
      (same_kept live refl ∙ same_kept then refl) (same_broken live refl ∙ same_broken then refl)

  drops : (i : ℕ) → IsId final.items i → is_ending_in l t now i ≡ true → quits t i ≡ false
      → Left true false i
  drops i on ends_it quit =
      let live : now.standing i ≡ Live = live_of (now.standing i) _ ends_it in
      let dropped : drops_one l e past i ≡ true =
      drop_is i on ∙ ap (λ b. b && not (quits t i)) ends_it ∙ ap not quit in
      let then : Gone ≡ next.standing i = sym (dropped_stands l past e i dropped) in
      ap (λ x. gone (record (sent_one l past e (bytes i) i) { standing = x })) live
      ∙ same_parts (sym (unsent_dropped l past e i dropped)) then (same_kept then refl)
      (same_broken then refl)

  left_is : (i : ℕ) → IsId final.items i → (a b : Bool) → is_ending_in l t now i ≡ a
      → quits t i ≡ b → Left a b i
  left_is i on true true f g = leaves_all i on f g
  left_is i on true false f g = drops i on f g
  left_is i on false b f g = stays i on f

  module _ (new : ConnectionsState) (done : HasEnded n by final new) where
    pub each_ended : (i : ℕ) → IsId final.items i
        → connection_at new.items i ≡ connection_of l (e ∷ past) i
    each_ended i on =
        let one = sent_one l past e (bytes i) i in
        done.each i on
        ∙ ap (λ c. cond (is_ending by final.items i) (ended_one (quits_in by i) c) c) (h.each i on)
        ∙ ap (λ b. cond b (ended_one (quits_in by i) one) one) (end_same i on)
        ∙ ap (λ b. cond (is_ending_in l t now i) (ended_one b one) one) (h.quits_are i)
        ∙ left_is i on (is_ending_in l t now i) (quits t i) refl refl

    pub posted_ended : new.posts ≡ posted l (e ∷ past)
    unfolding posted
    posted_ended =
        done.posts
        ∙ ap (λ x. x ++ map (end_post n) (ending_ids by final.items)) h.posts_are
        ∙ ap (λ ids. posts_of n sent ++ map (end_post n) ids) ends_same
        ∙ ap (λ x. posts_of n sent ++ x) (sym (ends_posts n (ends l t now)))
        ∙ sym (posts_append n sent (map (λ c. (c, End)) (ends l t now)))
        ∙ ap (posts_of n) (sym h.sends_are)
        ∙ ap (λ k. posts_of k (sends l e now)) h.number

    pub dropped_ended : new.drops ≡ dropped_by l (e ∷ past)
    unfolding dropped_by
    dropped_ended =
        done.drops ∙ ap (λ x. x ++ dropped_ids by final.items) h.none_dropped ∙ dropped_same

    module _ (space : Space) (keys : TableState) (rs : List Registration) (cs : List Connection)
        (k : Agrees l past space keys rs cs) where
      same_length : length final.items ≡ length cs
      same_length = h.count ∙ sym k.count

      stands_final : (i : ℕ) → i < length cs
          → (slice_index_or final.items i fresh).standing ≡ now.standing (i + 1)
      stands_final i lt =
          ap (λ n. (slice_index_or final.items n fresh).standing)
          (let e : i ≡ i + 1 - 1 = omega arith in e)
          ∙ ap (λ (c : Connection). c.standing)
          (h.each (i + 1) (omega arith, omega (arith, lt, same_length)))

      open_final : count_by is_open final.items ≤ count_by is_open cs
      open_final =
          open_within cs final.items same_length (λ i lt is.
          ap keeps_bytes (stands_at l past space keys rs cs k i lt ∙ sym (stands_final i lt)) ∙ is)

      -- room for the Closes of those that are left
      pub room_ended : (closable : ℕ) → HasRoom closable cs
          → (length new.drops ≤ closable) × HasRoom (closable - length new.drops) new.items
      room_ended closable room =
          let none : length final.drops ≡ 0 = ap length h.none_dropped in (
            omega (arith, done.closable, room, open_final),
            omega (arith, done.closable, room, open_final),
          )

  -- those that are past the limit were sent something
  pub posted_past : ArePostedTo by.limit final.items final.posts
  posted_past id on lives past_it =
      elim (cases_Bool (list_any (λ (p : Post). p.id == id) final.posts)) [
        | inl some ↦ some
        | inr none ↦ absurd (both_ways _ (within id on lives none) past_it)
      ]
    where
      live_now : (id : ℕ) → IsId final.items id → has_life (connection_at final.items id) ≡ true
          → has_ended l id past ≡ false
      live_now id on lives = ap not (sym (ap has_life (h.each id on)) ∙ lives)

      not_past : (k limit : ℕ) → k ≤ limit → nat_lt limit k ≡ false
      not_past k limit le = grind (arith, nat_tests)

      within : (id : ℕ) → IsId final.items id → has_life (connection_at final.items id) ≡ true
          → list_any (λ (p : Post). p.id == id) final.posts ≡ false
          → is_past by.limit final.items id ≡ false
      within id on lives nothing =
          let none = none_posted n id sent
          (ap (list_any (λ (p : Post). p.id == id)) (sym h.posts_are) ∙ nothing) in
          ap (λ (c : Connection). nat_lt by.limit (length c.queue)) (h.each id on)
          ∙ ap (λ x. nat_lt by.limit (length (unsent l id past ++ sent_bytes x))) none
          ∙ ap (λ x. nat_lt by.limit (length x)) (append-nil (unsent l id past))
          ∙ ap (λ k. nat_lt k (length (unsent l id past))) h.limit_is
          ∙ not_past (length (unsent l id past)) l.out_max
          (limit_is_kept l id past (live_now id on lives))
