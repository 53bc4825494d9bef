-- What an entry tells a connection is sent to the receiver of its route.
use Rattle.std.proofs.Common.{◌≡◌, ◌+◌, ℕ, List, [], ◌∷◌, ◌++◌, Bool, true, false, cond, length}
use Rattle.std.proofs.Common.{map}
use Rattle.std.proofs.Common.{refl, ap, sym, ◌∙◌, append_assoc, inl, inr, arith, Option, Some, None}
use Rattle.std.proofs.Common.{subst}
use Rattle.std.specs.Prelude.{◌==◌}
use Rattle.std.specs.List.{list_any}
use Rattle.std.proofs.lemmas.Bool.{eqb-true, and_parts, or_cases, or_left, both_ways}
use Rattle.std.proofs.lemmas.Bool.{false_from_ne_true}
use Rattle.std.proofs.lemmas.Bool.Decides.{nat_tests}
use Rattle.std.proofs.lemmas.List.Folds.{list_any-append}
use Rattle.resp_value.specs.declared.value.Proto.{Proto}
use Rattle.resp_value.specs.declared.value.Proto.TheVariants.{Two, Three}
use Rattle.track_modes.specs.ModeState.{ModeState, redirect_of, peer_of}
use Rattle.track_modes.specs.declared.peer.Peer.{Peer}
use Rattle.track_modes.specs.declared.tracking.Tracking.{Tracking}
use Rattle.track_modes.specs.declared.tracking.Tracking.TheVariants.{Off, On}
use Rattle.redirect.specs.declared.routes.Route.{Route}
use Rattle.redirect.specs.declared.routes.Route.TheVariants as route
use Rattle.redirect.specs.Routes.{direct_route, peer_route, lost_route, redirected_route}
use Rattle.redirect.specs.Routes.{tracking_route}
use Rattle.serial_model.specs.declared.history.Limits.{Limits}
use Rattle.serial_model.specs.declared.history.Entry.TheVariants.{Admit, Run, Tick, Take, Close}
use Rattle.serial_model.specs.State.{State, is_on}
use Rattle.serial_model.specs.Tracking.{Invalidation, tells, names_key}
use Rattle.serial_model.specs.Actions.{Sending, End, Action, carried, way, routed, peer_at}
use Rattle.serial_model.specs.Actions.{route_at}
use Rattle.serial_model.specs.Actions.{replies, all_messages, messages, modes_then, expiry_told}
use Rattle.serial_model.specs.Actions.{heard}
use Rattle.serial_model.specs.Actions.{later_told, action_sends, ends}
use Rattle.serial_model.specs.History.{state, sent_to, run_action, tick_action, action_told}
use Rattle.serial_model.specs.Laws.{receiver, telling, IsToldAmong, ReceivedBy, DueIsSent}
use Rattle.serial_model.specs.Laws.{ToldIsSent}
use Rattle.serial_model.proofs.Tables.{sent_to-append}
use Rattle.serial_model.proofs.Counts.{on_is}
use Rattle.track_modes.specs.ModeState as track
use Rattle.redirect.specs.Routes.{route_of}
use Rattle.serial_model.specs.declared.history.Entry.{Entry}
use Rattle.serial_model.specs.Tracking.{ids_where}
use Rattle.serial_model.specs.Each.{AllTo}
use Rattle.serial_model.specs.Actions.{drops_told, is_passed, own_told, rows_grown, rows_then}
use Rattle.serial_model.specs.Actions.{target_at, tracks}
use Rattle.serial_model.specs.History.{runner_in, sends}
use Rattle.serial_model.specs.Laws.{DueIsPushed, IsDirect}
use Rattle.serial_model.proofs.Quiet.{same_or_none, tick_none}
use Rattle.serial_model.proofs.Tables.{drop_group_all, dropped_all, ids_all, signal_group_all}
use Rattle.serial_model.proofs.Tables.{whole_group_all, without_keys_all}
use Rattle.serial_model.proofs.ToldLaws.{told_is_due}
use Rattle.serial_model.proofs.Trackers.{AllTrack, Own, Tracks, all_track, grown_tracks}
use Rattle.serial_model.proofs.Trackers.{made_tracks}

-- ---- the receiver is on

module _ (modes : ℕ → ModeState) (on : ℕ → Bool) (c r : ℕ) (proto : Proto) where
  direct_is : (p : Proto) → receiver (direct_route c p) ≡ Some (r, proto) → c ≡ r
  direct_is p e = grind arith

  peer_is : (k : ℕ) (p : Peer) → receiver (peer_route k p) ≡ Some (r, proto) → k ≡ r
  peer_is k p e = grind arith

  none_lost : (p : Proto) → receiver (lost_route c p) ≡ Some (r, proto) → ⊥
  none_lost p e = grind arith

  redirect_on : (p : Proto) (x : Option ℕ) → on c ≡ true
      → receiver (redirected_route x c p (peer_at modes on x)) ≡ Some (r, proto) → on r ≡ true
  redirect_on p None live e = ap on (sym (direct_is p e)) ∙ live
  redirect_on p (Some k) live e = by (on k) refl e
    where
      by : (b : Bool) → on k ≡ b
          → receiver (redirected_route (Some k) c p (cond b (Some (peer_of (modes k))) None))
          ≡ Some (r, proto) → on r ≡ true
      by true f e = ap on (sym (peer_is k (peer_of (modes k)) e)) ∙ f
      by false f e = absurd (none_lost p e)

  tracking_on : (p : Proto) (x : Tracking) → on c ≡ true
      → receiver (tracking_route x c p (peer_at modes on (redirect_of x))) ≡ Some (r, proto)
      → on r ≡ true
  tracking_on p Off live e = absurd (let no : ⊥ = cc in no)
  tracking_on p (On o) live e = redirect_on p o.redirect live e

  receiver_on : on c ≡ true → receiver (route_at modes on c) ≡ Some (r, proto) → on r ≡ true
  receiver_on live e = tracking_on (modes c).proto (modes c).tracking live e

-- ---- a message that names the key is among what is sent

module _ (n r : ℕ) (proto : Proto) (key : List ℕ) where
  among_behind : (xs ys : List (ℕ × Sending)) → IsToldAmong proto key n (sent_to n r ys)
      → IsToldAmong proto key n (sent_to n r (xs ++ ys))
  among_behind xs ys h = record {
    keys = h.keys;
    named = h.named;
    before = sent_to n r xs ++ h.before;
    behind = h.behind;
    is = sent_to-append n r xs ys ∙ ap (λ ss. sent_to n r xs ++ ss) h.is
        ∙ sym (append_assoc (sent_to n r xs) h.before ((n, telling proto h.keys) ∷ h.behind));
  }

  among_before : (xs ys : List (ℕ × Sending)) → IsToldAmong proto key n (sent_to n r xs)
      → IsToldAmong proto key n (sent_to n r (xs ++ ys))
  among_before xs ys h = record {
    keys = h.keys;
    named = h.named;
    before = h.before;
    behind = h.behind ++ sent_to n r ys;
    is = sent_to-append n r xs ys ∙ ap (λ ss. ss ++ sent_to n r ys) h.is
        ∙ append_assoc h.before ((n, telling proto h.keys) ∷ h.behind) (sent_to n r ys);
  }

  one : (k : ℕ) (keys : Option (List (List ℕ))) → k ≡ r → names_key keys key ≡ true
      → IsToldAmong proto key n (sent_to n r ((k, telling proto keys) ∷ []))
  one k keys e named = record {
    keys = keys;
    named = named;
    before = [];
    behind = [];
    is = grind (arith, nat_tests);
  }

  carried_among : (x : Route) (target : Option ℕ) (keys : Option (List (List ℕ)))
      → receiver x ≡ Some (r, proto) → names_key keys key ≡ true
      → IsToldAmong proto key n (sent_to n r (carried x target keys))
  carried_among (route.Push k) target keys e named =
      by_proto Three k keys (grind arith) (grind arith) named
    where
      by_proto : (p : Proto) (k : ℕ) (keys : Option (List (List ℕ))) → p ≡ proto → k ≡ r
          → names_key keys key ≡ true
          → IsToldAmong proto key n (sent_to n r ((k, telling p keys) ∷ []))
      by_proto p k keys f g named =
          rw f (one k keys g named)
  carried_among (route.Message k) target keys e named =
      by_proto Two k keys (grind arith) (grind arith) named
    where
      by_proto : (p : Proto) (k : ℕ) (keys : Option (List (List ℕ))) → p ≡ proto → k ≡ r
          → names_key keys key ≡ true
          → IsToldAmong proto key n (sent_to n r ((k, telling p keys) ∷ []))
      by_proto p k keys f g named =
          rw f (one k keys g named)
  carried_among (route.BrokenNotice k) target keys e named = absurd (let no : ⊥ = cc in no)
  carried_among route.Nowhere target keys e named = absurd (let no : ⊥ = cc in no)

  routed_among : (modes : ℕ → ModeState) (on : ℕ → Bool) (c : ℕ) (told : List Invalidation)
      → receiver (route_at modes on c) ≡ Some (r, proto) → list_any (tells c key) told ≡ true
      → IsToldAmong proto key n (sent_to n r (routed modes on told))
  routed_among modes on c [] e h = absurd (let no : ⊥ = cc in no)
  routed_among modes on c (i ∷ told) e h =
      elim (or_cases (tells c key i) (list_any (tells c key) told) h) [
        | inl f ↦ let p = and_parts (i.to == c) (names_key i.keys key) f in
            among_before (way modes on i) (routed modes on told)
            (carried_among (route_at modes on i.to) (redirect_of (modes i.to).tracking) i.keys
            (ap (λ x. receiver (route_at modes on x)) (eqb-true i.to c p.0) ∙ e) p.1)
        | inr f ↦ among_behind (way modes on i) (routed modes on told)
            (routed_among modes on c told e f)
      ]

-- all that is for one that is on is heard
heard_one : (n r : ℕ) (s : State) (m : ℕ × Sending) (xs ys : List (ℕ × Sending)) (b : Bool)
    → is_on s r ≡ true → is_on s m.0 ≡ b → sent_to n r xs ≡ sent_to n r ys
    → sent_to n r (cond b (m ∷ xs) xs) ≡ sent_to n r (m ∷ ys)
heard_one n r s m xs ys true on f e = ap (λ x. cond (m.0 == r) ((n, m.1) ∷ x) x) e
heard_one n r s m xs ys false on f e =
    e ∙ sym (ap (λ b. cond b ((n, m.1) ∷ sent_to n r ys) (sent_to n r ys)) other)
  where
    other : (m.0 == r) ≡ false
    other = false_from_ne_true _ (λ g. both_ways _ f (ap (is_on s) (eqb-true m.0 r g) ∙ on))

pub heard_all : (n r : ℕ) (s : State) (ss : List (ℕ × Sending)) → is_on s r ≡ true
    → sent_to n r (heard s ss) ≡ sent_to n r ss
heard_all n r s [] on = refl
heard_all n r s (m ∷ ss) on =
    heard_one n r s m (heard s ss) ss (is_on s m.0) on refl (heard_all n r s ss on)

-- what is told before the command and behind it, each by its route; the last as by these modes
pub action_told_among : (l : Limits) (t : Action) (s : State) (n c r : ℕ) (proto : Proto)
    (key : List ℕ) (last : ℕ → ModeState) → is_on s r ≡ true
    → routed (modes_then t s) (is_on s) (later_told l t s)
    ≡ routed last (is_on s) (later_told l t s)
    → (list_any (tells c key) (expiry_told t s) ≡ true
    → receiver (route_at s.modes (is_on s) c) ≡ Some (r, proto))
    → (list_any (tells c key) (later_told l t s) ≡ true
    → receiver (route_at last (is_on s) c) ≡ Some (r, proto))
    → list_any (tells c key) (action_told l t s) ≡ true
    → IsToldAmong proto key n (sent_to n r (action_sends l t s))
action_told_among l t s n c r proto key last on same first_to last_to due =
    let before = routed s.modes (is_on s) (expiry_told t s) ++ replies t in
    let behind = routed last (is_on s) (later_told l t s) in
    among_before n r proto key (messages l t s) (map (λ c. (c, End)) (ends l t s))
    (rw (heard_all n r s (all_messages l t s) on)
    (subst (λ x. IsToldAmong proto key n (sent_to n r (before ++ x))) (sym same)
    (elim (or_cases _ _ (sym (list_any-append (tells c key) (expiry_told t s) (later_told l t s))
    ∙ due)) [
      | inl e ↦ among_before n r proto key before behind
          (among_before n r proto key _ (replies t)
          (routed_among n r proto key s.modes (is_on s) c (expiry_told t s) (first_to e) e))
      | inr e ↦ among_behind n r proto key before behind
          (routed_among n r proto key last (is_on s) c (later_told l t s) (last_to e) e)
    ])))

action_due : (l : Limits) (t : Action) (s : State) (n c r : ℕ) (proto : Proto)
    (key : List ℕ) → is_on s c ≡ true → ReceivedBy t s c r proto
    → list_any (tells c key) (action_told l t s) ≡ true
    → IsToldAmong proto key n (sent_to n r (action_sends l t s))
action_due l t s n c r proto key on to due =
    action_told_among l t s n c r proto key (modes_then t s)
    (receiver_on s.modes (is_on s) c r proto on to.0) refl (λ e. to.0) (λ e. to.1) due

pub due_is_sent : DueIsSent
due_is_sent l (Run id words m) past c r proto key on to due =
    let s = state l past in
    let t = run_action id words m s in
    action_due l t s (length past + 1) c r proto key (on_is l past c ∙ on) to due
due_is_sent l (Tick m) past c r proto key on to due =
    let s = state l past in
    let t = tick_action m s in
    action_due l t s (length past + 1) c r proto key (on_is l past c ∙ on) to due
due_is_sent l e past c r proto key on to due = absurd (let no : ⊥ = cc in no)

pub told_is_sent : ToldIsSent
told_is_sent l e past c r proto key told h to =
    due_is_sent l e past c r proto key
    (sym (on_is l past c) ∙ (and_parts (is_on (state l past) c) _ told).0) to
    (told_is_due l e past c key told (or_left _ _ h))

-- ---- while messages are redirected to no other connection

-- one that is told has what all that are told have
told_has : (P : ℕ → Type 0) (c : ℕ) (key : List ℕ) (told : List Invalidation) → AllTo P told
    → list_any (tells c key) told ≡ true → P c
told_has P c key [] a h = absurd (let no : ⊥ = cc in no)
told_has P c key (i ∷ told) a h =
    elim (or_cases (tells c key i) (list_any (tells c key) told) h) [
      | inl e ↦ subst P (eqb-true i.to c (and_parts (i.to == c) _ e).0) a.0
      | inr e ↦ told_has P c key told a.1 e
    ]

own_route : (t : Tracking) (c : ℕ) (p : Proto) (target : Option Peer)
    → redirect_of t ≡ None → track.is_on t ≡ true
    → tracking_route t c p target ≡ direct_route c p
own_route t c p target own on = grind arith

pushes_to : (c : ℕ) (m : ModeState) (target : Option Peer) → IsDirect m
    → track.is_on m.tracking ≡ true → receiver (route_of c target m) ≡ Some (c, Three)
pushes_to c m target direct on =
    ap receiver (own_route m.tracking c m.proto target direct.own on)
    ∙ ap (λ p. receiver (direct_route c p)) direct.proto

-- who is told behind the command tracks behind it
later_tracks : (l : Limits) (t : Action) (s : State) (c : ℕ) (key : List ℕ) → AllTrack s
    → Own t.effect.memory (s.modes t.by) t.effect.mode
    → track.is_on (modes_then t s c).tracking ≡ track.is_on (s.modes c).tracking
    → list_any (tells c key) (later_told l t s) ≡ true
    → track.is_on (modes_then t s c).tracking ≡ true
later_tracks l t s c key a own same h =
    elim (or_cases _ _ (sym (list_any-append (tells c key) (own_told t s) (drops_told l t s))
    ∙ h)) [
      | inl e ↦ same ∙ told_has (Tracks s.modes) c key (own_told t s)
          (signal_group_all (Tracks s.modes) t.effect.signalled (is_passed t s)
          (ids_where (tracks s) s.admitted) (rows_then t s) s.prefixes
          (ids_all (Tracks s.modes) (tracks s) s.admitted
          (λ h some le e. (and_parts _ (is_on s h) e).0))
          (without_keys_all (Tracks s.modes) t.expired s.table a.of_keys) a.of_prefixes) e
      | inr e ↦ told_has (Tracks (modes_then t s)) c key (drops_told l t s)
          (drop_group_all (Tracks (modes_then t s)) _
          (dropped_all (Tracks (modes_then t s)) l.table_max (rows_grown t s)
          (grown_tracks t s own a))) e
    ]

module _ (l : Limits) (past : List Entry) (c : ℕ) (key : List ℕ) where
  abbrev now : State
  now = state l past

  first_tracks : (t : Action) → list_any (tells c key) (expiry_told t now) ≡ true
      → track.is_on (now.modes c).tracking ≡ true
  first_tracks t h =
      told_has (Tracks now.modes) c key (expiry_told t now)
      (whole_group_all (Tracks now.modes) t.expired now.table now.prefixes
      (all_track l past).of_keys (all_track l past).of_prefixes) h

  run_pushed : (id moment : ℕ) (words : List (List ℕ)) → is_on now c ≡ true
      → IsDirect (now.modes c) → IsDirect (modes_then (run_action id words moment now) now c)
      → list_any (tells c key) (action_told l (run_action id words moment now) now) ≡ true
      → IsToldAmong Three key (length past + 1)
      (sent_to (length past + 1) c (sends l (Run id words moment) now))
  run_pushed id moment words on before then due =
      let t = run_action id words moment now in
      action_told_among l t now (length past + 1) c c Three key (modes_then t now) on refl
      (λ e. pushes_to c (now.modes c) (target_at now.modes (is_on now) c) before
      (first_tracks t e))
      (λ e. pushes_to c (modes_then t now c) (target_at (modes_then t now) (is_on now) c) then
      (elim (same_or_none l past id words moment) [
        | inl same ↦ later_tracks l t now c key (all_track l past)
            (made_tracks words (runner_in now id words moment))
            (ap (λ (m : ModeState). track.is_on m.tracking) (same c)) e
        | inr none ↦ absurd (both_ways _
            (ap (list_any (tells c key)) none) e)
      ]))
      due

  tick_pushed : (moment : ℕ) → is_on now c ≡ true → IsDirect (now.modes c)
      → list_any (tells c key) (action_told l (tick_action moment now) now) ≡ true
      → IsToldAmong Three key (length past + 1)
      (sent_to (length past + 1) c (sends l (Tick moment) now))
  tick_pushed moment on before due =
      let t = tick_action moment now in
      action_told_among l t now (length past + 1) c c Three key (modes_then t now) on refl
      (λ e. pushes_to c (now.modes c) (target_at now.modes (is_on now) c) before
      (first_tracks t e))
      (λ e. absurd (both_ways _
      (ap (list_any (tells c key)) (tick_none l past moment)) e))
      due

pub due_is_pushed : DueIsPushed
unfolding state
due_is_pushed l (Run id words m) past c key on before then due =
    run_pushed l past c key id m words (on_is l past c ∙ on) before then due
due_is_pushed l (Tick m) past c key on before then due =
    tick_pushed l past c key m (on_is l past c ∙ on) before due
due_is_pushed l (Admit id) past c key on before then due = absurd (let no : ⊥ = cc in no)
due_is_pushed l (Take id max) past c key on before then due = absurd (let no : ⊥ = cc in no)
due_is_pushed l (Close id) past c key on before then due = absurd (let no : ⊥ = cc in no)
