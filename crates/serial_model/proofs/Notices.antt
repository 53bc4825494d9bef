-- A connection whose target has ended is sent the notice of that.
use Rattle.std.proofs.Common.{◌≡◌, ◌∙◌, ◌+◌, ℕ, List, [], ◌∷◌, ◌++◌, Bool, true, false, cond}
use Rattle.std.proofs.Common.{refl, ap, sym, append_assoc, inl, inr, length, Option, Some}
use Rattle.std.proofs.Common.{None, map, subst}
use Rattle.std.specs.Prelude.{◌==◌}
use Rattle.std.specs.List.{list_any}
use Rattle.std.proofs.lemmas.Bool.{and_parts, eq-eqb, eqb-true, or_cases}
use Rattle.std.proofs.lemmas.List.Folds.{list_any-append}
use Rattle.resp_value.specs.declared.value.Proto.{Proto}
use Rattle.resp_value.specs.declared.value.Proto.TheVariants.{Three}
use Rattle.track_modes.specs.declared.tracking.Tracking.{Tracking}
use Rattle.track_modes.specs.declared.tracking.Tracking.TheVariants.{Off, On}
use Rattle.track_modes.specs.ModeState.{ModeState, peer_of, redirect_of}
use Rattle.redirect.specs.Messages.{notice_of}
use Rattle.redirect.specs.Routes.{tracking_route}
use Rattle.redirect.specs.declared.routes.Route.TheVariants.{BrokenNotice}
use Rattle.serial_model.specs.declared.history.Limits.{Limits}
use Rattle.serial_model.specs.declared.history.Entry.{Entry}
use Rattle.serial_model.specs.declared.history.Entry.TheVariants.{Run, Tick}
use Rattle.serial_model.specs.State.{State, is_on}
use Rattle.serial_model.specs.Tracking.{Invalidation, tells, names_key}
use Rattle.serial_model.specs.Actions.{Sending, Message, End, Action, action_sends, all_messages}
use Rattle.serial_model.specs.Actions.{carried, ends, expiry_told, later_told}
use Rattle.serial_model.specs.Actions.{messages, modes_then, peer_at, replies, routed, way}
use Rattle.serial_model.specs.History.{action_told, run_action, sent_to, state, tick_action}
use Rattle.serial_model.specs.Laws.{BrokenIsTold, IsSentAmong, RedirectsTo}
use Rattle.serial_model.proofs.Counts.{on_is}
use Rattle.serial_model.proofs.DueLaws.{heard_all}
use Rattle.serial_model.proofs.Quiet.{later_routed, tick_none}
use Rattle.serial_model.proofs.Tables.{sent_to-append}

module _ (n c : ℕ) (what : Sending) where
  among_behind : (xs ys : List (ℕ × Sending)) → IsSentAmong what n (sent_to n c ys)
      → IsSentAmong what n (sent_to n c (xs ++ ys))
  among_behind xs ys h = record {
    before = sent_to n c xs ++ h.before;
    behind = h.behind;
    is = sent_to-append n c xs ys ∙ ap (λ ss. sent_to n c xs ++ ss) h.is
        ∙ sym (append_assoc (sent_to n c xs) h.before ((n, what) ∷ h.behind));
  }

  among_before : (xs ys : List (ℕ × Sending)) → IsSentAmong what n (sent_to n c xs)
      → IsSentAmong what n (sent_to n c (xs ++ ys))
  among_before xs ys h = record {
    before = h.before;
    behind = h.behind ++ sent_to n c ys;
    is = sent_to-append n c xs ys ∙ ap (λ ss. ss ++ sent_to n c ys) h.is
        ∙ append_assoc h.before ((n, what) ∷ h.behind) (sent_to n c ys);
  }

  alone : IsSentAmong what n (sent_to n c ((c, what) ∷ []))
  alone = record {
    before = [];
    behind = [];
    is = ap (λ b. cond b ((n, what) ∷ []) []) (eq-eqb c c refl);
  }

-- ---- the way of a message whose target has ended

module _ (modes : ℕ → ModeState) (on : ℕ → Bool) (c target : ℕ) (to : RedirectsTo target (modes c))
    (gone : on target ≡ false) where
  noticed : (t : Tracking) (p : Proto) → p ≡ Three → redirect_of t ≡ Some target
      → tracking_route t c p (peer_at modes on (redirect_of t)) ≡ BrokenNotice c
  noticed Off p three is = absurd (let no : ⊥ = cc in no)
  noticed (On settings) p three is =
      ap (λ x. tracking_route (On (record settings { redirect = x })) c p (peer_at modes on x)) is
      ∙ ap (λ b. tracking_route (On (record settings { redirect = Some target })) c p
      (cond b (Some (peer_of (modes target))) None)) gone
      ∙ ap (λ q. tracking_route (On (record settings { redirect = Some target })) c q None) three

  notice_way : (keys : Option (List (List ℕ)))
      → way modes on (record { to = c; keys = keys })
      ≡ (c, Message Three (notice_of target)) ∷ []
  notice_way keys =
      ap (λ x. carried x (redirect_of (modes c).tracking) keys)
      (noticed (modes c).tracking (modes c).proto to.proto to.to)
      ∙ ap (λ x. carried (BrokenNotice c) x keys) to.to

  module _ (n : ℕ) (key : List ℕ) where
    abbrev Among : List (ℕ × Sending) → Type 0
    Among ss = IsSentAmong (Message Three (notice_of target)) n (sent_to n c ss)

    way_noticed : (i : Invalidation) → i.to ≡ c → Among (way modes on i)
    way_noticed i e =
        subst Among
        (sym (ap (λ k. way modes on (record { to = k; keys = i.keys })) e ∙ notice_way i.keys))
        (alone n c (Message Three (notice_of target)))

    routed_noticed : (told : List Invalidation) → list_any (tells c key) told ≡ true
        → Among (routed modes on told)
    routed_noticed [] h = absurd (let no : ⊥ = cc in no)
    routed_noticed (i ∷ told) h =
        elim (or_cases (tells c key i) (list_any (tells c key) told) h) [
          | inl f ↦ among_before n c _ (way modes on i) (routed modes on told)
              (way_noticed i (eqb-true i.to c (and_parts (i.to == c) (names_key i.keys key) f).0))
          | inr f ↦ among_behind n c _ (way modes on i) (routed modes on told)
              (routed_noticed told f)
        ]

-- ---- an action

module _ (l : Limits) (past : List Entry) (c target : ℕ) (key : List ℕ)
    (on : is_on (state l past) c ≡ true)
    (to : RedirectsTo target ((state l past).modes c))
    (gone : is_on (state l past) target ≡ false) where
  abbrev s : State
  s = state l past

  abbrev n : ℕ
  n = length past + 1

  abbrev notice : Sending
  notice = Message Three (notice_of target)

  action_noticed : (t : Action)
      → routed (modes_then t s) (is_on s) (later_told l t s)
      ≡ routed s.modes (is_on s) (later_told l t s)
      → list_any (tells c key) (action_told l t s) ≡ true
      → IsSentAmong notice n (sent_to n c (action_sends l t s))
  action_noticed t same due =
      let first = routed s.modes (is_on s) (expiry_told t s) in
      let last = routed s.modes (is_on s) (later_told l t s) in
      among_before n c notice (messages l t s) (map (λ c. (c, End)) (ends l t s))
      (rw (heard_all n c s (all_messages l t s) on)
      (rw same
      (elim (or_cases _ _
      (sym (list_any-append (tells c key) (expiry_told t s) (later_told l t s)) ∙ due)) [
        | inl e ↦ among_before n c notice (first ++ replies t) last
            (among_before n c notice first (replies t)
            (routed_noticed s.modes (is_on s) c target to gone n key (expiry_told t s) e))
        | inr e ↦ among_behind n c notice (first ++ replies t) last
            (routed_noticed s.modes (is_on s) c target to gone n key (later_told l t s) e)
      ])))

pub broken_is_told : BrokenIsTold
broken_is_told l (Run id words m) past c target key on to gone due =
    let s = state l past in
    let t = run_action id words m s in
    action_noticed l past c target key (on_is l past c ∙ on) to gone t
    (later_routed l past id words m) due
broken_is_told l (Tick m) past c target key on to gone due =
    let s = state l past in
    let t = tick_action m s in
    action_noticed l past c target key (on_is l past c ∙ on) to gone t
    (ap (routed (modes_then t s) (is_on s)) (tick_none l past m)
    ∙ ap (routed s.modes (is_on s)) (sym (tick_none l past m))) due
broken_is_told l e past c target key on to gone due = absurd (let no : ⊥ = cc in no)
