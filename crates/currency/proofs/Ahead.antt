-- What a Run tells of before its reply stands ahead of the reply.
use Rattle.std.proofs.Common.{◌≡◌, ◌+◌, ◌<◌, ◌≤◌, ℕ, zero, suc, List, [], ◌∷◌, ◌++◌, length}
use Rattle.std.proofs.Common.{Bool, true, false, ap, sym, subst, ◌∙◌, arith, Some}
use Rattle.std.proofs.Common.{inl, inr, get_or, length-append, append_assoc}
use Rattle.std.specs.Prelude.{slice_get, ◌==◌}
use Rattle.std.specs.List.{filter, list_any}
use Rattle.std.proofs.lemmas.Bool.{and_parts, both_ways, cases_lt, eqb-true}
use Rattle.std.proofs.lemmas.Option.{same_Some, slice_get_within, slice_get-get_or}
use Rattle.std.proofs.lemmas.Grind.{common_steps}
use Rattle.resp_value.specs.declared.value.Proto.TheVariants.{Three}
use Rattle.serial_model.specs.declared.history.Limits.{Limits}
use Rattle.serial_model.specs.declared.history.Entry.{Entry}
use Rattle.serial_model.specs.declared.history.Entry.TheVariants.{Run}
use Rattle.track_modes.specs.ModeState as track
use Rattle.serial_model.specs.Tracking.{Invalidation, push_of, names_key, tells}
use Rattle.serial_model.specs.State.{State, is_on}
use Rattle.serial_model.specs.Actions.{Sending, Message, End, routed}
use Rattle.serial_model.specs.Laws.{IsDirect}
use Rattle.serial_model.specs.History.{IsLegal, expiry_group, mode, reply_of, runs_on, sent_to}
use Rattle.serial_model.specs.History.{sent, state}
use Rattle.serial_model.proofs.Tables.{sent_to-append}
use Rattle.currency.proofs.Lists.{get_parts, get_front, get_behind, one_passes}
use Rattle.currency.proofs.Routes.{own_way}
use Rattle.currency.proofs.Runs.{Older}
use Rattle.currency.proofs.Sent.{Told, is_sent_to, routed_at, sent_le, sent_older}
use Rattle.currency.proofs.Replies as replies
use Rattle.currency.proofs.Replies.{run_sends_are}

-- none of those passes the test
none_kept : {A : Type 0} (p : A → Bool) (xs : List A) → filter p xs ≡ [] → (i : ℕ) (y : A)
    → slice_get xs i ≡ Some y → p y ≡ false
none_kept p [] e i y at = cc
none_kept p (x ∷ xs) e zero y at = grind (arith, common_steps)
none_kept p (x ∷ xs) e (suc i) y at = grind (arith, common_steps, none_kept p xs)

-- a Run of a connection that has not ended
module _ (c : ℕ) (l : Limits) (past up : List Entry) (id : ℕ) (words : List (List ℕ)) (m : ℕ)
    (o : Older (Run id words m ∷ up) past) (legal : IsLegal l up) (on : runs_on l up id ≡ true)
    (is_reply_at : ℕ × Sending → Bool)
    (none : filter is_reply_at (sent_to (length up + 1) c
    (routed (state l up).modes (is_on (state l up)) (expiry_group l up m))) ≡ []) where
  abbrev n : ℕ
  n = length up + 1

  abbrev now : State
  now = state l up

  -- whom the entry tells of the keys that leave before its command
  abbrev told : List Invalidation
  told = expiry_group l up m

  abbrev before : List (ℕ × Sending)
  before = routed now.modes (is_on now) told

  abbrev answer : List (ℕ × Sending)
  answer = reply_of l up id words m

  abbrev behind : List (ℕ × Sending)
  behind = answer ++ (replies.late l up id words m ++ replies.ending l up id words m)

  abbrev early : List (ℕ × Sending)
  early = sent_to n c before

  abbrev late : List (ℕ × Sending)
  late = sent_to n c behind

  sent_is : sent l c (Run id words m ∷ up) ≡ sent l c up ++ (early ++ late)
  sent_is =
      ap (λ ss. sent l c up ++ sent_to n c ss)
      (run_sends_are l up id words m legal on
      ∙ append_assoc (before ++ answer) (replies.late l up id words m)
      (replies.ending l up id words m)
      ∙ append_assoc before answer
      (replies.late l up id words m ++ replies.ending l up id words m))
      ∙ ap (λ ss. sent l c up ++ ss) (sent_to-append n c before behind)

  -- no reply of the entry stands among those
  reply_behind : (place : ℕ) (s : ℕ × Sending)
      → slice_get (sent l c (Run id words m ∷ up)) place ≡ Some s
      → s.0 ≡ n → is_reply_at s ≡ true → length (sent l c up) + length early ≤ place
  reply_behind place s at number reply =
      elim (get_parts (sent l c up) (early ++ late) place s
      (ap (λ ss. slice_get ss place) (sym sent_is) ∙ at)) [
        | inl h ↦ grind (arith, sent_le)
        | inr b ↦
            elim (get_parts early late b.at s b.there) [
              | inl e ↦
                  absurd (both_ways (is_reply_at s) (none_kept is_reply_at early none b.at s e)
                  reply)
              | inr d ↦ omega (arith, b.is, d.is)
            ]
      ]

  reply_is_behind : (place : ℕ) (s : ℕ × Sending) → slice_get (sent l c past) place ≡ Some s
      → s.0 ≡ n → is_reply_at s ≡ true → length (sent l c up) + length early ≤ place
  reply_is_behind place s at number reply =
      let all = sent l c (Run id words m ∷ up) in
      elim (cases_lt place (length all)) [
        | inl lt ↦
            let d = get_or all place (0, End) in
            let there : slice_get all place ≡ Some d = slice_get-get_or all place (0, End) lt in
            let same = same_Some d s
            (sym (sent_older c l (Run id words m ∷ up) past o place d there) ∙ at) in
            grind (arith, reply_behind)
        | inr ge ↦ grind (arith, sent_is, length-append)
      ]

  early_at : (i : ℕ) (y : ℕ × Sending) → slice_get early i ≡ Some y
      → slice_get (sent l c (Run id words m ∷ up)) (length (sent l c up) + i) ≡ Some y
  early_at i y at =
      ap (λ ss. slice_get ss (length (sent l c up) + i)) sent_is
      ∙ get_behind (sent l c up) (early ++ late) i y (get_front early late i y at)

  -- whom it tells in its first group has a push of it ahead of each reply of the entry
  pub told_ahead : (key : List ℕ) → list_any (tells c key) (expiry_group l up m) ≡ true
      → track.is_on (mode l c up).tracking ≡ true → IsDirect (mode l c up)
      → (place : ℕ) (s : ℕ × Sending)
      → slice_get (sent l c past) place ≡ Some s → s.0 ≡ n → is_reply_at s ≡ true
      → (t : Told c l Three (Run id words m ∷ up) n key) × (t.place < place)
  told_ahead key due tracks direct place s at number reply =
      let p = one_passes (tells c key) told due in
      let h = and_parts (p.one.to == c) (names_key p.one.keys key) p.passes in
      let is : c ≡ p.one.to = sym (eqb-true p.one.to c h.0) in
      let r = routed_at c l now.modes (is_on now) told p.at p.one p.there
      (own_way now.modes (is_on now) p.one (subst (λ d. track.is_on (mode l d up).tracking ≡ true)
      is tracks) (subst (λ d. IsDirect (mode l d up)) is direct)) in
      let push : Sending = Message Three (push_of p.one.keys) in
      let e = is_sent_to c n before r.0 (p.one.to, push) r.1 h.0 in
      let within = slice_get_within early e.0 (n, push) e.1 in
      let le = reply_is_behind place s at number reply in (
        record {
          place = length (sent l c up) + e.0;
          keys = p.one.keys;
          there = early_at e.0 (n, push) e.1;
          names = h.1;
        },
        omega (arith, within, le),
      )
