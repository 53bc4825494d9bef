-- The messages of an effect's action, by what is kept and by the state.
use Rattle.std.proofs.Common.{◌≡◌, ◌∙◌, ℕ, List, ◌++◌, Bool, true, false, refl, sym, ap, arith, map}
use Rattle.std.proofs.Common.{length, cond, Option, Some, None, inl, inr, append_assoc, eq-eqb}
use Rattle.std.proofs.Common.{ne_eqb, subst}
use Rattle.std.proofs.Math.Path.{fun_ext}
use Rattle.std.specs.Prelude.{◌==◌, ◌&&◌, filter}
use Rattle.std.proofs.lemmas.Bool.{cases_eq}
use Rattle.std.proofs.lemmas.Grind.{flat_map-append}
use Rattle.std.proofs.lemmas.List.{map-append}
use Rattle.std.proofs.lemmas.List.Elements.{filter-append}
use Rattle.track_table.specs.declared.table.Held.{Held}
use Rattle.track_table.specs.Table.{dropped, without_keys}
use Rattle.track_modes.specs.Commands.{spent_mode}
use Rattle.track_modes.specs.ModeState as track
use Rattle.track_modes.specs.ModeState.{ModeState, new_mode}
use Rattle.command_words.specs.declared.command.Command.{Command}
use Rattle.serial_model.specs.declared.effect.Effect.{Effect}
use Rattle.serial_model.specs.declared.history.Limits.{Limits}
use Rattle.serial_model.specs.Actions.{Action, Sending, drops_told, expiry_told, heard, is_passed}
use Rattle.serial_model.specs.Actions.{messages, modes_then, own_told, replies, routed, rows_grown}
use Rattle.serial_model.specs.Actions.{rows_then, to_one, tracks, way}
use Rattle.serial_model.specs.Modes.{OwnEffect, is_quitting, is_stopping}
use Rattle.serial_model.specs.State.{State, at, is_live, is_on}
use Rattle.serial_model.specs.Tracking.{Invalidation, drop_group, ids_where, remembering}
use Rattle.serial_model.specs.Tracking.{signal_group, whole_group, without_signalled}
use Rattle.past_effects.specs.declared.own.Own.{Own}
use Rattle.past_effects.specs.declared.scan.Scan.{Scan}
use Rattle.past_effects.specs.declared.sendings.Sent.{Sent}
use Rattle.past_effects.specs.Made.{IsOwn, command_on, ending_by, memory_as, own_by, runner_by}
use Rattle.past_effects.specs.Past.{Follows, action_of, told_by}
use Rattle.past_effects.specs.Seen.{Seen, changed, having, is_there, mode_at, on_at, passed_over}
use Rattle.past_effects.specs.Seen.{passes, seen_at, tracks_at}
use Rattle.past_effects.specs.Sendings.{outline, outlines, told_sent}
use Rattle.past_effects.proofs.Ids.{ids_same}
use Rattle.past_effects.proofs.Kept.{changed_keeps, changed_none, changed_other, changed_own}
use Rattle.past_effects.proofs.Kept.{changed_there, not_there}

-- ---- by connections that are the same

module _ (cs : List Seen) (modes : ℕ → ModeState) (on : ℕ → Bool)
    (same : (c : ℕ) → mode_at cs c ≡ modes c) (same_on : (c : ℕ) → on_at cs c ≡ on c) where
  pub outlines_as : (ss : List (ℕ × Sending))
      → outlines cs ss ≡ map outline (filter (λ m. on m.0) ss)
  unfolding outlines
  outlines_as ss =
      let e : on_at cs ≡ on = fun_ext same_on in
      ap (λ (o : ℕ → Bool). map outline (filter (λ (m : ℕ × Sending). o m.0) ss)) e

  pub told_as : (told : List Invalidation)
      → told_sent cs told ≡ map outline (filter (λ m. on m.0) (routed modes on told))
  unfolding told_sent
  told_as told =
      let e : mode_at cs ≡ modes = fun_ext same in
      let o : on_at cs ≡ on = fun_ext same_on in
      ap (λ (m : ℕ → ModeState). outlines cs (routed m (on_at cs) told)) e
      ∙ ap (λ (x : ℕ → Bool). outlines cs (routed modes x told)) o
      ∙ outlines_as (routed modes on told)

-- ---- who is passed over

pub passes_if : (b : Bool) (id c : ℕ) → passes (cond b (Some id) None) c ≡ ((id == c) && b)
passes_if true id c = grind arith
passes_if false id c = grind arith

at_the_id : (id c : ℕ) (f : ℕ → Bool) → ((id == c) && f id) ≡ ((id == c) && f c)
at_the_id id c f = elim (cases_eq id c) [
  | inl e ↦ ap (λ i. (id == c) && f i) e
  | inr ne ↦ ap (λ b. b && f id) (ne_eqb id c ne) ∙ sym (ap (λ b. b && f c) (ne_eqb id c ne))
]

-- ---- an action

module _ (l : Limits) (old : Scan) (s : State) (f : Follows l old s) (e : Effect) where
  abbrev cs : List Seen
  cs = old.connections

  abbrev t : Action
  t = action_of e s

  on_is : on_at cs ≡ is_on s
  on_is = fun_ext f.on

  abbrev by_kept : Option Command
  by_kept = command_on (on_at cs e.id) e.command

  abbrev by_state : Option Command
  by_state = command_on (is_on s e.id) e.command

  command_is : by_kept ≡ by_state
  command_is = ap (λ b. command_on b e.command) (f.on e.id)

  own_is : own_by by_kept (runner_by e.id (mode_at cs e.id) (on_at cs) by_kept)
      ≡ own_by by_state (runner_by e.id (s.modes e.id) (is_on s) by_state)
  own_is =
      ap (λ x. own_by x (runner_by e.id (mode_at cs e.id) (on_at cs) x)) command_is
      ∙ ap (λ m. own_by by_state (runner_by e.id m (on_at cs) by_state)) (f.modes e.id)
      ∙ ap (λ o. own_by by_state (runner_by e.id (s.modes e.id) o by_state)) on_is

  ending_is : ending_by by_kept (mode_at cs e.id) ≡ ending_by by_state (s.modes e.id)
  ending_is =
      ap (λ x. ending_by x (mode_at cs e.id)) command_is ∙ ap (ending_by by_state) (f.modes e.id)

  -- the mode of one that was not admitted is not changed
  off_mode : is_there cs e.id ≡ false → t.effect.mode ≡ s.modes e.id
  off_mode off =
      let gone : is_on s e.id ≡ false =
      sym (f.on e.id) ∙ ap (λ b. b && is_live (seen_at cs e.id).standing) off in
      let fresh : s.modes e.id ≡ new_mode =
      sym (f.modes e.id) ∙ ap (λ (x : Seen). x.mode) (not_there cs e.id off) in
      ap (λ b. (own_by (command_on b e.command)
      (runner_by e.id (s.modes e.id) (is_on s) (command_on b e.command))).mode) gone
      ∙ ap spent_mode fresh ∙ sym fresh

  module _ (own : Own) (is : IsOwn own
      (own_by by_kept (runner_by e.id (mode_at cs e.id) (on_at cs) by_kept))
      (ending_by by_kept (mode_at cs e.id))) where
    mode_is : own.mode ≡ t.effect.mode
    mode_is = is.mode ∙ ap (λ (o : OwnEffect). o.mode) own_is

    pub memory_is : memory_as own.mode own.kept ≡ t.effect.memory
    memory_is = is.memory ∙ ap (λ (o : OwnEffect). o.memory) own_is

    pub quits_is : own.quits ≡ is_quitting t.effect.ending
    quits_is = is.quits ∙ ap is_quitting ending_is

    pub stops_is : own.stops ≡ is_stopping t.effect.ending
    stops_is = is.stops ∙ ap is_stopping ending_is

    abbrev pub after : List Seen
    after = changed e.id (having own.mode) cs

    pub after_mode : (c : ℕ) → mode_at after c ≡ modes_then t s c
    after_mode c =
        elim (is_there cs e.id) as (λ b. is_there cs e.id ≡ b
        → mode_at after c ≡ at e.id t.effect.mode s.modes c) [
          | true ↦ λ there. elim (cases_eq e.id c) [
            | inl i ↦ subst (λ x. mode_at after x ≡ at e.id t.effect.mode s.modes x) i
                (ap (λ (x : Seen). x.mode) (changed_own e.id (having own.mode) cs there)
                ∙ mode_is
                ∙ sym (ap (λ b. cond b t.effect.mode (s.modes e.id)) (eq-eqb e.id e.id refl)))
            | inr ne ↦ ap (λ (x : Seen). x.mode) (changed_other e.id (having own.mode) cs c ne)
                ∙ f.modes c
                ∙ sym (ap (λ b. cond b t.effect.mode (s.modes c)) (ne_eqb e.id c ne))
          ]
          | false ↦ λ off. ap (λ x. mode_at x c) (changed_none e.id (having own.mode) cs off)
              ∙ f.modes c
              ∙ elim (cases_eq e.id c) [
                | inl i ↦ subst (λ x. s.modes x ≡ at e.id t.effect.mode s.modes x) i
                    (sym (ap (λ b. cond b t.effect.mode (s.modes e.id)) (eq-eqb e.id e.id refl)
                    ∙ off_mode off))
                | inr ne ↦ sym (ap (λ b. cond b t.effect.mode (s.modes c)) (ne_eqb e.id c ne))
              ]
        ] refl

    pub after_on : (c : ℕ) → on_at after c ≡ is_on s c
    after_on c =
        ap (λ b. b && is_live (seen_at after c).standing)
        (changed_there e.id (having own.mode) cs c)
        ∙ ap (λ x. is_there cs c && is_live x)
        (changed_keeps e.id (having own.mode) cs (λ x. x.standing) (λ x. refl) c)
        ∙ f.on c

    -- ---- group by group

    abbrev heard_as : List (ℕ × Sending) → List Sent
    heard_as ss = map outline (heard s ss)

    heard-append : (xs ys : List (ℕ × Sending)) → heard_as (xs ++ ys) ≡ heard_as xs ++ heard_as ys
    heard-append xs ys =
        ap (map outline) (filter-append (λ (m : ℕ × Sending). is_on s m.0) xs ys)
        ∙ map-append outline (heard s xs) (heard s ys)

    first_group : told_sent cs (whole_group e.expired old.table.rows old.prefixes)
        ≡ heard_as (routed s.modes (is_on s) (expiry_told t s))
    first_group =
        ap (λ r. told_sent cs (whole_group e.expired r old.prefixes)) f.rows
        ∙ ap (λ r. told_sent cs (whole_group e.expired s.table r)) f.prefixes
        ∙ told_as cs s.modes (is_on s) f.modes f.on (expiry_told t s)

    reply_is : outlines after (to_one e.id own.mode.proto e.reply) ≡ heard_as (replies t)
    reply_is =
        outlines_as after (modes_then t s) (is_on s) after_mode after_on
        (to_one e.id own.mode.proto e.reply)
        ∙ ap (λ (m : ModeState). heard_as (to_one e.id m.proto e.reply)) mode_is

    passed_is : passes (passed_over cs e.id) ≡ is_passed t s
    passed_is = fun_ext (λ c.
        passes_if (track.is_noloop (mode_at cs e.id).tracking) e.id c
        ∙ ap (λ (m : ModeState). (e.id == c) && track.is_noloop m.tracking) (f.modes e.id)
        ∙ at_the_id e.id c (λ i. track.is_noloop (s.modes i).tracking))

    tracking_is : ids_where (tracks_at cs) (length cs) ≡ ids_where (tracks s) s.admitted
    tracking_is =
        ap (ids_where (tracks_at cs)) f.count
        ∙ ids_same (tracks_at cs) (tracks s) s.admitted (λ c some le.
        ap (λ (m : ModeState). track.is_on m.tracking && on_at cs c) (f.modes c)
        ∙ ap (λ b. track.is_on (s.modes c).tracking && b) (f.on c))

    left_is : without_keys e.expired old.table.rows ≡ rows_then t s
    left_is = ap (without_keys e.expired) f.rows

    own_group : told_sent after (signal_group e.signalled (passes (passed_over cs e.id))
        (ids_where (tracks_at cs) (length cs)) (without_keys e.expired old.table.rows)
        old.prefixes)
        ≡ heard_as (routed (modes_then t s) (is_on s) (own_told t s))
    own_group =
        ap (λ (p : ℕ → Bool). told_sent after (signal_group e.signalled p
        (ids_where (tracks_at cs) (length cs)) (without_keys e.expired old.table.rows)
        old.prefixes)) passed_is
        ∙ ap (λ ids. told_sent after (signal_group e.signalled (is_passed t s) ids
        (without_keys e.expired old.table.rows) old.prefixes)) tracking_is
        ∙ ap (λ r. told_sent after (signal_group e.signalled (is_passed t s)
        (ids_where (tracks s) s.admitted) r old.prefixes)) left_is
        ∙ ap (λ r. told_sent after (signal_group e.signalled (is_passed t s)
        (ids_where (tracks s) s.admitted) (rows_then t s) r)) f.prefixes
        ∙ told_as after (modes_then t s) (is_on s) after_mode after_on (own_told t s)

    abbrev kept_rows : List Held
    kept_rows = remembering e.id (memory_as own.mode own.kept)
        (without_signalled e.signalled (without_keys e.expired old.table.rows))

    pub grown_is : kept_rows ≡ rows_grown t s
    grown_is =
        ap (λ m. remembering e.id m
        (without_signalled e.signalled (without_keys e.expired old.table.rows))) memory_is
        ∙ ap (λ r. remembering e.id t.effect.memory (without_signalled e.signalled r)) left_is

    last_group : told_sent after (drop_group (dropped old.table.limit kept_rows))
        ≡ heard_as (routed (modes_then t s) (is_on s) (drops_told l t s))
    last_group =
        ap (λ n. told_sent after (drop_group (dropped n kept_rows))) f.limit
        ∙ ap (λ r. told_sent after (drop_group (dropped l.table_max r))) grown_is
        ∙ told_as after (modes_then t s) (is_on s) after_mode after_on (drops_told l t s)

    abbrev one : List (ℕ × Sending)
    one = routed s.modes (is_on s) (expiry_told t s)

    abbrev three : List (ℕ × Sending)
    three = routed (modes_then t s) (is_on s) (own_told t s)

    abbrev four : List (ℕ × Sending)
    four = routed (modes_then t s) (is_on s) (drops_told l t s)

    parts_are : map outline (messages l t s)
        ≡ heard_as one ++ heard_as (replies t) ++ heard_as three ++ heard_as four
    parts_are =
        heard-append (one ++ replies t)
        (routed (modes_then t s) (is_on s) (own_told t s ++ drops_told l t s))
        ∙ ap (λ x. x ++ heard_as (routed (modes_then t s) (is_on s)
        (own_told t s ++ drops_told l t s))) (heard-append one (replies t))
        ∙ ap (λ x. (heard_as one ++ heard_as (replies t)) ++ heard_as x)
        (flat_map-append (way (modes_then t s) (is_on s)) (own_told t s) (drops_told l t s))
        ∙ ap (λ x. (heard_as one ++ heard_as (replies t)) ++ x) (heard-append three four)
        ∙ sym (append_assoc (heard_as one ++ heard_as (replies t)) (heard_as three)
        (heard_as four))

    four_same : (a b c d w x y z : List Sent) → a ≡ w → b ≡ x → c ≡ y → d ≡ z
        → a ++ b ++ c ++ d ≡ w ++ x ++ y ++ z
    four_same a b c d w x y z p q r u = cc

    pub messages_are : told_by e own cs old.table old.prefixes ≡ map outline (messages l t s)
    messages_are =
        four_same _ _ _ _ _ _ _ _ first_group reply_is own_group last_group ∙ sym parts_are
