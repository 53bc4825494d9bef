-- What is kept follows the state where an effect's action is played.
use Rattle.std.proofs.Common.{◌≡◌, ◌∙◌, ℕ, List, ◌++◌, true, refl, sym, ap, map, length}
use Rattle.std.specs.Prelude.{◌==◌, ◌&&◌}
use Rattle.std.proofs.lemmas.List.{map-append}
use Rattle.prefix_table.specs.Table as registrations
use Rattle.track_table.specs.Table.{TableState, kept, without_connection, without_keys}
use Rattle.serial_model.specs.declared.effect.Effect.{Effect}
use Rattle.serial_model.specs.declared.history.Limits.{Limits}
use Rattle.serial_model.specs.Actions.{Action, End, action_leaves, action_sends, ends, messages}
use Rattle.serial_model.specs.Actions.{modes_then, quits, rows_grown}
use Rattle.serial_model.specs.Modes.{is_stopping}
use Rattle.serial_model.specs.State.{State, for_each, is_on}
use Rattle.serial_model.specs.Tracking.{registering, remembering, without_signalled}
use Rattle.past_effects.specs.declared.connection.Causes.{Causes}
use Rattle.past_effects.specs.declared.own.Own.{Own}
use Rattle.past_effects.specs.declared.scan.Scan.{Scan}
use Rattle.past_effects.specs.declared.sendings.Sent.{Sent}
use Rattle.past_effects.specs.Ends.{AreSettled, ended_ids}
use Rattle.past_effects.specs.Made.{IsOwn, causes_of, command_on, ending_by, memory_as, own_by}
use Rattle.past_effects.specs.Made.{runner_by}
use Rattle.past_effects.specs.Past.{Follows, action_of, told_by}
use Rattle.past_effects.specs.Seen.{Seen, changed, having, mode_at, on_at, passes, seen_at}
use Rattle.past_effects.specs.Sendings.{end_of, outline}
use Rattle.past_effects.proofs.Ids.{ends_are}
use Rattle.past_effects.proofs.Kept.{changed_count, changed_keeps}
use Rattle.past_effects.proofs.Messages.{after_mode, after_on, grown_is, memory_is, messages_are}
use Rattle.past_effects.proofs.Messages.{passes_if, quits_is, stops_is}
use Rattle.past_effects.proofs.Settling.{ended_is, follows_settled}

-- what is kept once the messages are sent
pub record HasTold (old mid : Scan) (e : Effect) (own : Own) (sent : List Sent) : Type 0 where
  pub most : mid.out_max ≡ old.out_max
  pub connections : mid.connections ≡ changed e.id (having own.mode) old.connections
  pub table : mid.table ≡ record old.table {
    rows = kept old.table.limit (remembering e.id (memory_as own.mode own.kept)
        (without_signalled e.signalled (without_keys e.expired old.table.rows)));
  }
  pub prefixes : mid.prefixes ≡ registering e.id (memory_as own.mode own.kept) old.prefixes
  pub sends : sent ≡ told_by e own old.connections old.table old.prefixes

-- and once those that end have ended
pub record HasEnded (mid new : Scan) (causes : Causes) (sent all : List Sent) : Type 0 where
  pub most : new.out_max ≡ mid.out_max
  pub connections : AreSettled causes sent mid.connections new.connections
  pub table : new.table ≡ record mid.table {
    rows = for_each without_connection (ended_ids causes sent mid.connections) mid.table.rows;
  }
  pub prefixes : new.prefixes ≡ for_each registrations.without_connection
      (ended_ids causes sent mid.connections) mid.prefixes
  pub sends : all ≡ sent ++ map end_of (ended_ids causes sent mid.connections)

module _ (l : Limits) (old : Scan) (s : State) (f : Follows l old s) (e : Effect) (own : Own)
    (is : (let command = command_on (on_at old.connections e.id) e.command in
    let mode = mode_at old.connections e.id in
    IsOwn own (own_by command (runner_by e.id mode (on_at old.connections) command))
    (ending_by command mode)))
    (mid new : Scan) (causes : Causes) (sent all : List Sent)
    (told : HasTold old mid e own sent)
    (cause : causes ≡ causes_of own e.id mid.out_max)
    (done : HasEnded mid new causes sent all) where
  abbrev cs : List Seen
  cs = old.connections

  abbrev t : Action
  t = action_of e s

  count : length mid.connections ≡ s.admitted
  count = ap length told.connections ∙ changed_count e.id (having own.mode) cs ∙ f.count

  on : (c : ℕ) → on_at mid.connections c ≡ is_on s c
  on c = ap (λ x. on_at x c) told.connections ∙ after_on l old s f e own is c

  waiting : (c : ℕ) → is_on s c ≡ true
      → (seen_at mid.connections c).waiting ≡ s.waiting c
  waiting c still =
      ap (λ x. (seen_at x c).waiting) told.connections
      ∙ changed_keeps e.id (having own.mode) cs (λ x. x.waiting) (λ x. refl) c
      ∙ f.waiting c still

  modes : (c : ℕ) → mode_at mid.connections c ≡ modes_then t s c
  modes c = ap (λ x. mode_at x c) told.connections ∙ after_mode l old s f e own is c

  most : causes.out_max ≡ l.out_max
  most = ap (λ (x : Causes). x.out_max) cause ∙ told.most ∙ f.most

  quitter : (c : ℕ) → passes causes.quitter c ≡ quits t c
  quitter c =
      ap (λ (x : Causes). passes x.quitter c) cause
      ∙ passes_if own.quits e.id c
      ∙ ap (λ b. (e.id == c) && b) (quits_is l old s f e own is)

  stops : causes.stops ≡ is_stopping t.effect.ending
  stops = ap (λ (x : Causes). x.stops) cause ∙ stops_is l old s f e own is

  sent_is : sent ≡ map outline (messages l t s)
  sent_is = told.sends ∙ messages_are l old s f e own is

  ids_are : ended_ids causes sent mid.connections ≡ ends l t s
  ids_are =
      ended_is l t s mid.connections causes sent count on waiting modes most quitter stops sent_is

  mid_table : mid.table ≡ record {
    limit = l.table_max;
    rows = kept l.table_max (rows_grown t s);
  }
  mid_table =
      told.table
      ∙ ap (λ r. record old.table { rows = kept old.table.limit r })
      (grown_is l old s f e own is)
      ∙ ap (λ n. record { limit = n; rows = kept n (rows_grown t s) }) f.limit

  all_is : all ≡ map outline (action_sends l t s)
  all_is =
      done.sends
      ∙ ap (λ x. x ++ map end_of (ended_ids causes sent mid.connections)) sent_is
      ∙ ap (λ x. map outline (messages l t s) ++ map end_of x) ids_are
      ∙ ap (λ x. map outline (messages l t s) ++ x) (ends_are (ends l t s))
      ∙ sym (map-append outline (messages l t s) (map (λ c. (c, End)) (ends l t s)))

  pub acted : (all ≡ map outline (action_sends l t s)) × Follows l new (action_leaves l t s)
  acted = (
    all_is,
    follows_settled l t s mid.connections causes sent count on waiting modes most quitter stops
        sent_is new.connections done.connections new
        (done.most ∙ told.most ∙ f.most) refl
        (done.table
        ∙ ap (λ ids. record mid.table {
          rows = for_each without_connection ids mid.table.rows;
        }) ids_are
        ∙ ap (λ (x : TableState). record x {
          rows = for_each without_connection (ends l t s) x.rows;
        }) mid_table)
        (done.prefixes
        ∙ ap (λ ids. for_each registrations.without_connection ids mid.prefixes) ids_are
        ∙ ap (for_each registrations.without_connection (ends l t s))
        (told.prefixes
        ∙ ap (λ m. registering e.id m old.prefixes) (memory_is l old s f e own is)
        ∙ ap (registering e.id t.effect.memory) f.prefixes)),
  )
