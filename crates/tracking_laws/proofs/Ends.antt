-- What the connections that end by an entry leave of the table.
use Rattle.std.proofs.Common.{◌≡◌, ◌∙◌, ◌-◌, ℕ, List, [], ◌∷◌, Bool, true, false, Ok, ap, arith}
use Rattle.std.proofs.Common.{length, refl, sym}
use Rattle.std.specs.Prelude.{◌==◌, ◌&&◌, ◌||◌, not}
use Rattle.std.proofs.lemmas.Bool.{and_parts}
use Rattle.command_words.specs.declared.command.Command.{Command}
use Rattle.command_words.specs.Queries.{read}
use Rattle.track_table.specs.declared.table.Held.{Held}
use Rattle.track_table.specs.Order.{IsTable}
use Rattle.track_table.specs.Table.{holders_of, kept, without_connection}
use Rattle.track_table.proofs.Orders.{table_drop, table_without_connection}
use Rattle.serial_model.specs.declared.history.Limits.{Limits}
use Rattle.serial_model.specs.declared.history.Entry.TheVariants.{Run, Tick}
use Rattle.serial_model.specs.Modes.{ending_of, is_quitting}
use Rattle.serial_model.specs.declared.history.Entry.{Entry}
use Rattle.serial_model.specs.State.{for_each}
use Rattle.serial_model.specs.Tracking.{has_id}
use Rattle.serial_model.specs.EntryEffects.{drops_one}
use Rattle.serial_model.specs.History.{is_quit, state, table, table_grown, table_then}
use Rattle.serial_model.specs.Laws.{is_among, remembers}
use Rattle.serial_model.proofs.KeptTables.{is_table_grown, is_table_then}
use Rattle.serial_model.proofs.StateSteps.{run_dropped, run_ends, tick_dropped, tick_ends}
use Rattle.serial_model.proofs.StateSteps.{tick_table}
use Rattle.tracking_laws.specs.Causes.{ends}
use Rattle.tracking_laws.proofs.Holders.{holds_freed}

-- QUIT reads nothing
pub reads_no_quit : (command : Command) (key : List ℕ) → is_among (read command) key ≡ true
    → is_quitting (ending_of (Ok command)) ≡ false
reads_no_quit command key h = grind arith

-- rows from which some connections leave
holds_left : (c : ℕ) (key : List ℕ) (ids : List ℕ) (rows : List Held) → IsTable rows
    → has_id c (holders_of key (for_each without_connection ids rows))
    ≡ (not (has_id c ids) && has_id c (holders_of key rows))
holds_left c key [] rows h = refl
holds_left c key (id ∷ ids) rows h =
    holds_left c key ids (without_connection id rows) (table_without_connection id rows h)
    ∙ ap (λ b. not (has_id c ids) && b) (holds_freed c key id rows h.ordered)
    ∙ neither (has_id c ids) (id == c) (has_id c (holders_of key rows))
  where
    neither : (x y z : Bool) → (not x && (not y && z)) ≡ (not (y || x) && z)
    neither x y z = grind arith

module _ (l : Limits) (past : List Entry) (c : ℕ) (key : List ℕ) where
  abbrev pub stays : ℕ → List (List ℕ) → ℕ → List Held
  stays id words moment = kept l.table_max (table_grown l past id words moment)

  -- what is remembered past the limit goes, and then what those remember that end
  pub run_holds : (id : ℕ) (words : List (List ℕ)) (moment : ℕ)
      → remembers (table l (Run id words moment ∷ past)) c key
      ≡ (not (has_id c (run_ends l id words moment (state l past)))
      && has_id c (holders_of key (stays id words moment)))
  unfolding state
  run_holds id words moment =
      let grown = table_grown l past id words moment in
      holds_left c key (run_ends l id words moment (state l past)) (stays id words moment)
      (table_drop (length grown - l.table_max) grown (is_table_grown l past id words moment))

  pub tick_holds : (moment : ℕ)
      → remembers (table l (Tick moment ∷ past)) c key
      ≡ (not (drops_one l (Tick moment) past c) && remembers (table_then l past moment) c key)
  tick_holds moment =
      ap (λ rows. remembers rows c key) (tick_table l past moment)
      ∙ holds_left c key (tick_ends l moment (state l past)) (table_then l past moment)
      (is_table_then l past moment)
      ∙ ap (λ b. not b && remembers (table_then l past moment) c key)
      (sym (tick_dropped l past c moment))

  -- what a connection remembers behind the limit it remembered within it
  pub run_kept : (id : ℕ) (words : List (List ℕ)) (moment : ℕ)
      → remembers (table l (Run id words moment ∷ past)) c key ≡ true
      → has_id c (holders_of key (stays id words moment)) ≡ true
  run_kept id words moment h =
      (and_parts (not (has_id c (run_ends l id words moment (state l past)))) _
      (sym (run_holds id words moment) ∙ h)).1

  goes_on : (has quit drops : Bool) → drops ≡ (has && not quit) → (quit || drops) ≡ false
      → has ≡ false
  goes_on has quit drops is none = grind arith

  -- and what it does not remember it did not, unless it ends
  pub run_gone : (id : ℕ) (words : List (List ℕ)) (moment : ℕ)
      → ends l (Run id words moment) past c ≡ false
      → remembers (table l (Run id words moment ∷ past)) c key ≡ false
      → has_id c (holders_of key (stays id words moment)) ≡ false
  run_gone id words moment on gone =
      sym (ap (λ b. not b && has_id c (holders_of key (stays id words moment)))
      (goes_on _ ((id == c) && is_quit words) _ (run_dropped l past c id moment words) on))
      ∙ sym (run_holds id words moment) ∙ gone
