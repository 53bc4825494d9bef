-- The keys that an entry drops are the oldest, and no more than those past the limit.
use Rattle.std.proofs.Common.{◌≡◌, ◌-◌, ◌<◌, ◌≤◌, ℕ, List, [], ◌∷◌, length, refl, sym}
use Rattle.std.proofs.Common.{arith}
use Rattle.std.proofs.Common.{take-append-drop}
use Rattle.std.proofs.lemmas.List.{length-drop, length-take}
use Rattle.track_table.specs.declared.table.Held.{Held}
use Rattle.track_table.specs.Table.{dropped, kept}
use Rattle.serial_model.specs.declared.history.Limits.{Limits}
use Rattle.serial_model.specs.declared.history.Entry.{Entry}
use Rattle.serial_model.specs.declared.history.Entry.TheVariants.{Admit, Run, Tick, Take, Close}
use Rattle.serial_model.specs.History.{state, table_grown}
use Rattle.serial_model.proofs.TableSize.{table_within}
use Rattle.tracking_laws.specs.Drops.{DropsOldest, since}
use Rattle.serial_model.proofs.KeptTables.{is_table, is_table_grown}
use Rattle.tracking_laws.proofs.Ages.{first_before_rest, grown_in_order}

kept_within : (limit : ℕ) (rows : List Held) → length (kept limit rows) ≤ limit
kept_within limit rows = grind (arith, length-drop)

full_where_dropped : (limit : ℕ) (rows : List Held) → 0 < length (dropped limit rows)
    → length (kept limit rows) ≡ limit
full_where_dropped limit rows some = grind (arith, length-drop, length-take)

module _ (l : Limits) where
  none_dropped_at : (entry : Entry) (past : List Entry) → 0 < length {A = Held} [] → ⊥
  none_dropped_at entry past h = omega (arith, h)

  pub drops_oldest : (entry : Entry) (past : List Entry) → DropsOldest l entry past
  unfolding state
  drops_oldest (Run id words moment) past =
      let grown = table_grown l past id words moment in
      let over = length grown - l.table_max in
      record {
        counted = is_table_grown l past id words moment;
        parted = sym (take-append-drop over grown);
        within = kept_within l.table_max grown;
        full = full_where_dropped l.table_max grown;
        oldest = first_before_rest (since l (Run id words moment ∷ past)) over grown
            (grown_in_order l past id words moment);
        left = refl;
      }
  drops_oldest (Admit id) past = record {
    counted = is_table l (Admit id ∷ past);
    parted = refl;
    within = table_within l (Admit id ∷ past);
    full = λ some. absurd (none_dropped_at (Admit id) past some);
    oldest = tt;
    left = refl;
  }
  drops_oldest (Tick moment) past = record {
    counted = is_table l (Tick moment ∷ past);
    parted = refl;
    within = table_within l (Tick moment ∷ past);
    full = λ some. absurd (none_dropped_at (Tick moment) past some);
    oldest = tt;
    left = refl;
  }
  drops_oldest (Take id max) past = record {
    counted = is_table l (Take id max ∷ past);
    parted = refl;
    within = table_within l (Take id max ∷ past);
    full = λ some. absurd (none_dropped_at (Take id max) past some);
    oldest = tt;
    left = refl;
  }
  drops_oldest (Close id) past = record {
    counted = is_table l (Close id ∷ past);
    parted = refl;
    within = table_within l (Close id ∷ past);
    full = λ some. absurd (none_dropped_at (Close id) past some);
    oldest = tt;
    left = refl;
  }
