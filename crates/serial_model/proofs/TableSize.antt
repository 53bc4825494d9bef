-- The table has at most as many keys as its limit.
use Rattle.std.proofs.Common.{◌≡◌, ◌≤◌, ℕ, List, [], ◌∷◌, Bool, length, map, refl, ap, arith}
use Rattle.std.proofs.Common.{◌-◌, take}
use Rattle.std.specs.Prelude.{filter}
use Prim.Native.Nat.{suc}
use Rattle.std.proofs.lemmas.List.{length-drop}
use Rattle.track_table.specs.declared.table.Held.{Held}
use Rattle.track_table.specs.Table.{without_key, freed_of, without_connection, dropped, kept}
use Rattle.track_table.specs.Table.{without_keys}
use Rattle.serial_model.specs.declared.history.Limits.{Limits}
use Rattle.serial_model.specs.declared.history.Entry.{Entry}
use Rattle.serial_model.specs.declared.history.Entry.TheVariants.{Admit, Run, Tick, Take, Close}
use Rattle.command_words.specs.declared.command.Signalled.{Signalled}
use Rattle.command_words.specs.declared.command.Signalled.TheVariants as signalled
use Rattle.serial_model.specs.Tracking.{without_signalled}
use Rattle.serial_model.specs.State.{State, for_each}
use Rattle.serial_model.specs.Actions.{Action, action_leaves, ends, rows_grown}
use Rattle.serial_model.specs.History.{state, table, run_action, tick_action, table_then, expired}

module _ (p : Held → Bool) where
  filter_within : (rows : List Held) → length (filter p rows) ≤ length rows
  filter_within [] = omega arith
  filter_within (r ∷ rs) = grind (arith, filter_within rs)

length_freed : (id : ℕ) (rows : List Held) → length (map (freed_of id) rows) ≡ length rows
length_freed id [] = refl
length_freed id (r ∷ rs) = ap suc (length_freed id rs)

pub without_within : (id : ℕ) (rows : List Held)
    → length (without_connection id rows) ≤ length rows
without_within id rows = grind (arith, filter_within, map, length_freed)

pub without_keys_within : (keys : List (List ℕ)) (rows : List Held)
    → length (without_keys keys rows) ≤ length rows
without_keys_within [] rows = omega arith
without_keys_within (key ∷ keys) rows =
    grind (arith, filter_within, without_keys_within keys (without_key key rows))

pub signalled_within : (limit : ℕ) (sig : Signalled) (rows : List Held) → length rows ≤ limit
    → length (without_signalled sig rows) ≤ limit
signalled_within limit (signalled.Keys keys) rows le =
    let k = without_keys_within keys rows in omega (arith, k, le)
signalled_within limit signalled.All rows le = omega arith

pub each_without_within : (ids : List ℕ) (rows : List Held)
    → length (for_each without_connection ids rows) ≤ length rows
each_without_within [] rows = omega arith
each_without_within (id ∷ ids) rows =
    grind (arith, without_within, each_without_within ids (without_connection id rows))

kept_within : (limit : ℕ) (rows : List Held) → length (kept limit rows) ≤ limit
kept_within limit rows = grind (arith, length-drop)

-- rows within the limit lose none
pub none_dropped : (limit : ℕ) (rows : List Held) → length rows ≤ limit → dropped limit rows ≡ []
none_dropped limit rows le =
    ap (λ n. take n rows) (let e : length rows - limit ≡ 0 = omega (arith, le) in e)

action_within : (l : Limits) (t : Action) (s : State)
    → length (action_leaves l t s).table ≤ l.table_max
action_within l t s =
    let a = each_without_within (ends l t s) (kept l.table_max (rows_grown t s)) in
    let b = kept_within l.table_max (rows_grown t s) in omega (arith, a, b)

module _ (l : Limits) where
  pub table_within : (past : List Entry) → length (table l past) ≤ l.table_max
  unfolding state
  table_within [] = omega arith
  table_within (Admit id ∷ past) = table_within past
  table_within (Run id words m ∷ past) =
      let t = run_action id words m (state l past) in
      action_within l t (state l past)
  table_within (Tick m ∷ past) =
      let t = tick_action m (state l past) in
      action_within l t (state l past)
  table_within (Take id max ∷ past) = table_within past
  table_within (Close id ∷ past) =
      let a = without_within id (table l past) in
      let b = table_within past in omega (arith, a, b)

  pub then_within : (past : List Entry) (m : ℕ) → length (table_then l past m) ≤ l.table_max
  then_within past m =
      let a = without_keys_within (expired l past m) (table l past) in
      let b = table_within past in omega (arith, a, b)
