-- In every history the connections of each registered prefix ascend.
use Rattle.std.proofs.Common.{ℕ, List, [], ◌∷◌, true, false, cond}
use Rattle.std.specs.Ordering.{match_ordering}
use Rattle.std.specs.declared.cmp.Ordering.TheVariants.{Less, Equal, Greater}
use Rattle.id_set.specs.Ids.{Ascend}
use Rattle.id_set.proofs.Orders.{ascend_with, ascend_without}
use Rattle.prefix_table.specs.declared.table.Registration.{Registration}
use Rattle.prefix_table.specs.Table.{byte_order, first_of, is_held, joined_by, left_by, registered}
use Rattle.prefix_table.specs.Table.{with_prefixes, without_connection}
use Rattle.serial_model.specs.declared.history.Limits.{Limits}
use Rattle.serial_model.specs.declared.history.Entry.{Entry}
use Rattle.serial_model.specs.declared.history.Entry.TheVariants.{Admit, Run, Tick, Take, Close}
use Rattle.serial_model.specs.Each.{AllIn}
use Rattle.serial_model.specs.Modes.{Memory, Remembers, Registers, Forgets}
use Rattle.serial_model.specs.State.{State, for_each}
use Rattle.serial_model.specs.Tracking.{registering}
use Rattle.serial_model.specs.Actions.{Action, action_leaves, ends}
use Rattle.serial_model.specs.History.{run_action, state, tick_action}

abbrev pub AllAscend : List Registration → Type 0
AllAscend rows = AllIn (λ (r : Registration). Ascend r.ids) rows

registered_ascend : (id : ℕ) (p : List ℕ) (rows : List Registration) → AllAscend rows
    → AllAscend (registered id p rows)
registered_ascend id p [] h = (ascend_with id [] tt, tt)
registered_ascend id p (r ∷ rs) h =
    elim (byte_order r.prefix p) as (λ o. AllAscend (match_ordering o (r ∷ registered id p rs)
    (joined_by id r ∷ rs) (first_of id p ∷ r ∷ rs))) [
      | Less ↦ (h.0, registered_ascend id p rs h.1)
      | Equal ↦ (ascend_with id r.ids h.0, h.1)
      | Greater ↦ (ascend_with id [] tt, h)
    ]

with_prefixes_ascend : (id : ℕ) (ps : List (List ℕ)) (rows : List Registration)
    → AllAscend rows → AllAscend (with_prefixes id ps rows)
with_prefixes_ascend id [] rows h = h
with_prefixes_ascend id (p ∷ ps) rows h =
    with_prefixes_ascend id ps (registered id p rows) (registered_ascend id p rows h)

left_ascend : (id : ℕ) (rows : List Registration) → AllAscend rows
    → AllAscend (without_connection id rows)
left_ascend id [] h = tt
left_ascend id (r ∷ rs) h =
    let rest = without_connection id rs in
    elim (is_held (left_by id r)) as (λ b. AllAscend (cond b (left_by id r ∷ rest) rest)) [
      | true ↦ (ascend_without id r.ids h.0, left_ascend id rs h.1)
      | false ↦ left_ascend id rs h.1
    ]

each_left_ascend : (ids : List ℕ) (rows : List Registration) → AllAscend rows
    → AllAscend (for_each without_connection ids rows)
each_left_ascend [] rows h = h
each_left_ascend (id ∷ ids) rows h =
    each_left_ascend ids (without_connection id rows) (left_ascend id rows h)

registering_ascend : (id : ℕ) (memory : Memory) (rows : List Registration) → AllAscend rows
    → AllAscend (registering id memory rows)
registering_ascend id (Remembers keys) rows h = h
registering_ascend id (Registers ps) rows h = with_prefixes_ascend id ps rows h
registering_ascend id Forgets rows h = left_ascend id rows h

action_ascends : (l : Limits) (t : Action) (s : State) → AllAscend s.prefixes
    → AllAscend (action_leaves l t s).prefixes
action_ascends l t s h =
    each_left_ascend (ends l t s) (registering t.by t.effect.memory s.prefixes)
    (registering_ascend t.by t.effect.memory s.prefixes h)

pub prefixes_ascend : (l : Limits) (past : List Entry) → AllAscend (state l past).prefixes
unfolding state
prefixes_ascend l [] = tt
prefixes_ascend l (Admit id ∷ past) = prefixes_ascend l past
prefixes_ascend l (Run id words moment ∷ past) =
    let s = state l past in
    let t = run_action id words moment s in
    action_ascends l t s (prefixes_ascend l past)
prefixes_ascend l (Tick moment ∷ past) =
    let s = state l past in
    let t = tick_action moment s in
    action_ascends l t s (prefixes_ascend l past)
prefixes_ascend l (Take id max ∷ past) = prefixes_ascend l past
prefixes_ascend l (Close id ∷ past) =
    left_ascend id (state l past).prefixes (prefixes_ascend l past)
