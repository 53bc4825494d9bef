-- What holds of all holders of all remembered keys, and so of all who are told.
use Rattle.std.proofs.Common.{◌≡◌, ◌-◌, ◌<◌, ◌≤◌, ℕ, zero, suc, List, [], ◌∷◌, ◌++◌, arith, Bool}
use Rattle.std.proofs.Common.{true, false, Option, Some, None, length, map, refl}
use Rattle.std.specs.Prelude.{filter, nat_eq}
use Rattle.std.specs.Prelude.{◌==◌, not}
use Rattle.std.specs.Str.{bytes_eq}
use Rattle.command_words.specs.declared.command.Signalled.{Signalled}
use Rattle.command_words.specs.declared.command.Signalled.TheVariants.{Keys, All}
use Rattle.std.specs.Ordering.{match_ordering}
use Rattle.std.specs.declared.cmp.Ordering.{Ordering}
use Rattle.std.specs.declared.cmp.Ordering.TheVariants.{Less, Equal, Greater}
use Rattle.std.specs.List.{starts_with}
use Rattle.prefix_table.specs.declared.table.Registration.{Registration}
use Rattle.prefix_table.specs.Table as registrations
use Rattle.prefix_table.specs.Table.{registered, byte_order, left_by, with_prefixes}
use Rattle.track_table.specs.declared.table.Held.{Held}
use Rattle.id_set.specs.Ids.{with_id, without_id}
use Rattle.track_table.specs.Table.{holders_of, remembered, without_key, freed_of}
use Rattle.track_table.specs.Table.{without_connection, with_keys, dropped, kept, without_keys}
use Rattle.serial_model.specs.Tracking.{without_signalled, ids_where, Invalidation}
use Rattle.serial_model.specs.Tracking.{told_of, group, drop_group, told_to, signal_group}
use Rattle.serial_model.specs.Tracking.{told_some, prefix_group, whole_group}
use Rattle.serial_model.specs.Tracking.{remembering, registering}
use Rattle.serial_model.specs.Modes.{Memory, Remembers, Registers, Forgets}
use Rattle.serial_model.specs.State.{for_each}
use Rattle.serial_model.specs.Each.{AllIn, AllRows, AllRegistered, AllTo}
use Rattle.serial_model.proofs.Each.{all_in, in_if, in_append, in_filter, in_take, in_drop}
use Rattle.serial_model.specs.History.{sent_to}
use Rattle.serial_model.specs.Actions.{Sending}

module _ {P Q : ℕ → Type 0} (f : (h : ℕ) → P h → Q h) where
  pub all_rows : (rows : List Held) → AllRows P rows → AllRows Q rows
  all_rows rows a = grind (arith, all_in)

  pub all_to : (told : List Invalidation) → AllTo P told → AllTo Q told
  all_to told a = grind (arith, all_in)

module _ (P : ℕ → Type 0) where
  abbrev AllHeld : Held → Type 0
  AllHeld r = AllIn P r.holders

  with_holder_all : (id : ℕ) (hs : List ℕ) → P id → AllIn P hs → AllIn P (with_id id hs)
  with_holder_all id [] p a = (p, tt)
  with_holder_all id (h ∷ hs) p a = grind (arith, in_if, with_holder_all id hs p a.1)

  remembered_all : (id : ℕ) (key : List ℕ) (rows : List Held) → P id → AllRows P rows
      → AllRows P (remembered id key rows)
  remembered_all id key [] p a = ((p, tt), tt)
  remembered_all id key (r ∷ rs) p a =
      grind (arith, in_if, with_holder_all, remembered_all id key rs p a.1)

  pub with_keys_all : (id : ℕ) (keys : List (List ℕ)) (rows : List Held) → P id → AllRows P rows
      → AllRows P (with_keys id keys rows)
  with_keys_all id [] rows p a = a
  with_keys_all id (key ∷ keys) rows p a =
      with_keys_all id keys (remembered id key rows) p (remembered_all id key rows p a)

  pub without_keys_all : (keys : List (List ℕ)) (rows : List Held) → AllRows P rows
      → AllRows P (without_keys keys rows)
  without_keys_all [] rows a = a
  without_keys_all (key ∷ keys) rows a =
      without_keys_all keys (without_key key rows)
      (in_filter AllHeld (λ r. not (bytes_eq key r.key)) rows a)

  pub without_signalled_all : (sig : Signalled) (rows : List Held) → AllRows P rows
      → AllRows P (without_signalled sig rows)
  without_signalled_all sig rows a = grind (arith, without_keys_all)

  pub ids_all : (test : ℕ → Bool) (n : ℕ)
      → ((h : ℕ) → 0 < h → h ≤ n → test h ≡ true → P h) → AllIn P (ids_where test n)
  ids_all test zero f = tt
  ids_all test (suc n) f =
      grind (arith, in_append, ids_all test n (λ h some le. f h some (omega (arith, le))))

  others : ℕ → ℕ → Type 0
  others id h = P h × ((h == id) ≡ false)

  freed_in : (id : ℕ) (hs : List ℕ) → AllIn P hs → AllIn (others id) (without_id id hs)
  unfolding others
  freed_in id [] a = tt
  freed_in id (h ∷ hs) a = grind (arith, others, freed_in id hs a.1)

  freed_rows : (id : ℕ) (rows : List Held) → AllRows P rows
      → AllRows (others id) (map (freed_of id) rows)
  freed_rows id [] a = tt
  freed_rows id (r ∷ rs) a = (freed_in id r.holders a.0, freed_rows id rs a.1)

  pub kept_all : (limit : ℕ) (rows : List Held) → AllRows P rows → AllRows P (kept limit rows)
  kept_all limit rows a = in_drop AllHeld (length rows - limit) rows a

  pub dropped_all : (limit : ℕ) (rows : List Held) → AllRows P rows → AllRows P (dropped limit rows)
  dropped_all limit rows a = in_take AllHeld (length rows - limit) rows a

  -- ---- who is told

  pub holders_all : (key : List ℕ) (rows : List Held) → AllRows P rows
      → AllIn P (holders_of key rows)
  holders_all key [] a = tt
  holders_all key (r ∷ rs) a = grind (arith, in_if, holders_all key rs a.1)

  pub told_all : (keys : Option (List (List ℕ))) (hs : List ℕ) → AllIn P hs
      → AllTo P (told_to keys hs)
  told_all keys [] a = tt
  told_all keys (h ∷ hs) a = (a.0, told_all keys hs a.1)

  pub to_append : (xs ys : List Invalidation) → AllTo P xs → AllTo P ys → AllTo P (xs ++ ys)
  to_append xs ys a b = in_append (λ (i : Invalidation). P i.to) xs ys a b

  pub group_all : (keys : List (List ℕ)) (rows : List Held) → AllRows P rows
      → AllTo P (group keys rows)
  group_all [] rows a = tt
  group_all (key ∷ keys) rows a =
      to_append (told_of key (holders_of key rows)) (group keys (without_key key rows))
      (told_all (Some (key ∷ [])) (holders_of key rows) (holders_all key rows a))
      (group_all keys (without_key key rows)
      (in_filter AllHeld (λ r. not (bytes_eq key r.key)) rows a))

  some_all : (keys : List (List ℕ)) (ids : List ℕ) → AllIn P ids → AllTo P (told_some keys ids)
  some_all [] ids a = tt
  some_all (key ∷ keys) ids a = told_all (Some (key ∷ keys)) ids a

  prefix_group_all : (keys : List (List ℕ)) (rows : List Registration) → AllRegistered P rows
      → AllTo P (prefix_group keys rows)
  prefix_group_all keys [] a = tt
  prefix_group_all keys (r ∷ rs) a =
      to_append (told_some (filter (λ key. starts_with nat_eq key r.prefix) keys) r.ids)
      (prefix_group keys rs)
      (some_all (filter (λ key. starts_with nat_eq key r.prefix) keys) r.ids a.0)
      (prefix_group_all keys rs a.1)

  pub whole_group_all : (keys : List (List ℕ)) (rows : List Held) (prefixes : List Registration)
      → AllRows P rows → AllRegistered P prefixes → AllTo P (whole_group keys rows prefixes)
  whole_group_all keys rows prefixes a b =
      to_append (group keys rows) (prefix_group keys prefixes) (group_all keys rows a)
      (prefix_group_all keys prefixes b)

  pub signal_group_all : (sig : Signalled) (passed : ℕ → Bool) (ids : List ℕ) (rows : List Held)
      (prefixes : List Registration) → AllIn P ids → AllRows P rows → AllRegistered P prefixes
      → AllTo P (signal_group sig passed ids rows prefixes)
  signal_group_all (Keys keys) passed ids rows prefixes here a b =
      in_filter (λ (i : Invalidation). P i.to) (λ i. not (passed i.to))
      (whole_group keys rows prefixes) (whole_group_all keys rows prefixes a b)
  signal_group_all All passed ids rows prefixes here a b = told_all None ids here

  pub drop_group_all : (rows : List Held) → AllRows P rows → AllTo P (drop_group rows)
  drop_group_all [] a = tt
  drop_group_all (r ∷ rs) a = grind (arith, to_append, told_all, drop_group_all rs a.1)

pub freed_all : (P : ℕ → Type 0) (id : ℕ) (rows : List Held) → AllRows P rows
    → AllRows (λ h. P h × ((h == id) ≡ false)) (without_connection id rows)
unfolding others
freed_all P id rows a = grind (arith, in_filter, others, freed_rows)

-- ---- rows that connections leave

module _ (P : ℕ → Type 0) where
  pub left_all : (id : ℕ) (rows : List Held) → AllRows P rows
      → AllRows P (without_connection id rows)
  left_all id rows a =
      all_rows {P = λ h. P h × ((h == id) ≡ false)} {Q = P} (λ h x. x.0)
      (without_connection id rows) (freed_all P id rows a)

  pub each_left_all : (ids : List ℕ) (rows : List Held) → AllRows P rows
      → AllRows P (for_each without_connection ids rows)
  each_left_all [] rows a = a
  each_left_all (id ∷ ids) rows a =
      each_left_all ids (without_connection id rows) (left_all id rows a)

  pub remembering_all : (id : ℕ) (memory : Memory) (rows : List Held) → P id → AllRows P rows
      → AllRows P (remembering id memory rows)
  remembering_all id (Remembers keys) rows p a = with_keys_all P id keys rows p a
  remembering_all id (Registers prefixes) rows p a = a
  remembering_all id Forgets rows p a = left_all id rows a

-- ---- the same of registered prefixes

module _ {P Q : ℕ → Type 0} (f : (h : ℕ) → P h → Q h) where
  pub all_registered : (rows : List Registration) → AllRegistered P rows → AllRegistered Q rows
  all_registered rows a = grind (arith, all_in)

module _ (P : ℕ → Type 0) where
  in_order : (o : Ordering) (xs ys zs : List Registration) → AllRegistered P xs
      → AllRegistered P ys → AllRegistered P zs → AllRegistered P (match_ordering o xs ys zs)
  in_order Less xs ys zs a b c = a
  in_order Equal xs ys zs a b c = b
  in_order Greater xs ys zs a b c = c

  registered_all : (id : ℕ) (prefix : List ℕ) (rows : List Registration) → P id
      → AllRegistered P rows → AllRegistered P (registered id prefix rows)
  registered_all id prefix [] p a = ((p, tt), tt)
  registered_all id prefix (r ∷ rs) p a =
      in_order (byte_order r.prefix prefix) _ _ _ (a.0, registered_all id prefix rs p a.1)
      (with_holder_all P id r.ids p a.0, a.1) ((p, tt), a)

  pub with_prefixes_all : (id : ℕ) (ps : List (List ℕ)) (rows : List Registration) → P id
      → AllRegistered P rows → AllRegistered P (with_prefixes id ps rows)
  with_prefixes_all id [] rows p a = a
  with_prefixes_all id (prefix ∷ ps) rows p a =
      with_prefixes_all id ps (registered id prefix rows) p (registered_all id prefix rows p a)

  abbrev Others : ℕ → ℕ → Type 0
  Others id h = P h × ((h == id) ≡ false)

  left_in : (id : ℕ) (hs : List ℕ) → AllIn P hs → AllIn (Others id) (without_id id hs)
  left_in id [] a = tt
  left_in id (h ∷ hs) a = grind (arith, left_in id hs a.1)

  left_rows : (id : ℕ) (rows : List Registration) → AllRegistered P rows
      → AllRegistered (Others id) (map (left_by id) rows)
  left_rows id [] a = tt
  left_rows id (r ∷ rs) a = (left_in id r.ids a.0, left_rows id rs a.1)

  pub unregistered_all : (id : ℕ) (rows : List Registration) → AllRegistered P rows
      → AllRegistered (Others id) (registrations.without_connection id rows)
  unregistered_all id rows a =
      in_filter (λ (r : Registration). AllIn (Others id) r.ids) registrations.is_held
      (map (left_by id) rows) (left_rows id rows a)

  pub still_registered : (id : ℕ) (rows : List Registration) → AllRegistered P rows
      → AllRegistered P (registrations.without_connection id rows)
  still_registered id rows a =
      all_registered {P = Others id} {Q = P} (λ h x. x.0) (registrations.without_connection id rows)
      (unregistered_all id rows a)

  pub each_unregistered_all : (ids : List ℕ) (rows : List Registration) → AllRegistered P rows
      → AllRegistered P (for_each registrations.without_connection ids rows)
  each_unregistered_all [] rows a = a
  each_unregistered_all (id ∷ ids) rows a =
      each_unregistered_all ids (registrations.without_connection id rows)
      (still_registered id rows a)

  pub registering_all : (id : ℕ) (memory : Memory) (rows : List Registration) → P id
      → AllRegistered P rows → AllRegistered P (registering id memory rows)
  registering_all id (Remembers keys) rows p a = a
  registering_all id (Registers ps) rows p a = with_prefixes_all id ps rows p a
  registering_all id Forgets rows p a = still_registered id rows a

-- ---- what is sent to one

pub sent_to-append : (n c : ℕ) (xs ys : List (ℕ × Sending))
    → sent_to n c (xs ++ ys) ≡ sent_to n c xs ++ sent_to n c ys
sent_to-append n c [] ys = refl
sent_to-append n c (x ∷ xs) ys = grind (arith, sent_to-append n c xs ys)
