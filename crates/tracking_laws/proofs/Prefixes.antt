-- How often a group of keys tells a connection of a key by the prefixes that it has registered.
use Rattle.std.proofs.Common.{◌≡◌, ◌+◌, ◌∙◌, ◌<◌, refl, sym, ap, ℕ, List, [], ◌∷◌, Bool, true}
use Rattle.std.proofs.Common.{Some, arith}
use Rattle.std.specs.Prelude.{◌&&◌, ◌||◌, filter, nat_eq}
use Rattle.std.specs.List.{starts_with}
use Rattle.std.specs.Str.{bytes_eq}
use Rattle.std.proofs.lemmas.Map.Views.{any-filter_same}
use Rattle.std.proofs.lemmas.Slice.Eq.{bytes_eq-Decides}
use Rattle.id_set.specs.Ids.{Ascend}
use Rattle.prefix_table.specs.declared.table.Registration.{Registration}
use Rattle.track_table.specs.declared.table.Held.{Held}
use Rattle.track_table.specs.Order.{IsTable}
use Rattle.track_table.specs.Table.{holders_of}
use Rattle.serial_model.specs.Tracking.{group, has_id, prefix_group, told_some, whole_group}
use Rattle.serial_model.specs.Laws.{has_prefix_of, is_among}
use Rattle.serial_model.proofs.KeptPrefixes.{AllAscend}
use Rattle.tracking_laws.specs.Told.{once, times_flushed, times_in, times_told, where_so}
use Rattle.tracking_laws.proofs.Counts.{flushed_append, group_flushes_none, group_once, told_append}
use Rattle.tracking_laws.proofs.Counts.{told_to_once}

module _ (c : ℕ) (key : List ℕ) where
  -- a key is among those that start with a prefix where it does so
  among_starting : (prefix : List ℕ) (keys : List (List ℕ))
      → is_among (filter (λ k. starts_with nat_eq k prefix) keys) key
      ≡ (starts_with nat_eq key prefix && is_among keys key)
  among_starting prefix keys =
      any-filter_same (bytes_eq key) (λ k. starts_with nat_eq k prefix)
      (starts_with nat_eq key prefix)
      (λ k same. ap (λ q. starts_with nat_eq q prefix) (sym ((bytes_eq-Decides key k).0 same)))
      keys

  some_once : (keys : List (List ℕ)) (ids : List ℕ) → Ascend ids
      → times_told c key (told_some keys ids) ≡ once (is_among keys key && has_id c ids)
  some_once [] ids up = refl
  some_once (k ∷ keys) ids up = told_to_once c key (Some (k ∷ keys)) 0 ids up

  one_more : (among starts has : Bool) (n : ℕ)
      → once ((starts && among) && has) + where_so among n
      ≡ where_so among (once (starts && has) + n)
  one_more among starts has n = grind arith

  none : (b : Bool) → 0 ≡ where_so b 0
  none b = grind arith

  pub prefixes_times : (keys : List (List ℕ)) (rows : List Registration) → AllAscend rows
      → times_told c key (prefix_group keys rows)
      ≡ where_so (is_among keys key) (times_in rows c key)
  prefixes_times keys [] up = none (is_among keys key)
  prefixes_times keys (r ∷ rs) up =
      let those = filter (λ k. starts_with nat_eq k r.prefix) keys in
      told_append c key (told_some those r.ids) (prefix_group keys rs)
      ∙ ap (λ n. n + times_told c key (prefix_group keys rs))
      (some_once those r.ids up.0
      ∙ ap (λ b. once (b && has_id c r.ids)) (among_starting r.prefix keys))
      ∙ ap
      (λ n. once ((starts_with nat_eq key r.prefix && is_among keys key) && has_id c r.ids) + n)
      (prefixes_times keys rs up.1)
      ∙ one_more (is_among keys key) (starts_with nat_eq key r.prefix) (has_id c r.ids)
      (times_in rs c key)

  both_ways : (among holds : Bool) (n : ℕ)
      → once (among && holds) + where_so among n ≡ where_so among (once holds + n)
  both_ways among holds n = grind arith

  -- each key of a group is told to its holders, and by each prefix of it
  pub whole_times : (keys : List (List ℕ)) (rows : List Held) (prefixes : List Registration)
      → IsTable rows → AllAscend prefixes
      → times_told c key (whole_group keys rows prefixes)
      ≡ where_so (is_among keys key)
      (once (has_id c (holders_of key rows)) + times_in prefixes c key)
  whole_times keys rows prefixes h up =
      told_append c key (group keys rows) (prefix_group keys prefixes)
      ∙ ap (λ n. n + times_told c key (prefix_group keys prefixes)) (group_once c key keys rows h)
      ∙ ap (λ n. once (is_among keys key && has_id c (holders_of key rows)) + n)
      (prefixes_times keys prefixes up)
      ∙ both_ways (is_among keys key) (has_id c (holders_of key rows)) (times_in prefixes c key)

  -- one that is told by a prefix has registered it
  has_some : (b rest : Bool) (n : ℕ) → (0 < n → rest ≡ true) → 0 < once b + n
      → (b || rest) ≡ true
  has_some b rest n f lt = grind arith

  pub times_has : (rows : List Registration) → 0 < times_in rows c key
      → has_prefix_of rows c key ≡ true
  times_has [] lt = absurd (omega (arith, lt))
  times_has (r ∷ rs) lt =
      has_some (starts_with nat_eq key r.prefix && has_id c r.ids) (has_prefix_of rs c key)
      (times_in rs c key) (times_has rs) lt

-- ---- of all keys

module _ (c : ℕ) where
  some_flushes_none : (keys : List (List ℕ)) (ids : List ℕ)
      → times_flushed c (told_some keys ids) ≡ 0
  some_flushes_none [] ids = refl
  some_flushes_none (k ∷ keys) [] = refl
  some_flushes_none (k ∷ keys) (id ∷ ids) = grind (arith, some_flushes_none (k ∷ keys) ids)

  prefixes_flush_none : (keys : List (List ℕ)) (rows : List Registration)
      → times_flushed c (prefix_group keys rows) ≡ 0
  prefixes_flush_none keys [] = refl
  prefixes_flush_none keys (r ∷ rs) =
      let those = filter (λ k. starts_with nat_eq k r.prefix) keys in
      flushed_append c (told_some those r.ids) (prefix_group keys rs)
      ∙ omega (arith, some_flushes_none those r.ids, prefixes_flush_none keys rs)

  pub whole_flushes_none : (keys : List (List ℕ)) (rows : List Held)
      (prefixes : List Registration) → times_flushed c (whole_group keys rows prefixes) ≡ 0
  whole_flushes_none keys rows prefixes =
      flushed_append c (group keys rows) (prefix_group keys prefixes)
      ∙ omega (arith, group_flushes_none c keys rows, prefixes_flush_none keys prefixes)
