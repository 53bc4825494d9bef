-- How often each group tells a connection of a key.
use Rattle.std.proofs.Common.{◌≡◌, ◌+◌, ◌≤◌, ◌∙◌, refl, ap, ℕ, zero, suc, List, [], ◌∷◌, ◌++◌}
use Rattle.std.proofs.Common.{Bool, true, false, cond, take, Some, None, Option, arith}
use Rattle.std.specs.Prelude.{◌==◌, ◌&&◌, ◌||◌, filter, nat_lt, nat_le, not}
use Rattle.std.specs.List.{list_any}
use Rattle.std.specs.Str.{bytes_eq}
use Rattle.std.proofs.lemmas.Bool.{eqb-true}
use Rattle.std.proofs.lemmas.Bool.Decides.{nat_tests}
use Rattle.id_set.specs.Ids.{AscendFrom, Ascend}
use Rattle.track_table.specs.declared.table.Held.{Held}
use Rattle.track_table.specs.Table.{holders_of, without_key}
use Rattle.track_table.specs.Order.{HasNo, AreOrdered, IsTable}
use Rattle.track_table.proofs.Orders.{holders_ascend, table_without_key}
use Rattle.serial_model.specs.Tracking.{Invalidation, told_to, told_of, group, drop_group}
use Rattle.serial_model.specs.Tracking.{ids_where}
use Rattle.serial_model.specs.Laws.{is_among}
use Rattle.serial_model.specs.Tracking.{has_id}
use Rattle.tracking_laws.specs.Told.{once, times_told, times_flushed, is_named}
use Rattle.tracking_laws.proofs.Holders.{gone, same_holders, same_has_no, key_apart}

-- ascending ids from above this one do not have it
not_above : (c n : ℕ) (ids : List ℕ) → c + 1 ≤ n → AscendFrom n ids → has_id c ids ≡ false
not_above c n [] le h = refl
not_above c n (x ∷ xs) le h = grind (arith, nat_tests, not_above c (x + 1) xs (omega arith) h.1)

module _ (c : ℕ) (key : List ℕ) where
  pub told_append : (xs ys : List Invalidation)
      → times_told c key (xs ++ ys) ≡ times_told c key xs + times_told c key ys
  told_append [] ys = omega arith
  told_append (x ∷ xs) ys = omega (arith, told_append xs ys)

  -- each of these connections is told once
  pub told_to_once : (keys : Option (List (List ℕ))) (n : ℕ) (ids : List ℕ) → AscendFrom n ids
      → times_told c key (told_to keys ids) ≡ once (is_named keys key && has_id c ids)
  told_to_once keys n [] h = grind arith
  told_to_once keys n (x ∷ xs) h =
      grind (arith, nat_tests, told_to_once keys (x + 1) xs h.1, not_above)

  -- a connection is told once of a key that it holds, by its row
  pub told_of_once : (k : List ℕ) (ids : List ℕ) → Ascend ids
      → times_told c key (told_of k ids) ≡ once (bytes_eq key k && has_id c ids)
  told_of_once k ids h = grind (arith, told_to_once (Some (k ∷ [])) 0 ids h)

  -- each key of a group is told to its holders, once
  pub group_once : (keys : List (List ℕ)) (rows : List Held) → IsTable rows
      → times_told c key (group keys rows)
      ≡ once (is_among keys key && has_id c (holders_of key rows))
  group_once [] rows h = refl
  group_once (k ∷ keys) rows h =
      told_append (told_of k (holders_of k rows)) (group keys (without_key k rows))
      ∙ omega (
        arith,
        told_of_once k (holders_of k rows) (holders_ascend k rows h),
        group_once keys (without_key k rows) (table_without_key k rows h),
        step,
      )
    where
      step : once (bytes_eq key k && has_id c (holders_of k rows))
          + once (is_among keys key && has_id c (holders_of key (without_key k rows)))
          ≡ once ((bytes_eq key k || is_among keys key) && has_id c (holders_of key rows))
      step = elim (bytes_eq key k) as (λ b. bytes_eq key k ≡ b
          → once (b && has_id c (holders_of k rows))
          + once (is_among keys key && has_id c (holders_of key (without_key k rows)))
          ≡ once ((b || is_among keys key) && has_id c (holders_of key rows))) [
            | true ↦ λ e. grind (arith, gone, same_holders)
            | false ↦ λ e. grind (arith, key_apart)
          ] refl

  -- ---- rows that are dropped

  told_of_other : (k : List ℕ) (ids : List ℕ) → bytes_eq key k ≡ false
      → times_told c key (told_of k ids) ≡ 0
  told_of_other k [] e = refl
  told_of_other k (x ∷ xs) e = grind (arith, told_of_other k xs e)

  none_dropped : (n : ℕ) (rows : List Held) → HasNo key rows
      → times_told c key (drop_group (take n rows)) ≡ 0
  none_dropped zero rows h = refl
  none_dropped (suc n) [] h = refl
  none_dropped (suc n) (r ∷ rs) h =
      told_append (told_of r.key r.holders) (drop_group (take n rs))
      ∙ omega (arith, told_of_other r.key r.holders h.0, none_dropped n rs h.1)

  pub drop_once : (n : ℕ) (rows : List Held) → AreOrdered rows
      → times_told c key (drop_group (take n rows))
      ≡ once (list_any (λ r. bytes_eq key r.key) (take n rows) && has_id c (holders_of key rows))
  drop_once zero rows h = refl
  drop_once (suc n) [] h = refl
  drop_once (suc n) (r ∷ rs) h =
      let rest = times_told c key (drop_group (take n rs)) in
      let others = list_any (λ r. bytes_eq key r.key) (take n rs) in
      told_append (told_of r.key r.holders) (drop_group (take n rs))
      ∙ ap (λ t. t + rest) (told_of_once r.key r.holders h.0)
      ∙ elim (bytes_eq key r.key) as (λ b. bytes_eq key r.key ≡ b
      → once (b && has_id c r.holders) + rest
      ≡ once ((b || others) && has_id c (cond b r.holders (holders_of key rs)))) [
        | true ↦ λ e. grind (arith, none_dropped n rs (same_has_no key r.key rs e h.1))
        | false ↦ λ e. grind (arith, drop_once n rs h.2)
      ] refl

  -- those that are passed over are not told
  passed_one : (mine skips skips_me named : Bool) (rest : ℕ) → (mine ≡ true → skips ≡ skips_me)
      → cond (not skips) (once (mine && named) + cond skips_me 0 rest) (cond skips_me 0 rest)
      ≡ cond skips_me 0 (once (mine && named) + rest)
  passed_one mine skips skips_me named rest f = grind arith

  pub told_unless : (passed : ℕ → Bool) (told : List Invalidation)
      → times_told c key (filter (λ i. not (passed i.to)) told)
      ≡ cond (passed c) 0 (times_told c key told)
  told_unless passed [] = same (passed c) 0
    where
      same : (b : Bool) (n : ℕ) → n ≡ cond b n n
      same b n = grind arith
  told_unless passed (i ∷ told) =
      here (not (passed i.to))
      ∙ ap (λ n. cond (not (passed i.to)) (once ((i.to == c) && is_named i.keys key) + n) n)
      (told_unless passed told)
      ∙ passed_one (i.to == c) (passed i.to) (passed c) (is_named i.keys key)
      (times_told c key told) (λ e. ap passed (eqb-true i.to c e))
    where
      here : (b : Bool)
          → times_told c key (cond b (i ∷ filter (λ k. not (passed k.to)) told)
          (filter (λ k. not (passed k.to)) told))
          ≡ cond b (once ((i.to == c) && is_named i.keys key)
          + times_told c key (filter (λ k. not (passed k.to)) told))
          (times_told c key (filter (λ k. not (passed k.to)) told))
      here true = refl
      here false = refl

  -- a flush names no key
  pub flush_names_none : (ids : List ℕ) → times_told c key (told_to None ids) ≡ 0
  flush_names_none [] = refl
  flush_names_none (x ∷ xs) = grind (arith, flush_names_none xs)

-- ---- of all keys

module _ (c : ℕ) where
  pub flushed_append : (xs ys : List Invalidation)
      → times_flushed c (xs ++ ys) ≡ times_flushed c xs + times_flushed c ys
  flushed_append [] ys = omega arith
  flushed_append (x ∷ xs) ys = omega (arith, flushed_append xs ys)

  told_of_flushes_none : (k : List ℕ) (ids : List ℕ) → times_flushed c (told_of k ids) ≡ 0
  told_of_flushes_none k [] = refl
  told_of_flushes_none k (x ∷ xs) = grind (arith, told_of_flushes_none k xs)

  pub group_flushes_none : (keys : List (List ℕ)) (rows : List Held)
      → times_flushed c (group keys rows) ≡ 0
  group_flushes_none [] rows = refl
  group_flushes_none (k ∷ keys) rows =
      flushed_append (told_of k (holders_of k rows)) (group keys (without_key k rows))
      ∙ omega (
        arith,
        told_of_flushes_none k (holders_of k rows),
        group_flushes_none keys (without_key k rows),
      )

  pub filter_flushes_none : (p : Invalidation → Bool) (told : List Invalidation)
      → times_flushed c told ≡ 0 → times_flushed c (filter p told) ≡ 0
  filter_flushes_none p [] e = refl
  filter_flushes_none p (i ∷ told) e = grind (arith, filter_flushes_none p told)

  pub drops_flush_none : (rows : List Held) → times_flushed c (drop_group rows) ≡ 0
  drops_flush_none [] = refl
  drops_flush_none (r ∷ rs) =
      flushed_append (told_of r.key r.holders) (drop_group rs)
      ∙ omega (arith, told_of_flushes_none r.key r.holders, drops_flush_none rs)

  told_to_append : (keys : Option (List (List ℕ))) (xs ys : List ℕ)
      → told_to keys (xs ++ ys) ≡ told_to keys xs ++ told_to keys ys
  told_to_append keys [] ys = refl
  told_to_append keys (x ∷ xs) ys = grind (arith, told_to_append keys xs ys)

  -- each of the first n connections that pass a test is told once
  pub flush_once : (test : ℕ → Bool) (n : ℕ)
      → times_flushed c (told_to None (ids_where test n))
      ≡ once ((nat_lt 0 c && nat_le c n) && test c)
  flush_once test zero = grind (arith, nat_tests)
  flush_once test (suc n) =
      elim (test (suc n)) as (λ b. test (suc n) ≡ b
      → times_flushed c (told_to None (cond b (ids_where test n ++ suc n ∷ []) (ids_where test n)))
      ≡ once ((nat_lt 0 c && nat_le c (suc n)) && test c)) [
        | true ↦ λ e. grind (arith, nat_tests, told_to_append, flushed_append, flush_once test n)
        | false ↦ λ e. grind (arith, nat_tests, flush_once test n)
      ] refl
