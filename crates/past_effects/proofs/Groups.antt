-- Telling a group, key by key and prefix by prefix.
use Rattle.std.proofs.Common.{◌≡◌, ◌∙◌, ◌<◌, ◌≤◌, ◌+◌, ℕ, List, [], ◌∷◌, ◌++◌, refl, sym, ap, arith}
use Rattle.std.proofs.Common.{zero, suc, Option, Some, None, true, false, length, drop, get_or}
use Rattle.std.proofs.Math.ListN.{drop_of_length-le}
use Rattle.std.specs.Prelude.{◌==◌, filter, nat_eq}
use Rattle.std.specs.List.{flat_map, starts_with}
use Rattle.prefix_table.specs.declared.table.Registration.{Registration}
use Rattle.prefix_table.specs.Table.{nothing, places_of_any, row_at}
use Rattle.track_table.specs.declared.table.Held.{Held}
use Rattle.track_table.specs.Table.{holders_of, without_key, without_keys}
use Rattle.serial_model.specs.Tracking.{Invalidation, drop_group, group, prefix_group, told_of}
use Rattle.serial_model.specs.Tracking.{told_some, told_to}
use Rattle.serial_model.proofs.PrefixGroups.{prefix_group_is}
use Rattle.past_effects.specs.declared.sendings.Sent.{Sent}
use Rattle.past_effects.specs.Seen.{Seen, unpassed}
use Rattle.past_effects.specs.Sendings.{told_at, told_sent}
use Rattle.past_effects.proofs.Told.{left_first, told_first, told_none, unpassed_first}

-- ---- key by key

-- the holders of a key are told of that key alone
pub told_key : (cs : List Seen) (passed : Option ℕ) (one : List (List ℕ)) (ids key : List ℕ)
    (rows : List Held) (now next : List Sent) → one ≡ key ∷ [] → ids ≡ holders_of key rows
    → next ≡ now ++ told_sent cs (unpassed passed (told_to (Some one) ids))
    → next ≡ now ++ told_sent cs (unpassed passed (told_of key (holders_of key rows)))
told_key cs passed one ids key rows now next is held told =
    told
    ∙ ap (λ l. now ++ told_sent cs (unpassed passed (told_to (Some l) ids))) is
    ∙ ap (λ l. now ++ told_sent cs (unpassed passed (told_of key l))) held

module _ (cs : List Seen) (passed : Option ℕ) (keys : List (List ℕ)) (i : ℕ) (rows : List Held)
    (now all : List Sent)
    (left : now ++ told_sent cs (unpassed passed (group (drop i keys) rows)) ≡ all) where
  pub holders_next : (next : List Sent) (key : List ℕ) → i < length keys → key ≡ get_or keys i []
      → next ≡ now ++ told_sent cs (unpassed passed (told_of key (holders_of key rows)))
      → next ++ told_sent cs (unpassed passed (group (drop (i + 1) keys) (without_key key rows)))
      ≡ all
  holders_next next key lt is told =
      unpassed_first cs passed (told_of key (holders_of key rows))
      (group (drop (i + 1) keys) (without_key key rows)) now next all
      (ap (λ k. now ++ told_sent cs (unpassed passed (group (k ∷ drop (i + 1) keys) rows))) is
      ∙ ap (λ l. now ++ told_sent cs (unpassed passed (group l rows)))
      (sym (left_first keys i [] lt)) ∙ left) told

  pub holders_all : length keys ≤ i → now ≡ all
  holders_all le =
      sym (ap (λ l. now ++ told_sent cs (unpassed passed (group l rows)))
      (drop_of_length-le keys le) ∙ told_none cs now) ∙ left

pub keys_next : (keys : List (List ℕ)) (i : ℕ) (rows : List Held) (key : List ℕ)
    → i < length keys → key ≡ get_or keys i []
    → without_keys (drop (i + 1) keys) (without_key key rows) ≡ without_keys (drop i keys) rows
keys_next keys i rows key lt is =
    ap (λ k. without_keys (k ∷ drop (i + 1) keys) rows) is
    ∙ ap (λ l. without_keys l rows) (sym (left_first keys i [] lt))

pub keys_all : (keys : List (List ℕ)) (i : ℕ) (rows all : List Held) → length keys ≤ i
    → without_keys (drop i keys) rows ≡ all → rows ≡ all
keys_all keys i rows all le left =
    sym (ap (λ l. without_keys l rows) (drop_of_length-le keys le)) ∙ left

-- ---- prefix by prefix

-- the row at a place
row_is_at : (rs : List Registration) (n : ℕ) (prefix ids : List ℕ)
    → Some (prefix, ids) ≡ row_at n rs → get_or rs n nothing
    ≡ record { prefix = prefix; ids = ids }
row_is_at [] n prefix ids e = absurd (let no : ⊥ = cc in no)
row_is_at (r ∷ rs) zero prefix ids e = grind arith
row_is_at (r ∷ rs) (suc n) prefix ids e = row_is_at rs n prefix ids e

no_row_at : (rs : List Registration) (n : ℕ) → None ≡ row_at n rs
    → get_or rs n nothing ≡ nothing
no_row_at [] n e = refl
no_row_at (r ∷ rs) zero e = absurd (let no : ⊥ = cc in no)
no_row_at (r ∷ rs) (suc n) e = no_row_at rs n e

abbrev under : List (List ℕ) → List ℕ → List (List ℕ)
under keys prefix = filter (λ key. starts_with nat_eq key prefix) keys

abbrev told_by_row : List (List ℕ) → Registration → List Invalidation
told_by_row keys r = told_some (under keys r.prefix) r.ids

at_row : (keys : List (List ℕ)) (rs : List Registration) (n : ℕ) (prefix ids : List ℕ)
    → Some (prefix, ids) ≡ row_at n rs
    → told_at keys rs n ≡ told_some (under keys prefix) ids
at_row keys rs n prefix ids e = ap (told_by_row keys) (row_is_at rs n prefix ids e)

some_told : (some : List (List ℕ)) (ids : List ℕ) → (length some == 0) ≡ false
    → told_to (Some some) ids ≡ told_some some ids
some_told [] ids e = absurd (let no : ⊥ = cc in no)
some_told (key ∷ keys) ids e = refl

none_told : (some : List (List ℕ)) (ids : List ℕ) → (length some == 0) ≡ true
    → told_some some ids ≡ []
none_told [] ids e = refl
none_told (key ∷ keys) ids e = absurd (let no : ⊥ = grind arith in no)

nobody_told : (some : List (List ℕ)) → told_some some [] ≡ []
nobody_told [] = refl
nobody_told (key ∷ keys) = refl

module _ (keys : List (List ℕ)) (rs : List Registration) (n : ℕ) where
  pub told_at_some : (prefix ids : List ℕ) (some : List (List ℕ))
      → Some (prefix, ids) ≡ row_at n rs → some ≡ under keys prefix
      → (length some == 0) ≡ false → told_to (Some some) ids ≡ told_at keys rs n
  told_at_some prefix ids some row is any =
      some_told some ids any ∙ ap (λ l. told_some l ids) is ∙ sym (at_row keys rs n prefix ids row)

  pub told_at_none : (prefix ids : List ℕ) (some : List (List ℕ))
      → Some (prefix, ids) ≡ row_at n rs → some ≡ under keys prefix
      → (length some == 0) ≡ true → told_at keys rs n ≡ []
  told_at_none prefix ids some row is none =
      at_row keys rs n prefix ids row ∙ ap (λ l. told_some l ids) (sym is)
      ∙ none_told some ids none

  pub told_at_nowhere : None ≡ row_at n rs → told_at keys rs n ≡ []
  told_at_nowhere e =
      ap (told_by_row keys) (no_row_at rs n e) ∙ nobody_told (under keys nothing.prefix)

module _ (cs : List Seen) (passed : Option ℕ) (told : ℕ → List Invalidation) (places : List ℕ)
    (i : ℕ) (now all : List Sent)
    (left : now ++ told_sent cs (unpassed passed (flat_map told (drop i places))) ≡ all) where
  pub places_next : (next : List Sent) → i < length places
      → next ≡ now ++ told_sent cs (unpassed passed (told (get_or places i 0)))
      → next ++ told_sent cs (unpassed passed (flat_map told (drop (i + 1) places))) ≡ all
  places_next next lt sent =
      unpassed_first cs passed (told (get_or places i 0)) (flat_map told (drop (i + 1) places))
      now next all
      (ap (λ l. now ++ told_sent cs (unpassed passed (flat_map told l)))
      (sym (left_first places i 0 lt)) ∙ left) sent

  pub places_all : length places ≤ i → now ≡ all
  places_all le =
      sym (ap (λ l. now ++ told_sent cs (unpassed passed (flat_map told l)))
      (drop_of_length-le places le) ∙ told_none cs now) ∙ left

pub group_is : (keys : List (List ℕ)) (rs : List Registration)
    → flat_map (told_at keys rs) (places_of_any keys rs) ≡ prefix_group keys rs
group_is keys rs = sym (prefix_group_is keys rs)

-- ---- row by row

module _ (cs : List Seen) (rows : List Held) (i : ℕ) (now all : List Sent)
    (left : now ++ told_sent cs (drop_group (drop i rows)) ≡ all) where
  pub rows_next : (next : List Sent) (row : Held) → i < length rows → row ≡ get_or rows i row
      → next ≡ now ++ told_sent cs (told_of row.key row.holders)
      → next ++ told_sent cs (drop_group (drop (i + 1) rows)) ≡ all
  rows_next next row lt is sent =
      told_first cs (told_of row.key row.holders) (drop_group (drop (i + 1) rows)) now next all
      (ap (λ (r : Held). now ++ told_sent cs (drop_group (r ∷ drop (i + 1) rows))) is
      ∙ ap (λ l. now ++ told_sent cs (drop_group l)) (sym (left_first rows i row lt)) ∙ left) sent

  pub rows_all : length rows ≤ i → now ≡ all
  rows_all le =
      sym (ap (λ l. now ++ told_sent cs (drop_group l)) (drop_of_length-le rows le)
      ∙ told_none cs now) ∙ left
