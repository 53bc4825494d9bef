-- Telling the holders of one key after another.
use Rattle.std.proofs.Common.{◌≡◌, ◌+◌, ◌<◌, ℕ, List, [], ◌∷◌, ◌++◌, length, take, refl, ap, sym}
use Rattle.std.proofs.Common.{◌∙◌, arith, append-nil, append_assoc, Option, false, slice_index_or}
use Rattle.std.specs.Prelude.{◌||◌}
use Prim.Native.Nat.{zero, suc}
use Rattle.std.specs.Str.{bytes_eq}
use Rattle.std.proofs.lemmas.Slice.Eq.{bytes_eq-Decides}
use Rattle.std.proofs.lemmas.Bool.{or_parts}
use Rattle.track_table.specs.declared.table.Held.{Held}
use Rattle.track_table.specs.Places.{nobody}
use Rattle.track_table.specs.Table.{holders_of, without_key}
use Rattle.serial_model.specs.Laws.{is_among}
use Rattle.serial_model.specs.Tracking.{AreApart, Invalidation, drop_group, group, told_of}
use Rattle.serial_model.proofs.KeyHolders.{keys_apart}
use Rattle.server_book.specs.Connections.{ConnectionsState}
use Rattle.server_book.specs.Sendings.{unpassed, with_told}
use Rattle.server_book.proofs.Routing.{told_behind}

-- the holders of each key, by a table that stays
abbrev pub each_row : List (List ℕ) → List Held → List Held
each_row [] rows = []
each_row (key ∷ keys) rows =
    record { key = key; holders = holders_of key rows } ∷ each_row keys rows

abbrev pub each_told : List (List ℕ) → List Held → List Invalidation
each_told keys rows = drop_group (each_row keys rows)

turned : (a b : List ℕ) → bytes_eq a b ≡ false → bytes_eq b a ≡ false
turned a b apart = grind (arith, bytes_eq-Decides)

each_apart : (k : List ℕ) (keys : List (List ℕ)) (rows : List Held) → is_among keys k ≡ false
    → each_told keys (without_key k rows) ≡ each_told keys rows
each_apart k [] rows h = refl
each_apart k (x ∷ keys) rows h =
    let p = or_parts (bytes_eq k x) (is_among keys k) h in
    ap (λ ids. told_of x ids ++ each_told keys (without_key k rows))
    (keys_apart 0 x (k ∷ []) rows (ap (λ b. b || false) (turned k x p.0)))
    ∙ ap (λ t. told_of x (holders_of x rows) ++ t) (each_apart k keys rows p.1)

-- keys that differ are told as if none were forgotten on the way
pub group_told : (keys : List (List ℕ)) (rows : List Held) → AreApart keys
    → group keys rows ≡ each_told keys rows
group_told [] rows h = refl
group_told (k ∷ keys) rows h =
    ap (λ t. told_of k (holders_of k rows) ++ t)
    (group_told keys (without_key k rows) h.1 ∙ each_apart k keys rows h.0)

pub each_length : (keys : List (List ℕ)) (rows : List Held)
    → length (each_row keys rows) ≡ length keys
each_length [] rows = refl
each_length (k ∷ keys) rows = ap suc (each_length keys rows)

pub each_at : (keys : List (List ℕ)) (rows : List Held) (n : ℕ) → n < length keys
    → (let key = slice_index_or keys n [] in
    slice_index_or (each_row keys rows) n nobody
    ≡ record { key = key; holders = holders_of key rows })
each_at [] rows n lt = absurd (let no : ⊥ = omega arith in no)
each_at (k ∷ keys) rows zero lt = refl
each_at (k ∷ keys) rows (suc n) lt = each_at keys rows n (omega arith)

-- the holders of one row more
rows_next : (rows : List Held) (n : ℕ) → n < length rows
    → (let row = slice_index_or rows n nobody in
    drop_group (take (n + 1) rows) ≡ drop_group (take n rows) ++ told_of row.key row.holders)
rows_next [] n lt = absurd (let no : ⊥ = omega arith in no)
rows_next (r ∷ rows) zero lt = append-nil (told_of r.key r.holders)
rows_next (r ∷ rows) (suc n) lt =
    grind (arith, slice_index_or, append_assoc, rows_next rows n (omega arith))

-- the holders of one row more are told
pub told_more : (n : ℕ) (but : Option ℕ) (old now : ConnectionsState) (rows : List Held) (k : ℕ)
    (key ids : List ℕ) (next : ConnectionsState)
    → now ≡ with_told n (unpassed but (drop_group (take k rows))) old
    → k < length rows
    → key ≡ (slice_index_or rows k nobody).key
    → ids ≡ (slice_index_or rows k nobody).holders
    → next ≡ with_told n (unpassed but (told_of key ids)) now
    → next ≡ with_told n (unpassed but (drop_group (take (k + 1) rows))) old
told_more n but old now rows k key ids next so_far lt at is sent =
    let first = drop_group (take k rows) in
    told_behind n but old now next first (told_of key ids) so_far sent
    ∙ ap (λ x. with_told n (unpassed but x) old)
    (ap (λ x. first ++ told_of x ids) at
    ∙ ap (λ x. first ++ told_of (slice_index_or rows k nobody).key x) is
    ∙ sym (rows_next rows k lt))
