-- Who holds a key after a step of the table: exactly those that held it, less those that the step
-- takes, and with those that it brings.
use Rattle.std.proofs.Common.{◌≡◌, ◌∙◌, refl, sym, ap, ℕ, zero, suc, List, [], ◌∷◌, Bool, true}
use Rattle.std.proofs.Common.{false, cond, drop, take, length, arith}
use Rattle.std.specs.Prelude.{◌==◌, ◌&&◌, ◌||◌, not}
use Rattle.std.specs.List.{filter, list_any}
use Rattle.std.specs.Str.{bytes_eq}
use Rattle.std.proofs.lemmas.Slice.Eq.{bytes_eq-Decides}
use Rattle.std.proofs.lemmas.Bool.Decides.{nat_tests}
use Rattle.id_set.specs.Ids.{with_id, without_id}
use Rattle.track_table.specs.declared.table.Held.{Held}
use Rattle.track_table.specs.Table.{holders_of, is_held, remembered, without_key, freed_of}
use Rattle.track_table.specs.Table.{without_connection, with_keys, without_keys}
use Rattle.track_table.specs.Order.{HasNo, AreOrdered}
use Rattle.track_table.proofs.Orders.{holders_remembered}
use Rattle.serial_model.specs.Laws.{is_among}
use Rattle.serial_model.specs.Tracking.{has_id}
use Rattle.serial_model.proofs.KeyHolders.{keys_apart}

pub same_bytes : (a b : List ℕ) → bytes_eq a b ≡ true → a ≡ b
same_bytes a b e = (bytes_eq-Decides a b).0 e

pub turned : (a b : List ℕ) → bytes_eq a b ≡ bytes_eq b a
turned a b = grind (arith, bytes_eq-Decides)

module _ (key : List ℕ) where
  -- a key that is in no row has no holder
  pub none_holds : (rows : List Held) → HasNo key rows → holders_of key rows ≡ []
  none_holds [] h = refl
  none_holds (r ∷ rs) h = grind (arith, none_holds rs h.1)

  pub has_no_without : (rows : List Held) → HasNo key (without_key key rows)
  has_no_without [] = tt
  has_no_without (r ∷ rs) = grind (arith, has_no_without rs)

  pub has_no_filter : (p : Held → Bool) (rows : List Held) → HasNo key rows
      → HasNo key (filter p rows)
  has_no_filter p [] h = tt
  has_no_filter p (r ∷ rs) h = grind (arith, has_no_filter p rs h.1)

  pub key_apart : (k : List ℕ) (rows : List Held) → bytes_eq key k ≡ false
      → holders_of key (without_key k rows) ≡ holders_of key rows
  key_apart k rows other = keys_apart 0 key (k ∷ []) rows (grind arith)

  -- the same for a key of the same bytes
  pub gone : (k : List ℕ) (rows : List Held) → bytes_eq key k ≡ true
      → holders_of key (without_key k rows) ≡ []
  gone k rows e =
      ap (λ q. holders_of key (without_key q rows)) (sym (same_bytes key k e))
      ∙ none_holds (without_key key rows) (has_no_without rows)

  pub same_holders : (k : List ℕ) (rows : List Held) → bytes_eq key k ≡ true
      → holders_of k rows ≡ holders_of key rows
  same_holders k rows e = ap (λ q. holders_of q rows) (sym (same_bytes key k e))

  pub same_has_no : (k : List ℕ) (rows : List Held) → bytes_eq key k ≡ true → HasNo k rows
      → HasNo key rows
  same_has_no k rows e h = rw (same_bytes key k e) h

  has_no_without_keys : (keys : List (List ℕ)) (rows : List Held) → HasNo key rows
      → HasNo key (without_keys keys rows)
  has_no_without_keys [] rows h = h
  has_no_without_keys (k ∷ keys) rows h =
      has_no_without_keys keys (without_key k rows)
      (has_no_filter (λ r. not (bytes_eq k r.key)) rows h)

  -- the keys of a group have no holder any more
  pub has_no_among : (keys : List (List ℕ)) (rows : List Held) → is_among keys key ≡ true
      → HasNo key (without_keys keys rows)
  has_no_among [] rows h = absurd (let no : ⊥ = cc in no)
  has_no_among (k ∷ keys) rows h =
      elim (bytes_eq key k) as (λ b. bytes_eq key k ≡ b → (b || is_among keys key) ≡ true
      → HasNo key (without_keys keys (without_key k rows))) [
        | true ↦ λ e f. rw (sym (same_bytes key k e))
            (has_no_without_keys keys (without_key key rows) (has_no_without rows))
        | false ↦ λ e f. has_no_among keys (without_key k rows) f
      ] refl h

module _ (c : ℕ) where
  -- ---- ids

  pub holds_with : (id : ℕ) (ids : List ℕ) → has_id c (with_id id ids) ≡ ((id == c) || has_id c ids)
  holds_with id [] = refl
  holds_with id (x ∷ xs) = grind (arith, holds_with id xs, nat_tests)

  pub holds_without : (id : ℕ) (ids : List ℕ)
      → has_id c (without_id id ids) ≡ (not (id == c) && has_id c ids)
  holds_without id [] = grind arith
  holds_without id (x ∷ xs) = grind (arith, holds_without id xs, nat_tests)

  module _ (key : List ℕ) where
    -- ---- keys

    pub holds_remembered : (id : ℕ) (k : List ℕ) (rows : List Held)
        → has_id c (holders_of key (remembered id k rows))
        ≡ (((id == c) && bytes_eq key k) || has_id c (holders_of key rows))
    holds_remembered id k rows =
        ap (has_id c) (holders_remembered key id k rows)
        ∙ elim (bytes_eq key k) as (λ b. bytes_eq key k ≡ b
        → has_id c (cond b (with_id id (holders_of k rows)) (holders_of key rows))
        ≡ (((id == c) && b) || has_id c (holders_of key rows))) [
          | true ↦ λ e. holds_with id (holders_of k rows)
              ∙ ap (λ q. (id == c) || has_id c (holders_of q rows)) (sym (same_bytes key k e))
              ∙ by (id == c) (has_id c (holders_of key rows))
          | false ↦ λ e. by_false (id == c) (has_id c (holders_of key rows))
        ] refl
      where
        by : (a b : Bool) → (a || b) ≡ ((a && true) || b)
        by a b = grind arith

        by_false : (a b : Bool) → b ≡ ((a && false) || b)
        by_false a b = grind arith

    pub holds_with_keys : (id : ℕ) (keys : List (List ℕ)) (rows : List Held)
        → has_id c (holders_of key (with_keys id keys rows))
        ≡ (((id == c) && is_among keys key) || has_id c (holders_of key rows))
    holds_with_keys id [] rows = by_false (id == c) (has_id c (holders_of key rows))
      where
        by_false : (a b : Bool) → b ≡ ((a && false) || b)
        by_false a b = grind arith
    holds_with_keys id (k ∷ keys) rows =
        holds_with_keys id keys (remembered id k rows)
        ∙ ap (λ b. ((id == c) && is_among keys key) || b) (holds_remembered id k rows)
        ∙ by (id == c) (is_among keys key) (bytes_eq key k) (has_id c (holders_of key rows))
      where
        by : (a b d e : Bool) → ((a && b) || ((a && d) || e)) ≡ ((a && (d || b)) || e)
        by a b d e = grind arith

    -- a group of keys takes its own keys alone
    pub holds_without_keys : (keys : List (List ℕ)) (rows : List Held)
        → has_id c (holders_of key (without_keys keys rows))
        ≡ (not (is_among keys key) && has_id c (holders_of key rows))
    holds_without_keys keys rows =
        elim (is_among keys key) as (λ b. is_among keys key ≡ b
        → has_id c (holders_of key (without_keys keys rows))
        ≡ (not b && has_id c (holders_of key rows))) [
          | true ↦ λ e. ap (has_id c) (none_holds key (without_keys keys rows)
              (has_no_among key keys rows e))
          | false ↦ λ e. ap (has_id c) (keys_apart 0 key keys rows e)
        ] refl

    has_no_freed : (id : ℕ) (rows : List Held) → HasNo key rows
        → HasNo key (without_connection id rows)
    has_no_freed id [] h = tt
    has_no_freed id (r ∷ rs) h = grind (arith, has_no_freed id rs h.1)

    none_held : (ids : List ℕ) → not (length ids == 0) ≡ false → has_id c ids ≡ false
    none_held [] h = refl
    none_held (x ∷ xs) h = grind (arith, nat_tests)

    own_row : (id : ℕ) (r : Held) (rest : List Held) → bytes_eq key r.key ≡ true → HasNo key rest
        → has_id c (holders_of key (cond (is_held (freed_of id r)) (freed_of id r ∷ rest) rest))
        ≡ (not (id == c) && has_id c r.holders)
    own_row id r rest e h =
        elim (is_held (freed_of id r)) as (λ b. is_held (freed_of id r) ≡ b
        → has_id c (holders_of key (cond b (freed_of id r ∷ rest) rest))
        ≡ (not (id == c) && has_id c r.holders)) [
          | true ↦ λ f.
              ap (λ b. has_id c (cond b (without_id id r.holders) (holders_of key rest))) e
              ∙ holds_without id r.holders
          | false ↦ λ f. ap (has_id c) (none_holds key rest h)
              ∙ sym (none_held (without_id id r.holders) f)
              ∙ holds_without id r.holders
        ] refl

    other_row : (id : ℕ) (r : Held) (rest : List Held) → bytes_eq key r.key ≡ false
        → holders_of key (cond (is_held (freed_of id r)) (freed_of id r ∷ rest) rest)
        ≡ holders_of key rest
    other_row id r rest e = grind arith

    -- a connection that is freed holds no key, and the others hold what they held
    pub holds_freed : (id : ℕ) (rows : List Held) → AreOrdered rows
        → has_id c (holders_of key (without_connection id rows))
        ≡ (not (id == c) && has_id c (holders_of key rows))
    holds_freed id [] h = grind arith
    holds_freed id (r ∷ rs) h =
        elim (bytes_eq key r.key) as (λ b. bytes_eq key r.key ≡ b
        → has_id c (holders_of key (without_connection id (r ∷ rs)))
        ≡ (not (id == c) && has_id c (cond b r.holders (holders_of key rs)))) [
          | true ↦ λ e. own_row id r (without_connection id rs) e
              (has_no_freed id rs (same_has_no key r.key rs e h.1))
          | false ↦ λ e. ap (has_id c) (other_row id r (without_connection id rs) e)
              ∙ holds_freed id rs h.2
        ] refl

    -- ---- the rows behind the first

    has_no_drop : (n : ℕ) (rows : List Held) → HasNo key rows → HasNo key (drop n rows)
    has_no_drop zero rows h = h
    has_no_drop (suc n) [] h = h
    has_no_drop (suc n) (r ∷ rs) h = has_no_drop n rs h.1

    -- a key that holds behind the first rows holds among all
    pub held_drop : (n : ℕ) (rows : List Held) → AreOrdered rows
        → has_id c (holders_of key (drop n rows)) ≡ true → has_id c (holders_of key rows) ≡ true
    held_drop zero rows h e = e
    held_drop (suc n) [] h e = e
    held_drop (suc n) (r ∷ rs) h e =
        elim (bytes_eq key r.key) as (λ b. bytes_eq key r.key ≡ b
        → has_id c (cond b r.holders (holders_of key rs)) ≡ true) [
          | true ↦ λ f. let none : has_id c (holders_of key (drop n rs)) ≡ false =
              ap (has_id c) (none_holds key (drop n rs)
              (has_no_drop n rs (same_has_no key r.key rs f h.1))) in
              absurd (let no : ⊥ = cc in no)
          | false ↦ λ f. held_drop n rs h.2 e
        ] refl

    -- a key of the first rows has no holder behind them
    pub none_behind : (n : ℕ) (rows : List Held) → AreOrdered rows
        → list_any (λ r. bytes_eq key r.key) (take n rows) ≡ true
        → has_id c (holders_of key (drop n rows)) ≡ false
    none_behind zero rows h e = absurd (let no : ⊥ = cc in no)
    none_behind (suc n) [] h e = absurd (let no : ⊥ = cc in no)
    none_behind (suc n) (r ∷ rs) h e =
        elim (bytes_eq key r.key) as (λ b. bytes_eq key r.key ≡ b
        → (b || list_any (λ r. bytes_eq key r.key) (take n rs)) ≡ true
        → has_id c (holders_of key (drop n rs)) ≡ false) [
          | true ↦ λ f g. ap (has_id c) (none_holds key (drop n rs)
              (has_no_drop n rs (same_has_no key r.key rs f h.1)))
          | false ↦ λ f g. none_behind n rs h.2 g
        ] refl e
