-- How one more entry keeps what is in memory in step with the whole history.
use Rattle.std.proofs.Common.{◌≡◌, ◌≢◌, ◌+◌, ◌-◌, ◌<◌, ◌≤◌, ◌^◌, ℕ, List, [], ◌∷◌, ◌++◌, length}
use Rattle.std.proofs.Common.{reverse, take, ap, sym, subst, ◌∙◌, arith, true, false, min}
use Rattle.std.proofs.Common.{length-append}
use Prim.Native.Nat.{suc}
use Rattle.std.proofs.Common.{length-set, slice_index_or, slice_set, Some}
use Rattle.std.specs.Prelude.{◌%◌}
use Rattle.std.proofs.Math.Nat.{suc-mod, mod-eq_of_lt, mod-lt, mod-le, mod_self}
use Rattle.std.proofs.lemmas.List.{length-reverse, length-take-le, reverse-append, get_or_push}
use Rattle.std.proofs.lemmas.List.{get_or_append_left, get_or-set_same, get_or-set_other}
use Rattle.std.proofs.lemmas.Bool.{cases_eq}
use Rattle.std.proofs.lemmas.Bool.Decides.{nat_tests}
use Rattle.serial_model.specs.declared.history.Entry.{Entry}
use Rattle.serial_model.specs.declared.history.Entry.TheVariants.{Admit, Run, Tick, Take, Close}
use Rattle.serial_model.specs.History.{admitted, is_admitted, latest, runs_of}
use Rattle.server_book.specs.Log.{AreCounted, HasCounter, HasPlace, IsLog, LogState, base, counted}
use Rattle.server_book.specs.Log.{closable_after, kept, runs}

-- ---- the newest entries

module _ (most moment start closable room : ℕ) (recent past : List Entry)
    (g : IsLog most moment start closable room recent past) where
  kept_below : kept most past < most
  kept_below = mod-lt (length past) g.some

  pub recent_is : length recent ≡ kept most past
  recent_is =
      sym (length-reverse recent) ∙ ap length g.newest
      ∙ length-take-le (kept most past) past (mod-le (length past) most)

  pub base_is : start ≡ base most past
  base_is = let count = g.count in omega (arith, count, recent_is)

  module _ (e : Entry) where
    newest_more : kept most (e ∷ past) ≡ suc (kept most past)
        → reverse (recent ++ e ∷ []) ≡ take (kept most (e ∷ past)) (e ∷ past)
    newest_more one =
        reverse-append recent (e ∷ []) ∙ ap (λ es. e ∷ es) g.newest
        ∙ sym (ap (λ n. take n (e ∷ past)) one)

    -- where fewer than `most` are kept then
    pub log_more : (now closable' room' : ℕ) → now ≡ latest (e ∷ past) → length recent + 1 ≢ most
        → closable' ≤ room' → length past + 1 + closable' < 2 ^ 64
        → IsLog most now start closable' room' (recent ++ e ∷ []) (e ∷ past)
    log_more now closable' room' latest_is ne closes numbers =
        let few : suc (kept most past) < most =
        let k = kept_below in let r = recent_is in omega (arith, k, r, ne) in
        let one : kept most (e ∷ past) ≡ suc (kept most past) =
        suc-mod (length past) most ∙ mod-eq_of_lt few in
        record {
          some = g.some;
          moment_is = latest_is;
          count = let c = g.count in omega (arith, c, length-append recent (e ∷ []));
          newest = newest_more one;
          closes = closes;
          numbers = omega (arith, numbers);
        }

    -- where all are let go
    pub log_folded : (now closable' room' : ℕ) → now ≡ latest (e ∷ past) → length recent + 1 ≡ most
        → closable' ≤ room' → length past + 1 + closable' < 2 ^ 64
        → IsLog most now (start + most) closable' room' [] (e ∷ past)
    log_folded now closable' room' latest_is same closes numbers =
        let none : kept most (e ∷ past) ≡ 0 =
        suc-mod (length past) most
        ∙ ap (λ n. n % most) (let r = recent_is in let s = same in omega (arith, r, s))
        ∙ mod_self most in
        record {
          some = g.some;
          moment_is = latest_is;
          count = let c = g.count in let s = same in omega (arith, c, s);
          newest = sym (ap (λ n. take n (e ∷ past)) none);
          closes = closes;
          numbers = omega (arith, numbers);
        }

-- there is room for the Closes and numbers for them, after an entry that had its place
pub place_fits : (g : LogState) (e : Entry) (room n k : ℕ) → HasPlace g e → k ≡ g.closable
    → min (room - k) (2 ^ 64 - 1 - n - k) ≡ g.free → k ≤ room → n + k < 2 ^ 64
    → (closable_after g.closable e + 1 ≤ room) × (n + 1 + closable_after g.closable e < 2 ^ 64)
place_fits g (Admit id) room n k h is free le lt = let two = h.0 in (omega arith, omega arith)
place_fits g (Run id words moment) room n k h is free le lt =
    let one = h.0 in (omega arith, omega arith)
place_fits g (Tick moment) room n k h is free le lt = (omega arith, omega arith)
place_fits g (Take id most) room n k h is free le lt = (omega arith, omega arith)
place_fits g (Close id) room n k h is free le lt = (omega arith, omega arith)

-- ---- the numbers of Runs

-- a connection has no more Runs than there are entries
pub runs_le : (id : ℕ) (past : List Entry) → length (runs_of id past) ≤ length past
runs_le id [] = omega arith
runs_le id (Admit c ∷ past) = omega (arith, runs_le id past)
runs_le id (Run c words moment ∷ past) = grind (arith, length-append, runs_le id past)
runs_le id (Tick moment ∷ past) = omega (arith, runs_le id past)
runs_le id (Take c most ∷ past) = omega (arith, runs_le id past)
runs_le id (Close c ∷ past) = omega (arith, runs_le id past)

module _ (counts : List ℕ) (past : List Entry) (k : AreCounted counts past) where
  pub runs_are : (id : ℕ) → is_admitted past id ≡ true
      → runs past id ≡ Some (slice_index_or counts (id - 1) 0)
  runs_are id on = grind arith

  pub has_counter : (g : LogState) (room : ℕ) (e : Entry) → g.past ≡ past → room ≡ g.ids
      → length past + g.closable + g.free < 2 ^ 64 → HasPlace g e
      → HasCounter counts room e
  has_counter g room (Admit id) same ids fits h = grind arith
  has_counter g room (Run id words moment) same ids fits h = grind (arith, nat_tests, runs_le)
  has_counter g room (Tick moment) same ids fits h = tt
  has_counter g room (Take id most) same ids fits h = tt
  has_counter g room (Close id) same ids fits h = tt

  admit_each : (id : ℕ) → is_admitted (Admit (admitted past + 1) ∷ past) id ≡ true
      → slice_index_or (counts ++ 0 ∷ []) (id - 1) 0 ≡ length (runs_of id past)
  admit_each id on = grind (arith, nat_tests, get_or_push, get_or_append_left)

  run_each : (id c : ℕ) (words : List (List ℕ)) (moment : ℕ) → is_admitted past id ≡ true
      → is_admitted past c ≡ true
      → slice_index_or (slice_set counts (id - 1) (slice_index_or counts (id - 1) 0 + 1)) (c - 1) 0
      ≡ length (runs_of c (Run id words moment ∷ past))
  run_each id c words moment on there =
      grind (arith, nat_tests, cases_eq, get_or-set_same, get_or-set_other, length-append)

  run_none : (id c : ℕ) (words : List (List ℕ)) (moment : ℕ) → is_admitted past id ≡ true
      → is_admitted past c ≡ false → length (runs_of c (Run id words moment ∷ past)) ≡ 0
  run_none id c words moment on none = grind (arith, nat_tests, cases_eq)

  pub counted_more : (g : LogState) (e : Entry) → g.past ≡ past → HasPlace g e
      → AreCounted (counted counts e) (e ∷ past)
  counted_more g (Admit id) same h =
      grind (arith, nat_tests, length-append, admit_each)
  counted_more g (Run id words moment) same h =
      let on = subst (λ p. is_admitted p id ≡ true) same h.1 in record {
        count = length-set counts (id - 1) _ ∙ k.count;
        each = λ c there. run_each id c words moment on there;
        none = λ c none. run_none id c words moment on none;
      }
  counted_more g (Tick moment) same h = record { count = k.count; each = k.each; none = k.none }
  counted_more g (Take id most) same h = record { count = k.count; each = k.each; none = k.none }
  counted_more g (Close id) same h = record { count = k.count; each = k.each; none = k.none }
