-- The table at the first row with a key.
use Rattle.std.proofs.Common.{◌≡◌, ◌<◌, ℕ, List, [], ◌∷◌, true, cond, length, get_or, set}
use Rattle.std.proofs.Common.{ap, sym, ◌∙◌, ◌++◌, ◌+◌, arith, take}
use Rattle.std.proofs.lemmas.List.{get_or_read, take_more}
use Prim.Native.Nat.{zero, suc}
use Rattle.std.specs.Str.{bytes_eq}
use Rattle.track_table.specs.declared.table.Held.{Held}
use Rattle.track_table.specs.Table.{holders_of, remembered}
use Rattle.track_table.specs.Aged.{grown}
use Rattle.track_table.specs.Places.{nobody, NoneBefore, key_at}

module _ (key : List ℕ) where
  pub holders_at : (rs : List Held) (n : ℕ) → n < length rs → bytes_eq key (key_at rs n) ≡ true
      → NoneBefore key rs n
      → holders_of key rs ≡ (get_or rs n nobody).holders
  holders_at [] n lt is before = absurd (omega arith)
  holders_at (r ∷ rs) zero lt is before = ap (λ b. cond b r.holders (holders_of key rs)) is
  holders_at (r ∷ rs) (suc n) lt is before =
      ap (λ b. cond b r.holders (holders_of key rs)) (before 0 (omega arith))
      ∙ holders_at rs n (omega arith) is (λ i k. before (suc i) (omega arith))

  pub remembered_at : (id : ℕ) (rs : List Held) (n : ℕ) → n < length rs
      → bytes_eq key (key_at rs n) ≡ true
      → NoneBefore key rs n → remembered id key rs ≡ set rs n (grown id (get_or rs n nobody))
  remembered_at id [] n lt is before = absurd (omega arith)
  remembered_at id (r ∷ rs) zero lt is before =
      ap (λ b. cond b (grown id r ∷ rs) (r ∷ remembered id key rs)) is
  remembered_at id (r ∷ rs) (suc n) lt is before =
      ap (λ b. cond b (grown id r ∷ rs) (r ∷ remembered id key rs)) (before 0 (omega arith))
      ∙ ap (λ l. r ∷ l) (remembered_at id rs n (omega arith) is
      (λ i k. before (suc i) (omega arith)))

-- the keys up to one and the one that was read there
pub one_more : (keys : List (List ℕ)) (k : ℕ) (x y : List ℕ) → y ≡ x → k < length keys
    → x ≡ get_or keys k x → take (k + 1) keys ≡ take k keys ++ y ∷ []
one_more keys k x y same lt is =
    take_more keys k [] lt
    ∙ ap (λ z. take k keys ++ z ∷ []) (sym (same ∙ get_or_read keys k x lt is []))
