-- Rows of the commands on hashes, from what a change of the fields under a key gave.
use Rattle.std.proofs.Common.{arith, ◌≡◌, ℕ, ◌+◌, ◌-◌, Bool, true, false, cond, List, [], ◌∷◌, ◌++◌}
use Rattle.std.proofs.Common.{Option, Some, None, Result, Ok, Err, OnErr, OnOk, refl, ap, sym, ◌∙◌}
use Rattle.std.proofs.Common.{ℤ, length, map, take, slice_get, subst, zero, suc, add-one}
use Rattle.std.specs.Option.{option_map}
use Rattle.std.specs.Ordering.{nat_cmp, eq_by_cmp}
use Rattle.std.specs.Cmp.Lexicographic.{slice_cmp, nat_list_cmp_total, texts_ties}
use Rattle.std.specs.FinMap.{get, insert, remove, get-insert, get-remove, same_map}
use Rattle.std.specs.FinMap.{slice_cmp-IsAntisymmetric, nat_cmp-IsAntisymmetric}
use Rattle.std.proofs.lemmas.Slice.Eq.{bytes_eq-Decides}
use Rattle.resp_value.specs.declared.value.Value.{Value}
use Rattle.command_words.specs.Space.{Content, Held, Text, Fields, Space, content_at, deadline_at}
use Rattle.command_words.specs.Effect.{sum_in}
use Rattle.command_words.specs.Hashes.{Pairs, field_set, on_fields, put_fields, remove_all}
use Rattle.command_rows.specs.declared.integers.Addition.TheVariants.{Sum}
use Rattle.command_rows.specs.Additions.{IsAddition}
use Rattle.keyspace.specs.Lending.{with_content}
use Rattle.keyspace.proofs.Changes.{with_content-insert}
use Rattle.hash_cmds.specs.Changed.{is_empty_hash, HasFields, with_hash}
use Rattle.hash_cmds.specs.Changed.{Becomes, FieldsBecome, HashBecomes}

pub on_ok : {A E P Q : Type 0} → (P → Q) → (r : Result A E) → OnOk r P → OnOk r Q
on_ok f (Ok a) p = f p
on_ok f (Err e) p = p

pub on_err : {A E P Q : Type 0} → (P → Q) → (r : Result A E) → OnErr r P → OnErr r Q
on_err f (Ok a) p = p
on_err f (Err e) p = f p

-- the row of a content that has these fields
pub row_of : {A : Type 0} (wrong : A) (row : Pairs → A) (content : Option Content) (fs : Pairs)
    → HasFields content fs → on_fields wrong row content ≡ row fs
row_of wrong row None fs has = ap row (sym has)
row_of wrong row (Some (Text value)) fs has = absurd has
row_of wrong row (Some (Fields gs)) fs has = ap row (sym has)

pub sum_of : (none : Value) (value : Option ℤ) (n sum : ℤ) → IsAddition value n (Sum sum)
    → sum_in none value n ≡ Ok sum
sum_of none value n sum is = grind arith

remove_all-none : (names : List (List ℕ)) → remove_all names [] ≡ []
remove_all-none [] = refl
remove_all-none (name ∷ names) = remove_all-none names

-- a key that is missing loses no field
none_lost : (names : List (List ℕ)) (fs : Pairs) → fs ≡ []
    → ◌≡◌ {A = ℕ} 0 (length fs - length (remove_all names fs))
    × (◌≡◌ {A = ℕ} 0 0 → remove_all names fs ≡ fs)
none_lost names [] e =
    (ap (λ r. 0 - length r) (sym (remove_all-none names)), λ zero. remove_all-none names)
none_lost names (f ∷ fs) e = absurd cc

pub none_lost_by : (names : List (List ℕ)) (fs : Pairs) (n : ℕ) → n ≡ 0 → fs ≡ []
    → (n ≡ length fs - length (remove_all names fs)) × (n ≡ 0 → remove_all names fs ≡ fs)
none_lost_by names fs n none_went is =
    let none = none_lost names fs is in (none_went ∙ none.0, λ _. none.1 refl)

module _ (key : List ℕ) where
  its_own : eq_by_cmp (slice_cmp nat_cmp) key key ≡ true
  its_own = sym (texts_ties key key) ∙ (bytes_eq-Decides key key).1 refl

  content-with_hash : (fs : Pairs) (space : Space)
      → content_at key (with_hash key fs space) ≡ Some (Fields fs)
  content-with_hash fs space =
      let held : Held = record { content = Fields fs; deadline = deadline_at key space } in
      ap (option_map (λ h. h.content)) (get-insert nat_list_cmp_total space key held key
      ∙ ap (λ b. cond b (Some held) (get space key)) its_own)

  remove-insert : (space : Space) (held : Held)
      → remove (insert space key held) key ≡ remove space key
  remove-insert space held =
      same_map nat_list_cmp_total (slice_cmp-IsAntisymmetric nat_cmp-IsAntisymmetric) _ _
      (λ q. get-remove nat_list_cmp_total (insert space key held) key q
      ∙ (ap (cond (eq_by_cmp (slice_cmp nat_cmp) q key) None)
      (get-insert nat_list_cmp_total space key held q)
      ∙ (once (eq_by_cmp (slice_cmp nat_cmp) q key) (get space q)
      ∙ sym (get-remove nat_list_cmp_total space key q))))
    where
      once : (b : Bool) (r : Option Held) → cond b None (cond b (Some held) r) ≡ cond b None r
      once true r = refl
      once false r = refl

  -- a hash without fields goes
  pub dropped : (fs : Pairs) (space now : Space) → now ≡ with_hash key fs space
      → is_empty_hash (content_at key now) ≡ true → remove now key ≡ put_fields key fs space
  dropped [] space now is e = ap (λ s. remove s key) is ∙ remove-insert space _
  dropped (f ∷ fs) space now is e = grind (arith, content-with_hash)

  -- and another one stays
  pub stays : (fs : Pairs) (space now : Space) → now ≡ with_hash key fs space
      → is_empty_hash (content_at key now) ≡ false → now ≡ put_fields key fs space
  stays [] space now is e = grind (arith, content-with_hash)
  stays (f ∷ fs) space now is e = is

  -- a hash in which a field was set has one
  pub put-field_set : (field value : List ℕ) (fs : Pairs) (space : Space)
      → with_hash key (field_set field value fs) space
      ≡ put_fields key (field_set field value fs) space
  put-field_set field value [] space = refl
  put-field_set field value (f ∷ fs) space = grind arith

  module _ (change : Pairs → Pairs) (space : Space) where
    pub changed_there : (old new : Content) → Some old ≡ content_at key space
        → Becomes change old new → FieldsBecome key change space (with_content key new space)
    changed_there old new is becomes fs at = grind (arith, with_content-insert)

    -- a hash that is there and takes a change is the hash of its key after it
    pub hash_there : (had : Content) (now : Space) → Some had ≡ content_at key space
        → FieldsBecome key change space now → HashBecomes key change space now
    hash_there had now at becomes fs has = by had at (subst (λ c. HasFields c fs) (sym at) has)
      where
        by : (had : Content) → Some had ≡ content_at key space → HasFields (Some had) fs
            → now ≡ with_hash key (change fs) space
        by (Text value) at has = absurd has
        by (Fields gs) at has = becomes fs (sym at ∙ ap (λ x. Some (Fields x)) (sym has))

next : {A B : Type 0} (f : A → B) (xs : List A) (i : ℕ) (x : A) → slice_get xs i ≡ Some x
    → map f (take i xs) ++ f x ∷ [] ≡ map f (take (suc i) xs)
next f [] i x e = absurd cc
next f (y ∷ ys) zero x e = grind arith
next f (y ∷ ys) (suc i) x e = ap (λ r. f y ∷ r) (next f ys i x e)

-- a list of the first elements, each by a function, takes one more
pub pushed : {A B : Type 0} (f : A → B) (xs : List A) (i : ℕ) (x : A) (old new : List B) (y : B)
    → new ≡ old ++ y ∷ [] → y ≡ f x → old ≡ map f (take i xs) → slice_get xs i ≡ Some x
    → new ≡ map f (take (i + 1) xs)
pushed f xs i x old new y is same so_far at = grind (arith, next, add-one)
