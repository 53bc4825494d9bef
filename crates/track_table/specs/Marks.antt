-- The ages of keys by their marks, and of the keys whose marks other keys had first by their text.
use Rattle.std.specs.Prelude.{◌≡◌, ℕ, Bool, true, false, List, Option, Some, None}
use Rattle.std.specs.Prelude.{◌==◌, ◌&&◌, if◌then◌else◌}
use Rattle.std.specs.Hash.DefaultHasher as sip
use Rattle.std.specs.Global.{Vec}
use Rattle.std.specs.Str.{bytes_eq}
use Rattle.std.specs.Ordering.{nat_cmp}
use Rattle.std.specs.Cmp.Lexicographic.{slice_cmp}
use Rattle.std.specs.Map.{lookup}
use Rattle.std.specs.BTreeMap.{is_at}
use Rattle.track_table.specs.declared.table.Held.{Held}

unfoldable pub mark_of : List ℕ → ℕ
mark_of key = sip.finish (sip.write sip.initial key)

abbrev pub mark_at : ℕ → List (ℕ × ℕ) → Option ℕ
mark_at mark marks = lookup (is_at (nat_cmp mark)) marks

abbrev pub other_at : List ℕ → List (Vec ℕ × ℕ) → Option ℕ
other_at key others = lookup (is_at (λ v. slice_cmp nat_cmp key v.items)) others

abbrev pub is_of : List ℕ → Option Held → Bool
is_of key None = false
is_of key (Some r) = bytes_eq key r.key

-- whether the row of this age is that of the key
abbrev pub is_hit : List ℕ → List (ℕ × Held) → Option ℕ → Bool
is_hit key es None = false
is_hit key es (Some age) = is_of key (lookup (is_at (nat_cmp age)) es)

-- what is found of a key
abbrev pub age_at : List ℕ → List (ℕ × Held) → List (ℕ × ℕ) → List (Vec ℕ × ℕ) → Option ℕ
age_at key es marks others =
    if is_hit key es (mark_at (mark_of key) marks) then mark_at (mark_of key) marks
    else other_at key others

abbrev pub is_there : Option ℕ → Bool
is_there None = false
is_there (Some age) = true

abbrev pub or_now : Option ℕ → ℕ → Option ℕ
or_now None now = Some now
or_now (Some age) now = Some age

-- a key has this age: by its mark, or where that is another's by its text
pub record IsPut (key : List ℕ) (age : ℕ) (marks marks2 : List (ℕ × ℕ))
    (others others2 : List (Vec ℕ × ℕ)) : Type 0 where
  pub by_mark : (m : ℕ) → mark_at m marks2
      ≡ (if is_at (nat_cmp (mark_of key)) m then or_now (mark_at m marks) age
      else mark_at m marks)
  pub by_text : (q : List ℕ) → other_at q others2
      ≡ (if bytes_eq q key && is_there (mark_at (mark_of key) marks) then Some age
      else other_at q others)

abbrev pub is_age : Option ℕ → ℕ → Bool
is_age None age = false
is_age (Some other) age = other == age

-- a key, which had this age, has none
pub record IsGone (key : List ℕ) (age : ℕ) (marks marks2 : List (ℕ × ℕ))
    (others others2 : List (Vec ℕ × ℕ)) : Type 0 where
  pub by_mark : (m : ℕ) → mark_at m marks2
      ≡ (if is_at (nat_cmp (mark_of key)) m && is_age (mark_at m marks) age then None
      else mark_at m marks)
  pub by_text : (q : List ℕ) → other_at q others2
      ≡ (if bytes_eq q key then None else other_at q others)

-- the row of this age went
abbrev pub IsOut : ℕ → List (ℕ × Held) → List (ℕ × Held) → Type 0
IsOut age old new =
    (b : ℕ) → lookup (is_at (nat_cmp b)) new
    ≡ (if is_at (nat_cmp age) b then None else lookup (is_at (nat_cmp b)) old)

-- a row of this age came
abbrev pub IsIn : ℕ → Held → List (ℕ × Held) → List (ℕ × Held) → Type 0
IsIn age row old new =
    (b : ℕ) → lookup (is_at (nat_cmp b)) new
    ≡ (if is_at (nat_cmp age) b then Some row else lookup (is_at (nat_cmp b)) old)
