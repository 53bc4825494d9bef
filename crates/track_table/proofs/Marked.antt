-- What is found of a key, as the rows and the marks change.
use Rattle.std.proofs.Common.{◌≡◌, ◌==◌, ℕ, List, [], ◌∷◌, Bool, true, false, cond, ◌&&◌, sym}
use Rattle.std.proofs.Common.{ap, ◌∙◌, refl, Option, Some, None, eq-eqb, subst}
use Rattle.std.specs.Global.{Vec}
use Rattle.std.specs.Str.{bytes_eq}
use Rattle.std.specs.Map.{lookup, set_value, KeepsOthers, IsKeyTest, AreApart}
use Rattle.std.specs.BTreeMap.{BTreeMap, UpdatesBy}
use Rattle.std.specs.Ordering.{nat_cmp, is_eq, eq_by_cmp}
use Rattle.std.specs.Cmp.{nat_cmp_is}
use Rattle.std.specs.Cmp.Lexicographic.{slice_cmp, texts_ties}
use Rattle.std.specs.declared.cmp.Ordering.{Ordering}
use Rattle.std.specs.declared.cmp.Ordering.TheVariants.{Greater}
use Rattle.std.proofs.lemmas.Bool.{eqb-true}
use Rattle.track_table.specs.declared.table.Held.{Held}
use Rattle.track_table.specs.Aged.{AllBelow, age_of}
use Rattle.track_table.specs.Marks.{IsGone, IsIn, IsOut, IsPut, age_at, is_age, is_hit, is_of}
use Rattle.track_table.specs.Marks.{is_there, mark_at, mark_of, or_now, other_at}
use Rattle.track_table.proofs.Aged.{Entries, at_age, here, some_same, tie}
use Rattle.track_table.proofs.Orders.{same_bytes}
use Rattle.track_table.proofs.Releases.{itself}

abbrev pub key_cmp : Vec ℕ → Vec ℕ → Ordering
key_cmp a b = slice_cmp nat_cmp a.items b.items

abbrev pub is_key : List ℕ → Vec ℕ → Bool
is_key q v = is_eq (slice_cmp nat_cmp q v.items)

key_test : (q : List ℕ) → IsKeyTest (eq_by_cmp key_cmp) (is_key q)
key_test q x y e =
    ap (λ z. is_eq (slice_cmp nat_cmp z y.items)) (same_bytes q x.items (texts_ties q x.items ∙ e))

keys_apart : (bs q : List ℕ) → bytes_eq q bs ≡ false → AreApart (is_key bs) (is_key q)
keys_apart bs q other k e =
    sym (texts_ties q k.items)
    ∙ ap (bytes_eq q) (sym (same_bytes bs k.items (texts_ties bs k.items ∙ e))) ∙ other

module _ (bs : List ℕ) (m n : BTreeMap (Vec ℕ) ℕ) (w : Option ℕ) where
  -- what a key has by its text after one was given an age, or lost it
  pub other_after : UpdatesBy key_cmp (λ v. slice_cmp nat_cmp bs v.items) m n w → (q : List ℕ)
      → other_at q n.entries ≡ cond (bytes_eq q bs) w (other_at q m.entries)
  unfolding KeepsOthers
  other_after after q = by (bytes_eq q bs) refl
    where
      by : (b : Bool) → bytes_eq q bs ≡ b
          → other_at q n.entries ≡ cond b w (other_at q m.entries)
      by true e = ap (λ z. other_at z n.entries) (same_bytes q bs e) ∙ after.1
      by false e = after.3 (is_key q) (key_test q) (keys_apart bs q e)

pub same_age : (a b : ℕ) → at_age a b ≡ true → a ≡ b
same_age a b e = let t : (b == a) ≡ true = sym (tie a b) ∙ e in sym (eqb-true b a t)

-- another key is not that of the row
another : (key q : List ℕ) (r : Held) → bytes_eq key r.key ≡ true → bytes_eq q key ≡ false
    → bytes_eq q r.key ≡ false
another key q r same other = ap (bytes_eq q) (sym (same_bytes key r.key same)) ∙ other

-- ---- a row that goes

module _ (key : List ℕ) (a : ℕ) (r : Held) (es es2 : Entries) (marks marks2 : List (ℕ × ℕ))
    (others others2 : List (Vec ℕ × ℕ)) (there : lookup (at_age a) es ≡ Some r)
    (same : bytes_eq key r.key ≡ true) (found : age_at key es marks others ≡ Some a)
    (out : IsOut a es es2) (gone : IsGone key a marks marks2 others others2) where
  -- the age at the mark is that of the key where it is the one that goes
  hit_is : is_hit key es (mark_at (mark_of key) marks) ≡ is_age (mark_at (mark_of key) marks) a
  hit_is = by (mark_at (mark_of key) marks) found
    where
      by : (m : Option ℕ) → cond (is_hit key es m) m (other_at key others) ≡ Some a
          → is_hit key es m ≡ is_age m a
      by None f = refl
      by (Some b) f = at (is_hit key es (Some b)) refl f
        where
          at : (h : Bool) → is_hit key es (Some b) ≡ h
              → cond h (Some b) (other_at key others) ≡ Some a → h ≡ (b == a)
          at true e g = sym (eq-eqb b a (some_same b a g))
          at false e g = sym (not_eq (b == a) refl)
            where
              not_eq : (t : Bool) → (b == a) ≡ t → t ≡ false
              not_eq false f = refl
              not_eq true f =
                  sym (ap (is_of key) (ap (λ n. lookup (at_age n) es) (eqb-true b a f) ∙ there)
                  ∙ same) ∙ e

  out_other : (q : List ℕ) → bytes_eq q key ≡ false → (m : Option ℕ)
      → is_hit q es2 m ≡ is_hit q es m
  out_other q other None = refl
  out_other q other (Some b) = ap (is_of q) (out b) ∙ by (at_age a b) refl
    where
      by : (t : Bool) → at_age a b ≡ t
          → is_of q (cond t None (lookup (at_age b) es)) ≡ is_of q (lookup (at_age b) es)
      by true e =
          sym (ap (is_of q) (ap (λ n. lookup (at_age n) es) (sym (same_age a b e)) ∙ there)
          ∙ another key q r same other)
      by false e = refl

  out_own : (m : Option ℕ) → is_hit key es m ≡ false → is_hit key es2 m ≡ false
  out_own None f = refl
  out_own (Some b) f = ap (is_of key) (out b) ∙ by (at_age a b)
    where
      by : (t : Bool) → is_of key (cond t None (lookup (at_age b) es)) ≡ false
      by true = refl
      by false = f

  hit_once : (q : List ℕ) → bytes_eq q key ≡ false → (m : Option ℕ) → is_hit key es m ≡ true
      → is_hit q es m ≡ false
  hit_once q other None h = absurd (let no : ⊥ = cc in no)
  hit_once q other (Some b) h = by (lookup (at_age b) es) h
    where
      by : (o : Option Held) → is_of key o ≡ true → is_of q o ≡ false
      by None f = absurd (let no : ⊥ = cc in no)
      by (Some x) f = another key q x f other

  abbrev pick : List ℕ → Entries → Option ℕ → Option ℕ → Option ℕ
  pick q l m o = cond (is_hit q l m) m o

  own_gone : age_at key es2 marks2 others2 ≡ None
  own_gone =
      (λ i. pick key es2 ((gone.by_mark (mark_of key)
      ∙ ap (λ b. cond (b && is_age m a) None m) (here (mark_of key))
      ∙ ap (λ b. cond b None m) (sym hit_is)) i)
      ((gone.by_text key ∙ ap (λ b. cond b None (other_at key others)) (itself key)) i))
      ∙ by (is_hit key es m) refl
    where
      m : Option ℕ
      m = mark_at (mark_of key) marks

      by : (h : Bool) → is_hit key es m ≡ h → pick key es2 (cond h None m) None ≡ None
      by true e = refl
      by false e = ap (λ b. cond b m None) (out_own m e)

  other_gone : (q : List ℕ) → bytes_eq q key ≡ false
      → age_at q es2 marks2 others2 ≡ age_at q es marks others
  other_gone q other =
      (λ i. pick q es2 (gone.by_mark (mark_of q) i)
      ((gone.by_text q ∙ ap (λ b. cond b None (other_at q others)) other) i))
      ∙ by (at_age (mark_of key) (mark_of q)) refl
    where
      m : Option ℕ
      m = mark_at (mark_of q) marks

      stays : pick q es2 m (other_at q others) ≡ pick q es m (other_at q others)
      stays = ap (λ b. cond b m (other_at q others)) (out_other q other m)

      at : (h : Bool) → is_hit key es m ≡ h
          → pick q es2 (cond h None m) (other_at q others) ≡ pick q es m (other_at q others)
      at true e = sym (ap (λ b. cond b m (other_at q others)) (hit_once q other m e))
      at false e = stays

      by : (t : Bool) → at_age (mark_of key) (mark_of q) ≡ t
          → pick q es2 (cond (t && is_age m a) None m) (other_at q others)
          ≡ pick q es m (other_at q others)
      by true e =
          ap (λ b. pick q es2 (cond b None m) (other_at q others))
          (sym (subst (λ n. is_hit key es (mark_at n marks) ≡ is_age (mark_at n marks) a)
          (same_age (mark_of key) (mark_of q) e) hit_is))
          ∙ at (is_hit key es m) refl
      by false e = stays

  pub found_gone : (q : List ℕ) → age_at q es2 marks2 others2
      ≡ cond (bytes_eq q key) None (age_at q es marks others)
  found_gone q = by (bytes_eq q key) refl
    where
      by : (b : Bool) → bytes_eq q key ≡ b
          → age_at q es2 marks2 others2 ≡ cond b None (age_at q es marks others)
      by true e = ap (λ k. age_at k es2 marks2 others2) (same_bytes q key e) ∙ own_gone
      by false e = other_gone q e

-- ---- a row that comes last

pub below_none : (a : ℕ) (es : Entries) → AllBelow a es → lookup (at_age a) es ≡ None
below_none a [] below = refl
below_none a (e ∷ es) below =
    ap (λ b. cond b (Some e.1) (lookup (at_age a) es))
    (ap is_eq (sym (nat_cmp_is a e.0 Greater below.0)))
    ∙ below_none a es below.1

absent_of : (key : List ℕ) (b : ℕ) (es : Entries) → age_of key es ≡ None
    → is_of key (lookup (at_age b) es) ≡ false
absent_of key b [] none = refl
absent_of key b (e ∷ es) none = by (bytes_eq key e.1.key) refl none (absent_of key b es)
  where
    by : (t : Bool) → bytes_eq key e.1.key ≡ t → cond t (Some e.0) (age_of key es) ≡ None
        → (age_of key es ≡ None → is_of key (lookup (at_age b) es) ≡ false)
        → is_of key (cond (at_age b e.0) (Some e.1) (lookup (at_age b) es)) ≡ false
    by true s f rest = absurd (let no : ⊥ = cc in no)
    by false s f rest = at (at_age b e.0)
      where
        at : (t : Bool) → is_of key (cond t (Some e.1) (lookup (at_age b) es)) ≡ false
        at true = s
        at false = rest f

module _ (key : List ℕ) (a : ℕ) (row : Held) (es es2 : Entries) (marks marks2 : List (ℕ × ℕ))
    (others others2 : List (Vec ℕ × ℕ)) (below : AllBelow a es)
    (same : bytes_eq key row.key ≡ true) (none : age_of key es ≡ None) (more : IsIn a row es es2)
    (put : IsPut key a marks marks2 others others2) where
  more_other : (q : List ℕ) → bytes_eq q key ≡ false → (m : Option ℕ)
      → is_hit q es2 m ≡ is_hit q es m
  more_other q other None = refl
  more_other q other (Some b) = ap (is_of q) (more b) ∙ by (at_age a b) refl
    where
      by : (t : Bool) → at_age a b ≡ t
          → is_of q (cond t (Some row) (lookup (at_age b) es)) ≡ is_of q (lookup (at_age b) es)
      by true e =
          another key q row same other
          ∙ sym (ap (is_of q)
          (ap (λ n. lookup (at_age n) es) (sym (same_age a b e)) ∙ below_none a es below))
      by false e = refl

  row_there : lookup (at_age a) es2 ≡ Some row
  row_there = more a ∙ ap (λ b. cond b (Some row) (lookup (at_age a) es)) (here a)

  abbrev choose : List ℕ → Entries → Option ℕ → Option ℕ → Option ℕ
  choose q l m o = cond (is_hit q l m) m o

  own_put : age_at key es2 marks2 others2 ≡ Some a
  own_put =
      (λ i. choose key es2 ((put.by_mark (mark_of key)
      ∙ ap (λ b. cond b (or_now m a) m) (here (mark_of key))) i)
      ((put.by_text key ∙ ap (λ b. cond (b && is_there m) (Some a) o) (itself key)) i))
      ∙ by m
    where
      m : Option ℕ
      m = mark_at (mark_of key) marks

      o : Option ℕ
      o = other_at key others

      by : (x : Option ℕ) → choose key es2 (or_now x a) (cond (is_there x) (Some a) o) ≡ Some a
      by None = ap (λ b. cond b (Some a) o) (ap (is_of key) row_there ∙ same)
      by (Some b) = at (at_age a b) refl
        where
          at : (t : Bool) → at_age a b ≡ t
              → cond (is_hit key es2 (Some b)) (Some b) (Some a) ≡ Some a
          at true e =
              ap (λ n. cond (is_hit key es2 (Some b)) (Some n) (Some a)) (sym (same_age a b e))
              ∙ both (is_hit key es2 (Some b))
            where
              both : (h : Bool) → cond h (Some a) (Some a) ≡ Some a
              both true = refl
              both false = refl
          at false e =
              ap (λ h. cond h (Some b) (Some a)) (ap (is_of key) (more b
              ∙ ap (λ t. cond t (Some row) (lookup (at_age b) es)) e) ∙ absent_of key b es none)

  other_put : (q : List ℕ) → bytes_eq q key ≡ false
      → age_at q es2 marks2 others2 ≡ age_at q es marks others
  other_put q other =
      (λ i. choose q es2 (put.by_mark (mark_of q) i) ((put.by_text q
      ∙ ap (λ b. cond (b && is_there (mark_at (mark_of key) marks)) (Some a) o) other) i))
      ∙ by (at_age (mark_of key) (mark_of q)) (mark_at (mark_of q) marks)
    where
      o : Option ℕ
      o = other_at q others

      stays : (m : Option ℕ) → choose q es2 m o ≡ choose q es m o
      stays m = ap (λ b. cond b m o) (more_other q other m)

      by : (t : Bool) (m : Option ℕ) → choose q es2 (cond t (or_now m a) m) o ≡ choose q es m o
      by true None = ap (λ b. cond b (Some a) o) (ap (is_of q) row_there
          ∙ another key q row same other)
      by true (Some b) = stays (Some b)
      by false m = stays m

  pub found_put : (q : List ℕ) → age_at q es2 marks2 others2
      ≡ cond (bytes_eq q key) (Some a) (age_at q es marks others)
  found_put q = by (bytes_eq q key) refl
    where
      by : (b : Bool) → bytes_eq q key ≡ b
          → age_at q es2 marks2 others2 ≡ cond b (Some a) (age_at q es marks others)
      by true e = ap (λ k. age_at k es2 marks2 others2) (same_bytes q key e) ∙ own_put
      by false e = other_put q e

-- ---- a row that is changed in its place

module _ (q : List ℕ) (a : ℕ) (r w : Held) (same : w.key ≡ r.key) where
  of_set : (b : ℕ) (es : Entries) → lookup (at_age a) es ≡ Some r
      → is_of q (lookup (at_age b) (set_value (at_age a) es w)) ≡ is_of q (lookup (at_age b) es)
  of_set b [] there = refl
  of_set b (e ∷ es) there = by (at_age a e.0) there (of_set b es)
    where
      by : (t : Bool) → cond t (Some e.1) (lookup (at_age a) es) ≡ Some r
          → (lookup (at_age a) es ≡ Some r
          → is_of q (lookup (at_age b) (set_value (at_age a) es w)) ≡ is_of q (lookup (at_age b)
          es))
          → is_of q (lookup (at_age b) (cond t ((e.0, w) ∷ es) (e ∷ set_value (at_age a) es w)))
          ≡ is_of q (lookup (at_age b) (e ∷ es))
      by true f rest = at (at_age b e.0)
        where
          at : (t : Bool) → is_of q (cond t (Some w) (lookup (at_age b) es))
              ≡ is_of q (cond t (Some e.1) (lookup (at_age b) es))
          at true = ap (bytes_eq q) same ∙ sym (ap (is_of q) f)
          at false = refl
      by false f rest = at (at_age b e.0)
        where
          at : (t : Bool) → is_of q (cond t (Some e.1)
              (lookup (at_age b) (set_value (at_age a) es w)))
              ≡ is_of q (cond t (Some e.1) (lookup (at_age b) es))
          at true = refl
          at false = rest f

  pub found_set : (es : Entries) (marks : List (ℕ × ℕ)) (others : List (Vec ℕ × ℕ))
      → lookup (at_age a) es ≡ Some r
      → age_at q (set_value (at_age a) es w) marks others ≡ age_at q es marks others
  found_set es marks others there =
      ap (λ b. cond b (mark_at (mark_of q) marks) (other_at q others))
      (hit (mark_at (mark_of q) marks))
    where
      hit : (m : Option ℕ) → is_hit q (set_value (at_age a) es w) m ≡ is_hit q es m
      hit None = refl
      hit (Some b) = of_set b es there

pub set_else : (a b : ℕ) (w : Held) (es : Entries) → at_age a b ≡ false
    → lookup (at_age b) (set_value (at_age a) es w) ≡ lookup (at_age b) es
set_else a b w [] other = refl
set_else a b w (e ∷ es) other = by (at_age a e.0) refl (set_else a b w es other)
  where
    by : (t : Bool) → at_age a e.0 ≡ t
        → lookup (at_age b) (set_value (at_age a) es w) ≡ lookup (at_age b) es
        → lookup (at_age b) (cond t ((e.0, w) ∷ es) (e ∷ set_value (at_age a) es w))
        ≡ lookup (at_age b) (e ∷ es)
    by true f rest =
        let n = not_here f in
        ap (λ t. cond t (Some w) (lookup (at_age b) es)) n
        ∙ sym (ap (λ t. cond t (Some e.1) (lookup (at_age b) es)) n)
      where
        not_here : at_age a e.0 ≡ true → at_age b e.0 ≡ false
        not_here g = tie b e.0 ∙ ap (λ n. n == b) (sym (same_age a e.0 g))
            ∙ differ (a == b) refl
          where
            differ : (t : Bool) → (a == b) ≡ t → t ≡ false
            differ false h = refl
            differ true h =
                sym (ap (at_age a) (sym (eqb-true a b h)) ∙ here a) ∙ other
    by false f rest = ap (λ o. cond (at_age b e.0) (Some e.1) o) rest

-- ---- the marks, as a key has an age or none

-- what is so at a mark, and elsewhere, is so
at_mark : (P : ℕ → Bool → Type 0) (mark m : ℕ) → P mark true
    → (at_age mark m ≡ false → P m false) → P m (at_age mark m)
at_mark P mark m own other = by (at_age mark m) refl
  where
    by : (t : Bool) → at_age mark m ≡ t → P m t
    by true e = subst (λ n. P n true) (same_age mark m e) own
    by false e = other e

module _ (mark age : ℕ) (old new : List (ℕ × ℕ)) where
  pub mark_dropped : is_age (mark_at mark old) age ≡ true
      → ((m : ℕ) → mark_at m new ≡ cond (at_age mark m) None (mark_at m old)) → (m : ℕ)
      → mark_at m new
      ≡ cond (at_age mark m && is_age (mark_at m old) age) None (mark_at m old)
  mark_dropped own out m =
      out m
      ∙ at_mark (λ n t. cond t None (mark_at n old)
      ≡ cond (t && is_age (mark_at n old) age) None (mark_at n old)) mark m
      (sym (ap (λ b. cond b None (mark_at mark old)) own)) (λ e. refl)

  pub mark_kept : is_age (mark_at mark old) age ≡ false → (m : ℕ)
      → mark_at m old ≡ cond (at_age mark m && is_age (mark_at m old) age) None (mark_at m old)
  mark_kept own m =
      at_mark (λ n t. mark_at n old
      ≡ cond (t && is_age (mark_at n old) age) None (mark_at n old)) mark m
      (sym (ap (λ b. cond b None (mark_at mark old)) own)) (λ e. refl)

module _ (key : List ℕ) (age : ℕ) (marks : List (ℕ × ℕ)) (others : List (Vec ℕ × ℕ)) where
  -- a key whose mark another has
  pub put_text : (others2 : List (Vec ℕ × ℕ)) (had : ℕ)
      → Some had ≡ mark_at (mark_of key) marks
      → ((q : List ℕ) → other_at q others2 ≡ cond (bytes_eq q key) (Some age) (other_at q others))
      → IsPut key age marks marks others others2
  put_text others2 had at put = record {
    by_mark = λ m.
        at_mark (λ n t. mark_at n marks ≡ cond t (or_now (mark_at n marks) age) (mark_at n marks))
        (mark_of key) m (sym at ∙ ap (λ o. or_now o age) at) (λ e. refl);
    by_text = λ q.
        put q ∙ both q (bytes_eq q key)
        ∙ ap (λ o. cond (bytes_eq q key && is_there o) (Some age) (other_at q others)) at;
  }
    where
      both : (q : List ℕ) (b : Bool) → cond b (Some age) (other_at q others)
          ≡ cond (b && true) (Some age) (other_at q others)
      both q true = refl
      both q false = refl

  pub put_mark : (marks2 : List (ℕ × ℕ)) → None ≡ mark_at (mark_of key) marks
      → ((m : ℕ) → mark_at m marks2 ≡ cond (at_age (mark_of key) m) (Some age) (mark_at m marks))
      → IsPut key age marks marks2 others others
  put_mark marks2 at put = record {
    by_mark = λ m.
        put m
        ∙ at_mark (λ n t. cond t (Some age) (mark_at n marks)
        ≡ cond t (or_now (mark_at n marks) age) (mark_at n marks)) (mark_of key) m
        (ap (λ o. or_now o age) at) (λ e. refl);
    by_text = λ q.
        neither q (bytes_eq q key)
        ∙ ap (λ o. cond (bytes_eq q key && is_there o) (Some age) (other_at q others)) at;
  }
    where
      neither : (q : List ℕ) (b : Bool) → other_at q others
          ≡ cond (b && false) (Some age) (other_at q others)
      neither q true = refl
      neither q false = refl
