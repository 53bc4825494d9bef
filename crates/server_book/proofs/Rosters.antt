-- What is seen of a roster, after a change of what is kept.
use Rattle.std.proofs.Common.{◌≡◌, ◌∙◌, ◌<◌, ◌≤◌, ◌+◌, ◌*◌, ◌^◌, ◌⊎◌, ℕ, List, [], ◌∷◌, ◌++◌, Bool}
use Rattle.std.proofs.Common.{true, false, cond, length, ap, refl, arith, sym, subst, nat_eq}
use Rattle.std.proofs.Common.{slice_index_or, slice_set, Some, None, inl, inr}
use Prim.Native.Nat.{zero, suc}
use Rattle.std.specs.List.{remove}
use Rattle.std.proofs.lemmas.Bool.{cases_eq, cases_lt, cases_order, eq-eqb, ne_eqb}
use Rattle.std.proofs.lemmas.List.{ext_get_or, get_or-set_other, get_or-set_same, length-set}
use Rattle.std.proofs.lemmas.List.{length_push, get_or_append_left, get_or_push, get_or_read}
use Rattle.std.proofs.lemmas.List.{get_or_default, set-get_or}
use Rattle.std.proofs.lemmas.List.Edits.{get_or-remove_above, get_or-remove_below, length-remove}
use Rattle.server_book.specs.Places.{Connection, fresh, gone, has_quit, shut}
use Rattle.serial_model.specs.State.{closed}
use Rattle.serial_model.specs.declared.standing.Standing.TheVariants.{Gone, Live, Quit, QuitClosed}
use Rattle.server_book.specs.Roster.{AreKept, IsAmong, IsRoster, Rise, bit_in, kept_at, listed}
use Rattle.server_book.specs.Roster.{seen}

-- lists of what is seen
pub listed_length : (see : ℕ → Connection) (from count : ℕ)
    → length (listed see from count) ≡ count
listed_length see from zero = refl
listed_length see from (suc count) = ap suc (listed_length see (suc from) count)

pub listed_at : (see : ℕ → Connection) (from count k : ℕ) → k < count
    → slice_index_or (listed see from count) k fresh ≡ see (from + k)
listed_at see from zero k lt = absurd (let no : ⊥ = omega arith in no)
listed_at see from (suc count) zero lt = ap see (omega arith)
listed_at see from (suc count) (suc k) lt =
    listed_at see (suc from) count k (omega arith) ∙ ap see (omega arith)

first_at : (see : ℕ → Connection) (count k : ℕ) → k < count
    → slice_index_or (listed see 0 count) k fresh ≡ see k
first_at see count k lt = listed_at see 0 count k lt ∙ ap see (omega arith)

pub listed_same : (f g : ℕ → Connection) (count : ℕ) → ((k : ℕ) → k < count → f k ≡ g k)
    → listed f 0 count ≡ listed g 0 count
listed_same f g count same =
    ext_get_or fresh (listed f 0 count) (listed g 0 count)
    (listed_length f 0 count ∙ sym (listed_length g 0 count))
    (λ i lt. let below : i < count = omega (arith, listed_length f 0 count) in
    first_at f count i below ∙ same i below ∙ sym (first_at g count i below))

-- one place changed
pub listed_set : (f g : ℕ → Connection) (count at : ℕ) (c : Connection) → at < count
    → g at ≡ c → ((k : ℕ) → (k ≡ at → ⊥) → g k ≡ f k)
    → listed g 0 count ≡ slice_set (listed f 0 count) at c
listed_set f g count at c lt here else =
    ext_get_or fresh (listed g 0 count) (slice_set (listed f 0 count) at c)
    (listed_length g 0 count ∙ sym (length-set (listed f 0 count) at c ∙ listed_length f 0 count))
    (λ i lt'. let below : i < count = omega (arith, listed_length g 0 count) in
    first_at g count i below
    ∙ elim (cases_eq i at) [
      | inl e ↦
          ap g e ∙ here
          ∙ sym (get_or-set_same (listed f 0 count) at c fresh
          (omega (arith, listed_length f 0 count)))
          ∙ ap (λ k. slice_index_or (slice_set (listed f 0 count) at c) k fresh) (sym e)
      | inr n ↦
          else i n ∙ sym (first_at f count i below)
          ∙ sym (get_or-set_other (listed f 0 count) at i c fresh n)
    ])

-- one more
pub listed_more : (f g : ℕ → Connection) (count : ℕ) (c : Connection)
    → g count ≡ c → ((k : ℕ) → k < count → g k ≡ f k)
    → listed g 0 (count + 1) ≡ listed f 0 count ++ c ∷ []
listed_more f g count c here else =
    ext_get_or fresh (listed g 0 (count + 1)) (listed f 0 count ++ c ∷ [])
    (listed_length g 0 (count + 1)
    ∙ sym (length_push (listed f 0 count) c ∙ ap (λ n. n + 1) (listed_length f 0 count)))
    (λ i lt. let below : i < count + 1 = omega (arith, listed_length g 0 (count + 1)) in
    first_at g (count + 1) i below
    ∙ elim (cases_eq i count) [
      | inl e ↦
          ap g e ∙ here
          ∙ sym (get_or_push (listed f 0 count) c fresh i (listed_length f 0 count ∙ sym e))
      | inr n ↦
          let low : i < count = omega (arith, n) in
          else i low ∙ sym (first_at f count i low)
          ∙ sym (get_or_append_left (listed f 0 count) (c ∷ []) fresh i
          (omega (arith, listed_length f 0 count)))
    ])

-- what is kept for a place
head_at : (p : ℕ) (ps : List ℕ) (c : Connection) (cs : List Connection) (place : ℕ)
    (d : Connection) → p ≡ place → kept_at (p ∷ ps) (c ∷ cs) place d ≡ c
head_at p ps c cs place d e = ap (λ b. cond b c (kept_at ps cs place d)) (eq-eqb p place e)

tail_at : (p : ℕ) (ps : List ℕ) (c : Connection) (cs : List Connection) (place : ℕ)
    (d : Connection) → (p ≡ place → ⊥)
    → kept_at (p ∷ ps) (c ∷ cs) place d ≡ kept_at ps cs place d
tail_at p ps c cs place d n = ap (λ b. cond b c (kept_at ps cs place d)) (ne_eqb p place n)

pub kept_none : (ps : List ℕ) (cs : List Connection) (place : ℕ) (d : Connection)
    → ((k : ℕ) → k < length ps → slice_index_or ps k 0 ≡ place → ⊥)
    → kept_at ps cs place d ≡ d
kept_none [] cs place d none = refl
kept_none (p ∷ ps) [] place d none = refl
kept_none (p ∷ ps) (c ∷ cs) place d none =
    tail_at p ps c cs place d (none 0 (omega arith))
    ∙ kept_none ps cs place d (λ k lt. none (suc k) (omega arith))

-- the first of these
pub kept_here : (ps : List ℕ) (cs : List Connection) (at place : ℕ) (d : Connection)
    → at < length ps → at < length cs
    → ((k : ℕ) → k < at → slice_index_or ps k 0 ≡ place → ⊥) → slice_index_or ps at 0 ≡ place
    → kept_at ps cs place d ≡ slice_index_or cs at fresh
kept_here [] cs at place d lt lt' none is = absurd (let no : ⊥ = omega arith in no)
kept_here (p ∷ ps) [] at place d lt lt' none is = absurd (let no : ⊥ = omega arith in no)
kept_here (p ∷ ps) (c ∷ cs) zero place d lt lt' none is = head_at p ps c cs place d is
kept_here (p ∷ ps) (c ∷ cs) (suc at) place d lt lt' none is =
    tail_at p ps c cs place d (none 0 (omega arith))
    ∙ kept_here ps cs at place d (omega arith) (omega arith)
    (λ k low. none (suc k) (omega arith)) is

pub kept_set : (ps : List ℕ) (cs : List Connection) (at place : ℕ) (c d : Connection)
    → at < length ps → (place ≡ slice_index_or ps at 0 → ⊥)
    → kept_at ps (slice_set cs at c) place d ≡ kept_at ps cs place d
kept_set [] cs at place c d lt not = refl
kept_set (p ∷ ps) [] at place c d lt not = refl
kept_set (p ∷ ps) (e ∷ cs) zero place c d lt not =
    tail_at p ps c cs place d (λ q. not (sym q))
    ∙ sym (tail_at p ps e cs place d (λ q. not (sym q)))
kept_set (p ∷ ps) (e ∷ cs) (suc at) place c d lt not =
    ap (λ x. cond (nat_eq p place) e x) (kept_set ps cs at place c d (omega arith) not)

pub kept_less : (ps : List ℕ) (cs : List Connection) (at place : ℕ) (d : Connection)
    → length cs ≡ length ps → at < length ps → (place ≡ slice_index_or ps at 0 → ⊥)
    → kept_at (remove ps at) (remove cs at) place d ≡ kept_at ps cs place d
kept_less [] cs at place d pairs lt not = absurd (let no : ⊥ = omega arith in no)
kept_less (p ∷ ps) [] at place d pairs lt not = absurd (let no : ⊥ = omega arith in no)
kept_less (p ∷ ps) (c ∷ cs) zero place d pairs lt not =
    sym (tail_at p ps c cs place d (λ q. not (sym q)))
kept_less (p ∷ ps) (c ∷ cs) (suc at) place d pairs lt not =
    ap (λ x. cond (nat_eq p place) c x) (kept_less ps cs at place d (omega arith) (omega arith) not)

pub kept_more : (ps : List ℕ) (cs : List Connection) (n place : ℕ) (c d : Connection)
    → length cs ≡ length ps → (place ≡ n → ⊥)
    → kept_at (ps ++ n ∷ []) (cs ++ c ∷ []) place d ≡ kept_at ps cs place d
kept_more [] [] n place c d pairs not = tail_at n [] c [] place d (λ q. not (sym q))
kept_more [] (e ∷ cs) n place c d pairs not = absurd (let no : ⊥ = omega arith in no)
kept_more (p ∷ ps) [] n place c d pairs not = absurd (let no : ⊥ = omega arith in no)
kept_more (p ∷ ps) (e ∷ cs) n place c d pairs not =
    ap (λ x. cond (nat_eq p place) e x) (kept_more ps cs n place c d (omega arith) not)

pub kept_new : (ps : List ℕ) (cs : List Connection) (n : ℕ) (c d : Connection)
    → length cs ≡ length ps → ((k : ℕ) → k < length ps → slice_index_or ps k 0 ≡ n → ⊥)
    → kept_at (ps ++ n ∷ []) (cs ++ c ∷ []) n d ≡ c
kept_new [] [] n c d pairs none = head_at n [] c [] n d refl
kept_new [] (e ∷ cs) n c d pairs none = absurd (let no : ⊥ = omega arith in no)
kept_new (p ∷ ps) [] n c d pairs none = absurd (let no : ⊥ = omega arith in no)
kept_new (p ∷ ps) (e ∷ cs) n c d pairs none =
    tail_at p (ps ++ n ∷ []) e (cs ++ c ∷ []) n d (none 0 (omega arith))
    ∙ kept_new ps cs n c d (omega arith) (λ k lt. none (suc k) (omega arith))

-- numbers that rise
pub rise_apart : (ps : List ℕ) → Rise ps → (i j : ℕ) → i < length ps → j < length ps
    → slice_index_or ps i 0 ≡ slice_index_or ps j 0 → i ≡ j
rise_apart ps rise i j lt lt' same =
    elim (cases_order i j) [
      | inl e ↦ e
      | inr (inl low) ↦ absurd (let no : ⊥ = omega (arith, rise i j low lt', same) in no)
      | inr (inr high) ↦ absurd (let no : ⊥ = omega (arith, rise j i high lt, same) in no)
    ]

pub rise_less : (ps : List ℕ) (at : ℕ) → at < length ps → Rise ps → Rise (remove ps at)
rise_less ps at lt rise i j low within =
    let short = length-remove ps at lt in
    elim (cases_lt j at) [
      | inl b ↦
          subst (λ n. slice_index_or (remove ps at) i 0 < n)
          (sym (get_or-remove_below ps at 0 j b lt))
          (subst (λ n. n < slice_index_or ps j 0)
          (sym (get_or-remove_below ps at 0 i (omega (arith, low, b)) lt))
          (rise i j low (omega (arith, b, lt))))
      | inr a ↦
          subst (λ n. slice_index_or (remove ps at) i 0 < n)
          (sym (get_or-remove_above ps at 0 j (omega (arith, a)) lt))
          (elim (cases_lt i at) [
            | inl b ↦
                subst (λ n. n < slice_index_or ps (j + 1) 0)
                (sym (get_or-remove_below ps at 0 i b lt))
                (rise i (j + 1) (omega (arith, low)) (omega (arith, within, short)))
            | inr a' ↦
                subst (λ n. n < slice_index_or ps (j + 1) 0)
                (sym (get_or-remove_above ps at 0 i (omega (arith, a')) lt))
                (rise (i + 1) (j + 1) (omega (arith, low)) (omega (arith, within, short)))
          ])
    ]

pub rise_below : (ps : List ℕ) → Rise ps → (i j : ℕ) → i ≤ j → j < length ps
    → slice_index_or ps i 0 ≤ slice_index_or ps j 0
rise_below ps rise i j le lt =
    elim (cases_eq i j) [
      | inl e ↦ omega (arith, ap (λ k. slice_index_or ps k 0) e)
      | inr n ↦ omega (arith, rise i j (omega (arith, le, n)) lt)
    ]

pub rise_more : (ps : List ℕ) (n : ℕ) → Rise ps
    → ((k : ℕ) → k < length ps → slice_index_or ps k 0 < n) → Rise (ps ++ n ∷ [])
rise_more ps n rise below i j low within =
    let short = length_push ps n in
    let first : i < length ps = omega (arith, low, within, short) in
    subst (λ m. m < slice_index_or (ps ++ n ∷ []) j 0)
    (sym (get_or_append_left ps (n ∷ []) 0 i first))
    (elim (cases_lt j (length ps)) [
      | inl b ↦
          subst (λ m. slice_index_or ps i 0 < m) (sym (get_or_append_left ps (n ∷ []) 0 j b))
          (rise i j low b)
      | inr a ↦
          subst (λ m. slice_index_or ps i 0 < m)
          (sym (get_or_push ps n 0 j (omega (arith, a, within, short))))
          (below i first)
    ])

pub there_less : (ps : List ℕ) (at count : ℕ) → at < length ps
    → ((k : ℕ) → k < length ps → slice_index_or ps k 0 < count)
    → (k : ℕ) → k < length (remove ps at) → slice_index_or (remove ps at) k 0 < count
there_less ps at count lt there k within =
    let short = length-remove ps at lt in
    elim (cases_lt k at) [
      | inl low ↦
          subst (λ n. n < count) (sym (get_or-remove_below ps at 0 k low lt))
          (there k (omega (arith, low, lt)))
      | inr high ↦
          subst (λ n. n < count) (sym (get_or-remove_above ps at 0 k high lt))
          (there (k + 1) (omega (arith, within, short)))
    ]

pub there_more : (ps : List ℕ) (n : ℕ)
    → ((k : ℕ) → k < length ps → slice_index_or ps k 0 < n)
    → (k : ℕ) → k < length (ps ++ n ∷ []) → slice_index_or (ps ++ n ∷ []) k 0 < n + 1
there_more ps n there k within =
    let short = length_push ps n in
    elim (cases_lt k (length ps)) [
      | inl low ↦
          subst (λ m. m < n + 1) (sym (get_or_append_left ps (n ∷ []) 0 k low))
          (omega (arith, there k low))
      | inr high ↦
          subst (λ m. m < n + 1) (sym (get_or_push ps n 0 k (omega (arith, high, within, short))))
          (omega arith)
    ]

-- a place that is gone is at no other place
pub none_left : (ps : List ℕ) (at place : ℕ) → at < length ps → Rise ps
    → slice_index_or ps at 0 ≡ place
    → (k : ℕ) → k < length (remove ps at) → slice_index_or (remove ps at) k 0 ≡ place → ⊥
none_left ps at place lt rise is k within same =
    let short = length-remove ps at lt in
    elim (cases_lt k at) [
      | inl low ↦
          let no : ⊥ =
          omega (arith, get_or-remove_below ps at 0 k low lt, rise k at low lt, same, is) in no
      | inr high ↦
          let no : ⊥ = omega (
            arith,
            get_or-remove_above ps at 0 k high lt,
            rise at (k + 1) (omega (arith, high)) (omega (arith, within, short)),
            same,
            is,
          ) in no
    ]

-- what is seen at a place, by where it is among those that are kept
pub seen_kept : (ps : List ℕ) (cs : List Connection) (qs : List ℕ) (count place at : ℕ)
    → IsRoster count ps cs qs → IsAmong ps place (Some at)
    → seen ps cs qs place ≡ slice_index_or cs at fresh
seen_kept ps cs qs count place at h is =
    kept_here ps cs at place (shut (bit_in qs place)) is.0 (omega (arith, h.pairs, is.0))
    (λ k low same. let no : ⊥ = omega (arith, h.rise k at low is.0, same, is.1) in no) is.1

pub seen_shut : (ps : List ℕ) (cs : List Connection) (qs : List ℕ) (place : ℕ)
    → IsAmong ps place None → seen ps cs qs place ≡ shut (bit_in qs place)
seen_shut ps cs qs place none = kept_none ps cs place (shut (bit_in qs place)) none

pub got_kept : (ps : List ℕ) (cs : List Connection) (qs : List ℕ) (count place at : ℕ)
    → place < count → IsRoster count ps cs qs → IsAmong ps place (Some at)
    → slice_index_or (listed (seen ps cs qs) 0 count) place fresh ≡ slice_index_or cs at fresh
got_kept ps cs qs count place at lt h is =
    first_at (seen ps cs qs) count place lt ∙ seen_kept ps cs qs count place at h is

pub got_shut : (ps : List ℕ) (cs : List Connection) (qs : List ℕ) (count place : ℕ)
    → place < count → IsAmong ps place None
    → slice_index_or (listed (seen ps cs qs) 0 count) place fresh ≡ shut (bit_in qs place)
got_shut ps cs qs count place lt none =
    first_at (seen ps cs qs) count place lt ∙ seen_shut ps cs qs place none

-- another connection is kept for a place
pub kept_put : (ps : List ℕ) (cs : List Connection) (qs : List ℕ) (count place at : ℕ)
    (c : Connection) → place < count → IsRoster count ps cs qs → IsAmong ps place (Some at)
    → listed (seen ps (slice_set cs at c) qs) 0 count
    ≡ slice_set (listed (seen ps cs qs) 0 count) place c
kept_put ps cs qs count place at c lt h is =
    let there : at < length cs = omega (arith, h.pairs, is.0) in
    listed_set (seen ps cs qs) (seen ps (slice_set cs at c) qs) count place c lt
    (kept_here ps (slice_set cs at c) at place (shut (bit_in qs place)) is.0
    (omega (arith, length-set cs at c, there))
    (λ k low same. let no : ⊥ = omega (arith, h.rise k at low is.0, same, is.1) in no) is.1
    ∙ get_or-set_same cs at c fresh there)
    (λ k not. kept_set ps cs at k c (shut (bit_in qs k)) is.0
    (λ same. not (omega (arith, same, is.1))))

-- of one that is closed nothing else is kept
closed_shut : (quit : Bool) → shut quit ≡ gone (shut quit)
closed_shut true = refl
closed_shut false = refl

pub shut_gone : (quit : Bool) (c : Connection) → c ≡ shut quit → c ≡ gone c
shut_gone quit c is = is ∙ closed_shut quit ∙ ap gone (sym is)

pub gone_shut : (c : Connection) → gone c ≡ shut (has_quit c.standing)
gone_shut c = elim c.standing as (λ s. record fresh { standing = closed s } ≡ shut (has_quit s)) [
  | Live ↦ refl
  | Quit ↦ refl
  | QuitClosed ↦ refl
  | Gone ↦ refl
]

-- none is kept for it any more
pub kept_closed : (ps qs rs : List ℕ) (cs : List Connection) (count place at : ℕ)
    (c : Connection) (ps' : List ℕ) (cs' : List Connection)
    → ps' ≡ remove ps at → cs' ≡ remove cs at
    → place < count → IsRoster count ps cs qs → IsAmong ps place (Some at)
    → c ≡ slice_index_or cs at c → bit_in rs place ≡ has_quit c.standing
    → ((other : ℕ) → (other ≡ place → ⊥) → bit_in rs other ≡ bit_in qs other)
    → listed (seen ps' cs' rs) 0 count
    ≡ slice_set (listed (seen ps cs qs) 0 count) place
    (gone (slice_index_or (listed (seen ps cs qs) 0 count) place fresh))
kept_closed ps qs rs cs count place at c ps' cs' fewer less lt h is read here else =
    let was : c ≡ slice_index_or (listed (seen ps cs qs) 0 count) place fresh =
    get_or_read cs at c (omega (arith, h.pairs, is.0)) read fresh
    ∙ sym (got_kept ps cs qs count place at lt h is) in
    ap (λ ns. listed (seen ns cs' rs) 0 count) fewer
    ∙ ap (λ ds. listed (seen (remove ps at) ds rs) 0 count) less
    ∙ listed_set (seen ps cs qs) (seen (remove ps at) (remove cs at) rs) count place
    (gone (slice_index_or (listed (seen ps cs qs) 0 count) place fresh)) lt
    (kept_none (remove ps at) (remove cs at) place (shut (bit_in rs place))
    (none_left ps at place is.0 h.rise is.1) ∙ ap shut here ∙ sym (gone_shut c) ∙ ap gone was)
    (λ k not.
    kept_less ps cs at k (shut (bit_in rs k)) h.pairs is.0
    (λ same. not (omega (arith, same, is.1)))
    ∙ ap (λ b. kept_at ps cs k (shut b)) (else k not))

pub closed_roster : (ps qs rs : List ℕ) (cs : List Connection) (count at : ℕ)
    (ps' : List ℕ) (cs' : List Connection) → ps' ≡ remove ps at → cs' ≡ remove cs at
    → at < length ps → length rs ≡ length qs → IsRoster count ps cs qs
    → IsRoster count ps' cs' rs
closed_roster ps qs rs cs count at ps' cs' fewer less lt same h = record {
  below = h.below;
  rise = subst Rise (sym fewer) (rise_less ps at lt h.rise);
  there =
      subst (λ ns. (k : ℕ) → k < length ns → slice_index_or ns k 0 < count) (sym fewer)
      (there_less ps at count lt h.there);
  pairs =
      omega (
        arith,
        h.pairs,
        ap length fewer,
        ap length less,
        length-remove ps at lt,
        length-remove cs at (omega (arith, lt, h.pairs)),
      );
  bits = omega (arith, h.bits, same);
}

-- one that is closed already
pub still_closed : (all : List Connection) (place : ℕ) (quit : Bool)
    → slice_index_or all place fresh ≡ shut quit
    → all ≡ slice_set all place (gone (slice_index_or all place fresh))
still_closed all place quit is =
    sym (ap (slice_set all place) (sym (shut_gone quit (slice_index_or all place fresh) is))
    ∙ set-get_or all place fresh)

-- one more is kept, for the next place
pub pushed : (ps qs rs : List ℕ) (cs : List Connection) (count : ℕ) (c : Connection)
    (ps' : List ℕ) (cs' : List Connection) → ps' ≡ ps ++ count ∷ [] → cs' ≡ cs ++ c ∷ []
    → IsRoster count ps cs qs → ((at : ℕ) → bit_in rs at ≡ bit_in qs at)
    → listed (seen ps' cs' rs) 0 (count + 1) ≡ listed (seen ps cs qs) 0 count ++ c ∷ []
pushed ps qs rs cs count c ps' cs' longer more h same =
    ap (λ ns. listed (seen ns cs' rs) 0 (count + 1)) longer
    ∙ ap (λ ds. listed (seen (ps ++ count ∷ []) ds rs) 0 (count + 1)) more
    ∙ listed_more (seen ps cs qs) (seen (ps ++ count ∷ []) (cs ++ c ∷ []) rs) count c
    (kept_new ps cs count c (shut (bit_in rs count)) h.pairs
    (λ k lt is. let no : ⊥ = omega (arith, h.there k lt, is) in no))
    (λ k lt.
    kept_more ps cs count k c (shut (bit_in rs k)) h.pairs
    (λ is. let no : ⊥ = omega (arith, lt, is) in no)
    ∙ ap (λ b. kept_at ps cs k (shut b)) (same k))

pub pushed_roster : (ps : List ℕ) (cs : List Connection) (qs rs : List ℕ) (count : ℕ)
    (c : Connection) → count + 1 < 2 ^ 63 → count < 64 * length rs → IsRoster count ps cs qs
    → IsRoster (count + 1) (ps ++ count ∷ []) (cs ++ c ∷ []) rs
pushed_roster ps cs qs rs count c below room h = record {
  below = below;
  rise = rise_more ps count h.rise h.there;
  there = there_more ps count h.there;
  pairs = omega (arith, h.pairs, length_push ps count, length_push cs c);
  bits = omega (arith, room);
}

-- nobody is seen otherwise by more words
pub same_seen : (ps : List ℕ) (cs : List Connection) (qs rs : List ℕ) (count : ℕ)
    → ((at : ℕ) → bit_in rs at ≡ bit_in qs at)
    → listed (seen ps cs rs) 0 count ≡ listed (seen ps cs qs) 0 count
same_seen ps cs qs rs count same =
    listed_same (seen ps cs rs) (seen ps cs qs) count
    (λ k lt. ap (λ b. kept_at ps cs k (shut b)) (same k))

-- what is lent under one name, by two functions that agree
pub same_lending : {N A B C : Type 0} (n : N) (f g : A → B) → ((w : A) → f w ≡ g w)
    → ◌≡◌ {A = (N × (A → B)) ⊎ C} (inl (n, f)) (inl (n, g))
same_lending n f g same i = inl (n, λ w. same w i)

pub same_end : {L C : Type 0} (a b : C) → a ≡ b → ◌≡◌ {A = L ⊎ C} (inr a) (inr b)
same_end a b e i = inr (e i)

pub are_kept : (ps : List ℕ) (cs : List Connection) (qs : List ℕ) (count : ℕ)
    → IsRoster count ps cs qs → AreKept (listed (seen ps cs qs) 0 count) ps
are_kept ps cs qs count h = record {
  rise = h.rise;
  there = λ k lt. omega (arith, h.there k lt, listed_length (seen ps cs qs) 0 count);
  others = λ place lt none.
      shut_gone (bit_in qs place) _
      (got_shut ps cs qs count place (omega (arith, lt, listed_length (seen ps cs qs) 0 count))
      none);
}

-- between two places that follow one another, and before the first, none is kept
pub none_first : (ps : List ℕ) (top at : ℕ) → Rise ps → at < slice_index_or ps 0 top
    → IsAmong ps at None
none_first ps top at rise low k lt is =
    let first = get_or_default ps 0 top 0 (omega (arith, lt)) in
    let no : ⊥ = omega (arith, rise_below ps rise 0 k (omega arith) lt, first, low, is) in no

pub none_between : (ps : List ℕ) (top n m at : ℕ) → Rise ps → n < length ps → m ≡ n + 1
    → slice_index_or ps n 0 < at → at < slice_index_or ps m top → IsAmong ps at None
none_between ps top n m at rise lt next past low k within is =
    elim (cases_lt k m) [
      | inl before ↦
          let no : ⊥ = omega (
            arith,
            rise_below ps rise k n (omega (arith, before, next)) lt,
            past,
            is,
          ) in no
      | inr behind ↦
          let next_is = get_or_default ps m top 0 (omega (arith, behind, within)) in
          let no : ⊥ = omega (
            arith,
            rise_below ps rise m k behind within,
            next_is,
            low,
            is,
          ) in no
    ]
