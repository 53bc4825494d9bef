-- Where in a past a connection's commands ran.
use Rattle.std.proofs.Common.{◌≡◌, ◌+◌, ◌-◌, ◌<◌, ◌≤◌, ℕ, zero, suc, List, [], ◌∷◌, ◌++◌, length}
use Rattle.std.proofs.Common.{true, false, cond, drop, refl, ap, sym, ◌∙◌, arith, Some}
use Rattle.std.proofs.Common.{◌⊎◌, inl, inr, append_assoc, length-append, append-nil, subst}
use Rattle.std.specs.Prelude.{slice_get, ◌==◌}
use Rattle.std.proofs.lemmas.Option.{slice_get_within}
use Rattle.std.proofs.lemmas.Grind.{common_steps}
use Rattle.resp_value.specs.Lists.{IsPrefix}
use Rattle.serial_model.specs.declared.history.Limits.{Limits}
use Rattle.serial_model.specs.declared.history.Entry.{Entry}
use Rattle.serial_model.specs.declared.history.Entry.TheVariants.{Run, Tick, Close}
use Rattle.serial_model.specs.History.{runs_of, IsLegal, run_entries}
use Rattle.currency.specs.Links.{up_to}
use Rattle.currency.proofs.Lists.{get_front, get_parts, get_one, get_last, Behind}

-- the older part of a past
pub record Older (up past : List Entry) : Type 0 where
  pub newer : List Entry
  pub is : newer ++ up ≡ past

pub older_all : (past : List Entry) → Older past past
older_all past = record { newer = []; is = refl }

pub older_tail : (e : Entry) (up past : List Entry) → Older (e ∷ up) past → Older up past
older_tail e up past o = record {
  newer = o.newer ++ e ∷ [];
  is = append_assoc o.newer (e ∷ []) up ∙ o.is;
}

pub older_more : (sooner up past : List Entry) → Older sooner up → Older up past → Older sooner past
older_more sooner up past a b = record {
  newer = b.newer ++ a.newer;
  is = append_assoc b.newer a.newer sooner ∙ ap (λ l. b.newer ++ l) a.is ∙ b.is;
}

-- of two older parts the shorter is one of the longer
within : (na nb a b : List Entry) → na ++ a ≡ nb ++ b → length nb ≤ length na → Older a b
within na [] a b e le = record { newer = na; is = e }
within [] (y ∷ nb) a b e le = absurd (let no : ⊥ = omega (arith, le) in no)
within (x ∷ na) (y ∷ nb) a b e le =
    let f : na ++ a ≡ nb ++ b = cc in within na nb a b f (omega (arith, le))

pub older_within : (a b past : List Entry) → Older a past → Older b past → length a ≤ length b
    → Older a b
older_within a b past o m le =
    within o.newer m.newer a b (o.is ∙ sym m.is)
    (omega (
      arith,
      length-append o.newer a,
      length-append m.newer b,
      ap length o.is,
      ap length m.is,
      le,
    ))

-- the past up to an entry is an older part of it
drop_older : (n : ℕ) (past : List Entry) → n ≤ length past
    → Older (drop n past) past × (length (drop n past) ≡ length past - n)
drop_older zero past le = (older_all past, omega arith)
drop_older (suc n) [] le = absurd (let no : ⊥ = omega arith in no)
drop_older (suc n) (e ∷ past) le =
    let r = drop_older n past (omega arith) in (
      record { newer = e ∷ r.0.newer; is = ap (λ l. e ∷ l) r.0.is },
      omega (arith, r.1),
    )

pub up_to_older : (r : ℕ) (past : List Entry) → r ≤ length past
    → Older (up_to r past) past × (length (up_to r past) ≡ r)
up_to_older r past le =
    let d = drop_older (length past - r) past (omega arith) in (d.0, omega (arith, d.1))

-- an older part is the past up to the entry of its length
drop_front : (newer up : List Entry) → drop (length newer) (newer ++ up) ≡ up
drop_front [] up = refl
drop_front (e ∷ newer) up = drop_front newer up

pub older_up_to : (up past : List Entry) → Older up past → up_to (length up) past ≡ up
older_up_to up past o =
    ap (λ n. drop n past)
    (grind (arith, length-append))
    ∙ ap (drop (length o.newer)) (sym o.is) ∙ drop_front o.newer up

-- two of one length are the same
pub same_older : (past a b : List Entry) → Older a past → Older b past → length a ≡ length b → a ≡ b
same_older past a b o m e =
    sym (older_up_to a past o) ∙ ap (λ n. up_to n past) e ∙ older_up_to b past m

pub older_legal : (l : Limits) (newer up : List Entry) → IsLegal l (newer ++ up) → IsLegal l up
older_legal l [] up h = h
older_legal l (Tick moment ∷ newer) up h = older_legal l newer up h.3
older_legal l (Close id ∷ newer) up h = older_legal l newer up h.1
older_legal l (e ∷ newer) up h = older_legal l newer up h.2

module _ (c : ℕ) where
  pub runs_count : (past : List Entry) → length (run_entries c past) ≡ length (runs_of c past)
  runs_count [] = refl
  runs_count (Run id words moment ∷ past) = grind (arith, common_steps, runs_count past)
  runs_count (e ∷ past) = runs_count past

  pub entry_le : (past : List Entry) (place p : ℕ) → slice_get (run_entries c past) place ≡ Some p
      → p ≤ length past
  entry_le [] place p e = cc
  entry_le (Run id words moment ∷ past) place p e =
      let r : p ≤ length past + 1 =
      elim (id == c) as (λ b. slice_get (cond b (run_entries c past ++ (length past + 1) ∷ [])
      (run_entries c past)) place ≡ Some p → p ≤ length past + 1) [
        | true ↦ λ e.
            elim (get_parts (run_entries c past) ((length past + 1) ∷ []) place p e) [
              | inl h ↦ let r = entry_le past place p h in omega (arith, r)
              | inr b ↦ let o = get_one (length past + 1) b.at p b.there in omega (arith, o.1)
            ]
        | false ↦ λ e. let r = entry_le past place p e in omega (arith, r)
      ] e in
      omega (arith, r)
  entry_le (x ∷ past) place p e = let r = entry_le past place p e in omega (arith, r)

  last : (past : List Entry) (i j p q : ℕ) → i < j
      → (slice_get (run_entries c past) i ≡ Some p → slice_get (run_entries c past) j ≡ Some q
      → p < q)
      → (slice_get (run_entries c past) i ≡ Some p)
      ⊎ Behind (run_entries c past) ((length past + 1) ∷ []) i p
      → (slice_get (run_entries c past) j ≡ Some q)
      ⊎ Behind (run_entries c past) ((length past + 1) ∷ []) j q
      → p < q
  last past i j p q lt before h is = grind (arith, entry_le, get_one, slice_get_within)

  -- places and entries of runs grow together
  pub in_order : (past : List Entry) (i j p q : ℕ) → i < j
      → slice_get (run_entries c past) i ≡ Some p → slice_get (run_entries c past) j ≡ Some q
      → p < q
  in_order [] i j p q lt e f = cc
  in_order (Run id words moment ∷ past) i j p q lt e f =
      elim (id == c) as (λ b. slice_get (cond b (run_entries c past ++ (length past + 1) ∷ [])
      (run_entries c past)) i ≡ Some p
      → slice_get (cond b (run_entries c past ++ (length past + 1) ∷ [])
      (run_entries c past)) j ≡ Some q → p < q) [
        | true ↦ λ e f. last past i j p q lt (λ h g. in_order past i j p q lt h g)
            (get_parts (run_entries c past) ((length past + 1) ∷ []) i p e)
            (get_parts (run_entries c past) ((length past + 1) ∷ []) j q f)
        | false ↦ λ e f. in_order past i j p q lt e f
      ] e f
  in_order (x ∷ past) i j p q lt e f = in_order past i j p q lt e f

  -- what ran up to an older entry are the first of all that ran
  pub runs_more : (newer up : List Entry) → IsPrefix (runs_of c up) (runs_of c (newer ++ up))
  runs_more [] up = ([], append-nil (runs_of c up))
  runs_more (Run id words moment ∷ newer) up =
      let r = runs_more newer up in
      elim (id == c) as (λ b. IsPrefix (runs_of c up) (cond b (runs_of c
      (newer ++ up) ++ words ∷ [])
      (runs_of c (newer ++ up)))) [
        | true ↦ (
          r.0 ++ words ∷ [],
          sym (append_assoc (runs_of c up) r.0 (words ∷ [])) ∙ ap (λ rs. rs ++ words ∷ []) r.1,
        )
        | false ↦ r
      ]
  runs_more (e ∷ newer) up = runs_more newer up

  pub runs_older : (up past : List Entry) → Older up past → IsPrefix (runs_of c up) (runs_of c past)
  runs_older up past o =
      subst (λ p. IsPrefix (runs_of c up) (runs_of c p)) o.is (runs_more o.newer up)

  -- and so are the entries at which it ran
  entries_more : (newer up : List Entry)
      → IsPrefix (run_entries c up) (run_entries c (newer ++ up))
  entries_more [] up = ([], append-nil (run_entries c up))
  entries_more (Run id words moment ∷ newer) up =
      let r = entries_more newer up in
      let n = length (newer ++ up) + 1 in
      elim (id == c) as (λ b. IsPrefix (run_entries c up)
      (cond b (run_entries c (newer ++ up) ++ n ∷ []) (run_entries c (newer ++ up)))) [
        | true ↦ (
          r.0 ++ n ∷ [],
          sym (append_assoc (run_entries c up) r.0 (n ∷ [])) ∙ ap (λ ns. ns ++ n ∷ []) r.1,
        )
        | false ↦ r
      ]
  entries_more (e ∷ newer) up = entries_more newer up

  pub entries_older : (up past : List Entry) → Older up past
      → IsPrefix (run_entries c up) (run_entries c past)
  entries_older up past o =
      subst (λ p. IsPrefix (run_entries c up) (run_entries c p)) o.is (entries_more o.newer up)

  -- the place of an own Run
  pub record RunsThere (past : List Entry) (words : List (List ℕ)) (p : ℕ) : Type 0 where
    pub place : ℕ
    pub entry : slice_get (run_entries c past) place ≡ Some p
    pub words_are : slice_get (runs_of c past) place ≡ Some words

  pub runs_there : (id : ℕ) (words : List (List ℕ)) (m : ℕ) (up past : List Entry)
      → (id == c) ≡ true → Older (Run id words m ∷ up) past
      → RunsThere past words (length up + 1)
  runs_there id words m up past own o =
      let e = entries_older (Run id words m ∷ up) past o in
      let r = runs_older (Run id words m ∷ up) past o in
      let n = length up + 1 in
      let place = length (runs_of c up) in
      let last_entry : slice_get (run_entries c (Run id words m ∷ up)) place ≡ Some n =
      ap (λ b. slice_get (cond b (run_entries c up ++ n ∷ []) (run_entries c up)) place) own
      ∙ ap (slice_get (run_entries c up ++ n ∷ [])) (sym (runs_count up))
      ∙ get_last (run_entries c up) n in
      let last_words : slice_get (runs_of c (Run id words m ∷ up)) place ≡ Some words =
      ap (λ b. slice_get (cond b (runs_of c up ++ words ∷ []) (runs_of c up)) place) own
      ∙ get_last (runs_of c up) words in record {
        place = place;
        entry =
            ap (λ ns. slice_get ns place) (sym e.1)
            ∙ get_front (run_entries c (Run id words m ∷ up)) e.0 place n last_entry;
        words_are =
            ap (λ ws. slice_get ws place) (sym r.1)
            ∙ get_front (runs_of c (Run id words m ∷ up)) r.0 place words last_words;
      }

  -- ---- the Run of a place

  pub record RanAt (past : List Entry) (place p : ℕ) : Type 0 where
    pub id : ℕ
    pub words : List (List ℕ)
    pub moment : ℕ
    pub up : List Entry
    pub own : (id == c) ≡ true
    pub older : Older (Run id words moment ∷ up) past
    pub at : length up + 1 ≡ p
    pub place_is : length (runs_of c up) ≡ place
    pub words_are : slice_get (runs_of c past) place ≡ Some words

  one_newer : (e : Entry) (past : List Entry) (place p : ℕ)
      → IsPrefix (runs_of c past) (runs_of c (e ∷ past))
      → RanAt past place p → RanAt (e ∷ past) place p
  one_newer e past place p grown r = record {
    id = r.id;
    words = r.words;
    moment = r.moment;
    up = r.up;
    own = r.own;
    older = record { newer = e ∷ r.older.newer; is = ap (λ l. e ∷ l) r.older.is };
    at = r.at;
    place_is = r.place_is;
    words_are =
        ap (λ l. slice_get l place) (sym grown.1)
        ∙ get_front (runs_of c past) grown.0 place r.words r.words_are;
  }

  same : (xs : List (List (List ℕ))) → IsPrefix xs xs
  same xs = ([], append-nil xs)

  pub ran_at : (past : List Entry) (place p : ℕ) → slice_get (run_entries c past) place ≡ Some p
      → RanAt past place p
  ran_at [] place p e = cc
  ran_at (Run id words moment ∷ past) place p e =
      elim (id == c) as (λ b. (id == c) ≡ b
      → slice_get (cond b (run_entries c past ++ (length past + 1) ∷ [])
      (run_entries c past)) place ≡ Some p → RanAt (Run id words moment ∷ past) place p) [
        | true ↦ λ own e.
            let runs_are : runs_of c past ++ words ∷ [] ≡ runs_of c (Run id words moment ∷ past) =
            ap (λ b. cond b (runs_of c past ++ words ∷ []) (runs_of c past)) (sym own) in
            elim (get_parts (run_entries c past) ((length past + 1) ∷ []) place p e) [
              | inl h ↦
                  one_newer (Run id words moment) past place p (words ∷ [], runs_are)
                  (ran_at past place p h)
              | inr b ↦ let o = get_one (length past + 1) b.at p b.there in
                  let n : length (runs_of c past) ≡ place =
                  omega (arith, runs_count past, b.is, o.0) in record {
                    id = id;
                    words = words;
                    moment = moment;
                    up = past;
                    own = own;
                    older = older_all (Run id words moment ∷ past);
                    at = o.1;
                    place_is = n;
                    words_are = grind (arith, get_last);
                  }
            ]
        | false ↦ λ own e.
            one_newer (Run id words moment) past place p (
              [],
              grind (arith, append-nil),
            )
            (ran_at past place p e)
      ] refl e
  ran_at (x ∷ past) place p e =
      one_newer x past place p (same (runs_of c past)) (ran_at past place p e)
