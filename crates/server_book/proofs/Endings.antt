-- Between which numbers those are whom a turn ends.
use Rattle.std.proofs.Common.{◌≡◌, ◌+◌, ◌<◌, ◌≤◌, ℕ, List, [], ◌∷◌, Bool, true, false, length, take}
use Rattle.std.proofs.Common.{arith, inl, inr, max, slice_index_or, subst, ap, ◌∙◌, sym}
use Prim.Native.Nat.{zero, suc}
use Rattle.std.specs.Prelude.{◌==◌, ◌&&◌, ◌||◌}
use Rattle.std.specs.List.{list_any}
use Rattle.std.proofs.lemmas.Bool.{cases_Bool, eqb-true}
use Rattle.serial_model.specs.declared.history.Post.{Post}
use Rattle.serial_model.specs.Each.{AllIn}
use Rattle.server_book.specs.declared.ends.Ends.{Ends}
use Rattle.server_book.specs.Places.{Connection}
use Rattle.server_book.specs.Connections.{ArePosted, IsId, connection_at, has_life}
use Rattle.server_book.specs.Endings.{ArePostedTo, IsWithin, is_ending, is_past, quits_in}

-- of these posts, those to a connection that is past the limit are between two numbers
abbrev pub AreWithin : ℕ → List Connection → List Post → ℕ → ℕ → Type 0
AreWithin limit cs ps after last =
    AllIn (λ (p : Post). is_past limit cs p.id ≡ true → (after < p.id) × (p.id ≤ last)) ps

module _ (limit : ℕ) (cs : List Connection) where
  pub within_wider : (ps : List Post) (a b x y : ℕ) → x ≤ a → b ≤ y
      → AreWithin limit cs ps a b → AreWithin limit cs ps x y
  within_wider [] a b x y low high h = tt
  within_wider (p ∷ ps) a b x y low high h = (
    (λ past. let w = h.0 past in (omega (arith, w.0), omega (arith, w.1))),
    within_wider ps a b x y low high h.1,
  )

  pub within_more : (ps : List Post) (k n a b : ℕ) (d : Post) (known : Bool)
      → known ≡ is_past limit cs (slice_index_or ps k d).id → k < length ps → n ≡ k + 1
      → AreWithin limit cs (take k ps) a b
      → (is_past limit cs (slice_index_or ps k d).id ≡ true
      → (a < (slice_index_or ps k d).id) × ((slice_index_or ps k d).id ≤ b))
      → AreWithin limit cs (take n ps) a b
  within_more [] k n a b d known is lt e h one = absurd (let no : ⊥ = omega arith in no)
  within_more (p ∷ ps) k zero a b d known is lt e h one = absurd (let no : ⊥ = omega arith in no)
  within_more (p ∷ ps) zero (suc zero) a b d known is lt e h one = (one, tt)
  within_more (p ∷ ps) zero (suc (suc n)) a b d known is lt e h one =
      absurd (let no : ⊥ = omega arith in no)
  within_more (p ∷ ps) (suc k) (suc n) a b d known is lt e h one =
      (h.0, within_more ps k n a b d known is (omega arith) (omega arith) h.1 one)

  within_one : (ps : List Post) (a b id : ℕ) → AreWithin limit cs ps a b
      → list_any (λ p. p.id == id) ps ≡ true → is_past limit cs id ≡ true
      → (a < id) × (id ≤ b)
  within_one [] a b id h any past = absurd (let no : ⊥ = cc in no)
  within_one (p ∷ ps) a b id h any past = elim (cases_Bool (p.id == id)) [
    | inl same ↦
        let e = eqb-true p.id id same in
        subst (λ i. (a < i) × (i ≤ b)) e
        (h.0 (ap (is_past limit cs) e ∙ past))
    | inr other ↦
        within_one ps a b id h.1
        (sym (ap (λ x. x || list_any (λ q. q.id == id) ps) other) ∙ any) past
  ]

  pub posted_at : (ps : List Post) (k : ℕ) (d : Post) (known : Bool)
      → known ≡ is_past limit cs (slice_index_or ps k d).id → k < length ps
      → ArePosted cs ps → IsId cs (slice_index_or ps k d).id
  posted_at [] k d known is lt h = absurd (let no : ⊥ = omega arith in no)
  posted_at (p ∷ ps) zero d known is lt h = h.0
  posted_at (p ∷ ps) (suc k) d known is lt h = posted_at ps k d known is (omega arith) h.1

-- and so all are whom the turn ends
pub are_within : (ends : Ends) (cs : List Connection) (ps : List Post) (after last top : ℕ)
    → ends.stops ≡ false → (ends.quits ≡ true → (after < ends.by) × (ends.by ≤ last))
    → AreWithin ends.limit cs ps after last → ArePostedTo ends.limit cs ps
    → after ≤ length cs → last ≤ length cs → top ≡ max last after
    → IsWithin ends cs after top
are_within ends cs ps after last top goes by posted to low high is = record {
  order = omega (arith, is);
  there = omega (arith, is, low, high);
  within = λ id on ending.
      let both = one id on ending in (both.0, omega (arith, is, both.1));
}
  where
    apart : (live quits stops past : Bool) → (live && (quits || stops || past)) ≡ true
        → stops ≡ false → quits ≡ false → (live ≡ true) × (past ≡ true)
    apart live quits stops past h e f = (grind arith, grind arith)

    quitter : (b q : Bool) → (b && q) ≡ true → (b ≡ true) × (q ≡ true)
    quitter b q h = (grind arith, grind arith)

    one : (id : ℕ) → IsId cs id → is_ending ends cs id ≡ true → (after < id) × (id ≤ last)
    one id on ending = elim (cases_Bool (quits_in ends id)) [
      | inl q ↦
          let both = quitter (ends.by == id) ends.quits q in
          subst (λ i. (after < i) × (i ≤ last)) (eqb-true ends.by id both.0) (by both.1)
      | inr stays ↦
          let both = apart _ (quits_in ends id) ends.stops (is_past ends.limit cs id) ending goes
          stays in
          within_one ends.limit cs ps after last id posted (to id on both.0 both.1) both.1
    ]

-- one whom a turn ends has not ended before
pub ending_lives : (ends : Ends) (cs : List Connection) (id : ℕ) → is_ending ends cs id ≡ true
    → has_life (connection_at cs id) ≡ true
ending_lives ends cs id h =
    left (has_life (connection_at cs id))
    (quits_in ends id || ends.stops || is_past ends.limit cs id) h
  where
    left : (a b : Bool) → (a && b) ≡ true → a ≡ true
    left a b h = grind arith
