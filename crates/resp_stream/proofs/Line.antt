-- A line byte by byte.
use Rattle.std.proofs.Common.{◌≡◌, ℕ, ◌+◌, ◌<◌, ◌≤◌, ◌≢◌, List, [], ◌∷◌, ◌++◌, refl, sym, ap, ◌∙◌}
use Rattle.std.proofs.Common.{append_assoc, Bool, true, false, cond, length, get_or, take, drop}
use Rattle.std.proofs.Common.{drop-cons, add-one, arith}
use Rattle.std.specs.Prelude.{nat_eq, nat_lt}
use Rattle.std.proofs.lemmas.Bool.{ne_eqb, eq-eqb, lt-ltb, le-ltb}
use Rattle.std.proofs.lemmas.List.{take-append-drop, length-take-le, length-drop, take_all}
use Rattle.std.proofs.Math.Seq.{take-suc}
use Rattle.resp_stream.specs.declared.fault.Fault.TheVariants.{BadByte, TooLong}
use Rattle.resp_stream.specs.Parsed.{Whole, More, Bad, Go, Stop, Move, On, Out, moved, scan}
use Rattle.resp_stream.specs.Tokens.{line_feed, ends_line, refused, line_move, line_at, Passed}
use Rattle.resp_stream.proofs.Compose.{append_nil}

pub passed_none : (inline : Bool) (limit : ℕ) (b : List ℕ) → Passed inline limit (take 0 b)
unfolding line_at
passed_none inline limit b m = refl

pick : ℕ → List ℕ → ℕ → Bool → Bool → Bool → Bool → Move (List ℕ) (List ℕ)
pick limit t c x y z w =
    cond x (Out (Go (line_feed t)))
    (cond y (Out (Go (Whole t)))
    (cond z (cond w (Out (Stop BadByte)) (On (t ++ c ∷ []))) (Out (Stop (TooLong (limit + 1))))))

module _ (inline : Bool) (limit : ℕ) where
  picked : (t : List ℕ) (c : ℕ) (x y z w : Bool) → nat_eq c 13 ≡ x → ends_line inline c ≡ y
      → nat_lt (length t) limit ≡ z → refused inline c ≡ w
      → line_move inline limit t c ≡ pick limit t c x y z w
  unfolding pick
  picked t c e y z w p q r s = λ i. pick limit t c (p i) (q i) (r i) (s i)

  -- what stands at the place
  at_byte : (at c : ℕ) (b r : List ℕ) (move : Move (List ℕ) (List ℕ)) → drop at b ≡ c ∷ r
      → Passed inline limit (take at b) → line_move inline limit (take at b) c ≡ move →
      line_at inline limit b ≡ moved move (λ t. scan (line_move inline limit) t r) c r
  at_byte at c b r move e p h =
      ap (λ q. line_at inline limit q) (sym (take-append-drop at b)) ∙ p (drop at b)
      ∙ ap (λ q. scan (line_move inline limit) (take at b) q) e
      ∙ ap (λ q. moved q (λ t. scan (line_move inline limit) t r) c r) h

  pub line_step : (c : ℕ) (t : List ℕ) → c ≢ 13 → ends_line inline c ≡ false
      → refused inline c ≡ false → length t < limit → line_move inline limit t c ≡ On (t ++ c ∷ [])
  unfolding pick
  line_step c t e f g lt = grind (arith, picked, ne_eqb, lt-ltb)

  pub line_ends : (at c : ℕ) (b r : List ℕ) → drop at b ≡ c ∷ r → Passed inline limit (take at b)
      → c ≡ 13 → line_at inline limit b ≡ line_feed (take at b) r
  unfolding pick
  line_ends at c b r h p e =
      at_byte at c b r (Out (Go (line_feed (take at b)))) h p
      (picked (take at b) c true _ _ _ (eq-eqb c 13 e) refl refl refl)

  pub line_ends_short : (at c : ℕ) (b r : List ℕ) → drop at b ≡ c ∷ r
      → Passed inline limit (take at b) → c ≢ 13 → ends_line inline c ≡ true
      → line_at inline limit b ≡ Whole (take at b) r
  unfolding pick
  line_ends_short at c b r h p e f =
      at_byte at c b r (Out (Go (Whole (take at b)))) h p
      (picked (take at b) c false true _ _ (ne_eqb c 13 e) f refl refl)

  short : (at c : ℕ) (b r : List ℕ) → drop at b ≡ c ∷ r → at < length b
  short at c b r h = omega (arith, length-drop at b, ap length h)

  pub line_long : (at c : ℕ) (b r : List ℕ) → drop at b ≡ c ∷ r → Passed inline limit (take at b)
      → c ≢ 13 → ends_line inline c ≡ false → limit ≤ at
      → line_at inline limit b ≡ Bad (TooLong (limit + 1)) (drop at b)
  unfolding pick
  line_long at c b r h p e f le =
      let len : length (take at b) ≡ at = length-take-le at b (omega (arith, short at c b r h)) in
      at_byte at c b r (Out (Stop (TooLong (limit + 1)))) h p
      (grind (arith, picked, ne_eqb, le-ltb))
      ∙ ap (λ q. Bad (TooLong (limit + 1)) q) (sym h)

  pub line_refused : (at c : ℕ) (b r : List ℕ) → drop at b ≡ c ∷ r → Passed inline limit (take at b)
      → c ≢ 13 → ends_line inline c ≡ false → refused inline c ≡ true → at < limit
      → line_at inline limit b ≡ Bad BadByte (drop at b)
  unfolding pick
  line_refused at c b r h p e f g lt =
      let len : length (take at b) ≡ at = length-take-le at b (omega (arith, short at c b r h)) in
      at_byte at c b r (Out (Stop BadByte)) h p
      (grind (arith, picked, ne_eqb, lt-ltb))
      ∙ ap (λ q. Bad BadByte q) (sym h)

  pub line_on : (at c : ℕ) (b r : List ℕ) → drop at b ≡ c ∷ r → Passed inline limit (take at b)
      → c ≢ 13 → ends_line inline c ≡ false → refused inline c ≡ false → at < limit
      → Passed inline limit (take (at + 1) b)
  unfolding pick
  line_on at c b r h p e f g lt m =
      let len : length (take at b) ≡ at = length-take-le at b (omega (arith, short at c b r h)) in
      let k = drop-cons b at 0 (short at c b r h) in
      let one : get_or b at 0 ≡ c = cc in
      let t : take (at + 1) b ≡ take at b ++ c ∷ [] =
      rw (add-one, ← one) (take-suc b at 0 (short at c b r h)) in
      grind (arith, append_assoc, picked, ne_eqb, lt-ltb)

  pub line_more : (at : ℕ) (b : List ℕ) → length b ≤ at → Passed inline limit (take at b)
      → line_at inline limit b ≡ More
  line_more at b h p =
      let e : take at b ≡ b = take_all at b h in
      ap (λ q. line_at inline limit q) (sym e ∙ sym (append_nil (take at b))) ∙ p []

pub ruleset line_steps = (line_ends, line_ends_short, line_long, line_refused, line_on, line_more)
