-- What is kept, and what was found, follow the history, effect by effect.
use Rattle.std.proofs.Common.{◌≡◌, ◌∙◌, ◌+◌, ◌<◌, ℕ, List, [], ◌∷◌, ◌++◌, refl, sym, ap, arith, map}
use Rattle.std.proofs.Common.{length, get_or, take, subst, cond, true, false}
use Rattle.std.specs.Prelude.{◌&&◌, nat_lt}
use Rattle.std.proofs.lemmas.List.{take_more}
use Rattle.serial_model.specs.declared.effect.Effect.{Effect}
use Rattle.serial_model.specs.declared.history.Entry.{Entry}
use Rattle.serial_model.specs.declared.history.Entry.TheVariants.{Admit, Run, Tick, Take, Close}
use Rattle.serial_model.specs.declared.history.Limits.{Limits}
use Rattle.serial_model.specs.declared.history.Post.{Post}
use Rattle.serial_model.specs.Actions.{Sending}
use Rattle.serial_model.specs.EntryEffects.{effect_at}
use Rattle.serial_model.specs.History.{IsLegal, posted_of, sends, sent, sent_to, state}
use Rattle.serial_model.specs.Laws.{as_posts}
use Rattle.serial_model.specs.State.{State, is_live, start}
use Rattle.track_table.specs.Table.{TableState}
use Rattle.past_effects.specs.declared.scan.Scan.{Scan}
use Rattle.past_effects.specs.declared.sendings.Sent.{Sent}
use Rattle.past_effects.specs.Past.{Follows, effects_of, next_by, sends_by}
use Rattle.past_effects.specs.Seen.{Seen, admitted_one, is_there, mode_at, on_at, seen_at}
use Rattle.past_effects.specs.Sendings.{outline, posts_for}
use Rattle.past_effects.proofs.Entries.{tells}

-- ---- lists that are as long

module _ {A : Type 0} where
  some_last : (xs : List A) (x : A) → [] ≡ xs ++ x ∷ [] → ⊥
  some_last [] x e = cc
  some_last (a ∷ xs) x e = cc

  pub last_same : (xs ys : List A) (x y : A) → xs ++ x ∷ [] ≡ ys ++ y ∷ []
      → (xs ≡ ys) × (x ≡ y)
  last_same [] [] x y e = (refl, cc)
  last_same [] (b ∷ ys) x y e = absurd (some_last ys y cc)
  last_same (a ∷ xs) [] x y e = absurd (some_last xs x cc)
  last_same (a ∷ xs) (b ∷ ys) x y e =
      let r = last_same xs ys x y cc in
      let h : a ≡ b = cc in
      (ap (λ z. z ∷ xs) h ∙ ap (λ l. b ∷ l) r.0, r.1)

-- ---- posts

as_posts-append : (c : ℕ) (xs ys : List (ℕ × Sending))
    → as_posts c (xs ++ ys) ≡ as_posts c xs ++ as_posts c ys
as_posts-append c [] ys = refl
as_posts-append c (x ∷ xs) ys =
    ap (λ ps. record { entry = x.0; id = c; what = posted_of x.1 } ∷ ps) (as_posts-append c xs ys)

posts_are : (n c : ℕ) (ss : List (ℕ × Sending))
    → posts_for n c (map outline ss) ≡ as_posts c (sent_to n c ss)
posts_are n c [] = refl
posts_are n c (s ∷ ss) = grind (arith, posts_are n c ss)

-- ---- one entry more

legal_before : (l : Limits) (entry : Entry) (past : List Entry) → IsLegal l (entry ∷ past)
    → IsLegal l past
legal_before l (Admit id) past h = h.2
legal_before l (Run id words moment) past h = h.2
legal_before l (Tick moment) past h = h.3
legal_before l (Take id max) past h = h.2
legal_before l (Close id) past h = h.1

number_is : (l : Limits) (entry : Entry) (past : List Entry)
    → (effect_at l entry past).entry ≡ length past + 1
number_is l (Admit id) past = refl
number_is l (Run id words moment) past = refl
number_is l (Tick moment) past = refl
number_is l (Take id max) past = refl
number_is l (Close id) past = refl

-- the scan and what it found are those of each legal history with these effects
abbrev pub HasFound : Limits → ℕ → List Effect → Scan → List Post → Type 0
HasFound l c effects scan posts =
    (past : List Entry) → IsLegal l past → effects ≡ effects_of l past
    → Follows l scan (state l past) × (posts ≡ as_posts c (sent l c past))

module _ (l : Limits) (c : ℕ) (effects : List Effect) (i : ℕ) (old new : Scan)
    (posts more : List Post) (found : HasFound l c (take i effects) old posts) (e : Effect)
    (lt : i < length effects) (is : e ≡ get_or effects i e) (told : List Sent)
    (step : (l : Limits) (s : State) → Follows l old s
    → (told ≡ map outline (sends_by l e e.kind s)) × Follows l new (next_by l e e.kind s))
    (posted : more ≡ posts ++ posts_for e.entry c told) where
  module _ (entry : Entry) (past : List Entry) (legal : IsLegal l (entry ∷ past))
      (same : take (i + 1) effects ≡ effects_of l (entry ∷ past)) where
    abbrev now : State
    now = state l past

    parts : (take i effects ≡ effects_of l past) × (get_or effects i e ≡ effect_at l entry past)
    parts = last_same (take i effects) (effects_of l past) (get_or effects i e)
        (effect_at l entry past) (sym (take_more effects i e lt) ∙ same)

    before : Follows l old now × (posts ≡ as_posts c (sent l c past))
    before = found past (legal_before l entry past legal) parts.0

    stepped : (let x = effect_at l entry past in
        (told ≡ map outline (sends_by l x x.kind now)) × Follows l new (next_by l x x.kind now))
    stepped =
        subst (λ (x : Effect). (told ≡ map outline (sends_by l x x.kind now))
        × Follows l new (next_by l x x.kind now)) (is ∙ parts.1) (step l now before.0)

    pub then_found : Follows l new (state l (entry ∷ past))
        × (more ≡ as_posts c (sent l c (entry ∷ past)))
    then_found =
        let tell = tells l past old new before.0 entry legal in (
          tell.1 stepped.1,
          posted
              ∙ ap (λ ps. ps ++ posts_for e.entry c told) before.1
              ∙ ap (λ n. as_posts c (sent l c past) ++ posts_for n c told)
              (ap (λ (x : Effect). x.entry) (is ∙ parts.1) ∙ number_is l entry past)
              ∙ ap (λ t. as_posts c (sent l c past) ++ posts_for (length past + 1) c t)
              (stepped.0 ∙ ap (map outline) tell.0)
              ∙ ap (λ ps. as_posts c (sent l c past) ++ ps)
              (posts_are (length past + 1) c (sends l entry now))
              ∙ sym (as_posts-append c (sent l c past)
              (sent_to (length past + 1) c (sends l entry now))),
        )

  some_taken : take (i + 1) effects ≡ [] → ⊥
  some_taken none =
      some_last (take i effects) (get_or effects i e) (sym none ∙ take_more effects i e lt)

  pub next_found : HasFound l c (take (i + 1) effects) new more
  next_found [] legal same = absurd (some_taken same)
  next_found (entry ∷ past) legal same = then_found entry past legal same

-- ---- before the first

no_effects : (l : Limits) (entry : Entry) (past : List Entry)
    → [] ≡ effects_of l (entry ∷ past) → ⊥
no_effects l entry past e = some_last (effects_of l past) (effect_at l entry past) e

none_seen : (c : ℕ) → seen_at [] c ≡ admitted_one
none_seen c =
    elim (nat_lt 0 c) as (λ b. cond b admitted_one admitted_one ≡ admitted_one) [
      | true ↦ refl
      | false ↦ refl
    ]

module _ (l : Limits) (c : ℕ) (scan : Scan) (most : scan.out_max ≡ l.out_max)
    (none : scan.connections ≡ [])
    (table : scan.table ≡ record { limit = l.table_max; rows = [] })
    (prefixes : scan.prefixes ≡ []) where
  at_first : Follows l scan start
  at_first = record {
    most = most;
    limit = ap (λ (t : TableState). t.limit) table;
    count = ap length none;
    modes = λ i. ap (λ x. mode_at x i) none ∙ ap (λ (x : Seen). x.mode) (none_seen i);
    on = λ i. ap (λ x. on_at x i) none
        ∙ ap (λ (x : Seen). is_there [] i && is_live x.standing) (none_seen i);
    waiting = λ i on. ap (λ x. (seen_at x i).waiting) none
        ∙ ap (λ (x : Seen). x.waiting) (none_seen i);
    rows = ap (λ (t : TableState). t.rows) table;
    prefixes = prefixes;
  }

  pub first_found : HasFound l c [] scan []
  unfolding state
  first_found [] legal same = (at_first, refl)
  first_found (entry ∷ past) legal same = absurd (no_effects l entry past same)
