-- What a connection's own Runs make of it, one after another.
use Rattle.std.proofs.Common.{◌≡◌, ◌+◌, ◌<◌, ◌≤◌, ℕ, suc, List, [], ◌∷◌, ◌++◌, length, true}
use Rattle.std.proofs.Common.{false, cond, ap, sym, subst, ◌∙◌, arith, Some, length-append, refl}
use Rattle.std.proofs.Common.{inl, inr}
use Rattle.std.proofs.lemmas.Bool.{cases_lt, eqb-true}
use Rattle.std.specs.Prelude.{slice_get, ◌==◌}
use Rattle.resp_value.specs.Lists.{IsPrefix}
use Rattle.track_modes.specs.ModeState.{ModeState, new_mode}
use Rattle.serial_model.specs.declared.history.Limits.{Limits}
use Rattle.serial_model.specs.declared.history.Entry.{Entry}
use Rattle.serial_model.specs.declared.history.Entry.TheVariants.{Admit, Run, Tick, Take, Close}
use Rattle.serial_model.specs.History.{made, mode, runs_of, state}
use Rattle.serial_model.proofs.Ends.{mode_by_own_runs}
use Rattle.serial_model.proofs.ModeSteps.{mode_other, mode_own}
use Rattle.currency.proofs.Lists.{get_front, get_last}
use Rattle.currency.proofs.Runs.{Older, older_more, older_tail, older_within, runs_older}
use Rattle.currency.proofs.Runs.{same_older}

-- the words of a Run stand behind those of the Runs before it
pub own_words : (c id m : ℕ) (words : List (List ℕ)) (up past : List Entry) → (id == c) ≡ true
    → Older (Run id words m ∷ up) past
    → slice_get (runs_of c past) (length (runs_of c up)) ≡ Some words
own_words c id m words up past own o =
    let n = length (runs_of c up) in
    let r = runs_older c (Run id words m ∷ up) past o in
    ap (λ ws. slice_get ws n) (sym r.1)
    ∙ get_front (runs_of c (Run id words m ∷ up)) r.0 n words
    (ap (λ b. slice_get (cond b (runs_of c up ++ words ∷ []) (runs_of c up)) n) own
    ∙ get_last (runs_of c up) words)

-- a property of each of them, by who ran what at which moment, and of the past before it
abbrev pub EachRun : (ℕ → ℕ → List (List ℕ) → List Entry → Type 0) → ℕ → List Entry → Type 0
EachRun P c past =
    (id m : ℕ) (words : List (List ℕ)) (up : List Entry) → Older (Run id words m ∷ up) past
    → (id == c) ≡ true → P id m words up

pub each_older : (P : ℕ → ℕ → List (List ℕ) → List Entry → Type 0) (c : ℕ) (up past : List Entry)
    → Older up past → EachRun P c past → EachRun P c up
each_older P c up past o h id m words sooner before own =
    h id m words sooner (older_more (Run id words m ∷ sooner) up past before o) own

-- what each of some commands is, is each that was run of these
pub each_of : (P : List (List ℕ) → Type 0) (c : ℕ) (past : List Entry)
    (commands : List (List (List ℕ))) → IsPrefix (runs_of c past) commands
    → ((n : ℕ) (words : List (List ℕ)) → slice_get commands n ≡ Some words → P words)
    → EachRun (λ id m words up. P words) c past
each_of P c past commands p all id m words up o own =
    let n = length (runs_of c up) in
    all n words
    (ap (λ cs. slice_get cs n) (sym p.1)
    ∙ get_front (runs_of c past) p.0 n words (own_words c id m words up past own o))

pub prefix_le : {A : Type 0} (xs ys : List A) → IsPrefix xs ys → length xs ≤ length ys
prefix_le xs ys p = omega (arith, length-append xs p.0, ap length p.1)

-- as many ran before an older entry, or fewer
pub runs_within : (c : ℕ) (up past : List Entry) → Older up past
    → length (runs_of c up) ≤ length (runs_of c past)
runs_within c up past o = prefix_le (runs_of c up) (runs_of c past) (runs_older c up past o)

pub runs_counted : (c id m : ℕ) (words : List (List ℕ)) (up : List Entry) → (id == c) ≡ true
    → length (runs_of c (Run id words m ∷ up)) ≡ length (runs_of c up) + 1
runs_counted c id m words up own =
    ap (λ b. length (cond b (runs_of c up ++ words ∷ []) (runs_of c up))) own
    ∙ length-append (runs_of c up) (words ∷ [])

-- the Run of a number is one
module _ (c : ℕ) (past : List Entry) where
  before_another : (id m : ℕ) (words : List (List ℕ)) (up other : List Entry) → (id == c) ≡ true
      → Older (Run id words m ∷ up) past → Older other past
      → length (runs_of c up) ≡ length (runs_of c other) → length up < length other → ⊥
  before_another id m words up other own o p same lt =
      omega (
        arith,
        same,
        runs_counted c id m words up own,
        runs_within c (Run id words m ∷ up) other
            (older_within (Run id words m ∷ up) other past o p (omega (arith, lt))),
      )

  pub one_run : (i m j n : ℕ) (ws us : List (List ℕ)) (up vp : List Entry) → (i == c) ≡ true
      → (j == c) ≡ true → Older (Run i ws m ∷ up) past → Older (Run j us n ∷ vp) past
      → length (runs_of c up) ≡ length (runs_of c vp) → Run i ws m ∷ up ≡ Run j us n ∷ vp
  one_run i m j n ws us up vp own also o p same =
      same_older past (Run i ws m ∷ up) (Run j us n ∷ vp) o p
      (elim (cases_lt (length up) (length vp)) [
        | inl lt ↦
            absurd (before_another i m ws up vp own o (older_tail (Run j us n) vp past p) same lt)
        | inr ge ↦ elim (cases_lt (length vp) (length up)) [
          | inl gt ↦
              absurd (before_another j n us vp up also p (older_tail (Run i ws m) up past o)
              (sym same) gt)
          | inr le ↦ omega (arith, ge, le)
        ]
      ])

-- what each of them leaves, by how many there were, holds of the connection's mode
module _ (l : Limits) (c : ℕ) (past : List Entry) (P : ℕ → ModeState → Type 0)
    (first : P 0 new_mode)
    (step : (id m : ℕ) (words : List (List ℕ)) (up : List Entry) → (id == c) ≡ true
    → Older (Run id words m ∷ up) past → P (length (runs_of c up)) (mode l id up)
    → P (suc (length (runs_of c up))) (made l up id words m).mode) where
  pub by_runs : (up : List Entry) → Older up past → P (length (runs_of c up)) (mode l c up)
  unfolding state
  by_runs [] o = first
  by_runs (Admit id ∷ up) o =
      subst (P (length (runs_of c up))) (sym (mode_by_own_runs l c (Admit id) up tt))
      (by_runs up (older_tail (Admit id) up past o))
  by_runs (Tick m ∷ up) o =
      subst (P (length (runs_of c up))) (sym (mode_by_own_runs l c (Tick m) up tt))
      (by_runs up (older_tail (Tick m) up past o))
  by_runs (Take id max ∷ up) o =
      subst (P (length (runs_of c up))) (sym (mode_by_own_runs l c (Take id max) up tt))
      (by_runs up (older_tail (Take id max) up past o))
  by_runs (Close id ∷ up) o =
      subst (P (length (runs_of c up))) (sym (mode_by_own_runs l c (Close id) up tt))
      (by_runs up (older_tail (Close id) up past o))
  by_runs (Run id words m ∷ up) o =
      let before = by_runs up (older_tail (Run id words m) up past o) in
      elim (id == c) as (λ b. (id == c) ≡ b
      → P (length (cond b (runs_of c up ++ words ∷ []) (runs_of c up)))
      (mode l c (Run id words m ∷ up))) [
        | true ↦ λ own.
            let count : suc (length (runs_of c up)) ≡ length (runs_of c up ++ words ∷ []) =
            omega (arith, length-append (runs_of c up) (words ∷ [])) in
            subst (λ k. P k (mode l c (Run id words m ∷ up))) count
            (subst (P (suc (length (runs_of c up)))) (sym (mode_own l c id m words up own))
            (step id m words up own o
            (subst (λ d. P (length (runs_of c up)) (mode l d up)) (sym (eqb-true id c own))
            before)))
        | false ↦ λ apart.
            subst (P (length (runs_of c up))) (sym (mode_other l c id m words up apart)) before
      ] refl
