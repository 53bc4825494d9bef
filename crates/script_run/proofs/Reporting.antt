-- The answers of the threads in the order of the lines, and what is printed of them.
use Rattle.std.proofs.Common.{◌≡◌, ◌<◌, ◌+◌, ◌-◌, ℕ, zero, suc, List, [], ◌∷◌, ◌++◌, cond, length}
use Rattle.std.proofs.Common.{drop, refl, sym, ap, ◌∙◌, arith, append_assoc, append-nil}
use Rattle.std.proofs.Common.{length-append, slice_index_or, slice_set}
use Rattle.std.proofs.lemmas.List.{drop_more}
use Rattle.script_text.specs.declared.script_line.ScriptLine.{ScriptLine}
use Rattle.script_run.specs.declared.answer.Answer.{Answer}
use Rattle.script_run.specs.declared.reports.LineEnd.{LineEnd}
use Rattle.script_run.specs.declared.reports.Tally.{Tally}
use Rattle.script_run.specs.Reports.{first_of, rest_of, first_at, rest_at, line_end, ends_of}
use Rattle.script_run.specs.Reports.{no_tally, note_end, is_printing, said_text, text_after}
use Rattle.script_run.specs.Reports.{tally_after}

-- ---- the answers of the thread at a place

pub first_there : (qs : List (List Answer)) (n : ℕ) (q : List Answer)
    → q ≡ slice_index_or qs n q → n < length qs → first_of q ≡ first_at n qs
first_there [] n q e lt = absurd (omega (arith, lt))
first_there (p ∷ qs) zero q e lt = ap first_of e
first_there (p ∷ qs) (suc n) q e lt = first_there qs n q e (omega (arith, lt))

pub rest_there : (qs : List (List Answer)) (n : ℕ) (q : List Answer)
    → q ≡ slice_index_or qs n q → n < length qs → slice_set qs n (rest_of q) ≡ rest_at n qs
rest_there [] n q e lt = absurd (omega (arith, lt))
rest_there (p ∷ qs) zero q e lt = ap (λ x. rest_of x ∷ qs) e
rest_there (p ∷ qs) (suc n) q e lt = grind (arith, rest_there qs n q e (omega (arith, lt)))

pub rest_length : (n : ℕ) (qs : List (List Answer)) → length (rest_at n qs) ≡ length qs
rest_length n [] = refl
rest_length zero (q ∷ qs) = refl
rest_length (suc n) (q ∷ qs) = ap suc (rest_length n qs)

-- ---- one more line

tally_more : (t : Tally) (xs : List LineEnd) (e : LineEnd)
    → tally_after t (xs ++ e ∷ []) ≡ note_end (tally_after t xs) e
tally_more t [] e = refl
tally_more t (x ∷ xs) e = tally_more (note_end t x) xs e

abbrev printed_by : Tally → ℕ → LineEnd → List ℕ
printed_by t line e = cond (is_printing t) (said_text line e) []

text_more : (t : Tally) (n m : ℕ) (xs : List LineEnd) (e : LineEnd) → m ≡ length xs + n
    → text_after t n (xs ++ e ∷ [])
    ≡ text_after t n xs ++ printed_by (tally_after t (xs ++ e ∷ [])) m e
text_more t n m [] e k = grind (arith, append-nil)
text_more t n m (x ∷ xs) e k =
    grind (arith, append_assoc, text_more (note_end t x) (n + 1) m xs e (omega (arith, k)))

-- What was printed of the lines before this place. `given` are the answers of the threads at the
-- start, and `threads` those that are left.
pub record Printed (lines : List ScriptLine) (given : List (List Answer)) (place : ℕ)
    (threads : List (List Answer)) (tally : Tally) (before text : List ℕ) : Type 0 where
  pub first : List LineEnd
  pub ends : first ++ ends_of (drop place lines) threads ≡ ends_of lines given
  pub many : length first ≡ place
  pub tally_is : tally ≡ tally_after no_tally first
  pub text_is : text ≡ before ++ text_after no_tally 1 first

module _ (lines : List ScriptLine) (given : List (List Answer)) (n : ℕ) (line : ScriptLine)
    (qs : List (List Answer)) (is : line ≡ slice_index_or lines n line) (lt : n < length lines)
    (t : Tally) (before text : List ℕ) (p : Printed lines given n qs t before text) where
  abbrev more : List (List Answer) → List LineEnd
  more others = ends_of (drop (n + 1) lines) others

  abbrev others : List (List Answer)
  others = rest_at (line.thread - 1) qs

  ends_here : ends_of (drop n lines) qs
      ≡ line_end (first_at (line.thread - 1) qs) ∷ more others
  ends_here = grind (arith, drop_more)

  pub line_printed : (e : LineEnd) (u : Tally) (rs : List (List Answer))
      → e ≡ line_end (first_at (line.thread - 1) qs) → u ≡ note_end t e → rs ≡ others
      → (out : List ℕ) → out ≡ text ++ cond (is_printing u) (said_text (n + 1) e) []
      → Printed lines given (n + 1) rs u before out
  line_printed e u rs e_is u_is rs_is out out_is =
      let told : u ≡ tally_after no_tally (p.first ++ e ∷ []) =
      u_is ∙ ap (λ z. note_end z e) p.tally_is ∙ sym (tally_more no_tally p.first e) in
      grind (arith, append_assoc, more, others, ends_here, length-append, text_more)
