-- A line is down only where an answer of its thread is.
use Rattle.std.proofs.Common.{◌≡◌, ◌-◌, ℕ, zero, suc, List, [], ◌∷◌, inl, inr, arith}
use Rattle.std.specs.Prelude.{◌≢◌}
use Rattle.std.specs.List.{All}
use Rattle.script_text.specs.declared.answer_line.ScriptAnswer.TheVariants as said
use Rattle.script_text.specs.declared.script_line.ScriptLine.{ScriptLine}
use Rattle.script_run.specs.declared.answer.Answer.{Answer}
use Rattle.script_run.specs.declared.reports.LineEnd.TheVariants as line
use Rattle.script_run.specs.Reports.{first_of, rest_of, first_at, rest_at, line_end, ends_of}
use Rattle.script_run.specs.Session.{AnyDown, HasDown, LinesAreAnswered}

down_first : (answers : List Answer) → line_end (first_of answers) ≡ line.Said said.Down
    → AnyDown answers
down_first [] e = absurd (let no : line.NoMemory ≡ line.Said said.Down = e in cc)
down_first (answer ∷ answers) e = inl e

down_at : (place : ℕ) (threads : List (List Answer))
    → line_end (first_at place threads) ≡ line.Said said.Down → HasDown threads
down_at place [] e = absurd (let no : line.NoMemory ≡ line.Said said.Down = e in cc)
down_at zero (answers ∷ others) e = inl (down_first answers e)
down_at (suc place) (answers ∷ others) e = inr (down_at place others e)

any_rest : (answers : List Answer) → AnyDown (rest_of answers) → AnyDown answers
any_rest [] d = d
any_rest (answer ∷ answers) d = inr d

down_rest : (place : ℕ) (threads : List (List Answer)) → HasDown (rest_at place threads)
    → HasDown threads
down_rest place [] d = d
down_rest zero (answers ∷ others) (inl d) = inl (any_rest answers d)
down_rest zero (answers ∷ others) (inr d) = inr d
down_rest (suc place) (answers ∷ others) (inl d) = inl d
down_rest (suc place) (answers ∷ others) (inr d) = inr (down_rest place others d)

none_down : (lines : List ScriptLine) (threads : List (List Answer)) → (HasDown threads → ⊥)
    → All (λ e. e ≢ line.Said said.Down) (ends_of lines threads)
none_down [] threads up k d lt = absurd (let no : ⊥ = omega (arith, lt) in no)
none_down (first ∷ lines) threads up zero d lt = λ e. up (down_at (first.thread - 1) threads e)
none_down (first ∷ lines) threads up (suc k) d lt =
    none_down lines (rest_at (first.thread - 1) threads)
    (λ h. up (down_rest (first.thread - 1) threads h)) k d (omega (arith, lt))

pub lines_are_answered : LinesAreAnswered
lines_are_answered s lines answers main side log tickets session up =
    none_down lines answers (λ h. up (session.down h))
