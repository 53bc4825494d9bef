-- Some lines of a script that were read, and more.
use Rattle.std.proofs.Common.{◌≡◌, ◌<◌, ◌≤◌, ◌+◌, ℕ, List, [], ◌∷◌, ◌++◌, Some, None, Ok, Err}
use Rattle.std.proofs.Common.{sym, ap, subst, ◌∙◌, append_assoc, append-nil, length, arith}
use Rattle.std.proofs.Common.{length-append, Result}
use Rattle.std.specs.Prelude.{IfSome, ⊤}
use Rattle.std.proofs.lemmas.Bool.Decides.{nat_tests}
use Rattle.std.proofs.lemmas.List.Elements.{All-append, All-cons, All-nil}
use Rattle.std.specs.List.{All}
use Rattle.std.specs.declared.option.Option.{Option}
use Rattle.std.specs.Io.KnownBytes.{Consumes, IsAtEnd}
use Rattle.edge_links.proofs.Bytes.{consumes_more}
use Rattle.edge_lines.specs.Streams.{IsPlain}
use Rattle.edge_lines.specs.TextLines.{ArePlain, ended, text_lines}
use Rattle.edge_lines.proofs.Splitting.{lines_ended, line_alone, line_begun, plain_more, ended_more}
use Rattle.edge_lines.proofs.Splitting.{line_ended}
use Rattle.script_text.specs.Events.{longest_line}
use Rattle.script_text.specs.declared.script_line.ScriptLine.{ScriptLine}
use Rattle.script_text.specs.Scripts.{IsValidLine, script_line_of}
use Rattle.script_text.proofs.Scripts.{script_lines_are_valid}
use Rattle.script_program.specs.declared.read.ScriptRead.{ScriptRead}
use Rattle.script_program.specs.declared.read.ScriptRead.TheVariants as read
use Rattle.script_program.specs.Pushed.{Pushes}
use Rattle.script_program.specs.Scripts.{ReadsAs, line_at, line_then, most_lines, script_of}

too_long : (n : ℕ) (line : List ℕ) → longest_line < length line → line_at n line ≡ None
unfolding script_line_of
too_long n line h = grind (arith, nat_tests)

-- ---- the lines so far, and more behind them

abbrev pub all_then : List ScriptLine → Result (List ScriptLine) ℕ → Result (List ScriptLine) ℕ
all_then calls (Ok more) = Ok (calls ++ more)
all_then calls (Err bad) = Err bad

all_none : (r : Result (List ScriptLine) ℕ) → all_then [] r ≡ r
all_none r = grind arith

all_more : (calls : List ScriptLine) (line : ScriptLine) (n : ℕ) (r : Result (List ScriptLine) ℕ)
    → all_then calls (line_then (Some line) n r) ≡ all_then (calls ++ line ∷ []) r
all_more calls line n r = grind (arith, append_assoc)

-- these lines were read, each with its LF, and are these calls; the next has this number
pub record Standing (number : ℕ) (calls : List ScriptLine) (in0 in1 : Option (List ℕ)) : Type 0
  where
    pub lines : List (List ℕ)
    pub consumed : Consumes in0 in1 (ended lines)
    pub plain : ArePlain lines
    pub then : (more : List (List ℕ))
        → script_of 1 (lines ++ more) ≡ all_then calls (script_of number more)

pub standing_none : (input : Option (List ℕ)) (calls : List ScriptLine) → calls ≡ []
    → Standing 1 calls input input
standing_none input calls none = grind arith

module _ (number : ℕ) (calls : List ScriptLine) (in0 in1 in2 : Option (List ℕ))
    (s : Standing number calls in0 in1) where
  -- one more line, with what may follow it
  line_then_more : (text : List ℕ) (line : ScriptLine) (more : List (List ℕ))
      → line_at number text ≡ Some line
      → script_of 1 (s.lines ++ text ∷ more)
      ≡ all_then (calls ++ line ∷ []) (script_of (number + 1) more)
  line_then_more text line more is =
      let rest = script_of (number + 1) more in
      s.then (text ∷ more) ∙ ap (λ o. all_then calls (line_then o number rest)) is
      ∙ all_more calls line number rest

  pub standing_more : (text items : List ℕ) (line : ScriptLine) (new : List ScriptLine)
      → text ≡ items → IsPlain items → Consumes in1 in2 (items ++ 10 ∷ [])
      → line_at number text ≡ Some line → new ≡ calls ++ line ∷ []
      → Standing (number + 1) new in0 in2
  standing_more text items line new same p c is new_is = record {
    lines = s.lines ++ items ∷ [];
    consumed = subst (λ l. Consumes in0 in2 l) (sym (ended_more s.lines items))
        (consumes_more in0 in1 in2 (ended s.lines) (items ++ 10 ∷ []) s.consumed c);
    plain = plain_more s.lines items s.plain p;
    then = λ more. ap (script_of 1) (append_assoc s.lines (items ∷ []) more)
        ∙ line_then_more items line more (subst (λ t. line_at number t ≡ Some line) same is)
        ∙ ap (λ z. all_then z (script_of (number + 1) more)) (sym new_is);
  }

  -- the whole input, where it is known
  whole_lines : (more : List ℕ) → Consumes in1 in2 more → (P : List (List ℕ) → Type 0)
      → ((rest : List ℕ) → (IsAtEnd in2 → rest ≡ []) → P (s.lines ++ text_lines (more ++ rest)))
      → IfSome in0 (λ text. P (text_lines text))
  whole_lines more c P p = grind (arith, consumes_more, append_assoc, lines_ended)

  pub ends_here : Consumes in1 in2 [] → IsAtEnd in2
      → IfSome in0 (λ text. script_of 1 (text_lines text) ≡ Ok calls)
  ends_here c end = whole_lines [] c (λ ls. script_of 1 ls ≡ Ok calls)
      (grind (arith, append-nil))

  pub ends_last : (text items : List ℕ) (line : ScriptLine) (new : List ScriptLine)
      → text ≡ items → IsPlain items → (items ≡ [] → ⊥) → Consumes in1 in2 items → IsAtEnd in2
      → line_at number text ≡ Some line → new ≡ calls ++ line ∷ []
      → IfSome in0 (λ t. script_of 1 (text_lines t) ≡ Ok new)
  ends_last text items line new same p some c end is new_is =
      whole_lines items c (λ ls. script_of 1 ls ≡ Ok new)
      (grind (arith, append-nil, line_alone, line_then_more))

  pub bad_line : (text items : List ℕ) → text ≡ items → IsPlain items
      → Consumes in1 in2 (items ++ 10 ∷ []) → line_at number text ≡ None
      → IfSome in0 (λ t. script_of 1 (text_lines t) ≡ Err number)
  bad_line text items same p c none =
      whole_lines (items ++ 10 ∷ []) c (λ ls. script_of 1 ls ≡ Err number)
      (grind (arith, append_assoc, line_ended))

  pub bad_last : (text items : List ℕ) → text ≡ items → IsPlain items → (items ≡ [] → ⊥)
      → Consumes in1 in2 items → IsAtEnd in2 → line_at number text ≡ None
      → IfSome in0 (λ t. script_of 1 (text_lines t) ≡ Err number)
  bad_last text items same p some c end none =
      whole_lines items c (λ ls. script_of 1 ls ≡ Err number)
      (grind (arith, append-nil, line_alone))

  pub bad_long : (part : List ℕ) → IsPlain part → longest_line < length part
      → Consumes in1 in2 part → IfSome in0 (λ t. script_of 1 (text_lines t) ≡ Err number)
  bad_long part p long c =
      whole_lines part c (λ ls. script_of 1 ls ≡ Err number)
      (λ rest at.
      let some : part ≡ [] → ⊥ = λ e. (let n : length part ≡ 0 = ap length e in omega arith) in
      let k = line_begun part rest p some in
      grind (arith, too_long, length-append))

-- ---- one line

-- a line of the grammar is not past the last number
pub numbered : (n : ℕ) (text : List ℕ) (line : ScriptLine) → line_at n text ≡ Some line
    → n ≤ most_lines
numbered n text line is = grind arith

pub pushed_valid : (n : ℕ) (text : List ℕ) (line : ScriptLine) (calls new : List ScriptLine)
    → line_at n text ≡ Some line → new ≡ calls ++ line ∷ [] → All IsValidLine calls
    → All IsValidLine new
pushed_valid n text line calls new is new_is all =
    subst (All IsValidLine) (sym new_is)
    (All-append IsValidLine calls (line ∷ []) all
    (All-cons IsValidLine line [] (grind (arith, script_lines_are_valid)) (All-nil IsValidLine)))

-- ---- a line that was not added

always : (o : Option (List ℕ)) → IfSome o (λ t. ⊤)
always o = grind arith

module _ (number : ℕ) (calls : List ScriptLine) (in0 in1 in2 : Option (List ℕ))
    (s : Standing number calls in0 in1) where
  pub line_refused : (r : ScriptRead) (text items : List ℕ) (new : List ScriptLine)
      → text ≡ items → IsPlain items → Consumes in1 in2 (items ++ 10 ∷ [])
      → Pushes (Some r) number text calls new → IfSome in0 (λ t. ReadsAs r (text_lines t))
  line_refused (read.BadLine bad) text items new same p c h =
      subst (λ n. IfSome in0 (λ t. script_of 1 (text_lines t) ≡ Err n)) (sym h.0)
      (bad_line number calls in0 in1 in2 s text items same p c h.1)
  line_refused read.NoMemory text items new same p c h = always in0
  line_refused r text items new same p c h = absurd h

  pub last_refused : (r : ScriptRead) (text items : List ℕ) (new : List ScriptLine)
      → text ≡ items → IsPlain items → (items ≡ [] → ⊥) → Consumes in1 in2 items → IsAtEnd in2
      → Pushes (Some r) number text calls new → IfSome in0 (λ t. ReadsAs r (text_lines t))
  last_refused (read.BadLine bad) text items new same p some c end h =
      subst (λ n. IfSome in0 (λ t. script_of 1 (text_lines t) ≡ Err n)) (sym h.0)
      (bad_last number calls in0 in1 in2 s text items same p some c end h.1)
  last_refused read.NoMemory text items new same p some c end h = always in0
  last_refused r text items new same p some c end h = absurd h
