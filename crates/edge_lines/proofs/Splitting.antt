-- A text and its lines.
use Rattle.std.proofs.Common.{◌≡◌, ℕ, List, [], ◌∷◌, ◌++◌, cond, refl, ap, sym, ◌∙◌, append_assoc}
use Rattle.std.proofs.Common.{ne_eqb}
use Rattle.edge_lines.specs.Streams.{IsPlain}
use Rattle.edge_lines.specs.TextLines.{ArePlain, ended, with_byte, text_lines}

byte_line : (b : ℕ) (bytes : List ℕ) → (b ≡ 10 → ⊥)
    → text_lines (b ∷ bytes) ≡ with_byte b (text_lines bytes)
byte_line b bytes n =
    ap (λ t. cond t ([] ∷ text_lines bytes) (with_byte b (text_lines bytes))) (ne_eqb b 10 n)

pub line_ended : (line rest : List ℕ) → IsPlain line
    → text_lines (line ++ 10 ∷ rest) ≡ line ∷ text_lines rest
line_ended [] rest p = refl
line_ended (b ∷ line) rest p = byte_line b (line ++ 10 ∷ rest) p.0
    ∙ ap (with_byte b) (line_ended line rest p.1)

pub lines_ended : (lines : List (List ℕ)) (rest : List ℕ) → ArePlain lines
    → text_lines (ended lines ++ rest) ≡ lines ++ text_lines rest
lines_ended [] rest p = refl
lines_ended (line ∷ lines) rest p =
    ap text_lines (append_assoc line (10 ∷ ended lines) rest)
    ∙ line_ended line (ended lines ++ rest) p.0
    ∙ ap (λ l. line ∷ l) (lines_ended lines rest p.1)

-- a line that the text ends
pub line_alone : (line : List ℕ) → IsPlain line → (line ≡ [] → ⊥) → text_lines line ≡ line ∷ []
line_alone [] p n = absurd (n refl)
line_alone (b ∷ []) p n = byte_line b [] p.0
line_alone (b ∷ c ∷ line) p n = byte_line b (c ∷ line) p.0
    ∙ ap (with_byte b) (line_alone (c ∷ line) p.1 (λ e. let no : ⊥ = cc in no))

byte_first : (b : ℕ) (lines : List (List ℕ)) → (more : List ℕ) × (rest : List (List ℕ))
    × (with_byte b lines ≡ (b ∷ more) ∷ rest)
byte_first b [] = ([], [], refl)
byte_first b (line ∷ lines) = (line, lines, refl)

-- bytes without an LF begin the first line
pub line_begun : (line rest : List ℕ) → IsPlain line → (line ≡ [] → ⊥) → (more : List ℕ)
    × (lines : List (List ℕ)) × (text_lines (line ++ rest) ≡ (line ++ more) ∷ lines)
line_begun [] rest p n = absurd (n refl)
line_begun (b ∷ []) rest p n = let k = byte_first b (text_lines rest) in
    (k.0, k.1, byte_line b rest p.0 ∙ k.2)
line_begun (b ∷ c ∷ line) rest p n =
    let k = line_begun (c ∷ line) rest p.1 (λ e. let no : ⊥ = cc in no) in
    (k.0, k.1, byte_line b (c ∷ line ++ rest) p.0 ∙ ap (with_byte b) k.2)

pub plain_more : (lines : List (List ℕ)) (line : List ℕ) → ArePlain lines → IsPlain line
    → ArePlain (lines ++ line ∷ [])
plain_more [] line p q = (q, tt)
plain_more (l ∷ lines) line p q = (p.0, plain_more lines line p.1 q)

pub ended_more : (lines : List (List ℕ)) (line : List ℕ)
    → ended (lines ++ line ∷ []) ≡ ended lines ++ (line ++ 10 ∷ [])
ended_more [] line = refl
ended_more (l ∷ lines) line = ap (λ x. l ++ 10 ∷ x) (ended_more lines line)
    ∙ sym (append_assoc l (10 ∷ ended lines) (line ++ 10 ∷ []))
