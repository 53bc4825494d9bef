use Rattle.std.proofs.Common.{◌∙◌, sym, ℕ, List, Bor}
use Rattle.script_text.proofs.Prefixes.{no_option_left, one_word_left}
use Rattle.script_text.proofs.client_line.read_prefixes.Goals as goal
use Rattle.script_text.proofs.client_line.read_prefixes.Goals.{then-is_empty, else-is_empty}

pub returns : goal.returns
returns c = elim c.if-is_empty.branch [
  | then-is_empty w ↦ w.result-is
      ∙ sym (no_option_left (λ (p : Bor (List ℕ)). p.now) c.prefixes.rest.now c.prefixes.prefixes
      w.if-is_empty.ensures) ∙ sym c.prefixes.invariant
  | else-is_empty w ↦ w.result-is
      ∙ sym (one_word_left (λ (p : Bor (List ℕ)). p.now) c.prefixes.rest.now c.prefixes.prefixes
      w.if-is_empty.ensures c.in_default.len_below) ∙ sym c.prefixes.invariant
]
