-- The lines of some events, and of those that are left.
use Rattle.std.proofs.Common.{◌≡◌, ℕ, List, [], ◌∷◌, ◌++◌, append_assoc, append-nil, sym, ap, ◌∙◌}
use Rattle.std.specs.List.{flat_map}
use Rattle.script_text.specs.declared.event.Event.{Event}
use Rattle.script_text.specs.Grammar.{event_text}

pub one_written : (text more all : List ℕ) (left rest : List Event) (event : Event)
    → left ≡ event ∷ rest → text ++ flat_map event_text left ≡ all
    → more ≡ text ++ event_text event → more ++ flat_map event_text rest ≡ all
one_written text more all left rest event taken so_far is =
    ap (λ t. t ++ flat_map event_text rest) is
    ∙ append_assoc text (event_text event) (flat_map event_text rest)
    ∙ ap (λ es. text ++ flat_map event_text es) (sym taken) ∙ so_far

pub all_written : (text all : List ℕ) (left : List Event) → left ≡ []
    → text ++ flat_map event_text left ≡ all → text ≡ all
all_written text all left none so_far =
    sym (append-nil text) ∙ ap (λ es. text ++ flat_map event_text es) (sym none) ∙ so_far
