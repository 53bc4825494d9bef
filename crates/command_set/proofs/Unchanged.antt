-- A command that writes no key leaves the keyspace, and so do keys that are not due.
use Rattle.std.proofs.Common.{◌≡◌, ◌∙◌, sym, ap, ℕ, List, []}
use Rattle.command_words.specs.declared.command.Command.{Command}
use Rattle.command_words.specs.declared.written.Written.TheVariants.{Keys}
use Rattle.command_words.specs.Effects.{effect}
use Rattle.command_words.specs.Expiry.{without_due}
use Rattle.command_words.specs.Keys.{remove_each}
use Rattle.command_words.specs.Queries.{names, written}
use Rattle.command_words.specs.Space.{Space}
use Rattle.expiry.specs.declared.index.Deadline.{Deadline}
use Rattle.command_set.specs.declared.waiting.Parts.{Parts}
use Rattle.command_set.specs.declared.waiting.Waiting.TheVariants.{Nothing}
use Rattle.command_set.specs.InStep.{InStep, due_keys}
use Rattle.command_set.specs.Priors.{shown, waiting_back}
use Rattle.command_set.proofs.Moves.{row_moves}
use Rattle.command_set.proofs.PastDeadlines.{dropped}
use Rattle.command_set.proofs.TakenBack.{alike}

pub none_due : (moment : ℕ) (index : List Deadline) (s : Space) → InStep index s
    → due_keys moment index ≡ [] → without_due moment s ≡ s
none_due moment index s step none =
    sym (dropped moment s index step) ∙ ap (λ keys. remove_each keys s) none

pub reading_stays : (c : Command) (s : Space) (m : ℕ) → written c ≡ Keys []
    → (effect c s m).space ≡ s
reading_stays c s m is =
    alike _ _ (λ q. (row_moves c s m).stays q (ap (λ w. names w q) is))

pub settled_shown : (parts : Parts) → parts.waiting ≡ Nothing → shown parts ≡ parts.space
settled_shown parts settled = ap (λ w. waiting_back w parts.space) settled

pub nothing_due : (moment : ℕ) (parts : Parts) → InStep parts.index parts.space
    → parts.waiting ≡ Nothing → due_keys moment parts.index ≡ []
    → without_due moment (shown parts) ≡ parts.space
nothing_due moment parts step settled none =
    ap (without_due moment) (settled_shown parts settled)
    ∙ none_due moment parts.index parts.space step none
