-- What a fetch asks is a query, and each query is served.
use Rattle.std.proofs.Common.{◌≡◌, ℕ, List, [], ◌∷◌, ◌++◌, true, Some, Result, subst, arith}
use Rattle.command_words.specs.Words.{reading}
use Rattle.command_words.specs.Queries.{reads_as_cacheable}
use Rattle.command_words.specs.declared.command.Command.{Command}
use Rattle.command_words.specs.declared.command.WordFault.{WordFault}
use Rattle.serial_model.specs.History.{served, served_reading}
use Rattle.shared_cache.specs.declared.log.LogEntry.{LogEntry}
use Rattle.shared_cache.specs.declared.log.LogEntry.TheVariants.{Ask}
use Rattle.shared_cache.specs.Held.{Setup, Words, open_fetch}
use Rattle.shared_cache.specs.Laws.{IsQuery, LegalLog}
use Rattle.shared_cache.proofs.FetchLaws.{open_was_sent}
use Rattle.shared_cache.proofs.LegalLogs.{newest}

pub older_legal : (s : Setup) (later log : List LogEntry) → LegalLog s (later ++ log)
    → LegalLog s log
older_legal s [] log l = l
older_legal s (e ∷ later) log l = older_legal s later log l.0

pub asked_query : (s : Setup) (log : List LogEntry) (n : ℕ) (q : Words) → LegalLog s log
    → open_fetch s log n ≡ Some q → IsQuery q
asked_query s log n q legal f =
    let w = open_was_sent s log n q f in
    (newest s w.sooner (Ask q)
    (older_legal s w.later (Ask q ∷ w.sooner) (subst (LegalLog s) w.log_is legal))).0

cacheable_served : (r : Result Command WordFault) → reads_as_cacheable r ≡ true
    → reads_as_cacheable (served r) ≡ true
cacheable_served r h = grind arith

pub query_reads : (q : Words) → IsQuery q → reads_as_cacheable (reading q) ≡ true
query_reads q e = grind arith

pub query_served : (q : Words) → IsQuery q → reads_as_cacheable (served_reading q) ≡ true
query_served q e = cacheable_served (reading q) (query_reads q e)
