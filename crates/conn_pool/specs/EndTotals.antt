-- How many connections ended in each way, and how many requests they ran.
use Rattle.std.specs.Prelude.{◌≡◌, ◌<◌, ◌+◌, ◌^◌, ◌==◌, ℕ, cond, min, List, [], ◌∷◌, length}
use Rattle.turn_lock.specs.Counts.{total}
use Rattle.conn_worker.specs.declared.report.Report.{Report}
use Rattle.conn_worker.specs.declared.report.Ended.{Ended}
use Rattle.conn_worker.specs.declared.report.Ended.TheVariants as ended
use Rattle.conn_worker.specs.Numbers.{end_number}
use Rattle.conn_pool.specs.declared.totals.EndTotal.{EndTotal}
use Rattle.conn_pool.specs.declared.totals.Totals.{Totals}

-- 1 for a report of a connection that ended so, and its requests
abbrev pub ends_so : ℕ → Report → ℕ
ends_so end r = cond (end_number r.ended == end) 1 0

abbrev pub requests_so : ℕ → Report → ℕ
requests_so end r = cond (end_number r.ended == end) r.requests 0

-- a number, or the last one of 64 bits
abbrev pub up_to_last : ℕ → ℕ
up_to_last n = min n 18446744073709551615

-- the total of those that ended so
abbrev pub total_of : ℕ → List Report → EndTotal
total_of end reports =
    record {
      connections = up_to_last (total (ends_so end) reports);
      requests = up_to_last (total (requests_so end) reports);
    }

-- the totals of each way to end
unfoldable pub totals_of : List Report → Totals
totals_of reports =
    record {
      peer_end = total_of 1 reports;
      quit = total_of 2 reports;
      dropped = total_of 3 reports;
      bad_request = total_of 4 reports;
      link_fault = total_of 5 reports;
      no_memory = total_of 7 reports;
      worn = total_of 8 reports;
      stopped = total_of 9 reports;
    }

-- the number of each end with its total, in order of the numbers
abbrev pub by_end : Totals → List (ℕ × EndTotal)
by_end t =
    (1, t.peer_end) ∷ (2, t.quit) ∷ (3, t.dropped) ∷ (4, t.bad_request) ∷ (5, t.link_fault)
    ∷ (7, t.no_memory) ∷ (8, t.worn) ∷ (9, t.stopped) ∷ []

-- what one report adds, and what other totals add
abbrev pub more : ℕ → ℕ → EndTotal → EndTotal
more connections requests t =
    record {
      connections = up_to_last (t.connections + connections);
      requests = up_to_last (t.requests + requests);
    }

abbrev pub with_end : Ended → ℕ → Totals → Totals
with_end ended.PeerEnd n t = record t { peer_end = more 1 n t.peer_end }
with_end ended.Quit n t = record t { quit = more 1 n t.quit }
with_end ended.Dropped n t = record t { dropped = more 1 n t.dropped }
with_end (ended.BadRequest fault) n t = record t { bad_request = more 1 n t.bad_request }
with_end ended.LinkFault n t = record t { link_fault = more 1 n t.link_fault }
with_end ended.NoMemory n t = record t { no_memory = more 1 n t.no_memory }
with_end ended.Worn n t = record t { worn = more 1 n t.worn }
with_end ended.Stopped n t = record t { stopped = more 1 n t.stopped }

abbrev pub both : EndTotal → EndTotal → EndTotal
both other t = more other.connections other.requests t

abbrev pub merged : Totals → Totals → Totals
merged other t =
    record {
      peer_end = both other.peer_end t.peer_end;
      quit = both other.quit t.quit;
      dropped = both other.dropped t.dropped;
      bad_request = both other.bad_request t.bad_request;
      link_fault = both other.link_fault t.link_fault;
      no_memory = both other.no_memory t.no_memory;
      worn = both other.worn t.worn;
      stopped = both other.stopped t.stopped;
    }

-- over all ways to end they are the number of reports and the sum of all requests
abbrev pub AddUp : Type 0
AddUp =
    (reports : List Report)
    → (length reports < 2 ^ 64
    → total (λ (p : ℕ × EndTotal). p.1.connections) (by_end (totals_of reports))
    ≡ length reports)
    × (total (λ (r : Report). r.requests) reports < 2 ^ 64
    → total (λ (p : ℕ × EndTotal). p.1.requests) (by_end (totals_of reports))
    ≡ total (λ (r : Report). r.requests) reports)
