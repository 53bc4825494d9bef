-- A visit as a whole: all that a connection asked for ran, up to where its peer, its QUIT or its
-- bytes ended it, unless what the link or the seat shows is why not.
use Rattle.std.specs.Prelude.{◌≡◌, ◌≤◌, ⊤, ℕ, List, Option, Some, None, length, true}
use Rattle.std.specs.Io.KnownBytes.{Consumes}
use Rattle.turn_lock.specs.declared.rule.TheConstants.{LAST_TICKET}
use Rattle.resp_stream.specs.Parse.{requests_of}
use Rattle.edge_links.specs.declared.counts.Counts.{Counts}
use Rattle.edge_links.specs.Counts.{Counted}
use Rattle.serial_model.specs.History.{has_ended, is_stopped}
use Rattle.turn_lock.specs.Own.{past_of}
use Rattle.shared_book.specs.Turns.{Place, limits_of}
use Rattle.conn_worker.specs.declared.report.Report.{Report}
use Rattle.conn_worker.specs.declared.report.Ended.{Ended}
use Rattle.conn_worker.specs.declared.report.Ended.TheVariants as ended
use Rattle.conn_worker.specs.declared.connection.Stop.{Stop}
use Rattle.conn_worker.specs.declared.connection.Stop.TheVariants as stop
use Rattle.conn_worker.specs.Quits.{stop_in, up_to_quit}

-- so many requests ran, which are all that were read, and this is why no more were, if for any
-- reason but the link's end
abbrev pub AllRan : Option Stop → ℕ → Option (List ℕ) → Option (List ℕ) → Type 0
AllRan behind requests left0 left1 =
    (heard : List ℕ) × Consumes left0 left1 heard × (stop_in heard ≡ behind)
    × (requests ≡ length (up_to_quit (requests_of heard)))

-- Why a connection is served no longer, by what its link had to read and had counted before and
-- after, and by what the seat shows: its link ended, a QUIT ran or the bytes have a fault, and all
-- requests ran; the connection has ended in the history; the link failed; no ticket was left; or a
-- SHUTDOWN ran. Want of memory is free.
abbrev pub EndShows : Ended → Report → Option (List ℕ) → Option (List ℕ) → Counts → Counts → Place
    → Type 0
EndShows ended.PeerEnd r left0 left1 old new k =
    Counted old.ends new.ends × AllRan None r.requests left0 left1
EndShows ended.Quit r left0 left1 old new k = AllRan (Some stop.Quit) r.requests left0 left1
EndShows ended.Dropped r left0 left1 old new k = has_ended (limits_of k) r.id (past_of k) ≡ true
EndShows (ended.BadRequest fault) r left0 left1 old new k =
    AllRan (Some (stop.Fault fault)) r.requests left0 left1
EndShows ended.LinkFault r left0 left1 old new k = Counted old.faults new.faults
EndShows ended.NoMemory r left0 left1 old new k = ⊤
EndShows ended.Worn r left0 left1 old new k = LAST_TICKET ≤ k.tickets
EndShows ended.Stopped r left0 left1 old new k =
    is_stopped (limits_of k) (past_of k) ≡ true
