-- Which requests of a connection run: those up to its QUIT, behind which none is read.
use Rattle.std.specs.Prelude.{ℕ, List, [], ◌∷◌, Bool, false, ◌==◌, ◌&&◌, ◌||◌}
use Rattle.std.specs.Prelude.{if◌then◌else◌, Option, Some, None}
use Rattle.resp_stream.specs.Parse.{parse, requests_of}
use Rattle.resp_stream.specs.Stream.{begun, fed}
use Rattle.resp_stream.specs.declared.fault.StreamFault.{StreamFault}
use Rattle.serial_model.specs.declared.history.Entry.{Entry}
use Rattle.serial_model.specs.declared.history.Entry.TheVariants.{Admit, Run, Tick, Take, Close}
use Rattle.serial_model.specs.History.{is_quit}
use Rattle.conn_worker.specs.declared.report.Ended.{Ended}
use Rattle.conn_worker.specs.declared.report.Ended.TheVariants as ended
use Rattle.conn_worker.specs.declared.connection.Stop.{Stop}
use Rattle.conn_worker.specs.declared.connection.Stop.TheVariants as stop

-- the first of them, with the first QUIT as the last; all where there is no QUIT
abbrev pub up_to_quit : List (List (List ℕ)) → List (List (List ℕ))
up_to_quit [] = []
up_to_quit (words ∷ requests) = words ∷ (if is_quit words then [] else up_to_quit requests)

abbrev pub stop_at : Option StreamFault → Option Stop
stop_at None = None
stop_at (Some fault) = Some (stop.Fault fault)

-- why no request is read behind these, where the bytes behind them have this fault or none
abbrev pub stop_behind : List (List (List ℕ)) → Option StreamFault → Option Stop
stop_behind [] fault = stop_at fault
stop_behind (words ∷ requests) fault =
    if is_quit words then Some stop.Quit else stop_behind requests fault

-- the fault of a text, behind its requests
abbrev pub fault_in : List ℕ → Option StreamFault
fault_in heard = (parse (fed begun heard)).fault

-- why nothing is read behind a text, if that is so
abbrev pub stop_in : List ℕ → Option Stop
stop_in heard = stop_behind (requests_of heard) (fault_in heard)

-- how a connection ends of which nothing is read any more
abbrev pub ended_at : Stop → Ended
ended_at (stop.Fault fault) = ended.BadRequest fault
ended_at stop.Quit = ended.Quit

-- a QUIT of the connection ran
abbrev pub has_quit : ℕ → List Entry → Bool
has_quit id [] = false
has_quit id (Admit n ∷ past) = has_quit id past
has_quit id (Run n words moment ∷ past) = ((n == id) && is_quit words) || has_quit id past
has_quit id (Tick moment ∷ past) = has_quit id past
has_quit id (Take n most ∷ past) = has_quit id past
has_quit id (Close n ∷ past) = has_quit id past
