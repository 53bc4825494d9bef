-- What a connection adds where its link gave nothing: a Tick, or no turn.
use Rattle.std.proofs.Common.{◌≡◌, ℕ, List, [], refl, arith}
use Rattle.std.specs.Prelude.{Option}
use Rattle.std.specs.List.{All}
use Rattle.std.specs.Io.KnownBytes.{Keeps}
use Rattle.edge_links.specs.Counts.{IdleCounted}
use Rattle.edge_links.proofs.Bytes.{consumes_kept, consumes_none}
use Rattle.turn_lock.specs.Own.{Grows}
use Rattle.shared_book.specs.Turns.{IsServerCause, Place, Turn, limits_of, Refuses}
use Rattle.shared_book.specs.declared.turns.Refusal.{Refusal}
use Rattle.conn_worker.specs.declared.connection.Connection.{Connection}
use Rattle.conn_worker.specs.declared.serve.Heard.{Heard}
use Rattle.conn_worker.specs.Visits.{IsWork, Idles, gave, runs_in, EndsService, ended_by}
use Rattle.conn_worker.specs.Visits.{HearsPart, Unticked, Standing}

-- turns that are no Runs and no Takes
pub record Passes (clock : Option ℕ) (id : ℕ) (old new : Place) : Type 0 where
  pub turns : List Turn
  pub grows : Grows old new turns
  pub work : All (IsWork id clock) turns
  pub runs_none : runs_in turns ≡ []
  pub gave_none : gave (limits_of old) turns ≡ []

module _ (clock : Option ℕ) (id : ℕ) (old new : Place) where
  pub idles_pass : (h : Heard) → Idles clock h old new → Passes clock id old new
  idles_pass h t = grind arith

-- nothing came, and the Tick was refused
pub unticked : (clock : Option ℕ) (most : ℕ) (e : Refusal) (c : Connection) (old new : Standing)
    → EndsService e → Refuses IsServerCause e old.place new.place → Keeps old.left new.left
    → IdleCounted old.counts new.counts → HearsPart clock most (ended_by e) c c old new
unticked clock most e c old new ends r kept counted =
    let took = consumes_kept old.left old.left new.left [] (consumes_none old.left) kept in
    Unticked e ends refl r refl took counted
