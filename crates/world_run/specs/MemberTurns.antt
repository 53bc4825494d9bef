-- A turn of a client of which no line is printed yet.
use Rattle.std.specs.Prelude.{◌≡◌, List, Result, Ok, Err}
use Rattle.std.specs.declared.option.Option.TheVariants.{None}
use Rattle.resp_stream.specs.Stream.{Stream}
use Rattle.shared_cache.specs.declared.log.ClientCall.{ClientCall}
use Rattle.shared_cache.specs.declared.log.ClientCall.TheVariants as call
use Rattle.shared_cache.specs.declared.log.ClientReply.{ClientReply}
use Rattle.shared_cache.specs.Steps.{client_step}
use Rattle.script_text.specs.declared.line.Line.{Line}
use Rattle.server_links.specs.declared.fault.WorldFault.{WorldFault}
use Rattle.server_links.specs.LinksState.{LinksState}
use Rattle.server_links.specs.Outcome.{Stops}
use Rattle.world_run.specs.WorldState.{LinkEnd, MemberState}
use Rattle.world_run.specs.Members.{seat}
use Rattle.world_run.specs.ClientMoves.{fault_of, turn}

-- no value is got
abbrev pub IsNoValue : ClientCall → Type 0
IsNoValue (call.Ask q) = Unit {0}
IsNoValue (call.Send ws) = Unit {0}
IsNoValue (call.Poll n) = Unit {0}
IsNoValue (call.TakeOut w most) = Unit {0}
IsNoValue (call.Got w v) = ⊥
IsNoValue (call.End w) = Unit {0}

-- but for its log the client is as before
pub record Turned (old new : MemberState) : Type 0 where
  pub name : new.name ≡ old.name
  pub main : new.main ≡ old.main
  pub side : new.side ≡ old.side
  pub setup : new.state.setup ≡ old.state.setup

-- an answer that stops nothing, or why the turn stops its event
abbrev pub TurnGives : ClientCall → MemberState → Result ClientReply WorldFault → MemberState
    → Type 0
TurnGives c m (Ok reply) new =
    Turned m new
    × (client_step m.state.setup m.state.past c
    ≡ record { reply = reply; past = new.state.past })
    × (fault_of reply ≡ None)
TurnGives c m (Err fault) new =
    (e : LinkEnd) (links : LinksState) (reader : Stream) (lines : List Line)
    → Stops (turn c e (seat links m reader)) lines fault (seat links new reader) lines
