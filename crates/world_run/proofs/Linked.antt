-- What a client's moves do to the links in the code.
use Rattle.std.proofs.Common.{◌≡◌, ℕ, List, length, Option, Some, None, Result, length-set, arith}
use Rattle.script_text.specs.declared.line.Line.{Line}
use Rattle.server_links.specs.declared.fault.WorldFault.{WorldFault}
use Rattle.server_links.specs.declared.link.LinkMove.{LinkMove}
use Rattle.server_links.specs.LinkEvent.{LinkEvent, Over, Put}
use Rattle.server_links.specs.LinksState.{LinksState}
use Rattle.server_links.specs.LinkSteps.{over, over_named, step}
use Rattle.server_links.specs.Outcome.{Gives, Outcome}
use Rattle.server_links.specs.Session.{Session, session_at, with_session}
use Rattle.server_links.proofs.Outcomes.{gives_reached, gives_within, reached_within}
use Rattle.resp_stream.specs.Stream.{Stream}
use Rattle.world_run.specs.WorldState.{MemberState}
use Rattle.world_run.specs.Members.{links_do, seat, with_links}

pub links_give : (ls new : LinksState) (m : MemberState) (reader : Stream) (e : LinkEvent)
    (lines : List Line) (r : Result (Unit {0}) WorldFault) (lines' : List Line)
    → Gives (step ls e) lines r new lines'
    → Gives (links_do e (seat ls m reader)) lines r (seat new m reader) lines'
unfolding links_do
links_give ls new m reader e lines r lines' g =
    gives_within (with_links (seat ls m reader)) (step ls e) lines r new lines' g

-- the same server, and as many links
pub record Kept (old new : LinksState) : Type 0 where
  pub limits : new.limits ≡ old.limits
  pub count : length new.links ≡ length old.links

named_kept : (o : Option ℕ) (move : Session → Outcome Session) (w new : LinksState)
    (lines : List Line) (r : Result (Unit {0}) WorldFault) (lines' : List Line)
    → Gives (over_named o move w) lines r new lines' → Kept w new
unfolding over
named_kept None move w new lines r lines' g = grind (arith, gives_reached)
named_kept (Some at) move w new lines r lines' g =
    let h = gives_reached (over at move w) lines r new lines' g in
    let x = reached_within (with_session at w) (move (session_at at w)) new h.0 h.1 in
    grind (arith, length-set)

pub put_kept : (name bytes : List ℕ) (w new : LinksState) (lines : List Line)
    (r : Result (Unit {0}) WorldFault) (lines' : List Line)
    → Gives (step w (Put name bytes)) lines r new lines' → Kept w new
unfolding step
put_kept name bytes w new lines r lines' g = grind (arith, named_kept)

pub over_kept : (name : List ℕ) (move : LinkMove) (w new : LinksState) (lines : List Line)
    (r : Result (Unit {0}) WorldFault) (lines' : List Line)
    → Gives (step w (Over name move)) lines r new lines' → Kept w new
unfolding step
over_kept name move w new lines r lines' g = grind (arith, named_kept)
