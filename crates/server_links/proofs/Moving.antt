-- Each move over one link leaves the rest as it is, wherever it comes to.
use Rattle.std.proofs.Common.{◌≡◌, ℕ, List, [], ◌∷◌, ◌++◌, Bool, true, false, cond, Some, None}
use Rattle.std.proofs.Common.{Option, refl, ap, ◌∙◌, arith}
use Rattle.std.proofs.Math.Seq.{drop-nil}
use Rattle.std.specs.Prelude.{◌&&◌, ◌==◌, nat_le, length, take, filter}
use Rattle.resp_stream.specs.declared.fault.FaultPlace.{FaultPlace}
use Rattle.resp_stream.specs.Stream.{Stream}
use Rattle.resp_stream.specs.Parse.{parse}
use Rattle.serial_model.specs.History.{has_ended, reads_on, gives_on, unsent}
use Rattle.serial_model.specs.Steps.{Turn}
use Rattle.server_links.specs.LinkEvent.{LinkEvent, Put, Over}
use Rattle.server_links.specs.declared.link.LinkMove.{LinkMove}
use Rattle.server_links.specs.declared.link.LinkMove.TheVariants as moves
use Rattle.script_text.specs.declared.line.Line.{Line}
use Rattle.server_links.specs.declared.direction.Direction.{Direction}
use Rattle.server_links.specs.declared.direction.Eof.TheVariants.{Read}
use Rattle.server_links.specs.declared.fault.WorldFault.TheVariants.{NothingThere}
use Rattle.server_links.specs.Directions.{finished, put, is_open, is_queued, without}
use Rattle.server_links.specs.Directions.{without_bytes, past_eof, spent}
use Rattle.server_links.specs.EntryLines.{is_entry_line}
use Rattle.server_links.specs.Outcome.{Outcome, stays, does, refuses, and_then}
use Rattle.server_links.specs.Session.{Session, with_past, with_link, with_up, with_down}
use Rattle.server_links.specs.Session.{with_reader}
use Rattle.server_links.specs.Moves.{turned, turn, say, next_read, run_one, run_all, close, stop}
use Rattle.server_links.specs.Moves.{stop_open}
use Rattle.server_links.specs.Moves.{run_requests, run_fed, stopped_at, feed, serve_all, serve}
use Rattle.server_links.specs.Moves.{take_down, all_bytes, send_all, send, eof_lines, read_bytes}
use Rattle.server_links.specs.Moves.{read_eof, receive_all, receive, flow, move_of, moved, end_down}
use Rattle.server_links.proofs.Outcomes.{Meets, meets_stays, meets_once, meets_refuses, meets_then}
use Rattle.server_links.proofs.Outcomes.{meets_weaker, Fronts, fronts_stays, fronts_refuses}
use Rattle.server_links.proofs.Outcomes.{fronts_once, fronts_then}
use Rattle.server_links.proofs.Carries.{Carries, carries_none, carries_more, carries_link}
use Rattle.server_links.proofs.Carries.{run_carries, take_carries, close_carries, told}

pub record Every (s : Session) (m : Outcome Session) : Type 0 where
  pub carries : Meets (Carries s) (Carries s) m
  pub fronts : Fronts m

pub every_named : (s : Session) (m : Outcome Session) → Every s m → m.fault ≡ None
    → m.state.link.name ≡ s.link.name
every_named s m e none = (e.carries.ends none).named

every_then : (s : Session) (m : Outcome Session) (next : Session → Outcome Session) → Every s m
    → ((t : Session) → Every t (next t)) → Every s (and_then m next)
every_then s m next h g = record {
  carries = meets_then (Carries s) (Carries s) (Carries s) m next h.carries
      (λ none c. meets_weaker (Carries m.state) (λ t l. Carries s t (m.lines ++ l))
      (Carries m.state) (λ t l. Carries s t (m.lines ++ l)) (next m.state)
      (λ t l d. carries_more s m.state t m.lines l c d)
      (λ t l d. carries_more s m.state t m.lines l c d) (g m.state).carries);
  fronts = fronts_then m next h.fronts (λ t. (g t).fronts);
}

pub every_none : (s : Session) → Every s (stays s)
every_none s = grind (arith, meets_stays, fronts_stays, carries_none)

pub every_does : (s new : Session) (lines : List Line) → Carries s new lines
    → Every s (does s new lines)
every_does s new lines c = grind (arith, meets_once, carries_none, fronts_once)

-- a change of what is in flight or was read prints nothing
pub every_quiet : (s : Session) (up down : Direction) (reader : Stream)
    → (s.link.down ≡ spent → down ≡ spent)
    → Every s (does s (with_link s (with_reader (with_down (with_up s.link up) down) reader)) [])
every_quiet s up down reader still =
    every_does s _ [] (grind (arith, carries_link))

pub every_turned : (s : Session) (words : List (List ℕ)) (t : Turn)
    → Carries s (with_past s t.past) (told s words t)
    → Every s (turned s words t)
every_turned s words t c = grind (arith, meets_once, carries_none, fronts_once)

-- ---- the server's end

pub every_run_one : (words : List (List ℕ)) (s : Session) → Every s (run_one words s)
unfolding run_one turn
every_run_one words s =
    every_then s _ _ (every_quiet s s.link.up s.link.down (next_read s).link.reader (λ h. h))
    (λ t. every_turned t words _ (run_carries t words))

pub every_run_all : (requests : List (List (List ℕ))) (s : Session) → Every s (run_all requests s)
unfolding run_all
every_run_all [] s = every_none s
every_run_all (words ∷ requests) s =
    every_then s _ _ (every_run_one words s) (λ t. every_run_all requests t)

every_close : (s : Session) → Every s (close s)
unfolding close turn
every_close s = every_turned s [] _ (close_carries s)

every_stop_open : (place : Option FaultPlace) (eof : Bool) (s : Session)
    → Every s (stop_open place eof s)
every_stop_open (Some place) eof s =
    every_then s _ _ (every_does s s _
    (carries_link s s.link _ refl refl (λ name n. refl) refl (λ h. h)))
    every_close
every_stop_open None true s = every_close s
every_stop_open None false s = every_none s

pub every_stop : (place : Option FaultPlace) (eof : Bool) (s : Session) → Every s (stop place eof s)
every_stop place eof s =
    elim (reads_on s.limits s.past s.link.id) as (λ b. Every s
    (cond b (stop_open place eof s) (stays s))) [
      | true ↦ every_stop_open place eof s
      | false ↦ every_none s
    ]

pub every_run_requests : (s : Session) → Every s (run_requests s)
unfolding run_requests
every_run_requests s =
    every_then s _ _ (every_run_all (parse s.link.reader).items s)
    (λ t. every_quiet t t.link.up t.link.down (parse s.link.reader).stream (λ h. h))

every_run_fed : (eof : Bool) (s : Session) → Every s (run_fed eof s)
unfolding run_fed
every_run_fed eof s =
    every_then s _ _ (every_run_requests s)
    (every_stop (stopped_at (parse s.link.reader).fault) eof)

pub every_serve_all : (s : Session) → Every s (serve_all s)
unfolding serve_all
every_serve_all s =
    elim (reads_on s.limits s.past s.link.id) as (λ b. Every s
    (cond b (and_then (feed s.link.up.bytes (past_eof (without_bytes s.link.up)) s)
    (run_fed (is_queued s.link.up.eof))) (stays s))) [
      | true ↦ every_then s _ _ (every_quiet s _ s.link.down _ (λ h. h))
          (every_run_fed (is_queued s.link.up.eof))
      | false ↦ every_none s
    ]

every_serve : (count : Option ℕ) (s : Session) → Every s (serve count s)
every_serve None s = every_serve_all s
every_serve (Some n) s =
    elim (reads_on s.limits s.past s.link.id && nat_le n (length s.link.up.bytes)) as (λ b. Every s
    (cond b (and_then (feed (take n s.link.up.bytes) (without n s.link.up) s) (run_fed false))
    (refuses s NothingThere))) [
      | true ↦ every_then s _ _ (every_quiet s _ s.link.down _ (λ h. h)) (every_run_fed false)
      | false ↦ grind (arith, meets_refuses, carries_none, fronts_refuses)
    ]

pub every_take : (most : ℕ) (s : Session) → Every s (take_down most s)
unfolding take_down
every_take most s =
    every_then s _ _ (every_turned s [] _ (take_carries s most))
    (λ t. every_quiet t t.link.up _ t.link.reader (ap (put _)))

every_finished : (s : Session)
    → Every s (stays (with_link s (with_down s.link (finished s.link.down))))
every_finished s = grind (arith, meets_stays, fronts_stays, carries_link)

every_end : (s : Session) → Every s (end_down s)
every_end s =
    elim (has_ended s.limits s.link.id s.past
    && (length (unsent s.limits s.link.id s.past) == 0)) as (λ b. Every s
    (stays (cond b (with_link s (with_down s.link (finished s.link.down))) s))) [
      | true ↦ every_finished s
      | false ↦ every_none s
    ]

every_take_end : (most : ℕ) (s : Session) → Every s (and_then (take_down most s) end_down)
every_take_end most s = every_then s (take_down most s) end_down (every_take most s) every_end

pub every_send_all : (s : Session) → Every s (send_all s)
every_send_all s =
    elim (is_open s.link.down.eof) as (λ b. Every s
    (cond b (cond (gives_on s.limits s.past s.link.id) (and_then (take_down all_bytes s) end_down)
    (stays (with_link s (with_down s.link (finished s.link.down))))) (stays s))) [
      | true ↦ elim (gives_on s.limits s.past s.link.id) as (λ b. Every s
          (cond b (and_then (take_down all_bytes s) end_down)
          (stays (with_link s (with_down s.link (finished s.link.down)))))) [
            | true ↦ every_take_end all_bytes s
            | false ↦ every_finished s
          ]
      | false ↦ every_none s
    ]

every_send : (count : Option ℕ) (s : Session) → Every s (send count s)
every_send None s = every_send_all s
every_send (Some n) s =
    elim (is_open s.link.down.eof && gives_on s.limits s.past s.link.id && nat_le n
    (length (unsent s.limits s.link.id s.past))) as (λ b. Every s
    (cond b (and_then (take_down n s) end_down) (refuses s NothingThere))) [
      | true ↦ every_take_end n s
      | false ↦ grind (arith, meets_refuses, carries_none, fronts_refuses)
    ]

-- ---- the client's end

no_entry : (link : List ℕ) (b : Bool) → filter is_entry_line (eof_lines link b) ≡ []
no_entry link b = grind arith

pub every_read : (bytes : List ℕ) (down : Direction) (s : Session)
    → (s.link.down ≡ spent → down ≡ spent) → Every s (read_bytes bytes down s)
every_read bytes down s still =
    every_does s _ _ (grind (arith, carries_link))

every_read_eof : (s : Session) → Every s (read_eof s)
every_read_eof s =
    let b = is_queued s.link.down.eof in
    every_does s _ _ (grind (arith, carries_link, no_entry))

pub every_receive_all : (s : Session) → Every s (receive_all s)
unfolding receive_all
every_receive_all s =
    every_then s _ _ (every_read s.link.down.bytes (without_bytes s.link.down) s
    (ap without_bytes)) every_read_eof

without_none : (n : ℕ) → without n spent ≡ spent
without_none n = ap (λ b. record { bytes = b; eof = Read }) (drop-nil n)

every_receive : (count : Option ℕ) (s : Session) → Every s (receive count s)
every_receive None s = every_receive_all s
every_receive (Some n) s =
    elim (nat_le n (length s.link.down.bytes)) as (λ b. Every s
    (cond b (read_bytes (take n s.link.down.bytes) (without n s.link.down) s)
    (refuses s NothingThere))) [
      | true ↦ every_read (take n s.link.down.bytes) (without n s.link.down) s
          (λ h. ap (without n) h ∙ without_none n)
      | false ↦ grind (arith, meets_refuses, carries_none, fronts_refuses)
    ]

-- ---- an event

pub every_flow : (s : Session) → Every s (flow s)
unfolding flow
every_flow s =
    every_then s _ _ (every_serve_all s)
    (λ u. every_then u _ _ (every_send_all u) every_receive_all)

every_say : (bytes : List ℕ) (s : Session) → Every s (say bytes s)
every_say bytes s = every_quiet s (put bytes s.link.up) s.link.down s.link.reader (λ h. h)

every_moved : (move : LinkMove) (s : Session) → Every s (moved move s)
every_moved (moves.Serve count) s = every_serve count s
every_moved (moves.Send count) s = every_send count s
every_moved (moves.Recv count) s = every_receive count s
every_moved moves.Flow s = every_flow s
every_moved moves.HangUp s = grind (arith, meets_stays, fronts_stays, carries_link)
every_moved moves.Cut s = grind (arith, meets_stays, fronts_stays, carries_link)

pub every_move : (event : LinkEvent) (s : Session) → Every s (move_of event s)
every_move (Put name bytes) s = every_say bytes s
every_move (Over name move) s = every_moved move s
every_move event s = every_none s
