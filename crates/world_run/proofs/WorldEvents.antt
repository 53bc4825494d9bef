-- What stands of a world with clients after each event, and wherever one is broken off.
use Rattle.std.proofs.Common.{◌≡◌, ◌<◌, ℕ, List, [], ◌++◌, Bool, true, false, cond, Some, None}
use Rattle.std.proofs.Common.{Option, length, refl, sym, ap, subst, ◌∙◌, append-nil, arith}
use Rattle.std.specs.Prelude.{◌==◌}
use Rattle.std.specs.Str.{bytes_eq}
use Rattle.std.proofs.lemmas.Bool.{eqb-true}
use Rattle.resp_value.specs.Spelling.{request_spelling}
use Rattle.serial_model.specs.declared.history.Limits.{Limits}
use Rattle.shared_cache.specs.declared.log.ClientCall.TheVariants as call
use Rattle.script_text.specs.declared.event.Event.{Event}
use Rattle.script_text.specs.declared.event.Event.TheVariants.{Raw, Say, Bytes, Client, Out, Serve}
use Rattle.script_text.specs.declared.event.Event.TheVariants.{Send, Recv, Flow, FlowAll, Cut, Ask}
use Rattle.script_text.specs.declared.event.Event.TheVariants.{Do, Poll, Show, Now, Tick}
use Rattle.script_text.specs.declared.line.Line.{Line}
use Rattle.script_text.specs.Valid.{IsValid}
use Rattle.server_links.specs.declared.fault.WorldFault.TheVariants.{NoName, NothingThere}
use Rattle.server_links.specs.declared.link.LinkMove.TheVariants as moves
use Rattle.server_links.specs.LinkEvent as link_event
use Rattle.server_links.specs.LinkEvent.{LinkEvent}
use Rattle.server_links.specs.LinkSteps.{place_of}
use Rattle.server_links.specs.Outcome.{Outcome}
use Rattle.server_links.specs.OneHistory as links_said
use Rattle.server_links.specs.Transcript as links_heard
use Rattle.server_links.specs.Transcript.{is_place, reads_at}
use Rattle.server_links.proofs.LinksStand.{not_equal}
use Rattle.server_links.proofs.Names.{placed, unplaced}
use Rattle.world_run.specs.WorldState.{LinkEnd, WorldState, client_at, end_at, end_of_link}
use Rattle.world_run.specs.WorldState.{place_on}
use Rattle.world_run.specs.Members.{Seat, seat_at}
use Rattle.world_run.specs.ClientMoves as client
use Rattle.world_run.specs.ClientMoves.{show, turn}
use Rattle.world_run.specs.WorldHistory.{said_by}
use Rattle.world_run.specs.WorldTranscript.{flow_heard, heard_at}
use Rattle.world_run.specs.World.{end_named, flow_step, links_step, named_does, out_step, raw_out}
use Rattle.world_run.specs.World.{recv_step, said_step, step}
use Rattle.world_run.proofs.Clients.{ask_stands, out_stands, poll_stands, receive_stands}
use Rattle.world_run.proofs.Clients.{send_stands, show_stands}
use Rattle.world_run.proofs.Flowing.{flow_all_comes, flow_one, only_at}
use Rattle.world_run.proofs.Joining.{client_comes, raw_comes}
use Rattle.world_run.proofs.LinkEvents.{Comes, comes_apart, comes_as, comes_client, comes_refused}
use Rattle.world_run.proofs.LinkEvents.{comes_same, comes_unread}
use Rattle.world_run.proofs.Links.{IsUnread, name_of_event}
use Rattle.world_run.proofs.Names.{end_named_there, end_nowhere, end_there}
use Rattle.world_run.proofs.Seats.{IsEnd, One, Seating, Steady}
use Rattle.world_run.proofs.Worlds.{Holds, WorldStands}

nothing : (b : Bool) → cond {A = List ℕ} b [] [] ≡ []
nothing b = grind arith

module _ (l : Limits) (heard : ℕ → List ℕ) (raw : List ℕ → List ℕ) (lines : List Line)
    (w : WorldState) (h : WorldStands l heard raw lines w) where
  -- wherever an event comes to
  abbrev pub EventComes : Event → Type 0
  EventComes e =
      Comes l (λ i. heard i ++ heard_at w i e) (λ n. raw n ++ said_by n e) lines (step w e)

  is_end : (at : ℕ) → at < length w.ends → IsEnd at w
  is_end at lt = (lt, (h.clients at lt).0)

  no_heard : (i : ℕ) → heard i ≡ heard i ++ []
  no_heard i = sym (append-nil (heard i))

  no_raw : (n : List ℕ) → raw n ≡ raw n ++ []
  no_raw n = sym (append-nil (raw n))

  -- one by which nothing is heard or said
  silent : (e : Event) → ((i : ℕ) → heard_at w i e ≡ []) → ((n : List ℕ) → said_by n e ≡ [])
      → Comes l heard raw lines (step w e) → EventComes e
  silent e hears says k = grind (arith, comes_as, no_heard, no_raw)

  -- ---- what a schedule says

  said_comes : (name bytes : List ℕ)
      → Comes l (λ i. heard i ++ []) (λ n. raw n ++ cond (bytes_eq name n) bytes []) lines
      (said_step (end_of_link name w.ends) name bytes w)
  unfolding name_of_event
  said_comes name bytes =
      let says : List ℕ → List ℕ = λ n. raw n ++ cond (bytes_eq name n) bytes [] in
      elim (end_of_link name w.ends) as (λ c. end_of_link name w.ends ≡ c
      → Comes l (λ i. heard i ++ []) says lines (said_step c name bytes w)) [
        | None ↦ λ none.
            comes_apart l heard raw lines w h says (link_event.Put name bytes)
            (end_nowhere name w.ends none) (λ n. refl)
        | Some at ↦ λ is.
            let there = end_there name w.ends at is in
            comes_refused l heard raw lines w h (λ i. heard i ++ []) says
            (λ n none. no_raw n ∙ ap (λ b. raw n ++ cond b bytes [])
            (sym (not_equal name n (λ e. none at there.0 (there.1 ∙ e))))) NoName
      ] refl

  -- ---- a move of a link by its name

  over_comes : (name : List ℕ) (move : _) → IsUnread (link_event.Over name move)
      → Comes l (λ i. heard i ++ links_heard.heard_at w.links i (link_event.Over name move)) raw
      lines (links_step (link_event.Over name move) w)
  over_comes name move none =
      comes_unread l heard raw lines w h (link_event.Over name move) none (λ n. refl)

  quiet_over : (name : List ℕ) (move : _) → IsUnread (link_event.Over name move)
      → ((i : ℕ) → links_heard.heard_at w.links i (link_event.Over name move) ≡ [])
      → Comes l heard raw lines (links_step (link_event.Over name move) w)
  quiet_over name move none hears =
      comes_as l (λ i. heard i ++ links_heard.heard_at w.links i (link_event.Over name move)) heard
      raw raw lines (links_step (link_event.Over name move) w)
      (λ i. ap (λ x. heard i ++ x) (hears i) ∙ append-nil (heard i)) (λ n. refl)
      (over_comes name move none)

  -- an event of no link
  clock_comes : (event : LinkEvent) → IsUnread event
      → ((i : ℕ) → links_heard.heard_at w.links i event ≡ [])
      → ((n : List ℕ) → links_said.said_by n event ≡ [])
      → Comes l heard raw lines (links_step event w)
  clock_comes event none hears says =
      comes_as l (λ i. heard i ++ links_heard.heard_at w.links i event) heard raw raw lines
      (links_step event w) (λ i. ap (λ x. heard i ++ x) (hears i) ∙ append-nil (heard i))
      (λ n. refl) (comes_unread l heard raw lines w h event none says)

  raw_out_comes : (p : Option ℕ) (count : Option ℕ) → Comes l heard raw lines (raw_out p count w)
  raw_out_comes None count =
      comes_refused l heard raw lines w h heard raw (λ n none. refl) NoName
  raw_out_comes (Some at) None =
      comes_same l heard raw lines w h heard raw (λ i. refl) (λ n. refl)
  raw_out_comes (Some at) (Some n) =
      comes_refused l heard raw lines w h heard raw (λ n none. refl) NothingThere

  out_comes : (name : List ℕ) (count : Option ℕ)
      → Comes l heard raw lines (out_step (end_of_link name w.ends) name count w)
  out_comes name count =
      elim (end_of_link name w.ends) as (λ c. end_of_link name w.ends ≡ c
      → Comes l heard raw lines (out_step c name count w)) [
        | None ↦ λ none. raw_out_comes (place_of name w.links) count
        | Some at ↦ λ is.
            comes_client l heard raw lines w h heard at (client.out count)
            (λ k. out_stands l raw at heard count lines w k
            (is_end at (end_there name w.ends at is).0))
      ] refl

  recv_comes : (name : List ℕ) (count : Option ℕ)
      → Comes l heard raw lines (recv_step (end_of_link name w.ends) name count w)
  unfolding name_of_event
  recv_comes name count =
      let recv = link_event.Over name (moves.Recv count) in
      elim (end_of_link name w.ends) as (λ c. end_of_link name w.ends ≡ c
      → Comes l heard raw lines (recv_step c name count w)) [
        | None ↦ λ none.
            comes_as l (λ i. heard i ++ links_heard.heard_at w.links i recv) heard raw raw lines
            (links_step recv w)
            (λ i. ap (λ x. heard i ++ x) (nothing (is_place (place_of name w.links) i))
            ∙ append-nil (heard i)) (λ n. refl)
            (comes_apart l heard raw lines w h raw recv (end_nowhere name w.ends none)
            (λ n. append-nil (raw n)))
        | Some at ↦ λ is.
            comes_client l heard raw lines w h heard at (client.receive count)
            (λ k. receive_stands l raw at heard count lines w k
            (is_end at (end_there name w.ends at is).0))
      ] refl

  -- ---- a link flows

  flow_none : (name : List ℕ) → place_of name w.links ≡ None
      → Comes l heard raw lines (flow_step (end_of_link name w.ends) name w)
  unfolding name_of_event
  flow_none name free =
      elim (end_of_link name w.ends) as (λ c. end_of_link name w.ends ≡ c
      → Comes l heard raw lines (flow_step c name w)) [
        | None ↦ λ none.
            let flow = link_event.Over name moves.Flow in
            comes_as l (λ i. heard i ++ links_heard.heard_at w.links i flow) heard raw raw lines
            (links_step flow w)
            (λ i. ap (λ p. heard i ++ cond (is_place p i) (reads_at w.links i None) []) free
            ∙ append-nil (heard i)) (λ n. refl)
            (comes_apart l heard raw lines w h raw flow (end_nowhere name w.ends none)
            (λ n. append-nil (raw n)))
        | Some at ↦ λ is.
            let there = end_there name w.ends at is in
            let p = (h.each at there.0).0 in
            let u = (end_at w.ends at).end.wire in
            absurd (unplaced name w.links free (place_on u (client_at w at))
            (p.member.below u p.has) (p.member.placed u p.has ∙ sym p.named ∙ there.1))
      ] refl

  flow_comes : (name : List ℕ) → EventComes (Flow name)
  unfolding step
  flow_comes name = elim (place_of name w.links) as (λ p. place_of name w.links ≡ p
      → Comes l (λ i. heard i ++ cond (is_place p i) (flow_heard i w) []) (λ n. raw n ++ []) lines
      (flow_step (end_of_link name w.ends) name w)) [
        | None ↦ λ free.
            comes_as l heard (λ i. heard i ++ []) raw (λ n. raw n ++ []) lines
            (flow_step (end_of_link name w.ends) name w) no_heard no_raw (flow_none name free)
        | Some place ↦ λ is.
            let p = placed name w.links place is in
            comes_as l (only_at heard place (flow_heard place w))
            (λ i. heard i ++ cond (place == i) (flow_heard i w) []) raw (λ n. raw n ++ []) lines
            (flow_step (end_of_link name w.ends) name w)
            (λ i. elim (place == i) as (λ b. (place == i) ≡ b
            → heard i ++ cond b (flow_heard place w) [] ≡ heard i ++ cond b (flow_heard i w) []) [
              | true ↦ λ e. ap (λ k. heard i ++ flow_heard k w) (eqb-true place i e)
              | false ↦ λ e. refl
            ] refl)
            no_raw
            (subst (λ n. Comes l (only_at heard place (flow_heard place w)) raw lines
            (flow_step (end_of_link n w.ends) n w)) p.1
            (flow_one l heard raw lines w h place p.0))
      ] refl

  -- ---- a client is asked

  named_comes : (name : List ℕ) (move : LinkEnd → Seat → Outcome Seat)
      → ((at : ℕ) → IsEnd at w → Holds l heard raw (Seating at [] Steady) lines w
      → One l raw at (λ ls u. Holds l heard raw (Seating at [] Steady) ls u) lines w
      (move (end_at w.ends at).end (seat_at at w)))
      → Comes l heard raw lines (named_does (end_named name w) move w)
  named_comes name move f =
      elim (end_named name w) as (λ c. end_named name w ≡ c
      → Comes l heard raw lines (named_does c move w)) [
        | None ↦ λ none. comes_refused l heard raw lines w h heard raw (λ n none. refl) NoName
        | Some at ↦ λ is. comes_client l heard raw lines w h heard at move
            (f at (is_end at (end_named_there name w at is).0))
      ] refl

  pub event_comes : (e : Event) → IsValid e → EventComes e
  unfolding step IsUnread
  event_comes (Raw name) valid =
      silent (Raw name) (λ i. refl) (λ n. refl) (raw_comes l heard raw lines w h name)
  event_comes (Say name words) valid = said_comes name (request_spelling words)
  event_comes (Bytes name bytes) valid = said_comes name bytes
  event_comes (Client name mode capacity) valid =
      silent (Client name mode capacity) (λ i. refl) (λ n. refl)
      (client_comes l heard raw lines w h name mode capacity valid.0)
  event_comes (Out name count) valid =
      silent (Out name count) (λ i. refl) (λ n. refl) (out_comes name count)
  event_comes (Serve name count) valid =
      comes_as l _ (λ i. heard i ++ heard_at w i (Serve name count)) raw (λ n. raw n ++ []) lines
      (step w (Serve name count)) (λ i. refl) no_raw (over_comes name (moves.Serve count) tt)
  event_comes (Send name count) valid =
      silent (Send name count) (λ i. refl) (λ n. refl)
      (quiet_over name (moves.Send count) tt (λ i. nothing (is_place (place_of name w.links) i)))
  event_comes (Recv name count) valid =
      silent (Recv name count) (λ i. refl) (λ n. refl) (recv_comes name count)
  event_comes (Flow name) valid = flow_comes name
  event_comes FlowAll valid =
      comes_as l _ (λ i. heard i ++ heard_at w i FlowAll) raw (λ n. raw n ++ []) lines
      (step w FlowAll) (λ i. refl) no_raw (flow_all_comes l heard raw lines w h)
  event_comes (Cut name) valid =
      silent (Cut name) (λ i. refl) (λ n. refl)
      (quiet_over name moves.Cut tt (λ i. nothing (is_place (place_of name w.links) i)))
  event_comes (Now moment) valid =
      silent (Now moment) (λ i. refl) (λ n. refl)
      (clock_comes (link_event.Now moment) tt (λ i. refl) (λ n. refl))
  event_comes Tick valid =
      silent Tick (λ i. refl) (λ n. refl)
      (clock_comes link_event.Tick tt (λ i. refl) (λ n. refl))
  event_comes (Ask name q) valid =
      silent (Ask name q) (λ i. refl) (λ n. refl)
      (named_comes name (turn (call.Ask q))
      (λ at below k. ask_stands l raw at heard lines w k below q valid))
  event_comes (Do name words) valid =
      silent (Do name words) (λ i. refl) (λ n. refl)
      (named_comes name (turn (call.Send words))
      (λ at below k. send_stands l raw at heard lines w k below words valid))
  event_comes (Poll name n) valid =
      silent (Poll name n) (λ i. refl) (λ n. refl)
      (named_comes name (turn (call.Poll n))
      (λ at below k. poll_stands l raw at heard lines w k below n))
  event_comes (Show name) valid =
      silent (Show name) (λ i. refl) (λ n. refl)
      (named_comes name (λ e. show) (λ at below k. show_stands l raw at heard lines w k below))
