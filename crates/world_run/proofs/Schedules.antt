-- What stands of a world after a schedule.
use Rattle.std.proofs.Common.{◌≡◌, ◌<◌, ℕ, List, [], ◌∷◌, ◌++◌, Some, None, length, refl, subst}
use Rattle.std.proofs.Common.{◌∙◌, arith, append_assoc, append-nil}
use Rattle.serial_model.specs.declared.history.Limits.{Limits}
use Rattle.shared_cache.specs.Laws.{Every}
use Rattle.currency.specs.Current.{Currency}
use Rattle.script_text.specs.declared.event.Event.{Event}
use Rattle.script_text.specs.declared.line.Line.{Line}
use Rattle.script_text.specs.Valid.{IsValid}
use Rattle.server_links.specs.LinksState.{at_place}
use Rattle.server_links.specs.OneHistory.{PartServes, Serves, read_on}
use Rattle.server_links.specs.Session.{session_at}
use Rattle.server_links.specs.Transcript.{unless_fault}
use Rattle.cache_laws.proofs.Exactly.{holds_exactly}
use Rattle.tracking_laws.proofs.Exactly.{told_exactly}
use Rattle.currency.proofs.CompleteExactly.{completes_exactly}
use Rattle.server_links.proofs.Accounts.{Part}
use Rattle.server_links.proofs.Events.{serves}
use Rattle.server_links.proofs.Names.{unplaced}
use Rattle.world_run.specs.WorldState.{WorldState, client_at, end_at, member_at, start_with}
use Rattle.world_run.specs.Members.{client_of}
use Rattle.world_run.specs.WorldHistory.{AllServiced, EndsStand, HoldsCurrent, OneHistory}
use Rattle.world_run.specs.WorldHistory.{PartHistory}
use Rattle.world_run.specs.WorldHistory.{Serviced, put_on, said_by, said_to, taken_bytes}
use Rattle.world_run.specs.WorldTranscript.{after, heard, heard_at, transcript}
use Rattle.world_run.specs.World.{step}
use Rattle.world_run.proofs.Clients.{client_place}
use Rattle.world_run.proofs.LinkEvents.{part_of, stands_again}
use Rattle.world_run.proofs.Names.{end_nowhere, end_there}
use Rattle.world_run.proofs.ScheduleLogs.{logs_stand}
use Rattle.world_run.proofs.WorldClock.{keeps_time}
use Rattle.world_run.proofs.WorldEvents.{event_comes}
use Rattle.world_run.proofs.Worlds.{NoneHas, WorldPart, WorldStands, meet_part, part_member}

-- ---- what a world part says

put_is : (w : WorldState) (events : List Event) (said : List ℕ → List ℕ)
    → ((k : ℕ) → k < length w.ends → let e = (end_at w.ends k).end in
    said e.link ≡ taken_bytes e.wire (client_at w k))
    → ((n : List ℕ) → NoneHas w n → said n ≡ said_to n events)
    → (n : List ℕ) → said n ≡ put_on w n events
put_is w events said taken rest n = grind (arith, end_nowhere, end_there)

pub serviced : (l : Limits) (raw : List ℕ → List ℕ) (lines : List Line) (w : WorldState)
    → WorldPart l raw lines w → (at : ℕ) → at < length w.members
    → Serviced w (member_at w.members at)
serviced l raw lines w p at lt =
    let m = member_at w.members at in
    let k = part_member l raw lines w p at lt in
    record {
      links = client_place w.links p.unique m k;
      mode = k.mode;
      capacity = k.room;
      legal = k.legal;
      meet = meet_part l raw lines w p at lt;
      complete = completes_exactly w.links.limits (client_of m) w.links.past m.state.past
          (meet_part l raw lines w p at lt);
      holds = holds_exactly m.state.setup m.state.past k.room k.legal;
    }

pub holds_current : Currency → (l : Limits) (raw : List ℕ → List ℕ) (lines : List Line)
    (w : WorldState) → WorldPart l raw lines w → (at : ℕ) → at < length w.members
    → HoldsCurrent w (member_at w.members at)
holds_current law l raw lines w p at lt =
    let m = member_at w.members at in
    let k = part_member l raw lines w p at lt in
    law w.links.limits (client_of m) w.links.past m.state.past k.mode p.links.history.legal
    k.legal (meet_part l raw lines w p at lt)

pub all_serviced : Currency → (l : Limits) (raw : List ℕ → List ℕ) (lines : List Line)
    (w : WorldState) → WorldPart l raw lines w → AllServiced w
all_serviced law l raw lines w p at lt =
    (serviced l raw lines w p at lt, holds_current law l raw lines w p at lt)

ends_stand : (l : Limits) (raw : List ℕ → List ℕ) (lines : List Line) (w : WorldState)
    → WorldPart l raw lines w → EndsStand w
ends_stand l raw lines w p = record {
  clients = p.clients;
  named = λ at lt. let part = p.each at lt in (part.named, part.place_is);
  each = p.ends;
  distinct = p.distinct;
}

pub part_history : Currency → (l : Limits) (raw : List ℕ → List ℕ) (lines : List Line)
    (w : WorldState) (events : List Event) → WorldPart l raw lines w
    → ((n : List ℕ) → raw n ≡ said_to n events) → PartHistory l events lines w
unfolding Part
part_history law l raw lines w events p raw_is = record {
  history = p.links.history;
  serves = λ at lt.
      let link = at_place w.links.links at in
      subst (λ d. PartServes w.links.limits d (read_on link.name lines) w.links.past link)
      (put_is w events p.said p.taken (λ n none. p.rest n none ∙ raw_is n) link.name)
      (p.links.parts at lt);
  unread = λ name none. p.links.unread name (unplaced name w.links none);
  told = told_exactly w.links.limits w.links.past p.links.history.legal;
  clients = all_serviced law l raw lines w p;
  ends = ends_stand l raw lines w p;
}

-- ---- after a schedule

pub stands_start : (l : Limits) (log_max : ℕ)
    → WorldStands l (λ i. []) (λ n. []) [] (start_with l log_max)
stands_start l log_max = record {
  said = λ n. [];
  links = record {
    history = record {
      limits = refl;
      legal = tt;
      links = refl;
      ids = λ i lt. absurd (omega (arith, lt));
      printed = refl;
    };
    unique = λ i j li. absurd (omega (arith, li));
    accounts = λ i lt. absurd (omega (arith, lt));
    unread = λ name n. refl;
    unsaid = λ name n. refl;
    unheard = λ i le. refl;
  };
  each = λ k lt. absurd (omega (arith, lt));
  clients = λ k lt. absurd (omega (arith, lt));
  ends = λ i lt. absurd (omega (arith, lt));
  distinct = λ j k lj. absurd (omega (arith, lj));
  rest = λ n none. refl;
}

pub stands_after : (l : Limits) (events : List Event) (before : ℕ → List ℕ)
    (raw : List ℕ → List ℕ) (lines : List Line) (v w : WorldState) → Every IsValid events
    → WorldStands l before raw lines v → after v events ≡ Some w
    → WorldStands l (λ i. before i ++ heard v i events) (λ n. raw n ++ said_to n events)
    (lines ++ transcript v events) w
stands_after l [] before raw lines v w valid s e = grind (arith, append-nil, stands_again)
stands_after l (d ∷ more) before raw lines v w valid s e =
    let t = step v d in
    elim t.fault as (λ f. t.fault ≡ f → unless_fault f (after t.state more) None ≡ Some w
    → WorldStands l (λ i. before i ++ unless_fault f (heard_at v i d ++ heard t.state i more) [])
    (λ n. raw n ++ said_to n (d ∷ more)) (lines
    ++ (t.lines ++ unless_fault f (transcript t.state more) [])) w) [
      | Some f ↦ λ is q. absurd (let no : ⊥ = cc in no)
      | None ↦ λ is q.
          let k = stands_after l more (λ i. before i ++ heard_at v i d) (λ n. raw n
          ++ said_by n d) (lines ++ t.lines) t.state w valid.1
          ((event_comes l before raw lines v s d valid.0).ends is) q in
          grind (arith, append_assoc, stands_again)
    ] refl e

pub stands_then : (l : Limits) (log_max : ℕ) (events : List Event) (w : WorldState)
    → Every IsValid events → let first = start_with l log_max in after first events ≡ Some w
    → WorldStands l (λ i. heard first i events) (λ n. said_to n events) (transcript first events) w
stands_then l log_max events w valid e =
    stands_after l events (λ i. []) (λ n. []) [] (start_with l log_max) w valid
    (stands_start l log_max) e

pub whole_history : Currency → (l : Limits) (log_max : ℕ) (events : List Event) (w : WorldState)
    → Every IsValid events → let first = start_with l log_max in after first events ≡ Some w
    → OneHistory first events (transcript first events) w
whole_history law l log_max events w valid e =
    let first = start_with l log_max in
    let lines = transcript first events in
    let raw : List ℕ → List ℕ = λ n. said_to n events in
    let s = stands_then l log_max events w valid e in
    let p = part_of l (λ i. heard first i events) raw raw lines w s (λ n none. refl) in
    record {
      history = s.links.history;
      serves = λ at lt.
          let link = at_place w.links.links at in
          subst (λ d. Serves w.links.limits (heard first at events) d
          (read_on link.name lines) w.links.past link)
          (put_is w events s.said (λ k lt. (s.each k lt).1) s.rest link.name)
          (serves (heard first at events) (s.said link.name) (read_on link.name lines)
          (session_at at w.links) s.links.history.legal (s.links.accounts at lt));
      unread = λ name none. s.links.unread name (unplaced name w.links none);
      told = told_exactly w.links.limits w.links.past s.links.history.legal;
      clients = all_serviced law l raw lines w p;
      ends = ends_stand l raw lines w p;
      logs = logs_stand l log_max events w valid (stands_start l log_max) e;
      clock = keeps_time events first w tt e;
    }
