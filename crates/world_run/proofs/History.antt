-- What holds of every schedule, as the crates above cite it.
use Rattle.std.proofs.Common.{◌≡◌, ℕ, List, [], ◌∷◌, ◌++◌, Some, None, Ok, Err, Result, inl, inr}
use Rattle.std.proofs.Common.{refl, sym, ap, ◌∙◌, append-nil, subst}
use Rattle.std.proofs.lemmas.Grind.{flat_map-append}
use Rattle.resp_value.specs.Lists.{IsPrefix}
use Rattle.serial_model.specs.declared.history.Limits.{Limits}
use Rattle.shared_cache.specs.declared.log.Wire.TheVariants.{Main}
use Rattle.shared_cache.specs.Laws.{Every}
use Rattle.currency.specs.Current.{Currency}
use Rattle.script_text.specs.declared.event.Event.{Event}
use Rattle.script_text.specs.declared.line.Line.{Line}
use Rattle.script_text.specs.Valid.{IsValid}
use Rattle.server_links.specs.declared.fault.WorldFault.{WorldFault}
use Rattle.server_links.specs.declared.fault.WorldFault.TheVariants as fault
use Rattle.server_links.specs.OneHistory.{read_on}
use Rattle.server_links.specs.Outcome.{Reached}
use Rattle.server_links.specs.Transcript.{unless_fault}
use Rattle.world_run.specs.WorldState.{WorldState, client_at, end_at, start_with}
use Rattle.world_run.specs.WorldHistory.{AllHitsStand, AllServiced, Follows, HasOneHistory}
use Rattle.world_run.specs.WorldHistory.{HaveLinks, HitStands, RefusalsChangeNothing, said_by}
use Rattle.world_run.specs.WorldHistory.{StaysInHistory, said_to}
use Rattle.world_run.specs.WorldTranscript.{after, heard, heard_at, transcript}
use Rattle.world_run.specs.World.{StepGives, step}
use Rattle.world_run.proofs.Clients.{client_place, end_place}
use Rattle.world_run.proofs.Hits.{hits_stand}
use Rattle.world_run.proofs.LinkEvents.{part_of}
use Rattle.world_run.proofs.Others.{others_kept, printed_first}
use Rattle.world_run.proofs.RefusedEvents.{unchanged}
use Rattle.world_run.proofs.Schedules.{all_serviced, part_history, stands_start, stands_then}
use Rattle.world_run.proofs.Schedules.{whole_history}
use Rattle.world_run.proofs.WorldEvents.{event_comes}
use Rattle.world_run.proofs.WorldFlows.{flow_delivers}
use Rattle.world_run.proofs.WorldKept.{step_grows}
use Rattle.world_run.proofs.Worlds.{WorldStands}

-- the clients of a world between two events
serviced_all : Currency → (l : Limits) (heard : ℕ → List ℕ) (raw : List ℕ → List ℕ)
    (lines : List Line) (w : WorldState) → WorldStands l heard raw lines w → AllServiced w
serviced_all law l heard raw lines w s =
    all_serviced law l raw lines w (part_of l heard raw raw lines w s (λ n none. refl))

every_parted : {A : Type 0} → (P : A → Type 0) (xs ys : List A) → Every P (xs ++ ys) → Every P xs
every_parted P [] ys a = tt
every_parted P (x ∷ xs) ys a = (a.0, every_parted P xs ys a.1)

-- what holds of each line holds of each of the first
pub every_front : {A : Type 0} → (P : A → Type 0) (xs all : List A) → IsPrefix xs all → Every P all
    → Every P xs
every_front P xs all front a = every_parted P xs front.0 (subst (Every P) (sym front.1) a)

follows : Currency → (l : Limits) (log_max : ℕ) (events : List Event) (w : WorldState)
    → Every IsValid events → let first = start_with l log_max in after first events ≡ Some w
    → (event : Event) (new : WorldState) (printed : List Line)
    → IsValid event → Reached (step w event) new printed
    → Follows l events (transcript first events) w event printed new
follows law l log_max events w valid e event new printed good r =
    let first = start_with l log_max in
    let lines = transcript first events in
    let heard_by : ℕ → List ℕ = λ i. heard first i events in
    let raw : List ℕ → List ℕ = λ n. said_to n events in
    let s = stands_then l log_max events w valid e in
    let p = (event_comes l heard_by raw lines w s event good).all new printed r in
    let g = (step_grows event w).all new printed r in
    let front = printed_first w event new printed r in
    let all = serviced_all law l heard_by raw lines w s in
    record {
      part = part_history law l (λ n. raw n ++ said_by n event) (lines ++ printed) new
          (events ++ event ∷ []) p
          (λ n. ap (λ x. raw n ++ x) (sym (append-nil (said_by n event)))
          ∙ sym (flat_map-append (said_by n) events (event ∷ [])));
      front = front;
      entries = g.0;
      grows = g.1;
      hits = every_front (HitStands w event) printed (step w event).lines front
          (hits_stand event w all);
      others = others_kept l heard_by raw lines w s event new printed r;
    }

all_hits : Currency → (l : Limits) (events : List Event) (before : ℕ → List ℕ)
    (raw : List ℕ → List ℕ) (lines : List Line) (v w : WorldState) → Every IsValid events
    → WorldStands l before raw lines v → after v events ≡ Some w → AllHitsStand v events
all_hits law l [] before raw lines v w valid s e = tt
all_hits law l (d ∷ more) before raw lines v w valid s e =
    let t = step v d in
    elim t.fault as (λ f. t.fault ≡ f → unless_fault f (after t.state more) None ≡ Some w
    → AllHitsStand v (d ∷ more)) [
      | Some f ↦ λ is q. absurd (let no : ⊥ = cc in no)
      | None ↦ λ is q. (
        hits_stand d v (serviced_all law l before raw lines v s),
        all_hits law l more (λ i. before i ++ heard_at v i d) (λ n. raw n ++ said_by n d)
            (lines ++ t.lines) t.state w valid.1
            ((event_comes l before raw lines v s d valid.0).ends is) q,
      )
    ] refl e

pub one_history : Currency → HasOneHistory
one_history law l log_max events w valid e = let first = start_with l log_max in (
  whole_history law l log_max events w valid e,
  follows law l log_max events w valid e,
  all_hits law l events (λ i. []) (λ n. []) [] first w valid (stands_start l log_max) e,
  flow_delivers l (λ i. heard first i events) (λ n. said_to n events) (transcript first events) w
      (stands_then l log_max events w valid e),
)

-- what was done, whole or in part, is reached
reached : (w : WorldState) (event : Event) (lines : List Line)
    (result : Result (Unit {0}) WorldFault) (new : WorldState) (lines' : List Line)
    → StepGives w event lines result new lines'
    → (printed : List Line) × (lines' ≡ lines ++ printed) × Reached (step w event) new printed
reached w event lines (Ok done) new lines' g = ((step w event).lines, g.2, inl (g.1, refl))
reached w event lines (Err fault.NoMemory) new lines' g = (g.0, g.2, inr g.1)
reached w event lines (Err f) new lines' g = ((step w event).lines, g.2, inl (g.1, refl))

-- an event stays within the history of the schedule that led to its world
pub stays_in : HasOneHistory → (w : WorldState) (event : Event) (lines : List Line)
    (result : Result (Unit {0}) WorldFault) (new : WorldState) (lines' : List Line)
    → IsValid event → StepGives w event lines result new lines'
    → StaysInHistory w event lines new lines'
stays_in law w event lines result new lines' good g l log_max events valid e =
    let r = reached w event lines result new lines' g in
    (r.0, r.1, (law l log_max events w valid e).1 event new r.0 good r.2)

-- what was printed by then begins what the event prints
pub step_lines : (w : WorldState) (event : Event) (new : WorldState) (printed : List Line)
    → Reached (step w event) new printed → IsPrefix printed (step w event).lines
step_lines w event new printed r = printed_first w event new printed r

-- after a schedule each client has its links
pub have_links : (l : Limits) (log_max : ℕ) (events : List Event) (w : WorldState)
    → Every IsValid events → after (start_with l log_max) events ≡ Some w → HaveLinks w
have_links l log_max events w valid e at lt =
    let s = stands_then l log_max events w valid e in
    let k = (s.each at lt).0 in
    let e = (end_at w.ends at).end in
    let m = client_at w at in (
      end_place w.links s.links.unique (read_on e.link (transcript (start_with l log_max) events)) e
          m k,
      client_place w.links s.links.unique m k.member Main tt,
    )

-- a refused event leaves the world as it was, and prints nothing
pub faults_none : RefusalsChangeNothing
faults_none w event fault h is r = unchanged event w h fault is r
