-- The links and the clients of a storm are made, whatever the limits.
use Rattle.std.proofs.Common.{◌≡◌, ◌++◌, ◌⊎◌, ℕ, List, [], ◌∷◌, true, false, Some, None, codes, inl}
use Rattle.std.proofs.Common.{inr, refl, sym, subst}
use Rattle.resp_value.specs.declared.value.Proto.TheVariants.{Two, Three}
use Rattle.serial_model.specs.declared.history.Limits.{Limits}
use Rattle.serial_model.specs.History.{state}
use Rattle.serial_model.specs.Steps.{book_step}
use Rattle.shared_cache.specs.declared.log.Caching.TheVariants.{Default, OptIn, Bcast}
use Rattle.shared_cache.specs.declared.log.Shape.TheVariants.{Single, Pair}
use Rattle.script_text.specs.declared.event.Event.{Event}
use Rattle.script_text.specs.declared.event.Event.TheVariants.{Raw}
use Rattle.script_text.specs.Storm.{opened}
use Rattle.server_links.specs.LinkSteps as links
use Rattle.server_links.specs.Outcome.{and_then, within}
use Rattle.server_links.specs.Transcript.{unless_fault}
use Rattle.world_run.specs.WorldState.{WorldState, start_with}
use Rattle.world_run.specs.World.{links_step, step}
use Rattle.world_run.specs.WorldTranscript.{after}
use Rattle.storm_laws.proofs.Settled.{IsSettled}

-- the first events of a storm
abbrev pub making : List Event
making =
    opened 0 Single Three Default false
    ∷ opened 1 Pair Three Default true
    ∷ opened 2 Pair Two OptIn false
    ∷ opened 3 Single Three (Bcast (codes "k1" ∷ [])) false
    ∷ Raw (codes "w")
    ∷ []

-- the world after events none of which meets a fault
abbrev pub played : WorldState → List Event → WorldState
played w [] = w
played w (event ∷ events) = played (step w event).state events

abbrev IsFlawless : WorldState → List Event → Type 0
IsFlawless w [] = Unit {0}
IsFlawless w (event ∷ events) =
    ((step w event).fault ≡ None) × IsFlawless (step w event).state events

making_is_flawless : (l : Limits) (log_max : ℕ) → IsFlawless (start_with l log_max) making
unfolding step links_step links.step and_then within book_step state
making_is_flawless l log_max = (refl, (refl, (refl, (refl, (refl, tt)))))

pub making_settles : (l : Limits) (log_max : ℕ)
    → IsSettled (played (start_with l log_max) making)
unfolding step links_step links.step and_then within book_step state
making_settles l log_max = record { links = refl; ends = refl; clients = refl }

-- ---- some of the first events were played, or all of them

-- the next event is one of them and meets no fault, or it comes after all of them
abbrev Reaches : WorldState → List Event → List Event → List Event → Event → List Event
    → WorldState → Type 0
Reaches w xs ys before event rest v =
    ((step v event).fault ≡ None)
    ⊎ ((more : List Event) × (more ++ event ∷ rest ≡ ys) × (after (played w xs) more ≡ Some v))

reach_first : (w v : WorldState) (x event : Event) → event ≡ x → w ≡ v
    → (step w x).fault ≡ None → (step v event).fault ≡ None
reach_first w v x event is same none =
    subst (λ e. (step v e).fault ≡ None) (sym is)
    (subst (λ u. (step u x).fault ≡ None) same none)

reach_next : (w v : WorldState) (x b : Event) (before : List Event) → b ≡ x
    → (step w x).fault ≡ None → after w (b ∷ before) ≡ Some v
    → after (step w x).state before ≡ Some v
reach_next w v x b before is none there =
    subst (λ f. unless_fault f (after (step w x).state before) None ≡ Some v) none
    (subst (λ e. after w (e ∷ before) ≡ Some v) is there)

same_first : {A : Type 0} → (x y : A) (xs ys : List A) → x ∷ xs ≡ y ∷ ys → x ≡ y
same_first x y xs ys e = cc

same_rest : {A : Type 0} → (x y : A) (xs ys : List A) → x ∷ xs ≡ y ∷ ys → xs ≡ ys
same_rest x y xs ys e = cc

same_world : (w v : WorldState) → after w [] ≡ Some v → w ≡ v
same_world w v e = cc

pub reaches : (xs ys before rest : List Event) (event : Event) (w v : WorldState)
    → IsFlawless w xs → before ++ event ∷ rest ≡ xs ++ ys → after w before ≡ Some v
    → Reaches w xs ys before event rest v
reaches [] ys before rest event w v good split there = inr (before, split, there)
reaches (x ∷ xs) ys [] rest event w v good split there =
    inl (reach_first w v x event (same_first event x rest (xs ++ ys) split)
    (same_world w v there) good.0)
reaches (x ∷ xs) ys (b ∷ before) rest event w v good split there =
    reaches xs ys before rest event (step w x).state v good.1
    (same_rest b x (before ++ event ∷ rest) (xs ++ ys) split)
    (reach_next w v x b before (same_first b x (before ++ event ∷ rest) (xs ++ ys) split) good.0
    there)

pub making_reaches : (l : Limits) (log_max : ℕ) (ys before rest : List Event) (event : Event)
    (v : WorldState) → before ++ event ∷ rest ≡ making ++ ys
    → after (start_with l log_max) before ≡ Some v
    → Reaches (start_with l log_max) making ys before event rest v
making_reaches l log_max ys before rest event v split there =
    reaches making ys before rest event (start_with l log_max) v (making_is_flawless l log_max)
    split there
