-- The events of a storm, once its links and clients were made.
use Rattle.std.proofs.Common.{◌≡◌, ◌<◌, ◌+◌, ◌==◌, ℕ, zero, suc, List, [], ◌∷◌, Bool, true, false}
use Rattle.std.proofs.Common.{codes, cond, length, refl, arith}
use Rattle.std.specs.Prelude.{nat_lt}
use Rattle.std.specs.List.{list_all}
use Rattle.command_words.specs.Control.{is_control}
use Rattle.shared_cache.specs.Laws.{Every}
use Rattle.shared_cache.proofs.Every.{every_append}
use Rattle.script_text.specs.declared.event.Event.{Event}
use Rattle.script_text.specs.declared.event.Event.TheVariants.{Say}
use Rattle.script_text.specs.Grammar.{is_valid}
use Rattle.script_text.specs.Storm.{Step, clock_behind, del_words, draw, lapsing_words, set_words}
use Rattle.script_text.specs.Storm.{state_behind, step_at, steps_from, storm, storm_client}
use Rattle.script_text.specs.Storm.{storm_link}
use Rattle.script_text.specs.Valid.{IsValid}
use Rattle.script_text.proofs.Storms.{storms_are_valid, valid_is, valid_parts}
use Rattle.storm_laws.proofs.Settled.{IsClient, IsLink}
use Rattle.storm_laws.proofs.Playing.{IsMove}
use Rattle.storm_laws.proofs.Sparing.{del_plain, lapsing_plain, plain_spares, set_plain}
use Rattle.storm_laws.proofs.Unstopped.{IsSpared}

-- ---- each is one that a settled world plays, and stops no server

abbrev pub IsStormEvent : Event → Type 0
IsStormEvent event = IsMove event × IsSpared event

by_choice : {A : Type 0} (P : A → Type 0) (test : Bool) (a b : A) → P a → P b → P (cond test a b)
by_choice P test a b h k = elim test as (λ t. P (cond t a b)) [ true ↦ h | false ↦ k ]

client_there : (number : ℕ) → IsClient (storm_client number)
client_there number =
    by_choice IsClient (number == 0) _ _ (0, refl) (
    by_choice IsClient (number == 1) _ _ (2, refl) (
    by_choice IsClient (number == 2) _ _ (4, refl) (5, refl)))

link_there : (number : ℕ) → IsLink (storm_link number)
link_there number =
    by_choice IsLink (number == 0) _ _ (0, refl) (
    by_choice IsLink (number == 1) _ _ (1, refl) (
    by_choice IsLink (number == 2) _ _ (2, refl) (
    by_choice IsLink (number == 3) _ _ (3, refl) (
    by_choice IsLink (number == 4) _ _ (4, refl) (
    by_choice IsLink (number == 5) _ _ (5, refl) (6, refl))))))

said : (words : List (List ℕ)) → 0 < length words → is_control words ≡ false
    → IsStormEvent (Say (codes "w") words)
said words some plain = (refl, (some, plain_spares words plain))

abbrev AreEvents : Step → Type 0
AreEvents step = Every IsStormEvent step.events

step_is_of_events : (state clock : ℕ) → AreEvents (step_at state clock)
unfolding step_at
step_is_of_events state clock =
    let kind = draw state 1 16 in
    let client = client_there (draw state 2 4) in
    let link = link_there (draw state 2 7) in
    by_choice AreEvents (nat_lt kind 6) _ _ ((client, tt), tt) (
    by_choice AreEvents (kind == 6) _ _ (((client, set_plain _ _), tt), tt) (
    by_choice AreEvents (nat_lt kind 9) _ _
    (said (set_words (draw state 2 16) (draw state 3 100)) (omega arith) (set_plain _ _), tt) (
    by_choice AreEvents (kind == 9) _ _ (
      said (lapsing_words (draw state 2 16) (draw state 3 100) (1 + draw state 4 50)) (omega arith)
          (lapsing_plain _ _ _),
      tt,
    ) (
    by_choice AreEvents (kind == 10) _ _
    (said (del_words (draw state 2 16)) (omega arith) (del_plain _), tt) (
    by_choice AreEvents (kind == 11) _ _ ((link, tt), tt) (
    by_choice AreEvents (kind == 12) _ _ ((link, tt), ((link, tt), tt)) (
    by_choice AreEvents (kind == 13) _ _ ((link, tt), tt) (
    by_choice AreEvents (kind == 14) _ _ ((link, tt), tt) ((tt, tt), ((tt, tt), tt))))))))))

pub steps_are_events : (steps state clock : ℕ)
    → Every IsStormEvent (steps_from steps state clock)
unfolding steps_from
steps_are_events zero state clock = tt
steps_are_events (suc steps) state clock =
    let step = step_at state clock in
    every_append IsStormEvent step.events _ (step_is_of_events state clock)
    (steps_are_events steps (state_behind step.draws state) (clock_behind step.events clock))

-- ---- each is valid

all_valid : (events : List Event) → list_all is_valid events ≡ true → Every IsValid events
all_valid [] valid = tt
all_valid (event ∷ events) valid =
    let p = valid_parts (event ∷ events) event events refl valid in
    (valid_is event p.0, all_valid events p.1)

pub storm_valid : (number steps : ℕ) → Every IsValid (storm number steps)
storm_valid number steps = all_valid (storm number steps) (storms_are_valid number steps)
