-- What a command makes its connection remember: what it reads, and no more.
use Rattle.std.proofs.Common.{◌≡◌, ◌⊎◌, ℕ, List, [], ◌∷◌, Bool, true, false, cond, ap, ◌∙◌, arith}
use Rattle.std.proofs.Common.{None, Ok, Err, Option, Result, Some, inl, inr, refl, sym}
use Rattle.std.specs.FinMap.{empty}
use Rattle.std.specs.Prelude.{◌&&◌, not}
use Rattle.std.proofs.lemmas.Bool.{and_parts}
use Rattle.command_words.specs.declared.command.Command.{Command}
use Rattle.command_words.specs.declared.command.Command.TheVariants as command
use Rattle.command_words.specs.declared.command.TrackOptions.{TrackOptions}
use Rattle.command_words.specs.declared.command.Signalled.TheVariants.{Keys}
use Rattle.command_words.specs.declared.command.WordFault.{WordFault}
use Rattle.command_words.specs.Effects.{has_row}
use Rattle.command_words.specs.Queries.{read}
use Rattle.command_words.specs.Space.{Space}
use Rattle.command_words.specs.Words.{reading}
use Rattle.track_modes.specs.declared.fault.ModeFault.{ModeFault}
use Rattle.track_modes.specs.ModeState.{ModeState, remembers_read, is_on}
use Rattle.track_modes.specs.Commands.{changed, ended, fault_at}
use Rattle.track_modes.specs.Tracked.{tracked}
use Rattle.serial_model.specs.Modes.{Memory, OwnEffect, Runner, Remembers, Registers, Forgets}
use Rattle.serial_model.specs.Modes.{is_barred, is_confined, memory_of, own_effect, refused_effect}
use Rattle.serial_model.specs.Modes.{tracking_memory, unless_refused}
use Rattle.serial_model.specs.History.{effect_of, made_of, ran_over, served, served_reading}
use Rattle.serial_model.specs.Laws.{is_among}
use Rattle.serial_model.proofs.Quiet.{AddsNone, own_adds}
use Rattle.serial_model.proofs.ServedRows.{served_cases, data_effect, data_own, none_barred}
use Rattle.serial_model.proofs.ServedRows.{ran_cases, read_none, reads_or_writes}
use Rattle.tracking_laws.specs.Told.{keeps_reads, keys_read}

-- what it remembers is among these keys
abbrev pub Brings : List (List ℕ) → Memory → Type 0
Brings keys (Remembers ks) = (key : List ℕ) → is_among ks key ≡ true → is_among keys key ≡ true
Brings keys (Registers ps) = Unit {0}
Brings keys Forgets = Unit {0}

none : (keys : List (List ℕ)) (memory : Memory) → AddsNone memory → Brings keys memory
none keys (Remembers []) h = λ key some. absurd (let no : ⊥ = cc in no)
none keys (Remembers (k ∷ ks)) h = absurd h
none keys (Registers ps) h = tt
none keys Forgets h = tt

-- a data command that the mode allows is a read that it may keep
allowed_row : (c : Command) (m : ModeState) → has_row c ≡ true → is_barred m (Ok c) ≡ false
    → remembers_read m ≡ keeps_reads m
allowed_row c m row allowed = grind arith

-- a connection remembers what it reads, where its mode keeps reads; or it forgets all
abbrev kept : Runner → Result Command WordFault → List (List ℕ)
kept by r = cond (keeps_reads by.mode) (keys_read r) []

own_memory : (r : Result Command WordFault) (by : Runner) → is_barred by.mode (served r) ≡ false
    → Brings (kept by (served r)) (own_effect (served r) by).memory
own_memory r by =
    served_cases (λ r. is_barred by.mode r ≡ false → Brings (kept by r) (own_effect r by).memory)
    (λ c is row allowed. none (kept by (Ok c)) (own_effect (Ok c) by).memory
    (own_adds (fault_at c by.target_exists by.mode) c by.mode row))
    (λ c is allowed. rw (data_own c by is) (λ key h.
    ap (λ b. is_among (cond b (read c) []) key) (sym (allowed_row c by.mode is allowed)) ∙ h))
    (λ fault allowed. none (kept by (Err fault)) (Remembers []) tt) r

pub made_memory : (words : List (List ℕ)) (by : Runner)
    → Brings (kept by (served_reading words)) (made_of words by).memory
unfolding made_of
made_memory words by =
    let r = served_reading words in
    elim (is_barred by.mode r) as (λ b. is_barred by.mode r ≡ b
    → Brings (kept by r) (cond b (refused_effect by.mode) (own_effect r by)).memory) [
      | true ↦ λ e. none (kept by r) (Remembers []) tt
      | false ↦ λ e. own_memory (reading words) by e
    ] refl

-- where it reads, it forgets nothing
abbrev Reads : Runner → List ℕ → List (List ℕ) → Result Command WordFault → Type 0
Reads by k ks r = keys_read r ≡ k ∷ ks → (own_effect r by).memory ≡ Remembers (k ∷ ks)

read_memory : (r : Result Command WordFault) (by : Runner) (k : List ℕ) (ks : List (List ℕ))
    → remembers_read by.mode ≡ true → Reads by k ks (served r)
read_memory r by k ks remembers =
    served_cases (Reads by k ks)
    (λ c is row h. absurd (let e = read_none c row in let no : ⊥ = cc in no))
    (λ c is h. ap (λ (e : OwnEffect). e.memory) (data_own c by is)
    ∙ ap (λ b. Remembers (cond b (read c) [])) remembers ∙ ap Remembers h)
    (λ fault h. absurd (let no : ⊥ = cc in no)) r

free_of : (confined remembers : Bool) → (not confined && remembers) ≡ true → confined ≡ false
free_of confined remembers h = grind arith

pub made_reads : (words : List (List ℕ)) (by : Runner) (k : List ℕ) (ks : List (List ℕ))
    → keeps_reads by.mode ≡ true → keys_read (served_reading words) ≡ k ∷ ks
    → (made_of words by).memory ≡ Remembers (k ∷ ks)
unfolding made_of
made_reads words by k ks keeps is =
    let r = served_reading words in
    ap (λ b. (cond b (refused_effect by.mode) (own_effect r by)).memory)
    (none_barred by.mode r (free_of (is_confined by.mode) (remembers_read by.mode) keeps))
    ∙ read_memory (reading words) by k ks
    (and_parts (not (is_confined by.mode)) (remembers_read by.mode) keeps).1 is

-- one that forgets all tracks no more
abbrev Stops : Runner → Result Command WordFault → Type 0
Stops by r = (own_effect r by).memory ≡ Forgets → is_on (own_effect r by).mode.tracking ≡ false

off_stops : (o : TrackOptions) (m : ModeState) → tracking_memory o m.tracking ≡ Forgets
    → is_on (tracked o m.tracking) ≡ false
off_stops o m h = grind arith

command_stops : (c : Command) (m : ModeState) → memory_of c m ≡ Forgets
    → is_on (ended c (changed c m)).tracking ≡ false
command_stops (command.ClientTracking o) m h = off_stops o m h
command_stops command.Reset m h = refl
command_stops _ m h = absurd (let no : ⊥ = cc in no)

unless_stops : (fault : Option ModeFault) (c : Command) (m : ModeState)
    → (unless_refused fault c m).memory ≡ Forgets
    → is_on (unless_refused fault c m).mode.tracking ≡ false
unless_stops None c m h = command_stops c m h
unless_stops (Some fault) c m h = absurd (let no : ⊥ = cc in no)

forgets_all : (r : Result Command WordFault) (by : Runner) → Stops by (served r)
forgets_all r by =
    served_cases (Stops by)
    (λ c is row. unless_stops (fault_at c by.target_exists by.mode) c by.mode)
    (λ c is. rw (data_own c by is) (λ h. absurd (let no : ⊥ = cc in no)))
    (λ fault h. absurd (let no : ⊥ = cc in no)) r

pub made_stops : (words : List (List ℕ)) (by : Runner) → (made_of words by).memory ≡ Forgets
    → is_on (made_of words by).mode.tracking ≡ false
made_stops words by =
    ran_cases by words
    (λ ran made. made.memory ≡ Forgets → is_on made.mode.tracking ≡ false) empty 0
    (forgets_all (reading words) by) (λ h. absurd (let no : ⊥ = cc in no))

-- a command that signals keys reads none
signals_or_reads : (by : Runner) (words : List (List ℕ)) (r : Result Command WordFault)
    (space : Space) (moment : ℕ)
    → ((effect_of by words (served r) space moment).signalled ≡ Keys [])
    ⊎ (keys_read (served r) ≡ [])
signals_or_reads by words r space moment =
    served_cases (λ s. ((effect_of by words s space moment).signalled ≡ Keys [])
    ⊎ (keys_read s ≡ []))
    (λ c is row. inr (read_none c row))
    (λ c is. grind (arith, data_effect, reads_or_writes)) (λ fault. inr refl) r

pub ran_signals_or_reads : (by : Runner) (words : List (List ℕ)) (space : Space) (moment : ℕ)
    → ((ran_over space by words moment).signalled ≡ Keys [])
    ⊎ (keys_read (served_reading words) ≡ [])
ran_signals_or_reads by words space moment =
    ran_cases by words
    (λ ran made. (ran.signalled ≡ Keys []) ⊎ (keys_read (served_reading words) ≡ [])) space moment
    (signals_or_reads by words (reading words) space moment) (inl refl)
