-- Words ask for a world, a storm, a server or a script alone, and their settings are valid.
use Rattle.std.proofs.Common.{◌≡◌, ◌<◌, ◌≤◌, ◌∙◌, ℕ, Bool, cond, codes, inl, inr, List, []}
use Rattle.std.proofs.Common.{◌∷◌, None, Some, arith, sym, ap, subst, refl, true, false}
use Rattle.std.specs.declared.option.Option.{Option}
use Rattle.std.specs.Option.{option_map}
use Rattle.std.specs.Prelude.{option_and_then, ◌⊎◌, ◌&&◌}
use Rattle.std.specs.Str.{bytes_eq}
use Rattle.resp_value.specs.declared.value.Proto.{Proto}
use Rattle.resp_value.specs.declared.value.Proto.TheVariants.{Two, Three}
use Rattle.serial_model.specs.Steps.{AreValid}
use Rattle.command_line.specs.declared.settings.Asked.{Asked}
use Rattle.command_line.specs.declared.settings.Asked.TheVariants.{World, Storm, Serve, Script}
use Rattle.command_line.specs.declared.settings.Caching.{Caching}
use Rattle.command_line.specs.declared.settings.Connection.{Connection}
use Rattle.command_line.specs.declared.settings.LimitSettings.{LimitSettings}
use Rattle.command_line.specs.declared.settings.ScriptSettings.{ScriptSettings}
use Rattle.command_line.specs.declared.settings.ServeSettings.{ServeSettings}
use Rattle.command_line.specs.declared.settings.StormSettings.{StormSettings}
use Rattle.command_line.specs.Options.{Word, is_true, number_in, option_value, options_of, value_of}
use Rattle.command_line.specs.Commands.{command_of, has_pushes, if_allowed, limits, script}
use Rattle.command_line.specs.Commands.{script_from, script_of, script_options, serve, serve_from}
use Rattle.command_line.specs.Commands.{serve_of, serve_options, storm, storm_from, storm_of}
use Rattle.command_line.specs.Commands.{storm_options, takes_prefix, world_of}
use Rattle.redis_program.specs.Headline.{limits_of}

-- ---- the commands

by_names : (a : Asked) (world storm serve script : Bool) (w x y z : Option Asked)
    → cond world w (cond storm x (cond serve y (cond script z None))) ≡ Some a
    → (w ≡ Some a) ⊎ (x ≡ Some a) ⊎ (y ≡ Some a) ⊎ (z ≡ Some a)
by_names a world storm serve script w x y z e = grind arith

is_world : (o : Option LimitSettings) (a : Asked) → option_map World o ≡ Some a
    → (s : LimitSettings) × (a ≡ World s) × (o ≡ Some s)
is_world o a e = grind arith

is_storm : (o : Option StormSettings) (a : Asked) → option_map Storm o ≡ Some a
    → (s : StormSettings) × (a ≡ Storm s) × (o ≡ Some s)
is_storm o a e = grind arith

is_serve : (o : Option ServeSettings) (a : Asked) → option_map Serve o ≡ Some a
    → (s : ServeSettings) × (a ≡ Serve s) × (o ≡ Some s)
is_serve o a e = grind arith

is_script : (o : Option ScriptSettings) (a : Asked) → option_map Script o ≡ Some a
    → (s : ScriptSettings) × (a ≡ Script s) × (o ≡ Some s)
is_script o a e = grind arith

-- words that are understood ask for a world, a storm, a server or a script
abbrev AsksWorld : Asked → Type 0
AsksWorld a = (s : LimitSettings) × (a ≡ World s) × (rest : List Word) × (world_of rest ≡ Some s)

abbrev AsksStorm : Asked → Type 0
AsksStorm a = (s : StormSettings) × (a ≡ Storm s) × (rest : List Word) × (storm_of rest ≡ Some s)

abbrev AsksServe : Asked → Type 0
AsksServe a = (s : ServeSettings) × (a ≡ Serve s) × (rest : List Word) × (serve_of rest ≡ Some s)

abbrev AsksScript : Asked → Type 0
AsksScript a =
    (s : ScriptSettings) × (a ≡ Script s) × (rest : List Word) × (script_of rest ≡ Some s)

abbrev AsksOne : Asked → Type 0
AsksOne a = AsksWorld a ⊎ AsksStorm a ⊎ AsksServe a ⊎ AsksScript a

asks_one : (words : List Word) (a : Asked) → command_of words ≡ Some a → AsksOne a
asks_one [] a e = absurd (let no : ⊥ = cc in no)
asks_one (command ∷ words) a e =
    by_part (by_names a (bytes_eq command (codes "world"))
    (bytes_eq command (codes "storm")) (bytes_eq command (codes "serve"))
    (bytes_eq command (codes "script"))
    (option_map World (world_of words)) (option_map Storm (storm_of words))
    (option_map Serve (serve_of words)) (option_map Script (script_of words)) e)
  where
    by_part : (option_map World (world_of words) ≡ Some a)
        ⊎ (option_map Storm (storm_of words) ≡ Some a)
        ⊎ (option_map Serve (serve_of words) ≡ Some a)
        ⊎ (option_map Script (script_of words) ≡ Some a)
        → AsksOne a
    by_part (inl h) = let is = is_world (world_of words) a h in inl (is.0, is.1, words, is.2)
    by_part (inr (inl h)) =
        let is = is_storm (storm_of words) a h in inr (inl (is.0, is.1, words, is.2))
    by_part (inr (inr (inl h))) =
        let is = is_serve (serve_of words) a h in inr (inr (inl (is.0, is.1, words, is.2)))
    by_part (inr (inr (inr h))) =
        let is = is_script (script_of words) a h in inr (inr (inr (is.0, is.1, words, is.2)))

-- ---- the limits

number_within : (high d m : ℕ) (text : Option Word) → 0 < d → d ≤ high
    → number_in 1 high (Some d) text ≡ Some m → (0 < m) × (m ≤ high)
number_within high d m text low top e = grind arith

pub world_valid : (words : List Word) (s : LimitSettings) → world_of words ≡ Some s
    → AreValid (limits_of s)
unfolding world_of
world_valid words s e = grind arith

pub limits_valid : (words : List Word) (s : LimitSettings) → command_of words ≡ Some (World s)
    → AreValid (limits_of s)
limits_valid words s e = by_part (asks_one words (World s) e)
  where
    by_part : AsksOne (World s) → AreValid (limits_of s)
    by_part (inl (t, is, rest, h)) =
        let same : s ≡ t = cc in world_valid rest s (h ∙ ap Some (sym same))
    by_part (inr (inl (t, is, rest, h))) = absurd (let no : ⊥ = cc in no)
    by_part (inr (inr (inl (t, is, rest, h)))) = absurd (let no : ⊥ = cc in no)
    by_part (inr (inr (inr (t, is, rest, h)))) = absurd (let no : ⊥ = cc in no)

-- ---- the settings of a storm

number_below : (high m : ℕ) (text : Option Word) → number_in 0 high None text ≡ Some m → m ≤ high
number_below high m text e = grind arith

all_stormable : (number steps : Option ℕ) (s : StormSettings)
    → ((m : ℕ) → steps ≡ Some m → m ≤ 200000) → storm number steps ≡ Some s → s.steps ≤ 200000
all_stormable number steps s q e = grind arith

storm_valid : (words : List Word) (s : StormSettings) → storm_of words ≡ Some s
    → s.steps ≤ 200000
unfolding storm_of
storm_valid words s e = go (options_of storm_options words) e
  where
    go : (o : Option (List (Word × Word)))
        → option_and_then
        (λ seen. storm_from (option_value storm_options (λ n. value_of n seen)))
        o ≡ Some s → s.steps ≤ 200000
    go None h = absurd (let no : ⊥ = cc in no)
    go (Some seen) h =
        let value : Word → Option Word = option_value storm_options (λ n. value_of n seen) in
        all_stormable _ _ s (λ m e. number_below 200000 m (value (codes "steps")) e) h

pub steps_valid : (words : List Word) (s : StormSettings) → command_of words ≡ Some (Storm s)
    → s.steps ≤ 200000
steps_valid words s e = by_part (asks_one words (Storm s) e)
  where
    by_part : AsksOne (Storm s) → s.steps ≤ 200000
    by_part (inl (t, is, rest, h)) = absurd (let no : ⊥ = cc in no)
    by_part (inr (inl (t, is, rest, h))) =
        let same : s ≡ t = cc in storm_valid rest s (h ∙ ap Some (sym same))
    by_part (inr (inr (inl (t, is, rest, h)))) = absurd (let no : ⊥ = cc in no)
    by_part (inr (inr (inr (t, is, rest, h)))) = absurd (let no : ⊥ = cc in no)

-- ---- the settings of a server

-- a server's limits are valid, and it has 1 to 64 workers
pub record IsServable (s : ServeSettings) : Type 0 where
  pub limits : AreValid (limits_of s.limits)
  pub some_workers : 1 ≤ s.workers
  pub few_workers : s.workers ≤ 64

all_servable : (port workers connections : Option ℕ) (limits : Option LimitSettings)
    (s : ServeSettings) → ((m : ℕ) → workers ≡ Some m → (0 < m) × (m ≤ 64))
    → ((l : LimitSettings) → limits ≡ Some l → AreValid (limits_of l))
    → serve port workers connections limits ≡ Some s → IsServable s
all_servable port workers connections limits s q r e = grind arith

from_servable : (value : Word → Option Word) (s : ServeSettings) → serve_from value ≡ Some s
    → IsServable s
from_servable value s e =
    all_servable _ _ _ _ s
    (λ m h. number_within 64 4 m (value (codes "workers")) (omega arith) (omega arith) h)
    (λ l h. grind arith) e

serve_valid : (words : List Word) (s : ServeSettings) → serve_of words ≡ Some s → IsServable s
unfolding serve_of
serve_valid words s e = go (options_of serve_options words) e
  where
    go : (o : Option (List (Word × Word)))
        → option_and_then
        (λ seen. serve_from (option_value serve_options (λ n. value_of n seen)))
        o ≡ Some s → IsServable s
    go None h = absurd (let no : ⊥ = cc in no)
    go (Some seen) h =
        from_servable (option_value serve_options (λ n. value_of n seen)) s h

pub settings_valid : (words : List Word) (s : ServeSettings) → command_of words ≡ Some (Serve s)
    → IsServable s
settings_valid words s e = by_part (asks_one words (Serve s) e)
  where
    by_part : AsksOne (Serve s) → IsServable s
    by_part (inl (t, is, rest, h)) = absurd (let no : ⊥ = cc in no)
    by_part (inr (inl (t, is, rest, h))) = absurd (let no : ⊥ = cc in no)
    by_part (inr (inr (inr (t, is, rest, h)))) = absurd (let no : ⊥ = cc in no)
    by_part (inr (inr (inl (t, is, rest, h)))) =
        let same : s ≡ t = cc in serve_valid rest s (h ∙ ap Some (sym same))

-- ---- the settings of a script

-- the client holds as many keys as a client may, and over one link it is of the third protocol
pub record IsPlayable (s : ScriptSettings) : Type 0 where
  pub some : 0 < s.capacity
  pub most : s.capacity ≤ 1000000
  pub pushes : s.redirect ≡ false → s.resp ≡ Three

third_alone : (p : Proto) (redirect takes : Bool) → (has_pushes p redirect && takes) ≡ true
    → redirect ≡ false → p ≡ Three
third_alone Two true takes h e = absurd (let no : ⊥ = cc in no)
third_alone Two false takes h e = absurd (let no : ⊥ = cc in no)
third_alone Three redirect takes h e = refl

allowed_pushes : (t s : ScriptSettings) → if_allowed t ≡ Some s → s.redirect ≡ false
    → s.resp ≡ Three
allowed_pushes t s h =
    by_case (has_pushes t.resp t.redirect && takes_prefix t.caching t.prefix) refl h
  where
    by_case : (b : Bool)
        → (has_pushes t.resp t.redirect && takes_prefix t.caching t.prefix) ≡ b
        → cond b (Some t) None ≡ Some s → s.redirect ≡ false → s.resp ≡ Three
    by_case true is e =
        let same : t ≡ s = cc in
        subst (λ (z : ScriptSettings). z.redirect ≡ false → z.resp ≡ Three) same
        (third_alone t.resp t.redirect (takes_prefix t.caching t.prefix) is)
    by_case false is e = absurd (let no : ⊥ = cc in no)

all_playable : (connect : Option Connection) (resp : Option Proto) (caching : Option Caching)
    (prefix : Option (Option Word)) (capacity : Option ℕ) (noloop redirect : Bool)
    (s : ScriptSettings) → ((m : ℕ) → capacity ≡ Some m → (0 < m) × (m ≤ 1000000))
    → script connect resp caching prefix capacity noloop redirect ≡ Some s → IsPlayable s
all_playable connect resp caching prefix capacity noloop redirect s q e =
    grind (arith, allowed_pushes)

from_playable : (value : Word → Option Word) (is_set : Word → Bool) (s : ScriptSettings)
    → script_from value is_set ≡ Some s → IsPlayable s
from_playable value is_set s e =
    all_playable _ _ _ _ _ _ _ s
    (λ m h. number_within 1000000 1024 m (value (codes "capacity")) (omega arith) (omega arith) h)
    e

playable : (words : List Word) (s : ScriptSettings) → script_of words ≡ Some s → IsPlayable s
unfolding script_of
playable words s e = go (options_of script_options words) e
  where
    go : (o : Option (List (Word × Word)))
        → option_and_then
        (λ seen. script_from (option_value script_options (λ n. value_of n seen))
        (λ n. is_true (value_of n seen)))
        o ≡ Some s → IsPlayable s
    go None h = absurd (let no : ⊥ = cc in no)
    go (Some seen) h =
        from_playable (option_value script_options (λ n. value_of n seen))
        (λ n. is_true (value_of n seen)) s h

pub script_valid : (words : List Word) (s : ScriptSettings) → command_of words ≡ Some (Script s)
    → IsPlayable s
script_valid words s e = by_part (asks_one words (Script s) e)
  where
    by_part : AsksOne (Script s) → IsPlayable s
    by_part (inl (t, is, rest, h)) = absurd (let no : ⊥ = cc in no)
    by_part (inr (inl (t, is, rest, h))) = absurd (let no : ⊥ = cc in no)
    by_part (inr (inr (inl (t, is, rest, h)))) = absurd (let no : ⊥ = cc in no)
    by_part (inr (inr (inr (t, is, rest, h)))) =
        let same : s ≡ t = cc in playable rest s (h ∙ ap Some (sym same))
