-- What CLIENT TRACKING and CLIENT CACHING do to a connection's mode, or why not (their pages).
use Rattle.std.specs.Prelude.{◌≡◌, ◌==◌, Bool, true, false, not, ◌&&◌, ◌||◌}
use Rattle.std.specs.Prelude.{if◌then◌else◌, Option, Some, None, is_some, option_map, length}
use Rattle.command_words.specs.declared.command.TrackOptions.{TrackOptions}
use Rattle.track_modes.specs.declared.fault.ModeFault.{ModeFault}
use Rattle.track_modes.specs.declared.fault.ModeFault.TheVariants.{NoTarget, PrefixNeedsBcast}
use Rattle.track_modes.specs.declared.fault.ModeFault.TheVariants.{SwitchBcast, BothOpts}
use Rattle.track_modes.specs.declared.fault.ModeFault.TheVariants.{OptWithBcast, SwitchOpt}
use Rattle.track_modes.specs.declared.fault.ModeFault.TheVariants.{Overlap, NotOpt, YesNeedsOptin}
use Rattle.track_modes.specs.declared.fault.ModeFault.TheVariants.{NoNeedsOptout, NoMemory}
use Rattle.track_modes.specs.declared.tracking.TrackMode.{TrackMode}
use Rattle.track_modes.specs.declared.tracking.TrackMode.TheVariants.{Default, OptIn, OptOut, Bcast}
use Rattle.track_modes.specs.declared.tracking.Settings.{Settings}
use Rattle.track_modes.specs.declared.tracking.Tracking.{Tracking}
use Rattle.track_modes.specs.declared.tracking.Tracking.TheVariants.{Off, On}
use Rattle.track_modes.specs.ModeState.{prefixes_of}
use Rattle.track_modes.specs.PrefixLists.{overlapped, registered}

abbrev pub is_bcast : TrackMode → Bool
is_bcast Default = false
is_bcast OptIn = false
is_bcast OptOut = false
is_bcast (Bcast prefixes) = true

-- tracking is on with BCAST and the command is without it, or the reverse
abbrev pub switches_bcast : TrackOptions → Tracking → Bool
switches_bcast o Off = false
switches_bcast o (On s) = if is_bcast s.mode then not o.bcast else o.bcast

-- OPTIN while OPTOUT is in force, or the reverse
abbrev pub switches_opt_in : TrackOptions → TrackMode → Bool
switches_opt_in o Default = false
switches_opt_in o OptIn = o.optout
switches_opt_in o OptOut = o.optin
switches_opt_in o (Bcast prefixes) = false

abbrev pub switches_opt : TrackOptions → Tracking → Bool
switches_opt o Off = false
switches_opt o (On s) = switches_opt_in o s.mode

abbrev pub has_prefix : TrackOptions → Bool
has_prefix o = not (length o.prefixes == 0)

-- Why CLIENT TRACKING ON is refused, if it is: the first of these that holds. The connection that
-- REDIRECT names is a target where it has not ended.
abbrev pub on_fault : TrackOptions → Bool → Tracking → Option ModeFault
on_fault o target_exists t =
    if is_some o.redirect && not target_exists then Some NoTarget else
    if has_prefix o && not o.bcast then Some PrefixNeedsBcast else
    if switches_bcast o t then Some SwitchBcast else
    if o.optin && o.optout then Some BothOpts else
    if o.bcast && (o.optin || o.optout) then Some OptWithBcast else
    if switches_opt o t then Some SwitchOpt else
    option_map Overlap (overlapped (prefixes_of t) o.prefixes)

-- with OFF the options are read and have no effect
abbrev pub tracking_fault : TrackOptions → Bool → Tracking → Option ModeFault
tracking_fault o target_exists t = if o.on then on_fault o target_exists t else None

-- prefixes are added to those in force
abbrev pub track_mode : TrackOptions → Tracking → TrackMode
track_mode o t =
    if o.bcast then Bcast (registered o.prefixes (prefixes_of t)) else
    if o.optin then OptIn else if o.optout then OptOut else Default

abbrev pub settings : TrackOptions → Tracking → Settings
settings o t = record { mode = track_mode o t; redirect = o.redirect; noloop = o.noloop }

-- what an accepted CLIENT TRACKING leaves
abbrev pub tracked : TrackOptions → Tracking → Tracking
tracked o t = if o.on then On (settings o t) else Off

-- why CLIENT CACHING is refused, if it is
abbrev pub caching_fault_in : Bool → TrackMode → Option ModeFault
caching_fault_in is_yes Default = Some NotOpt
caching_fault_in is_yes OptIn = if is_yes then None else Some NoNeedsOptout
caching_fault_in is_yes OptOut = if is_yes then Some YesNeedsOptin else None
caching_fault_in is_yes (Bcast prefixes) = Some NotOpt

abbrev pub caching_fault : Bool → Tracking → Option ModeFault
caching_fault is_yes Off = Some NotOpt
caching_fault is_yes (On s) = caching_fault_in is_yes s.mode

-- Only prefixes take memory: those that are registered, and the one that a refusal names.
abbrev pub MayRunOut : Bool → Option ModeFault → Type 0
MayRunOut registers None = registers ≡ true
MayRunOut registers (Some (Overlap old)) = Unit {0}
MayRunOut registers (Some fault) = ⊥

-- what was answered is the fault, or that memory ran out
abbrev pub IsRefusal : Bool → ModeFault → Option ModeFault → Type 0
IsRefusal registers NoMemory wanted = MayRunOut registers wanted
IsRefusal registers fault wanted = wanted ≡ Some fault
