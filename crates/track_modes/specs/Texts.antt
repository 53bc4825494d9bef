-- The texts of the error replies to CLIENT TRACKING and CLIENT CACHING.
use Rattle.std.specs.Prelude.{ℕ, List, [], codes}
use Rattle.track_modes.specs.declared.fault.ModeFault.{ModeFault}
use Rattle.track_modes.specs.declared.fault.ModeFault.TheVariants.{NoTarget, PrefixNeedsBcast}
use Rattle.track_modes.specs.declared.fault.ModeFault.TheVariants.{SwitchBcast, BothOpts}
use Rattle.track_modes.specs.declared.fault.ModeFault.TheVariants.{OptWithBcast, SwitchOpt}
use Rattle.track_modes.specs.declared.fault.ModeFault.TheVariants.{Overlap, NotOpt, YesNeedsOptin}
use Rattle.track_modes.specs.declared.fault.ModeFault.TheVariants.{NoNeedsOptout, NoMemory}

abbrev pub mode_fault_text : ModeFault → List ℕ
mode_fault_text NoTarget = codes "ERR no such client to redirect to"
mode_fault_text PrefixNeedsBcast = codes "ERR PREFIX needs BCAST"
mode_fault_text SwitchBcast = codes "ERR BCAST can't be switched while tracking is on"
mode_fault_text BothOpts = codes "ERR OPTIN and OPTOUT exclude each other"
mode_fault_text OptWithBcast = codes "ERR OPTIN and OPTOUT are not for BCAST"
mode_fault_text SwitchOpt = codes "ERR OPTIN and OPTOUT can't be switched while tracking is on"
mode_fault_text (Overlap old) = codes "ERR prefixes must not overlap"
mode_fault_text NotOpt = codes "ERR CLIENT CACHING needs OPTIN or OPTOUT"
mode_fault_text YesNeedsOptin = codes "ERR CLIENT CACHING YES needs OPTIN"
mode_fault_text NoNeedsOptout = codes "ERR CLIENT CACHING NO needs OPTOUT"
mode_fault_text NoMemory = []
