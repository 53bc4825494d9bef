-- Why no call of a batch was played.
use Rattle.std.specs.Prelude.{◌≡◌, ℕ, ◌+◌, ◌≤◌, ◌<◌}
use Rattle.turn_lock.specs.Seats.{Known}
use Rattle.turn_lock.specs.declared.lock.Unplayed.{Unplayed}
use Rattle.turn_lock.specs.declared.lock.Unplayed.TheVariants as unplayed
use Rattle.turn_lock.specs.declared.rule.TheConstants.{LAST_TICKET}

-- the seat has what it had, and where tickets were wanting it shows how few are left
abbrev pub IsUnplayed : {U E : Type 0} → Unplayed → ℕ → Known U E → Known U E → Type 0
IsUnplayed unplayed.NoMemory calls before after = after ≡ before
IsUnplayed (unplayed.Worn w) calls before after =
    (w.tickets ≤ LAST_TICKET) × (LAST_TICKET < w.tickets + calls)
    × (after ≡ record before { tickets = w.tickets })
