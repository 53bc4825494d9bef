-- The links that have not ended: each has an entry of its own left.
use Rattle.std.proofs.Common.{◌≡◌, ◌+◌, ◌≤◌, ◌<◌, ◌^◌, ◌||◌, ◌∷◌, ℕ, List, Bool, true, false, cond}
use Rattle.std.proofs.Common.{arith, ap, length, suc}
use Rattle.shared_cache.specs.declared.log.Shape.{Shape}
use Rattle.shared_cache.specs.declared.log.Shape.TheVariants.{Single, Pair}
use Rattle.shared_cache.specs.declared.log.Wire.{Wire}
use Rattle.shared_cache.specs.declared.log.Wire.TheVariants.{Main, Side}
use Rattle.shared_cache.specs.declared.log.LogEntry.{LogEntry}
use Rattle.shared_cache.specs.Log.{ends_wire}

-- whether the link of a wire has ended
abbrev pub on_wire : Wire → Bool → Bool → Bool
on_wire Main main side = main
on_wire Side main side = side

-- an end takes the room of one that was open
pub room_less : (shape : Shape) (w : Wire) (ready main side : Bool) → on_wire w main side ≡ false
    → cond (ends_wire shape w Main ready || main) 0 1
    + cond (ends_wire shape w Side ready || side) 0 1 + 1
    ≤ cond main 0 1 + cond side 0 1
room_less shape Main ready false side e = omega arith
room_less shape Main ready true side e = absurd (let no : true ≡ false = e in cc)
room_less Single Side ready main false e = omega arith
room_less Pair Side true main false e = omega arith
room_less Pair Side false true false e = omega arith
room_less Pair Side false false false e = omega arith
room_less shape Side ready main true e = absurd (let no : true ≡ false = e in cc)

pub at_most_one : (over : Bool) → cond over 0 1 ≤ 1
at_most_one over = grind arith

pub longer : (log new : List LogEntry) (e : LogEntry) → new ≡ e ∷ log → length new ≡ length log + 1
longer log new e is =
    let step : length new ≡ suc (length log) = ap length is in
    omega (arith, step)

-- with so many numbers left before an entry, each link and each number that is owed has its own
pub room_left : (log new : List LogEntry) (e : LogEntry) (owed now more : ℕ) (main side : Bool)
    → new ≡ e ∷ log → length log + owed + more < 2 ^ 64 → now + 3 ≤ owed + more
    → length new + now + cond main 0 1 + cond side 0 1 < 2 ^ 64
room_left log new e owed now more main side is fits few =
    omega (arith, longer log new e is, at_most_one main, at_most_one side)
