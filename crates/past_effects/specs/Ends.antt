-- Which connections end by an effect, and what it leaves of them.
use Rattle.std.specs.Prelude.{◌≡◌, ◌+◌, ◌<◌, ◌≤◌, ◌&&◌, ◌||◌, ℕ, List, Bool, if◌then◌else◌, nat_lt}
use Rattle.std.specs.Prelude.{length, Option, None}
use Rattle.serial_model.specs.State.{is_live}
use Rattle.serial_model.specs.Tracking.{ids_where}
use Rattle.past_effects.specs.declared.connection.Causes.{Causes}
use Rattle.past_effects.specs.declared.sendings.Sent.{Sent}
use Rattle.past_effects.specs.Seen.{Seen, gone, passes, seen_at}
use Rattle.past_effects.specs.Sendings.{at_most, bytes_for}

-- one that quits ends, all at a SHUTDOWN, and those for whom more bytes wait than the limit
abbrev pub ends_one : Causes → List Sent → ℕ → Seen → Bool
ends_one causes sent c seen =
    is_live seen.standing
    && (passes causes.quitter c || causes.stops
    || nat_lt causes.out_max (seen.waiting + bytes_for c sent))

-- how many bytes wait for one that has not ended, if it does not end
abbrev pub left_of : Causes → List Sent → ℕ → Seen → Option ℕ
left_of causes sent c seen =
    if passes causes.quitter c || causes.stops then None
    else at_most causes.out_max (seen.waiting + bytes_for c sent)

abbrev pub ended_ids : Causes → List Sent → List Seen → List ℕ
ended_ids causes sent cs = ids_where (λ c. ends_one causes sent c (seen_at cs c)) (length cs)

abbrev pub settled_one : Causes → List Sent → ℕ → Seen → Seen
settled_one causes sent c seen =
    if is_live seen.standing then
    (if ends_one causes sent c seen then gone seen
    else record seen { waiting = seen.waiting + bytes_for c sent })
    else seen

-- each connection is settled
pub record AreSettled (causes : Causes) (sent : List Sent) (old new : List Seen) : Type 0 where
  pub count : length new ≡ length old
  pub each : (c : ℕ) → 0 < c → c ≤ length old
      → seen_at new c ≡ settled_one causes sent c (seen_at old c)
