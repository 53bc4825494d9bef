-- How far a client has processed what was sent to it, told by what it got: exactly.
use Rattle.std.specs.Prelude.{◌≡◌, ◌+◌, ◌<◌, ◌≤◌, ◌⊎◌, ℕ, List, length, true, false, Some}
use Rattle.std.specs.Prelude.{slice_get}
use Rattle.wire_currency.specs.Traffic.{In, Traffic, Meets, SentInOrder}
use Rattle.wire_currency.specs.Current.{complete, complete_on}

module _ {Wire Log Words Value Message : Type 0} (x : Traffic Wire Log Words Value Message)
    (log : List Log) where
  -- all that was sent on a wire is got
  abbrev pub AllGot : Wire → Type 0
  AllGot w = length (x.gots w log) ≡ length (x.sent w)

  -- the first that was sent on a wire and is not got was sent by the entry of that number
  abbrev pub WaitsFrom : Wire → ℕ → Type 0
  WaitsFrom w n = (what : Message) × (slice_get (x.sent w) (length (x.gots w log)) ≡ Some (n, what))

  -- all of the history is complete on a wire that is over; on another, the entries before the first
  -- of which something is not got, or all where there is none
  pub record CompleteOn (w : Wire) : Type 0 where
    pub over : x.over w log ≡ true → complete_on x log w ≡ x.last
    pub live : x.over w log ≡ false
        → (AllGot w × (complete_on x log w ≡ x.last)) ⊎ WaitsFrom w (complete_on x log w + 1)
    -- what they sent is got
    pub got : x.over w log ≡ false → (i : ℕ) (s : ℕ × Message)
        → slice_get (x.sent w) i ≡ Some s → s.0 ≤ complete_on x log w
        → i < length (x.gots w log)

  -- complete is the least over the client's wires
  pub record CompleteExactly : Type 0 where
    pub on : (w : Wire) → In w x.wires → CompleteOn w
    pub least : (w : Wire) → In w x.wires → complete x log ≤ complete_on x log w
    pub reached : (w : Wire) × In w x.wires × (complete x log ≡ complete_on x log w)

-- for every history and every log that meet, of a client that has a wire
abbrev pub CompletesExactly : (Wire Log Words Value Message : Type 0)
    → (Value → Message → Type 0) → Type 0
CompletesExactly Wire Log Words Value Message IsGot =
    (x : Traffic Wire Log Words Value Message) (log : List Log)
    → (w : Wire) → In w x.wires → Meets IsGot x log → SentInOrder IsGot x → CompleteExactly x log
