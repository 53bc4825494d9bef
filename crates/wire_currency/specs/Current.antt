-- How far a client has processed what was sent to it, what currency says of a value that it holds,
-- and the theorem.
use Rattle.std.specs.Prelude.{◌≡◌, ◌-◌, ◌<◌, ◌≤◌, ℕ, List, [], ◌∷◌, length, drop, take, min, max}
use Rattle.std.specs.Prelude.{Bool, Some, true, false, if◌then◌else◌, slice_get}
use Rattle.wire_currency.specs.Traffic.{In, Traffic, Meets, SentLaws, replies}
use Rattle.wire_currency.specs.Fetch.{Fetch, LogLaws, EntryLaws, Handshake}

-- ---- how far

-- the least of some numbers, or `all` where there are none
abbrev pub least : {A : Type 0} → (A → ℕ) → ℕ → List A → ℕ
least on all [] = all
least on all (x ∷ []) = on x
least on all (x ∷ y ∷ xs) = min (on x) (least on all (y ∷ xs))

-- the greatest, or 0 where there are none
abbrev pub greatest : {A : Type 0} → (A → ℕ) → List A → ℕ
greatest on [] = 0
greatest on (x ∷ []) = on x
greatest on (x ∷ y ∷ xs) = max (on x) (greatest on (y ∷ xs))

-- the entry before the first of these, or the last of all where there is none
abbrev pub before_first : {M : Type 0} → List (ℕ × M) → ℕ → ℕ
before_first [] all = all
before_first (s ∷ ss) all = s.0 - 1

-- the entry of the last of these commands that passes a test, or 0
abbrev pub last_named : {C : Type 0} → (C → Bool) → List C → List ℕ → ℕ
last_named names [] entries = 0
last_named names (words ∷ runs) [] = 0
last_named names (words ∷ runs) (r ∷ entries) =
    max (if names words then r else 0) (last_named names runs entries)

module _ {Wire Log Words Value Message : Type 0} (x : Traffic Wire Log Words Value Message)
    (log : List Log) where
  -- the number of entries all of whose messages on a wire are processed; a wire that is over does
  -- not count
  abbrev pub complete_on : Wire → ℕ
  complete_on w =
      if x.over w log then x.last
      else before_first (drop (length (x.gots w log)) (x.sent w)) x.last

  -- on all wires
  abbrev pub complete : ℕ
  complete = least complete_on x.last x.wires

  -- the entry of the last processed reply, on a wire, to a command that passes a test
  abbrev pub named_on : (Words → Bool) → Wire → ℕ
  named_on names w = last_named names (take (x.replied w log) (x.runs w)) (x.entries w)

  -- on all wires with commands
  abbrev pub named : (Words → Bool) → ℕ
  named names = greatest (named_on names) x.data_wires

-- ---- what is current

module _ {Wire Log Words Value Message Answer : Type 0}
    (x : Traffic Wire Log Words Value Message) (f : Fetch Wire Words Value Answer)
    (log : List Log) where
  -- the point of a hit, where its fetch ran at that entry
  abbrev pub point : ℕ → ℕ
  point at = max at (max (complete x log) (named x log f.names))

  -- a value is the answer from the entry that ran its fetch to the last that is complete
  abbrev pub IsCurrent : Value → Type 0
  IsCurrent v =
      (p r : ℕ) → slice_get (x.entries f.home) f.place ≡ Some p → p ≤ r → r ≤ complete x log
      → f.shown v ≡ f.answer r

  -- a hit would answer what the server answers at its point, which is an entry of the history that
  -- is behind each invalidation of its key that the client has processed
  pub record HasPoint (v : Value) : Type 0 where
    pub fetched : ℕ
    pub ran : slice_get (x.entries f.home) f.place ≡ Some fetched
    pub answers : f.shown v ≡ f.answer (point fetched)
    pub within : point fetched ≤ x.last
    pub after :
        (w : Wire) → In w x.wires → (i : ℕ) (u : Value) (s : ℕ × Message)
        → slice_get (x.gots w log) i ≡ Some u → f.voids w u ≡ true
        → slice_get (x.sent w) i ≡ Some s → s.0 < point fetched

-- ---- the theorem

module _ (Wire Log Words Value Message Answer : Type 0) (IsGot : Value → Message → Type 0) where
  -- For every history and every log that meet, and every fetch that is open in the log: where the
  -- laws of the log, of what was sent, of the entries and of the handshake hold, the reply that was
  -- got to it is current, and a hit on it has its point.
  abbrev pub Currency : (ℕ → Type 0) → (ℕ → Type 0) → Type 0
  Currency AsAsked Remembered =
      (x : Traffic Wire Log Words Value Message) (f : Fetch Wire Words Value Answer)
      (log : List Log)
      → Meets IsGot x log → LogLaws x f log → SentLaws IsGot x
      → ((at : ℕ) → slice_get (x.entries f.home) f.place ≡ Some at
      → EntryLaws IsGot x f AsAsked Remembered at × Handshake x.last AsAsked Remembered at)
      → (v : Value) → slice_get (replies x f.home log) f.place ≡ Some v
      → IsCurrent x f log v × HasPoint x f log v

  -- on more wires than one the point of a hit is the greater of its fetch's entry and what is
  -- complete
  abbrev pub PointApart : Type 0
  PointApart =
      (x : Traffic Wire Log Words Value Message) (f : Fetch Wire Words Value Answer)
      (log : List Log)
      → Meets IsGot x log → LogLaws x f log → SentLaws IsGot x → x.is_alone ≡ false
      → (at : ℕ) → slice_get (x.entries f.home) f.place ≡ Some at
      → point x f log at ≡ max at (complete x log)
