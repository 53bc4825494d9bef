-- What both ends of a client's links have recorded, whatever the client's shape and the form of its
-- log: any number of wires, and of each what was put on it and what came.
use Rattle.std.specs.Prelude.{◌≡◌, ◌<◌, ◌≤◌, ◌⊎◌, ◌++◌, ℕ, List, [], ◌∷◌, length, Bool, Some}
use Rattle.std.specs.Prelude.{slice_get, true}
use Rattle.std.specs.List.{filter}

-- ---- lists

abbrev pub In : {A : Type 0} → A → List A → Type 0
In x [] = ⊥
In x (y ∷ ys) = (y ≡ x) ⊎ In x ys

abbrev pub IsPrefix : {A : Type 0} → List A → List A → Type 0
IsPrefix {A} xs ys = (rest : List A) × (xs ++ rest ≡ ys)

-- ---- the record of both ends

-- The client's wires, those of them that its commands go on, and whether it has one alone. Of its
-- log: that a wire is over, what was got on it, how many replies these are, and the commands that
-- go on it. Of the history: its length, what was sent to a wire's connection, each with the number
-- of its entry, what that ran and at which entries, and whether it had ended after so many entries.
-- And which values are replies, as got and as sent.
pub record Traffic (Wire Log Words Value Message : Type 0) : Type 0 where
  pub wires : List Wire
  pub data_wires : List Wire
  pub is_alone : Bool
  pub over : Wire → List Log → Bool
  pub gots : Wire → List Log → List Value
  pub replied : Wire → List Log → ℕ
  pub commands : Wire → List Log → List Words
  pub last : ℕ
  pub sent : Wire → List (ℕ × Message)
  pub runs : Wire → List Words
  pub entries : Wire → List ℕ
  pub has_ended : Wire → ℕ → Bool
  pub is_reply : Wire → Value → Bool
  pub is_reply_sent : Wire → Message → Bool

module _ {Wire Log Words Value Message : Type 0} (x : Traffic Wire Log Words Value Message) where
  -- the replies on a wire, as got and as sent
  abbrev pub replies : Wire → List Log → List Value
  replies w log = filter (x.is_reply w) (x.gots w log)

  abbrev pub replies_sent : Wire → List (ℕ × Message)
  replies_sent w = filter (λ (s : ℕ × Message). x.is_reply_sent w s.1) (x.sent w)

  -- all that was got by a log entry was sent before any command ran that had not been sent by the
  -- entries before it
  abbrev pub AllBefore : Log → List Log → Type 0
  AllBefore e log =
      (w u : Wire) → In w x.wires → In u x.wires → (place r i : ℕ) (s : ℕ × Message)
      → length (x.commands u log) ≤ place → slice_get (x.entries u) place ≡ Some r
      → i < length (x.gots w (e ∷ log)) → slice_get (x.sent w) i ≡ Some s → s.0 < r

  abbrev pub IsCausal : List Log → Type 0
  IsCausal [] = Unit {0}
  IsCausal (e ∷ log) = AllBefore e log × IsCausal log

-- the values are the first that were sent
module _ {Value Message : Type 0} (IsGot : Value → Message → Type 0) where
  abbrev pub AreGot : List Value → List (ℕ × Message) → Type 0
  AreGot [] ss = Unit {0}
  AreGot (v ∷ vs) [] = ⊥
  AreGot (v ∷ vs) (s ∷ ss) = IsGot v s.1 × AreGot vs ss

module _ {Wire Log Words Value Message : Type 0} (IsGot : Value → Message → Type 0)
    (x : Traffic Wire Log Words Value Message) where
  -- a history and a client's log that its links have kept together: commands run in order, and only
  -- those that were sent; what is got is what was sent, in order
  pub record Meets (log : List Log) : Type 0 where
    pub ran : (w : Wire) → In w x.wires → IsPrefix (x.runs w) (x.commands w log)
    pub came : (w : Wire) → In w x.wires → AreGot IsGot (x.gots w log) (x.sent w)
    pub causal : IsCausal x log

  -- an end stands among what was sent, at an entry up to this: no value is got of it
  pub record EndSent (w : Wire) (r : ℕ) : Type 0 where
    pub place : ℕ
    pub sending : ℕ × Message
    pub there : slice_get (x.sent w) place ≡ Some sending
    pub number : sending.0 ≤ r
    pub never : (v : Value) → IsGot v sending.1 → ⊥

  -- Of any history: what was sent is in the order of its entries, of which the first has number 1.
  pub record SentInOrder : Type 0 where
    pub sent_within :
        (w : Wire) → In w x.wires → (i : ℕ) (s : ℕ × Message) → slice_get (x.sent w) i ≡ Some s
        → (0 < s.0) × (s.0 ≤ x.last)
    pub sent_order :
        (w : Wire) → In w x.wires → (i j : ℕ) (s t : ℕ × Message) → i ≤ j
        → slice_get (x.sent w) i ≡ Some s → slice_get (x.sent w) j ≡ Some t → s.0 ≤ t.0

  -- Of a legal history alone: what ran is in that order too; the replies are those of the commands
  -- that ran, one for one; a value is a reply exactly where what it was got of is one; and an end
  -- is sent.
  pub record SentLaws : Type 0 where
    pub in_order : SentInOrder
    pub runs_order :
        (w : Wire) → In w x.wires → (i j p q : ℕ) → i < j → slice_get (x.entries w) i ≡ Some p
        → slice_get (x.entries w) j ≡ Some q → p < q
    pub runs_count : (w : Wire) → In w x.wires → length (x.entries w) ≡ length (x.runs w)
    pub replies_of_runs :
        (w : Wire) → In w x.wires → (j : ℕ) (s : ℕ × Message)
        → slice_get (replies_sent x w) j ≡ Some s → slice_get (x.entries w) j ≡ Some s.0
    pub reply_kind :
        (w : Wire) → In w x.wires → (i : ℕ) (s : ℕ × Message) (v : Value)
        → slice_get (x.sent w) i ≡ Some s → IsGot v s.1 → x.is_reply w v ≡ x.is_reply_sent w s.1
    pub end_sent :
        (w : Wire) → In w x.wires → (r : ℕ) → r ≤ x.last → x.has_ended w r ≡ true → EndSent w r
