-- What the pieces of a stream have to do with the whole of it.
use Rattle.std.specs.Prelude.{◌≡◌, ℕ, List, [], ◌∷◌, ◌++◌, Option, Some, None, Result, Ok, Err}
use Rattle.resp_value.specs.Lists.{IsPrefix}
use Rattle.resp_value.specs.ValueTree.{tree_of}
use Rattle.resp_value.specs.declared.octets.Words.{Words}
use Rattle.resp_value.specs.declared.value.Value.{Value}
use Rattle.resp_stream.specs.declared.fault.StreamFault.{StreamFault}
use Rattle.resp_stream.specs.Parse.{parse, parse_values, requests_of, values_of}
use Rattle.resp_stream.specs.Readers.{RequestGives, ValueGives}
use Rattle.resp_stream.specs.Stream.{Stream, begun, fed}

-- Where b has no fault, its requests, and those of m after what b left, are those of b and m as
-- one.
abbrev pub RequestsJoin : Type 0
RequestsJoin = (b m : List ℕ) → (parse (fed begun b)).fault ≡ None →
    requests_of (b ++ m) ≡ requests_of b ++ (parse (fed (parse (fed begun b)).stream m)).items

abbrev pub ValuesJoin : Type 0
ValuesJoin = (b m : List ℕ) → (parse_values (fed begun b)).fault ≡ None →
    values_of (b ++ m)
    ≡ values_of b ++ (parse_values (fed (parse_values (fed begun b)).stream m)).items

-- Later bytes only add to what was read, fault or not.
abbrev pub RequestsGrow : Type 0
RequestsGrow = (b m : List ℕ) → IsPrefix (requests_of b) (requests_of (b ++ m))

abbrev pub ValuesGrow : Type 0
ValuesGrow = (b m : List ℕ) → IsPrefix (values_of b) (values_of (b ++ m))

-- ---- the calls of a reader

-- a piece that was fed, or what the reader answered
pub data ReaderCall (X : Type 0) : Type 0 where
  Fed : List ℕ → ReaderCall X
  Answered : Result (Option X) StreamFault → ReaderCall X

-- the calls keep the reader's contract, where `gives` is that of its answers
abbrev pub AreCalls : {X : Type 0} → (Stream → Stream → Result (Option X) StreamFault → Type 0)
    → Stream → List (ReaderCall X) → Type 0
AreCalls gives s [] = Unit {0}
AreCalls gives s (Fed piece ∷ calls) = AreCalls gives (fed s piece) calls
AreCalls gives s (Answered result ∷ calls) =
    (t : Stream) × gives s t result × AreCalls gives t calls

-- all bytes that were fed
abbrev pub bytes_fed : {X : Type 0} → List (ReaderCall X) → List ℕ
bytes_fed [] = []
bytes_fed (Fed piece ∷ calls) = piece ++ bytes_fed calls
bytes_fed (Answered result ∷ calls) = bytes_fed calls

abbrev pub item_of : {A X : Type 0} → (X → A) → Result (Option X) StreamFault → List A
item_of view (Ok None) = []
item_of view (Ok (Some x)) = view x ∷ []
item_of view (Err f) = []

-- what was answered, in turn
abbrev pub items_answered : {A X : Type 0} → (X → A) → List (ReaderCall X) → List A
items_answered view [] = []
items_answered view (Fed piece ∷ calls) = items_answered view calls
items_answered view (Answered result ∷ calls) = item_of view result ++ items_answered view calls

-- What is answered is a prefix of what all bytes hold, however they are cut.
abbrev pub OnlyRequests : Type 0
OnlyRequests = (calls : List (ReaderCall Words)) → AreCalls RequestGives begun calls
    → IsPrefix (items_answered (λ ws. ws) calls) (requests_of (bytes_fed calls))

abbrev pub OnlyValues : Type 0
OnlyValues = (calls : List (ReaderCall Value)) → AreCalls ValueGives begun calls
    → IsPrefix (items_answered tree_of calls) (values_of (bytes_fed calls))
