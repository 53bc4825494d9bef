-- What a function of the reader gives, by what reading the text gives.
use Rattle.std.specs.Prelude.{◌≡◌, ◌≤◌, ℕ, List, length, Option, Some, None, Result, Ok, Err}
use Rattle.resp_stream.specs.declared.fault.Broken.{Broken}
use Rattle.resp_stream.specs.declared.fault.ReadStop.{ReadStop}
use Rattle.resp_stream.specs.declared.fault.ReadStop.TheVariants.{NoMemory, Faulty}
use Rattle.resp_value.specs.Tree.{Tree}
use Rattle.resp_stream.specs.Parsed.{Parsed, Whole, More, Bad}

abbrev pub Gives : {X Y : Type 0} → (X → Y × List ℕ) → Result (Option X) Broken → Parsed Y → Type 0
Gives view (Ok None) a = a ≡ More
Gives view (Ok (Some x)) a = a ≡ Whole (view x).0 (view x).1
Gives view (Err e) a = (r : List ℕ) × (a ≡ Bad e.fault r) × (length r ≡ e.left)

-- the number that was read is at most this
abbrev pub IfNumber : {X : Type 0} → Result (Option (ℕ × X)) Broken → ℕ → Type 0
IfNumber (Ok None) most = Unit {0}
IfNumber (Ok (Some x)) most = x.0 ≤ most
IfNumber (Err e) most = Unit {0}

abbrev pub StopGives : ReadStop → Parsed Tree → Type 0
StopGives NoMemory a = Unit {0}
StopGives (Faulty e) a = (r : List ℕ) × (a ≡ Bad e.fault r) × (length r ≡ e.left)

-- what reading a value from the front of a text gives
abbrev pub LeafGives : {X : Type 0} → (X → Tree × List ℕ) → Result (Option X) ReadStop → Parsed Tree
    → Type 0
LeafGives view (Ok None) a = a ≡ More
LeafGives view (Ok (Some x)) a = a ≡ Whole (view x).0 (view x).1
LeafGives view (Err e) a = StopGives e a

abbrev pub AtMost : Option ℕ → ℕ → Type 0
AtMost None most = Unit {0}
AtMost (Some n) most = n ≤ most

-- the length that was read is at most this
abbrev pub IfLength : {X : Type 0} → Result (Option (Option ℕ × X)) Broken → ℕ → Type 0
IfLength (Ok None) most = Unit {0}
IfLength (Ok (Some x)) most = AtMost x.0 most
IfLength (Err e) most = Unit {0}
