-- What is read of pieces that are fed one after the other, and how many requests or values it is.
use Rattle.std.specs.Prelude.{◌≡◌, ◌-◌, ◌/◌, ◌^◌, ℕ, zero, suc, min, List, [], ◌∷◌, ◌++◌, length}
use Rattle.std.specs.Prelude.{Bool, true, false, if◌then◌else◌, codes, Option, Some, None, Result}
use Rattle.std.specs.Prelude.{Ok, Err}
use Rattle.std.specs.Str.{bytes_eq}
use Rattle.resp_value.specs.Tree.{Tree}
use Rattle.resp_stream.specs.declared.fault.StreamFault.{StreamFault}
use Rattle.resp_stream.specs.declared.fault.StreamFault.TheVariants.{NoMemory}
use Rattle.resp_stream.specs.Parse.{Batch, batch_in}
use Rattle.resp_stream.specs.Parsed.{Parsed}
use Rattle.resp_stream.specs.Readers.{skipped}
use Rattle.resp_stream.specs.Request.{request_at}
use Rattle.resp_stream.specs.Stream.{Stream, begun, fed}
use Rattle.resp_stream.specs.Value.{value_at}
use Rattle.stream_bench.specs.declared.Readers.{Readers}

-- a list so many times, one after the other
unfoldable pub repeated : {A : Type 0} → ℕ → List A → List A
repeated zero xs = []
repeated (suc n) xs = xs ++ repeated n xs

-- a batch with that fault, and behind it the next, where there is none
abbrev pub joined : {A : Type 0} → Batch A → Option StreamFault → Batch A → Batch A
joined first None next =
    record { items = first.items ++ next.items; stream = next.stream; fault = next.fault }
joined first (Some f) next = first

-- at most 65536 of each piece, which has no more bytes than that
unfoldable pub batch_of : {A : Type 0} → (List ℕ → Parsed A) → (Stream → Stream) → List (List ℕ)
    → Stream → Batch A
batch_of read past [] s = record { items = []; stream = s; fault = None }
batch_of read past (piece ∷ pieces) s =
    let first = batch_in read past 65536 (fed s piece) in
    joined first first.fault (batch_of read past pieces first.stream)

-- So many were read, or this fault stopped it. A number stays at the last value of its type.
abbrev pub Counts : {A : Type 0} → Batch A → Stream → Result ℕ StreamFault → Type 0
Counts b new (Ok count) =
    (b.fault ≡ None) × (count ≡ min (length b.items) (2 ^ 64 - 1)) × (new ≡ b.stream)
Counts b new (Err NoMemory) = Unit {0}
Counts b new (Err f) = (b.fault ≡ Some f) × (new ≡ b.stream)

abbrev pub requests_in : List (List ℕ) → Stream → Batch (List (List ℕ))
requests_in pieces s = batch_of request_at skipped pieces s

abbrev pub values_in : List (List ℕ) → Stream → Batch Tree
values_in pieces s = batch_of value_at (λ t. t) pieces s

-- the reader of requests or that of values reads the pieces, and the other is as before
abbrev pub Reads : Bool → List (List ℕ) → Readers → Readers → Result ℕ StreamFault → Type 0
Reads true pieces old new result =
    Counts (requests_in pieces old.requests) new.requests result × (new.values ≡ old.values)
Reads false pieces old new result =
    Counts (values_in pieces old.values) new.values result × (new.requests ≡ old.requests)

-- readers at offset 0
abbrev pub new_readers : Readers
new_readers = record { requests = begun; values = begun }

abbrev pub NewReads : Bool → List (List ℕ) → Result ℕ StreamFault → Type 0
NewReads requests pieces result = (new : Readers) × Reads requests pieces new_readers new result

-- ---- a blob of 16 MiB

-- its first line
abbrev pub head_of : Bool → List ℕ
head_of true = codes "*1\r\n$16777216\r\n"
head_of false = codes "$16777216\r\n"

abbrev pub blob_of : Bool → List ℕ → List (List ℕ)
blob_of requests piece =
    (head_of requests ∷ [] ++ repeated 256 (piece ∷ [])) ++ codes "\r\n" ∷ []

-- ---- what is measured

-- 32 bytes each
abbrev pub get : List ℕ
get = codes "*2\r\n$3\r\nGET\r\n$12\r\nuser:0000017\r\n"

abbrev pub reply : List ℕ
reply = codes "$25\r\nthe value of the key 1234\r\n"

-- a MiB of 32 bytes again and again, in pieces of 64 KiB
abbrev pub mebibyte_of : List ℕ → List (List ℕ)
mebibyte_of bytes = repeated 16 (repeated 2048 bytes ∷ [])

abbrev pub mebibytes_of : List ℕ → ℕ → List (List ℕ)
mebibytes_of bytes size = repeated size (mebibyte_of bytes)

-- 64 KiB of a blob
abbrev pub blob_piece : List ℕ
blob_piece = repeated 2048 (codes "0123456789abcdef0123456789abcdef")

abbrev pub blobs_of : Bool → ℕ → List (List ℕ)
blobs_of requests size = repeated size (blob_of requests blob_piece)

-- which reader reads what for this word
abbrev pub asked_of : List ℕ → ℕ → Option (Bool × List (List ℕ))
asked_of word size =
    if bytes_eq word (codes "gets") then Some (true, mebibytes_of get size) else
    if bytes_eq word (codes "replies") then Some (false, mebibytes_of reply size) else
    if bytes_eq word (codes "request_blobs") then Some (true, blobs_of true (size / 16)) else
    if bytes_eq word (codes "reply_blobs") then Some (false, blobs_of false (size / 16)) else
    None

abbrev pub Runs : Option (Bool × List (List ℕ)) → Option (Result ℕ StreamFault) → Type 0
Runs (Some asked) (Some result) = NewReads asked.0 asked.1 result
Runs (Some asked) None = ⊥
Runs None (Some result) = ⊥
Runs None None = Unit {0}
