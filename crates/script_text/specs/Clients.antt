-- The line of a client, read from what stands behind its name: how it is set up, and how many keys
-- it may hold.
use Rattle.std.specs.Prelude.{ℕ, List, [], ◌∷◌, Bool, true, false, if◌then◌else◌, codes}
use Rattle.std.specs.declared.option.Option.{Option}
use Rattle.std.specs.declared.option.Option.TheVariants.{None, Some}
use Rattle.std.specs.Option.{option_and_then}
use Rattle.std.specs.Str.{bytes_eq}
use Rattle.resp_value.specs.declared.value.Proto.{Proto}
use Rattle.resp_value.specs.declared.value.Proto.TheVariants.{Two, Three}
use Rattle.shared_cache.specs.declared.log.Shape.{Shape}
use Rattle.shared_cache.specs.declared.log.Shape.TheVariants.{Single, Pair}
use Rattle.shared_cache.specs.declared.log.Caching.{Caching}
use Rattle.shared_cache.specs.declared.log.Caching.TheVariants.{Default, OptIn, OptOut, Bcast}
use Rattle.shared_cache.specs.declared.log.ClientMode.{ClientMode}
use Rattle.script_text.specs.Words.{word_of, first_and_rest, number_within}

abbrev pub shape_of : List ℕ → Option Shape
shape_of text =
    if bytes_eq text (codes "single") then Some Single else
    if bytes_eq text (codes "pair") then Some Pair else
    None

abbrev pub proto_of : List ℕ → Option Proto
proto_of text =
    if bytes_eq text (codes "2") then Some Two else
    if bytes_eq text (codes "3") then Some Three else
    None

-- over one link invalidations are pushes, which are of the third protocol
abbrev pub may_speak : Shape → Proto → Bool
may_speak Single Two = false
may_speak Single Three = true
may_speak Pair proto = true

abbrev pub has_noloop : List (List ℕ) → Bool
has_noloop [] = false
has_noloop (word ∷ rest) = bytes_eq word (codes "noloop")

abbrev pub after_noloop : List (List ℕ) → List (List ℕ)
after_noloop [] = []
after_noloop (word ∷ rest) = if bytes_eq word (codes "noloop") then rest else word ∷ rest

-- prefixes, the word `prefix` before each
abbrev pub prefixes_of : List (List ℕ) → Option (List (List ℕ))
prefixes_of [] = Some []
prefixes_of (word ∷ []) = None
prefixes_of (word ∷ text ∷ rest) =
    if bytes_eq word (codes "prefix") then first_and_rest (word_of text) (prefixes_of rest)
    else None

abbrev pub unprefixed_of : List ℕ → Option Caching
unprefixed_of text =
    if bytes_eq text (codes "default") then Some Default else
    if bytes_eq text (codes "optin") then Some OptIn else
    if bytes_eq text (codes "optout") then Some OptOut else
    None

-- only `bcast` may have prefixes
abbrev pub caching_of : List ℕ → List (List ℕ) → Option Caching
caching_of text [] =
    if bytes_eq text (codes "bcast") then Some (Bcast []) else unprefixed_of text
caching_of text (prefix ∷ prefixes) =
    if bytes_eq text (codes "bcast") then Some (Bcast (prefix ∷ prefixes)) else None

abbrev pub most_keys : ℕ
most_keys = 1000000

abbrev pub mode_of : Option Shape → Option Proto → Option Caching → Bool → Option ClientMode
mode_of (Some shape) (Some proto) (Some caching) noloop =
    if may_speak shape proto then
    Some (record { shape = shape; proto = proto; caching = caching; noloop = noloop })
    else None
mode_of (Some shape) (Some proto) None noloop = None
mode_of (Some shape) None caching noloop = None
mode_of None proto caching noloop = None

abbrev pub with_keys : Option ClientMode → Option ℕ → Option (ClientMode × ℕ)
with_keys (Some mode) (Some keys) = Some (mode, keys)
with_keys (Some mode) None = None
with_keys None keys = None

unfoldable pub client_from : List ℕ → List ℕ → List ℕ → List ℕ → List (List ℕ)
    → Option (ClientMode × ℕ)
client_from shape proto caching keys options =
    let prefixes = prefixes_of (after_noloop options) in
    let cached = option_and_then (caching_of caching) prefixes in
    with_keys (mode_of (shape_of shape) (proto_of proto) cached (has_noloop options))
    (number_within 1 most_keys keys)

abbrev pub client_of : List (List ℕ) → Option (ClientMode × ℕ)
client_of [] = None
client_of (shape ∷ []) = None
client_of (shape ∷ proto ∷ []) = None
client_of (shape ∷ proto ∷ caching ∷ []) = None
client_of (shape ∷ proto ∷ caching ∷ keys ∷ options) =
    client_from shape proto caching keys options
