-- What holds of the fetches of any log.
use Rattle.std.proofs.Common.{◌≡◌, ◌<◌, ◌++◌, ℕ, List, [], ◌∷◌, length, append-nil, Bool}
use Rattle.std.proofs.Common.{false, Option, None, ap, refl, arith, ne_eqb, length-append}
use Rattle.std.proofs.lemmas.Bool.{lt-leb, or_from, and_left}
use Rattle.command_words.specs.Queries.{writes}
use Rattle.shared_cache.specs.declared.log.Wire.TheVariants.{Main}
use Rattle.shared_cache.specs.declared.log.LogEntry.{LogEntry}
use Rattle.shared_cache.specs.declared.log.LogEntry.TheVariants.{Ask, Send, Poll, TakeOut, Got, End}
use Rattle.shared_cache.specs.declared.log.LogEntry.TheVariants.{Bad}
use Rattle.shared_cache.specs.declared.entry.CacheEntry.{CacheEntry}
use Rattle.shared_cache.specs.Log.{replies, caching_on}
use Rattle.shared_cache.specs.Held.{Setup, Key, Words, SentCommand, numbered, numbers, held_for}
use Rattle.shared_cache.specs.Held.{held, unless, asked, put_ask, put_command, sent, open_fetch}
use Rattle.shared_cache.specs.Held.{got_ends, left}
use Rattle.shared_cache.proofs.Handshakes.{replies_grow}

pub unless_none : (t : Key → Bool) (o : Option Words) → o ≡ None → unless t o ≡ None
unless_none t o e = ap (unless t) e

-- a number past all that were sent has no fetch
beyond_asked : (h : Option CacheEntry) (on : Bool) (q : Words) (before : List SentCommand)
    (s : Setup) (n : ℕ) (old : Option Words)
    → numbered s (before ++ put_ask h s.mode on q) < n → (numbered s before < n → old ≡ None)
    → asked h s.mode on (numbered s before) q n old ≡ None
beyond_asked h on q before s n old lt rest = grind (arith, append-nil, ne_eqb, length-append)

pub beyond : (s : Setup) (log : List LogEntry) (n : ℕ) → numbers s log < n
    → open_fetch s log n ≡ None
beyond s (Ask q ∷ log) n lt =
    beyond_asked (held_for q (held s log)) _ q (sent s log) s n (open_fetch s log n) lt
    (beyond s log n)
beyond s (Send ws ∷ log) n lt =
    unless_none (writes ws) (open_fetch s log n)
    (beyond s log n (omega (
      arith,
      length-append (sent s log) (put_command s.mode (caching_on s.mode log) ws),
    )))
beyond s (Poll m ∷ log) n lt = beyond s log n lt
beyond s (TakeOut w m ∷ log) n lt = beyond s log n lt
beyond s (Got w v ∷ log) n lt =
    unless_none (got_ends s (sent s log) (length (replies s.mode Main log)) w v n)
    (open_fetch s log n) (beyond s log n lt)
beyond s log n lt = refl

-- a fetch without a reply has not left
pub stays : (s : Setup) (log : List LogEntry) (n : ℕ) → length (replies s.mode Main log) < n
    → left s log n ≡ false
stays s [] n lt = refl
stays s (Ask q ∷ log) n lt = stays s log n lt
stays s (Send ws ∷ log) n lt = stays s log n lt
stays s (Poll m ∷ log) n lt = stays s log n lt
stays s (TakeOut w m ∷ log) n lt = stays s log n lt
stays s (Got w v ∷ log) n lt =
    let less : length (replies s.mode Main log) < n
    = omega (arith, replies_grow s.mode Main (Got w v) log) in
    or_from _ _ (stays s log n less)
    (and_left _ _ (lt-leb n (length (replies s.mode Main log)) less))
stays s (End w ∷ log) n lt = stays s log n lt
stays s (Bad w v ∷ log) n lt = stays s log n lt
