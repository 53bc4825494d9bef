-- No last use is past the end of the log.
use Rattle.std.proofs.Common.{◌+◌, ◌<◌, ◌≤◌, ℕ, List, [], ◌∷◌, length, Option, arith}
use Rattle.shared_cache.specs.declared.log.LogEntry.{LogEntry}
use Rattle.shared_cache.specs.declared.log.LogEntry.TheVariants.{Ask, Send, Poll, TakeOut, Got, End}
use Rattle.shared_cache.specs.declared.log.LogEntry.TheVariants.{Bad}
use Rattle.shared_cache.specs.Held.{Setup, Key, Words, used_at, last_use}

one_more : (o : Option Words) (k : Key) (n before : ℕ) → before ≤ n
    → used_at o k (n + 1) before ≤ n + 1
one_more o k n before le = grind arith

pub use_within : (s : Setup) (log : List LogEntry) (k : Key) → last_use s log k ≤ length log
use_within s [] k = omega arith
use_within s (Ask q ∷ log) k = grind (arith, one_more, use_within s log k)
use_within s (Send ws ∷ log) k = let w = use_within s log k in omega (arith, w)
use_within s (Poll n ∷ log) k = let w = use_within s log k in omega (arith, w)
use_within s (TakeOut u n ∷ log) k = let w = use_within s log k in omega (arith, w)
use_within s (Got u v ∷ log) k = grind (arith, one_more, use_within s log k)
use_within s (End u ∷ log) k = let w = use_within s log k in omega (arith, w)
use_within s (Bad u v ∷ log) k = let w = use_within s log k in omega (arith, w)

pub used_before : (s : Setup) (log : List LogEntry) (k : Key) → last_use s log k < length log + 1
used_before s log k = let w = use_within s log k in omega (arith, w)
