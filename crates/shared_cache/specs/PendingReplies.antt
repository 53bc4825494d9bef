-- Handing a reply over.
use Rattle.std.specs.Prelude.{◌≡◌, ℕ, List, slice_index_or, slice_set}
use Rattle.shared_cache.specs.declared.entry.PendingReply.{PendingReply}
use Rattle.shared_cache.specs.declared.entry.PendingReply.TheVariants as pending
use Rattle.shared_cache.specs.declared.pending.Handed.{Handed}
use Rattle.shared_cache.specs.declared.pending.Handed.TheVariants.{Waiting, There, Gone}

abbrev pub HandsOver : List PendingReply → ℕ → Handed → List PendingReply → Type 0
HandsOver old place Waiting new =
    (slice_index_or old place pending.Gone ≡ pending.Waiting) × (new ≡ old)
HandsOver old place Gone new =
    (slice_index_or old place pending.Gone ≡ pending.Gone) × (new ≡ old)
HandsOver old place (There v) new =
    (slice_index_or old place pending.Gone ≡ pending.There v)
    × (new ≡ slice_set old place pending.Gone)
