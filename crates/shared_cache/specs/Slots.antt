-- What is held of one key, as the cache keeps it.
use Rattle.std.specs.Prelude.{List, [], ◌∷◌}
use Rattle.shared_cache.specs.declared.entry.CacheEntry.{CacheEntry}
use Rattle.shared_cache.specs.declared.slots.SlotList.{SlotList}
use Rattle.shared_cache.specs.declared.slots.SlotList.TheVariants.{One, Many}

abbrev pub slots_of : SlotList → List CacheEntry
slots_of (One h) = h ∷ []
slots_of (Many hs) = hs.items
