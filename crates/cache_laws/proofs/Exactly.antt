-- What a client holds, told by its log from the outside.
use Rattle.cache_laws.specs.HeldExactly.{HoldsExactly}
use Rattle.cache_laws.proofs.Fetching.{is_open, is_under_way}
use Rattle.cache_laws.proofs.Once.{is_held}
use Rattle.cache_laws.proofs.Kept.{holds}
use Rattle.cache_laws.proofs.Stays.{stays}
use Rattle.cache_laws.proofs.Hits.{hit, hit_of}

pub holds_exactly : HoldsExactly
holds_exactly s log some legal = record {
  is_open = is_open s log;
  under_way = is_under_way s log;
  is_held = is_held s log some legal;
  holds = holds s log legal;
  stays = λ e more h c. stays s log e some more h c;
  hit = hit s log some legal;
  hit_of = hit_of s log;
}
