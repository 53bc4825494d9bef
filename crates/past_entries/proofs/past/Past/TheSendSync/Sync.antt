-- A past owns nothing, so any thread may share it.
use denote.Memory.{part_of, raw_all}
use denote.RattleType.{RattleType}
use denote.Param.Send.{IsSync, cell_keyless, view_sync}
use Rattle.past_entries.specs.contracts.past.Past.{the_row}
use Rattle.past_entries.specs.contracts.past.Past.TheInside.{the_row as inside}

inside_sync : (T : RattleType) → IsSync (inside T)
unfolding part_of
inside_sync T = record {
  shared = λ d b o κ. λ q vs. (
    cell_keyless q (raw_all (inside T).mir) vs b o,
    ((λ vss. (tt, ((λ uss. (tt, tt)), tt))), tt),
  );
}

pub sync : (T : RattleType) → IsSync (the_row T)
sync T = view_sync _ _ _ _ _ (inside_sync T)
