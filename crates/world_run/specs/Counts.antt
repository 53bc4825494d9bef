-- How much the clients of a world hold.
use Rattle.std.specs.Prelude.{ℕ, length}
use Rattle.std.specs.List.{sum_by}
use Rattle.shared_cache.specs.Held.{held}
use Rattle.world_run.specs.WorldState.{MemberState, WorldState}

-- how many queries a client holds
abbrev pub held_of : MemberState → ℕ
held_of m = length (held m.state.setup m.state.past)

-- and all clients
abbrev pub all_held : WorldState → ℕ
all_held w = sum_by held_of w.members
