-- A past owns nothing, so it may go to another thread.
use denote.RattleType.{RattleType}
use denote.Param.Send.{IsSend, view_send}
use Rattle.past_entries.specs.contracts.past.Past.{the_row}
use Rattle.past_entries.specs.contracts.past.Past.TheInside.{the_row as inside}

inside_send : (T : RattleType) → IsSend (inside T)
inside_send T = record {
  owned = λ d vs. ((λ vss. (tt, ((λ uss. (tt, tt)), tt))), tt);
  leaving = λ k f vs. tt;
}

pub send : (T : RattleType) → IsSend (the_row T)
send T = view_send _ _ _ _ _ (inside_send T)
