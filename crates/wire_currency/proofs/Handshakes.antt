-- What a client's order of sending says of the order of Runs, on any two of its wires.
use Rattle.std.specs.Prelude.{◌∷◌}
use Rattle.wire_currency.specs.Traffic.{replies}
use Rattle.wire_currency.specs.Opened.{RunsInOrder}
use Rattle.wire_currency.proofs.Lists.{at_place}
use Rattle.wire_currency.proofs.Replies.{reply_of, reply_before_run}

-- where the command of a place was sent by an entry that had got the reply of that number on
-- another wire, or by a later one: the other command has run, before it
pub ran_first : {Wire Log Words Value Message : Type 0} (IsGot : Value → Message → Type 0)
    → RunsInOrder Wire Log Words Value Message IsGot
ran_first IsGot x log meets order w u has hav later sooner e is grown place n r unsent got ran =
    let v = at_place (replies x w (e ∷ sooner)) n got in
    let k = reply_of IsGot x log meets order w has (e ∷ sooner) grown n v.0 v.1 in (
      k.sending.0,
      k.entry,
      reply_before_run IsGot x log meets order later sooner e is w u has hav grown place r n
          k.sending.0 unsent ran got k.entry,
    )
