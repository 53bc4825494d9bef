use Rattle.std.proofs.Common.{append_assoc, arith}
use Rattle.resp_laws.proofs.Progress.{fed_twice, values_unfailed, begins_read, answers_read}
use Rattle.resp_laws.proofs.Progress.{holds_read, waits_read, stops_read}
use Rattle.resp_stream.proofs.Parse.{values_joined}
use Rattle.resp_laws.proofs.law_a_reader_goes_on_where_it_stands.Goals as goal

pub returns-clause-begins : goal.returns-clause-begins
returns-clause-begins c = begins_read

pub returns-clause-feeds : goal.returns-clause-feeds
returns-clause-feeds c = grind (arith, append_assoc, fed_twice)

pub returns-clause-answers : goal.returns-clause-answers
returns-clause-answers c = answers_read

pub returns-clause-empties : goal.returns-clause-empties
returns-clause-empties c = grind (arith, values_unfailed, values_joined, append_assoc)

pub returns-clause-holds : goal.returns-clause-holds
returns-clause-holds c = holds_read

pub returns-clause-waits : goal.returns-clause-waits
returns-clause-waits c = waits_read

pub returns-clause-stops : goal.returns-clause-stops
returns-clause-stops c = stops_read
