use Rattle.resp_stream.specs.RequestSteps.{HasWords}
use Rattle.resp_stream.proofs.request.read_words.Given as goal

abbrev pub invariant-words : goal.invariant-words
invariant-words l = HasWords l.text l.at l.left l.words

abbrev pub decreases-words : goal.decreases-words
decreases-words l = l.left
