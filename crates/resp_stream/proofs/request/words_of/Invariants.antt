use Rattle.std.proofs.Common.{◌≡◌, ◌++◌, [], drop}
use Rattle.resp_stream.specs.Request.{words_after}
use Rattle.resp_stream.proofs.request.words_of.Given as goal

abbrev pub invariant-bytes : goal.invariant-bytes
invariant-bytes l =
    words_after [] l.line ≡ l.words ++ words_after l.word.items (drop l.c-index l.line)
