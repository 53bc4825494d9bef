use Rattle.std.proofs.Common.{◌++◌, ◌∷◌, [], List, ℕ, ap, ◌∙◌, arith}
use Rattle.resp_stream.proofs.Words.{word_goes, word_on, word_more, word_bad, words_all}
use Rattle.resp_stream.proofs.request.read_words.Goals as goal

pub returns-in-Ok-None : goal.returns-in-Ok-None
returns-in-Ok-None c = (
  word_more c.args.text.now c.split_at.result.1.now c.words.at c.words.left c.words.words
      c.words.invariant c.split_at.ensures.back c.words-test.true
      (rw c.in-Ok-None.field-0-is at c.in-Ok-None.ensures),
  c.words.invariant,
)

pub overflow_sub-at : goal.overflow_sub-at
overflow_sub-at c =
    (word_goes c.args.text.now c.split_at.result.1.now c.words.at c.words.left c.words.words
    c.words.invariant c.split_at.ensures.back c.in-Ok-Some.word.now c.in-Ok-Some.after.now
    (rw c.in-Ok-Some.field-0-is at c.in-Ok-Some.ensures)).within

pub words-preserved : goal.words-preserved
words-preserved c =
    word_on c.args.text.now c.split_at.result.1.now c.words.at c.words.left c.words.words
    c.words.invariant c.split_at.ensures.back c.in-Ok-Some.word.now c.in-Ok-Some.after.now
    c.push.new.self
    c.words-test.true (rw c.in-Ok-Some.field-0-is at c.in-Ok-Some.ensures)
    (c.in-Ok-push.ensures.ok ∙ ap (λ (w : List ℕ). c.words.words ++ w ∷ []) c.in-Ok.ensures)

pub returns-in-Err : goal.returns-in-Err
returns-in-Err c = (
  c.in-Err.ensures.0,
  word_bad c.args.text.now c.split_at.result.1.now c.words.at c.words.left c.words.words
      c.words.invariant c.split_at.ensures.back c.in-Err.ensures.0 c.in-Err.e.fault
      c.words-test.true c.in-Err.ensures.1,
  c.in-Err.ensures.2,
)

pub returns : goal.returns
returns c = (
  c.words.invariant.within,
  words_all c.args.text.now c.words.at c.words.left c.words.words
      c.words.invariant (omega arith),
)
