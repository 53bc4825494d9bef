use Rattle.std.proofs.Common.{◌≡◌, ap, sym, subst, ◌∙◌}
use Rattle.serial_model.specs.declared.history.Limits.{Limits}
use Rattle.server_book.specs.BookState.{posts_after}
use Rattle.server_links.specs.Notes.{IsNoted, noted_turn, runner_of, words_of}
use Rattle.server_links.proofs.Noting.{turn_noted}
use Rattle.server_links.proofs.server.play.Goals as goal

pub returns-clause-notes : goal.returns-clause-notes
returns-clause-notes c was whole =
    let old = c.args.book.now in
    let new = c.turn-reply.new.self in
    let trails = c.args.notes.now.trails in
    let reply = c.turn-reply.result in
    let n = c.note.ensures whole in
    let noted = turn_noted old.limits old.past trails (was n.0) c.history-history.ensures.legal
    c.args.call reply new.past c.turn-reply.ensures.step in
    let posts : c.last_posts.result.now ≡ posts_after old.limits reply new.past =
    c.last_posts.ensures ∙ c.turn-reply.ensures.posts in
    subst (λ (l : Limits). IsNoted l new.past c.note.new.notes.trails)
    (sym c.turn-reply.ensures.limits)
    (subst (IsNoted old.limits new.past)
    (sym (n.1 (words_of c.args.call) c.copy_words-words.ensures
    ∙ ap (λ r. noted_turn r (words_of c.args.call) reply c.last_posts.result.now trails)
    c.runner_of-runner.ensures
    ∙ ap (λ ps. noted_turn (runner_of c.args.call) (words_of c.args.call) reply ps trails) posts))
    noted)
