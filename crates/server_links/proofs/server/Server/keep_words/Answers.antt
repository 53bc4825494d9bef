use Rattle.std.proofs.Common.{sym, subst, ◌∙◌}
use Rattle.server_links.specs.Notes.{IsNoted}
use Rattle.server_links.proofs.Noting.{words_kept}
use Rattle.server_links.proofs.server.Server.keep_words.Goals as goal

pub invariant_of-self : goal.invariant_of-self
invariant_of-self c = (
  λ whole.
      let i = c.self.inside in
      let was = c.self.invariant.0 (sym c.keep_words.ensures.whole ∙ whole) in
      subst (IsNoted i.book.limits i.book.past) (sym c.keep_words.ensures.trails)
      (words_kept i.book.limits i.book.past i.notes.trails _ was),
  c.self.invariant.1,
  c.self.invariant.2,
  c.self.invariant.3,
)
