use Rattle.server_links.proofs.Noting.{posts_next}
use Rattle.server_links.proofs.notes.Notes.posts.Goals as goal

pub loop-post-preserved : goal.loop-post-preserved
loop-post-preserved c whole =
    let s = c.sent.ensures whole in
    let k = c.loop-post.invariant s.0 in (
      k.0,
      posts_next c.args.posts.now c.loop-post.post-index _ c.args.self.now.trails
          c.loop-post.self.trails c.sent.new.self.trails c.loop-post-test.true k.1 s.1,
    )
