use Rattle.std.proofs.Common.{◌≡◌, ◌-◌, ◌∙◌, List, ap, arith, slice_set, subst, sym, true}
use Rattle.std.proofs.Common.{vec_capacity, vec_len}
use Rattle.server_book.specs.Connections.{ConnectionsState, HoldsPosts, connection_at, has_life}
use Rattle.server_book.specs.Places.{Connection, ended_one}
use Rattle.server_book.specs.Sendings.{end_post}
use Rattle.server_book.proofs.Endings.{ending_lives}
use Rattle.server_book.proofs.Lives.{ended_life, held_less, some_live}
use Rattle.server_book.proofs.Sendings.{place_there}
use Rattle.server_book.proofs.connections.Connections.end.Goals as goal

pub overflow_sub-self : goal.overflow_sub-self
overflow_sub-self c =
    let i = c.self.inside in
    let s = c.args.self.now in
    let same = ap (λ (s : ConnectionsState). s.items) c.self.view_is in
    let lt = place_there i.items s.items c.args.id same c.requires in
    let was : has_life (connection_at i.items c.args.id) ≡ true =
    ap (λ (ds : List Connection). has_life (connection_at ds c.args.id)) same
    ∙ ending_lives c.args.ends s.items c.args.id (sym c.if-not-is_ending.ensures) in
    omega (arith, c.self.invariant.live_are, some_live i.items (c.args.id - 1) lt was)

pub invariant_of-self : goal.invariant_of-self
invariant_of-self c =
    let i = c.self.inside in
    let s = c.args.self.now in
    let cs = i.items in
    let id = c.args.id in
    let was = connection_at cs id in
    let now = ended_one c.quits-quits.result was in
    let same = ap (λ (s : ConnectionsState). s.items) c.self.view_is in
    let lt = place_there cs s.items id same c.requires in
    let posts = c.push_reserved.new.self in
    let room = vec_capacity posts - vec_len posts in
    let drops = c.push_reserved-then-not-quits.new.self in
    let drop_room = vec_capacity drops - vec_len drops in
    subst (λ (ds : List Connection). HoldsPosts ds posts.items i.lost.items (i.live - 1) room
    drop_room) (sym c.end.ensures)
    (subst (λ ps. HoldsPosts (slice_set cs (id - 1) now) ps i.lost.items (i.live - 1)
    room drop_room) (sym c.push_reserved.ensures.items)
    (held_less cs (id - 1) now i.posts.items (end_post c.args.entry id) i.lost.items
    i.live (vec_capacity i.posts - vec_len i.posts) (vec_capacity i.drops - vec_len i.drops)
    room drop_room lt
    (ap (λ (ds : List Connection). has_life (connection_at ds id)) same
    ∙ ending_lives c.args.ends s.items id (sym c.if-not-is_ending.ensures))
    (ended_life c.quits-quits.result was)
    (omega arith) (omega arith) (omega arith) c.self.invariant))

pub invariant_of-self-else-not-quits : goal.invariant_of-self-else-not-quits
invariant_of-self-else-not-quits c =
    let i = c.self.inside in
    let s = c.args.self.now in
    let cs = i.items in
    let id = c.args.id in
    let was = connection_at cs id in
    let now = ended_one c.quits-quits.result was in
    let same = ap (λ (s : ConnectionsState). s.items) c.self.view_is in
    let lt = place_there cs s.items id same c.requires in
    let posts = c.push_reserved.new.self in
    let room = vec_capacity posts - vec_len posts in
    let drop_room = vec_capacity i.drops - vec_len i.drops in
    subst (λ (ds : List Connection). HoldsPosts ds posts.items i.lost.items (i.live - 1) room
    drop_room) (sym c.end.ensures)
    (subst (λ ps. HoldsPosts (slice_set cs (id - 1) now) ps i.lost.items (i.live - 1)
    room drop_room) (sym c.push_reserved.ensures.items)
    (held_less cs (id - 1) now i.posts.items (end_post c.args.entry id) i.lost.items
    i.live (vec_capacity i.posts - vec_len i.posts) drop_room room drop_room lt
    (ap (λ (ds : List Connection). has_life (connection_at ds id)) same
    ∙ ending_lives c.args.ends s.items id (sym c.if-not-is_ending.ensures))
    (ended_life c.quits-quits.result was)
    (omega arith) (omega arith) (omega arith) c.self.invariant))
