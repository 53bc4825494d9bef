use Rattle.std.proofs.Common.{ap, ◌∙◌, ◌<◌, subst, length, vec_capacity, IfOk, None, Some}
use Rattle.shared_cache.specs.HeldKeys.{entries_of}
use Rattle.shared_cache.proofs.KeyCode.{entries_plain}
use Rattle.shared_cache.proofs.held_keys.HeldKeys.room_beside.Goals as goal

pub returns-in-Some-clause-room : goal.returns-in-Some-clause-room
returns-in-Some-clause-room c =
    subst (λ l. IfOk c.with_room.result (λ v. length l < vec_capacity v))
    (c.as_slice.ensures
    ∙ entries_plain c.args.key.now c.self.inside.keys.entries
    (Some c.in-Some.entries.now) c.in-Some.ensures
    ∙ ap (λ k. entries_of c.args.key.now k.pairs) c.self.view_is)
    c.with_room.ensures.room

pub returns-in-None-clause-room : goal.returns-in-None-clause-room
returns-in-None-clause-room c =
    subst (λ l. IfOk c.with_room-in-None.result (λ v. length l < vec_capacity v))
    (entries_plain c.args.key.now c.self.inside.keys.entries None c.in-None.ensures
    ∙ ap (λ k. entries_of c.args.key.now k.pairs) c.self.view_is)
    c.with_room-in-None.ensures.room
