use Rattle.std.proofs.Common.{ap, Some}
use Rattle.track_modes.specs.declared.peer.Peer.{Peer}
use Rattle.server_book.specs.Plans.{runner}
use Rattle.server_book.proofs.Plans.{data_played}
use Rattle.server_book.proofs.plan.play_data.Goals as goal

pub returns-clause-played : goal.returns-clause-played
returns-clause-played c =
    let turned = c.in-Ok.turned in
    let ran = c.in-Ok.ensures in
    data_played _ (runner c.args.by c.args.mode.now) c.args.command.now
    c.args.space.now c.run_due.new.self c.args.moment turned.done.signalled c.in_ok-reads.reads
    c.requires.row c.in_ok-reads.ensures ran.expired (ap Some ran.turn.0) ran.turn.1
    ran.turn.2 c.deed_of-deed.ensures (ap (λ (p : Peer). p.proto) c.peer.ensures) ran.undo
