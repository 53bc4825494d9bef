use Rattle.std.proofs.Common.{[], refl, subst}
use Rattle.std.specs.Prelude.{string_bytes}
use Rattle.std.specs.Io.KnownBytes.{Appends}
use Rattle.edge_links.proofs.Bytes.{appends_none}
use Rattle.edge_lines.specs.Streams.{AppendsFirst}
use Rattle.redis_program.specs.declared.status.Ending.TheVariants.{Done, HistoryFull, NoMemory}
use Rattle.redis_program.specs.Storming.{StormEnds}
use Rattle.redis_program.proofs.Finishing.{all_written, ends_as_said, first_written}
use Rattle.redis_program.proofs.Storming.{all_stormed, full_log}
use Rattle.redis_program.proofs.storm.run_on.Goals as goal

pub returns-in-Ok-write_all-clause-gives : goal.returns-in-Ok-write_all-clause-gives
returns-in-Ok-write_all-clause-gives g c =
    let old = g.K.Sink.contents c.args.output.now in
    let new = g.K.Sink.contents c.write_all.new.sink in
    all_written (StormEnds c.args.number c.args.steps) (string_bytes c.in-Ok.summary) old new
    (all_stormed c.law_one_history.ensures c.args.number c.args.steps c.args.world.now
    c.play_storm.new.world (string_bytes c.in-Ok.summary) c.requires.fresh c.in-Ok.ensures.ok)
    (subst (λ l. Appends old new l) c.as_bytes.ensures.value c.in-Ok-write_all.ensures.bytes)

pub returns-in-Ok-clause-gives : goal.returns-in-Ok-clause-gives
returns-in-Ok-clause-gives g c =
    let old = g.K.Sink.contents c.args.output.now in
    let new = g.K.Sink.contents c.write_all.new.sink in
    first_written (StormEnds c.args.number c.args.steps) Done (string_bytes c.in-Ok.summary) old new
    (all_stormed c.law_one_history.ensures c.args.number c.args.steps c.args.world.now
    c.play_storm.new.world (string_bytes c.in-Ok.summary) c.requires.fresh c.in-Ok.ensures.ok)
    (subst (λ l. AppendsFirst old new l) c.as_bytes.ensures.value c.in-Err.ensures.bytes.0)

pub returns-in-Err-HistoryFull-clause-gives : goal.returns-in-Err-HistoryFull-clause-gives
returns-in-Err-HistoryFull-clause-gives g c =
    let old = g.K.Sink.contents c.args.output.now in
    ends_as_said (StormEnds c.args.number c.args.steps) HistoryFull [] c.write_last.result old old
    (g.K.Sink.contents c.write_last.new.output) _ _ (λ d. cc) (
      full_log c.args.number c.args.steps c.args.world.now c.in-Err-HistoryFull.field-0
          c.in-Err-HistoryFull.field-0-is c.requires.fresh c.in-Err-HistoryFull.ensures.err,
      refl,
    )
    refl (appends_none old) c.write_last.ensures

pub returns-clause-gives : goal.returns-clause-gives
returns-clause-gives g c =
    let old = g.K.Sink.contents c.args.output.now in
    ends_as_said (StormEnds c.args.number c.args.steps) NoMemory []
    c.write_last-in-Err-NoMemory.result old old
    (g.K.Sink.contents c.write_last-in-Err-NoMemory.new.output) _ _ (λ d. cc) refl refl
    (appends_none old) c.write_last-in-Err-NoMemory.ensures
