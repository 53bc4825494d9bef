use Rattle.std.proofs.Common.{arith, ◌∙◌, [], Some, ap, map, refl, subst, sym}
use Rattle.std.specs.Prelude.{string_bytes}
use Rattle.serial_model.specs.Steps.{AreValid}
use Rattle.redis_program.specs.declared.status.Ending.TheVariants.{NoMemory}
use Rattle.redis_program.specs.Headline.{limits_of}
use Rattle.redis_program.specs.Storming.{StormEnds}
use Rattle.edge_links.proofs.Bytes.{appends_none}
use Rattle.redis_program.proofs.Finishing.{ends_as_said, finishes, writes_known}
use Rattle.redis_program.proofs.Playing.{no_world}
use Rattle.redis_program.proofs.Completing.{script_completes, serve_completes, wordless_played}
use Rattle.redis_program.proofs.Completing.{wordless_served}
use Rattle.redis_program.proofs.Asked.{limits_valid, script_valid, settings_valid, steps_valid}
use Rattle.redis_program.proofs.Scripting.{script_done, script_net, script_read, wordless_script}
use Rattle.redis_program.proofs.Serving.{last_not_net, wordless, world_not_net}
use Rattle.redis_program.proofs.Storming.{storm_not_read, storm_not_usage}
use Rattle.redis_program.proofs.dispatch.run.Goals as goal

pub run_world-requires : goal.run_world-requires
run_world-requires g c =
    let is = sym c.in-Ok-Some.ensures ∙ c.in-Ok-Some.field-0-is ∙ ap Some c.in-World.is in
    subst AreValid (sym c.limits_of.ensures)
    (limits_valid (map string_bytes c.args.words.now) c.in-World.settings is)

pub run_storm-requires : goal.run_storm-requires
run_storm-requires g c =
    let is = sym c.in-Ok-Some.ensures ∙ c.in-Ok-Some.field-0-is ∙ ap Some c.in-Storm.is in
    steps_valid (map string_bytes c.args.words.now) c.in-Storm.settings is

pub run_serve-requires-clause-limits : goal.run_serve-requires-clause-limits
run_serve-requires-clause-limits g c = λ κs within.
    let is = sym c.in-Ok-Some.ensures ∙ c.in-Ok-Some.field-0-is ∙ ap Some c.in-Serve.is in
    (settings_valid (map string_bytes c.args.words.now) c.in-Serve.settings is).limits

pub run_serve-requires-clause-workers : goal.run_serve-requires-clause-workers
run_serve-requires-clause-workers g c = λ κs within.
    let is = sym c.in-Ok-Some.ensures ∙ c.in-Ok-Some.field-0-is ∙ ap Some c.in-Serve.is in
    let k = settings_valid (map string_bytes c.args.words.now) c.in-Serve.settings is in
    (k.some_workers, k.few_workers)

pub run_script-requires-clause-some : goal.run_script-requires-clause-some
run_script-requires-clause-some g c = λ κs within.
    let is = sym c.in-Ok-Some.ensures ∙ c.in-Ok-Some.field-0-is ∙ ap Some c.in-Script.is in
    (script_valid (map string_bytes c.args.words.now) c.in-Script.settings is).some

pub run_script-requires-clause-most : goal.run_script-requires-clause-most
run_script-requires-clause-most g c = λ κs within.
    let is = sym c.in-Ok-Some.ensures ∙ c.in-Ok-Some.field-0-is ∙ ap Some c.in-Script.is in
    (script_valid (map string_bytes c.args.words.now) c.in-Script.settings is).most

pub run_script-requires-clause-pushes : goal.run_script-requires-clause-pushes
run_script-requires-clause-pushes g c = λ κs within.
    let is = sym c.in-Ok-Some.ensures ∙ c.in-Ok-Some.field-0-is ∙ ap Some c.in-Script.is in
    (script_valid (map string_bytes c.args.words.now) c.in-Script.settings is).pushes

pub returns-in-Ok-None-clause-net : goal.returns-in-Ok-None-clause-net
returns-in-Ok-None-clause-net g c = grind arith

pub returns-in-Err-clause-net : goal.returns-in-Err-clause-net
returns-in-Err-clause-net g c = grind (arith, last_not_net)

pub returns-in-Err-clause-serve : goal.returns-in-Err-clause-serve
returns-in-Err-clause-serve g c = λ settings e.
    wordless c.write_no_memory.result (g.K.Sink.contents c.args.output.now)
    (g.K.Sink.contents c.write_no_memory.new.output) _ _ c.write_no_memory.ensures settings
    g.N.Acceptor.Acceptor.counts g.N.Acceptor.Acceptor.left (g.N.Net.counts c.args.net.now)

pub returns-in-Err-clause-script : goal.returns-in-Err-clause-script
returns-in-Err-clause-script g c = λ settings e.
    wordless_script c.write_no_memory.result (g.K.Sink.contents c.args.output.now)
    (g.K.Sink.contents c.write_no_memory.new.output) _ _ c.write_no_memory.ensures settings
    g.N.Link.Link.left g.N.Link.Link.contents g.N.Link.Link.counts
    (g.S.Source.left c.args.input.now) (g.S.Source.counts c.args.input.now)
    (g.N.Net.counts c.args.net.now)

pub returns-in-Err-clause-storm : goal.returns-in-Err-clause-storm
returns-in-Err-clause-storm g c = λ settings e.
    let output = g.K.Sink.contents c.args.output.now in
    ends_as_said (StormEnds settings.number settings.steps) NoMemory [] c.write_no_memory.result
    output output (g.K.Sink.contents c.write_no_memory.new.output) _ _ (λ d. cc) refl refl
    (appends_none output) c.write_no_memory.ensures

pub returns-in-World-clause-net : goal.returns-in-World-clause-net
returns-in-World-clause-net g c = grind (arith, world_not_net)

pub returns-in-World-clause-serve : goal.returns-in-World-clause-serve
returns-in-World-clause-serve g c = grind arith

pub returns-in-World-clause-script : goal.returns-in-World-clause-script
returns-in-World-clause-script g c = grind arith

pub returns-in-Storm-clause-net : goal.returns-in-Storm-clause-net
returns-in-Storm-clause-net g c = grind (arith, world_not_net)

pub returns-in-Storm-clause-read : goal.returns-in-Storm-clause-read
returns-in-Storm-clause-read g c = grind (arith, storm_not_read)

pub returns-in-Storm-clause-usage_only : goal.returns-in-Storm-clause-usage_only
returns-in-Storm-clause-usage_only g c = grind (arith, storm_not_usage)

pub returns-in-Storm-clause-done : goal.returns-in-Storm-clause-done
returns-in-Storm-clause-done g c = grind arith

pub returns-in-Storm-clause-storm : goal.returns-in-Storm-clause-storm
returns-in-Storm-clause-storm g c = grind arith

pub returns-in-Storm-clause-serve : goal.returns-in-Storm-clause-serve
returns-in-Storm-clause-serve g c = grind arith

pub returns-in-Storm-clause-script : goal.returns-in-Storm-clause-script
returns-in-Storm-clause-script g c = grind arith

pub returns-in-Serve-clause-offline : goal.returns-in-Serve-clause-offline
returns-in-Serve-clause-offline g c = grind arith

pub returns-in-Serve-clause-unserved : goal.returns-in-Serve-clause-unserved
returns-in-Serve-clause-unserved g c = grind arith

pub returns-in-Serve-clause-done : goal.returns-in-Serve-clause-done
returns-in-Serve-clause-done g c = grind arith

pub returns-in-Serve-clause-script : goal.returns-in-Serve-clause-script
returns-in-Serve-clause-script g c = grind arith

pub returns-in-Serve-clause-usage_only : goal.returns-in-Serve-clause-usage_only
returns-in-Serve-clause-usage_only g c = grind arith

pub returns-in-Serve-clause-read : goal.returns-in-Serve-clause-read
returns-in-Serve-clause-read g c = grind arith

pub returns-in-Serve-clause-net : goal.returns-in-Serve-clause-net
returns-in-Serve-clause-net g c = c.run_serve.ensures.net

pub returns-in-Serve-clause-serve : goal.returns-in-Serve-clause-serve
returns-in-Serve-clause-serve g c = grind arith

pub returns-in-Script-clause-offline : goal.returns-in-Script-clause-offline
returns-in-Script-clause-offline g c = grind arith

pub returns-in-Script-clause-unplayed : goal.returns-in-Script-clause-unplayed
returns-in-Script-clause-unplayed g c = grind arith

pub returns-in-Script-clause-usage_only : goal.returns-in-Script-clause-usage_only
returns-in-Script-clause-usage_only g c = grind arith

pub returns-in-Script-clause-done : goal.returns-in-Script-clause-done
returns-in-Script-clause-done g c = grind (arith, script_done)

pub returns-in-Script-clause-read : goal.returns-in-Script-clause-read
returns-in-Script-clause-read g c = grind (arith, script_read)

pub returns-in-Script-clause-net : goal.returns-in-Script-clause-net
returns-in-Script-clause-net g c = grind (arith, script_net)

pub returns-in-Script-clause-serve : goal.returns-in-Script-clause-serve
returns-in-Script-clause-serve g c = grind arith

pub returns-in-Script-clause-script : goal.returns-in-Script-clause-script
returns-in-Script-clause-script g c = grind arith

pub returns-in-Err-clause-world : goal.returns-in-Err-clause-world
returns-in-Err-clause-world g c = λ settings e.
    let input = g.S.Source.left c.args.input.now in
    let output = g.K.Sink.contents c.args.output.now in
    finishes (limits_of settings) input input NoMemory c.write_no_memory.result output output
    (g.K.Sink.contents c.write_no_memory.new.output) _ _ (λ d. cc) (λ d. cc)
    (no_world c.law_one_history.ensures (limits_of settings) input output) c.write_no_memory.ensures

pub returns-in-Err-clause-exact : goal.returns-in-Err-clause-exact
returns-in-Err-clause-exact g c = λ settings e.
    let input = g.S.Source.left c.args.input.now in
    let output = g.K.Sink.contents c.args.output.now in
    writes_known (limits_of settings) input input output
    (g.K.Sink.contents c.write_no_memory.new.output) c.write_no_memory.result
    (finishes (limits_of settings) input input NoMemory c.write_no_memory.result output output
    (g.K.Sink.contents c.write_no_memory.new.output) _ _ (λ d. cc) (λ d. cc)
    (no_world c.law_one_history.ensures (limits_of settings) input output)
    c.write_no_memory.ensures)

pub returns-in-Err-clause-served : goal.returns-in-Err-clause-served
returns-in-Err-clause-served g c = λ settings e net sink accepting.
    wordless_served settings g.N.Acceptor.Acceptor.counts c.write_no_memory.result _ _ _ _
    c.write_no_memory.ensures sink

pub returns-in-Err-clause-played : goal.returns-in-Err-clause-played
returns-in-Err-clause-played g c = λ settings e source net sink.
    wordless_played settings g.N.Link.Link.left g.N.Link.Link.contents g.N.Link.Link.counts _
    c.write_no_memory.result _ _ _ _ c.write_no_memory.ensures sink

pub returns-in-World-clause-served : goal.returns-in-World-clause-served
returns-in-World-clause-served g c = grind arith

pub returns-in-World-clause-played : goal.returns-in-World-clause-played
returns-in-World-clause-played g c = grind arith

pub returns-in-Storm-clause-served : goal.returns-in-Storm-clause-served
returns-in-Storm-clause-served g c = grind arith

pub returns-in-Storm-clause-played : goal.returns-in-Storm-clause-played
returns-in-Storm-clause-played g c = grind arith

pub returns-in-Serve-clause-served : goal.returns-in-Serve-clause-served
returns-in-Serve-clause-served g c = λ settings e net sink accepting.
    serve_completes settings g.N.Acceptor.Acceptor.counts g.N.Acceptor.Acceptor.left _ _ net _ _
    _ _ (g.K.Sink.counts c.args.output.now) (g.K.Sink.counts c.run_serve.new.output)
    (returns-in-Serve-clause-serve g c settings e) c.run_serve.ensures.write sink accepting

pub returns-in-Serve-clause-played : goal.returns-in-Serve-clause-played
returns-in-Serve-clause-played g c = grind arith

pub returns-in-Script-clause-served : goal.returns-in-Script-clause-served
returns-in-Script-clause-served g c = grind arith

pub returns-in-Script-clause-played : goal.returns-in-Script-clause-played
returns-in-Script-clause-played g c = λ settings e source net sink.
    script_completes settings g.N.Link.Link.left g.N.Link.Link.contents g.N.Link.Link.counts _ _ _
    _ _ _ _ _ _ (g.K.Sink.counts c.args.output.now) (g.K.Sink.counts c.run_script.new.output)
    (returns-in-Script-clause-script g c settings e) c.run_script.ensures.write source net sink
