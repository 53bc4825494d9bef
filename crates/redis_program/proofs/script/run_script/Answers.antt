use Rattle.std.proofs.Common.{arith, subst, sym}
use Rattle.shared_cache.specs.ClientFields.{IsClientMode}
use Rattle.shared_cache.specs.Held.{Setup}
use Rattle.script_program.specs.Written.{WritesScript}
use Rattle.redis_program.proofs.Scripting.{client_mode, wordless_script}
use Rattle.redis_program.proofs.script.run_script.Goals as goal

pub play_and_write-session-requires-clause-mode : goal.play_and_write-session-requires-clause-mode
play_and_write-session-requires-clause-mode g c = λ κs within.
    subst (λ (s : Setup). IsClientMode s.mode) (sym c.in-Ok.ensures)
    (client_mode c.args.settings.now c.requires.pushes)

pub returns-clause-script : goal.returns-clause-script
returns-clause-script g c = record {
  end = c.play_and_write-session.result.end;
  status = c.status_of.ensures;
  writes = subst (λ s. WritesScript g.N.Link.Link.left g.N.Link.Link.contents
      g.N.Link.Link.counts s (g.S.Source.left c.args.input.now)
      c.play_and_write-session.result.session c.play_and_write-session.result.end
      (g.S.Source.counts c.args.input.now) (g.S.Source.counts c.play_and_write-session.new.input)
      (g.N.Net.counts c.args.net.now) (g.N.Net.counts c.play_and_write-session.new.net)
      (g.K.Sink.contents c.args.output.now)
      (g.K.Sink.contents c.play_and_write-session.new.output)) c.in-Ok.ensures
      c.play_and_write-session.ensures.writes;
}

pub returns-clause-write : goal.returns-clause-write
returns-clause-write g c = grind arith

pub returns-in_default-clause-script : goal.returns-in_default-clause-script
returns-in_default-clause-script g c =
    wordless_script c.write_no_memory.result (g.K.Sink.contents c.args.output.now)
    (g.K.Sink.contents c.write_no_memory.new.output) _ _ c.write_no_memory.ensures
    c.args.settings.now g.N.Link.Link.left g.N.Link.Link.contents g.N.Link.Link.counts
    (g.S.Source.left c.args.input.now) (g.S.Source.counts c.args.input.now)
    (g.N.Net.counts c.args.net.now)
