use Rattle.std.proofs.Common.{◌++◌, ◌≡◌, subst, ap, ◌∙◌, sym}
use Rattle.shared_client.specs.Setups.{setup_of}
use Rattle.script_run.specs.Ends.{link_end, side_end, side_pump}
use Rattle.script_run.specs.Reports.{ends_of, no_tally, text_after}
use Rattle.script_program.specs.declared.run.ScriptEnd.TheVariants as ended
use Rattle.script_program.specs.Written.{EndWrites, Reports}
use Rattle.script_program.proofs.Completing.{shown_by}
use Rattle.script_program.proofs.Writing.{reported as reports_of, same_pump}
use Rattle.script_program.proofs.run.play_over.Goals as goal
use Rattle.script_program.proofs.run.play_over.Goals.{in-Ok-report, in-Err}

pub returns-clause-writes : goal.returns-clause-writes
returns-clause-writes g c =
    let played = c.in-Ok.played in
    let known = c.in-Ok.ensures in
    let answers = played.answers.items in
    let said = c.as_slice.result.now in
    let text = c.report.new.out.items in
    let e = c.match-report.end in
    let main = played.main.end in
    let side = side_pump played.side in
    let same : said ≡ c.args.lines.items = c.as_slice.ensures.value ∙ known.lines in
    let told : Reports said answers main c.side_end-side_end.result e text =
    elim c.match-report.branch [
      | in-Ok-report w ↦
          reports_of said answers main c.side_end-side_end.result e text
          (w.in-Ok-report.ensures.text
          ∙ ap (λ t. t ++ text_after no_tally 1 (ends_of said answers)) c.new-text.ensures.items)
          (w.end-is ∙ w.in-Ok-report.ensures.end)
      | in-Err w ↦
          let cut = w.in-Err.ensures.err in
          subst (λ z. Reports said answers main c.side_end-side_end.result z text) (sym w.end-is) (
            cut.0,
            cut.1,
            cut.2 ∙ ap (λ t. t ++ text_after no_tally 1 cut.0)
                c.new-text.ensures.items,
          )
    ] in
    let reported : Reports c.args.lines.items answers main side e text =
    subst (λ o. Reports c.args.lines.items answers main o e text) c.side_end-side_end.ensures
    (subst (λ ls. Reports ls answers main c.side_end-side_end.result e text) same told) in
    let left = g.L.Link.left in
    let contents = g.L.Link.contents in
    let counts = g.L.Link.counts in
    let links = c.args.links in (
      e,
      text,
      record {
        main = links.main;
        side = links.side;
        fresh = c.requires.fresh;
        side_fresh = c.requires.side_fresh;
        side_there = c.requires.side;
        answers = answers;
        session = known.session;
        counted = known.counts;
        side_counted = known.side_counts;
        reported = reported;
        shown = shown_by (setup_of c.args.setup) c.args.lines.items answers
            (link_end left contents counts links.main played.main)
            (side_end left contents counts links.side played.side) played.client.state.past
            played.client.tickets known.complete e text
            (subst (λ o. Reports c.args.lines.items answers main o e text)
            (same_pump left contents counts links.side played.side known.side_counts) reported);
      },
      subst (λ t. EndWrites c.write_report-end.result (ended.Played e) t
          (g.K.Sink.contents c.args.output.now) (g.K.Sink.contents c.write_report-end.new.output))
          c.as_slice-2.ensures.value c.write_report-end.ensures.bytes,
    )
