use Rattle.std.proofs.Common.{◌≡◌, ◌++◌, string_bytes, subst, codes}
use Rattle.std.specs.Fmt.{decimal}
use Rattle.serve_run.specs.Reports.{report_line}
use Rattle.serve_run.proofs.report.report_line.Goals as goal

pub returns : goal.returns
unfolding report_line
returns c =
    let r = c.args.report.now in
    subst
    (λ n. string_bytes c.in_ok-format.field-0 ≡ codes "connection " ++ (decimal r.id
    ++ (codes " ended " ++ (decimal n
    ++ (codes " requests " ++ (decimal r.requests ++ codes "\n"))))))
    c.number-ended.ensures c.in_ok-format.ensures.ok
