-- `put_log` meets its contract: the refusal's line, or those of the verdicts.
use Rattle.std.proofs.Common.{arith}
use Rattle.text.specs.Report.{log_refused}
use Rattle.text.proofs.Tells.{judge_refused, judge_passed}
use Rattle.text.proofs.Room.{log_report_fits}
use Rattle.text.proofs.reports.put_log.Goals as goal

pub put_refused-requires : goal.put_refused-requires
put_refused-requires c = omega (arith, log_report_fits (log_refused _ _ (judge_refused c.in-Err.ensures)), c.requires)

pub put_verdicts-requires : goal.put_verdicts-requires
put_verdicts-requires c =
    let p = judge_passed c.in-Ok.ensures in
    (p.0, p.1, c.requires)

pub returns-in-Err : goal.returns-in-Err
returns-in-Err c =
    let f = log_refused _ _ (judge_refused c.in-Err.ensures) in
    (_, f, log_report_fits f, c.put_refused.ensures)
