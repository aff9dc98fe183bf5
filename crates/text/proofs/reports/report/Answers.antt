-- `report` meets its contract: 12, or the report with zeros behind it.
use native.Mathlib.Omega.{arith}
use Rattle.text.proofs.ReportCalls.{wrong_size, reported}
use Rattle.text.proofs.reports.report.Goals as goal

pub returns-then-out-ne-REPORT : goal.returns-then-out-ne-REPORT
returns-then-out-ne-REPORT c = wrong_size c.args.text.now c.args.out.now c.if-out-ne-REPORT.true

pub clear_bytes_from-requires : goal.clear_bytes_from-requires
clear_bytes_from-requires c =
    let p = c.put_text-n in
    omega (arith, p.ensures.2, p.ensures.3.0, p.auto.out, c.if-out-ne-REPORT.false)

pub returns : goal.returns
returns c =
    let p = c.put_text-n in
    reported c.args.text.now c.args.out.now p.ensures.0 p.new.out _ p.result
    c.if-out-ne-REPORT.false p.ensures.1 p.ensures.3 p.auto.out c.clear_bytes_from.ensures
