-- The report is within its buffer.
use borrow.Author.Rules.{rules}
use mathlib.Core.Path.{sym}
use lib.Seq.{length-take-le}
use Rattle.report.proofs.Reports.{report_within_buffer}
use Rattle.report.proofs.TextReportOfText.print.Goals as goal

pub slice_bounds-out-end : goal.slice_bounds-out-end
slice_bounds-out-end g c = report_within_buffer c.in-Ok.is (search rules) c.report.ensures

pub slice_bounds-write_all-end : goal.slice_bounds-write_all-end
slice_bounds-write_all-end g c = sym (length-take-le _ _ (report_within_buffer c.in-Ok.is (search rules) c.report.ensures))
