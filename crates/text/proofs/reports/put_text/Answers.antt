-- `put_text` meets its contract: the refusal's line, or the report of the log that was read.
use Rattle.std.proofs.Common.{◌≡◌, sym, subst, List, ℕ, length, length-take-le, replicate, arith}
use Rattle.std.proofs.lemmas.List.{length-replicate}
use Rattle.text.specs.Report.{LogReport, ReportOf, text_read}
use Rattle.text.specs.ReadCall.{step_entries}
use Rattle.text.proofs.WasRead.{refused_report, was_read}
use Rattle.text.proofs.Room.{report_fits}
use Rattle.text.proofs.reports.put_text.Goals as goal

-- the step buffer that is lent to `read` has its length
sized : length (replicate {A = ℕ} step_entries 0) ≡ step_entries
sized = length-replicate {A = ℕ} step_entries 0

pub put_refused-requires : goal.put_refused-requires
put_refused-requires c = omega (arith, report_fits (refused_report c.args.text.now _ sized c.in-Err.ensures), c.requires)

pub overflow_mul-end : goal.overflow_mul-end
overflow_mul-end c = omega (arith, (was_read c.in-Ok.ensures).few)

pub slice_bounds-steps-end : goal.slice_bounds-steps-end
slice_bounds-steps-end c = omega (arith, (was_read c.in-Ok.ensures).few, c.read.auto.steps, sized)

pub slice_bounds-put_log-end : goal.slice_bounds-put_log-end
slice_bounds-put_log-end c = sym (length-take-le _ _ (omega (arith, (was_read c.in-Ok.ensures).few, c.read.auto.steps, sized)))

pub returns-in-Err : goal.returns-in-Err
returns-in-Err c =
    let r = refused_report c.args.text.now _ sized c.in-Err.ensures in
    (_, r, report_fits r, c.put_refused.ensures)

pub returns-in-Ok : goal.returns-in-Ok
returns-in-Ok c =
    let w = was_read c.in-Ok.ensures in
    let l = c.put_log.ensures in
    let r : ReportOf c.args.text.now l.0 = text_read w.log w.short w.says (subst (λ (log : List ℕ). LogReport log l.0) w.holds l.1) in
    (l.0, r, report_fits r, l.3)
