-- `admit` meets its contract.
use Rattle.std.proofs.Common.{sym, arith}
use Rattle.live.proofs.Calling.{number_one, wrong_state, wrong_opened, wrong_rows, wrong_marks, wrong_edges, wrong_answers, no_number}
use Rattle.live.proofs.admit.Goals as goal

pub returns-then-part-ne0 : goal.returns-then-part-ne0
returns-then-part-ne0 c = sym (number_one _ _ _ c.if-part-ne0.true)

pub returns-then-state-ne-STATE : goal.returns-then-state-ne-STATE
returns-then-state-ne-STATE c = sym (wrong_state _ _ _ (omega arith) c.if-state-ne-STATE.true)

pub returns-then-opened-ne-OPENED : goal.returns-then-opened-ne-OPENED
returns-then-opened-ne-OPENED c = sym (wrong_opened _ _ _ c.if-part-ne0.false c.if-state-ne-STATE.false c.if-opened-ne-OPENED.true)

pub returns-then-rows-ne-ROWS : goal.returns-then-rows-ne-ROWS
returns-then-rows-ne-ROWS c = sym (wrong_rows _ _ _ c.if-part-ne0.false c.if-state-ne-STATE.false c.if-opened-ne-OPENED.false c.if-rows-ne-ROWS.true)

pub returns-then-marks-ne-MARKS : goal.returns-then-marks-ne-MARKS
returns-then-marks-ne-MARKS c = sym (wrong_marks _ _ _ c.if-part-ne0.false c.if-state-ne-STATE.false c.if-opened-ne-OPENED.false c.if-rows-ne-ROWS.false c.if-marks-ne-MARKS.true)

pub returns-then-edges-ne-EDGES : goal.returns-then-edges-ne-EDGES
returns-then-edges-ne-EDGES c = sym (wrong_edges _ _ _ c.if-part-ne0.false c.if-state-ne-STATE.false c.if-opened-ne-OPENED.false c.if-rows-ne-ROWS.false c.if-marks-ne-MARKS.false c.if-edges-ne-EDGES.true)

pub returns-then-answers-part : goal.returns-then-answers-part
returns-then-answers-part c = sym (wrong_answers _ _ _ c.if-part-ne0.false c.if-state-ne-STATE.false c.if-opened-ne-OPENED.false c.if-rows-ne-ROWS.false c.if-marks-ne-MARKS.false c.if-edges-ne-EDGES.false c.if-answers-part.true)

pub returns : goal.returns
returns c = sym (no_number _ _ _ c.if-part-ne0.false c.if-state-ne-STATE.false c.if-opened-ne-OPENED.false c.if-rows-ne-ROWS.false c.if-marks-ne-MARKS.false c.if-edges-ne-EDGES.false c.if-answers-part.false)
