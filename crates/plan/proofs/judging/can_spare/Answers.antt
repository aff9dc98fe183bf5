-- `can_spare` meets its contract.
use native.Mathlib.Omega.{arith}
use Rattle.words.proofs.Truth.{not_both}
use Rattle.plan.specs.Inner.Trials.{not_so}
use Rattle.plan.proofs.MarkLaws.{marked_no, marked_yes, marked_beyond}
use Rattle.plan.proofs.Sparing.{spare_told}
use Rattle.plan.proofs.judging.can_spare.Goals as goal

pub returns-then-t-gt-COUNT : goal.returns-then-t-gt-COUNT
returns-then-t-gt-COUNT c = not_so (λ f. not_both f.0 (marked_beyond _ _ (omega (arith, c.requires.1))))

pub returns-then-marks-t-eq0 : goal.returns-then-marks-t-eq0
returns-then-marks-t-eq0 c = not_so (λ f. not_both f.0 (marked_no _ _ c.if-marks-t-eq0.true))

pub returns : goal.returns
returns c = spare_told c.args.log.now c.args.marks c.args.t (omega (arith, c.requires.1)) (marked_yes _ _ c.if-marks-t-eq0.false) c.is_fine.ensures
