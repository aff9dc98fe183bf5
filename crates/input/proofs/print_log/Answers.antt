-- The steps that were read are within their buffer.
use borrow.Author.Rules.{rules}
use native.Mathlib.Omega.{arith}
use mathlib.Core.Path.{sym}
use lib.Seq.{length-take-le}
use Rattle.text.proofs.WasRead.{steps_within_buffer}
use Rattle.input.proofs.print_log.Goals as goal

pub overflow_mul-steps : goal.overflow_mul-steps
overflow_mul-steps g c = omega (arith, (steps_within_buffer c.in-Ok.is (search rules) c.read.ensures).0)

pub slice_bounds-steps-end : goal.slice_bounds-steps-end
slice_bounds-steps-end g c = (steps_within_buffer c.in-Ok.is (search rules) c.read.ensures).1

pub slice_bounds-print-end : goal.slice_bounds-print-end
slice_bounds-print-end g c = sym (length-take-le _ _ (steps_within_buffer c.in-Ok.is (search rules) c.read.ensures).1)
