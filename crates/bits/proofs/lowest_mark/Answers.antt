-- `lowest_mark` meets its contract.
use native.Mathlib.Omega.{arith}
use lib.Count.{trailing_le}
use Rattle.bits.proofs.Marks.{trailing}
use Rattle.bits.proofs.lowest_mark.Goals as goal

pub overflow_cast-result : goal.overflow_cast-result
overflow_cast-result c = omega (arith, trailing_le 64 c.args.m)

pub returns : goal.returns
returns c = trailing 64 c.args.m
