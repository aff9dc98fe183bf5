-- `put_digit` meets its contract.
use native.Mathlib.Omega.{arith}
use Rattle.text.specs.Decimal.{digit}
use Rattle.text.proofs.Puts.{puts_byte}
use Rattle.text.proofs.decimal.put_digit.Goals as goal

pub returns : goal.returns
unfolding digit
returns c = puts_byte c.args.out.now c.args.at _ (omega arith)
