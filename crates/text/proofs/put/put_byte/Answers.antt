-- `put_byte` meets its contract.
use native.Mathlib.Omega.{arith}
use Rattle.text.proofs.Puts.{puts_byte}
use Rattle.text.proofs.put.put_byte.Goals as goal

pub returns : goal.returns
returns c = puts_byte c.args.out.now c.args.at _ (omega arith)
