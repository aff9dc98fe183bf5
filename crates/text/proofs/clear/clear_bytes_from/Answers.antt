-- `clear_bytes_from` meets its contract.
use native.Mathlib.Omega.{arith}
use Rattle.text.proofs.Clears.{clears_part}
use Rattle.text.proofs.clear.clear_bytes_from.Goals as goal

pub returns : goal.returns
returns c = clears_part c.args.out.now _ c.args.from _ (omega arith) (c.fill.ensures.after (λ y e. e))
