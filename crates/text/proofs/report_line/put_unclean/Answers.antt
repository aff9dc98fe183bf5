-- `put_unclean` meets its contract: a word and then the step.
use mathlib.Core.Path.{sym}
use mathlib.Core.List.{◌++◌}
use Prim.Native.Nat.{ℕ}
use Rattle.text.specs.Bytes.{bytes}
use Rattle.text.specs.Decimal.{decimal}
use Rattle.text.proofs.Puts.{known_fits, known_puts}
use Rattle.text.proofs.report_line.put_unclean.Goals as goal

pub put_number-requires : goal.put_number-requires
unfolding bytes
put_number-requires c = known_fits (λ (n : ℕ). bytes "unclean at " ++ decimal n) (sym c.fault_step.ensures) c.args.out.now c.args.at c.requires

pub returns : goal.returns
unfolding bytes
returns c =
    known_puts (λ (n : ℕ). bytes "unclean at " ++ decimal n) (sym c.fault_step.ensures) c.args.out.now c.args.at c.put_number.ensures
