-- `put_word` meets its contract.
use native.Mathlib.Omega.{arith}
use mathlib.Core.Path.{refl}
use Rattle.text.proofs.Puts.{puts_part}
use Rattle.text.proofs.put.put_word.Goals as goal

pub returns : goal.returns
returns c =
    let a = c.args in
    (refl, puts_part a.out.now a.word.now _ a.at _ (omega arith) c.copy_from_slice.ensures.after)
