-- `free_row` meets its contract.
use mathlib.Core.Path.{refl}
use Prim.Native.Nat.{◌*◌}
use native.Mathlib.Omega.{arith}
use lib.ListN.{length-set}
use Rattle.live.specs.Inner.Forgetting.{freed}
use Rattle.live.proofs.room.free_row.Goals as goal

pub bounds-rows-p-2 : goal.bounds-rows-p-2
bounds-rows-p-2 c = omega (arith, length-set c.args.rows.now (c.args.p * 67) 0)

pub returns : goal.returns
returns c = unfold freed in refl
