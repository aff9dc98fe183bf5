-- `place_of` meets its contract.
use Prim.Native.Nat.{◌+◌, ◌%◌}
use native.Mathlib.Omega.{arith}
use Rattle.live.proofs.places.place_of.Goals as goal

pub overflow_cast-p : goal.overflow_cast-p
overflow_cast-p c = omega (arith, c.shared_slice_known-2-1.given (128 + c.args.t % 128))
