-- `pack` meets its contract: no product or sum wraps.
use native.Mathlib.Omega.{arith}
use mathlib.Core.Path.{refl}
use Rattle.exports.specs.Packed.{packed}
use Rattle.exports.proofs.pack.pack.Goals as goal

pub overflow_mul-result : goal.overflow_mul-result
unfolding packed
overflow_mul-result c = omega arith

pub overflow_add-result : goal.overflow_add-result
unfolding packed
overflow_add-result c = omega arith

pub overflow_mul-result-2 : goal.overflow_mul-result-2
unfolding packed
overflow_mul-result-2 c = omega arith

pub overflow_add-result-2 : goal.overflow_add-result-2
unfolding packed
overflow_add-result-2 c = omega arith

pub overflow_mul-result-3 : goal.overflow_mul-result-3
unfolding packed
overflow_mul-result-3 c = omega arith

pub overflow_add-result-3 : goal.overflow_add-result-3
unfolding packed
overflow_add-result-3 c = omega arith

pub returns : goal.returns
unfolding packed
returns c = refl
