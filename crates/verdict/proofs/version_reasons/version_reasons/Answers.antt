-- `version_reasons` meets its contract.
use mathlib.Core.Path.{◌≡◌, refl}
use Prim.Native.Nat.{◌/◌}
use native.Mathlib.Omega.{arith}
use native.Mathlib.Numerals.{add-one}
use lib.ListN.{length}
use Rattle.words.specs.Tests.{some}
use Rattle.verdict.specs.Log.{steps}
use Rattle.verdict.specs.Inner.VersionReasons.{version_until}
use Rattle.verdict.proofs.LeastReasons.{best_none}
use Rattle.verdict.proofs.VersionReasons.{all_version_reasons}
use Rattle.verdict.proofs.version_reasons.version_reasons.Goals as goal

pub loop-i-init : goal.loop-i-init
unfolding version_until some
loop-i-init c = best_none c.requires.3 (λ a b x k. refl)

pub offer_step-requires : goal.offer_step-requires
offer_step-requires c =
    let q = c.requires in
    (q.0, omega arith, q.1, q.2, c.loop-i.invariant.size)

pub loop-i-preserved : goal.loop-i-preserved
loop-i-preserved c = rw (add-one c.loop-i.i) (c.offer_step.ensures _ c.before_each-before.ensures c.loop-i.invariant)

pub returns : goal.returns
unfolding steps
returns c =
    let e : c.loop-i.i ≡ length c.args.log.now / 4 = omega arith in
    all_version_reasons _ c.requires.3 (rw e at c.loop-i.invariant)
