-- `first_stale` meets its contract.
use mathlib.Core.Path.{◌≡◌, refl, sym, ◌∙◌}
use Prim.Native.Nat.{◌/◌}
use native.Mathlib.Omega.{arith}
use lib.ListN.{length}
use Rattle.words.specs.Tests.{some}
use Rattle.verdict.specs.Log.{steps}
use Rattle.verdict.specs.Inner.StaleReads.{stale_read}
use Rattle.words.proofs.Truth.{lowest_none, lowest_found, none_next}
use Rattle.verdict.proofs.snapshots.first_stale.Goals as goal

pub loop-i-init : goal.loop-i-init
unfolding some
loop-i-init c = refl

pub is_stale-requires : goal.is_stale-requires
is_stale-requires c = let known = c.requires in (known.0, known.1, known.2, known.3, omega arith)

pub returns-then-is_stale : goal.returns-then-is_stale
unfolding steps
returns-then-is_stale c =
    let loop = c.loop-i in
    sym (lowest_found _ loop.i (omega arith) (sym c.is_stale.ensures ∙ c.if-is_stale.true) loop.invariant)

pub loop-i-preserved : goal.loop-i-preserved
loop-i-preserved c =
    let inv = c.loop-i.invariant in none_next _ _ inv (sym c.is_stale.ensures ∙ c.if-is_stale.false)

pub returns : goal.returns
unfolding steps
returns c =
    let loop = c.loop-i in
    let log = c.args.log.now in
    let e : loop.i ≡ length log / 4 = omega arith in
    sym (lowest_none (stale_read log) (rw e at loop.invariant))
