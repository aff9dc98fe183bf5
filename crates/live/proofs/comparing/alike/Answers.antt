-- `alike` meets its contract.
use mathlib.Core.Path.{sym, ap₂}
use Prim.Native.Nat.{ℕ}
use borrow.Author.Rules.{rules}
use Rattle.words.specs.Tests.{◌is◌}
use Rattle.live.proofs.Comparisons.{compared_none, compared_more, compared_all}
use Rattle.live.proofs.comparing.alike.Goals as goal

pub loop-x-init : goal.loop-x-init
loop-x-init c = rw c.into_iter-x-iterator.ensures.into_iter_gives (compared_none _ _)

pub seen-requires : goal.seen-requires
seen-requires c = (search rules, search rules, c.in-Some.ensures.steps.size)

pub seen-requires-in-loop-x : goal.seen-requires-in-loop-x
seen-requires-in-loop-x c = (search rules, search rules, c.in-Some.ensures.steps.size)

pub loop-x-preserved : goal.loop-x-preserved
loop-x-preserved c =
    rw (c.in-Some.ensures.steps.after, c.agreeing-same.ensures)
    (compared_more c.loop-x.invariant _ c.seen.result c.seen-in-loop-x.result (ap₂ (λ (a b : ℕ). a is b) (sym c.seen.ensures) (sym c.seen-in-loop-x.ensures)))

pub returns : goal.returns
returns c = compared_all c.loop-x.invariant 0 c.in-None.ensures.steps
