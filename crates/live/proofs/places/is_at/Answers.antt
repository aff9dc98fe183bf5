-- `is_at` meets its contract.
use mathlib.Core.Bool.{false≢true}
use Prim.Native.Nat.{◌-◌}
use lib.ListN.{get_or}
use Rattle.words.specs.Tests.{◌is◌}
use Rattle.words.proofs.Truth.{is→}
use Rattle.live.proofs.PlaceLaws.{one_up, open_is}
use Rattle.live.proofs.places.is_at.Goals as goal

pub returns-then-p-eq0 : goal.returns-then-p-eq0
returns-then-p-eq0 c = λ e. absurd (false≢true e)

pub returns-then-n-p : goal.returns-then-n-p
returns-then-n-p c = λ e. absurd (false≢true e)

pub returns : goal.returns
unfolding ◌is◌
returns c = λ e. ((one_up c.if-p-eq0.false, c.if-n-p.false), open_is _ _ (is→ {m = get_or c.args.opened.now (c.args.p - 1) 0} {n = c.args.t} e))
