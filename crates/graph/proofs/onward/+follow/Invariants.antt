-- Why `follow` ends: fewer places are left.
use Rattle.std.proofs.Common.{◌-◌, length}
use Rattle.graph.proofs.onward.+follow.Given as goal

abbrev pub decreases-follow : goal.decreases-follow
decreases-follow l = length l.given.now - l.i
