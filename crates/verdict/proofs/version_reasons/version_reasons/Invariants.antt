-- What the loop of `version_reasons` keeps.
use Rattle.verdict.specs.Inner.Reasons.{Best}
use Rattle.verdict.specs.Inner.VersionReasons.{version_until}
use Rattle.verdict.proofs.version_reasons.version_reasons.Given as goal

abbrev pub invariant-loop-i : goal.invariant-loop-i
invariant-loop-i l = Best l.members (version_until l.log l.i) l.best
