-- What the loop of `walk_steps` keeps.
use Rattle.std.proofs.Common.{◌≡◌, ◌≤◌}
use Rattle.words.specs.Tests.{some}
use Rattle.verdict.specs.Limits.{most_steps}
use Rattle.verdict.specs.Log.{steps}
use Rattle.verdict.specs.Answers.{Passed}
use Rattle.verdict.specs.Refusal.{tried, step_refusal}
use Rattle.verdict.specs.Inner.Checking.{Noted}
use Rattle.verdict.specs.Inner.OwnReads.{misses}
use Rattle.verdict.proofs.refusal.walk_steps.Given as goal

abbrev pub invariant-loop-i : goal.invariant-loop-i
invariant-loop-i l =
    (l.n ≡ steps l.log) × (l.n ≤ most_steps) × (tried l.i (step_refusal l.log) ≡ Passed)
    × Noted l.log l.i l.lives l.begins l.commits l.part l.earlier l.versions × (l.missed ≡ some l.i (misses l.log))
