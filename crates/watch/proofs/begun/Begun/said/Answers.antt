-- A line of which more has come than is kept is not in form.
use Rattle.watch.proofs.Coming.{many_say}
use Rattle.watch.proofs.begun.Begun.said.Goals as goal

pub returns-then-self-gt-LINE : goal.returns-then-self-gt-LINE
returns-then-self-gt-LINE c = λ came. many_say came _ _ c.if-self-gt-LINE.true
