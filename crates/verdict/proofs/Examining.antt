-- What a check finds, by another name of the refusal that it looks for.
use Rattle.std.specs.Prelude.{◌≡◌, Result, Ok, Err}
use Rattle.std.proofs.Common.{◌∙◌}
use Rattle.verdict.specs.Answers.{Refusal, Checked}
use Rattle.verdict.specs.Inner.Checking.{Checks}

pub checks_as : {A : Type 0} (learned : A → Type 0) {refusal other : Checked} → refusal ≡ other → (r : Result A Refusal) → Checks other learned r → Checks refusal learned r
checks_as learned e (Ok x) c = (e ∙ c.0, c.1)
checks_as learned e (Err x) c = e ∙ c
