-- The types of the answers, as src/answers.rt declares them. A case is written bare where one type alone has it, and else behind its type.
use Rattle.std.specs.Prelude.{ℕ, Result, Ok, Err}
pub use Rattle.verdict.specs.declared.answers.Refusal.{Refusal}
pub use Rattle.verdict.specs.declared.answers.Fault.{Fault}
pub use Rattle.verdict.specs.declared.answers.Fault.TheVariants.{Own, Aborted, Unfinal}
pub use Rattle.verdict.specs.declared.answers.Cleanness.{Cleanness}
pub use Rattle.verdict.specs.declared.answers.Writer.{Writer}
pub use Rattle.verdict.specs.declared.answers.Writer.TheVariants.{Store, Committed, Reader}
pub use Rattle.verdict.specs.declared.answers.Snapshot.{Snapshot}
pub use Rattle.verdict.specs.declared.answers.Snapshot.TheVariants.{Read, Write}
pub use Rattle.verdict.specs.declared.answers.Answer.{Answer}
pub use Rattle.verdict.specs.declared.answers.Answer.TheVariants.{Order, Cycle, None}
pub use Rattle.verdict.specs.declared.answers.Exactness.{Exactness}
pub use Rattle.verdict.specs.declared.answers.Exactness.TheVariants.{Over, Searched}
pub use Rattle.verdict.specs.declared.answers.Witnessed.{Witnessed}
pub use Rattle.verdict.specs.declared.answers.ExactWitnessed.{ExactWitnessed}
pub use Rattle.verdict.specs.declared.answers.Judgement.{Judgement}

-- what looking for a refusal finds: none applies, or the number that turns the call away and its place
abbrev pub Checked : Type 0
Checked = Result (Unit {0}) Refusal

abbrev pub Passed : Checked
Passed = Ok tt

abbrev pub Refused : {A : Type 0} → ℕ → ℕ → Result A Refusal
Refused n place = Err (n, place)
