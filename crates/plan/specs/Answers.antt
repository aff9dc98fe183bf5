-- The types of the answers, as src/answers.rt declares them.
pub use Rattle.plan.specs.declared.answers.Acceptance.{Acceptance}
pub use Rattle.plan.specs.declared.answers.Acceptance.TheVariants.{Yes, No}
