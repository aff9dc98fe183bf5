-- An answer without members, by value: its list is all 0.
use mathlib.Core.Path.{◌≡◌}
use Rattle.words.specs.Lists.{zeros, entries}
use Rattle.verdict.specs.Limits.{witness_buffer}
use Rattle.verdict.specs.Outcome.{Outcome, none, unclean, said, members}
use Rattle.verdict.specs.Witness.{in_threes, witness}
use Rattle.verdict.specs.Judgement.{Holds}
use Rattle.verdict.specs.declared.answers.Fault.{Fault}
use Rattle.verdict.specs.declared.answers.Answer.TheVariants.{None, Unclean}
use Rattle.verdict.specs.declared.answers.Witnessed.{Witnessed}

module _ {verdict : Outcome → Type 0} {a : Witnessed} where
  pub holds_none : verdict none → (a.answer ≡ None) × (a.list ≡ zeros witness_buffer) → Holds verdict a
  unfolding said members in_threes witness entries
  holds_none v e = record { outcome = none; right = v; says = e.0; listed = e.1 }

  pub holds_unclean : {f : Fault} → verdict (unclean f) → (a.answer ≡ Unclean f) × (a.list ≡ zeros witness_buffer) → Holds verdict a
  unfolding said members in_threes witness entries
  holds_unclean {f} v e = record { outcome = unclean f; right = v; says = e.0; listed = e.1 }
