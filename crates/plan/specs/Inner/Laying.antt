-- The members laid into a proposal.
use Rattle.std.specs.Prelude.{◌≡◌, List, ℕ, length}
use Rattle.words.specs.Lists.{entries}
use Rattle.plan.specs.Proposal.{proposal_entries}
use Rattle.plan.specs.Redo.{rising}
use Rattle.plan.specs.Inner.Marks.{marked}

-- those below t that are marked are laid, and they are so many
pub record Laid (marks : List ℕ) (t : ℕ) (proposal : List ℕ) (count : ℕ) : Type 0 where
  pub counted : count ≡ length (rising t (marked marks))
  pub laid : proposal ≡ entries proposal_entries (rising t (marked marks))
