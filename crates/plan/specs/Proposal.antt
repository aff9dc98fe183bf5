-- A proposal: 128 numbers, its members first and zeros after them.
use Rattle.std.specs.Prelude.{Bool, List, ℕ, length}
use Rattle.words.specs.Tests.{◌is◌, ◌and◌, fails}
use Rattle.words.specs.Lists.{member, all, distinct}
use Rattle.verdict.specs.Limits.{transactions}
use Rattle.verdict.specs.Log.{committed}
use Rattle.verdict.specs.Next.{up_to_zero, from_zero}
use Rattle.verdict.specs.Refusal.{◌at◌when◌}
use Rattle.verdict.specs.Answers.{Checked}

abbrev pub proposal_entries : ℕ
proposal_entries = transactions

-- t is a member: it stands before the first 0
unfoldable pub proposes : List ℕ → ℕ → Bool
proposes proposal t = member t (up_to_zero proposal)

-- 12: another length
unfoldable pub length_refusal : List ℕ → Checked
length_refusal proposal = 12 at 0 when fails (length proposal is proposal_entries)

-- 19: the same transaction named twice, or one that isn't committed, or a member after a zero
unfoldable pub proposal_refusal : List ℕ → List ℕ → Checked
proposal_refusal log proposal =
    19 at 0 when fails (distinct (up_to_zero proposal) and all (committed log) (up_to_zero proposal) and all (λ t. t is 0) (from_zero proposal))
