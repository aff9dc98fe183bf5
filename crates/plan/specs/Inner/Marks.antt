-- Transactions marked in a table that has an entry for each, and members of a proposal as such marks.
use Rattle.std.specs.Prelude.{◌≡◌, Bool, true, false, List, ℕ, length, get_or, Option, None, Some, Result, Ok, Err}
use Rattle.words.specs.Tests.{◌is◌, ◌and◌, fails, some}
use Rattle.words.specs.Lists.{member, all, distinct}
use Rattle.verdict.specs.Log.{commits, committed}
use Rattle.verdict.specs.Next.{up_to_zero}
use Rattle.verdict.specs.Inner.Following.{Split}
use Rattle.verdict.specs.Answers.{Passed}
use Rattle.verdict.specs.declared.answers.Refusal.{Refusal}
use Rattle.plan.specs.Proposal.{proposes, proposal_refusal}
use Rattle.plan.specs.declared.members.Members.{Members}

-- entries of such a table: 0 for no transaction, and one for each
abbrev pub table : ℕ
table = 129

-- t is marked: its entry is there, and is not 0
unfoldable pub marked : List ℕ → ℕ → Bool
marked marks t = fails (get_or marks t 0 is 0)

-- the marks of those that commit in the first i steps
pub record Until (log : List ℕ) (i : ℕ) (marks : List ℕ) : Type 0 where
  pub size : length marks ≡ table
  pub each : (t : ℕ) → marked marks t ≡ some i (commits log t)

-- the marks of those that committed
pub record Committed (log marks : List ℕ) : Type 0 where
  pub size : length marks ≡ table
  pub each : (t : ℕ) → marked marks t ≡ committed log t

-- what is found of the members of a proposal, by the marks of those that committed: how many they are and the marks of them, if they are
-- different and committed
abbrev pub MembersOf : (who proposal : List ℕ) → Option Members → Type 0
MembersOf who proposal (Some m) =
    Split proposal m.count × (distinct (up_to_zero proposal) ≡ true) × (all (marked who) (up_to_zero proposal) ≡ true)
    × (length m.marks ≡ table)
    × ((t : ℕ) → marked m.marks t ≡ member t (up_to_zero proposal))
MembersOf who proposal None = (distinct (up_to_zero proposal) and all (marked who) (up_to_zero proposal)) ≡ false

-- what is found of a proposal that is handed in with a well_formed log: 19, or the marks of its members
abbrev pub Proposes : (log proposal : List ℕ) → Result (List ℕ) Refusal → Type 0
Proposes log proposal (Ok marks) =
    (proposal_refusal log proposal ≡ Passed) × (length marks ≡ table) × ((t : ℕ) → marked marks t ≡ proposes proposal t)
Proposes log proposal (Err e) = proposal_refusal log proposal ≡ Err e
