-- What the judge says of each step. `full` says of the steps accepted whether no place is free; transactions are at most `most`.
use Rattle.std.specs.Prelude.{Bool, List, [], ◌∷◌, ℕ}
use Rattle.words.specs.Tests.{◌is◌, ◌upto◌, ◌and◌, ◌or◌, fails, provided◌then◌else◌}
use Rattle.verdict.specs.Refusal.{object_allowed}
use Rattle.live.specs.Answers.{Said, Taken, Yes, Breach, CycleClosed, stands}
use Rattle.live.specs.SoFar.{more, is_open, passed, so_far}
use Rattle.live.specs.Breach.{breached}
use Rattle.live.specs.Closed.{closed}

-- a judge goes on with the steps accepted, or has ended with an answer
pub data State : Type 0 where
  going : List ℕ → State
  over : Said → State

-- the judge as it begins
abbrev pub fresh : State
fresh = going []

module _ (most : ℕ) (full : List ℕ → Bool) where
  -- the first number that applies to a step of kind k, with transaction t, object x and source s; 0 for a good step
  unfoldable pub number : List ℕ → ℕ → ℕ → ℕ → ℕ → ℕ
  number log k t x s =
      provided fails (1 upto k and k upto 5) then 3
      else provided fails (1 upto t and t upto most) then 4
      else provided fails (object_allowed k x) then 5
      else provided fails (k is 2 or s is 0) then 6
      else provided k is 1 and passed log t then 7
      else provided k is 1 and full log then 18
      else provided fails (k is 1 or is_open log t) then 8
      else 0

  -- a commit, where `log` has it as its last step: by the verdicts over the log so far, breach before cycle closed
  unfoldable pub commit_says : List ℕ → Said
  commit_says log = provided breached most (so_far most log) then Breach else provided closed most (so_far most log) then CycleClosed else Yes

  unfoldable pub good_says : ℕ → List ℕ → Said
  good_says k log = provided k is 4 then commit_says log else Taken

  -- the answer to a step, and the state after it
  unfoldable pub says : State → ℕ → ℕ → ℕ → ℕ → Said
  says (over a) k t x s = a
  says (going log) k t x s = provided number log k t x s is 0 then good_says k (more log k t x s) else Said.Refused (number log k t x s)

  unfoldable pub after : State → ℕ → ℕ → ℕ → ℕ → State
  after (over a) k t x s = over a
  after (going log) k t x s =
      provided fails (number log k t x s is 0) then going log
      else provided stands (good_says k (more log k t x s)) then over (good_says k (more log k t x s))
      else going (more log k t x s)

  -- the answers to a run of steps, four numbers each, and the state after them
  unfoldable pub all_says : State → List ℕ → List Said
  all_says j (k ∷ t ∷ x ∷ s ∷ rest) = says j k t x s ∷ all_says (after j k t x s) rest
  all_says j [] = []
  all_says j (k ∷ []) = []
  all_says j (k ∷ t ∷ []) = []
  all_says j (k ∷ t ∷ x ∷ []) = []

  unfoldable pub after_all : State → List ℕ → State
  after_all j (k ∷ t ∷ x ∷ s ∷ rest) = after_all (after j k t x s) rest
  after_all j [] = j
  after_all j (k ∷ []) = j
  after_all j (k ∷ t ∷ []) = j
  after_all j (k ∷ t ∷ x ∷ []) = j
