-- 18 apart: the steps of a run that 18 did not refuse, and their answers; and the judge that has room for every transaction.
use Rattle.std.specs.Prelude.{Bool, false, List, [], ◌∷◌, map, ℕ}
use Rattle.words.specs.Tests.{◌is◌, provided◌then◌else◌}
use Rattle.live.specs.Answers.{answer_number}
use Rattle.live.specs.SoFar.{numbers}
use Rattle.live.specs.Says.{fresh, all_says}

-- the answers that are not 18
unfoldable pub answers_apart : List ℕ → List ℕ
answers_apart [] = []
answers_apart (a ∷ said) = provided a is 18 then answers_apart said else (a ∷ answers_apart said)

-- the steps of a run, four numbers each, whose answers are not 18
unfoldable pub steps_apart : (run said : List ℕ) → List ℕ
steps_apart (k ∷ t ∷ x ∷ s ∷ run) (a ∷ said) = provided a is 18 then steps_apart run said else (k ∷ t ∷ x ∷ s ∷ steps_apart run said)
steps_apart (k ∷ t ∷ x ∷ s ∷ run) [] = []
steps_apart [] said = []
steps_apart (k ∷ []) said = []
steps_apart (k ∷ t ∷ []) said = []
steps_apart (k ∷ t ∷ x ∷ []) said = []

-- room for every transaction
unfoldable pub never_full : List ℕ → Bool
never_full log = false

-- the answers of a judge with room for every transaction
unfoldable pub roomy_answers_to : List ℕ → List ℕ
roomy_answers_to run = map answer_number (all_says numbers never_full fresh run)
