-- The log with the commits of some transactions taken back: turned into aborts. It is a list of numbers again, so that 01's definitions serve as they stand.
use Rattle.std.specs.Prelude.{Bool, List, [], ◌∷◌, ◌++◌, ℕ, zero, suc}
use Rattle.words.specs.Tests.{◌is◌, ◌and◌, fails, provided◌then◌else◌}
use Rattle.verdict.specs.Log.{steps, kind, tx, obj, src}

-- `back` says which transactions are taken back
module _ (back : ℕ → Bool) (log : List ℕ) where
  -- the kind of step i then: a commit of one of these becomes an abort
  unfoldable pub kind_after : ℕ → ℕ
  kind_after i = provided kind log i is 4 and back (tx log i) then 5 else kind log i

  -- the first n steps then
  unfoldable pub steps_after : ℕ → List ℕ
  steps_after zero = []
  steps_after (suc n) = steps_after n ++ kind_after n ∷ tx log n ∷ obj log n ∷ src log n ∷ []

  unfoldable pub taken_back : List ℕ
  taken_back = steps_after (steps log)

-- all of these but t, which is turned back into a commit
infixl 45 ◌but◌
unfoldable pub ◌but◌ : (ℕ → Bool) → ℕ → ℕ → Bool
(back but t) u = back u and fails (u is t)
