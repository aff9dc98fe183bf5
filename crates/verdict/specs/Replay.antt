-- Replay: a serial order is run one transaction at a time. It mentions no edge. Transactions are at most `most`.
use Rattle.std.specs.Prelude.{Bool, List, [], ◌∷◌, ℕ, suc}
use Rattle.words.specs.Tests.{◌is◌, ◌below◌, ◌and◌, ◌implies◌, provided◌then◌else◌, every}
use Rattle.words.specs.Lists.{all, before}
use Rattle.graph.specs.Order.{once_each}
use Rattle.verdict.specs.Log.{steps, tx, obj, src, committed, writer, write_one_object, commit_step}
use Rattle.verdict.specs.Clean.{judged_other, is_clean}

module _ (log : List ℕ) where
  -- what r finds of x when w is run: the last writer of x that ran before r, or v if none did. In a clean log no read from another comes after r's own write
  unfoldable pub finds : ℕ → ℕ → ℕ → List ℕ → ℕ
  finds x r v [] = v
  finds x r v (t ∷ w) = provided t is r then v else finds x r (provided writer log x t then t else v) w

  -- every judged read from another finds its source as last writer of the object, 0 if none
  unfoldable pub reads_right : List ℕ → Bool
  reads_right w = every (steps log) (λ i. judged_other log i implies finds (obj log i) (tx log i) 0 w is src log i)

  -- the committed writers of each object come in commit order
  unfoldable pub writers_in_order : List ℕ → Bool
  writers_in_order w =
      all (λ a. all (λ b. before a b w and write_one_object log a b implies commit_step log a below commit_step log b) w) w

module _ (most : ℕ) (log : List ℕ) where
  -- a serial order: every committed transaction once
  unfoldable pub serial : List ℕ → Bool
  serial w = once_each (suc most) (committed log) w

  unfoldable pub explains_loosely : List ℕ → Bool
  explains_loosely w = is_clean log and serial w and reads_right log w

  unfoldable pub explains : List ℕ → Bool
  explains w = explains_loosely w and writers_in_order log w
