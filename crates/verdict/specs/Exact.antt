-- The exact verdict: unclean, or the dictionary-first order that explains loosely, or none.
use Rattle.std.specs.Prelude.{◌≡◌, List, ℕ}
use Rattle.words.specs.First.{dictionary, First, Never}
use Rattle.verdict.specs.Clean.{cleanness}
use Rattle.verdict.specs.Replay.{explains_loosely}
use Rattle.verdict.specs.Outcome.{Outcome, order, none, unclean}
use Rattle.verdict.specs.Answers.{Fault, Cleanness}

pub data Exact (most : ℕ) (log : List ℕ) : Outcome → Type 0 where
  exact : {w : List ℕ} → First dictionary (explains_loosely most log) w → Exact most log (order w)
  exact_none : cleanness log ≡ Cleanness.Yes → Never (explains_loosely most log) → Exact most log none
  exact_unclean : {f : Fault} → cleanness log ≡ Cleanness.Unclean f → Exact most log (unclean f)
