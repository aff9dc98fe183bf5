-- What the private functions that take a part promise.
use Rattle.std.specs.Prelude.{◌≡◌, List, map, ℕ, ◌≤◌, length}
use Rattle.live.specs.Answers.{answer_number}
use Rattle.live.specs.SoFar.{numbers}
use Rattle.live.specs.Says.{State, all_says, after_all}
use Rattle.live.specs.Kept.{places, full}
use Rattle.live.specs.declared.step.Live.{Live}
use Rattle.live.specs.Inner.Table.{Table, Sized}
use Rattle.live.specs.Inner.Held.{Holds}

-- the steps of a part are taken, and each has its answer
pub record TakesPart (l : Live) (b : Table) (part answers : List ℕ) (r : Live) (b' : Table) (answers' : List ℕ) : Type 0 where
  pub sized : Sized b'
  pub room : r.count ≤ places
  pub size : length answers' ≡ length answers
  pub answered : (j : State) → Holds l.standing l.top l.count b j → answers' ≡ map answer_number (all_says numbers (full numbers places) j part)
  pub holds : (j : State) → Holds l.standing l.top l.count b j → Holds r.standing r.top r.count b' (after_all numbers (full numbers places) j part)
