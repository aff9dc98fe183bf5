-- The types of the answers, as the code declares them, and the number that stands in a lent buffer for each answer to a step.
use Rattle.std.specs.Prelude.{ℕ, Bool, true, false}
pub use Rattle.live.specs.declared.answers.Said.{Said}
pub use Rattle.live.specs.declared.answers.Said.TheVariants.{Taken, Yes, Breach, CycleClosed}

-- the number of a bad step, or one of four more
unfoldable pub answer_number : Said → ℕ
answer_number (Said.Refused n) = n
answer_number Taken = 64
answer_number Yes = 65
answer_number Breach = 66
answer_number CycleClosed = 67

-- the two that are the answer to every later step
unfoldable pub stands : Said → Bool
stands (Said.Refused n) = false
stands Taken = false
stands Yes = false
stands Breach = true
stands CycleClosed = true
