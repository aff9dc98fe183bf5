-- A log is fine when it is clean and has a version order: the version verdict shows one. Transactions are at most `most`.
use Rattle.std.specs.Prelude.{List, ℕ}
use Rattle.verdict.specs.Outcome.{order}
use Rattle.verdict.specs.Version.{Version}

pub record Fine (most : ℕ) (log : List ℕ) : Type 0 where
  pub members : List ℕ
  pub shown : Version most log (order members)
