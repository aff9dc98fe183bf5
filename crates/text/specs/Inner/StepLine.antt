-- The line of one step of a log, for the functions that put it.
use Rattle.std.specs.Prelude.{List, ℕ, ◌<◌}
use Rattle.verdict.specs.Log.{kind, tx, obj, src}
use Rattle.text.specs.Line.{line}

unfoldable pub line_of : List ℕ → ℕ → List ℕ
line_of log i = line (kind log i) (tx log i) (obj log i) (src log i)

-- the numbers of a step that are put from a table
abbrev pub Small : List ℕ → ℕ → Type 0
Small log i = (tx log i < 129) × (obj log i < 129) × (src log i < 129)
