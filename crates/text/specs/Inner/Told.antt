-- How an answer by value is printed: its members are the first entries of its list.
use Rattle.std.specs.Prelude.{List, ◌++◌, ℕ}
use Rattle.verdict.specs.Clean.{fault_step}
use Rattle.verdict.specs.Witness.{entries_in}
use Rattle.verdict.specs.declared.answers.Answer.{Answer}
use Rattle.text.specs.Bytes.{bytes}
use Rattle.text.specs.Decimal.{decimal}
use Rattle.text.specs.ReportLine.{spelled_all}

unfoldable pub told : Answer → List ℕ → List ℕ
told (Answer.Order n) list = bytes "order" ++ spelled_all (entries_in n list)
told (Answer.Cycle n) list = bytes "cycle" ++ spelled_all (entries_in n list)
told Answer.None list = bytes "none"
told (Answer.Unclean f) list = bytes "unclean at " ++ decimal (fault_step f)

-- how many entries of the list it has
unfoldable pub told_entries : Answer → ℕ
told_entries (Answer.Order n) = n
told_entries (Answer.Cycle n) = n
told_entries Answer.None = 0
told_entries (Answer.Unclean f) = 0
