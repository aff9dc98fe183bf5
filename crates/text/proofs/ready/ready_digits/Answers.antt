-- `ready_digits` meets its contract: each entry is computed, and compared with the number at its place.
use mathlib.Core.Path.{refl}
use Rattle.words.specs.Tests.{◌below◌, provided◌then◌else◌}
use Rattle.text.specs.Decimal.{digit, digits, decimal}
use Rattle.text.specs.Inner.Ready.{low_bytes}
use Rattle.text.proofs.Readies.{told, table_ready}
use Rattle.text.proofs.ready.ready_digits.Goals as goal

pub returns : goal.returns
unfolding told decimal digits digit low_bytes ◌below◌ provided◌then◌else◌
returns c = table_ready _ refl refl
