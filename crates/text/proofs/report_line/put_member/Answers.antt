-- `put_member` meets its contract: a blank with its number, and the reason.
use mathlib.Core.List.{List, ◌++◌}
use Prim.Native.Nat.{ℕ}
use Rattle.text.specs.Bytes.{bytes}
use Rattle.text.specs.Decimal.{decimal}
use Rattle.text.specs.ReportLine.{reason, spelled}
use Rattle.text.proofs.Puts.{first_fits, then_fits, both_put}
use Rattle.text.proofs.report_line.put_member.Lts
use Rattle.text.proofs.report_line.put_member.Tie as tie
use Rattle.text.proofs.report_line.put_member.Reads
use Rattle.text.proofs.report_line.put_member.Goals as goal

-- places on the way, by the names that the toolchain gives them
abbrev Start : Type 0
Start = Lts.Start tie.the-claims Reads.Pre Reads.Post

abbrev number : Start → List ℕ
number s = bytes " " ++ decimal s.args.transaction

abbrev its_reason : Start → List ℕ
its_reason s = reason s.args.kind s.args.x

pub put_number-a-requires : goal.put_number-a-requires
unfolding spelled bytes
put_number-a-requires c = first_fits (number c.before.before.before.before) (its_reason c.before.before.before.before) c.args.out.now c.args.at c.requires

pub put_reason-requires : goal.put_reason-requires
unfolding spelled bytes
put_reason-requires c =
    then_fits (number c.before.before.before.before.before.before.before.before) (its_reason c.before.before.before.before.before.before.before.before) c.args.out.now c.args.at c.requires c.put_number-a.ensures

pub returns : goal.returns
unfolding spelled bytes
returns c =
    both_put (number c.before.before.before.before.before.before.before.before.before.before.before.before) (its_reason c.before.before.before.before.before.before.before.before.before.before.before.before) c.args.out.now c.args.at c.requires c.put_number-a.ensures c.put_reason.ensures
