-- `put_clean` meets its contract: each case has its line.
use mathlib.Core.Path.{◌≡◌, ap, ◌∙◌}
use Rattle.verdict.specs.declared.answers.Fault.TheVariants.{Own, Aborted, Unfinal}
use Rattle.verdict.specs.declared.answers.Cleanness.TheVariants.{Unclean}
use Rattle.text.specs.Bytes.{bytes}
use Rattle.text.specs.ReportLine.{clean_line}
use Rattle.text.proofs.Puts.{known_fits, known_puts}
use Rattle.text.proofs.report_line.put_clean.Lts
use Rattle.text.proofs.report_line.put_clean.Tie as tie
use Rattle.text.proofs.report_line.put_clean.Reads
use Rattle.text.proofs.report_line.put_clean.Goals as goal

-- places on the way, by the names that the toolchain gives them
abbrev In-Aborted : Type 0
In-Aborted = Lts.Past-After-known_told3 tie.the-claims Reads.Pre Reads.Post

abbrev In-Own : Type 0
In-Own = Lts.Past-After-known_told2 tie.the-claims Reads.Pre Reads.Post

abbrev In-Unfinal : Type 0
In-Unfinal = Lts.Past-After-known_told4 tie.the-claims Reads.Pre Reads.Post

is_own : (c : In-Own) → c.args.clean ≡ Unclean (Own c.in-Own.k)
is_own c = c.in-Unclean.is ∙ ap Unclean c.in-Own.is

is_aborted : (c : In-Aborted) → c.args.clean ≡ Unclean (Aborted c.in-Aborted.k)
is_aborted c = c.in-Unclean.is ∙ ap Unclean c.in-Aborted.is

is_unfinal : (c : In-Unfinal) → c.args.clean ≡ Unclean (Unfinal c.in-Unfinal.k)
is_unfinal c = c.in-Unclean.is ∙ ap Unclean c.in-Unfinal.is

pub put_word-requires : goal.put_word-requires
unfolding clean_line bytes
put_word-requires c =
    known_fits clean_line c.in-Yes.is c.args.out.now c.args.at c.requires

pub put_item-requires : goal.put_item-requires
unfolding clean_line bytes
put_item-requires c =
    known_fits clean_line (is_own c.before.before.before) c.args.out.now c.args.at c.requires

pub put_item-requires-in-Aborted : goal.put_item-requires-in-Aborted
unfolding clean_line bytes
put_item-requires-in-Aborted c =
    known_fits clean_line (is_aborted c.before.before.before) c.args.out.now c.args.at c.requires

pub put_item-requires-in-Unfinal : goal.put_item-requires-in-Unfinal
unfolding clean_line bytes
put_item-requires-in-Unfinal c =
    known_fits clean_line (is_unfinal c.before.before.before) c.args.out.now c.args.at c.requires

pub returns-in-Yes : goal.returns-in-Yes
unfolding clean_line bytes
returns-in-Yes c =
    known_puts clean_line c.in-Yes.is c.args.out.now c.args.at c.put_word.ensures

pub returns-in-Own : goal.returns-in-Own
unfolding clean_line bytes
returns-in-Own c =
    known_puts clean_line (is_own c.before.before.before.before.before.before.before) c.args.out.now c.args.at c.put_item.ensures

pub returns-in-Aborted : goal.returns-in-Aborted
unfolding clean_line bytes
returns-in-Aborted c =
    known_puts clean_line (is_aborted c.before.before.before.before.before.before.before) c.args.out.now c.args.at c.put_item-in-Aborted.ensures

pub returns-in-Unfinal : goal.returns-in-Unfinal
unfolding clean_line bytes
returns-in-Unfinal c =
    known_puts clean_line (is_unfinal c.before.before.before.before.before.before.before) c.args.out.now c.args.at c.put_item-in-Unfinal.ensures
