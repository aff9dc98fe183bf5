-- `kind_at` meets its contract: one of the five words stands there, or none.
use mathlib.Core.Path.{sym, ◌∙◌}
use lib.ListN.{drop}
use Rattle.words.specs.Tests.{◌is◌, provided◌then◌else◌}
use Rattle.text.specs.Bytes.{bytes}
use Rattle.text.specs.Line.{word, item, op}
use Rattle.text.proofs.Words.{begin, read, write, commit, abort, op_stands, no_kind}
use Rattle.text.proofs.line.kind_at.Goals as goal

pub returns-then-stands : goal.returns-then-stands
unfolding op item word bytes ◌is◌ provided◌then◌else◌
returns-then-stands c =
    op_stands c.args.text.now c.args.at begin c.requires (sym c.stands.ensures ∙ c.if-stands.true)

pub returns-then-stands-2 : goal.returns-then-stands-2
unfolding op item word bytes ◌is◌ provided◌then◌else◌
returns-then-stands-2 c =
    op_stands c.args.text.now c.args.at read c.requires (sym c.stands-2.ensures ∙ c.if-stands-2.true)

pub returns-then-stands-3 : goal.returns-then-stands-3
unfolding op item word bytes ◌is◌ provided◌then◌else◌
returns-then-stands-3 c =
    op_stands c.args.text.now c.args.at write c.requires (sym c.stands-3.ensures ∙ c.if-stands-3.true)

pub returns-then-stands-4 : goal.returns-then-stands-4
unfolding op item word bytes ◌is◌ provided◌then◌else◌
returns-then-stands-4 c =
    op_stands c.args.text.now c.args.at commit c.requires (sym c.stands-4.ensures ∙ c.if-stands-4.true)

pub returns-then-stands-5 : goal.returns-then-stands-5
unfolding op item word bytes ◌is◌ provided◌then◌else◌
returns-then-stands-5 c =
    op_stands c.args.text.now c.args.at abort c.requires (sym c.stands-5.ensures ∙ c.if-stands-5.true)

pub returns : goal.returns
unfolding op item word bytes ◌is◌ provided◌then◌else◌
returns c =
    no_kind (drop c.args.at c.args.text.now)
    (sym c.stands.ensures ∙ c.if-stands.false)
    (sym c.stands-2.ensures ∙ c.if-stands-2.false)
    (sym c.stands-3.ensures ∙ c.if-stands-3.false)
    (sym c.stands-4.ensures ∙ c.if-stands-4.false)
    (sym c.stands-5.ensures ∙ c.if-stands-5.false)
