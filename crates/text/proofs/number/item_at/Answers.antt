-- `item_at` meets its contract: the key stands there, and then its number.
use mathlib.Core.Path.{sym, ◌∙◌}
use Rattle.text.specs.Decimal.{decimal}
use Rattle.text.specs.Line.{sayable}
use Rattle.text.proofs.Items.{no_key, behind_key}
use Rattle.text.proofs.number.item_at.Goals as goal

pub returns-then-not-stands : goal.returns-then-not-stands
returns-then-not-stands c =
    let a = c.args in
    λ n rest s. no_key a.text.now a.at a.key.now decimal a.behind (sym c.stands.ensures ∙ c.if-not-stands.true) n rest

pub returns : goal.returns
returns c =
    let a = c.args in
    behind_key a.text.now a.at a.key.now decimal a.behind sayable
    (sym c.stands.ensures ∙ c.if-not-stands.false)
    c.number_at.result
    c.number_at.ensures
