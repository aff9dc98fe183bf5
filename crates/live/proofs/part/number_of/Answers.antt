-- `number_of` meets its contract.
use mathlib.Core.Path.{sym, ap}
use Rattle.live.specs.Answers.{answer_number}
use Rattle.live.proofs.part.number_of.Goals as goal

pub returns-in-Refused : goal.returns-in-Refused
unfolding answer_number
returns-in-Refused c = sym (ap answer_number c.in-Refused.is)

pub returns-in-Taken : goal.returns-in-Taken
unfolding answer_number
returns-in-Taken c = sym (ap answer_number c.in-Taken.is)

pub returns-in-Yes : goal.returns-in-Yes
unfolding answer_number
returns-in-Yes c = sym (ap answer_number c.in-Yes.is)

pub returns-in-Breach : goal.returns-in-Breach
unfolding answer_number
returns-in-Breach c = sym (ap answer_number c.in-Breach.is)

pub returns-in-CycleClosed : goal.returns-in-CycleClosed
unfolding answer_number
returns-in-CycleClosed c = sym (ap answer_number c.in-CycleClosed.is)
