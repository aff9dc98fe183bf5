-- `bring` meets its contract.
use mathlib.Core.Path.{◌∙◌}
use borrow.Author.Rules.{rules}
use Rattle.verdict.proofs.Threes.{Front, front_of}
use Rattle.verdict.proofs.NextLaws.{brings_order, brings_none}
use Rattle.verdict.proofs.following.bring.Goals.{In-Some}
use Rattle.verdict.proofs.following.bring.Goals as goal

-- the members of what was brought stand first in its list
front : (c : In-Some) → Front c.in-Some.later.list c.in-Some.later.count c.in-Some.ensures.members
front c = let f = c.in-Some.ensures in front_of f.listed (search rules) f.counted

pub returns-in-Some : goal.returns-in-Some
returns-in-Some c = brings_order c.in-Some.ensures.right (c.as_slice.ensures ∙ (front (goal.at.returns-in-Some c).In-Some).same) c.an_order.ensures

pub returns-in-None : goal.returns-in-None
returns-in-None c = brings_none c.in-None.ensures c.without_members.ensures
