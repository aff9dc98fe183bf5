-- `admit_members` meets its contract.
use Rattle.std.proofs.Common.{sym, ◌∙◌}
use Rattle.plan.proofs.Proposals.{nobody_0, members_refused, behind_refused, members_taken}
use Rattle.plan.proofs.refusal.admit_members.Goals as goal

pub look_at-requires : goal.look_at-requires
look_at-requires c = let who = c.who_committed-who.ensures in (who.size, nobody_0 _ c.requires _ who)

pub returns-in_default : goal.returns-in_default
returns-in_default c = members_refused _ _ c.who_committed-who.ensures c.in_default.ensures

pub returns-then-not-all_zero : goal.returns-then-not-all_zero
returns-then-not-all_zero c = behind_refused _ _ c.who_committed-who.ensures _ c.in-Some.ensures (sym c.all_zero.ensures ∙ c.if-not-all_zero.true)

pub returns : goal.returns
returns c = members_taken _ _ c.who_committed-who.ensures _ c.in-Some.ensures (sym c.all_zero.ensures ∙ c.if-not-all_zero.false)
