-- `judge_search` meets its contract.
use mathlib.Core.Path.{sym, ◌∙◌}
use Rattle.verdict.specs.Exact.{exact_unclean}
use Rattle.verdict.proofs.Cleanly.{cleanness_clean}
use Rattle.verdict.proofs.Memberless.{holds_unclean}
use Rattle.verdict.proofs.exactness.judge_search.Goals as goal

pub returns-in-Unclean : goal.returns-in-Unclean
returns-in-Unclean c = holds_unclean (exact_unclean (sym c.requires.1 ∙ c.in-Unclean.is)) c.without_members.ensures

pub find_order-requires : goal.find_order-requires
find_order-requires c = let q = c.requires in (q.0, cleanness_clean _ (sym q.1 ∙ c.in_default.is), q.2, q.3, q.4)

pub returns : goal.returns
returns c = c.find_order.ensures
