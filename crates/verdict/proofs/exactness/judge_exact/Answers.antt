-- `judge_exact` meets its contract.
use Rattle.std.proofs.Common.{refl, sym, ◌∙◌}
use Rattle.verdict.specs.Judgement.{over, searched}
use Rattle.verdict.proofs.Searching.{search_13, search_few}
use Rattle.verdict.proofs.exactness.judge_exact.Goals as goal

pub returns-in-Err : goal.returns-in-Err
returns-in-Err c =
    over _ (search_13 _ (sym c.admit_search-admitted.ensures ∙ c.in-Err.is)) c.exact_without_members.ensures

pub judge_search-found-requires : goal.judge_search-found-requires
judge_search-found-requires c =
    let q = c.requires in
    (q.0, q.1, search_few _ (sym c.admit_search-admitted.ensures ∙ c.in_default.is), q.2, q.3)

pub returns : goal.returns
returns c = searched _ (sym c.admit_search-admitted.ensures ∙ c.in_default.is) refl c.judge_search-found.ensures
