-- `after_order` meets its contract.
use mathlib.Core.Path.{refl, sym, ◌∙◌}
use Rattle.words.proofs.Truth.{to_false}
use Rattle.verdict.proofs.Cleanly.{cleanness_clean, clean_cleanness, clean≢unclean}
use Rattle.verdict.proofs.HandedIn.{not_clean}
use Rattle.verdict.proofs.following.after_order.Goals as goal

pub returns-in-Unclean : goal.returns-in-Unclean
returns-in-Unclean c =
    not_clean _ _ (to_false _ (λ h. clean≢unclean (clean_cleanness _ h) (sym c.judge_clean-clean.ensures ∙ c.in-Unclean.is)))

pub next_writers-requires : goal.next_writers-requires
next_writers-requires c = let q = c.requires in (q.0, q.1.marks, q.1.order, refl)

pub in_version_graph-requires : goal.in_version_graph-requires
in_version_graph-requires c =
    let q = c.requires in
    (q.0, cleanness_clean _ (sym c.judge_clean-clean.ensures ∙ c.in_default.is), q.1.who, c.next_writers.ensures)

pub returns : goal.returns
returns c = c.in_version_graph.ensures
