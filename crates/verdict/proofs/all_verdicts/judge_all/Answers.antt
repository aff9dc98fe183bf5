-- `judge_all` meets its contract.
use Rattle.verdict.proofs.all_verdicts.judge_all.Goals as goal

pub judge_exact-requires : goal.judge_exact-requires
judge_exact-requires c =
    let q = c.requires in
    (q.0, c.judge_clean-clean.ensures, q.1.who, q.1.marks)

pub returns : goal.returns
returns c =
    record {
      clean_is = c.judge_clean-clean.ensures;
      snapshot_is = c.judge_snapshot.ensures;
      conflict_is = c.judge_conflict.ensures;
      version_is = c.judge_version.ensures;
      exact_is = c.judge_exact.ensures;
    }
