-- `judge_clean` meets its contract.
use mathlib.Core.Path.{◌≡◌, refl, sym, ap, ◌∙◌}
use mathlib.Core.Bool.{Bool, true}
use Prim.Native.Nat.{ℕ, ◌≤◌, ◌<◌}
use native.Mathlib.Omega.{arith}
use Rattle.words.specs.Tests.{fails}
use Rattle.words.proofs.Truth.{→fails, →not_fails}
use Rattle.verdict.specs.Limits.{transactions}
use Rattle.verdict.specs.Log.{steps, kind, src, aborted}
use Rattle.verdict.specs.Clean.{source_fault}
use Rattle.verdict.proofs.Ended.{aborted_else}
use Rattle.verdict.proofs.Faults.{faulty_judged, faulty_source, no_fault, from_own, source_in_log, faulty_there, from_aborted, from_unfinal}
use Rattle.verdict.proofs.JudgedReads.{is_read}
use Rattle.verdict.proofs.Matrices.{told_committed}
use Rattle.verdict.proofs.WellFormed.{Well, well_formed}
use Rattle.verdict.proofs.cleanness.judge_clean.Lts
use Rattle.verdict.proofs.cleanness.judge_clean.Tie as tie
use Rattle.verdict.proofs.cleanness.judge_clean.Reads
use Rattle.verdict.proofs.cleanness.judge_clean.Goals as goal

-- places on the way, by the names that the toolchain gives them
abbrev After-step_at-step : Type 0
After-step_at-step = Lts.After-step_at tie.the-claims Reads.Pre Reads.Post

abbrev After-takes_part : Type 0
After-takes_part = Lts.After-takes_part tie.the-claims Reads.Pre Reads.Post

abbrev Start : Type 0
Start = Lts.Start tie.the-claims Reads.Pre Reads.Post

-- the read there
module _ (c : After-step_at-step) where
  abbrev start : Start
  start = c.before.before.before.before

  abbrev k : ℕ
  k = c.first_fault-k.result

  earlier : k < start.args.own
  earlier = c.if-own-k.false

  in_log : k < steps start.args.log.now
  in_log = source_in_log _ start.requires.2 c.first_fault-k.ensures earlier

  at_fault : source_fault start.args.log.now k ≡ true
  at_fault = faulty_there _ start.requires.2 c.first_fault-k.ensures earlier

  well : Well transactions start.args.log.now
  well = well_formed _ start.requires.0

  read_there : kind start.args.log.now k ≡ 2
  read_there = is_read _ k (faulty_judged _ k at_fault)

  source_in : src start.args.log.now k ≤ transactions
  source_in = well.sources k in_log read_there

-- its source has aborted where it has not committed
source : (c : After-takes_part) {v : Bool} → c.takes_part.result ≡ v → aborted (start c.before).args.log.now (src (start c.before).args.log.now (k c.before)) ≡ fails v
source c q =
    aborted_else _ (start c.before).requires.0 _ _ (source_in c.before) ((well c.before).source (k c.before) (in_log c.before) (read_there c.before) (faulty_source _ (k c.before) (at_fault c.before)))
    ∙ ap fails (sym (told_committed (start c.before).requires.1 c.takes_part.ensures c.step_at-step.ensures.src_is) ∙ q)

pub returns-then-n-own : goal.returns-then-n-own
unfolding steps
returns-then-n-own c =
    sym (no_fault _ c.requires.2 c.first_fault-k.ensures c.if-own-k.true c.if-n-own.true)

pub returns-then-own-k : goal.returns-then-own-k
unfolding steps
returns-then-own-k c =
    sym (from_own _ c.requires.2 c.first_fault-k.ensures c.if-own-k.true c.if-n-own.false)

pub step_at-step-requires : goal.step_at-step-requires
unfolding steps
step_at-step-requires c =
    omega (arith, source_in_log c.args.log.now c.requires.2 c.first_fault-k.ensures c.if-own-k.false)

pub takes_part-requires : goal.takes_part-requires
takes_part-requires c =
    let n = faulty_source _ (k c.before) (at_fault c.before) in
    (omega (arith, c.step_at-step.ensures.src_is, n), omega (arith, c.step_at-step.ensures.src_is, source_in c.before))

pub returns-then-takes_part : goal.returns-then-takes_part
returns-then-takes_part c =
    sym (from_unfinal _ (start c.before.before.before).requires.2 c.first_fault-k.ensures (earlier c.before.before.before) (source c.before.before c.if-takes_part.true ∙ →not_fails refl))

pub returns : goal.returns
returns c =
    sym (from_aborted _ (start c.before.before.before).requires.2 c.first_fault-k.ensures (earlier c.before.before.before) (source c.before.before c.if-takes_part.false ∙ →fails refl))
