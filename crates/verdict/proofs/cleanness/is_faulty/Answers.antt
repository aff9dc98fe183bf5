-- `is_faulty` meets its contract.
use mathlib.Core.Path.{◌≡◌, sym, ◌∙◌}
use mathlib.Core.Bool.{Bool, true}
use mathlib.Core.Logic.{inl}
use Prim.Native.Nat.{◌≤◌, ◌<◌}
use native.Mathlib.Omega.{arith}
use Rattle.verdict.specs.Limits.{transactions, objects}
use Rattle.verdict.specs.Log.{steps, kind, tx, obj, src, committed}
use Rattle.verdict.specs.Clean.{judged_other}
use Rattle.verdict.proofs.JudgedReads.{own_source, reader_fails, judged_read}
use Rattle.verdict.proofs.Faults.{not_faulty, source_zero, source_open, source_later}
use Rattle.verdict.proofs.WellFormed.{sourced_read, ranges, well_formed}
use Rattle.verdict.proofs.Matrices.{told_committed}
use Rattle.verdict.proofs.WriteMarks.{by_later}
use Rattle.verdict.proofs.cleanness.is_faulty.Lts
use Rattle.verdict.proofs.cleanness.is_faulty.Tie as tie
use Rattle.verdict.proofs.cleanness.is_faulty.Reads
use Rattle.verdict.proofs.cleanness.is_faulty.Goals as goal

-- places on the way, by the names that the toolchain gives them
abbrev After-takes_part : Type 0
After-takes_part = Lts.After-takes_part tie.the-claims Reads.Pre Reads.Post

abbrev After-takes_part-2 : Type 0
After-takes_part-2 = Lts.After-takes_part2 tie.the-claims Reads.Pre Reads.Post

abbrev Else-not-takes_part : Type 0
Else-not-takes_part = Lts.Else3 tie.the-claims Reads.Pre Reads.Post

abbrev Else-s-eq0 : Type 0
Else-s-eq0 = Lts.Else2 tie.the-claims Reads.Pre Reads.Post

-- the numbers of the read
module _ (c : Else-s-eq0) where
  not_zero : src c.args.log.now c.args.i ≡ 0 → ⊥
  not_zero e = c.if-s-eq0.false (c.step_at-step.ensures.src_is ∙ e)

  in_log : c.args.i < steps c.args.log.now
  unfolding steps
  in_log = omega arith

  is_read : kind c.args.log.now c.args.i ≡ 2
  is_read = sourced_read _ _ (ranges _ c.requires.0 _ in_log) not_zero

  source_in : src c.args.log.now c.args.i ≤ transactions
  source_in = (well_formed _ c.requires.0).sources _ in_log is_read

  object_in : obj c.args.log.now c.args.i < objects
  object_in = (well_formed _ c.requires.0).object _ in_log (inl is_read)

-- who committed, by the marks
reader : (c : After-takes_part) {v : Bool} → c.takes_part.result ≡ v → let a = c.args in committed a.log.now (tx a.log.now a.i) ≡ v
reader c q = sym (told_committed c.requires.2 c.takes_part.ensures c.step_at-step.ensures.tx_is) ∙ q

source : (c : After-takes_part-2) {v : Bool} → c.takes_part-2.result ≡ v → let a = c.args in committed a.log.now (src a.log.now a.i) ≡ v
source c q = sym (told_committed c.requires.2 c.takes_part-2.ensures c.step_at-step.ensures.src_is) ∙ q

-- a judged read from another
is_judged : (c : Else-not-takes_part) → let a = c.args in judged_other a.log.now a.i ≡ true
is_judged c =
    let step = c.step_at-step.ensures in
    judged_read _ _ (is_read c.before.before) (λ e. c.if-s-t.false (step.src_is ∙ e ∙ sym step.tx_is)) (reader c.before c.if-not-takes_part.false)

pub returns-then-s-t : goal.returns-then-s-t
returns-then-s-t c =
    let step = c.step_at-step.ensures in
    sym (not_faulty _ _ (own_source _ _ (sym step.src_is ∙ c.if-s-t.true ∙ step.tx_is)))

pub returns-then-s-eq0 : goal.returns-then-s-eq0
returns-then-s-eq0 c = sym (source_zero _ _ (sym c.step_at-step.ensures.src_is ∙ c.if-s-eq0.true))

pub takes_part-requires : goal.takes_part-requires
takes_part-requires c =
    let r = (well_formed _ c.requires.0).range _ (in_log c.before) in
    let e = c.step_at-step.ensures.tx_is in
    (omega (arith, r.0, e), omega (arith, r.1, e))

pub returns-then-not-takes_part : goal.returns-then-not-takes_part
returns-then-not-takes_part c = sym (not_faulty _ _ (reader_fails _ _ (reader c.before.before c.if-not-takes_part.true)))

pub takes_part-requires-2 : goal.takes_part-requires-2
takes_part-requires-2 c =
    let e = c.step_at-step.ensures.src_is in
    (omega (arith, c.if-s-eq0.false), omega (arith, source_in c.before.before.before, e))

pub returns-then-not-takes_part-2 : goal.returns-then-not-takes_part-2
returns-then-not-takes_part-2 c =
    sym (source_open _ _ (is_judged c.before.before.before) (not_zero c.before.before.before.before.before) (source c.before.before c.if-not-takes_part-2.true))

pub object_marked-requires : goal.object_marked-requires
object_marked-requires c =
    omega (arith, source_in c.before.before.before.before.before, c.step_at-step.ensures.src_is)

pub returns : goal.returns
returns c =
    let step = c.step_at-step.ensures in
    by_later _ _ c.requires.3 (source_in c.before.before.before.before.before.before) (object_in c.before.before.before.before.before.before) step.src_is step.obj_is c.object_marked.ensures
    ∙ sym (source_later _ _ (is_judged c.before.before.before.before) (not_zero c.before.before.before.before.before.before) (source c.before.before.before c.if-not-takes_part-2.false))
