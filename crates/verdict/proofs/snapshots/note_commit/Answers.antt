-- `note_commit` meets its contract.
use mathlib.Core.Path.{◌≡◌, refl, sym, ap, ◌∙◌}
use mathlib.Core.List.{List}
use Prim.Native.Nat.{ℕ, ◌+◌, ◌≤◌}
use native.Mathlib.Omega.{arith}
use Rattle.bits.specs.Table.{Puts}
use Rattle.verdict.specs.Limits.{transactions}
use Rattle.verdict.specs.Log.{steps, kind, tx}
use Rattle.verdict.specs.Snapshot.{snapshot_step}
use Rattle.verdict.specs.Inner.Clashes.{LastCommits}
use Rattle.verdict.proofs.WellFormed.{well_formed, steps_within}
use Rattle.verdict.proofs.SnapshotLaws.{no_commit, begin_at}
use Rattle.verdict.proofs.Clashing.{other_step, commit_more, none_since}
use lib.ListN.{get_or}
use Rattle.verdict.proofs.snapshots.note_commit.Lts
use Rattle.verdict.proofs.snapshots.note_commit.Tie as tie
use Rattle.verdict.proofs.snapshots.note_commit.Reads
use Rattle.verdict.proofs.snapshots.note_commit.Goals as goal

-- places on the way, by the names that the toolchain gives them
abbrev After-put_marked : Type 0
After-put_marked = Lts.After-put_marked tie.the-claims Reads.Pre Reads.Post

abbrev After-struct_known-1 : Type 0
After-struct_known-1 = Lts.After-struct_known tie.the-claims Reads.Pre Reads.Post

-- its transaction is in range
in_range : (c : After-struct_known-1) → (1 ≤ c.step_at-step.result.tx) × (c.step_at-step.result.tx ≤ transactions)
in_range c = rw c.step_at-step.ensures.tx_is ((well_formed _ c.requires.0).range c.args.j c.requires.4)

-- the commit of step j, noted
module _ (c : After-put_marked) where
  abbrev here : After-struct_known-1
  here = c.before.before.before.before.before.before.before.before

  is_commit : kind here.args.log.now here.args.j ≡ 4
  is_commit = omega (arith, here.step_at-step.ensures.kind_is, c.if-step-ne-COMMIT.false)

  committing : c.from.result ≡ tx here.args.log.now here.args.j
  committing = c.from.ensures ∙ here.step_at-step.ensures.tx_is

  last_then : {next : List ℕ} → Puts here.args.last.now (get_or here.args.writes.now c.from.result 0) here.args.j next → LastCommits here.args.log.now (here.args.j + 1) next
  last_then put = commit_more _ _ here.requires.3 here.requires.1 committing (omega (arith, c.from.ensures, (in_range here).1)) is_commit refl put

pub step_at-step-requires : goal.step_at-step-requires
unfolding steps
step_at-step-requires c = omega (arith, c.requires.4)

pub returns-then-step-ne-COMMIT : goal.returns-then-step-ne-COMMIT
returns-then-step-ne-COMMIT c =
    let n : kind c.args.log.now c.args.j ≡ 4 → ⊥ = λ e. c.if-step-ne-COMMIT.true (c.step_at-step.ensures.kind_is ∙ e) in
    record { last = other_step _ _ c.requires.3 n; told = λ p. no_commit _ _ p n }

pub bounds-writes-from : goal.bounds-writes-from
bounds-writes-from c = omega (arith, c.from.ensures, (in_range c.before.before.before.before).1)

pub step_of-requires : goal.step_of-requires
step_of-requires c = (in_range c.before.before.before.before.before).1

pub overflow_cast-j : goal.overflow_cast-j
overflow_cast-j c =
    omega (arith, c.requires.4, steps_within _ c.requires.0)

pub returns-then-since : goal.returns-then-since
returns-then-since c =
    let step_is = (here c.before.before).step_at-step.ensures in
    record { last = last_then c.before.before c.put_marked.ensures; told = (is_commit c.before.before, sym step_is.tx_is, (in_range (here c.before.before)).1) }

pub returns : goal.returns
returns c =
    let index_is = c.from.ensures in
    let begin = c.step_of.ensures ∙ begin_at _ _ (in_range (here c.before.before)).1 c.requires.2 ∙ ap (snapshot_step c.args.log.now) (sym index_is) in
    record {
      last = last_then c.before.before c.put_marked.ensures;
      told = none_since _ _ c.requires.3 c.requires.1 (committing c.before.before) (omega (arith, index_is, (in_range (here c.before.before)).1)) (well_formed _ c.requires.0) begin (sym c.marked_above-since.ensures ∙ c.if-since.false);
    }
