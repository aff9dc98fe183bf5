-- `put_lines` meets its contract. At each turn the lines of the first i steps are put.
use native.Mathlib.Omega.{arith}
use mathlib.Core.Path.{◌≡◌, sym, subst}
use mathlib.Core.List.{List}
use Prim.Native.Nat.{ℕ, ◌+◌}
use lib.ListN.{length-append}
use Rattle.verdict.specs.Log.{steps}
use Rattle.text.specs.Text.{lines}
use Rattle.text.specs.Inner.Put.{Leads}
use Rattle.text.specs.Inner.StepLine.{line_of}
use Rattle.text.proofs.Runs.{lines_more, more_fits}
use Rattle.text.proofs.Readies.{leads_nothing, both_lead}
use Rattle.text.proofs.Saying.{small}
use Rattle.text.proofs.writer.put_lines.Goals as goal

pub loop-i-init : goal.loop-i-init
unfolding lines
loop-i-init c = let a = c.args in leads_nothing a.out.now a.at

pub put_line-place-requires : goal.put_line-place-requires
unfolding steps
put_line-place-requires c =
    let log = c.args.log.now in
    let i = c.loop-i.i in
    let known = c.loop-i.invariant in
    let fits = more_fits (steps log) i log c.args.out.now (c.args.at + 8) c.loop-i-test.true c.requires.1 in (
      omega arith,
      small log c.requires.0 i c.loop-i-test.true,
      c.ready_digits-digits.ensures,
      omega (arith, fits, length-append (lines i log) (line_of log i), known.reaches, known.size),
    )

pub loop-i-preserved : goal.loop-i-preserved
loop-i-preserved c =
    let p = c.put_line-place in
    let i = c.loop-i.i in
    let log = c.args.log.now in
    subst (λ (w : List ℕ). Leads w c.args.at c.args.out.now p.result p.new.out) (sym (lines_more i log))
    (both_lead (lines i log) (line_of log i) c.args.out.now c.args.at c.loop-i.invariant p.ensures)

pub shape_of-out : goal.shape_of-out
shape_of-out c = c.loop-i.invariant.size

pub returns : goal.returns
unfolding steps
returns c =
    let e : c.loop-i.i ≡ steps c.args.log.now = omega arith in
    subst (λ (n : ℕ). Leads (lines n c.args.log.now) c.args.at c.args.out.now c.loop-i.place c.loop-i.out) e c.loop-i.invariant
