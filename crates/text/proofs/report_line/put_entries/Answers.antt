-- `put_entries` meets its contract. At each turn the first i members are put.
use native.Mathlib.Omega.{arith}
use mathlib.Core.Path.{refl, subst, ◌∙◌}
use mathlib.Core.List.{List}
use Prim.Native.Nat.{ℕ, ◌+◌, ◌*◌, ◌<◌}
use lib.ListN.{length, get_or}
use lib.Seq.{take_all}
use Rattle.verdict.specs.Reason.{Entry}
use Rattle.verdict.specs.Witness.{entries_in}
use Rattle.verdict.proofs.Threes.{entries_length, entry_at}
use Rattle.text.specs.Inner.Put.{Puts}
use Rattle.text.specs.ReportLine.{spelled_all}
use Rattle.text.proofs.Puts.{puts_nothing, member_fits, member_put}
use Rattle.text.proofs.report_line.put_entries.Goals as goal

-- the member at place i
abbrev one : List ℕ → ℕ → Entry
one list i = record { transaction = get_or list (3 * i) 0; kind = get_or list (3 * i + 1) 0; object = get_or list (3 * i + 2) 0 }

inside : (n : ℕ) (list : List ℕ) {i : ℕ} → i < n → i < length (entries_in n list)
inside n list h = omega (arith, entries_length n list)

pub loop-i-init : goal.loop-i-init
unfolding spelled_all
loop-i-init c = let b = c.args in (refl, puts_nothing b.out.now b.at)

pub put_member-place-requires : goal.put_member-place-requires
put_member-place-requires c =
    let a = c.args in
    let i = c.loop-i.i in
    member_fits (entries_in a.n a.list.now) a.out.now a.at c.requires.1 i (inside a.n a.list.now c.loop-i-test.true) (one a.list.now i)
    (entry_at a.n a.list.now i (omega arith) (one a.list.now i)) c.loop-i.invariant.1

pub loop-i-preserved : goal.loop-i-preserved
loop-i-preserved c =
    let a = c.args in
    let i = c.loop-i.i in
    let p = c.put_member-place in (
      p.auto.out ∙ c.loop-i.invariant.0,
      member_put (entries_in a.n a.list.now) a.out.now a.at c.requires.1 i (inside a.n a.list.now c.loop-i-test.true) (one a.list.now i)
          (entry_at a.n a.list.now i (omega arith) (one a.list.now i)) c.loop-i.invariant.1 p.ensures,
    )

pub shape_of-out : goal.shape_of-out
shape_of-out c = c.loop-i.invariant.0

pub returns : goal.returns
returns c =
    let a = c.args in
    subst (λ (w : List Entry). Puts (spelled_all w) a.at a.out.now c.loop-i.place c.loop-i.out)
    (take_all c.loop-i.i (entries_in a.n a.list.now) (omega (arith, entries_length a.n a.list.now))) c.loop-i.invariant.1
