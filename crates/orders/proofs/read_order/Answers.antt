-- `read_order` meets its contract. At each turn the first i members are read.
use mathlib.Core.Path.{◌≡◌, refl, sym, ap, ◌∙◌}
use mathlib.Core.List.{List}
use Prim.Native.Nat.{ℕ, ◌*◌}
use native.Mathlib.Omega.{arith}
use lib.ListN.{get_or, set, take, length-set}
use lib.Seq.{take_all}
use Rattle.words.specs.Lists.{zeros, entries}
use Rattle.verdict.specs.Limits.{order_entries}
use Rattle.verdict.specs.Witness.{read_off, handed}
use Rattle.verdict.proofs.Threes.{number_more, order_length, order_at}
use Rattle.orders.proofs.read_order.Goals as goal

pub loop-i-init : goal.loop-i-init
unfolding entries zeros
loop-i-init c = (refl, refl)

pub loop-i-preserved : goal.loop-i-preserved
loop-i-preserved c =
    let inv = c.loop-i.invariant in
    let i : ℕ = c.loop-i.i in
    let n : ℕ = c.args.n in
    let witness : List ℕ = c.args.witness.now in
    let v : ℕ = get_or witness (3 * i) 0 in
    let e : v ≡ get_or (read_off n witness) i 0 = sym (order_at n witness i (omega arith)) in (
      length-set c.loop-i.order i v ∙ inv.0,
      ap (λ (l : List ℕ). set l i v) inv.1 ∙ ap (set (entries order_entries (take i (read_off n witness))) i) e
          ∙ number_more order_entries i (read_off n witness) (omega (arith, order_length n witness)) (omega (arith, order_length n witness, c.requires)),
    )

pub returns : goal.returns
unfolding handed
returns c =
    let n : ℕ = c.args.n in
    let witness : List ℕ = c.args.witness.now in
    c.loop-i.invariant.1 ∙ ap (entries order_entries) (take_all c.loop-i.i (read_off n witness) (omega (arith, order_length n witness)))
