-- `put_low` meets its contract. At each turn the lowest i bytes are put, and `rest` is what is left of the number.
use native.Mathlib.Omega.{arith}
use mathlib.Core.Path.{◌≡◌, refl, ap, ◌∙◌}
use Prim.Native.Nat.{ℕ, ◌+◌, ◌/◌, ◌%◌}
use lib.ListN.{set, length-set}
use Rattle.text.specs.Inner.Put.{put_at}
use Rattle.text.specs.Inner.Ready.{low_bytes}
use Rattle.text.proofs.Readies.{rest_first, rest_next, low_none, low_put}
use Rattle.text.proofs.ready.put_low.Goals as goal

pub loop-i-init : goal.loop-i-init
loop-i-init c = let a = c.args in (refl, rest_first a.w, low_none a.out.now a.at a.w)

pub loop-i-preserved : goal.loop-i-preserved
loop-i-preserved c =
    let l = c.loop-i in
    let a = c.args in (simp length-set l.invariant.0, ap (λ (r : ℕ). r / 256) l.invariant.1 ∙ rest_next l.i a.w, ap (λ (r : ℕ). set l.out (a.at + l.i) (r % 256)) l.invariant.1 ∙ low_put a.out.now a.at a.w l.out l.i (omega arith) l.invariant.2)

pub shape_of-out : goal.shape_of-out
shape_of-out c = c.loop-i.invariant.0

pub returns : goal.returns
returns c =
    let l = c.loop-i in
    let a = c.args in
    let e : l.i ≡ a.most = omega arith in
    l.invariant.2 ∙ ap (λ (n : ℕ). put_at a.at (low_bytes n a.w) a.out.now) e
