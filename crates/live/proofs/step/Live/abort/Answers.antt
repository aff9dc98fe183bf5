-- `abort` meets its contract.
use mathlib.Core.Path.{ap, ◌∙◌}
use Prim.Native.Nat.{◌-◌}
use native.Mathlib.Omega.{arith}
use lib.ListN.{length, length-set}
use Rattle.live.proofs.HeldFreed.{freed_size}
use Rattle.live.proofs.TookAbort.{abort_taken}
use Rattle.live.proofs.step.Live.abort.Goals as goal

pub give_back-requires : goal.give_back-requires
give_back-requires c =
    let p = c.requires in
    (length-set c.args.opened.now (c.args.p - 1) 0 ∙ p.0, ap length c.free_row.ensures ∙ freed_size _ _ p.1 (omega (arith, p.3, p.4.1)), p.2, p.3)

pub returns : goal.returns
returns c =
    let p = c.requires in
    rw c.told.ensures (λ marks k t x s m low here e f. abort_taken (record { opened = p.0; rows = p.1; marks = m; edges = p.2 }) p.3 p.4 low here e f c.free_row.ensures (c.give_back.ensures marks))
