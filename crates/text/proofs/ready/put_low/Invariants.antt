-- What the loop of `put_low` keeps.
use mathlib.Core.Path.{◌≡◌}
use lib.ListN.{length}
use Rattle.text.specs.Inner.Put.{put_at}
use Rattle.text.specs.Inner.Ready.{low_bytes}
use Rattle.text.proofs.Readies.{rest_of}
use Rattle.text.proofs.ready.put_low.Given as goal

abbrev pub invariant-loop-i : goal.invariant-loop-i
invariant-loop-i l =
    (length l.out ≡ length l.initial.out) × (l.rest ≡ rest_of l.i l.w) × (l.out ≡ put_at l.at (low_bytes l.i l.w) l.initial.out)
