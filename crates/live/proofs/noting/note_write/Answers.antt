-- `note_write` meets its contract.
use mathlib.Core.Path.{ap, ◌∙◌}
use Prim.Native.Nat.{ℕ}
use lib.ListN.{set}
use Rattle.words.proofs.Truth.{→below, provided_true}
use Rattle.bits.specs.Word.{more}
use Rattle.live.proofs.noting.note_write.Goals as goal

pub returns : goal.returns
returns c =
    ap (set c.args.marks.now _) (c.with_mark.ensures ∙ provided_true _ _ (→below c.requires.3) ∙ ap (λ (z : ℕ). more z c.args.x) c.writes-before.ensures)
