-- `put_item` meets its contract: a word with its number, and a byte.
use mathlib.Core.List.{List, [], ◌∷◌, ◌++◌}
use Prim.Native.Nat.{ℕ}
use Rattle.text.specs.Decimal.{decimal}
use Rattle.text.specs.Line.{item}
use Rattle.text.proofs.Puts.{first_fits, then_fits, both_put}
use Rattle.text.proofs.put.put_item.Lts
use Rattle.text.proofs.put.put_item.Tie as tie
use Rattle.text.proofs.put.put_item.Reads
use Rattle.text.proofs.put.put_item.Goals as goal

-- places on the way, by the names that the toolchain gives them
abbrev Start : Type 0
Start = Lts.Start tie.the-claims Reads.Pre Reads.Post

abbrev keyed : Start → List ℕ
keyed s = s.args.key.now ++ decimal s.args.n

pub put_number-a-requires : goal.put_number-a-requires
unfolding item
put_number-a-requires c = first_fits (keyed c.before.before.before.before) (c.args.behind ∷ []) c.args.out.now c.args.at c.requires

pub put_byte-requires : goal.put_byte-requires
unfolding item
put_byte-requires c =
    then_fits (keyed c.before.before.before.before.before.before.before.before) (c.args.behind ∷ []) c.args.out.now c.args.at c.requires c.put_number-a.ensures

pub returns : goal.returns
unfolding item
returns c =
    both_put (keyed c.before.before.before.before.before.before.before.before.before.before.before) (c.args.behind ∷ []) c.args.out.now c.args.at c.requires c.put_number-a.ensures c.put_byte.ensures
