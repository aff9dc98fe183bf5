-- `put_number` meets its contract: a word and then a number.
use Rattle.text.specs.Decimal.{decimal}
use Rattle.text.proofs.Puts.{first_fits, then_fits, both_put}
use Rattle.text.proofs.put.put_number.Goals as goal

pub put_word-a-requires : goal.put_word-a-requires
put_word-a-requires c =
    first_fits c.args.word.now (decimal c.args.n) c.args.out.now c.args.at c.requires

pub put_decimal-requires : goal.put_decimal-requires
put_decimal-requires c =
    then_fits c.args.word.now (decimal c.args.n) c.args.out.now c.args.at c.requires c.put_word-a.ensures

pub returns : goal.returns
returns c =
    both_put c.args.word.now (decimal c.args.n) c.args.out.now c.args.at c.requires c.put_word-a.ensures c.put_decimal.ensures
