-- `put_digits` meets its contract: it puts all digits but the last by calling itself.
use native.Mathlib.Omega.{arith}
use Rattle.text.proofs.Puts.{digit_fits, digit_put, first_digits_fit, last_fits, last_put}
use Rattle.text.proofs.decimal.+put_digits.Goals as goal

pub put_digit-requires : goal.put_digit-requires
put_digit-requires t c =
    let few = c.if-n-lt10.true in
    (few, digit_fits c.args.n few c.args.out.now c.args.at c.requires)

pub returns-then-n-lt10 : goal.returns-then-n-lt10
returns-then-n-lt10 t c = digit_put c.args.n c.if-n-lt10.true c.args.out.now c.args.at c.put_digit.ensures

pub put_digits-last-requires : goal.put_digits-last-requires
put_digits-last-requires t c =
    let more = c.if-n-lt10.false in
    (omega (arith, more), first_digits_fit c.args.n more c.args.out.now c.args.at c.requires)

pub put_digit-requires-2 : goal.put_digit-requires-2
put_digit-requires-2 t c =
    (omega arith, last_fits c.args.n c.if-n-lt10.false c.args.out.now c.args.at c.requires c.put_digits-last.ensures)

pub returns : goal.returns
returns t c = last_put c.args.n c.if-n-lt10.false c.args.out.now c.args.at c.requires c.put_digits-last.ensures c.put_digit-2.ensures
