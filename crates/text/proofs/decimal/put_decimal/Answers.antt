-- `put_decimal` meets its contract: one digit, two, or more.
use native.Mathlib.Omega.{arith}
use Prim.Native.Nat.{◌<◌, ◌/◌}
use Rattle.text.specs.Decimal.{decimal}
use Rattle.text.specs.Inner.Put.{Puts}
use Rattle.text.proofs.Puts.{digit_fits, digit_put, first_digits_fit, last_fits, last_put}
use Rattle.text.proofs.decimal.put_decimal.Lts
use Rattle.text.proofs.decimal.put_decimal.Tie as tie
use Rattle.text.proofs.decimal.put_decimal.Reads
use Rattle.text.proofs.decimal.put_decimal.Goals as goal

-- places on the way, by the names that the toolchain gives them
abbrev After-put_digit-last : Type 0
After-put_digit-last = Lts.After-put_digit2 tie.the-claims Reads.Pre Reads.Post

abbrev Then-n-lt100 : Type 0
Then-n-lt100 = Lts.Then2 tie.the-claims Reads.Pre Reads.Post

-- the first digit of two
below_ten : (c : Then-n-lt100) → c.args.n / 10 < 10
below_ten c = omega (arith, c.if-n-lt100.true)

first_put : (c : After-put_digit-last) → Puts (decimal (c.args.n / 10)) c.args.at c.args.out.now c.put_digit-last.result c.put_digit-last.new.out
first_put c =
    digit_put (c.args.n / 10) (below_ten c.before.before) c.args.out.now c.args.at c.put_digit-last.ensures

pub put_digit-requires : goal.put_digit-requires
put_digit-requires c =
    (c.if-n-lt10.true, digit_fits c.args.n c.if-n-lt10.true c.args.out.now c.args.at c.requires)

pub returns-then-n-lt10 : goal.returns-then-n-lt10
returns-then-n-lt10 c =
    digit_put c.args.n c.if-n-lt10.true c.args.out.now c.args.at c.put_digit.ensures

pub put_digit-last-requires : goal.put_digit-last-requires
put_digit-last-requires c =
    (below_ten c.before, digit_fits (c.args.n / 10) (below_ten c.before) c.args.out.now c.args.at (first_digits_fit c.args.n c.if-n-lt10.false c.args.out.now c.args.at c.requires))

pub put_digit-requires-then-n-lt100 : goal.put_digit-requires-then-n-lt100
put_digit-requires-then-n-lt100 c =
    (omega arith, last_fits c.args.n c.if-n-lt10.false c.args.out.now c.args.at c.requires (first_put c.before.before.before))

pub returns-then-n-lt100 : goal.returns-then-n-lt100
returns-then-n-lt100 c =
    last_put c.args.n c.if-n-lt10.false c.args.out.now c.args.at c.requires (first_put c.before.before.before.before.before.before.before) c.put_digit-then-n-lt100.ensures

pub put_long-requires : goal.put_long-requires
put_long-requires c = (c.if-n-lt100.false, c.requires)
