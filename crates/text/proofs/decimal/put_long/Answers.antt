-- `put_long` meets its contract: three digits, or one after another.
use native.Mathlib.Omega.{arith}
use Prim.Native.Nat.{◌≤◌, ◌<◌, ◌/◌}
use Rattle.text.specs.Decimal.{decimal}
use Rattle.text.specs.Inner.Put.{Fits, Puts}
use Rattle.text.proofs.Puts.{digit_fits, digit_put, first_digits_fit, last_fits, last_put}
use Rattle.text.proofs.decimal.put_long.Lts
use Rattle.text.proofs.decimal.put_long.Tie as tie
use Rattle.text.proofs.decimal.put_long.Reads
use Rattle.text.proofs.decimal.put_long.Goals as goal

-- places on the way, by the names that the toolchain gives them
abbrev After-put_digit-a : Type 0
After-put_digit-a = Lts.After-put_digit tie.the-claims Reads.Pre Reads.Post

abbrev After-put_digit-b : Type 0
After-put_digit-b = Lts.After-put_digit2 tie.the-claims Reads.Pre Reads.Post

abbrev Then-n-lt1000 : Type 0
Then-n-lt1000 = Lts.Then1 tie.the-claims Reads.Pre Reads.Post

below_ten : (c : Then-n-lt1000) → c.args.n / 10 / 10 < 10
below_ten c = omega (arith, c.if-n-lt1000.true)

two : (c : Then-n-lt1000) → 10 ≤ c.args.n / 10
two c = omega (arith, c.requires.0)

three : (c : Then-n-lt1000) → 10 ≤ c.args.n
three c = omega (arith, c.requires.0)

-- the first two of them fit
two_fit : (c : Then-n-lt1000) → Fits (decimal (c.args.n / 10)) c.args.at c.args.out.now
two_fit c = first_digits_fit c.args.n (three c) c.args.out.now c.args.at c.requires.1

-- the first is put, and then the second
first_put : (c : After-put_digit-a) → Puts (decimal (c.args.n / 10 / 10)) c.args.at c.args.out.now c.put_digit-a.result c.put_digit-a.new.out
first_put c =
    digit_put (c.args.n / 10 / 10) (below_ten c.before.before) c.args.out.now c.args.at c.put_digit-a.ensures

two_put : (c : After-put_digit-b) → Puts (decimal (c.args.n / 10)) c.args.at c.args.out.now c.put_digit-b.result c.put_digit-b.new.out
two_put c =
    last_put (c.args.n / 10) (two c.before.before.before.before.before.before) c.args.out.now c.args.at (two_fit c.before.before.before.before.before.before) (first_put c.before.before.before.before) c.put_digit-b.ensures

pub put_digit-a-requires : goal.put_digit-a-requires
put_digit-a-requires c =
    (below_ten c.before, digit_fits (c.args.n / 10 / 10) (below_ten c.before) c.args.out.now c.args.at (first_digits_fit (c.args.n / 10) (two c.before) c.args.out.now c.args.at (two_fit c.before)))

pub put_digit-b-requires : goal.put_digit-b-requires
put_digit-b-requires c =
    (omega arith, last_fits (c.args.n / 10) (two c.before.before.before.before.before) c.args.out.now c.args.at (two_fit c.before.before.before.before.before) (first_put c.before.before.before))

pub put_digit-requires : goal.put_digit-requires
put_digit-requires c =
    (omega arith, last_fits c.args.n (three c.before.before.before.before.before.before.before.before.before) c.args.out.now c.args.at c.requires.1 (two_put c.before.before.before))

pub returns-then-n-lt1000 : goal.returns-then-n-lt1000
returns-then-n-lt1000 c =
    last_put c.args.n (three c.before.before.before.before.before.before.before.before.before.before.before.before.before) c.args.out.now c.args.at c.requires.1 (two_put c.before.before.before.before.before.before.before) c.put_digit.ensures
