-- `number_at` meets its contract. At each turn the text from `at` on is the number so far in decimal, and then the text from `i` on.
use native.Mathlib.Omega.{arith}
use mathlib.Core.Path.{◌≡◌, sym, ◌∙◌}
use mathlib.Core.Bool.{Bool}
use Prim.Native.Nat.{ℕ}
use lib.ListN.{get_or}
use Rattle.text.specs.Inner.Finds.{is_digit}
use Rattle.text.proofs.Spelling.{ascii_digit}
use Rattle.std.specs.Char.{is_ascii_digit}
use Rattle.text.proofs.Fronts.{→sayable, nothing_there, no_first_digit, first_digit, read_to, read_all, ends_early, other_byte, leading_zero, too_large, goes_on, ends_at}
use Rattle.text.proofs.number.number_at.Goals as goal

-- what the library's test says of a byte
told : (b : ℕ) {r x : Bool} → r ≡ is_ascii_digit b → r ≡ x → is_digit b ≡ x
told b e f = sym (ascii_digit b) ∙ sym e ∙ f

pub returns-then-text-at : goal.returns-then-text-at
returns-then-text-at c = nothing_there _ _ _ c.if-text-at.true

pub returns-then-not-is_ascii_digit : goal.returns-then-not-is_ascii_digit
returns-then-not-is_ascii_digit c = no_first_digit _ _ _ c.if-text-at.false (told (get_or c.args.text.now c.args.at 0) c.is_ascii_digit.ensures.value c.if-not-is_ascii_digit.true)

pub loop-i-init : goal.loop-i-init
loop-i-init c = (omega arith, first_digit _ _ c.if-text-at.false (told (get_or c.args.text.now c.args.at 0) c.is_ascii_digit.ensures.value c.if-not-is_ascii_digit.false))

pub returns-then-b-behind : goal.returns-then-b-behind
returns-then-b-behind c = (→sayable _ c.loop-i.invariant.0, omega arith, ends_at _ _ _ (read_to _ _ _ _ c.loop-i-test.true c.loop-i.invariant.1) _ c.if-b-behind.true)

pub returns-then-not-is_ascii_digit-2 : goal.returns-then-not-is_ascii_digit-2
returns-then-not-is_ascii_digit-2 c =
    other_byte _ c.requires _ _ _ _ (read_to _ _ _ _ c.loop-i-test.true c.loop-i.invariant.1) c.if-b-behind.false (told (get_or c.args.text.now c.loop-i.i 0) c.is_ascii_digit-in-loop-i.ensures.value c.if-not-is_ascii_digit-2.true)

pub returns-then-value-eq0 : goal.returns-then-value-eq0
returns-then-value-eq0 c =
    leading_zero _ c.requires _ _ _ _ (read_to _ _ _ _ c.loop-i-test.true c.loop-i.invariant.1) c.if-value-eq0.true (told (get_or c.args.text.now c.loop-i.i 0) c.is_ascii_digit-in-loop-i.ensures.value c.if-not-is_ascii_digit-2.false)

pub returns-then-value-gt65535 : goal.returns-then-value-gt65535
returns-then-value-gt65535 c =
    too_large _ c.requires _ _ _ _ (read_to _ _ _ _ c.loop-i-test.true c.loop-i.invariant.1) (told (get_or c.args.text.now c.loop-i.i 0) c.is_ascii_digit-in-loop-i.ensures.value c.if-not-is_ascii_digit-2.false) c.if-value-gt65535.true

pub loop-i-preserved : goal.loop-i-preserved
loop-i-preserved c = (c.if-value-gt65535.false, goes_on _ _ _ (read_to _ _ _ _ c.loop-i-test.true c.loop-i.invariant.1) (omega arith) (told (get_or c.args.text.now c.loop-i.i 0) c.is_ascii_digit-in-loop-i.ensures.value c.if-not-is_ascii_digit-2.false))

pub returns : goal.returns
returns c = ends_early _ c.requires _ _ (read_all _ _ _ _ c.loop-i-test.false c.loop-i.invariant.1)
