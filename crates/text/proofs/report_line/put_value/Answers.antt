-- `put_value` meets its contract: each case has its words.
use mathlib.Core.Path.{◌≡◌, subst}
use mathlib.Core.List.{List}
use Prim.Native.Nat.{ℕ, ◌*◌, ◌≤◌}
use lib.ListN.{length}
use Rattle.verdict.specs.declared.answers.Answer.{Answer}
use Rattle.text.specs.Bytes.{bytes}
use Rattle.text.specs.Inner.Put.{Fits, Puts}
use Rattle.text.specs.Inner.Told.{told, told_entries}
use Rattle.text.proofs.Puts.{known_fits, known_puts}
use Rattle.text.proofs.report_line.put_value.Lts
use Rattle.text.proofs.report_line.put_value.Tie as tie
use Rattle.text.proofs.report_line.put_value.Reads
use Rattle.text.proofs.report_line.put_value.Goals as goal

-- places on the way, by the names that the toolchain gives them
abbrev Start : Type 0
Start = Lts.Start tie.the-claims Reads.Pre Reads.Post

-- where the answer is known: it has room, its members are there, and what is put is what it tells
module _ (s : Start) {a : Answer} (known : s.args.answer ≡ a) where
  abbrev list : List ℕ
  list = s.args.list.now

  fits : Fits (told a list) s.args.at s.args.out.now
  fits = known_fits (λ (x : Answer). told x list) known s.args.out.now s.args.at s.requires.1

  there : 3 * told_entries a ≤ length list
  there = subst (λ (x : Answer). 3 * told_entries x ≤ length list) known s.requires.0

  puts : {next : ℕ} {out' : List ℕ} → Puts (told a list) s.args.at s.args.out.now next out' → Puts (told s.args.answer list) s.args.at s.args.out.now next out'
  puts = known_puts (λ (x : Answer). told x list) known s.args.out.now s.args.at

pub put_members-requires : goal.put_members-requires
unfolding told told_entries bytes
put_members-requires c = (there c.before.before.before.before.before.before.before c.in-Order.is, fits c.before.before.before.before.before.before.before c.in-Order.is)

pub put_members-requires-in-Cycle : goal.put_members-requires-in-Cycle
unfolding told told_entries bytes
put_members-requires-in-Cycle c = (there c.before.before.before.before.before.before.before c.in-Cycle.is, fits c.before.before.before.before.before.before.before c.in-Cycle.is)

pub put_word-requires : goal.put_word-requires
unfolding told bytes
put_word-requires c = fits c.before.before.before.before.before.before.before c.in-None.is

pub put_unclean-requires : goal.put_unclean-requires
unfolding told
put_unclean-requires c = fits c.before.before.before.before.before c.in-Unclean.is

pub returns-in-Order : goal.returns-in-Order
unfolding told bytes
returns-in-Order c =
    puts c.before.before.before.before.before.before.before.before.before.before c.in-Order.is c.put_members.ensures

pub returns-in-Cycle : goal.returns-in-Cycle
unfolding told bytes
returns-in-Cycle c =
    puts c.before.before.before.before.before.before.before.before.before.before c.in-Cycle.is c.put_members-in-Cycle.ensures

pub returns-in-None : goal.returns-in-None
unfolding told bytes
returns-in-None c =
    puts c.before.before.before.before.before.before.before.before.before.before c.in-None.is c.put_word.ensures

pub returns-in-Unclean : goal.returns-in-Unclean
unfolding told
returns-in-Unclean c =
    puts c.before.before.before.before.before.before.before.before c.in-Unclean.is c.put_unclean.ensures
