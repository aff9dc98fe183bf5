-- `put_reason` meets its contract: each kind has its words.
use mathlib.Core.Path.{◌≡◌}
use mathlib.Core.List.{List}
use Prim.Native.Nat.{ℕ}
use Rattle.text.specs.Bytes.{bytes}
use Rattle.text.specs.ReportLine.{reason}
use Rattle.text.specs.Inner.Put.{Fits, Puts}
use Rattle.text.proofs.ReasonWords.{reason_ww, reason_wr, reason_rw, reason_none}
use Rattle.text.proofs.Puts.{known_fits, known_puts, puts_nothing}
use Rattle.text.proofs.report_line.put_reason.Lts
use Rattle.text.proofs.report_line.put_reason.Tie as tie
use Rattle.text.proofs.report_line.put_reason.Reads
use Rattle.text.proofs.report_line.put_reason.Goals as goal

-- places on the way, by the names that the toolchain gives them
abbrev Start : Type 0
Start = Lts.Start tie.the-claims Reads.Pre Reads.Post

-- where the words are known: they have room, and what is put is the reason
module _ (s : Start) {w : List ℕ} (words : reason s.args.kind s.args.x ≡ w) where
  fits : Fits w s.args.at s.args.out.now
  fits = known_fits (λ (u : List ℕ). u) words s.args.out.now s.args.at s.requires

  puts : {next : ℕ} {out' : List ℕ} → Puts w s.args.at s.args.out.now next out' → Puts (reason s.args.kind s.args.x) s.args.at s.args.out.now next out'
  puts = known_puts (λ (u : List ℕ). u) words s.args.out.now s.args.at

pub put_number-requires : goal.put_number-requires
unfolding bytes
put_number-requires c = fits c.before.before.before.before.before (reason_ww _ _ c.if-kind-eq-WW.true)

pub returns-then-kind-eq-WW : goal.returns-then-kind-eq-WW
unfolding bytes
returns-then-kind-eq-WW c = puts c.before.before.before.before.before.before.before.before.before (reason_ww _ _ c.if-kind-eq-WW.true) c.put_number.ensures

pub put_number-requires-then-kind-eq-WR : goal.put_number-requires-then-kind-eq-WR
unfolding bytes
put_number-requires-then-kind-eq-WR c = fits c.before.before.before.before.before.before (reason_wr _ _ c.if-kind-eq-WR.true)

pub returns-then-kind-eq-WR : goal.returns-then-kind-eq-WR
unfolding bytes
returns-then-kind-eq-WR c = puts c.before.before.before.before.before.before.before.before.before.before (reason_wr _ _ c.if-kind-eq-WR.true) c.put_number-then-kind-eq-WR.ensures

pub put_number-requires-then-kind-eq-RW : goal.put_number-requires-then-kind-eq-RW
unfolding bytes
put_number-requires-then-kind-eq-RW c = fits c.before.before.before.before.before.before.before (reason_rw _ _ c.if-kind-eq-RW.true)

pub returns-then-kind-eq-RW : goal.returns-then-kind-eq-RW
unfolding bytes
returns-then-kind-eq-RW c = puts c.before.before.before.before.before.before.before.before.before.before.before (reason_rw _ _ c.if-kind-eq-RW.true) c.put_number-then-kind-eq-RW.ensures

pub returns : goal.returns
returns c =
    let s : Start = c.before.before.before.before.before in
    puts s (reason_none _ _ c.if-kind-eq-WW.false c.if-kind-eq-WR.false c.if-kind-eq-RW.false) (puts_nothing s.args.out.now s.args.at)
