-- `put_first` meets its contract: four lines, one after another.
use native.Mathlib.Omega.{arith}
use mathlib.Core.Path.{sym}
use mathlib.Core.List.{List}
use Prim.Native.Nat.{ℕ}
use Rattle.verdict.specs.Limits.{transactions}
use Rattle.verdict.specs.Log.{steps, committed_count}
use Rattle.verdict.specs.Clean.{cleanness}
use Rattle.verdict.specs.Snapshot.{snapshot_verdict}
use Rattle.text.specs.Bytes.{bytes}
use Rattle.text.specs.Line.{header}
use Rattle.text.specs.ReportLine.{committed_line, clean_line, snapshot_line}
use Rattle.text.specs.Report.{first_lines}
use Rattle.text.specs.Inner.Put.{Fits, Puts}
use Rattle.text.proofs.Puts.{fits_first, fits_second, fits_third, fits_fourth, four_put, known_fits, known_puts}
use Rattle.text.proofs.Room.{first_fit}
use Rattle.text.proofs.reports.put_first.Lts
use Rattle.text.proofs.reports.put_first.Tie as tie
use Rattle.text.proofs.reports.put_first.Reads
use Rattle.text.proofs.reports.put_first.Goals as goal

-- places on the way, by the names that the toolchain gives them
abbrev After-put_clean-c : Type 0
After-put_clean-c = Lts.After-put_clean tie.the-claims Reads.Pre Reads.Post

abbrev After-put_item-a : Type 0
After-put_item-a = Lts.After-put_item tie.the-claims Reads.Pre Reads.Post

abbrev After-put_item-b : Type 0
After-put_item-b = Lts.After-put_item2 tie.the-claims Reads.Pre Reads.Post

abbrev Start : Type 0
Start = Lts.Start tie.the-claims Reads.Pre Reads.Post

-- the four lines
module _ (s : Start) where
  abbrev log : List ℕ
  log = s.args.log.now

  abbrev line₁ : List ℕ
  line₁ = header (steps log)

  abbrev line₂ : List ℕ
  line₂ = committed_line (committed_count log)

  abbrev line₃ : List ℕ
  line₃ = clean_line (cleanness log)

  abbrev line₄ : List ℕ
  line₄ = snapshot_line (snapshot_verdict transactions log)

  all_fit : Fits (first_lines log) 0 s.args.out.now
  all_fit = omega (arith, first_fit log s.requires.0, s.requires.3)

-- what each call has put
put₁ : (c : After-put_item-a) → Puts (line₁ c.before.before.before.before.before.before) 0 c.args.out.now c.put_item-a.result c.put_item-a.new.out
unfolding header steps bytes
put₁ c = c.put_item-a.ensures

put₂ : (c : After-put_item-b) → Puts (line₂ c.before.before.before.before.before.before.before.before.before.before.before.before.before) c.put_item-a.result c.put_item-a.new.out c.put_item-b.result c.put_item-b.new.out
unfolding committed_line bytes
put₂ c =
    known_puts committed_line (sym c.committed_count.ensures) c.put_item-a.new.out c.put_item-a.result c.put_item-b.ensures

put₃ : (c : After-put_clean-c) → Puts (line₃ c.before.before.before.before.before.before.before.before.before.before.before.before.before.before.before.before.before) c.put_item-b.result c.put_item-b.new.out c.put_clean-c.result c.put_clean-c.new.out
put₃ c =
    known_puts clean_line (sym c.requires.1) c.put_item-b.new.out c.put_item-b.result c.put_clean-c.ensures

pub put_item-a-requires : goal.put_item-a-requires
unfolding first_lines header steps bytes
put_item-a-requires c = fits_first (line₁ c.before.before.before.before.before.before) (line₂ c.before.before.before.before.before.before) (line₃ c.before.before.before.before.before.before) (line₄ c.before.before.before.before.before.before) c.args.out.now 0 (all_fit c.before.before.before.before.before.before)

pub put_item-b-requires : goal.put_item-b-requires
unfolding first_lines committed_line bytes
put_item-b-requires c =
    known_fits committed_line (sym c.committed_count.ensures) c.put_item-a.new.out c.put_item-a.result
    (fits_second (line₁ c.before.before.before.before.before.before.before.before.before.before.before.before.before) (line₂ c.before.before.before.before.before.before.before.before.before.before.before.before.before) (line₃ c.before.before.before.before.before.before.before.before.before.before.before.before.before) (line₄ c.before.before.before.before.before.before.before.before.before.before.before.before.before) c.args.out.now 0 (all_fit c.before.before.before.before.before.before.before.before.before.before.before.before.before) (put₁ c.before.before.before.before.before.before.before))

pub put_clean-c-requires : goal.put_clean-c-requires
unfolding first_lines
put_clean-c-requires c =
    known_fits clean_line (sym c.requires.1) c.put_item-b.new.out c.put_item-b.result
    (fits_third (line₁ c.before.before.before.before.before.before.before.before.before.before.before.before.before.before.before.before.before) (line₂ c.before.before.before.before.before.before.before.before.before.before.before.before.before.before.before.before.before) (line₃ c.before.before.before.before.before.before.before.before.before.before.before.before.before.before.before.before.before) (line₄ c.before.before.before.before.before.before.before.before.before.before.before.before.before.before.before.before.before) c.args.out.now 0 (all_fit c.before.before.before.before.before.before.before.before.before.before.before.before.before.before.before.before.before) (put₁ c.before.before.before.before.before.before.before.before.before.before.before) (put₂ c.before.before.before.before))

pub put_snapshot-requires : goal.put_snapshot-requires
unfolding first_lines
put_snapshot-requires c =
    known_fits snapshot_line (sym c.requires.2) c.put_clean-c.new.out c.put_clean-c.result
    (fits_fourth (line₁ c.before.before.before.before.before.before.before.before.before.before.before.before.before.before.before.before.before.before.before.before.before) (line₂ c.before.before.before.before.before.before.before.before.before.before.before.before.before.before.before.before.before.before.before.before.before) (line₃ c.before.before.before.before.before.before.before.before.before.before.before.before.before.before.before.before.before.before.before.before.before) (line₄ c.before.before.before.before.before.before.before.before.before.before.before.before.before.before.before.before.before.before.before.before.before) c.args.out.now 0 (all_fit c.before.before.before.before.before.before.before.before.before.before.before.before.before.before.before.before.before.before.before.before.before) (put₁ c.before.before.before.before.before.before.before.before.before.before.before.before.before.before.before) (put₂ c.before.before.before.before.before.before.before.before) (put₃ c.before.before.before.before))

pub returns : goal.returns
unfolding first_lines
returns c =
    four_put (line₁ c.before.before.before.before.before.before.before.before.before.before.before.before.before.before.before.before.before.before.before.before.before.before.before.before) (line₂ c.before.before.before.before.before.before.before.before.before.before.before.before.before.before.before.before.before.before.before.before.before.before.before.before) (line₃ c.before.before.before.before.before.before.before.before.before.before.before.before.before.before.before.before.before.before.before.before.before.before.before.before) (line₄ c.before.before.before.before.before.before.before.before.before.before.before.before.before.before.before.before.before.before.before.before.before.before.before.before) c.args.out.now 0 (all_fit c.before.before.before.before.before.before.before.before.before.before.before.before.before.before.before.before.before.before.before.before.before.before.before.before) (put₁ c.before.before.before.before.before.before.before.before.before.before.before.before.before.before.before.before.before.before) (put₂ c.before.before.before.before.before.before.before.before.before.before.before) (put₃ c.before.before.before.before.before.before.before)
    (known_puts snapshot_line (sym c.requires.2) c.put_clean-c.new.out c.put_clean-c.result c.put_snapshot.ensures)
