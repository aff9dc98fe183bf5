-- `note_read` meets its contract.
use Rattle.live.proofs.Notes.{noted_after, noted_before}
use Rattle.live.proofs.noting.note_read.Goals as goal

pub returns-then-has_mark : goal.returns-then-has_mark
returns-then-has_mark c =
    noted_after _ _ _ _ _ _ c.writes.ensures c.has_mark.ensures c.if-has_mark.true c.note_source.ensures

pub returns : goal.returns
returns c =
    noted_before _ _ _ _ _ _ c.writes.ensures c.has_mark.ensures c.if-has_mark.false c.reads-before.ensures c.requires.4 c.with_mark.ensures c.seen-wanted.ensures c.note_source-2.ensures
