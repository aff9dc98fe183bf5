-- The text is within its buffer.
use borrow.Author.Rules.{rules}
use mathlib.Core.Path.{sym}
use lib.Seq.{length-take-le}
use Rattle.text.proofs.RoundTrip.{text_within_buffer}
use Rattle.keep.proofs.print_text.Goals as goal

pub slice_bounds-out-end : goal.slice_bounds-out-end
slice_bounds-out-end g c = text_within_buffer c.args.log.now c.in-Ok.is (search rules) c.write.ensures

pub slice_bounds-write_all-end : goal.slice_bounds-write_all-end
slice_bounds-write_all-end g c =
    sym (length-take-le _ _ (text_within_buffer c.args.log.now c.in-Ok.is (search rules) c.write.ensures))
