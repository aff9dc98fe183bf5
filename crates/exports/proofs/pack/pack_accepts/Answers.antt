-- `pack_accepts` meets its contract: each case has its number.
use Rattle.std.specs.Prelude.{Ok}
use Rattle.std.proofs.Common.{ap, ◌∙◌}
use Rattle.exports.specs.Packed.{accepts_numbers}
use Rattle.exports.proofs.Values.{known_small, known_packed}
use Rattle.exports.proofs.pack.pack_accepts.Goals as goal

pub pack_refused-requires : goal.pack_refused-requires
unfolding accepts_numbers
pack_refused-requires c = known_small accepts_numbers c.in-Err.is c.requires

pub pack-requires : goal.pack-requires
unfolding accepts_numbers
pack-requires c = known_small accepts_numbers (c.in-Ok.is ∙ ap Ok c.in-Yes.is) c.requires

pub pack-requires-in-No : goal.pack-requires-in-No
unfolding accepts_numbers
pack-requires-in-No c = known_small accepts_numbers (c.in-Ok.is ∙ ap Ok c.in-No.is) c.requires

pub returns-in-Err : goal.returns-in-Err
unfolding accepts_numbers
returns-in-Err c = known_packed accepts_numbers c.in-Err.is c.pack_refused.ensures

pub returns-in-Yes : goal.returns-in-Yes
unfolding accepts_numbers
returns-in-Yes c = known_packed accepts_numbers (c.in-Ok.is ∙ ap Ok c.in-Yes.is) c.pack.ensures

pub returns-in-No : goal.returns-in-No
unfolding accepts_numbers
returns-in-No c = known_packed accepts_numbers (c.in-Ok.is ∙ ap Ok c.in-No.is) c.pack-in-No.ensures
