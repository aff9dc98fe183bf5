-- `pack_clean` meets its contract: each case has its number.
use Rattle.std.specs.Prelude.{Ok}
use Rattle.std.proofs.Common.{ap, ◌∙◌}
use Rattle.exports.specs.Packed.{clean_numbers}
use Rattle.exports.proofs.Values.{known_small, known_packed}
use Rattle.exports.proofs.pack.pack_clean.Goals as goal

pub pack_refused-requires : goal.pack_refused-requires
unfolding clean_numbers
pack_refused-requires c = known_small clean_numbers c.in-Err.is c.requires

pub pack-requires : goal.pack-requires
unfolding clean_numbers
pack-requires c = known_small clean_numbers (c.in-Ok.is ∙ ap Ok c.in-Yes.is) c.requires

pub pack_fault-requires : goal.pack_fault-requires
unfolding clean_numbers
pack_fault-requires c = known_small clean_numbers (c.in-Ok.is ∙ ap Ok c.in-Unclean.is) c.requires

pub returns-in-Err : goal.returns-in-Err
unfolding clean_numbers
returns-in-Err c = known_packed clean_numbers c.in-Err.is c.pack_refused.ensures

pub returns-in-Yes : goal.returns-in-Yes
unfolding clean_numbers
returns-in-Yes c = known_packed clean_numbers (c.in-Ok.is ∙ ap Ok c.in-Yes.is) c.pack.ensures

pub returns-in-Unclean : goal.returns-in-Unclean
unfolding clean_numbers
returns-in-Unclean c = known_packed clean_numbers (c.in-Ok.is ∙ ap Ok c.in-Unclean.is) c.pack_fault.ensures
