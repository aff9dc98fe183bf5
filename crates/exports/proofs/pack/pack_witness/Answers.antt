-- `pack_witness` meets its contract: each case has its number.
use Rattle.std.specs.Prelude.{Ok}
use Rattle.std.proofs.Common.{ap, ◌∙◌}
use Rattle.exports.specs.Packed.{witness_numbers}
use Rattle.exports.proofs.Values.{known_small, known_packed}
use Rattle.exports.proofs.pack.pack_witness.Goals as goal

pub pack_refused-requires : goal.pack_refused-requires
unfolding witness_numbers
pack_refused-requires c = known_small witness_numbers c.in-Err.is c.requires

pub pack-requires : goal.pack-requires
unfolding witness_numbers
pack-requires c = known_small witness_numbers (c.in-Ok.is ∙ ap Ok c.in-Order.is) c.requires

pub pack-requires-in-Cycle : goal.pack-requires-in-Cycle
unfolding witness_numbers
pack-requires-in-Cycle c = known_small witness_numbers (c.in-Ok.is ∙ ap Ok c.in-Cycle.is) c.requires

pub pack-requires-in-None : goal.pack-requires-in-None
unfolding witness_numbers
pack-requires-in-None c = known_small witness_numbers (c.in-Ok.is ∙ ap Ok c.in-None.is) c.requires

pub pack_fault-requires : goal.pack_fault-requires
unfolding witness_numbers
pack_fault-requires c = known_small witness_numbers (c.in-Ok.is ∙ ap Ok c.in-Unclean.is) c.requires

pub returns-in-Err : goal.returns-in-Err
unfolding witness_numbers
returns-in-Err c = known_packed witness_numbers c.in-Err.is c.pack_refused.ensures

pub returns-in-Order : goal.returns-in-Order
unfolding witness_numbers
returns-in-Order c = known_packed witness_numbers (c.in-Ok.is ∙ ap Ok c.in-Order.is) c.pack.ensures

pub returns-in-Cycle : goal.returns-in-Cycle
unfolding witness_numbers
returns-in-Cycle c = known_packed witness_numbers (c.in-Ok.is ∙ ap Ok c.in-Cycle.is) c.pack-in-Cycle.ensures

pub returns-in-None : goal.returns-in-None
unfolding witness_numbers
returns-in-None c = known_packed witness_numbers (c.in-Ok.is ∙ ap Ok c.in-None.is) c.pack-in-None.ensures

pub returns-in-Unclean : goal.returns-in-Unclean
unfolding witness_numbers
returns-in-Unclean c = known_packed witness_numbers (c.in-Ok.is ∙ ap Ok c.in-Unclean.is) c.pack_fault.ensures
