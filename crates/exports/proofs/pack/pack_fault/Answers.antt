-- `pack_fault` meets its contract: each case has its number.
use Rattle.exports.specs.Packed.{fault_numbers}
use Rattle.exports.proofs.Values.{known_small, known_packed}
use Rattle.exports.proofs.pack.pack_fault.Goals as goal

pub pack-requires : goal.pack-requires
unfolding fault_numbers
pack-requires c = known_small fault_numbers c.in-Own.is c.requires

pub pack-requires-in-Aborted : goal.pack-requires-in-Aborted
unfolding fault_numbers
pack-requires-in-Aborted c = known_small fault_numbers c.in-Aborted.is c.requires

pub pack-requires-in-Unfinal : goal.pack-requires-in-Unfinal
unfolding fault_numbers
pack-requires-in-Unfinal c = known_small fault_numbers c.in-Unfinal.is c.requires

pub returns-in-Own : goal.returns-in-Own
unfolding fault_numbers
returns-in-Own c = known_packed fault_numbers c.in-Own.is c.pack.ensures

pub returns-in-Aborted : goal.returns-in-Aborted
unfolding fault_numbers
returns-in-Aborted c = known_packed fault_numbers c.in-Aborted.is c.pack-in-Aborted.ensures

pub returns-in-Unfinal : goal.returns-in-Unfinal
unfolding fault_numbers
returns-in-Unfinal c = known_packed fault_numbers c.in-Unfinal.is c.pack-in-Unfinal.ensures
