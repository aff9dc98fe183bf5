-- `note_source` meets its contract.
use mathlib.Core.Path.{sym}
use Rattle.words.proofs.Truth.{→is, →isnt, provided_true, provided_false}
use Rattle.live.specs.Inner.Noting.{noted_status}
use Rattle.live.proofs.noting.note_source.Goals as goal

pub returns-then-s-wanted : goal.returns-then-s-wanted
unfolding noted_status
returns-then-s-wanted c = sym (provided_true _ _ (→is c.if-s-wanted.true))

pub returns : goal.returns
unfolding noted_status
returns c = sym (provided_false _ _ (→isnt c.if-s-wanted.false))
