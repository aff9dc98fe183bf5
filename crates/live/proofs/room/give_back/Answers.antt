-- `give_back` meets its contract.
use Rattle.live.proofs.ForgetPasses.{gives_back, gives_nothing}
use Rattle.live.proofs.room.give_back.Goals as goal

pub returns-then-is_held : goal.returns-then-is_held
returns-then-is_held c = λ marks. gives_nothing (λ _. c.is_held.ensures c.if-is_held.true)

pub returns : goal.returns
returns c =
    λ marks. gives_back (c.forget.ensures marks) c.last_used-r.ensures c.watch.ensures
