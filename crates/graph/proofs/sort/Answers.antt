-- `sort` meets its contract.
use mathlib.Core.Path.{◌≡◌, sym, ◌∙◌}
use native.Mathlib.Omega.{arith}
use lib.ListN.{length}
use Rattle.words.specs.Lists.{zeros}
use Rattle.graph.proofs.Sized.{most}
use Rattle.graph.proofs.Answers.{sort_order, sort_cycle}
use borrow.Author.Rules.{rules}
use Rattle.graph.proofs.sort.Goals as goal

pub lay_down-placing-requires : goal.lay_down-placing-requires
lay_down-placing-requires c = omega (arith, most 128 c.args.m.now c.args.part)

pub returns-then-any : goal.returns-then-any
unfolding zeros
returns-then-any c = sort_cycle _ _ _ _ c.lay_down-placing.ensures.around c.cycle-count.ensures

pub returns : goal.returns
unfolding zeros
returns c =
    let size : length c.args.part ≡ 2 = search rules in
    sort_order _ _ size _ _ c.lay_down-placing.ensures (sym c.any.ensures ∙ c.if-any.false)
