-- `follow` meets its contract.
use Rattle.std.proofs.Common.{sym, ◌∙◌, length-take-le}
use Rattle.verdict.proofs.HandedIn.{more_behind, off_the_list, on_the_list}
use Rattle.verdict.proofs.NextLaws.{explains_matrix, next_found}
use Rattle.verdict.proofs.following.follow.Goals as goal

pub returns-then-not-all_zero : goal.returns-then-not-all_zero
returns-then-not-all_zero c = more_behind _ _ _ c.count_members-k.ensures (sym c.all_zero.ensures ∙ c.if-not-all_zero.true)

pub slice_bounds-keeps-end : goal.slice_bounds-keeps-end
slice_bounds-keeps-end c = sym (length-take-le _ _ c.count_members-k.ensures.size)

pub returns-then-not-keeps : goal.returns-then-not-keeps
returns-then-not-keeps c =
    let q = c.requires in
    off_the_list _ _ _ c.count_members-k.ensures (explains_matrix _ q.0 q.1 q.2 q.3 _ ∙ sym c.keeps.ensures ∙ c.if-not-keeps.true)

pub slice_bounds-bring-end : goal.slice_bounds-bring-end
slice_bounds-bring-end c = sym (length-take-le _ _ c.count_members-k.ensures.size)

pub bring-requires : goal.bring-requires
bring-requires c = sym c.keeps.ensures ∙ c.if-not-keeps.false

pub returns : goal.returns
returns c =
    let split = c.count_members-k.ensures in
    let q = c.requires in (
      on_the_list _ _ _ split (sym c.all_zero.ensures ∙ c.if-not-all_zero.false) (explains_matrix _ q.0 q.1 q.2 q.3 _ ∙ sym c.keeps.ensures ∙ c.if-not-keeps.false),
      rw split.front (next_found _ q.0 q.1 q.2 q.3 c.bring.ensures),
    )
