-- `lay_member` meets its contract.
use Rattle.std.proofs.Common.{◌≡◌, ◌∙◌, ℕ, List, true, sym, ap, get_or, arith}
use Rattle.plan.specs.Inner.Marks.{marked}
use Rattle.plan.proofs.MarkLaws.{marked_no, marked_yes}
use Rattle.plan.proofs.Rising.{laid_not, laid_room, laid_more}
use Rattle.plan.proofs.laying.lay_member.Goals as goal

-- t is marked
is_marked : (marks : List ℕ) {t at : ℕ} → at ≡ t → (get_or marks at 0 ≡ 0 → ⊥) → marked marks t ≡ true
is_marked marks e h = marked_yes _ _ (λ z. h (ap (λ (n : ℕ). get_or marks n 0) e ∙ z))

pub returns-then-marks-from-eq0 : goal.returns-then-marks-from-eq0
returns-then-marks-from-eq0 c = laid_not _ _ _ _ c.requires.3 (marked_no _ _ (ap (λ (n : ℕ). get_or c.args.marks.now n 0) (sym c.from.ensures) ∙ c.if-marks-from-eq0.true))

pub offset_bounds-proposal-count : goal.offset_bounds-proposal-count
offset_bounds-proposal-count c = omega (arith, laid_room _ _ _ _ c.requires.3 (is_marked _ c.from.ensures c.if-marks-from-eq0.false) c.requires.1 c.requires.2)

pub bounds-proposal-count : goal.bounds-proposal-count
bounds-proposal-count c = laid_room _ _ _ _ c.requires.3 (is_marked _ c.from.ensures c.if-marks-from-eq0.false) c.requires.1 c.requires.2

pub overflow_add-result : goal.overflow_add-result
overflow_add-result c = omega (arith, laid_room _ _ _ _ c.requires.3 (is_marked _ c.from.ensures c.if-marks-from-eq0.false) c.requires.1 c.requires.2)

pub returns : goal.returns
returns c = laid_more _ _ _ _ c.requires.3 (is_marked _ c.from.ensures c.if-marks-from-eq0.false) c.requires.1 c.requires.2
