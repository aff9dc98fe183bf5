-- `first_number` meets its contract.
use Rattle.std.proofs.Common.{◌≡◌, ◌∙◌, ℕ, List, sym, ap, get_or, arith}
use Rattle.std.proofs.lemmas.Result.{err_from_is_err_and}
use Rattle.verdict.specs.Log.{tx}
use Rattle.verdict.specs.Inner.Checking.{InRange, Lived, life}
use Rattle.verdict.proofs.Asking.{by_asked, passes_asked}
use Rattle.verdict.proofs.Lives.{life_passes, life_late}
use Rattle.verdict.proofs.Refused.{tried_refused, tried_passed}
use Rattle.verdict.proofs.WellFormed.{tx_within}
use Rattle.verdict.proofs.taking.first_number.Goals as goal

-- what the table says of the step's transaction
far : {log lives : List ℕ} {i : ℕ} → Lived log i lives → InRange log i → {t : ℕ} → t ≡ tx log i → get_or lives t 0 ≡ life log i (tx log i)
far {lives} lived within e = ap (λ (t : ℕ). get_or lives t 0) e ∙ lived.far _ (tx_within _ _ within).1

pub bounds-lives-from : goal.bounds-lives-from
bounds-lives-from c =
    let step = c.step_at-step.ensures in
    omega (arith, c.from.ensures, step.tx_is, (tx_within _ _ (passes_asked step c.requires.2 c.in_ok-in_range.ensures)).1)

pub returns-in_err-in_range : goal.returns-in_err-in_range
returns-in_err-in_range c =
    let p = err_from_is_err_and c.from_residual.result c.from_residual.ensures.1 in
    rw (p.1, p.2) (sym (tried_refused _ (sym (by_asked c.step_at-step.ensures c.requires.2 c.in_err-in_range.ensures))))

pub returns-then-life-asked : goal.returns-then-life-asked
unfolding InRange
returns-then-life-asked c =
    let step = c.step_at-step.ensures in
    let asks = c.requires.2 in
    let within = passes_asked step asks c.in_ok-in_range.ensures in
    sym (tried_passed _ within ∙ life_passes _ _ (sym (far c.requires.1 within (c.from.ensures ∙ step.tx_is)) ∙ c.if-life-asked.true ∙ asks.far))

pub returns : goal.returns
unfolding InRange
returns c =
    let step = c.step_at-step.ensures in
    let asks = c.requires.2 in
    let within = passes_asked step asks c.in_ok-in_range.ensures in
    sym (tried_passed _ within ∙ life_late _ _ (λ e. c.if-life-asked.false (far c.requires.1 within (c.from.ensures ∙ step.tx_is) ∙ e ∙ sym asks.far)) asks.number)
