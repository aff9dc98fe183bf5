-- `look_at` meets its contract.
use mathlib.Core.Path.{refl, sym, ◌∙◌}
use Rattle.words.proofs.Truth.{not_both}
use Rattle.live.proofs.room.look_at.Goals as goal

pub returns-then-not-may_go : goal.returns-then-not-may_go
returns-then-not-may_go c = record { stays = λ _. (refl, refl, refl); goes = λ e. absurd (not_both e (sym c.may_go.ensures ∙ c.if-not-may_go.true)) }

pub returns : goal.returns
returns c =
    record { stays = λ e. absurd (not_both (sym c.may_go.ensures ∙ c.if-not-may_go.false) e); goes = λ _. (c.free_row.ensures, c.leave.ensures, refl) }
