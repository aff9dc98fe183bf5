-- `may_go` meets its contract.
use mathlib.Core.Path.{sym, ◌∙◌}
use Rattle.live.proofs.RoomSteps.{not_done, held_open, held_edge, goes_free}
use Rattle.live.proofs.room.may_go.Goals as goal

pub returns-then-status-ne-DONE : goal.returns-then-status-ne-DONE
returns-then-status-ne-DONE c = not_done _ _ _ _ (λ e. c.if-status-ne-DONE.true (c.status.ensures ∙ e))

pub returns-then-is_overlapped : goal.returns-then-is_overlapped
returns-then-is_overlapped c = held_open _ _ _ _ (sym c.if-is_overlapped.true ∙ c.is_overlapped.ensures)

pub returns-then-any : goal.returns-then-any
returns-then-any c = held_edge _ _ _ _ _ c.lent_row.ensures (sym c.if-any.true ∙ c.any.ensures)

pub returns : goal.returns
returns c =
    goes_free _ _ _ _ _ c.lent_row.ensures (sym c.status.ensures ∙ c.if-status-ne-DONE.false) (sym c.if-is_overlapped.false ∙ c.is_overlapped.ensures) (sym c.if-any.false ∙ c.any.ensures)
