-- `line_at` meets its contract: its four parts follow one another, or the first that is missing leaves no line.
use Rattle.text.specs.Bytes.{bytes}
use Rattle.text.proofs.Forms.{begins_not, goes_not_on, blank_apart, line_end_apart, tx_item, obj_item, from_item, op_free, tx_free, obj_free, no_parts, a_line, →step}
use Rattle.text.proofs.line.line_at.Goals as goal

pub returns-in_err-kind : goal.returns-in_err-kind
returns-in_err-kind c = rw c.from_residual.ensures (no_parts (begins_not c.in_err-kind.ensures))

pub item_at-requires : goal.item_at-requires
item_at-requires c = (c.in_ok-kind.ensures.1, blank_apart)

pub returns-in_err-tx : goal.returns-in_err-tx
unfolding tx_item bytes
returns-in_err-tx c =
    let k = c.in_ok-kind.ensures in
    rw c.from_residual-in_err-tx.ensures (no_parts (goes_not_on _ _ op_free k.0 k.2 (begins_not c.in_err-tx.ensures)))

pub item_at-requires-2 : goal.item_at-requires-2
item_at-requires-2 c = (c.in_ok-tx.ensures.1, blank_apart)

pub returns-in_err-obj : goal.returns-in_err-obj
unfolding tx_item obj_item bytes
returns-in_err-obj c =
    let k = c.in_ok-kind.ensures in
    let t = c.in_ok-tx.ensures in
    rw c.from_residual-in_err-obj.ensures (no_parts (goes_not_on _ _ op_free k.0 k.2 (goes_not_on _ _ tx_free t.0 t.2 (begins_not c.in_err-obj.ensures))))

pub item_at-requires-3 : goal.item_at-requires-3
item_at-requires-3 c = (c.in_ok-obj.ensures.1, line_end_apart)

pub returns-in_err-src : goal.returns-in_err-src
unfolding tx_item obj_item from_item bytes
returns-in_err-src c =
    let k = c.in_ok-kind.ensures in
    let t = c.in_ok-tx.ensures in
    let x = c.in_ok-obj.ensures in
    rw c.from_residual-in_err-src.ensures
    (no_parts
    (goes_not_on _ _ op_free k.0 k.2
    (goes_not_on _ _ tx_free t.0 t.2
    (goes_not_on _ _ obj_free x.0 x.2
    (begins_not c.in_err-src.ensures)))))

pub returns : goal.returns
unfolding tx_item obj_item from_item bytes
returns c =
    let k = c.in_ok-kind.ensures in
    let t = c.in_ok-tx.ensures in
    let x = c.in_ok-obj.ensures in
    let s = c.in_ok-src.ensures in
    (→step _ _ _ _ k.0 t.0 x.0 s.0, s.1, a_line _ _ _ _ _ k.2 t.2 x.2 s.2)
