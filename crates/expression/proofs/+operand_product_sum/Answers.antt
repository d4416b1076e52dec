-- Each answer is a step of the reading (`Begun` and `Climb`).
use Rattle.std.proofs.Common.{sym, ◌∙◌}
use Rattle.expression.proofs.Begun.{lead_refused, lead_signed, begun_refused, begun_closed}
use Rattle.expression.proofs.Climb.{one_rank, climb_refuses, climb_stops, less}
use Rattle.expression.proofs.+operand_product_sum.Goals as goal

pub operand-returns-in_err-inner : goal.operand-returns-in_err-inner
operand-returns-in_err-inner t c =
    let d = c.in_ok-checked_sub.ensures in
    rw c.from_residual-in_err-inner.ensures
    (lead_refused _ _ _ c.in_ok-lead.ensures (begun_refused _ _ _ c.in_ok-lead.lead.first (sym c.is.ensures ∙ c.if-is.true) d.0 d.1 c.in_err-inner.ensures))

pub operand-returns-then-is : goal.operand-returns-then-is
operand-returns-then-is t c =
    let d = c.in_ok-checked_sub.ensures in
    lead_signed _ _ _ c.in_ok-lead.ensures _ _
    (c.in_ok-closed.ensures ∙ begun_closed _ _ _ c.in_ok-lead.lead.first (sym c.is.ensures ∙ c.if-is.true) d.0 d.1 _ c.in_ok-inner.ensures) c.signed.ensures

pub product-returns-in_err-right : goal.product-returns-in_err-right
product-returns-in_err-right t c =
    rw c.from_residual-in_err-right.ensures (climb_refuses c.loop-join.invariant c.in-Some.ensures (one_rank c.in-Some.ensures) c.in_err-right.ensures)

pub product-loop-join-smaller : goal.product-loop-join-smaller
product-loop-join-smaller t c = less c.loop-join.invariant c.in-Some.ensures (one_rank c.in-Some.ensures) _ c.in_ok-right.ensures

pub product-returns : goal.product-returns
product-returns t c = climb_stops c.loop-join.invariant c.in_default.ensures

pub sum-returns-in_err-right : goal.sum-returns-in_err-right
sum-returns-in_err-right t c =
    rw c.from_residual-in_err-right.ensures (climb_refuses c.loop-join.invariant c.in-Some.ensures c.rank-low.ensures c.in_err-right.ensures)

pub sum-loop-join-smaller : goal.sum-loop-join-smaller
sum-loop-join-smaller t c = less c.loop-join.invariant c.in-Some.ensures c.rank-low.ensures _ c.in_ok-right.ensures

pub sum-returns : goal.sum-returns
sum-returns t c = climb_stops c.loop-join.invariant c.in_default.ensures
