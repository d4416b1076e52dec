-- By the rank of the token at the position.
use Rattle.std.proofs.Common.{arith}
use Rattle.expression.proofs.After.{no_token, no_operator, other_rank}
use Rattle.expression.proofs.operator_at.Goals as goal
use Rattle.expression.proofs.operator_at.Goals.{else-low-rank-via-then-low-rank+else-rank-high, else-low-rank-via-else-low-rank}

pub returns-in_err-t : goal.returns-in_err-t
returns-in_err-t c = rw c.from_residual.ensures (no_token _ _ _ _ c.in_err-t.ensures c.requires)

pub returns-in_err-operator : goal.returns-in_err-operator
returns-in_err-operator c = rw c.from_residual-in_err-operator.ensures (no_operator _ _ _ c.in_ok-t.ensures _ _ c.in_err-operator.ensures c.requires)

pub returns : goal.returns
returns c =
    other_rank _ _ _ c.in_ok-t.ensures _ c.in_ok-operator.ensures _ _
    (λ l h. elim c.else-low-rank.branch [
      | else-low-rank-via-then-low-rank+else-rank-high w ↦ omega (arith, c.rank-rank.ensures, w.if-rank-high.false)
      | else-low-rank-via-else-low-rank w ↦ omega (arith, c.rank-rank.ensures, w.if-low-rank.false)
    ])
