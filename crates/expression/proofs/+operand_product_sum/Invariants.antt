-- Depth first, then rank: each call has a smaller depth, or the same depth and a tighter rank. The loops of `product` and `sum`
-- read operator after operator; their measure is how many tokens are left.
use Rattle.std.proofs.Common.{◌+◌, ◌*◌, length}
use Rattle.token.specs.Scan.{tokens_at}
use Rattle.expression.specs.Operands.{operand_value}
use Rattle.expression.specs.Reading.{labels}
use Rattle.expression.proofs.Climb.{Climbing}
use Rattle.expression.proofs.+operand_product_sum.Given as goal

abbrev pub decreases-operand : goal.decreases-operand
decreases-operand l = l.depth * 8

abbrev pub decreases-product : goal.decreases-product
decreases-product l = l.depth * 8 + 1

abbrev pub decreases-sum : goal.decreases-sum
decreases-sum l = l.depth * 8 + (l.rank + 1)

abbrev pub invariant-product-loop-join : goal.invariant-product-loop-join
invariant-product-loop-join l = Climbing (operand_value (labels l.names)) l.text l.depth 0 1 1 (tokens_at l.text l.at) l.total

abbrev pub decreases-product-loop-join : goal.decreases-product-loop-join
decreases-product-loop-join l = length (tokens_at l.text l.total.next)

abbrev pub invariant-sum-loop-join : goal.invariant-sum-loop-join
invariant-sum-loop-join l = Climbing (operand_value (labels l.names)) l.text l.depth 1 l.rank l.low (tokens_at l.text l.at) l.total

abbrev pub decreases-sum-loop-join : goal.decreases-sum-loop-join
decreases-sum-loop-join l = length (tokens_at l.text l.total.next)
