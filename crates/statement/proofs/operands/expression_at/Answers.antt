-- By what `value_at` reads.
use Rattle.statement.specs.Parts.{shown_parts, told_parts, expression_of}
use Rattle.statement.proofs.Items.{value_there, no_value}
use Rattle.statement.proofs.operands.expression_at.Goals as goal

pub returns-in_err-p : goal.returns-in_err-p
unfolding told_parts expression_of
returns-in_err-p c = rw c.from_residual.ensures (no_value _ (shown_parts c.args.t.parts) c.in_err-p.ensures)

pub returns : goal.returns
unfolding told_parts expression_of
returns c = value_there _ (shown_parts c.args.t.parts) _ c.in_ok-p.ensures
