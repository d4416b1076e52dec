-- Minus sign after minus sign; the measure is how many tokens are left.
use Rattle.std.proofs.Common.{length}
use Rattle.token.specs.Scan.{tokens_at}
use Rattle.expression.proofs.Leads.{Leading}
use Rattle.expression.proofs.prefix.lead_at.Given as goal

abbrev pub invariant-loop-negative : goal.invariant-loop-negative
invariant-loop-negative l = Leading l.text l.at l.negative l.first

abbrev pub decreases-loop-negative : goal.decreases-loop-negative
decreases-loop-negative l = length (tokens_at l.text l.first.end)
