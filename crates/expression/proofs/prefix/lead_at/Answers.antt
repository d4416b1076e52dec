-- Minus sign after minus sign.
use Rattle.std.proofs.Common.{sym, ◌∙◌}
use Rattle.expression.proofs.Leads.{lead_end}
use Rattle.expression.proofs.prefix.lead_at.Goals as goal

pub returns-in_err-first-2 : goal.returns-in_err-first-2
returns-in_err-first-2 c =
    rw c.from_residual-in_err-first-2.ensures (lead_end c.loop-negative.invariant (sym c.is.ensures ∙ c.loop-negative-test.true) c.in_err-first-2.ensures)
