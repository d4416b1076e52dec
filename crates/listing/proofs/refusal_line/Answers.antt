-- By k: the line, or what lies past it.
use Rattle.listing.proofs.Lines.{first_line_lem, no_other_line}
use Rattle.listing.proofs.refusal_line.Goals as goal

pub returns-then-k-eq0 : goal.returns-then-k-eq0
returns-then-k-eq0 c = first_line_lem _ c.if-k-eq0.true c.refused.ensures

pub returns-else-k-eq0 : goal.returns-else-k-eq0
returns-else-k-eq0 c = no_other_line _ c.if-k-eq0.false
