-- There are few lines.
use Rattle.std.proofs.Common.{arith}
use Rattle.listing.proofs.Lines.{few_lines}
use Rattle.panellist.proofs.main.Goals as goal

pub overflow_add-k : goal.overflow_add-k
overflow_add-k c = omega (arith, few_lines _ _ c.in-Some.ensures)
