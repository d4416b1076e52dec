-- A space and the register.
use Rattle.printing.proofs.Writing.{◌then◌}
use Rattle.report.proofs.lines.with_register.Goals as goal

pub returns : goal.returns
returns c = c.with_byte.ensures then c.with_hex.ensures
