-- Part after part of the line.
use Rattle.report.specs.Printed.{pc_line}
use Rattle.printing.proofs.Writing.{◌then◌}
use Rattle.report.proofs.lines.with_pc.Goals as goal

pub returns : goal.returns
unfolding pc_line
returns c = c.with_word.ensures then c.with_hex.ensures then c.with_byte.ensures
