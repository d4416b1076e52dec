-- Part after part of the line.
use Rattle.report.specs.Printed.{out_line}
use Rattle.printing.proofs.Writing.{◌then◌}
use Rattle.report.proofs.lines.with_out.Goals as goal

pub returns : goal.returns
unfolding out_line
returns c =
    c.with_word.ensures
    then c.with_decimal.ensures
    then c.with_byte.ensures
    then c.with_decimal-2.ensures
    then c.with_byte-2.ensures
    then c.with_hex.ensures
    then c.with_byte-3.ensures
