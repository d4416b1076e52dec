-- Part after part of the line, for which the array has room.
use native.Mathlib.Omega.{arith}
use Rattle.report.specs.Printed.{refused_line}
use Rattle.printing.proofs.Writing.{◌then◌, wrote_held}
use Rattle.report.proofs.refused.Goals as goal

pub returns : goal.returns
unfolding refused_line
returns c =
    wrote_held c.empty.ensures
    (c.with_word.ensures
    then (rw c.from-number.ensures at c.with_decimal.ensures)
    then c.with_byte.ensures)
    (omega arith)
