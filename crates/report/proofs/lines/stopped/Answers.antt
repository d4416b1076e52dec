-- Line after line, for which the array has room.
use native.Mathlib.Omega.{arith}
use Rattle.report.specs.Printed.{stopped_lines}
use Rattle.printing.proofs.Writing.{◌then◌, wrote_held}
use Rattle.report.proofs.lines.stopped.Goals as goal

pub returns : goal.returns
unfolding stopped_lines
returns c =
    wrote_held c.empty.ensures
    (c.with_run-run.ensures
    then c.with_outs-outs.ensures
    then c.with_pc.ensures
    then c.with_registers.ensures)
    (omega (arith, c.requires))
