use Rattle.assembler.proofs.LineEnds.{NoNewline}
use Rattle.assembler.proofs.passes.line_end.Given as goal

abbrev pub invariant-loop-i : goal.invariant-loop-i
invariant-loop-i l = NoNewline l.text l.at l.i
