-- The token is read byte after byte.
use Rattle.token.proofs.Scanning.{Reading}
use Rattle.token.proofs.row_end.Given as goal

abbrev pub invariant-loop-i : goal.invariant-loop-i
invariant-loop-i l = Reading l.text l.start l.i
