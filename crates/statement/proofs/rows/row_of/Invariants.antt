-- Row after row is passed.
use Rattle.statement.proofs.Search.{Searching}
use Rattle.statement.proofs.rows.row_of.Given as goal

abbrev pub invariant-loop-k : goal.invariant-loop-k
invariant-loop-k l = Searching l.word l.k
