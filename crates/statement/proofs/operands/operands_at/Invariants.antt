-- Item after item is read.
use Rattle.token.specs.Scan.{tokens_at}
use Rattle.statement.specs.Parts.{expression_of}
use Rattle.statement.proofs.Items.{Taking}
use Rattle.statement.proofs.operands.operands_at.Given as goal

abbrev pub invariant-loop-item : goal.invariant-loop-item
invariant-loop-item l = Taking (expression_of l.names) l.items l.text (tokens_at l.text l.at) l.item-index l.taken
