-- By whether a kind has that number.
use Rattle.std.proofs.Common.{◌∙◌, ap, arith}
use Rattle.kinds.specs.Kinds.{kind_number}
use Rattle.statement.proofs.Tables.{kind_row}
use Rattle.statement.proofs.rows.operation_at.Goals as goal

pub returns-in-Ok : goal.returns-in-Ok
returns-in-Ok c = ap kind_number c.in-Ok.ensures.1 ∙ kind_row _ c.in-Ok.ensures.0

pub returns-in-Err : goal.returns-in-Err
returns-in-Err c = let e = c.in-Err.ensures in omega (arith, e.0)
