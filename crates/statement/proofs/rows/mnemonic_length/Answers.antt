-- A mnemonic has at most six bytes.
use native.Mathlib.Omega.{arith}
use Rattle.statement.proofs.Tables.{short_row}
use Rattle.statement.proofs.rows.mnemonic_length.Goals as goal

pub overflow_cast-result : goal.overflow_cast-result
overflow_cast-result c = omega (arith, short_row c.args.row c.requires)
