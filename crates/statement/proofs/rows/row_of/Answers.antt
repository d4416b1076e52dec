-- Row after row is passed.
use mathlib.Core.Path.{ap}
use native.Mathlib.Omega.{arith}
use lib.ListN.{length}
use Rattle.statement.proofs.Tables.{short_row}
use Rattle.statement.proofs.rows.row_of.Goals as goal

pub overflow_add-to : goal.overflow_add-to
overflow_add-to c = omega (arith, short_row c.loop-k.k c.loop-k-test.true, c.mnemonic_length.ensures)

pub slice_bounds-same_bytes-end : goal.slice_bounds-same_bytes-end
slice_bounds-same_bytes-end c = omega (arith, ap length c.requires, short_row c.loop-k.k c.loop-k-test.true, c.mnemonic_length.ensures)
