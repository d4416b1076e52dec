-- The loop writes item after item; the measure is how many are left.
use Prim.Native.Nat.{◌-◌}
use Rattle.statement.specs.Table.{field_of}
use Rattle.listing.proofs.Items.{Writing}
use Rattle.listing.proofs.text.with_items.Given as goal

abbrev pub invariant-loop-at : goal.invariant-loop-at
invariant-loop-at l = Writing l.address l.i (field_of l.field) l.table l.from l.initial.written l.written l.at

abbrev pub decreases-loop-at : goal.decreases-loop-at
decreases-loop-at l = 6 - l.at
