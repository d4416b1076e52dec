-- Line after line: what stands at each beginning is `Scanning`, and `Writing` where no line is turned away.
use Prim.Native.Nat.{◌-◌, ◌≤◌}
use mathlib.Core.Bool.{false}
use mathlib.Core.Path.{◌≡◌}
use lib.ListN.{length}
use Rattle.assembler.specs.Passes.{Fine}
use Rattle.assembler.proofs.Scanning.{Scanning}
use Rattle.assembler.proofs.Writing.{Writing}
use Rattle.assembler.proofs.passes.pass.Given as goal

abbrev pub invariant-loop-p : goal.invariant-loop-p
invariant-loop-p l = Scanning l.long l.text l.names l.at l.p l.table
    × (l.long ≡ false → Fine l.text l.names l.initial.program → Writing l.text l.names l.initial.program l.at l.address l.program)
    × (length l.program ≡ length l.initial.program)
    × (l.address ≤ 65536)

abbrev pub decreases-loop-p : goal.decreases-loop-p
decreases-loop-p l = length l.text - l.at
