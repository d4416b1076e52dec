-- The numbers before the place are printed.
use Rattle.std.proofs.Common.{take}
use Rattle.std.specs.Io.KnownBytes.{Appends}
use Rattle.player.specs.Print.{fields}
use Rattle.player.proofs.print.fields.Given as goal

abbrev pub invariant-loop-n : goal.invariant-loop-n
invariant-loop-n g l = Appends (g.W.Write.contents l.fn.out) (g.W.Write.contents l.out) (fields (take l.n-index l.numbers))
