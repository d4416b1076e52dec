-- Place by place, a block at a time where nothing is counted.
use Prim.Native.Nat.{◌*◌}
use Rattle.places.proofs.Folding.{Folding}
use Rattle.places.proofs.fold.Given as goal

abbrev pub invariant-loop-block : goal.invariant-loop-block
invariant-loop-block l = Folding l.counts (l.block * 64) l.usage

abbrev pub invariant-loop-place : goal.invariant-loop-place
invariant-loop-place l = Folding l.counts l.place l.usage
